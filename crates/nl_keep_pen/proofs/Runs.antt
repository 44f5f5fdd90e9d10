-- What is kept over many runs.
use Rattle.std.proofs.Common.{◌≡◌, ℕ, ◌≤◌, true, List, [], ◌∷◌, Option, None, Some, refl, sym, ap, ◌∙◌, subst, inl, inr, is_some, max, arith}
use Rattle.std.proofs.lemmas.Option.{same_Some}
use Rattle.std.specs.FinMap.{is_sorted}
use Rattle.std.specs.Ordering.{nat_cmp}
use Rattle.nl_types.specs.Plain.Trees.{Tree}
use Rattle.nl_types.specs.Plain.Worlds.{World, Copy, copy_at, latest, latest_stamp}
use Rattle.nl_image.specs.Laws.{PresentMarkStays}
use Rattle.nl_image.specs.Parts.{with_present_mark}
use Rattle.nl_commit.specs.Volume.{kept_by}
use Rattle.nl_core.specs.PenImages.{ImagesMeanOneWorld}
use Rattle.nl_keep.specs.Lasting as keep
use Rattle.nl_keep.specs.Lasting.{ForgetsKeepOthers, ForgottenAreEarlier, OnlyTidies, StoresKeepCopies}
use Rattle.nl_keep.specs.Facts.StoredTrees.{stored_is_kept}
use Rattle.nl_keep.specs.Stored.{snapshot_of}
use Rattle.nl_keep_pen.specs.Images.{ImageMeans, ReadsFromImage, SameBut}
use Rattle.nl_keep_pen.specs.Runs.{BackupsComeBack, BackupsKeepThrough, ForgetsKeepThrough, ForgottenAreGone, ImagesHaveThePresentMark, IsStillKept, KeepThrough, SnapshotsHaveTheMoment}

pub present_mark : PresentMarkStays → ImagesHaveThePresentMark
present_mark stays image w from = stays from.layout.store (kept_by from.layout.lists) image from.is_image

-- ---- one run

pub backups_keep_through : StoresKeepCopies → BackupsKeepThrough
backups_keep_through keeps moment k n tree old new stores w from =
    let d = stores w from in (
      d.1,
      (λ kept_tree here. record {
        copy = here.copy;
        kept =
            keeps moment k n tree here.copy d.3.ready d.1 d.3.stores
            (d.3.tidies.keeps n here.copy (sym (ap (λ (x : World). copy_at x n) d.2) ∙ here.kept) here.own);
        has = here.has;
        own = here.own;
      }),
      d.4,
    )

pub forgets_keep_through : ForgetsKeepOthers → ForgetsKeepThrough
forgets_keep_through others moment n numbers old new forgets apart w from =
    let d = forgets w from in
    let sorted =
    subst (λ (x : World). is_sorted nat_cmp x.copies ≡ true) d.2 from.means.world.numbers_rise in (
      d.1,
      (λ tree here. record {
        copy = here.copy;
        kept =
            d.3.tidies.keeps n here.copy
            (others numbers n here.copy d.0 d.3.left sorted d.3.forgets apart
            (sym (ap (λ (x : World). copy_at x n) d.2) ∙ here.kept) here.own)
            here.own;
        has = here.has;
        own = here.own;
      }),
      d.4,
    )

-- ---- what an image means

-- worlds of one image differ in how many mount numbers were given
same_of_image : ImagesMeanOneWorld → (image : List ℕ) (w v : World) → ImageMeans image w → ImageMeans image v
    → SameBut w v
same_of_image one image w v first other =
    one first.layout other.layout image w v first.pen other.pen first.is_image other.is_image first.closed
    other.closed first.means other.means

-- what is gone behind the latest one is gone once that is tidied
still_gone : (moment n : ℕ) (left new : World) → OnlyTidies moment left new → n ≤ latest left
    → copy_at left n ≡ None → copy_at new n ≡ None
still_gone moment n left new tidies low gone = by (copy_at new n) refl
  where
    by : (o : Option Copy) → copy_at new n ≡ o → o ≡ None
    by None at = refl
    by (Some copy) at = elim (tidies.news n copy at) [
      | inl there ↦ let no : ◌≡◌ {A = Option Copy} (Some copy) None = sym there ∙ gone in cc
      | inr made ↦ let behind = made.behind in absurd (omega (arith, low, behind))
    ]

pub gone_from_image : ImagesMeanOneWorld → ForgottenAreEarlier → keep.ForgottenAreGone → ForgottenAreGone
gone_from_image one earlier gone moment n numbers old new w after forgets from among means =
    let d = forgets w from in
    let sorted =
    subst (λ (x : World). is_sorted nat_cmp x.copies ≡ true) d.2 from.means.world.numbers_rise in
    let kept =
    subst (λ (x : World). is_some (copy_at x (latest x)) ≡ true) d.2 from.means.world.latest_kept in
    let order = earlier numbers n d.0 d.3.left sorted kept d.3.forgets in
    let last = order.0 in
    let low = order.1 among in
    ap (λ (x : World). copy_at x n) (same_of_image one new after d.1 means d.4)
    ∙ still_gone moment n d.3.left d.1 d.3.tidies (omega (arith, last, low))
    (gone numbers n d.0 d.3.left d.3.forgets among)

pub snapshot_kept : ImagesMeanOneWorld → SnapshotsHaveTheMoment
snapshot_kept one moment n tree old new w after stores from means =
    let d = stores w from in
    let earlier : latest_stamp w ≡ latest_stamp d.0 = ap latest_stamp d.2 in
    let first = d.3.tidies.later in
    let second = d.3.tidies.stamp in
    let same : max moment (latest_stamp d.3.ready) ≡ max moment (latest_stamp w) =
    omega (arith, earlier, first, second) in
    ap (λ (x : World). copy_at x n) (same_of_image one new after d.1 means d.4)
    ∙ stored_is_kept moment n tree d.3.ready d.1 d.3.stores ∙ ap (λ k. Some (snapshot_of tree k)) same

-- ---- many runs

come_through : ImagesHaveThePresentMark → (n : ℕ) (tree read : Tree) (image last : List ℕ)
    (images : List (List ℕ)) (w : World) → ImageMeans image w → IsStillKept n tree w
    → KeepThrough n image images last → ReadsFromImage n read last → read ≡ tree
come_through marked n tree read image last [] w from here run reads =
    let present : with_present_mark last ≡ image = ap with_present_mark run ∙ marked image w from in
    let found = reads w (subst (λ (bytes : List ℕ). ImageMeans bytes w) (sym present) from) in
    let one : found.copy ≡ here.copy = same_Some found.copy here.copy (sym found.kept ∙ here.kept) in
    sym found.has ∙ ap (λ (c : Copy). c.tree) one ∙ here.has
come_through marked n tree read image last (next ∷ images) w from here run reads =
    let d =
    run.0 w (subst (λ (bytes : List ℕ). ImageMeans bytes w) (sym (marked image w from)) from) in
    come_through marked n tree read next last images d.0 d.2 (d.1 tree here) run.1 reads

pub backups_come_back : ImagesHaveThePresentMark → BackupsComeBack
backups_come_back marked moment n tree read old first last images w from stores run reads =
    let d = stores w from in
    let here : IsStillKept n tree d.1 = record {
      copy = snapshot_of tree (max moment (latest_stamp d.3.ready));
      kept = stored_is_kept moment n tree d.3.ready d.1 d.3.stores;
      has = refl;
      own = refl;
    } in
    come_through marked n tree read first last images d.1 d.4 here run reads
