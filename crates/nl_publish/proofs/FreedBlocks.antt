-- Why no reader reaches a block that is freed.
use Rattle.std.proofs.Common.{◌≡◌, ℕ, ◌+◌, ◌*◌, ◌<◌, ◌≤◌, Bool, true, false, List, [], ◌∷◌, fold, Option, Some, None, refl, ap, sym, ◌∙◌, subst, arith, inl, inr}
use Rattle.std.specs.Prelude.{IsSome, nat_le, nat_lt}
use Rattle.std.specs.Option.{option_map}
use Rattle.std.proofs.Math.Nat.{mul-le-mul_right}
use Rattle.std.proofs.lemmas.Bool.{and_parts, cases_lt, leb-true, ltb-true}
use mathlib.Core.List.{IsPrefix}
use Rattle.nl_types.specs.declared.segment.SegmentInfo.{SegmentInfo}
use Rattle.nl_types.specs.Blocks.Entries.{Entry, Place}
use Rattle.nl_types.specs.Blocks.Segments.{AreTidy, IsUsed, Segments, clean_info, info_of, is_clean}
use Rattle.nl_types.specs.Blocks.Roots.{Pages}
use Rattle.nl_types.specs.Facts.SegmentChanges.{room_of, tidy_at}
use Rattle.nl_layout.specs.Root.{root_of}
use Rattle.nl_vstore.specs.Stores.{IsStore, Numbered, Store, address_in, block_now, entry_now, is_inside, numbered_in}
use Rattle.nl_files.specs.Facts.Staying.{root-sound}
use Rattle.nl_cpfile.specs.Tables.{checkpoint_root, kept_at}
use Rattle.nl_cpfile.specs.declared.checkpoint.Checkpoint.{Checkpoint}
use Rattle.nl_commit.specs.Commits.{AllNext, IsHistory, IsShownState, IsNext, applied, shown_after}
use Rattle.nl_commit.specs.Layout.{Layout, layout_pages, ledger_of, reached_by}
use Rattle.nl_commit.specs.Notes.{shown_of}
use Rattle.nl_commit.specs.Shown.{Shown, mounted_on, nothing, pages_shown}
use Rattle.nl_commit.specs.declared.commit.Commit.{Commit}
use Rattle.nl_commit.specs.Facts.ShownNumbers.{pages-shown}
use Rattle.nl_publish.specs.Locks.{HeldPen, IsSoundState}
use Rattle.nl_publish.specs.ReadPages.{IsKept, IsMounted, MayRead, ReadPagesStand, ReadPagesStay, RetirementsSpareReadPages, Stands, StillHas}
use Rattle.nl_publish.specs.Facts.CachedPages.{behind, kept_low}
use Rattle.nl_publish.specs.Facts.Growing.{fold-grows}
use Rattle.nl_publish.specs.Facts.Staying.{history_state, mount_is_same, rest_of}

-- ---- the page is in the state itself

some-of : (o : Option (List ℕ)) → IsSome o → (page : List ℕ) × (o ≡ Some page)
some-of (Some page) some = (page, refl)
some-of None some = absurd cc

page-in : (x : Shown) (n v : ℕ) → IsShownState x → MayRead x n v
    → (page : List ℕ) × (pages_shown x v ≡ Some page)
page-in x n v state reads =
    let root = root_of (checkpoint_root reads.checkpoint) in
    let tree = state.trees n reads.checkpoint reads.kept in
    let place = reads.place in
    some-of (pages_shown x v)
    ((root-sound (pages_shown x) root tree.sound place.inode).stored place.level place.offset v reads.reached)

-- ---- along a history

-- a checkpoint has the number at a place, and the page is under it
record IsAt (q : Place) (v : ℕ) (page : List ℕ) (y : Shown) (c : Checkpoint) : Type 0 where
  reached : reached_by (pages_shown y) c q ≡ Some v
  shown : pages_shown y v ≡ Some page

module _ (n v : ℕ) (q : Place) (page : List ℕ) where
  -- so it is with checkpoint n, where the state keeps it
  record HasAt (y : Shown) : Type 0 where
    given : n ≤ y.table.latest.number
    at : (c : Checkpoint) → kept_at n y.table ≡ Some c → IsAt q v page y c

  at_step : (y : Shown) (c : Commit) → IsNext y c → HasAt y → HasAt (applied y c)
  at_step y c next has =
      let here = behind y c n has.given next in
      record {
        given = let given = has.given in let more = here.latest in omega (arith, given, more);
        at = λ d is.
            let was = here.kept d is in
            let old = has.at was.0 was.1 in
            let keeps = next.keeps n was.0 d was.1 is in
            record {
              reached = ap (λ (numbers : Place → Option ℕ). numbers q) keeps.places ∙ old.reached;
              shown = keeps.pages q v old.reached ∙ old.shown;
            };
      }

  at_all : (y : Shown) (more : List Commit) → AllNext y more → HasAt y → HasAt (fold applied y more)
  at_all y [] next has = has
  at_all y (c ∷ more) next has = at_all (applied y c) more next.1 (at_step y c next.0 has)

-- a history goes on from another
record GoesOn (log later : List Commit) : Type 0 where
  more : List Commit
  next : AllNext (shown_after log) more
  at : fold applied (shown_after log) more ≡ shown_after later

goes_on : (log later : List Commit) → IsHistory log → IsHistory later → IsPrefix log later → GoesOn log later
goes_on log later began history prefix = record {
  more = prefix.0;
  next = rest_of log prefix.0 (subst IsHistory (sym prefix.1) history) began;
  at = sym (fold-grows nothing log prefix.0) ∙ ap shown_after prefix.1;
}

module _ (log later : List Commit) (n v : ℕ) (began : IsHistory log) (history : IsHistory later)
    (prefix : IsPrefix log later) (reads : MayRead (shown_after log) n v) where
  abbrev x : Shown
  x = shown_after log

  abbrev y : Shown
  y = shown_after later

  on : GoesOn log later
  on = goes_on log later began history prefix

  abbrev page : List ℕ
  page = (page-in x n v (history_state log began) reads).0

  page-is : pages_shown x v ≡ Some page
  page-is = (page-in x n v (history_state log began) reads).1

  has_at : HasAt n v reads.place page x
  has_at = record {
    given =
        kept_low x.table.earlier x.table.latest (history_state log began).table.rising n reads.checkpoint
        reads.kept;
    at = λ c is.
        let kept = reads.kept in
        let same : c ≡ reads.checkpoint = cc (is, kept) in
        record {
          reached =
              ap (λ (d : Checkpoint). reached_by (pages_shown x) d reads.place) same ∙ reads.reached;
          shown = page-is;
        };
  }

  has_later : HasAt n v reads.place page y
  has_later =
      subst (HasAt n v reads.place page) on.at (at_all n v reads.place page x on.more on.next has_at)

  -- the checkpoint is kept as long as it is had
  kept_still : StillHas x y n → (c : Checkpoint) × (kept_at n y.table ≡ Some c)
  kept_still (IsKept c is) = (c, is)
  kept_still (IsMounted m k was is) =
      let c = (history_state later history).mounted m k is in
      let same : k ≡ n =
      mount_is_same x on.more m n k (history_state log began) on.next was
      (subst (λ (z : Shown). mounted_on z m ≡ Some k) (sym on.at) is) in
      (c.0, subst (λ (i : ℕ). kept_at i y.table ≡ Some c.0) same c.1)

  at_later : (has : StillHas x y n) → IsAt reads.place v page y (kept_still has).0
  at_later has = has_later.at (kept_still has).0 (kept_still has).1

-- ---- in the store

-- a block lies in one segment
in_one : (blocks i j b : ℕ) → i * blocks ≤ b → b < i * blocks + blocks → j * blocks ≤ b
    → b < j * blocks + blocks → i ≡ j
in_one blocks i j b low_i high_i low_j high_j = elim (cases_lt i j) [
  | inl below ↦
      absurd (let m : (i + 1) * blocks ≤ j * blocks = mul-le-mul_right blocks (omega (arith, below)) in
      omega (arith, m, high_i, low_j))
  | inr above ↦ elim (cases_lt j i) [
    | inl below ↦
        absurd (let m : (j + 1) * blocks ≤ i * blocks = mul-le-mul_right blocks (omega (arith, below)) in
        omega (arith, m, low_i, high_j))
    | inr below ↦ omega (arith, above, below)
  ]
]

-- a segment that has a used block isn't free
not_clean : (s : Segments) (segment b : ℕ) → AreTidy s → IsUsed s b → is_inside s segment (Some b) ≡ true
    → is_clean (info_of s.each segment).state ≡ false
not_clean s segment b tidy (place, at, used) inside =
    by (is_clean (info_of s.each segment).state) refl
  where
    same : place.segment ≡ segment
    same =
        let parts =
        and_parts (nat_le (segment * s.blocks) b) (nat_lt b (segment * s.blocks + s.blocks)) inside in
        let low = leb-true (segment * s.blocks) b parts.0 in
        let high = ltb-true b (segment * s.blocks + s.blocks) parts.1 in
        let room = room_of s.blocks s.each tidy.each place.segment in
        in_one s.blocks place.segment segment b (omega (arith, at)) (omega (arith, at, used, room)) low high

    by : (free : Bool) → is_clean (info_of s.each segment).state ≡ free
        → is_clean (info_of s.each segment).state ≡ false
    by false is = is
    by true is =
        let none : info_of s.each place.segment ≡ clean_info =
        ap (λ (i : ℕ). info_of s.each i) same ∙ (tidy_at s.blocks s.each tidy.each segment).clean is in
        let few : place.block < 0 = subst (λ (i : SegmentInfo). place.block < i.used) none used in
        absurd (omega (arith, few))

-- what a store has under a number whose page is known
record IsNumbered (s : Store) (v : ℕ) (page : List ℕ) : Type 0 where
  number : Numbered
  is : numbered_in s v ≡ Some number
  page_is : number.entry.page ≡ page

numbered-of : (s : Store) (v : ℕ) (page : List ℕ) (o : Option Numbered) → numbered_in s v ≡ o
    → option_map (λ (e : Entry). e.page) (option_map entry_now o) ≡ Some page → IsNumbered s v page
numbered-of s v page None is at = let no : ◌≡◌ {A = Option (List ℕ)} None (Some page) = at in absurd cc
numbered-of s v page (Some k) is at =
    let one : Some k.entry.page ≡ Some page = at in record { number = k; is = is; page_is = cc }

stands : (l : Layout) (v : ℕ) (page : List ℕ) → IsStore l.store → layout_pages l v ≡ Some page
    → Stands l.store v page
stands l v page store is =
    let has = numbered-of l.store v page (numbered_in l.store v) refl is in
    let block = has.number.block in
    let address : address_in l.store v ≡ Some block = ap (option_map block_now) has.is in
    record {
      block = block;
      address = address;
      on_device = store.on_device v has.number has.is ∙ ap Some has.page_is;
      own = λ w other. store.apart w v block other address;
      unfreed = λ segment inside.
          not_clean l.store.segments segment block store.limits.tidy (store.used v block address) inside;
    }

-- ---- under the lock

module _ (h : HeldPen) (log : List Commit) (n v : ℕ) (sound : IsSoundState h) (history : IsHistory log)
    (prefix : IsPrefix log h.history) (reads : MayRead (shown_after log) n v)
    (has : StillHas (shown_after log) (shown_of h.layout) n) where
  abbrev l : Layout
  l = h.layout

  abbrev page-read : List ℕ
  page-read = (page-in (shown_after log) n v (history_state log history) reads).0

  has_in : StillHas (shown_after log) (shown_after h.history) n
  has_in = subst (λ (y : Shown). StillHas (shown_after log) y n) sound.told.shown has

  -- what the pen has of the checkpoint
  record IsInPen : Type 0 where
    checkpoint : Checkpoint
    kept : kept_at n l.lists.table ≡ Some checkpoint
    at : IsAt reads.place v page-read (shown_of l) checkpoint

  in_pen : IsInPen
  in_pen =
      let kept = kept_still log h.history n v history sound.told.history prefix reads has_in in
      record {
        checkpoint = kept.0;
        kept = subst (λ (y : Shown). kept_at n y.table ≡ Some kept.0) (sym sound.told.shown) kept.1;
        at =
            subst (λ (y : Shown). IsAt reads.place v page-read y kept.0) (sym sound.told.shown)
            (at_later log h.history n v history sound.told.history prefix reads has_in);
      }

  page-held : layout_pages l v ≡ Some page-read
  page-held = sym (ap (λ (pages : Pages). pages v) (pages-shown l)) ∙ in_pen.at.shown

  -- the pen's ledger has the checkpoint, and the number at the place
  kept-in : (ledger_of l).kept n ≡ Some (reached_by (layout_pages l) in_pen.checkpoint)
  kept-in = ap (option_map (reached_by (layout_pages l))) in_pen.kept

  reached-in : reached_by (layout_pages l) in_pen.checkpoint reads.place ≡ Some v
  reached-in =
      subst (λ (pages : Pages). reached_by pages in_pen.checkpoint reads.place ≡ Some v) (pages-shown l)
      in_pen.at.reached

pub read_pages_stand : ReadPagesStand
read_pages_stand h log n v sound history prefix reads =
    let page = page-in (shown_after log) n v (history_state log history) reads in
    record {
      page = page.0;
      shown = page.1;
      stands = λ has.
          stands h.layout v page.0 sound.pen.sound.store
          (page-held h log n v sound history prefix reads has);
    }

pub retirements_spare_read_pages : RetirementsSpareReadPages
retirements_spare_read_pages old new segment answer log n v sound history prefix reads has goes =
    let pen = in_pen old log n v sound history prefix reads has in
    goes.runs.1.does.becomes.unreached n v reads.place (reached_by (layout_pages old.layout) pen.checkpoint)
    (kept-in old log n v sound history prefix reads has)
    (reached-in old log n v sound history prefix reads has)

pub read_pages_stay : ReadPagesStay
read_pages_stay log later n v began history prefix reads has =
    (at_later log later n v began history prefix reads has).shown
    ∙ sym (page-in (shown_after log) n v (history_state log began) reads).1
