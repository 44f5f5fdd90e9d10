-- What inodes tell of the files of two checkpoints.
use Rattle.std.proofs.Common.{◌≡◌, ◌⊎◌, ℕ, Bool, true, false, List, Option, None, Some, Ok, Err, refl, sym, ap, ◌∙◌, subst, inl, inr}
use Rattle.std.specs.Prelude.{◌↔◌, IsTrue}
use Rattle.std.specs.Option.{ok_or, option_map}
use mathlib.Core.HLevel.{⊥_prop}
use Rattle.std.proofs.Math.Logic.{∥∥₁_elim}
use Rattle.std.proofs.lemmas.Option.{same_Some}
use Rattle.nl_types.specs.declared.error.VolError.{VolError}
use Rattle.nl_types.specs.declared.error.VolError.TheVariants.{NoCheckpoint}
use Rattle.nl_types.specs.declared.reply.Object.TheVariants.{File}
use Rattle.nl_types.specs.declared.row.Row.{Row}
use Rattle.nl_types.specs.Plain.Paths.{Path}
use Rattle.nl_types.specs.Plain.Rows.{kept_row}
use Rattle.nl_types.specs.Plain.Trees.{IsTree, Tree, lookup}
use Rattle.nl_types.specs.Plain.Worlds.{World, Copy, IsWorld, copy_at, copy_row, rows}
use Rattle.nl_types.specs.Facts.ToldCopies.{find_row-copies}
use Rattle.nl_commit.specs.Layout.{IsPen, Layout, MeansWorld}
use Rattle.nl_core.specs.SameFiles.{HasFile, HaveOneInode}
use Rattle.nl_core.specs.Facts.EqualInodes.{have_one_file}
use Rattle.nl_core.specs.Facts.SameFiles.{one_inode_is_decided}
use Rattle.nl_folders.specs.declared.folder.FolderError.{FolderError}
use Rattle.nl_folders.specs.Differences.{Differences, differences}
use Rattle.nl_folders.specs.Passing.{AreSameFiles}
use Rattle.nl_folders.specs.Refusals.{RefusesTree}
use Rattle.nl_keep.specs.Shown.{ShowsKept}
use Rattle.nl_keep.specs.Stored.{IsKept, KeepsTree}
use Rattle.nl_keep.specs.Volumes.{Meaning}
use Rattle.nl_keep_pen.specs.Compared.{DifferBy, IsTrue-prop, KnownFiles, same_truth}

-- ---- what is known

-- what is decided is true where it can't be false
told_true : (Fact : Type 0) → (is : Bool) × (IsTrue is ↔ Fact) → ∥ Fact ∥₁ → Fact
told_true Fact (true, told) fact = told.0 refl
told_true Fact (false, told) fact = absurd (∥∥₁_elim fact ⊥_prop (λ f. let no = told.1 f in cc))

-- a pen knows
pub known_files : (l : Layout) → IsPen l → (old new : ℕ) → KnownFiles l old new
known_files l pen old new = record {
  known = λ path. (told path).0;
  only = λ path is. ∣ (told path).1.0 is ∣₁;
  all = λ path one. (told path).1.1 one;
}
  where
    told : (path : Path) → (is : Bool) × (IsTrue is ↔ HaveOneInode l old new path)
    told path = one_inode_is_decided l pen old new path

-- and answers what it knows
pub answers_known : (l : Layout) (old new : ℕ) (files : KnownFiles l old new) (path : Path) (result : Bool)
    → IsTrue result ↔ HaveOneInode l old new path → result ≡ files.known path
answers_known l old new files path result asked =
    same_truth result (files.known path) (λ is. files.all path (asked.0 is))
    (λ is. ∥∥₁_elim (files.only path is) (IsTrue-prop result) asked.1)

-- ---- files

-- the file of a kept tree
file_in : (n : ℕ) (tree : Tree) (path : Path) (bytes : List ℕ) (w : World) → KeepsTree n tree w
    → HasFile n path bytes w
    → lookup tree path ≡ Some (File bytes)
file_in n tree path bytes w keeps has =
    ap (λ (t : Tree). lookup t path)
    (sym keeps.has ∙ ap (λ (c : Copy). c.tree) (same_Some keeps.copy has.copy (sym keeps.kept ∙ has.is_kept)))
    ∙ has.has

-- files that are known to have one inode are the same
pub are_same_files : (l : Layout) → IsPen l → (old new : ℕ) (known : Path → Bool)
    → ((path : Path) → IsTrue (known path) → ∥ HaveOneInode l old new path ∥₁)
    → (w : World) (one other : Tree) → MeansWorld l w → KeepsTree old one w → KeepsTree new other w
    → AreSameFiles known one other
are_same_files l pen old new known only w one other means before after path is =
    let inode = told_true (HaveOneInode l old new path) (one_inode_is_decided l pen old new path)
    (only path is) in
    let file = have_one_file l old new path inode w means in (
      file.0,
      file_in old one path file.0 w before file.1,
      file_in new other path file.0 w after file.2,
    )

-- ---- checkpoints

-- what is told of a checkpoint is told of one that is kept
pub told_is_kept : (w : World) (n : ℕ) (row : Row) → Ok row ≡ kept_row n (rows w) → IsKept n w
told_is_kept w n row is =
    by (copy_at w n) refl
    (is ∙ ap (λ (o : Option Row). ok_or o NoCheckpoint) (find_row-copies w.copies n))
  where
    by : (o : Option Copy) → copy_at w n ≡ o
        → Ok row ≡ ok_or (option_map (λ copy. copy_row (n, copy)) o) NoCheckpoint
        → IsKept n w
    by None at told = cc
    by (Some copy) at told = (copy, at)

-- and what isn't told is of none
pub told_is_missing : (w : World) (n : ℕ) (e : VolError) → Err e ≡ kept_row n (rows w) → copy_at w n ≡ None
told_is_missing w n e is =
    by (copy_at w n) refl
    (is ∙ ap (λ (o : Option Row). ok_or o NoCheckpoint) (find_row-copies w.copies n))
  where
    by : (o : Option Copy) → copy_at w n ≡ o
        → Err e ≡ ok_or (option_map (λ copy. copy_row (n, copy)) o) NoCheckpoint
        → copy_at w n ≡ None
    by None at told = at
    by (Some copy) at told = cc

-- of two that are kept none is missing
pub none_missing : (w : World) (old new : ℕ) (one other : Tree) → KeepsTree old one w → KeepsTree new other w
    → (copy_at w old ≡ None) ⊎ (copy_at w new ≡ None) → ⊥
none_missing w old new one other before after (inl missing) =
    let no : ◌≡◌ {A = Option Copy} (Some before.copy) None = sym before.kept ∙ missing in cc
none_missing w old new one other before after (inr missing) =
    let no : ◌≡◌ {A = Option Copy} (Some after.copy) None = sym after.kept ∙ missing in cc

-- a tree that is kept is shown
shows_kept : (n : ℕ) (w : World) (Means : Meaning) (tree : Tree) → Means w → IsWorld w → KeepsTree n tree w
    → IsTree tree × ShowsKept Means n tree
shows_kept n w Means tree means world keeps =
    let is_tree = subst IsTree keeps.has (world.trees n keeps.copy keeps.kept) in (
      is_tree,
      record {
        world = w;
        means = means;
        copy = keeps.copy;
        kept = keeps.kept;
        has = keeps.has;
        is_tree = is_tree;
      },
    )

shown : (n : ℕ) (w : World) (Means : Meaning) → Means w → IsWorld w → (kept : IsKept n w)
    → IsTree kept.0.tree × ShowsKept Means n kept.0.tree
shown n w Means means world kept =
    let is_tree : IsTree kept.0.tree = world.trees n kept.0 kept.1 in (
      is_tree,
      record { world = w; means = means; copy = kept.0; kept = kept.1; has = refl; is_tree = is_tree },
    )

-- what was told of both trees is all that differs
pub differ_by : (l : Layout) (old new : ℕ) (all : Differences) (known : Path → Bool) (w : World)
    → MeansWorld l w → IsKept old w → IsKept new w
    → ((one other : Tree) → KeepsTree old one w → KeepsTree new other w → AreSameFiles known one other)
    → ((one other : Tree) → IsTree one → IsTree other → ShowsKept (MeansWorld l) old one
    → ShowsKept (MeansWorld l) new other → AreSameFiles known one other → all ≡ differences one other)
    → DifferBy old new all w
differ_by l old new all known w means before after same told =
    let one = shown old w (MeansWorld l) means means.world before in
    let other = shown new w (MeansWorld l) means means.world after in
    let keeps_one : KeepsTree old before.0.tree w = record { copy = before.0; kept = before.1; has = refl } in
    let keeps_other : KeepsTree new after.0.tree w = record { copy = after.0; kept = after.1; has = refl } in
    record {
      before = before.0.tree;
      after = after.0.tree;
      keeps_before = keeps_one;
      keeps_after = keeps_other;
      exact = told before.0.tree after.0.tree one.0 other.0 one.1 other.1
          (same before.0.tree after.0.tree keeps_one keeps_other);
    }

-- and a refusal is of one of the trees
pub differ_refused : (l : Layout) (old new : ℕ) (e : FolderError) (known : Path → Bool) (w : World)
    (one other : Tree) → MeansWorld l w → KeepsTree old one w → KeepsTree new other w
    → AreSameFiles known one other
    → ((x y : Tree) → IsTree x → IsTree y → ShowsKept (MeansWorld l) old x → ShowsKept (MeansWorld l) new y
    → AreSameFiles known x y → RefusesTree x e ⊎ RefusesTree y e)
    → RefusesTree one e ⊎ RefusesTree other e
differ_refused l old new e known w one other means before after same told =
    let first = shows_kept old w (MeansWorld l) one means means.world before in
    let second = shows_kept new w (MeansWorld l) other means means.world after in
    told one other first.0 second.0 first.1 second.1 same
