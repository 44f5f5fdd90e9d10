-- What is looked at in a volume that was opened of an image.
use Rattle.std.proofs.Common.{◌≡◌, ℕ, Bool, true, false, List, [], ◌∷◌, Option, None, Some, Ok, refl, sym, ap, ◌∙◌, is_some}
use Rattle.std.specs.Prelude.{option_and_then}
use Rattle.nl_types.specs.Plain.Calls.{file_at}
use Rattle.nl_types.specs.Plain.Paths.{Path}
use Rattle.nl_types.specs.Plain.Trees.{Tree}
use Rattle.nl_types.specs.Plain.Worlds.{World, Copy, copy_at}
use Rattle.nl_commit.specs.Layout.{Layout, MeansWorld}
use Rattle.nl_core.specs.PenImages.{ImagesMeanOneWorld}
use Rattle.nl_manifests.specs.declared.host_tree.Opened.{Opened}
use Rattle.nl_manifests.specs.HostDifferences.{host_difference_of}
use Rattle.nl_manifests.specs.HostTrees.{shown_at}
use Rattle.nl_pins.specs.Trees.{without_pins}
use Rattle.nl_keep.specs.Shown.{ShowsKept}
use Rattle.nl_keep.specs.Stored.{IsKept}
use Rattle.nl_keep_pen.specs.declared.history.ShownDifferences.{ShownDifferences}
use Rattle.nl_keep_pen.specs.Facts.Closing.{same_world}
use Rattle.nl_keep_pen.specs.History.{AreChanges, IsChange, difference_in, shown_in}
use Rattle.nl_keep_pen.specs.Looking.{ChangesFromImage, ReadsFile, ShowsBare, ShowsUnread, TellDifferences, TellsFromImage}
use Rattle.nl_keep_pen.specs.Opened.{IsOpenedOf}
use Rattle.nl_keep_pen.proofs.Images.{reads_there}

-- ---- worlds with the same copies show the same

module _ (x y : World) (same : (n : ℕ) → copy_at x n ≡ copy_at y n) where
  same_shown : (n : ℕ) (path : Path) → shown_in x n path ≡ shown_in y n path
  same_shown n path =
      ap (λ (o : Option Copy). option_and_then (λ (c : Copy). shown_at (without_pins c.tree) path) o) (same n)

  same_difference : (m n : ℕ) (path : Path) → difference_in y m n path ≡ difference_in x m n path
  same_difference m n path =
      λ i. host_difference_of (sym (same_shown m path) i) (sym (same_shown n path) i)

  change_too : (top : Path) (before : Option ℕ) (n : ℕ) (is : Bool) → IsChange x top before n is
      → IsChange y top before n is
  change_too top None n is change = ap is_some (sym (same_shown n top)) ∙ change
  change_too top (Some m) n true change = record {
    path = change.path;
    within = change.within;
    difference = change.difference;
    differs = same_difference m n change.path ∙ change.differs;
  }
  change_too top (Some m) n false change = λ path within. same_difference m n path ∙ change path within

  changes_too : (top : Path) (before : Option ℕ) (numbers changes : List ℕ) → AreChanges x top before numbers changes
      → AreChanges y top before numbers changes
  changes_too top before [] changes are = are
  changes_too top before (n ∷ numbers) changes are = (
    are.0,
    are.1,
    change_too top before n are.0 are.2,
    are.3,
    changes_too top (Some n) numbers are.1 are.4,
  )

-- ---- of an image

module _ (one : ImagesMeanOneWorld) (image : List ℕ) (opened : Layout) (of : IsOpenedOf image opened) where
  abbrev v : World
  v = of.pen.world.0

  pub shows_there : (n : ℕ) (shown : Opened) → ((w : World) → MeansWorld opened w → IsKept n w)
      → ((w : World) (copy : Copy) → MeansWorld opened w → copy_at w n ≡ Some copy → ShowsBare copy.tree shown)
      → ShowsUnread n shown image
  shows_there n shown is_kept shows =
      let kept = is_kept v of.pen.world.1 in
      record {
        tree = kept.0.tree;
        reads = reads_there one image opened of n kept.0 kept.1;
        bare = shows v kept.0 of.pen.world.1 kept.1;
      }

  pub file_there : (n : ℕ) (path : Path) (bytes : List ℕ) → ((w : World) → MeansWorld opened w → IsKept n w)
      → ((tree : Tree) → ShowsKept (MeansWorld opened) n tree → file_at tree path ≡ Ok bytes)
      → ReadsFile n path bytes image
  file_there n path bytes is_kept read =
      let kept = is_kept v of.pen.world.1 in
      record {
        tree = kept.0.tree;
        reads = reads_there one image opened of n kept.0 kept.1;
        has = read kept.0.tree (record {
          world = v;
          means = of.pen.world.1;
          copy = kept.0;
          kept = kept.1;
          has = refl;
          is_tree = of.pen.world.1.world.trees n kept.0 kept.1;
        });
      }

  pub tells_there : (m n : ℕ) (told : ShownDifferences) → ((w : World) → MeansWorld opened w → IsKept m w)
      → ((w : World) → MeansWorld opened w → IsKept n w)
      → ((w : World) (one other : Copy) → MeansWorld opened w → copy_at w m ≡ Some one → copy_at w n ≡ Some other
      → TellDifferences one.tree other.tree told)
      → TellsFromImage m n told image
  tells_there m n told kept_old kept_new tells =
      let old = kept_old v of.pen.world.1 in
      let new = kept_new v of.pen.world.1 in
      record {
        old = old.0.tree;
        reads_old = reads_there one image opened of m old.0 old.1;
        new = new.0.tree;
        reads_new = reads_there one image opened of n new.0 new.1;
        tells = tells v old.0 new.0 of.pen.world.1 old.1 new.1;
      }

  pub changes_there : (path : Path) (numbers changes : List ℕ)
      → ((w : World) → MeansWorld opened w → AreChanges w path None numbers changes)
      → ChangesFromImage path numbers changes image
  changes_there path numbers changes are w from =
      changes_too v w (λ n. sym (ap (λ (x : World). copy_at x n) (same_world one image opened of w from))) path None
      numbers changes (are v of.pen.world.1)
