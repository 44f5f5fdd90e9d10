-- Which files are known to be one in two checkpoints, and what differs between their trees.
use Rattle.std.specs.Prelude.{◌≡◌, ℕ, IsTrue, Bool, true, false}
use Rattle.std.proofs.Common.{refl, subst, sym}
use Rattle.std.proofs.Math.Logic.{∥∥₁_elim}
use Rattle.std.proofs.Props.{props}
use Rattle.nl_types.specs.Plain.Paths.{Path}
use Rattle.nl_types.specs.Plain.Trees.{Tree}
use Rattle.nl_types.specs.Plain.Worlds.{World}
use Rattle.nl_commit.specs.Layout.{Layout}
use Rattle.nl_core.specs.SameFiles.{HaveOneInode}
use Rattle.nl_folders.specs.Differences.{Differences, differences}
use Rattle.nl_keep.specs.Stored.{KeepsTree}

-- ---- what is known

-- the paths that lead to one inode of a file in both checkpoints: no others, and all of them
pub record KnownFiles (l : Layout) (old new : ℕ) : Type 0 where
  pub known : Path → Bool
  pub only : (path : Path) → IsTrue (known path) → ∥ HaveOneInode l old new path ∥₁
  pub all : (path : Path) → HaveOneInode l old new path → IsTrue (known path)

-- ---- nothing else is known, as a ghost field asks

pub same_truth : (a b : Bool) → (IsTrue a → IsTrue b) → (IsTrue b → IsTrue a) → a ≡ b
same_truth true true there back = refl
same_truth true false there back = sym (there refl)
same_truth false true there back = back refl
same_truth false false there back = refl

pub IsTrue-prop : (b : Bool) → IsProp (IsTrue b)
IsTrue-prop b = Prim.hlevel props

module _ (l : Layout) (old new : ℕ) where
  follows : (x y : KnownFiles l old new) (path : Path) → IsTrue (x.known path) → IsTrue (y.known path)
  follows x y path is = ∥∥₁_elim (x.only path is) (IsTrue-prop (y.known path)) (y.all path)

  same_known : (x y : KnownFiles l old new) → x.known ≡ y.known
  same_known x y = λ i path.
      same_truth (x.known path) (y.known path) (follows x y path) (follows y x path) i

  only-prop : (known : Path → Bool)
      → IsProp ((path : Path) → IsTrue (known path) → ∥ HaveOneInode l old new path ∥₁)
  only-prop known = Prim.hlevel props

  all-prop : (known : Path → Bool)
      → IsProp ((path : Path) → HaveOneInode l old new path → IsTrue (known path))
  all-prop known = λ f g i path one. IsTrue-prop (known path) (f path one) (g path one) i

  pub KnownFiles-prop : IsProp (KnownFiles l old new)
  KnownFiles-prop x y =
      subst (λ (known : Path → Bool).
      (only : (path : Path) → IsTrue (known path) → ∥ HaveOneInode l old new path ∥₁)
      (all : (path : Path) → HaveOneInode l old new path → IsTrue (known path))
      → ◌≡◌ {A = KnownFiles l old new} x (record { known = known; only = only; all = all }))
      (same_known x y)
      (λ only all i. record {
        known = x.known;
        only = only-prop x.known x.only only i;
        all = all-prop x.known x.all all i;
      })
      y.only y.all

-- ---- what differs

-- checkpoints of both numbers are kept, and this is all that differs between their trees
pub record DifferBy (old new : ℕ) (all : Differences) (w : World) : Type 0 where
  pub before : Tree
  pub after : Tree
  pub keeps_before : KeepsTree old before w
  pub keeps_after : KeepsTree new after w
  pub exact : all ≡ differences before after
