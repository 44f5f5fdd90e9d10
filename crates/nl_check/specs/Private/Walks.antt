-- How far the files of a checkpoint were walked.
use Rattle.std.specs.Prelude.{◌≡◌, ℕ, ◌*◌, ◌<◌, Bool, true, List, length, Option, Some}
use Rattle.nl_types.specs.declared.kind.Kind.{Kind}
use Rattle.nl_types.specs.Blocks.Roots.{Pages, Root, page_at}
use Rattle.nl_ifile.specs.Inodes.{block_for, in_block, inode_at}
use Rattle.nl_check.specs.Conditions.{IsSoundTree, Told}
use Rattle.nl_blocktree.specs.FileShapes.{HasShape, IsSizeOf}
use Rattle.nl_blocktree.specs.Walked.{is_met}
use Rattle.nl_check.specs.Periods.{AreMetIn}
use Rattle.nl_check.specs.Shapes.{At, IsShaped, Itself, Of, Owner, met, root_for}
use Rattle.nl_check.specs.Private.SoundInodes.{TellsAll, TellsInodes}
use Rattle.nl_check.specs.declared.shape.Walk.{Walk}

-- the file of inodes comes first, and then the files of the inodes by their numbers
abbrev pub IsBelow : ℕ → Owner → Type 0
IsBelow n Itself = Unit {0}
IsBelow n (Of i) = i < n

-- The files of the owners below a number have their shape, and no number has two places in them. The numbers
-- at these places have whole pages and are met, and no others are.
pub record AreWalked (pages : Pages) (root : Root) (n : ℕ) (numbers : List Bool) : Type 0 where
  pub files : (owner : Owner) → IsBelow n owner → HasShape pages (root_for pages root owner)
  pub once : (p q : At) (v : ℕ) → IsBelow n p.owner → IsBelow n q.owner
      → met pages root p ≡ Some v → met pages root q ≡ Some v → p ≡ q
  pub whole : (at : At) (v : ℕ) (page : List ℕ) → IsBelow n at.owner → met pages root at ≡ Some v
      → pages v ≡ Some page
      → length page ≡ 1024
  pub all : (at : At) (v : ℕ) → IsBelow n at.owner → met pages root at ≡ Some v → is_met numbers v ≡ true
  pub only : (v : ℕ) → is_met numbers v ≡ true → (at : At) × IsBelow n at.owner × (met pages root at ≡ Some v)

-- the files of the owners below a number are walked, and the inodes below it are told
pub record AreKnown (pages : Pages) (root : Root) (n : ℕ) (numbers : List Bool) (kinds : List (Option Kind))
    (sound : Bool) : Type 0 where
  pub walked : AreWalked pages root n numbers
  pub told : TellsInodes pages root n kinds sound

-- a block of the file of inodes is that of its inodes
abbrev pub IsBlockOf : Pages → Root → ℕ → Type 0
IsBlockOf pages root i = page_at pages root i ≡ block_for (in_block (inode_at pages root) i)

-- the numbers of a checkpoint have whole pages
abbrev pub AreWhole : Pages → Root → Type 0
AreWhole pages root = (at : At) (v : ℕ) (page : List ℕ) → met pages root at ≡ Some v → pages v ≡ Some page
    → length page ≡ 1024

-- a checkpoint has its shape, its numbers are met and no others, and their pages are whole
pub record IsMetWhole (pages : Pages) (root : Root) (numbers : List Bool) : Type 0 where
  pub shaped : IsShaped pages root
  pub met_in : AreMetIn pages root numbers
  pub whole : AreWhole pages root

-- so has the one that an entry tells of
abbrev pub IsMetWholeAt : Pages → Told → List Bool → Type 0
IsMetWholeAt pages c numbers = (root : Root) × (c.root ≡ Some root) × IsMetWhole pages root numbers

-- a table has the kinds of its inodes, and each of these is sound
abbrev pub AreSoundAt : Pages → Told → List (Option Kind) → Type 0
AreSoundAt pages c kinds = (root : Root) × (c.root ≡ Some root) × TellsAll pages root kinds true

-- The checkpoint that an entry tells of is good: it has its shape, and its numbers are met. If it is asked,
-- its inodes are sound and of these kinds, and hold a tree.
pub record IsGood (pages : Pages) (c : Told) (numbers : List Bool) (kinds : List (Option Kind))
    (asked : Bool) : Type 0 where
  pub known : IsMetWholeAt pages c numbers
  pub sound : asked ≡ true → AreSoundAt pages c kinds
  pub tree : asked ≡ true → IsSoundTree pages c

-- a checkpoint is met, and its inodes are told
pub record IsWalk (pages : Pages) (root : Root) (numbers : List Bool) (kinds : List (Option Kind))
    (walk : Walk) : Type 0 where
  pub known : IsMetWhole pages root numbers
  pub sized : IsSizeOf pages root (1024 * walk.count)
  pub told : TellsAll pages root kinds walk.sound
