-- Why checkpoints stay.
use Rattle.std.proofs.Common.{◌≡◌, ℕ, ◌/◌, ◌%◌, Bool, List, Option, Some, None, refl, ap, sym, subst, ◌∙◌, inl, inr}
use Rattle.std.specs.Prelude.{cond, ◌==◌}
use Rattle.std.specs.Option.{option_and_then}
use Rattle.std.proofs.lemmas.Bool.{cases_eq, eq-eqb, ne_eqb}
use Rattle.nl_types.specs.Facts.PartialMaps.{same_at_all}
use Rattle.nl_types.specs.Blocks.Roots.{Empty, Pages, Root, page_at, place_at}
use Rattle.nl_types.specs.Blocks.RootChanges.{IsSound, KeepsFile}
use Rattle.nl_layout.specs.Root.{root_of}
use Rattle.nl_layout.specs.declared.inode.Inode.{Inode}
use Rattle.nl_ifile.specs.Inodes.{InodeMap, block_for, in_block, inode_at, inode_in}
use Rattle.nl_blocktree.specs.Checkpoints.{AgreeWhere}
use Rattle.nl_blocktree.specs.Facts.Frames.{nothing-sound}
use Rattle.nl_blocktree.specs.Facts.Staying.{file-stays, places-agree, some-of}
use Rattle.nl_tree.specs.Held.{Held, Holding, IsHolding}
use Rattle.nl_files.specs.CheckpointTrees.{HoldsTree}
use Rattle.nl_files.specs.CheckpointRoots.{IsTreeSound, StandsAs, StandsFor, Stores, inode_root, roots_at}
use Rattle.nl_files.specs.Staying.{AgreeAtCheckpoint, CheckpointStays, KeptPagesAgree}
use Rattle.nl_files.specs.Facts.Following.{some-held}
use Rattle.nl_files.specs.Facts.Ones.{empty-none}
use Rattle.nl_files.specs.Facts.Slots.{not_six}

-- ---- roots of a checkpoint

pub root-at_six : (pages : Pages) (root : Root) (i : ℕ) → i ≡ 6 → roots_at pages root i ≡ root
root-at_six pages root i is =
    ap (λ (b : Bool). cond b root (inode_root (inode_at pages root i))) (eq-eqb i 6 is)

pub root-at_others : (pages : Pages) (root : Root) (i : ℕ) → (i ≡ 6 → ⊥)
    → roots_at pages root i ≡ inode_root (inode_at pages root i)
root-at_others pages root i not =
    ap (λ (b : Bool). cond b root (inode_root (inode_at pages root i))) (ne_eqb i 6 not)

pub root-sound : (pages : Pages) (root : Root) → IsTreeSound pages root → (i : ℕ)
    → IsSound pages (roots_at pages root i)
root-sound pages root sound i = elim (cases_eq i 6) [
  | inl is ↦ subst (λ (r : Root). IsSound pages r) (sym (root-at_six pages root i is)) sound.inode_file
  | inr not ↦ subst (λ (r : Root). IsSound pages r) (sym (root-at_others pages root i not)) (sound.each i)
]

-- the file of inodes has no inode of its own
pub no_inode-six : (pages : Pages) (inode : Option Inode) (held : Holding) → StandsFor pages inode (held 6)
    → IsHolding held → inode ≡ None
no_inode-six pages None held stands is = refl
no_inode-six pages (Some n) held stands is =
    let some = some-held n.kind _ n.size (held 6) stands in
    absurd (not_six 6 (is.inode_numbers 6 some.0 some.1) refl)

-- ---- over other pages

empty-stays : (pages more : Pages) → KeepsFile pages more Empty
empty-stays pages more = file-stays pages more Empty (nothing-sound pages)
    (λ level offset v at. let no : None ≡ Some v = sym (empty-none pages level offset) ∙ at in cc)

stands-still : (pages more : Pages) (inode : Option Inode) (held : Option Held)
    → KeepsFile pages more (inode_root inode) → StandsFor pages inode held → StandsFor more inode held
stands-still pages more None held keeps stands = stands
stands-still pages more (Some n) held keeps stands =
    let same : page_at pages (root_of n.root) ≡ page_at more (root_of n.root) = λ j.
    λ b. sym (keeps.blocks b) j in
    subst (λ (blocks : Pages). StandsAs blocks n.kind n.size held) same stands

module _ (pages more : Pages) (root : Root) (held : Holding) (sound : IsTreeSound pages root)
    (holds : HoldsTree pages root held)
    (agree : AgreeAtCheckpoint pages more root) where
  inode_file : KeepsFile pages more root
  inode_file = file-stays pages more root sound.inode_file (agree 6)

  each : (i : ℕ) → KeepsFile pages more (inode_root (inode_at pages root i))
  each i = elim (cases_eq i 6) [
    | inl is ↦
        let none : inode_at pages root i ≡ None =
        ap (inode_at pages root) is
        ∙ no_inode-six pages (inode_at pages root 6) held (holds.stores 6) holds.sound in
        subst (λ (inode : Option Inode). KeepsFile pages more (inode_root inode)) (sym none)
        (empty-stays pages more)
    | inr not ↦ file-stays pages more (inode_root (inode_at pages root i)) (sound.each i)
        (subst (λ (r : Root). AgreeWhere pages more r) (root-at_others pages root i not) (agree i))
  ]

  inodes : (i : ℕ) → inode_at more root i ≡ inode_at pages root i
  inodes i = ap (option_and_then (λ (page : List ℕ). inode_in page (i % 8))) (inode_file.blocks (i / 8))

  roots : (i : ℕ) → roots_at more root i ≡ roots_at pages root i
  roots i = ap (λ (inode : Option Inode). cond (i == 6) root (inode_root inode)) (inodes i)

  number : (i level offset : ℕ)
      → place_at more (roots_at more root i) level offset
      ≡ place_at pages (roots_at pages root i) level offset
  number i level offset =
      ap (λ (r : Root). place_at more r level offset) (roots i)
      ∙ places-agree pages more (roots_at pages root i) (agree i) level offset

  stores : (other : Holding) → Stores pages root other → Stores more root other
  stores other stands i =
      subst (λ (inode : Option Inode). StandsFor more inode (other i)) (sym (inodes i))
      (stands-still pages more (inode_at pages root i) (other i) (each i) (stands i))

  pub checkpoints-stay : CheckpointStays pages more root
  checkpoints-stay = record {
    roots = roots;
    numbers = λ j. λ at. number at.inode at.level at.offset j;
    sound = record {
      inode_file = inode_file.sound;
      inodes = λ i. inode_file.blocks i
          ∙ (sound.inodes i
          ∙ ap (λ (all : InodeMap). block_for (in_block all i))
          (sym (same_at_all (inode_at more root) (inode_at pages root) inodes)));
      each = λ i.
          subst (λ (inode : Option Inode). IsSound more (inode_root inode)) (sym (inodes i)) (each i).sound;
    };
    stores = stores;
  }

pub kept_pages-agree : KeptPagesAgree
kept_pages-agree pages more root sound keeps i level offset v at =
    let page = some-of (pages v) ((root-sound pages root sound i).stored level offset v at) in
    keeps v page.0 page.1 ∙ sym page.1
