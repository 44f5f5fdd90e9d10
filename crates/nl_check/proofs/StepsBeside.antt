-- What was known of a checkpoint is known of the next one, once its numbers are left and met.
use Rattle.std.proofs.Common.{◌≡◌, ◌⊎◌, ℕ, ◌+◌, ◌*◌, ◌/◌, Bool, true, false, List, Some, ap, sym, subst, ◌∙◌, inl, inr, arith}
use Rattle.std.specs.Option.{option_and_then}
use Rattle.nl_types.specs.Blocks.Roots.{Pages, Root, page_at, place_at}
use Rattle.nl_files.specs.CheckpointRoots.{inode_root}
use Rattle.nl_ifile.specs.Inodes.{IsInodeFile, block_for, in_block, inode_at}
use Rattle.nl_blocktree.specs.Walked.{is_met}
use Rattle.nl_check.specs.Periods.{AreMetIn}
use Rattle.nl_check.specs.Shapes.{At, Itself, Of, Owner, met, root_for}
use Rattle.nl_check.specs.Facts.Below.{both}
use Rattle.nl_check.specs.Private.BesideTrees.{HasLeft}
use Rattle.nl_check.specs.Private.ChangedFiles.{AreAllListed, AreAllMet, AreMetAnew, IsBlockListed, IsKept, IsLost, IsNew, IsSameOrListed, IsWholeFile}
use Rattle.nl_check.specs.Private.Walks.{IsMetWhole}
use Rattle.nl_check.specs.declared.differing.ChangedFile.{ChangedFile}
use Rattle.nl_check.proofs.InodeBlocks.{block_for-cong}
use Rattle.nl_check.proofs.KeptPlaces.{kept-test}
use Rattle.nl_check.proofs.SamePlaces.{same-inode}
use Rattle.nl_check.proofs.StepPlaces.{inode-case, is-root}

-- each file of a checkpoint is whole
pub files-whole : (pages : Pages) (root : Root) (numbers : List Bool) → IsMetWhole pages root numbers
    → (owner : Owner) → IsWholeFile pages (root_for pages root owner)
files-whole pages root numbers m owner = record {
  shape = m.shaped.files owner;
  whole = λ at v page there is.
      m.whole (record { owner = owner; level = at.0; offset = at.1 }) v page there is;
}

module _ (pages : Pages) (old new : Root) (before now after : List Bool) (m : IsMetWhole pages old before)
    (l : HasLeft At (IsLost pages old new) before now) (k : AreMetAnew At (IsNew pages old new) now after)
  where
    test : (at : At) → IsKept pages old new at ⊎ (IsKept pages old new at → ⊥)
    test at = kept-test pages (root_for pages old at.owner) (root_for pages new at.owner) (at.level, at.offset)

    same-there : (at : At) → IsKept pages old new at → met pages old at ≡ met pages new at
    same-there at kept = kept.same

    -- what is left of the numbers is what is kept
    still : (at : At) (v : ℕ) → IsKept pages old new at → met pages new at ≡ Some v → is_met now v ≡ true
    still at v kept is = elim (l.others v (m.met_in.all at v (same-there at kept ∙ is))) [
      | inl yet ↦ yet
      | inr w ↦
          absurd (w.1.0 (subst (IsKept pages old new)
          (m.shaped.once at w.0 v (same-there at kept ∙ is) w.1.1) kept))
    ]

    stood : (v : ℕ) → is_met now v ≡ true → (at : At) × IsKept pages old new at × (met pages old at ≡ Some v)
    stood v is = let p = m.met_in.only v (l.only v is) in elim (test p.0) [
      | inl kept ↦ (p.0, kept, p.1)
      | inr n ↦ absurd (let isnt : is_met now v ≡ false = l.gone p.0 v (n, p.1) in both (is_met now v) is isnt)
    ]

    apart : (p q : At) (v : ℕ) → IsKept pages old new p → (IsKept pages old new q → ⊥)
        → met pages new p ≡ Some v → met pages new q ≡ Some v → ⊥
    apart p q v kept n at_p at_q =
        let is : is_met now v ≡ true = still p v kept at_p in
        both (is_met now v) is (k.fresh q v (n, at_q))

    -- no number stands at two places
    once-anew : (p q : At) (v : ℕ) → met pages new p ≡ Some v → met pages new q ≡ Some v → p ≡ q
    once-anew p q v at_p at_q = elim (test p) [
      | inl kept ↦ elim (test q) [
        | inl too ↦ m.shaped.once p q v (same-there p kept ∙ at_p) (same-there q too ∙ at_q)
        | inr n ↦ absurd (apart p q v kept n at_p at_q)
      ]
      | inr n ↦ elim (test q) [
        | inl kept ↦ absurd (apart q p v kept n at_q at_p)
        | inr o ↦ k.once p q v (n, at_p) (o, at_q)
      ]
    ]

    -- and the numbers at its places are met, and no others
    met-anew : AreMetIn pages new after
    met-anew = record {
      all = λ at v is. elim (test at) [
        | inl kept ↦ k.met_stay v (still at v kept is)
        | inr n ↦ k.added at v (n, is)
      ];
      only = λ v is. elim (k.only v is) [
        | inl yet ↦ (let p = stood v yet in (p.0, sym (same-there p.0 p.1) ∙ p.2))
        | inr w ↦ (w.0, w.1.1)
      ];
    }

    module _ (files : List ChangedFile) (listed : AreAllListed pages old new files) (count : ℕ)
        (all : AreAllMet pages old new files now after count) where
      pub later-whole : (owner : Owner) → IsWholeFile pages (root_for pages new owner)
      later-whole Itself = all.itself
      later-whole (Of n) = by (inode-case pages old new files listed n)
        where
          by : IsSameOrListed pages old new files n → IsWholeFile pages (root_for pages new (Of n))
          by (inl one) =
              subst (IsWholeFile pages) (ap inode_root one) (files-whole pages old before m (Of n))
          by (inr (f, c, number)) =
              let sound = all.sound f c in
              subst (λ (i : ℕ). IsWholeFile pages (root_for pages new (Of i))) number
              (subst (IsWholeFile pages) (sym (is-root pages old new files listed f c)) sound.file)

      inodes : IsInodeFile pages new
      inodes i = by (listed.each i)
        where
          by : (place_at pages old 0 i ≡ place_at pages new 0 i) ⊎ IsBlockListed pages old new files i
              → page_at pages new i ≡ block_for (in_block (inode_at pages new) i)
          by (inr block) = block.block
          by (inl one) =
              ap (option_and_then pages) (sym one)
              ∙ (m.shaped.inodes i
              ∙ block_for-cong (in_block (inode_at pages old) i) (in_block (inode_at pages new) i)
              (λ p low.
              let index : (8 * i + p) / 8 ≡ i = omega (arith, low) in
              same-inode pages old new (8 * i + p)
              (ap (place_at pages old 0) index ∙ (one ∙ ap (place_at pages new 0) (sym index)))))

      -- the next checkpoint has its shape, its numbers are met, and their pages are whole
      pub known-later : IsMetWhole pages new after
      known-later = record {
        shaped = record {
          files = λ owner. let w = later-whole owner in w.shape;
          inodes = inodes;
          once = once-anew;
        };
        met_in = met-anew;
        whole = λ at v page there is. let w = later-whole at.owner in w.whole (at.level, at.offset) v page
            there is;
      }
