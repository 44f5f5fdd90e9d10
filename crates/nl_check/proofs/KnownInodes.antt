-- The walk over the inodes of a checkpoint.
use Rattle.std.proofs.Common.{◌≡◌, ℕ, ◌+◌, ◌*◌, ◌<◌, ◌≤◌, Bool, true, false, List, length, Option, Some, None, refl, ap, sym, ◌∙◌, arith, inl, inr}
use Rattle.std.specs.Prelude.{◌&&◌}
use Rattle.std.specs.Option.{option_and_then}
use Rattle.std.proofs.lemmas.Bool.{cases_lt}
use Rattle.nl_types.specs.declared.kind.Kind.{Kind}
use Rattle.nl_types.specs.Blocks.Roots.{Empty, Pages, Root, page_at, place_at}
use Rattle.nl_layout.specs.Root.{root_of}
use Rattle.nl_layout.specs.declared.inode.Inode.{Inode}
use Rattle.nl_files.specs.CheckpointRoots.{inode_root}
use Rattle.nl_ifile.specs.Inodes.{IsInodeFile, block_for, in_block, inode_at, inode_in}
use Rattle.nl_blocktree.specs.Facts.MetPlaces.{walked-empty}
use Rattle.nl_blocktree.specs.Walked.{CanBeMet, is_met, IsWalked}
use Rattle.nl_check.specs.Shapes.{IsShaped}
use Rattle.nl_check.specs.Private.ChangedFiles.{IsOfInodes}
use Rattle.nl_check.specs.Private.SoundInodes.{IsMeasured, IsSoundInode, TellsInodes, kind_for, kind_in}
use Rattle.nl_check.specs.Private.Walks.{AreKnown, IsBlockOf, IsWalk}
use Rattle.nl_check.specs.declared.shape.Walk.{Walk}
use Rattle.nl_check.specs.Facts.Below.{some-by}
use Rattle.nl_check.proofs.InodeBlocks.{block_for-cong, block_for-none}
use Rattle.nl_check.proofs.ToldInodes.{told-all, told-hole, told-more, told-none}
use Rattle.nl_check.proofs.WalkedFiles.{inode-there, next-can, none-in, walked-first, walked-hole, walked-met, walked-more, walked-shaped, walked-whole}

-- a walked file is measured
pub measured : (pages : Pages) (root : Root) (old new : List Bool) (count : ℕ)
    → IsWalked pages root old new count → IsMeasured pages root count
measured pages root old new count w = record {
  sized = w.sized;
  stored = λ i has.
      let v = some-by (place_at pages root 0 i) has in
      let p = some-by (pages v.0) (w.can.shape.stored 0 i v.0 v.1) in
      (p.0, ap (option_and_then pages) v.1 ∙ p.1);
  whole = λ i page is. by i page (place_at pages root 0 i) refl is;
}
  where
    by : (i : ℕ) (page : List ℕ) (o : Option ℕ) → place_at pages root 0 i ≡ o
        → option_and_then pages o ≡ Some page → length page ≡ 1024
    by i page None at is = cc
    by i page (Some v) at is = w.met.whole (0, i) v page tt at is

module _ (pages : Pages) (root : Root) where
  -- an inode that is walked
  pub known-more : (n count : ℕ) (inode : Inode) (o : Option Inode) (old new : List Bool)
      (kinds kinds_new : List (Option Kind)) (before sound : Bool)
      → o ≡ Some inode → IsWalked pages (root_of inode.root) old new count
      → length kinds_new ≡ 524288 → (n < 524288 → kind_in kinds_new n ≡ kind_for inode.kind)
      → ((i : ℕ) → (i ≡ n → ⊥) → kind_in kinds_new i ≡ kind_in kinds i)
      → (sound ≡ true → IsSoundInode pages n (Some inode))
      → (sound ≡ false → IsSoundInode pages n (Some inode) → ⊥)
      → inode_at pages root n ≡ o → AreKnown pages root n old kinds before
      → AreKnown pages root (n + 1) new kinds_new (before && sound)
  known-more n count inode o old new kinds kinds_new before sound is w len here others when unless at k =
      record {
        walked =
            walked-more pages root n (root_of inode.root) old new count (ap inode_root (at ∙ is)) k.walked w;
        told =
            told-more pages root n inode kinds kinds_new before sound
            (at ∙ is) k.told len here others when unless;
      }

  -- and one that isn't in use
  pub known-none : (n : ℕ) (o : Option Inode) (old : List Bool) (kinds : List (Option Kind)) (sound : Bool)
      → o ≡ None → inode_at pages root n ≡ o
      → AreKnown pages root n old kinds sound → AreKnown pages root (n + 1) old kinds sound
  known-none n o old kinds sound is at k = record {
    walked =
        walked-more pages root n Empty old old 0 (ap inode_root (at ∙ is)) k.walked (walked-empty pages old);
    told = told-none pages root n kinds sound (at ∙ is) k.told;
  }

  pub known-can : (n : ℕ) (inode : Inode) (o : Option Inode) (old : List Bool) (kinds : List (Option Kind))
      (sound : Bool)
      → o ≡ Some inode → inode_at pages root n ≡ o
      → AreKnown pages root n old kinds sound → IsShaped pages root → CanBeMet pages (root_of inode.root) old
  known-can n inode o old kinds sound is at k s =
      next-can pages root n (root_of inode.root) old (ap inode_root (at ∙ is)) k.walked s

  -- a block that isn't there
  pub known-hole : (b : ℕ) (old : List Bool) (kinds : List (Option Kind)) (sound : Bool)
      → None ≡ page_at pages root b
      → AreKnown pages root (8 * b) old kinds sound → AreKnown pages root (8 * (b + 1)) old kinds sound
  known-hole b old kinds sound none k = record {
    walked = walked-hole pages root b old (sym none) k.walked;
    told = told-hole pages root b kinds sound (sym none) k.told;
  }

  pub block-of-hole : (b : ℕ) → page_at pages root b ≡ None → IsBlockOf pages root b
  block-of-hole b none =
      none
      ∙ sym (block_for-none (in_block (inode_at pages root) b)
      (λ p low. none-in pages root b (8 * b + p) none (omega (arith, low))))

  same-block : (b : ℕ) (page : List ℕ) → page_at pages root b ≡ Some page
      → block_for (in_block (inode_at pages root) b) ≡ block_for (inode_in page)
  same-block b page at =
      block_for-cong (in_block (inode_at pages root) b) (inode_in page)
      (λ p low. inode-there pages root b p page at low)

  pub block-of-page : (b : ℕ) (page : List ℕ) → page_at pages root b ≡ Some page
      → Some page ≡ block_for (inode_in page) → IsBlockOf pages root b
  block-of-page b page at is = at ∙ (is ∙ sym (same-block b page at))

  pub page-is-block : (b : ℕ) (page : List ℕ) → page_at pages root b ≡ Some page → IsShaped pages root
      → Some page ≡ block_for (inode_in page)
  page-is-block b page at s = sym at ∙ (s.inodes b ∙ same-block b page at)

  -- a block that there may be, where it is one of inodes if it is there
  pub block-of : (b : ℕ) (o : Option (List ℕ)) → page_at pages root b ≡ o → IsOfInodes o
      → IsBlockOf pages root b
  block-of b None at is = block-of-hole b at
  block-of b (Some page) at is = block-of-page b page at is

  -- the inode at a place of the block
  pub inode-at-place : (b p n : ℕ) (page : List ℕ) (o : Option Inode) → n ≡ 8 * b + p → p < 8
      → o ≡ inode_in page p → page_at pages root b ≡ Some page → inode_at pages root n ≡ o
  inode-at-place b p n page o number low is at =
      ap (inode_at pages root) number ∙ (inode-there pages root b p page at low ∙ sym is)

  -- and at one of a block that there may be
  pub inode-under : (b p : ℕ) (o : Option (List ℕ)) (found : Option Inode) → p < 8
      → found ≡ option_and_then (λ (page : List ℕ). inode_in page p) o → page_at pages root b ≡ o
      → inode_at pages root (8 * b + p) ≡ found
  inode-under b p None found low is at =
      none-in pages root b (8 * b + p) at (omega (arith, low)) ∙ sym is
  inode-under b p (Some page) found low is at = inode-there pages root b p page at low ∙ sym is

  -- before the first inode
  pub known-first : (old new : List Bool) (count : ℕ) (kinds : List (Option Kind))
      → ((v : ℕ) → is_met old v ≡ false) → IsWalked pages root old new count
      → TellsInodes pages root 0 kinds true → AreKnown pages root 0 new kinds true
  known-first old new count kinds none w t =
      record { walked = walked-first pages root old new count none w; told = t }

  -- all of them
  pub walk-of : (walk : Walk) (old met new : List Bool) (kinds : List (Option Kind))
      → IsWalked pages root old met walk.count
      → ((i : ℕ) → i < walk.count → IsBlockOf pages root i)
      → AreKnown pages root (8 * walk.count) new kinds walk.sound → IsWalk pages root new kinds walk
  walk-of walk old met new kinds w blocks k = record {
    known = record {
      shaped = walked-shaped pages root walk.count new past k.walked inodes;
      met_in = walked-met pages root walk.count new past k.walked;
      whole = walked-whole pages root walk.count new past k.walked;
    };
    sized = w.sized;
    told = told-all pages root walk.count kinds walk.sound past k.told;
  }
    where
      past : (b : ℕ) → walk.count ≤ b → page_at pages root b ≡ None
      past b high = w.sized.none_past b (let same = w.sized.is in omega (arith, same, high))

      inodes : IsInodeFile pages root
      inodes b =
          elim (cases_lt b walk.count) [ inl low ↦ blocks b low | inr high ↦ block-of-hole b (past b high) ]
