-- A file that was walked, and a root that can be in use.
use Rattle.std.proofs.Common.{◌≡◌, ℕ, ◌≤◌, Bool, List, arith, refl, subst, sym}
use Rattle.std.specs.Prelude.{IfOk, IsOk, OnErr, Result, Ok, Err}
use Rattle.nl_types.specs.Blocks.RootChanges.{IsSound}
use Rattle.nl_types.specs.Blocks.Roots.{Pages, Root}
use Rattle.nl_blocktree.specs.Walked.{CanBeMet, IsUnmet, IsWalked}
use Rattle.nl_blocktree.specs.declared.meeting.WalkError.{WalkError}
use Rattle.nl_blocktree.specs.Facts.LowOffsets.{data-low, low-offsets}

walked-sound-at : (pages : Pages) (root : Root) (old new : List Bool) (count : ℕ)
    → IsWalked pages root old new count → count ≤ 262144 → IsSound pages root
walked-sound-at pages root old new count w most = record {
  in_range = low-offsets pages root 262144 w.can.shape
      (λ i v at.
      let low = data-low pages root count w.can.shape w.sized i v at in omega (arith, low, most));
  stored = w.can.shape.stored;
  once = w.can.once;
  ends_full = w.can.shape.ends_full;
  has_top = w.can.shape.has_top;
  tree_shape = w.can.shape.tree_shape;
}

-- what was walked is sound where its indices are in range
pub walked-sound : (pages : Pages) (root walked : Root) (old new : List Bool) (r : Result ℕ WalkError)
    → root ≡ walked
    → IfOk r (IsWalked pages walked old new) → IfOk r (λ count. count ≤ 262144 → IsSound pages root)
walked-sound pages root walked old new (Err why) is w = tt
walked-sound pages root walked old new (Ok count) is w = λ few.
    subst (λ (r : Root). IsSound pages r) (sym is) (walked-sound-at pages walked old new count w few)

-- what is sound is walked, where none of it was met
pub sound-walked : (pages : Pages) (root : Root) (old : List Bool) (r : Result ℕ WalkError)
    → OnErr r (CanBeMet pages root old → ⊥) → IsSound pages root → IsUnmet pages root old → IsOk r
sound-walked pages root old (Err why) never sound fresh =
    absurd (never (record {
      shape = record {
        stored = sound.stored;
        has_top = sound.has_top;
        ends_full = sound.ends_full;
        tree_shape = sound.tree_shape;
      };
      fresh = fresh;
      once = sound.once;
    }))
sound-walked pages root old (Ok count) never sound fresh = refl
