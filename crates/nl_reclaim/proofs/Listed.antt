-- A move in two halves.
use Rattle.std.proofs.Common.{◌≡◌, ℕ, ◌-◌, List, Result, Ok, Err, refl, sym, ap, subst, ◌∙◌, length, take, length-take, arith}
use Rattle.std.specs.Prelude.{min, IsOk, MatchResult}
use Rattle.nl_types.specs.declared.error.VolError.{VolError}
use Rattle.nl_types.specs.declared.error.VolError.TheVariants.{Memory}
use Rattle.nl_types.specs.declared.segment.SegmentInfo.{SegmentInfo}
use Rattle.nl_vstore.specs.Stores.{KeepsStored, Store, IsMoved, IsMoveRefused}
use Rattle.nl_vstore.specs.Located.{needed_in}
use Rattle.nl_reclaim.specs.Cleaning.{judged_for, split}
use Rattle.nl_reclaim.specs.Moves.{ListedMovesAreFirst, RefusedListsAreNone, RefusedMovesAreNone}

-- of so many, as many are moved as there are up to the limit
split-first : (limit count : ℕ) → split (min limit count) count ≡ split limit count
split-first limit count = λ i. record { moved = front i; left = rest i }
  where
    front : min (min limit count) count ≡ min limit count
    front = omega arith

    rest : count - min limit count ≡ count - limit
    rest = omega arith

pub listed-moves-are-first : ListedMovesAreFirst
listed-moves-are-first needed segment limit checkpoint stamp count listed old new has moved = record {
  judged = has.judged;
  answers =
      ap (λ (n : ℕ). split n count) (ap length has.first ∙ length-take limit (needed_in old needed segment))
      ∙ ap (split (min limit (length (needed_in old needed segment)))) has.total
      ∙ split-first limit (length (needed_in old needed segment));
  moved = subst (λ (ns : List ℕ). IsMoved segment checkpoint stamp ns old new) has.first moved;
}

pub refused-moves-are-none : RefusedMovesAreNone
refused-moves-are-none needed segment limit checkpoint stamp count listed old new e has refused =
    by (judged_for old.segments segment limit) has.judged
  where
    numbers : List ℕ
    numbers = take limit (needed_in old needed segment)

    by : (r : Result SegmentInfo VolError) → IsOk r
        → MatchResult r (λ _. IsMoveRefused checkpoint stamp numbers old new e)
        (λ refusal. (e ≡ refusal) × (new ≡ old))
    by (Ok i) is = subst (λ (ns : List ℕ). IsMoveRefused checkpoint stamp ns old new e) has.first refused
    by (Err r) is = cc

stored-same : (s : Store) → KeepsStored s s
stored-same s = record { numbers = refl; segments = refl; device = refl; payload = refl; writes = refl }

pub refused-lists-are-none : RefusedListsAreNone
refused-lists-are-none needed segment limit checkpoint stamp s e refused =
    by (judged_for s.segments segment limit) refused
  where
    numbers : List ℕ
    numbers = take limit (needed_in s needed segment)

    by : (r : Result SegmentInfo VolError) → MatchResult r (λ _. e ≡ Memory) (λ refusal. e ≡ refusal)
        → MatchResult r (λ _. IsMoveRefused checkpoint stamp numbers s s e)
        (λ refusal. (e ≡ refusal) × (s ≡ s))
    by (Ok i) is = subst (IsMoveRefused checkpoint stamp numbers s s) (sym is) (stored-same s)
    by (Err r) is = (is, refl)
