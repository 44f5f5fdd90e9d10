-- Ends of a run, from two partition points.
use Rattle.std.proofs.Common.{◌≡◌, ℕ, ◌<◌, ◌≤◌, true, false, leb, List, length, inl, inr, sym, ◌∙◌, arith}
use Rattle.std.specs.List.Sorted.{IsPartitionPoint}
use Rattle.std.proofs.lemmas.Bool.{cases_lt, leb-true, le-leb}
use Rattle.nl_reclaim.specs.declared.ends.Ended.{Ended}
use Rattle.nl_reclaim.specs.EndLists.{IsRun, end_at, end_of, no_end}

module _ (ends : List Ended) (first next from to : ℕ) (order : first ≤ next) (from-in : from ≤ length ends)
    (to-in : to ≤ length ends)
    (lower : IsPartitionPoint (λ e. leb (end_of e) first ≡ true)
    (λ e. leb (end_of e) first ≡ false) ends from)
    (upper : IsPartitionPoint (λ e. leb (end_of e) next ≡ true)
    (λ e. leb (end_of e) next ≡ false) ends to) where
  below : (k : ℕ) → k < from → (end_at ends k).end ≤ first
  below k low = leb-true _ first (lower.0 k no_end (omega arith) low)

  within : (k : ℕ) → k < to → (end_at ends k).end ≤ next
  within k low = leb-true _ next (upper.0 k no_end (omega arith) low)

  above : (k : ℕ) → to ≤ k → k < length ends → (end_at ends k).end ≤ next → ⊥
  above k up held end =
      let no = upper.1 k no_end up held in
      let is = le-leb _ next end in
      let wrong : false ≡ true = sym no ∙ is in
      cc

  past : (k : ℕ) → from ≤ k → k < length ends → (end_at ends k).end ≤ first → ⊥
  past k up held end =
      let no = lower.1 k no_end up held in
      let is = le-leb _ first end in
      let wrong : false ≡ true = sym no ∙ is in
      cc

  ordered : from ≤ to
  ordered = elim (cases_lt to from) [
    | inl less ↦ let end = below to less in absurd (above to (omega arith) (omega arith) (omega arith))
    | inr more ↦ omega arith
  ]

  inside : (k : ℕ) → k < length ends → first < (end_at ends k).end → (end_at ends k).end ≤ next
      → (from ≤ k) × (k < to)
  inside k held behind end = (
    elim (cases_lt k from) [ inl less ↦ let wrong = below k less in omega arith | inr more ↦ omega arith ],
    elim (cases_lt k to) [ inl less ↦ less | inr more ↦ absurd (above k (omega arith) held end) ],
  )

  behind : (k : ℕ) → from ≤ k → k < to → (first < (end_at ends k).end) × ((end_at ends k).end ≤ next)
  behind k up low = (
    elim (cases_lt first (end_at ends k).end)
        [ inl less ↦ less | inr more ↦ absurd (past k up (omega arith) more) ],
    within k low,
  )

  pub points-make-a-run : IsRun first next from to ends
  points-make-a-run = record { order = ordered; within = to-in; inside = inside; behind = behind }
