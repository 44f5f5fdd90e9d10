-- Which periods have a checkpoint, by those that have an earlier one.
use Rattle.std.proofs.Common.{◌≡◌, ◌⊎◌, ℕ, ◌<◌, ◌≤◌, Bool, true, false, List, ◌∷◌, ◌++◌, ◌+◌, leb, Option, Some, None, refl, ap, sym, subst, ◌∙◌, inl, inr, arith}
use Rattle.std.specs.Prelude.{nat_le, ◌&&◌, map}
use Rattle.std.specs.Option.{IsSome, is_some, option_to_list}
use Rattle.std.specs.List.{All, AllWithin, Contains}
use Rattle.std.specs.List.Sorted.{IsPartitionPoint}
use Rattle.std.proofs.lemmas.List.Elements.{All-contains, Contains-append_left, Contains-append_right}
use Rattle.std.proofs.lemmas.Bool.{cases_lt, le-leb, le-ltb, leb-true, leb-false, lt-leb, lt-ltb}
use Rattle.nl_types.specs.declared.period.Period.{Period}
use Rattle.nl_types.specs.Blocks.Entries.{is_before_end}
use Rattle.nl_vstore.specs.Periods.{Periods}
use Rattle.nl_check.specs.Conditions.{has}
use Rattle.nl_check.specs.Periods.{AreOfPeriods, has_in}
use Rattle.nl_check.specs.Private.Turns.{AreTurnedOfPeriods, AreTurns, HasTurnsBelow, IsOfPeriod, IsTurnOfPeriod, StaysBetween, WereOfPeriods, checkpoint_of, turn_at, turns_of}
use Rattle.nl_blocktree.specs.Walked.{is_met}
use Rattle.nl_check.specs.declared.turns.Turn.{Turn}

-- ---- one period

start-stays : (a b s : ℕ) → a ≤ b → (s ≤ a) ⊎ (b < s) → nat_le s a ≡ nat_le s b
start-stays a b s le (inl low) = le-leb s a low ∙ sym (le-leb s b (omega (arith, low, le)))
start-stays a b s le (inr high) = lt-leb s a (omega (arith, high, le)) ∙ sym (lt-leb s b high)

end-stays : (a b : ℕ) (end : Option ℕ) → a ≤ b → ((e : ℕ) → end ≡ Some e → (e ≤ a) ⊎ (b < e))
    → is_before_end a end ≡ is_before_end b end
end-stays a b None le h = refl
end-stays a b (Some e) le h = elim (h e refl) [
  | inl low ↦ le-ltb a e low ∙ sym (le-ltb b e (omega (arith, low, le)))
  | inr high ↦ lt-ltb a e (omega (arith, high, le)) ∙ sym (lt-ltb b e high)
]

has-stays : (a b : ℕ) (period : Period) → a ≤ b → StaysBetween a b period → has a period ≡ has b period
has-stays a b period le s =
    ap (λ (x : Bool). x && is_before_end a period.end) (start-stays a b period.start le s.start)
    ∙ ap (λ (x : Bool). nat_le period.start b && x) (end-stays a b period.end le s.end)

-- ---- all of them

-- Numbers of their periods at one checkpoint are so at a later one, where those that changed, and those whose
-- periods turned between the two, are.
of-periods-later : (periods : Periods) (a b : ℕ) (old new : List Bool) → a ≤ b
    → AreOfPeriods periods a old
    → ((v : ℕ) → (is_met old v ≡ is_met new v) ⊎ IsOfPeriod periods b new v)
    → AreTurnedOfPeriods periods a b new
    → AreOfPeriods periods b new
of-periods-later periods a b old new le are changed turns v =
    elim (changed v) [ inr looked ↦ looked | inl same ↦ by (periods v) refl same ]
  where
    by : (o : Option Period) → periods v ≡ o → is_met old v ≡ is_met new v
        → is_met new v ≡ has_in b (periods v)
    by None is same = sym same ∙ (are v ∙ (ap (has_in a) is ∙ sym (ap (has_in b) is)))
    by (Some p) is same = elim (turns v p is) [
      | inl looked ↦ looked
      | inr s ↦ sym same ∙ (are v ∙ (ap (has_in a) is ∙ (has-stays a b p le s ∙ sym (ap (has_in b) is))))
    ]

pub of-periods-since : (periods : Periods) (a b : ℕ) (now : List Bool) (changed : List ℕ) → a ≤ b
    → WereOfPeriods periods a now changed → All (IsOfPeriod periods b now) changed
    → AreTurnedOfPeriods periods a b now → AreOfPeriods periods b now
of-periods-since periods a b now changed le (start, are, tells) all turns =
    of-periods-later periods a b start now le are
    (λ v. elim (tells v) [
      | inl same ↦ inl same
      | inr there ↦ inr (All-contains (IsOfPeriod periods b now) changed v all there)
    ])
    turns

-- ---- lists of turns

-- a number with a turn is in use
pub turn-below : (periods : Periods) (count : ℕ) → ((v : ℕ) → IsSome (periods v) → v < count)
    → (v : ℕ) (turn : Turn) → Contains (turns_of v (periods v)) turn → v < count
turn-below periods count within v turn there = by (periods v) refl there
  where
    by : (o : Option Period) → periods v ≡ o → Contains (turns_of v o) turn → v < count
    by None e (k, low, is) = absurd (omega (arith, low))
    by (Some p) e there = within v (ap is_some e)

-- the turns of the next number behind those of all before it
pub turns-more : (periods : Periods) (n v : ℕ) (period : Option Period) (old new : List Turn)
    → HasTurnsBelow periods n old → v ≡ n → period ≡ periods v → new ≡ old ++ turns_of v period
    → HasTurnsBelow periods (n + 1) new
turns-more periods n v period old new h same of is w turn low there =
    subst (λ (ts : List Turn). Contains ts turn) (sym is) (elim (cases_lt w n) [
      | inl less ↦ Contains-append_left old (turns_of v period) turn (h w turn less there)
      | inr high ↦ (let e : w ≡ v = omega (arith, low, high, same) in
          Contains-append_right old (turns_of v period) turn
          (subst (λ (o : Option Period). Contains (turns_of v o) turn) (sym of)
          (subst (λ (x : ℕ). Contains (turns_of x (periods x)) turn) e there)))
    ])

end-listed : (v : ℕ) (period : Period) (n : ℕ) → period.end ≡ Some n
    → Contains (turns_of v (Some period)) (turn_at v n)
end-listed v period n e =
    subst (λ (o : Option ℕ).
    Contains (turn_at v period.start ∷ map (turn_at v) (option_to_list o)) (turn_at v n))
    (sym e) (1, omega arith, refl)

module _ (turns : List Turn) (a b first end : ℕ)
    (lower : IsPartitionPoint (λ t. leb (checkpoint_of t) a ≡ true)
    (λ t. leb (checkpoint_of t) a ≡ false) turns first)
    (upper : IsPartitionPoint (λ t. leb (checkpoint_of t) b ≡ true)
    (λ t. leb (checkpoint_of t) b ≡ false) turns end) where
  -- what holds of a run of turns holds of a turn, or the turn is elsewhere
  run-or-else : (P : Turn → Type 0) (turn : Turn) → AllWithin P turns first end → Contains turns turn
      → P turn ⊎ ((turn.checkpoint ≤ a) ⊎ (b < turn.checkpoint))
  run-or-else P turn all (k, within, is) = elim (cases_lt k first) [
    | inl less ↦ inr (inl (subst (λ (t : Turn). t.checkpoint ≤ a) is
        (leb-true _ a (lower.0 k turn (omega arith) less))))
    | inr more ↦ elim (cases_lt k end) [
      | inl inside ↦ inl (subst P is (all k turn more inside))
      | inr past ↦ inr (inr (subst (λ (t : Turn). b < t.checkpoint) is
          (leb-false _ b (upper.1 k turn past within))))
    ]
  ]

  -- so it is enough to look at the run
  pub turned : (periods : Periods) (numbers : List Bool) → AreTurns periods turns
      → AllWithin (IsTurnOfPeriod periods b numbers) turns first end
      → AreTurnedOfPeriods periods a b numbers
  turned periods numbers t all v period is =
      elim (of_turn period.start (0, omega arith, refl)) [
        | inl looked ↦ inl looked
        | inr start ↦ by period.end refl start
      ]
    where
      of_turn : (c : ℕ) → Contains (turns_of v (Some period)) (turn_at v c)
          → IsOfPeriod periods b numbers v ⊎ ((c ≤ a) ⊎ (b < c))
      of_turn c there =
          run-or-else (IsTurnOfPeriod periods b numbers) (turn_at v c) all
          (t.all v (turn_at v c)
          (subst (λ (o : Option Period). Contains (turns_of v o) (turn_at v c)) (sym is) there))

      by : (end : Option ℕ) → period.end ≡ end → (period.start ≤ a) ⊎ (b < period.start)
          → IsOfPeriod periods b numbers v ⊎ StaysBetween a b period
      by None e start = inr (record {
        start = start;
        end = λ n here. absurd (let no : None ≡ Some n = sym e ∙ here in cc);
      })
      by (Some n) e start = elim (of_turn n (end-listed v period n e)) [
        | inl looked ↦ inl looked
        | inr end ↦ inr (record {
          start = start;
          end = λ m here.
              let both : Some n ≡ Some m = sym e ∙ here in
              let one : n ≡ m = cc in
              subst (λ (x : ℕ). (x ≤ a) ⊎ (b < x)) one end;
        })
      ]
