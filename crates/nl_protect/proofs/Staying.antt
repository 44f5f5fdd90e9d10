-- The first checkpoint that stays, and what has ended by it.
use Rattle.std.proofs.Common.{◌≡◌, ℕ, ◌≤◌, Bool, true, false, cond, List, [], ◌∷◌, ◌++◌, map, unwrap_or, Option, None, Some, refl, subst, sym, arith}
use Rattle.std.specs.Prelude.{◌||◌, ◌&&◌, nat_le, nat_lt}
use Rattle.std.specs.List.{AllByRecursion, filter, find, list_any}
use Rattle.std.specs.Option.{option_map}
use Rattle.std.proofs.lemmas.Bool.{false≢true, le-ltb, leb-true}
use Rattle.nl_types.specs.declared.period.Period.{Period}
use Rattle.nl_types.specs.declared.row.Row.{Row}
use Rattle.nl_types.specs.Blocks.Entries.{holds, is_period_needed}
use Rattle.nl_types.specs.Plain.Protection as protection
use Rattle.nl_types.specs.Plain.Rows.{number_of}
use Rattle.nl_cpfile.specs.declared.checkpoint.Checkpoint.{Checkpoint}
use Rattle.nl_cpfile.specs.Tables.{IsRising, Precedes, checkpoint_row, rows_of}
use Rattle.nl_protect.specs.Keeping.{first_staying, has_ended_by, is_staying}

-- none of these lies below a number
abbrev pub AreFrom : ℕ → List ℕ → Type 0
AreFrom first numbers = AllByRecursion (λ n. first ≤ n) numbers

module _ (below : ℕ) where
  abbrev staying_of : List Checkpoint → List ℕ
  staying_of xs = protection.staying_numbers below (rows_of xs)

  behind : (x : Checkpoint) (xs : List Checkpoint) → AllByRecursion (Precedes x) xs
      → AreFrom x.number (staying_of xs)
  behind x [] each = tt
  behind x (y ∷ xs) each =
      let up = each.0.number in
      elim (is_staying below y) as (λ b.
      AreFrom x.number
      (map number_of (cond b (checkpoint_row y ∷ filter (protection.is_staying below) (rows_of xs))
      (filter (protection.is_staying below) (rows_of xs))))) [
        | true ↦ (omega (arith, up), behind x xs each.1)
        | false ↦ behind x xs each.1
      ]

  -- none of those that stay lies below the first one, or the latest one
  pub stay-behind : (xs : List Checkpoint) (y : Checkpoint) → IsRising (xs ++ y ∷ [])
      → AreFrom (unwrap_or (first_staying below xs) y.number) (staying_of (xs ++ y ∷ []))
  stay-behind [] y rising =
      elim (is_staying below y) as (λ b.
      AreFrom y.number (map number_of (cond b (checkpoint_row y ∷ []) []))) [
        | true ↦ (omega arith, tt)
        | false ↦ tt
      ]
  stay-behind (x ∷ xs) y rising =
      let stay : List Row = filter (protection.is_staying below) (rows_of (xs ++ y ∷ [])) in
      elim (is_staying below x) as (λ b.
      AreFrom (unwrap_or
      (option_map (λ (c : Checkpoint). c.number) (cond b (Some x) (find (is_staying below) xs))) y.number)
      (map number_of (cond b (checkpoint_row x ∷ stay) stay))) [
        | true ↦ (omega arith, behind x (xs ++ y ∷ []) rising.0)
        | false ↦ stay-behind xs y rising.1
      ]

neither : (a : Bool) → ((a && false) || false) ≡ false
neither true = refl
neither false = refl

-- a period that has ended by a number holds none of those from that number on
none-held : (start end first : ℕ) (numbers : List ℕ) → end ≤ first → AreFrom first numbers
    → list_any (holds (record { start = start; end = Some end })) numbers ≡ false
none-held start end first [] by from = refl
none-held start end first (n ∷ numbers) by from =
    let up = from.0 in
    let past : nat_lt n end ≡ false = le-ltb n end (omega (arith, by, up)) in
    subst (λ b.
    ((nat_le start n && b) || list_any (holds (record { start = start; end = Some end })) numbers) ≡ false)
    (sym past)
    (subst (λ b. ((nat_le start n && false) || b) ≡ false) (sym (none-held start end first numbers by from.1))
    (neither (nat_le start n)))

pub ended-unneeded : (first : ℕ) (period : Period) (numbers : List ℕ) → AreFrom first numbers
    → has_ended_by first period.end ≡ true → is_period_needed numbers period ≡ false
ended-unneeded first period numbers from ended = by period.end ended
  where
    by : (o : Option ℕ) → has_ended_by first o ≡ true
        → is_period_needed numbers (record { start = period.start; end = o }) ≡ false
    by None ended = absurd (false≢true ended)
    by (Some end) ended = none-held period.start end first numbers (leb-true end first ended) from
