-- What an expiry takes out, and where the boundary of protection lies.
use Rattle.std.proofs.Common.{◌≡◌, ℕ, ◌+◌, ◌-◌, ◌<◌, ◌≤◌, Bool, true, false, cond, ◌&&◌, ◌||◌, not, min, List, [], ◌∷◌, map, Option, Some, None, Result, Ok, Err, refl, sym, ap, ◌∙◌, subst, true≢false, arith, is_some, inl, inr, ⊎_elim, ltb, leb, ltb-true, lt-ltb, leb-true, le-leb, eqb-true, eq-eqb}
use Rattle.std.specs.Prelude.{◌==◌, nat_lt}
use Rattle.std.specs.List.{filter, list_all, list_any}
use Rattle.std.specs.Option.{option_map_or, unwrap_or}
use Rattle.std.proofs.lemmas.Bool.{and_parts, and_from, cases_Bool, cases_lt, or_cases, or_parts}
use Rattle.std.specs.Ordering.{nat_cmp, eq_by_cmp}
use Rattle.std.specs.FinMap.{find, is_sorted}
use Rattle.nl_types.specs.declared.error.VolError.{VolError}
use Rattle.nl_types.specs.declared.error.VolError.TheVariants as error
use Rattle.nl_types.specs.declared.reply.Answer.TheVariants as answer
use Rattle.nl_types.specs.declared.row.Range.{Range}
use Rattle.nl_types.specs.declared.row.Row.{Row}
use Rattle.nl_types.specs.Plain.Limits.{checkpoint_number_limit}
use Rattle.nl_types.specs.Plain.Protection.{is_below, least, protected}
use Rattle.nl_types.specs.Plain.NumberLists.{is_one_of}
use Rattle.nl_types.specs.Plain.Rows.{is_between, rows_between, is_snapshot, judged_range, number_of, range_removal, removable}
use Rattle.nl_types.specs.Plain.Worlds.{World, Copy, IsWorld, Outcome, Reply, boundary_of, copy_at, expiry_of, latest, copy_row, rows}
use Rattle.nl_types.specs.Plain.CheckpointLaws.{BoundariesAreLeastProtected, ExpiriesAnswerExpiring, ExpiriesAreRemovals, ExpiriesTakeExpiring, IsBoundary, is_expiring, is_protected_at, is_removable, removed_by, where_passes}
use Rattle.nl_types.specs.Facts.Booleans.{not_true}
use Rattle.nl_types.specs.Facts.NumberedParts.{find-filter, is_one_of-find, tied-same}
use Rattle.nl_types.specs.Facts.ToldCopies.{range_of}
use Rattle.nl_types.specs.Facts.TakenOut.{AllMayGo, among-range, copy_at-take_out, range_may_go}

-- ---- what lies below a boundary

-- the numbers of copies are from 1 on
abbrev IsInLimits : ℕ × Copy → Bool
IsInLimits c = ltb 0 c.0 && ltb c.0 checkpoint_number_limit

abbrev AreInLimits : World → Type 0
AreInLimits w = list_all IsInLimits w.copies ≡ true

-- a number from 1 on lies below a boundary where it lies in the range that ends there
below-between : (b n : ℕ) → 0 < n → ltb n b ≡ (leb 1 n && leb n (b - 1))
below-between b n first = elim (cases_Bool (ltb n b)) [
  | inl low ↦
      let lt : n < b = ltb-true n b low in
      low
      ∙ sym (and_from (leb 1 n) (leb n (b - 1)) (le-leb 1 n (omega arith)) (le-leb n (b - 1) (omega arith)))
  | inr high ↦ high ∙ sym (not_true (leb 1 n && leb n (b - 1)) (λ both.
      let parts = and_parts (leb 1 n) (leb n (b - 1)) both in
      let le : n ≤ b - 1 = leb-true n (b - 1) parts.1 in
      let lt : n < b = omega arith in
      true≢false (sym (lt-ltb n b lt) ∙ high)))
]

above-zero : (c : ℕ × Copy) → IsInLimits c ≡ true → 0 < c.0
above-zero c is = ltb-true 0 c.0 (and_parts (ltb 0 c.0) (ltb c.0 checkpoint_number_limit) is).0

rows-below : (b : ℕ) (copies : List (ℕ × Copy)) → list_all IsInLimits copies ≡ true
    → filter (is_below b) (map copy_row copies) ≡ rows_between 1 (b - 1) (map copy_row copies)
rows-below b [] fit = refl
rows-below b (c ∷ copies) fit =
    let parts = and_parts (IsInLimits c) (list_all IsInLimits copies) fit in
    let here = below-between b c.0 (above-zero c parts.0) in
    let rest = rows-below b copies parts.1 in
    λ i. cond (here i) (copy_row c ∷ rest i) (rest i)

-- an expiry takes out what the removal of that range would
pub expiry-range : (w : World) (now period : ℕ) → AreInLimits w
    → expiry_of w now period ≡ (range_of w 1 (boundary_of w now period - 1)).removed
expiry-range w now period fit = ap (removable (latest w)) (rows-below (boundary_of w now period) w.copies fit)

pub expiry_may_go : (w : World) (now period : ℕ) → AreInLimits w → is_sorted nat_cmp w.copies ≡ true
    → AllMayGo w (expiry_of w now period)
expiry_may_go w now period fit sorted =
    subst (AllMayGo w) (sym (expiry-range w now period fit))
    (range_may_go w 1 (boundary_of w now period - 1) sorted)

-- ---- the copies that go

found-above_zero : (copies : List (ℕ × Copy)) (n : ℕ) → list_all IsInLimits copies ≡ true
    → is_some (find nat_cmp n copies) ≡ true → 0 < n
found-above_zero [] n fit there = absurd (true≢false (sym there))
found-above_zero (c ∷ copies) n fit there =
    let parts = and_parts (IsInLimits c) (list_all IsInLimits copies) fit in
    elim (eq_by_cmp nat_cmp n c.0) as (λ t.
    eq_by_cmp nat_cmp n c.0 ≡ t → is_some (cond t (Some c.1) (find nat_cmp n copies)) ≡ true → 0 < n) [
      | true ↦ λ tied _.
          let same : n ≡ c.0 = tied-same n c.0 tied in
          let low : 0 < c.0 = above-zero c parts.0 in
          omega arith
      | false ↦ λ _ later. found-above_zero copies n parts.1 later
    ] refl there

among-expiry : (w : World) (now period n : ℕ) → IsWorld w
    → is_one_of (expiry_of w now period) n ≡ option_map_or (is_expiring w now period n) (copy_at w n) false
among-expiry w now period n world =
    ap (λ ns. is_one_of ns n) (expiry-range w now period world.numbers_fit)
    ∙ among-range w 1 (boundary_of w now period - 1) n world.numbers_rise
    ∙ by (copy_at w n) refl
  where
    by : (o : Option Copy) → copy_at w n ≡ o
        → option_map_or (is_removable w 1 (boundary_of w now period - 1) n) o false
        ≡ option_map_or (is_expiring w now period n) o false
    by None kept = refl
    by (Some copy) kept =
        let first = found-above_zero w.copies n world.numbers_fit (ap is_some kept) in
        ap (λ b. b && not (is_snapshot copy.mode || n == latest w))
        (sym (below-between (boundary_of w now period) n first))

-- what an expiry answers
abbrev gone_in : Reply → List ℕ
gone_in (Ok (answer.Expired gone)) = gone
gone_in _ = []

pub expiries_answer_expiring : ExpiriesAnswerExpiring
expiries_answer_expiring cleaned old new now period gone world is n =
    ap (λ ns. is_one_of ns n) (sym (ap (λ (o : Outcome). gone_in o.0) is))
    ∙ among-expiry old now period n world

pub expiries_take_expiring : ExpiriesTakeExpiring
expiries_take_expiring cleaned old new now period gone world is n =
    ap (λ (o : Outcome). copy_at o.1 n) (sym is) ∙ copy_at-take_out old (expiry_of old now period) n
    ∙ ap (λ b. cond b None (copy_at old n)) (among-expiry old now period n world)
    ∙ by (copy_at old n)
  where
    by : (o : Option Copy)
        → cond (option_map_or (is_expiring old now period n) o false) None o
        ≡ where_passes (λ copy. not (is_expiring old now period n copy)) o
    by None = refl
    by (Some copy) =
        elim (is_expiring old now period n copy) as (λ b.
        cond b None (Some copy) ≡ cond (not b) (Some copy) None)
        [ true ↦ refl | false ↦ refl ]

-- ---- the removal of a range

none-between : (last : ℕ) (rs : List Row) → list_any (is_between 1 last) rs ≡ false
    → rows_between 1 last rs ≡ []
none-between last [] is = refl
none-between last (r ∷ rs) is =
    let parts = or_parts (is_between 1 last r) (list_any (is_between 1 last) rs) is in
    ap (λ t. cond t (r ∷ rows_between 1 last rs) (rows_between 1 last rs)) parts.0
    ∙ none-between last rs parts.1

empty-range : (last : ℕ) (rs : List Row) → ltb last 1 ≡ true → list_any (is_between 1 last) rs ≡ false
empty-range last [] is = refl
empty-range last (r ∷ rs) is =
    ap (λ t. t || list_any (is_between 1 last) rs) (not_true (is_between 1 last r) outside)
    ∙ empty-range last rs is
  where
    outside : is_between 1 last r ≡ true → ⊥
    outside both =
        let parts = and_parts (leb 1 r.number) (leb r.number last) both in
        let low : 1 ≤ r.number = leb-true 1 r.number parts.0 in
        let high : r.number ≤ last = leb-true r.number last parts.1 in
        let under : last < 1 = ltb-true last 1 is in
        absurd (omega arith)

-- what is removed, be the range refused or not
removed-is : (last latest : ℕ) (rs : List Row)
    → removed_by (range_removal 1 last latest rs) ≡ removable latest (rows_between 1 last rs)
removed-is last latest rs =
    let found : Result Range VolError = Ok (judged_range latest (rows_between 1 last rs)) in
    let some = list_any (is_between 1 last) rs in
    elim (ltb last 1) as (λ b.
    ltb last 1 ≡ b
    → removed_by (cond b (Err error.BadRange) (cond (not some) (Err error.NoCheckpoint) found))
    ≡ removable latest (rows_between 1 last rs)) [
      | true ↦ λ bad. sym (ap (removable latest) (none-between last rs (empty-range last rs bad)))
      | false ↦
          λ _.
          elim (list_any (is_between 1 last) rs) as (λ b.
          list_any (is_between 1 last) rs ≡ b
          → removed_by (cond (not b) (Err error.NoCheckpoint) found)
          ≡ removable latest (rows_between 1 last rs)) [
            | true ↦ λ _. refl
            | false ↦ λ none. sym (ap (removable latest) (none-between last rs none))
          ] refl
    ] refl

pub expiries_are_removals : ExpiriesAreRemovals
expiries_are_removals w now period world =
    expiry-range w now period world.numbers_fit
    ∙ sym (removed-is (boundary_of w now period - 1) (latest w) (rows w))

-- ---- the boundary

-- n is one of the numbers, and none is below it
record IsLeast (ns : List ℕ) (n : ℕ) : Type 0 where
  pub among : is_one_of ns n ≡ true
  pub lowest : (m : ℕ) → is_one_of ns m ≡ true → n ≤ m

least-none : (ns : List ℕ) → least ns ≡ None → ns ≡ []
least-none [] is = refl
least-none (n ∷ ns) is = absurd (true≢false (ap is_some is))

among_first : (x : ℕ) (ns : List ℕ) (n : ℕ) → x ≡ n → is_one_of (x ∷ ns) n ≡ true
among_first x ns n is = ap (λ b. b || is_one_of ns n) (eq-eqb n x (sym is))

among_rest : (x : ℕ) (ns : List ℕ) (n : ℕ) → is_one_of ns n ≡ true → is_one_of (x ∷ ns) n ≡ true
among_rest x ns n is = elim (n == x) as (λ b. b || is_one_of ns n ≡ true) [ true ↦ refl | false ↦ is ]

-- a bound on the first number and on the others is one on all
bound_all : (x : ℕ) (ns : List ℕ) (low : ℕ) → low ≤ x → ((k : ℕ) → is_one_of ns k ≡ true → low ≤ k) → (k : ℕ)
    → is_one_of (x ∷ ns) k ≡ true → low ≤ k
bound_all x ns low first others k among =
    ⊎_elim (λ is. let same : k ≡ x = eqb-true k x is in omega arith) (λ rest. others k rest)
    (or_cases (k == x) (is_one_of ns k) among)

least-some : (ns : List ℕ) (n : ℕ) → least ns ≡ Some n → IsLeast ns n
least-some [] n is = absurd (true≢false (sym (ap is_some is)))
least-some (x ∷ ns) n is =
    elim (least ns) as (λ o. least ns ≡ o → Some (option_map_or (min x) o x) ≡ Some n → IsLeast (x ∷ ns) n) [
      | None ↦ λ none one.
          let same : x ≡ n = ap (λ o. unwrap_or o 0) one in
          record {
            among = among_first x ns n same;
            lowest =
                bound_all x ns n (omega arith)
                (λ k among.
                absurd (true≢false (sym among ∙ ap (λ ms. is_one_of ms k) (least-none ns none))));
          }
      | Some m ↦ λ found one.
          let same : min x m ≡ n = ap (λ o. unwrap_or o 0) one in
          let rest = least-some ns m found in
          record {
            among = ⊎_elim
                (λ below.
                let is_m : m ≡ n = omega arith in
                among_rest x ns n (subst (λ k. is_one_of ns k ≡ true) is_m rest.among))
                (λ above. among_first x ns n (omega arith)) (cases_lt m x);
            lowest =
                bound_all x ns n (omega arith)
                (λ k among. let low : m ≤ k = rest.lowest k among in omega arith);
          }
    ] refl is

module _ (now period : ℕ) where
  protected-numbers : (copies : List (ℕ × Copy))
      → map number_of (protected now period (map copy_row copies))
      ≡ map (λ c. c.0) (filter (λ c. nat_lt now (c.1.stamp + period)) copies)
  protected-numbers [] = refl
  protected-numbers (c ∷ copies) =
      let rest = protected-numbers copies in
      elim (nat_lt now (c.1.stamp + period)) as (λ b.
      map number_of (cond b (copy_row c ∷ protected now period (map copy_row copies))
      (protected now period (map copy_row copies)))
      ≡ map (λ d. d.0)
      (cond b (c ∷ filter (λ d. nat_lt now (d.1.stamp + period)) copies)
      (filter (λ d. nat_lt now (d.1.stamp + period)) copies))) [
        | true ↦ ap (λ ns. c.0 ∷ ns) rest
        | false ↦ rest
      ]

  among-protected : (w : World) (n : ℕ) → is_sorted nat_cmp w.copies ≡ true
      → is_one_of (map number_of (protected now period (rows w))) n ≡ is_protected_at w now period n
  among-protected w n sorted =
      ap (λ ns. is_one_of ns n) (protected-numbers w.copies)
      ∙ is_one_of-find (filter (λ c. nat_lt now (c.1.stamp + period)) w.copies) n
      ∙ ap is_some (find-filter (λ _ copy. nat_lt now (copy.stamp + period)) w.copies n sorted)
      ∙ by (copy_at w n)
    where
      by : (o : Option Copy)
          → is_some (where_passes (λ (copy : Copy). nat_lt now (copy.stamp + period)) o)
          ≡ option_map_or (λ (copy : Copy). nat_lt now (copy.stamp + period)) o false
      by None = refl
      by (Some copy) =
          elim (nat_lt now (copy.stamp + period)) as (λ b. is_some (cond b (Some copy) None) ≡ b)
          [ true ↦ refl | false ↦ refl ]

pub boundaries_are_least_protected : BoundariesAreLeastProtected
boundaries_are_least_protected w now period world =
    let ns = map number_of (protected now period (rows w)) in
    let among : (n : ℕ) → is_one_of ns n ≡ is_protected_at w now period n = λ n.
    among-protected now period w n world.numbers_rise in
    elim (least ns) as (λ o. least ns ≡ o → IsBoundary w now period (unwrap_or o (latest w))) [
      | None ↦ λ none. record {
        protects = λ n is.
            absurd (true≢false (sym (among n ∙ is) ∙ ap (λ ms. is_one_of ms n) (least-none ns none)));
        falls_back = λ _. refl;
      }
      | Some b ↦ λ found.
          let is = least-some ns b found in
          record {
            protects = λ n protected. (sym (among b) ∙ is.among, is.lowest n (among n ∙ protected));
            falls_back = λ none. absurd (true≢false (sym (sym (among b) ∙ is.among) ∙ none b));
          }
    ] refl
