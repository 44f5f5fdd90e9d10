-- What an expiry takes out of the kept checkpoints.
use Rattle.std.proofs.Common.{◌≡◌, ◌⊎◌, inl, inr, ℕ, ◌-◌, ◌<◌, ◌≤◌, ◌&&◌, Bool, true, false, cond, eqb, List, [], ◌∷◌, ◌++◌, map, Option, None, Some, refl, sym, ap, subst, ◌∙◌, arith}
use Rattle.std.specs.Prelude.{◌||◌, slice_get}
use Rattle.std.specs.List.{AllByRecursion, filter}
use Rattle.std.specs.Option.{IfSome, is_none}
use Rattle.std.proofs.lemmas.Bool.{cases_Bool, cases_lt, eqb-true, eq-eqb, le-leb, lt-ltb, ltb-true, ne_eqb, or_left, or_right}
use Rattle.nl_types.specs.Blocks.NeedLaws.{AreGone}
use Rattle.nl_types.specs.Plain.NumberLists.{is_one_of}
use Rattle.nl_types.specs.Plain.Protection.{expired, is_below, is_staying, staying_numbers}
use Rattle.nl_types.specs.Plain.Rows.{is_snapshot, may_go, number_of}
use Rattle.nl_types.specs.declared.error.VolError.TheVariants as error
use Rattle.nl_types.specs.declared.row.Row.{Row}
use Rattle.nl_cpfile.specs.declared.checkpoint.Checkpoint.{Checkpoint}
use Rattle.nl_cpfile.specs.Searching.{IsLeastAbove}
use Rattle.nl_cpfile.specs.Tables.{IsRising, Precedes, Table, all, kept_numbers, checkpoint_row, rows, rows_of}

-- ---- numbers among others

first-or_later : (n : ℕ) (ns : List ℕ) (c : ℕ) → is_one_of (n ∷ ns) c ≡ true
    → (c ≡ n) ⊎ (is_one_of ns c ≡ true)
first-or_later n ns c among = elim (cases_Bool (eqb c n)) [
  | inl here ↦ inl (eqb-true c n here)
  | inr other ↦ inr (sym (ap (λ t. t || is_one_of ns c) other) ∙ among)
]

among-first : (n : ℕ) (ns : List ℕ) (c : ℕ) → c ≡ n → is_one_of (n ∷ ns) c ≡ true
among-first n ns c same = or_left (eqb c n) (is_one_of ns c) (eq-eqb c n same)

among-later : (n : ℕ) (ns : List ℕ) (c : ℕ) → is_one_of ns c ≡ true → is_one_of (n ∷ ns) c ≡ true
among-later n ns c later = or_right (eqb c n) (is_one_of ns c) later

among-head : (ns : List ℕ) (first : ℕ) → slice_get ns 0 ≡ Some first → is_one_of ns first ≡ true
among-head [] first head = cc
among-head (n ∷ ns) first head = let same : first ≡ n = cc in among-first n ns first same

none-among : (ns : List ℕ) (c : ℕ) → slice_get ns 0 ≡ None → is_one_of ns c ≡ true → ⊥
none-among [] c none among = cc
none-among (n ∷ ns) c none among = cc

among-last : (xs : List Checkpoint) (y : Checkpoint) → is_one_of (kept_numbers (xs ++ y ∷ [])) y.number ≡ true
among-last [] y = among-first y.number [] y.number refl
among-last (x ∷ xs) y = among-later x.number (kept_numbers (xs ++ y ∷ [])) y.number (among-last xs y)

numbers-of_rows : (xs : List Checkpoint) → map number_of (rows_of xs) ≡ kept_numbers xs
numbers-of_rows [] = refl
numbers-of_rows (x ∷ xs) = ap (λ ns. x.number ∷ ns) (numbers-of_rows xs)

above : (x : Checkpoint) (xs : List Checkpoint) (c : ℕ) → AllByRecursion (Precedes x) xs
    → is_one_of (map number_of (rows_of xs)) c ≡ true → x.number < c
above x [] c each among = cc
above x (z ∷ xs) c each among =
    let up = each.0.number in
    elim (first-or_later z.number (map number_of (rows_of xs)) c among) [
      | inl same ↦ omega (arith, up, same)
      | inr later ↦ above x xs c each.1 later
    ]

-- ---- the numbers of those that pass a test

module _ (p : Row → Bool) where
  abbrev passing : List Row → List ℕ
  passing rows = map number_of (filter p rows)

  passing-here : (row : Row) (rows : List Row) → p row ≡ true
      → is_one_of (passing (row ∷ rows)) row.number ≡ true
  passing-here row rows is =
      ap (λ b. is_one_of (map number_of (cond b (row ∷ filter p rows) (filter p rows))) row.number) is
      ∙ among-first row.number (passing rows) row.number refl

  passing-later : (row : Row) (rows : List Row) (c : ℕ) → is_one_of (passing rows) c ≡ true
      → is_one_of (passing (row ∷ rows)) c ≡ true
  passing-later row rows c later =
      elim (p row) as (λ b.
      is_one_of (map number_of (cond b (row ∷ filter p rows) (filter p rows))) c ≡ true) [
        | true ↦ among-later row.number (passing rows) c later
        | false ↦ later
      ]

  -- each of them is one of all, and passes
  passing-is : (rows : List Row) (c : ℕ) → is_one_of (passing rows) c ≡ true
      → (is_one_of (map number_of rows) c ≡ true) × (row : Row) × (row.number ≡ c) × (p row ≡ true)
  passing-is [] c among = cc
  passing-is (row ∷ rows) c among =
      elim (p row) as (λ b.
      p row ≡ b → is_one_of (map number_of (cond b (row ∷ filter p rows) (filter p rows))) c ≡ true
      → (is_one_of (map number_of (row ∷ rows)) c ≡ true) × (r : Row) × (r.number ≡ c) × (p r ≡ true)) [
        | true ↦ λ is one. elim (first-or_later row.number (passing rows) c one) [
          | inl same ↦ (among-first row.number (map number_of rows) c same, row, sym same, is)
          | inr later ↦ behind (passing-is rows c later)
        ]
        | false ↦ λ is later. behind (passing-is rows c later)
      ] refl among
    where
      behind : (is_one_of (map number_of rows) c ≡ true) × (r : Row) × (r.number ≡ c) × (p r ≡ true)
          → (is_one_of (map number_of (row ∷ rows)) c ≡ true) × (r : Row) × (r.number ≡ c) × (p r ≡ true)
      behind (one, r, same, is) = (among-later row.number (map number_of rows) c one, r, same, is)

  -- the first of them is the least
  passing-least : (xs : List Checkpoint) (first c : ℕ) → IsRising xs
      → slice_get (passing (rows_of xs)) 0 ≡ Some first → is_one_of (passing (rows_of xs)) c ≡ true
      → first ≤ c
  passing-least [] first c rising head among = cc
  passing-least (x ∷ xs) first c rising head among =
      let rest : List Row = filter p (rows_of xs) in
      elim (p (checkpoint_row x)) as (λ b.
      slice_get (map number_of (cond b (checkpoint_row x ∷ rest) rest)) 0 ≡ Some first
      → is_one_of (map number_of (cond b (checkpoint_row x ∷ rest) rest)) c ≡ true → first ≤ c) [
        | true ↦ λ here one.
            let is : x.number ≡ first = cc in
            elim (first-or_later x.number (map number_of rest) c one) [
              | inl same ↦ omega (arith, is, same)
              | inr later ↦
                  let up = above x xs c rising.0 (passing-is (rows_of xs) c later).0 in omega (arith, is, up)
            ]
        | false ↦ λ here one. passing-least xs first c rising.1 here one
      ] head among

-- ---- what stays, and what expires

module _ (below latest : ℕ) where
  abbrev is_expiring : Row → Bool
  is_expiring row = is_below below row && may_go latest row

  expired-is : (rows : List Row)
      → filter (may_go latest) (filter (is_below below) rows) ≡ filter is_expiring rows
  expired-is [] = refl
  expired-is (row ∷ rows) =
      elim (is_below below row) as (λ b.
      filter (may_go latest) (cond b (row ∷ filter (is_below below) rows) (filter (is_below below) rows))
      ≡ cond (b && may_go latest row) (row ∷ filter is_expiring rows) (filter is_expiring rows)) [
        | true ↦ ap (λ (rest : List Row). cond (may_go latest row) (row ∷ rest) rest) (expired-is rows)
        | false ↦ expired-is rows
      ]

  is_expiring-low : (row : Row) → is_expiring row ≡ true → row.number < below
  is_expiring-low row is = ltb-true row.number below (first (is_below below row) is)
    where
      first : (b : Bool) → (b && may_go latest row) ≡ true → b ≡ true
      first true is = refl
      first false is = is

  expired-low : (rows : List Row) (c : ℕ) → is_one_of (expired below latest rows) c ≡ true → c < below
  expired-low rows c one =
      let (among, row, same, is) =
      passing-is is_expiring rows c
      (sym (ap (λ (rs : List Row). is_one_of (map number_of rs) c) (expired-is rows)) ∙ one) in
      let under = is_expiring-low row is in
      omega (arith, under, same)

  -- where one expires, it lies below the boundary
  pub first-low : (rows : List Row) (found : Option ℕ) → found ≡ slice_get (expired below latest rows) 0
      → IfSome found (λ first. first < below)
  first-low rows None is = tt
  first-low rows (Some first) is =
      expired-low rows first (among-head (expired below latest rows) first (sym is))

  is_staying-from : (row : Row) → below ≤ row.number → is_staying below row ≡ true
  is_staying-from row le = or_right (is_snapshot row.mode) _ (le-leb below row.number le)

  -- a row does the one or the other
  stays-or_expires : (row : Row) → below ≤ latest → (is_staying below row ≡ true) ⊎ (is_expiring row ≡ true)
  stays-or_expires row low = elim (cases_lt row.number below) [
    | inr past ↦ inl (is_staying-from row past)
    | inl under ↦ elim (cases_Bool (is_snapshot row.mode)) [
      | inl snapshot ↦ inl (or_left (is_snapshot row.mode) _ snapshot)
      | inr plain ↦ inr (
          ap (λ b. b && may_go latest row) (lt-ltb row.number below under)
          ∙ ap (λ s.
          is_none (cond s (Some error.IsSnapshot) (cond (eqb row.number latest) (Some error.Latest) None)))
          plain
          ∙ ap (λ e. is_none (cond e (Some error.Latest) None))
          (ne_eqb row.number latest (λ same. absurd (omega (arith, under, same)))))
    ]
  ]

  each-stays_or_expires : (rows : List Row) (c : ℕ) → below ≤ latest → is_one_of (map number_of rows) c ≡ true
      → (is_one_of (passing (is_staying below) rows) c ≡ true)
      ⊎ (is_one_of (passing is_expiring rows) c ≡ true)
  each-stays_or_expires [] c low among = cc
  each-stays_or_expires (row ∷ rows) c low among =
      elim (first-or_later row.number (map number_of rows) c among) [
        | inl same ↦ elim (stays-or_expires row low) [
          | inl stays ↦
              inl (subst (λ n. is_one_of (passing (is_staying below) (row ∷ rows)) n ≡ true) (sym same)
              (passing-here (is_staying below) row rows stays))
          | inr goes ↦
              inr (subst (λ n. is_one_of (passing is_expiring (row ∷ rows)) n ≡ true) (sym same)
              (passing-here is_expiring row rows goes))
        ]
        | inr later ↦ elim (each-stays_or_expires rows c low later) [
          | inl stays ↦ inl (passing-later (is_staying below) row rows c stays)
          | inr goes ↦ inr (passing-later is_expiring row rows c goes)
        ]
      ]

  from-stays : (rows : List Row) (c : ℕ) → below ≤ c → is_one_of (map number_of rows) c ≡ true
      → is_one_of (passing (is_staying below) rows) c ≡ true
  from-stays [] c le among = cc
  from-stays (row ∷ rows) c le among = elim (first-or_later row.number (map number_of rows) c among) [
    | inl same ↦
        subst (λ n. is_one_of (passing (is_staying below) (row ∷ rows)) n ≡ true) (sym same)
        (passing-here (is_staying below) row rows (is_staying-from row (omega (arith, le, same))))
    | inr later ↦ passing-later (is_staying below) row rows c (from-stays rows c le later)
  ]

-- ---- the run

module _ (t : Table) (below : ℕ) (low : below ≤ t.latest.number) where
  abbrev kept : List ℕ
  kept = kept_numbers (all t)

  abbrev gone : List ℕ
  gone = expired below t.latest.number (rows t)

  among-rows : (c : ℕ) → is_one_of kept c ≡ true → is_one_of (map number_of (rows t)) c ≡ true
  among-rows c one = ap (λ ns. is_one_of ns c) (numbers-of_rows (all t)) ∙ one

  gone-is : gone ≡ passing (is_expiring below t.latest.number) (rows t)
  gone-is = ap (map number_of) (expired-is below t.latest.number (rows t))

  -- a run that begins no later than what expires, and ends with a kept one from the boundary on
  run-of : (first next : ℕ) → is_one_of kept next ≡ true → below ≤ next
      → ((c : ℕ) → is_one_of gone c ≡ true → first ≤ c)
      → AreGone first next kept (staying_numbers below (rows t))
  run-of first next kept-next from least = record {
    next_stays = from-stays below t.latest.number (rows t) next from (among-rows next kept-next);
    gone = λ c one. elim (each-stays_or_expires below t.latest.number (rows t) c low (among-rows c one)) [
      | inl stays ↦ inl stays
      | inr goes ↦
          let here : is_one_of gone c ≡ true = ap (λ ns. is_one_of ns c) gone-is ∙ goes in
          let from-first = least c here in
          let under = expired-low below t.latest.number (rows t) c here in
          inr (from-first, omega (arith, under, from))
    ];
    fewer = λ c stays.
        sym (ap (λ ns. is_one_of ns c) (numbers-of_rows (all t)))
        ∙ (passing-is (is_staying below) (rows t) c stays).0;
  }

  pub run-some : (first next : ℕ) → IsRising (all t) → slice_get gone 0 ≡ Some first
      → IsLeastAbove (below - 1) kept next
      → AreGone first next kept (staying_numbers below (rows t))
  run-some first next rising head is =
      let up = is.above in
      run-of first next is.among (omega (arith, up)) (λ c one.
      passing-least (is_expiring below t.latest.number) (all t) first c rising
      (sym (ap (λ ns. slice_get ns 0) gone-is) ∙ head) (sym (ap (λ ns. is_one_of ns c) gone-is) ∙ one))

  pub run-none : slice_get gone 0 ≡ None
      → AreGone t.latest.number t.latest.number kept (staying_numbers below (rows t))
  run-none none =
      run-of t.latest.number t.latest.number (among-last t.earlier t.latest) low
      (λ c one. absurd (none-among gone c none one))
