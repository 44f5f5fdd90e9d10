-- What checkpoints and their removal do to needs.
use Rattle.std.proofs.Common.{◌≡◌, ℕ, ◌+◌, ◌<◌, ◌≤◌, Bool, true, false, eqb, List, [], ◌∷◌, ◌++◌, Option, Some, None, inl, inr, ◌⊎◌, sym, refl, ap, ◌∙◌, arith}
use Rattle.std.specs.Prelude.{◌||◌, is_none, nat_lt}
use Rattle.std.specs.List.{list_any}
use Rattle.std.proofs.lemmas.Bool.{cases_Bool, eqb-true, both_ways, eq-eqb, ltb-true, lt-ltb, ltb-false, or_left, or_right}
use Rattle.std.proofs.lemmas.List.Folds.{list_any-append}
use Rattle.nl_types.specs.Plain.NumberLists.{is_one_of}
use Rattle.nl_types.specs.Blocks.Entries.{Birth, Entry, covers, ended_at, is_before_end, is_needed, written_at}
use Rattle.nl_types.specs.Blocks.NeedLaws.{CheckpointsKeepNeeds, LostNumbersEndInTheRun, RemovalsNeedNoMore}
use Rattle.nl_types.specs.Facts.PartialMaps.{or_false}
use Rattle.nl_types.specs.Facts.WrittenEntries.{written-at}
use Rattle.nl_types.specs.Facts.ExactLifetimes.{covers_parts, covers_from}

-- ---- which of the checkpoints have a number

some_covers : (e : Entry) (gone : List ℕ) → list_any (λ c. covers c e) gone ≡ true
    → (c : ℕ) × (is_one_of gone c ≡ true) × (covers c e ≡ true)
some_covers e [] some = cc
some_covers e (c ∷ gone) some = elim (cases_Bool (covers c e)) [
  | inl here ↦ (c, or_left (eqb c c) (is_one_of gone c) (eq-eqb c c refl), here)
  | inr other ↦
      let rest = some_covers e gone (sym (ap (λ t. t || list_any (λ c. covers c e) gone) other) ∙ some) in
      (rest.0, or_right (eqb rest.0 c) (is_one_of gone rest.0) rest.1, rest.2)
]

none_covers : (e : Entry) (c : ℕ) (kept : List ℕ) → list_any (λ k. covers k e) kept ≡ false
    → is_one_of kept c ≡ true → covers c e ≡ false
none_covers e c [] none among = cc
none_covers e c (k ∷ kept) none among =
    let parts = or_false (covers k e) (list_any (λ k. covers k e) kept) none in
    elim (cases_Bool (eqb c k)) [
      | inl same ↦ ap (λ (n : ℕ). covers n e) (eqb-true c k same) ∙ parts.0
      | inr other ↦ none_covers e c kept parts.1 (sym (ap (λ t. t || is_one_of kept c) other) ∙ among)
    ]

one_covers : (e : Entry) (c : ℕ) (kept : List ℕ) → is_one_of kept c ≡ true → covers c e ≡ true
    → list_any (λ k. covers k e) kept ≡ true
one_covers e c kept among covering = elim (cases_Bool (list_any (λ k. covers k e) kept)) [
  | inl some ↦ some
  | inr none ↦ absurd (both_ways (covers c e) (none_covers e c kept none among) covering)
]

-- ---- removals

pub needs-no-more : RemovalsNeedNoMore
needs-no-more first next kept stay e gone needed = elim (cases_Bool (is_none e.end)) [
  | inl live ↦ or_left (is_none e.end) (list_any (λ c. covers c e) kept) live
  | inr ended ↦
      let (c, among, covering) =
      some_covers e stay (sym (ap (λ b. b || list_any (λ c. covers c e) stay) ended) ∙ needed) in
      or_right (is_none e.end) (list_any (λ c. covers c e) kept)
      (one_covers e c kept (gone.fewer c among) covering)
]

pub lost-ends : LostNumbersEndInTheRun
lost-ends first next kept stay e gone needed lost = by e.end refl (some_covers e kept some)
  where
    unneeded : (is_none e.end ≡ false) × (list_any (λ c. covers c e) stay ≡ false)
    unneeded = or_false (is_none e.end) (list_any (λ c. covers c e) stay) lost

    some : list_any (λ c. covers c e) kept ≡ true
    some = sym (ap (λ b. b || list_any (λ c. covers c e) kept) unneeded.0) ∙ needed

    apart : covers next e ≡ false
    apart = none_covers e next stay unneeded.1 gone.next_stays

    ends : (end c : ℕ) → e.end ≡ Some end → (first ≤ c) × (c < next) → covers c e ≡ true
        → (first < end) × (end ≤ next)
    ends end c is within covering =
        let parts = covers_parts c e covering in
        let before : c < end = ltb-true c end (sym (ap (is_before_end c) is) ∙ parts.1) in
        let low : e.start ≤ next = omega (arith, parts.0, within.1) in (
          omega (arith, within.0, before),
          elim (cases_Bool (nat_lt next end)) [
            | inl past ↦
                absurd
                (both_ways (covers next e) apart (covers_from next e low (ap (is_before_end next) is ∙ past)))
            | inr not_past ↦ ltb-false next end not_past
          ],
        )

    by : (o : Option ℕ) → e.end ≡ o → (c : ℕ) × (is_one_of kept c ≡ true) × (covers c e ≡ true)
        → (end : ℕ) × (e.end ≡ Some end) × (first < end) × (end ≤ next)
    by None is found = absurd (both_ways (is_none e.end) unneeded.0 (ap is_none is))
    by (Some end) is (c, among, covering) = elim (gone.gone c among) [
      | inl stays ↦ absurd (both_ways (covers c e) (none_covers e c stay unneeded.1 stays) covering)
      | inr within ↦ let run = ends end c is within covering in (end, is, run.0, run.1)
    ]

-- ---- checkpoints

live_needed : (kept : List ℕ) (e : Entry) → e.end ≡ None → is_needed kept e ≡ true
live_needed kept e is = ap (λ (o : Option ℕ). is_none o || list_any (λ c. covers c e) kept) is

-- a checkpoint that doesn't have the number changes nothing for it
grown : (kept : List ℕ) (next : ℕ) (e : Entry) → covers next e ≡ false
    → is_needed (kept ++ next ∷ []) e ≡ is_needed kept e
grown kept next e apart =
    ap (λ b. is_none e.end || b) (
    list_any-append (λ c. covers c e) kept (next ∷ [])
    ∙ ap (λ b. list_any (λ c. covers c e) kept || (b || false)) apart
    ∙ or_none (list_any (λ c. covers c e) kept)
    )
  where
    or_none : (b : Bool) → (b || (false || false)) ≡ b
    or_none true = refl
    or_none false = refl

pub checkpoints-keep : CheckpointsKeepNeeds
checkpoints-keep births ends kept latest v content e f once bounded there live unborn at after =
    by (is_one_of ends v) refl (stands (is_one_of ends v) refl)
  where
    next : ℕ
    next = latest + 1

    -- what the number stands for now
    stands : (t : Bool) → is_one_of ends v ≡ t → written_at None t next (Some e) ≡ Some f
    stands t is =
        ap (λ (b : Bool). written_at None b next (Some e)) (sym is)
        ∙ ap (written_at None (is_one_of ends v) next) (sym at)
        ∙ ap (λ (o : Option Birth). written_at o (is_one_of ends v) next (content v)) (sym unborn)
        ∙ sym (written-at births ends next content v once) ∙ after

    by : (t : Bool) → is_one_of ends v ≡ t → written_at None t next (Some e) ≡ Some f
        → is_needed (kept ++ next ∷ []) f ≡ is_needed kept e
    by true is stood =
        let same : ended_at next e ≡ f = cc in
        let was : e.end ≡ None = live v e is at in
        let covering : covers latest f ≡ true =
        ap (covers latest) (sym same)
        ∙ covers_from latest (ended_at next e) (bounded.starts v e at) (lt-ltb latest next (omega arith)) in
        or_right (is_none f.end) (list_any (λ c. covers c f) (kept ++ next ∷ [])) (
        list_any-append (λ c. covers c f) kept (next ∷ [])
        ∙ or_left (list_any (λ c. covers c f) kept) (list_any (λ c. covers c f) (next ∷ []))
        (one_covers f latest kept there covering)
        )
        ∙ sym (live_needed kept e was)
    by false is stood =
        let same : e ≡ f = cc in ap (is_needed (kept ++ next ∷ [])) (sym same) ∙ by_end e.end refl
      where
        by_end : (o : Option ℕ) → e.end ≡ o → is_needed (kept ++ next ∷ []) e ≡ is_needed kept e
        by_end None none = live_needed (kept ++ next ∷ []) e none ∙ sym (live_needed kept e none)
        by_end (Some end) some =
            grown kept next e (apart (bounded.ends v e end at some) (cases_Bool (covers next e)))
          where
            apart : end ≤ latest → (covers next e ≡ true) ⊎ (covers next e ≡ false) → covers next e ≡ false
            apart low (inl is) =
                let past : next < end =
                ltb-true next end (sym (ap (is_before_end next) some) ∙ (covers_parts next e is).1) in
                absurd (omega (arith, past, low))
            apart low (inr is) = is
