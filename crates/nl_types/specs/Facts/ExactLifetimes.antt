-- Each event keeps the lifetimes exact.
use Rattle.std.proofs.Common.{◌≡◌, ℕ, ◌+◌, ◌≤◌, Bool, true, false, cond, eqb, leb, List, [], ◌∷◌, Some, None, Option, inl, inr, sym, refl, ap, subst, ◌∙◌, unwrap_or, arith}
use Rattle.std.specs.Option.{option_and_then}
use Rattle.std.specs.Prelude.{◌⊎◌}
use Rattle.std.proofs.lemmas.Bool.{cases_Bool, eqb-true, eq-eqb, leb-true, le-leb, ltb-true, lt-ltb, and_parts, and_from, both_ways, ne_eqb}
use Rattle.nl_types.specs.Plain.NumberLists.{is_one_of}
use Rattle.nl_types.specs.Blocks.Entries.{Place, Birth, Entry, Content, number_of, born_at, ended_at, covers, is_before_end, written, birth_of, written_at}
use Rattle.nl_types.specs.Facts.WrittenEntries.{written-at, number_of-birth_of}
use Rattle.nl_types.specs.Blocks.Lifetimes.{Numbers, Ledger, LedgerEvent, IsBounded, IsLedger, EndsOnce, StillCovers, Makes, Forgets, Frees, numbers_at, numbers_after, born_or_left, unless_ended, birth_at, is_same_place, IsBatch, Allowed, EachAllowed, ledger_after, ledger_after_all, blank, IsExact, KeepsCovered}

pub covers_parts : (c : ℕ) (e : Entry) → covers c e ≡ true → (e.start ≤ c) × (is_before_end c e.end ≡ true)
covers_parts c e h =
    let parts = and_parts (leb e.start c) (is_before_end c e.end) h in (leb-true e.start c parts.0, parts.1)

pub covers_from : (c : ℕ) (e : Entry) → e.start ≤ c → is_before_end c e.end ≡ true → covers c e ≡ true
covers_from c e start before =
    and_from (leb e.start c) (is_before_end c e.end) (le-leb e.start c start) before

-- where an entry comes from, when a batch is written
abbrev pub Born : ℕ → Option Birth → Entry → Type 0
Born c o e = (p : Birth) × (o ≡ Some p) × (born_at c p ≡ e)

abbrev pub Ended : ℕ → Option Birth → Bool → Option Entry → Entry → Type 0
Ended c o b x e = (old : Entry) × (o ≡ None) × (b ≡ true) × (x ≡ Some old) × (ended_at c old ≡ e)

abbrev pub Same : Option Birth → Bool → Option Entry → Entry → Type 0
Same o b x e = (o ≡ None) × (b ≡ false) × (x ≡ Some e)

pub origin : (c : ℕ) (o : Option Birth) (b : Bool) (x : Option Entry) (e : Entry)
    → written_at o b c x ≡ Some e → Born c o e ⊎ (Ended c o b x e ⊎ Same o b x e)
origin c (Some p) b x e h = inl (p, refl, cc)
origin c None true None e h = cc
origin c None true (Some old) e h = inr (inl (old, refl, refl, refl, cc))
origin c None false x e h = inr (inr (refl, refl, h))

-- a number in use before is given to no birth
unborn : (m : Content) (old : Numbers) (births : List Birth) (ends : List ℕ) (v : ℕ) (e : Entry)
    → IsBatch m old births ends → m v ≡ Some e → birth_of births v ≡ None
unborn m old births ends v e batch used =
    elim (birth_of births v) as (λ o. birth_of births v ≡ o → o ≡ None) [
      | None ↦ λ h. refl
      | Some p ↦ λ h. let free : m v ≡ None = batch.unused v p h in cc
    ] refl

-- what is left of an entry of before
stays : (m : Content) (old : Numbers) (births : List Birth) (ends : List ℕ) (c v : ℕ) (e : Entry)
    → IsBatch m old births ends → m v ≡ Some e
    → written births ends c m v ≡ written_at None (is_one_of ends v) c (Some e)
stays m old births ends c v e batch used =
    written-at births ends c m v batch.once
    ∙ ap (λ o. written_at o (is_one_of ends v) c (m v)) (unborn m old births ends v e batch used)
    ∙ ap (written_at None (is_one_of ends v) c) used

module _ (m : Content) (latest : ℕ) (old : Numbers) (births : List Birth) (ends : List ℕ)
    (batch : IsBatch m old births ends) (bounded : IsBounded m latest) where
  origin_at : (v : ℕ) (e : Entry) → written births ends (latest + 1) m v ≡ Some e
      → Born (latest + 1) (birth_of births v) e
      ⊎ (Ended (latest + 1) (birth_of births v) (is_one_of ends v) (m v) e
      ⊎ Same (birth_of births v) (is_one_of ends v) (m v) e)
  origin_at v e h =
      origin (latest + 1) (birth_of births v) (is_one_of ends v) (m v) e
      (sym (written-at births ends (latest + 1) m v batch.once) ∙ h)

  -- an earlier checkpoint keeps what it reaches
  exact_before : (c : ℕ) (numbers : Numbers) → c ≤ latest → IsExact m c numbers
      → IsExact (written births ends (latest + 1) m) c numbers
  exact_before c numbers before exact = record {
    reached = λ q v h.
        let r = exact.reached q v h in
        let parts = covers_parts c r.0 r.2 in
        elim (is_one_of ends v) as (λ b.
        is_one_of ends v ≡ b
        → (e : Entry) × (written births ends (latest + 1) m v ≡ Some e) × (covers c e ≡ true)) [
          | true ↦
              λ is. (
                ended_at (latest + 1) r.0,
                stays m old births ends (latest + 1) v r.0 batch r.1
                    ∙ ap (λ b. written_at None b (latest + 1) (Some r.0)) is,
                covers_from c (ended_at (latest + 1) r.0) parts.0 (lt-ltb c (latest + 1) (omega arith)),
              )
          | false ↦
              λ is. (
                r.0,
                stays m old births ends (latest + 1) v r.0 batch r.1
                    ∙ ap (λ b. written_at None b (latest + 1) (Some r.0)) is,
                r.2,
              )
        ] refl;
    once = exact.once;
    covering = λ v e h cover. elim (origin_at v e h) [
      | inl born ↦
          let low : e.start ≤ c = (covers_parts c e cover).0 in
          let start : latest + 1 ≡ e.start = ap (λ (x : Entry). x.start) born.2 in
          absurd (omega (arith, low, start, before))
      | inr o ↦ elim o [
        | inl ended ↦
            let low : e.start ≤ c = (covers_parts c e cover).0 in
            let start : ended.0.start ≡ e.start = ap (λ (x : Entry). x.start) ended.4 in
            let open_end : ended.0.end ≡ None = batch.live v ended.0 ended.2 ended.3 in
            let covered : covers c ended.0 ≡ true =
            covers_from c ended.0 (omega (arith, low, start)) (ap (is_before_end c) open_end) in
            exact.covering v ended.0 ended.3 covered
        | inr same ↦ exact.covering v e same.2 cover
      ]
    ];
  }

  place_of-birth_at : (ps : List Birth) (q : Place) (p : Birth) → birth_at ps q ≡ Some p → p.place ≡ q
  place_of-birth_at [] q p h = cc
  place_of-birth_at (x ∷ xs) q p h = elim (cases_Bool (is_same_place q x.place)) [
    | inl e ↦
        let same : Some x ≡ Some p = sym (rw e refl) ∙ h in
        let it : x ≡ p = cc in
        ap (λ (y : Birth). y.place) (sym it) ∙ sym (same_place q x.place e)
    | inr e ↦ place_of-birth_at xs q p (sym (rw e refl) ∙ h)
  ]
    where
      same_place : (a b : Place) → is_same_place a b ≡ true → a ≡ b
      same_place a b e =
          let inode = and_parts (eqb a.inode b.inode) _ e in
          let rest = and_parts (eqb a.level b.level) (eqb a.offset b.offset) inode.1 in
          let e1 = eqb-true a.inode b.inode inode.0 in
          let e2 = eqb-true a.level b.level rest.0 in
          let e3 = eqb-true a.offset b.offset rest.1 in
          λ i. record { inode = e1 i; level = e2 i; offset = e3 i }

  -- the new checkpoint is exact
  exact_now : IsExact m latest old
      → IsExact (written births ends (latest + 1) m) (latest + 1) (numbers_after births ends old)
  exact_now exact = record {
    reached = λ q v h.
        elim (birth_at births q) as (λ o.
        birth_at births q ≡ o → born_or_left ends o (old q) ≡ Some v
        → (e : Entry) × (written births ends (latest + 1) m v ≡ Some e) × (covers (latest + 1) e ≡ true)) [
          | Some p ↦ λ at is.
              let number : number_of p ≡ v = cc in
              let given : birth_of births v ≡ Some p =
              ap (birth_of births) (sym number) ∙ batch.numbered q p at in (
                born_at (latest + 1) p,
                written-at births ends (latest + 1) m v batch.once
                    ∙ ap (λ o. written_at o (is_one_of ends v) (latest + 1) (m v)) given,
                covers_from (latest + 1) (born_at (latest + 1) p) (omega arith) refl,
              )
          | None ↦ λ at is.
              let left = left_parts v (old q) is in
              let r = exact.reached q v left.0 in
              let parts = covers_parts latest r.0 r.2 in (
                r.0,
                stays m old births ends (latest + 1) v r.0 batch r.1
                    ∙ ap (λ b. written_at None b (latest + 1) (Some r.0)) left.1,
                covers_from (latest + 1) r.0 (omega (arith, parts.0)) (open_on v r.0 r.1 parts.1),
              )
        ] refl h;
    once = λ p q v hp hq. elim (there p v hp) [
      | inl b ↦ elim (there q v hq) [
        | inl d ↦ let same : b.0 ≡ d.0 = cc in sym b.1 ∙ (ap (λ (x : Birth). x.place) same ∙ d.1)
        | inr l ↦ absurd (not_both v b.0 b.2 q l)
      ]
      | inr l ↦ elim (there q v hq) [
        | inl d ↦ absurd (not_both v d.0 d.2 p l)
        | inr r ↦ exact.once p q v l r
      ]
    ];
    covering = λ v e h cover. elim (origin_at v e h) [
      | inl born ↦ (
        born.0.place,
        ap (λ o. born_or_left ends o (old born.0.place)) (batch.placed_once v born.0 born.1)
            ∙ ap Some (number_of-birth_of births v born.0 born.1),
      )
      | inr o ↦ elim o [
        | inl ended ↦
            let closed : Some (latest + 1) ≡ e.end = ap (λ (x : Entry). x.end) ended.4 in
            let before : is_before_end (latest + 1) (Some (latest + 1)) ≡ true =
            ap (is_before_end (latest + 1)) closed ∙ (covers_parts (latest + 1) e cover).1 in
            absurd (omega (arith, ltb-true (latest + 1) (latest + 1) before))
        | inr same ↦
            let parts = covers_parts (latest + 1) e cover in
            let covered : covers latest e ≡ true =
            covers_from latest e (bounded.starts v e same.2) (open_back e.end parts.1) in
            let there = exact.covering v e same.2 covered in (
              there.0,
              elim (birth_at births there.0) as (λ o.
                  birth_at births there.0 ≡ o → born_or_left ends o (old there.0) ≡ Some v) [
                    | Some p ↦ λ at. absurd (both_ways _ same.1 (batch.replaced there.0 p v at there.1))
                    | None ↦
                        λ at.
                        ap (option_and_then (unless_ended ends)) there.1
                        ∙ ap (λ b. cond b None (Some v)) same.1
                  ] refl,
            )
      ]
    ];
  }
    where
      left_parts : (v : ℕ) (o : Option ℕ) → option_and_then (unless_ended ends) o ≡ Some v
          → (o ≡ Some v) × (is_one_of ends v ≡ false)
      left_parts v None h = cc
      left_parts v (Some w) h =
          elim (is_one_of ends w) as (λ b.
          is_one_of ends w ≡ b → cond b None (Some w) ≡ Some v
          → (Some w ≡ Some v) × (is_one_of ends v ≡ false)) [
            | true ↦ λ e i. cc
            | false ↦ λ e i. let same : w ≡ v = cc in (i, ap (is_one_of ends) (sym same) ∙ e)
          ] refl h

      -- a number at a place is a birth's, or was there
      there : (q : Place) (v : ℕ) → numbers_after births ends old q ≡ Some v
          → ((p : Birth) × (p.place ≡ q) × (birth_of births v ≡ Some p)) ⊎ (old q ≡ Some v)
      there q v h =
          elim (birth_at births q) as (λ o.
          birth_at births q ≡ o → born_or_left ends o (old q) ≡ Some v
          → ((p : Birth) × (p.place ≡ q) × (birth_of births v ≡ Some p)) ⊎ (old q ≡ Some v)) [
            | Some p ↦ λ at is.
                let number : number_of p ≡ v = cc in
                inl (
                  p,
                  place_of-birth_at births q p at,
                  ap (birth_of births) (sym number) ∙ batch.numbered q p at,
                )
            | None ↦ λ at is. inr (left_parts v (old q) is).0
          ] refl h

      not_both : (v : ℕ) (p : Birth) → birth_of births v ≡ Some p → (q : Place) → old q ≡ Some v → ⊥
      not_both v p given q at =
          let r = exact.reached q v at in
          let free : None ≡ Some r.0 = sym (batch.unused v p given) ∙ r.1 in cc

      open_on : (v : ℕ) (e : Entry) → m v ≡ Some e → is_before_end latest e.end ≡ true
          → is_before_end (latest + 1) e.end ≡ true
      open_on v e used before =
          elim e.end as (λ o.
          e.end ≡ o → is_before_end latest o ≡ true → is_before_end (latest + 1) o ≡ true) [
            | None ↦ λ is h. refl
            | Some x ↦
                λ is h.
                let high : x ≤ latest = bounded.ends v e x used is in
                absurd (omega (arith, high, ltb-true latest x h))
          ] refl before

      open_back : (o : Option ℕ) → is_before_end (latest + 1) o ≡ true → is_before_end latest o ≡ true
      open_back None h = refl
      open_back (Some x) h = lt-ltb latest x (omega (arith, ltb-true (latest + 1) x h))

  bounded_now : IsBounded (written births ends (latest + 1) m) (latest + 1)
  bounded_now = record {
    begins = λ v e h. elim (origin_at v e h) [
      | inl born ↦
          let start : latest + 1 ≡ e.start = ap (λ (x : Entry). x.start) born.2 in omega (arith, start)
      | inr o ↦ elim o [
        | inl ended ↦
            let start : ended.0.start ≡ e.start = ap (λ (x : Entry). x.start) ended.4 in
            let low : 1 ≤ ended.0.start = bounded.begins v ended.0 ended.3 in
            omega (arith, start, low)
        | inr same ↦ bounded.begins v e same.2
      ]
    ];
    lasts = λ v e c h is. elim (origin_at v e h) [
      | inl born ↦ let none : None ≡ e.end = ap (λ (x : Entry). x.end) born.2 in cc
      | inr o ↦ elim o [
        | inl ended ↦
            let some : Some (latest + 1) ≡ e.end = ap (λ (x : Entry). x.end) ended.4 in
            let start : ended.0.start ≡ e.start = ap (λ (x : Entry). x.start) ended.4 in
            let low : ended.0.start ≤ latest = bounded.starts v ended.0 ended.3 in
            let same : latest + 1 ≡ c = cc in
            omega (arith, same, start, low)
        | inr same ↦ bounded.lasts v e c same.2 is
      ]
    ];
    starts = λ v e h. elim (origin_at v e h) [
      | inl born ↦
          let start : latest + 1 ≡ e.start = ap (λ (x : Entry). x.start) born.2 in omega (arith, start)
      | inr o ↦ elim o [
        | inl ended ↦
            let start : ended.0.start ≡ e.start = ap (λ (x : Entry). x.start) ended.4 in
            let low : ended.0.start ≤ latest = bounded.starts v ended.0 ended.3 in
            omega (arith, start, low)
        | inr same ↦ let low : e.start ≤ latest = bounded.starts v e same.2 in omega (arith, low)
      ]
    ];
    ends = λ v e c h is. elim (origin_at v e h) [
      | inl born ↦ let none : None ≡ e.end = ap (λ (x : Entry). x.end) born.2 in cc
      | inr o ↦ elim o [
        | inl ended ↦
            let some : Some (latest + 1) ≡ e.end = ap (λ (x : Entry). x.end) ended.4 in
            let same : latest + 1 ≡ c = cc in
            omega (arith, same)
        | inr same ↦ let low : c ≤ latest = bounded.ends v e c same.2 is in omega (arith, low)
      ]
    ];
  }

kept_some : (o : Option Numbers) (numbers : Numbers) → o ≡ Some numbers → o ≡ Some (unwrap_or o (λ _. None))
kept_some None numbers h = cc
kept_some (Some n) numbers h = refl

-- a batch keeps the lifetimes exact
ledger-Write : (births : List Birth) (ends : List ℕ) (ledger : Ledger) → IsLedger ledger
    → Allowed (Makes births ends) ledger → IsLedger (ledger_after (Makes births ends) ledger)
ledger-Write births ends ledger kept batch = record {
  exact = λ c numbers h. elim (cases_Bool (eqb c (ledger.latest + 1))) [
    | inl e ↦
        let P : ℕ → Type 0 = λ d.
        IsExact (written births ends (ledger.latest + 1) ledger.content) d numbers in
        let Q : Numbers → Type 0 =
        IsExact (written births ends (ledger.latest + 1) ledger.content) (ledger.latest + 1) in
        let newest : Some (numbers_after births ends (numbers_at ledger ledger.latest)) ≡ Some numbers =
        sym (rw e refl) ∙ h in
        subst P (sym (eqb-true c (ledger.latest + 1) e))
        (subst Q (same_numbers newest)
        (exact_now ledger.content ledger.latest
        (numbers_at ledger ledger.latest) births ends batch kept.bounded
        (kept.exact ledger.latest (numbers_at ledger ledger.latest) kept.latest_kept)))
    | inr e ↦
        let was : ledger.kept c ≡ Some numbers = sym (rw e refl) ∙ h in
        exact_before ledger.content ledger.latest
        (numbers_at ledger ledger.latest) births ends batch kept.bounded c numbers
        (kept.below c numbers was) (kept.exact c numbers was)
  ];
  bounded =
      bounded_now ledger.content ledger.latest
      (numbers_at ledger ledger.latest) births ends batch kept.bounded;
  latest_kept =
      kept_some _ (numbers_after births ends (numbers_at ledger ledger.latest))
      (rw (eq-eqb (ledger.latest + 1) (ledger.latest + 1) refl) refl);
  below = λ c numbers h. elim (cases_Bool (eqb c (ledger.latest + 1))) [
    | inl e ↦ omega (arith, eqb-true c (ledger.latest + 1) e)
    | inr e ↦ let low : c ≤ ledger.latest = kept.below c numbers (sym (rw e refl) ∙ h) in omega (arith, low)
  ];
}
  where
    same_numbers : {a b : Numbers} → Some a ≡ Some b → a ≡ b
    same_numbers {a} {b} h = ap (λ o. unwrap_or o a) h

ledger-Remove : (c : ℕ) (ledger : Ledger) → IsLedger ledger → Allowed (Forgets c) ledger
    → IsLedger (ledger_after (Forgets c) ledger)
ledger-Remove c ledger kept other = record {
  exact = λ d numbers h. kept.exact d numbers (was d numbers h);
  bounded = kept.bounded;
  latest_kept =
      kept_some _ (numbers_at ledger ledger.latest)
      (rw (ne_eqb ledger.latest c (λ same. other (sym same))) kept.latest_kept);
  below = λ d numbers h. kept.below d numbers (was d numbers h);
}
  where
    was : (d : ℕ) (numbers : Numbers) → (ledger_after (Forgets c) ledger).kept d ≡ Some numbers
        → ledger.kept d ≡ Some numbers
    was d numbers h = elim (cases_Bool (eqb d c)) [
      | inl e ↦ let none : None ≡ Some numbers = sym (rw e refl) ∙ h in cc
      | inr e ↦ sym (rw e refl) ∙ h
    ]

ledger-Reclaim : (gone : ℕ → Bool) (ledger : Ledger) → IsLedger ledger → Allowed (Frees gone) ledger
    → IsLedger (ledger_after (Frees gone) ledger)
ledger-Reclaim gone ledger kept unneeded = record {
  exact = λ c numbers is. record {
    reached = λ q v h.
        let r = (kept.exact c numbers is).reached q v h in
        elim (cases_Bool (gone v)) [
          | inl e ↦ absurd (both_ways _ (unneeded v r.0 c numbers e r.1 is) r.2)
          | inr e ↦ (r.0, rw e r.1, r.2)
        ];
    once = (kept.exact c numbers is).once;
    covering = λ v e h cover. (kept.exact c numbers is).covering v e (was v e h) cover;
  };
  bounded = record {
    begins = λ v e h. kept.bounded.begins v e (was v e h);
    starts = λ v e h. kept.bounded.starts v e (was v e h);
    lasts = λ v e c h is. kept.bounded.lasts v e c (was v e h) is;
    ends = λ v e c h is. kept.bounded.ends v e c (was v e h) is;
  };
  latest_kept = kept.latest_kept;
  below = kept.below;
}
  where
    was : (v : ℕ) (e : Entry) → (ledger_after (Frees gone) ledger).content v ≡ Some e
        → ledger.content v ≡ Some e
    was v e h = elim (cases_Bool (gone v)) [
      | inl t ↦ let none : None ≡ Some e = sym (rw t refl) ∙ h in cc
      | inr t ↦ sym (rw t refl) ∙ h
    ]

pub ledger_after-IsLedger : (event : LedgerEvent) (ledger : Ledger) → IsLedger ledger → Allowed event ledger
    → IsLedger (ledger_after event ledger)
ledger_after-IsLedger (Makes births ends) ledger kept allowed = ledger-Write births ends ledger kept allowed
ledger_after-IsLedger (Forgets c) ledger kept allowed = ledger-Remove c ledger kept allowed
ledger_after-IsLedger (Frees gone) ledger kept allowed = ledger-Reclaim gone ledger kept allowed

pub ledger_after_all-IsLedger : (events : List LedgerEvent) (ledger : Ledger) → IsLedger ledger
    → EachAllowed events ledger → IsLedger (ledger_after_all events ledger)
ledger_after_all-IsLedger [] ledger kept allowed = kept
ledger_after_all-IsLedger (event ∷ events) ledger kept allowed =
    ledger_after_all-IsLedger events (ledger_after event ledger)
    (ledger_after-IsLedger event ledger kept allowed.0) allowed.1

pub ledger-blank : IsLedger blank
ledger-blank = record {
  exact = λ c numbers h. record {
    reached = λ q v is. absurd (nothing c numbers h q v is);
    once = λ p q v is other. absurd (nothing c numbers h p v is);
    covering = λ v e is cover. cc;
  };
  bounded = record {
    begins = λ v e h. cc;
    starts = λ v e h. cc;
    lasts = λ v e c h is. cc;
    ends = λ v e c h is. cc;
  };
  latest_kept = refl;
  below = λ c numbers h. elim (cases_Bool (eqb c 0)) [
    | inl e ↦ omega (arith, eqb-true c 0 e)
    | inr e ↦ let none : None ≡ Some numbers = sym (rw e refl) ∙ h in cc
  ];
}
  where
    nothing : (c : ℕ) (numbers : Numbers) → blank.kept c ≡ Some numbers → (q : Place) (v : ℕ)
        → numbers q ≡ Some v → ⊥
    nothing c numbers h q v is = elim (cases_Bool (eqb c 0)) [
      | inl e ↦
          let empty : Some (λ _. None) ≡ Some numbers = sym (rw e refl) ∙ h in
          let absent : None ≡ Some v = ap (λ o. unwrap_or o numbers q) empty ∙ is in cc
      | inr e ↦ let none : None ≡ Some numbers = sym (rw e refl) ∙ h in cc
    ]

-- a checkpoint that is kept after an event and isn't new was kept before it
kept_before : (event : LedgerEvent) (ledger : Ledger) (c : ℕ) (now : Numbers)
    → (ledger_after event ledger).kept c ≡ Some now → c ≤ ledger.latest → ledger.kept c ≡ Some now
kept_before (Makes births ends) ledger c now h low = elim (cases_Bool (eqb c (ledger.latest + 1))) [
  | inl e ↦ absurd (omega (arith, eqb-true c (ledger.latest + 1) e, low))
  | inr e ↦ sym (rw e refl) ∙ h
]
kept_before (Forgets d) ledger c now h low = elim (cases_Bool (eqb c d)) [
  | inl e ↦ let none : None ≡ Some now = sym (rw e refl) ∙ h in cc
  | inr e ↦ sym (rw e refl) ∙ h
]
kept_before (Frees gone) ledger c now h low = h

pub latest_grows : (event : LedgerEvent) (ledger : Ledger)
    → ledger.latest ≤ (ledger_after event ledger).latest
latest_grows (Makes births ends) ledger = omega arith
latest_grows (Forgets d) ledger = omega arith
latest_grows (Frees gone) ledger = omega arith

-- by its parts
still_covers : {c v : ℕ} {e : Entry} (content : Content) (f : Entry) → content v ≡ Some f → f.place ≡ e.place
    → f.page ≡ e.page → f.start ≡ e.start → covers c f ≡ true → StillCovers content c v e
still_covers content f used place page start cover =
    record { entry = f; in_use = used; place = place; page = page; start = start; covering = cover }

covered_kept : (event : LedgerEvent) (ledger : Ledger) → IsLedger ledger → Allowed event ledger
    → KeepsCovered ledger (ledger_after event ledger)
covered_kept (Makes births ends) ledger kept batch c before now v e was is used cover =
    let l = ledger.latest in
    let parts = covers_parts c e cover in
    let low : c ≤ l = kept.below c before was in
    elim (is_one_of ends v) as (λ b.
    is_one_of ends v ≡ b → StillCovers (written births ends (l + 1) ledger.content) c v e) [
      | true ↦
          λ t.
          still_covers _ (ended_at (l + 1) e)
          (stays ledger.content (numbers_at ledger l) births ends (l + 1) v e batch used
          ∙ ap (λ b. written_at None b (l + 1) (Some e)) t)
          refl refl refl
          (covers_from c (ended_at (l + 1) e) parts.0 (lt-ltb c (l + 1) (omega (arith, low))))
      | false ↦
          λ t.
          still_covers _ e
          (stays ledger.content (numbers_at ledger l) births ends (l + 1) v e batch used
          ∙ ap (λ b. written_at None b (l + 1) (Some e)) t)
          refl refl refl cover
    ] refl
covered_kept (Forgets d) ledger kept other c before now v e was is used cover =
    still_covers _ e used refl refl refl cover
covered_kept (Frees gone) ledger kept unneeded c before now v e was is used cover =
    elim (cases_Bool (gone v)) [
      | inl t ↦ absurd (both_ways _ (unneeded v e c before t used was) cover)
      | inr t ↦ still_covers _ e (rw t used) refl refl refl cover
    ]

pub covered_kept_all : (events : List LedgerEvent) (ledger : Ledger) → IsLedger ledger
    → EachAllowed events ledger → KeepsCovered ledger (ledger_after_all events ledger)
covered_kept_all [] ledger kept allowed c before now v e was is used cover =
    still_covers _ e used refl refl refl cover
covered_kept_all (event ∷ events) ledger kept allowed c before now v e was is used cover =
    let next = ledger_after-IsLedger event ledger kept allowed.0 in
    let low : c ≤ ledger.latest = kept.below c before was in
    let mid = kept_through events (ledger_after event ledger) c now is (≤_through event ledger c low) in
    let f = covered_kept event ledger kept allowed.0 c before now v e was mid used cover in
    let g =
    covered_kept_all events
    (ledger_after event ledger) next allowed.1 c now now v f.entry mid is f.in_use f.covering in
    still_covers _ g.entry g.in_use (g.place ∙ f.place) (g.page ∙ f.page) (g.start ∙ f.start) g.covering
  where
    ≤_through : (event : LedgerEvent) (ledger : Ledger) (c : ℕ) → c ≤ ledger.latest
        → c ≤ (ledger_after event ledger).latest
    ≤_through event ledger c low = omega (arith, low, latest_grows event ledger)

    kept_through : (events : List LedgerEvent) (ledger : Ledger) (c : ℕ) (now : Numbers)
        → (ledger_after_all events ledger).kept c ≡ Some now → c ≤ ledger.latest → ledger.kept c ≡ Some now
    kept_through [] ledger c now h low = h
    kept_through (event ∷ events) ledger c now h low =
        kept_before event ledger c now
        (kept_through events (ledger_after event ledger) c now h (≤_through event ledger c low)) low

-- ---- ends

-- where an entry of a batch comes from, its end is as it was, or set now
pub end-Write : (m : Content) (old : Numbers) (births : List Birth) (ends : List ℕ) (c v : ℕ) (e f : Entry)
    → IsBatch m old births ends → m v ≡ Some e → written births ends c m v ≡ Some f
    → (f.end ≡ e.end) ⊎ ((e.end ≡ None) × (f.end ≡ Some c))
end-Write m old births ends c v e f batch used is =
    elim (is_one_of ends v) as (λ b.
    is_one_of ends v ≡ b → (f.end ≡ e.end) ⊎ ((e.end ≡ None) × (f.end ≡ Some c))) [
      | true ↦
          λ t.
          inr (
            batch.live v e t used,
            sym (end_of (ended_at c e)
                (sym (stays m old births ends c v e batch used ∙ ap (λ b. written_at None b c (Some e)) t)
                ∙ is)),
          )
      | false ↦
          λ t.
          inl (sym (end_of e
          (sym (stays m old births ends c v e batch used ∙ ap (λ b. written_at None b c (Some e)) t) ∙ is)))
    ] refl
  where
    end_of : (g : Entry) → Some g ≡ Some f → g.end ≡ f.end
    end_of g h = ap (λ o. option_and_then (λ (x : Entry). x.end) o) h

-- an entry that is the same has the same end
pub end-same : (m : Content) (v : ℕ) (e f : Entry) → m v ≡ Some e → m v ≡ Some f → f.end ≡ e.end
end-same m v e f was is = ap (λ o. option_and_then (λ (x : Entry). x.end) o) (sym is ∙ was)

pub ends_once : (event : LedgerEvent) (ledger : Ledger) → Allowed event ledger
    → EndsOnce ledger (ledger_after event ledger)
ends_once (Makes births ends) ledger batch v e f was is =
    end-Write ledger.content (numbers_at ledger ledger.latest) births ends
    (ledger.latest + 1) v e f batch was is
ends_once (Forgets c) ledger other v e f was is = inl (end-same ledger.content v e f was is)
ends_once (Frees gone) ledger unneeded v e f was is = elim (cases_Bool (gone v)) [
  | inl t ↦ let none : None ≡ Some f = sym (rw t refl) ∙ is in cc
  | inr t ↦ inl (end-same ledger.content v e f was (sym (rw t refl) ∙ is))
]
