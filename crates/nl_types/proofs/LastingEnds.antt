-- The end of a number changes once at most, however many events come.
use Rattle.std.proofs.Common.{◌≡◌, ℕ, ◌+◌, ◌≤◌, ◌<◌, List, [], ◌∷◌, Some, None, inl, inr, sym, refl, ap, ◌∙◌, arith}
use Rattle.std.specs.Prelude.{◌⊎◌}
use Rattle.std.proofs.lemmas.Bool.{cases_Bool}
use Rattle.nl_types.specs.Plain.NumberLists.{is_one_of}
use Rattle.nl_types.specs.Blocks.Entries.{Entry, birth_of}
use Rattle.nl_types.specs.Facts.WrittenEntries.{written-at}
use Rattle.nl_types.specs.Blocks.Lifetimes.{Ledger, LedgerEvent, IsLedger, EndsOnceSince, EndsSince, Makes, Forgets, Frees, numbers_at, Allowed, EachAllowed, ledger_after, ledger_after_all}
use Rattle.nl_types.specs.Facts.ExactLifetimes.{origin, end-Write, end-same, latest_grows, ledger_after-IsLedger}

-- a number in use was in use before, from the same start, or has started since
abbrev ComesFrom : Ledger → ℕ → Entry → Type 0
ComesFrom old v f = ((e : Entry) × (old.content v ≡ Some e) × (e.start ≡ f.start)) ⊎ (old.latest < f.start)

comes_from : (event : LedgerEvent) (ledger : Ledger) → Allowed event ledger → (v : ℕ) (f : Entry)
    → (ledger_after event ledger).content v ≡ Some f → ComesFrom ledger v f
comes_from (Makes births ends) ledger batch v f is =
    let c = ledger.latest + 1 in
    elim (origin c (birth_of births v) (is_one_of ends v) (ledger.content v) f
    (sym (written-at births ends c ledger.content v batch.once) ∙ is)) [
      | inl born ↦ let start : c ≡ f.start = ap (λ (x : Entry). x.start) born.2 in inr (omega (arith, start))
      | inr o ↦ elim o [
        | inl ended ↦ inl (ended.0, ended.3, ap (λ (x : Entry). x.start) ended.4)
        | inr same ↦ inl (f, same.2, refl)
      ]
    ]
comes_from (Forgets c) ledger other v f is = inl (f, is, refl)
comes_from (Frees gone) ledger unneeded v f is = elim (cases_Bool (gone v)) [
  | inl t ↦ let none : None ≡ Some f = sym (rw t refl) ∙ is in absurd (cc)
  | inr t ↦ inl (f, sym (rw t refl) ∙ is, refl)
]

comes_from_all : (events : List LedgerEvent) (ledger : Ledger) → EachAllowed events ledger
    → (v : ℕ) (f : Entry) → (ledger_after_all events ledger).content v ≡ Some f → ComesFrom ledger v f
comes_from_all [] ledger allowed v f is = inl (f, is, refl)
comes_from_all (event ∷ events) ledger allowed v f is =
    elim (comes_from_all events (ledger_after event ledger) allowed.1 v f is) [
      | inl g ↦ elim (comes_from event ledger allowed.0 v g.0 g.1) [
        | inl e ↦ inl (e.0, e.1, e.2 ∙ g.2)
        | inr low ↦ let same : g.0.start ≡ f.start = g.2 in inr (omega (arith, low, same))
      ]
      | inr low ↦ let grows = latest_grows event ledger in inr (omega (arith, low, grows))
    ]

latest_grows_all : (events : List LedgerEvent) (ledger : Ledger)
    → ledger.latest ≤ (ledger_after_all events ledger).latest
latest_grows_all [] ledger = omega arith
latest_grows_all (event ∷ events) ledger =
    omega (arith, latest_grows event ledger, latest_grows_all events (ledger_after event ledger))

-- at one event
ends_at : (event : LedgerEvent) (ledger : Ledger) → Allowed event ledger → (v : ℕ) (e f : Entry)
    → ledger.content v ≡ Some e
    → (ledger_after event ledger).content v ≡ Some f
    → (f.end ≡ e.end) ⊎ ((e.end ≡ None) × EndsSince ledger (ledger_after event ledger) f)
ends_at (Makes births ends) ledger batch v e f was is =
    elim (end-Write ledger.content (numbers_at ledger ledger.latest) births ends
    (ledger.latest + 1) v e f batch was is) [
      | inl same ↦ inl same
      | inr ended ↦
          inr (
            ended.0,
            record {
              checkpoint = ledger.latest + 1;
              is = ended.1;
              made = omega arith;
              there = omega arith;
            },
          )
    ]
ends_at (Forgets c) ledger other v e f was is = inl (end-same ledger.content v e f was is)
ends_at (Frees gone) ledger unneeded v e f was is = elim (cases_Bool (gone v)) [
  | inl t ↦ let none : None ≡ Some f = sym (rw t refl) ∙ is in absurd (cc)
  | inr t ↦ inl (end-same ledger.content v e f was (sym (rw t refl) ∙ is))
]

pub ends_once_all : (events : List LedgerEvent) (ledger : Ledger) → IsLedger ledger
    → EachAllowed events ledger → EndsOnceSince ledger (ledger_after_all events ledger)
ends_once_all [] ledger kept allowed v e f was is start = inl (end-same ledger.content v e f was is)
ends_once_all (event ∷ events) ledger kept allowed v e f was is start =
    let next = ledger_after event ledger in
    let grows = latest_grows event ledger in
    let later = latest_grows_all events next in
    elim (comes_from_all events next allowed.1 v f is) [
      | inr low ↦
          let began : e.start ≤ ledger.latest = kept.bounded.starts v e was in
          absurd (omega (arith, low, began, grows, start))
      | inl g ↦ elim (ends_at event ledger allowed.0 v e g.0 was g.1) [
        | inl same ↦
            elim (ends_once_all events next
            (ledger_after-IsLedger event ledger kept allowed.0) allowed.1 v g.0 f g.1 is (sym g.2)) [
              | inl rest ↦ inl (rest ∙ same)
              | inr ended ↦
                  inr (
                    sym same ∙ ended.0,
                    record {
                      checkpoint = ended.1.checkpoint;
                      is = ended.1.is;
                      made = omega (arith, ended.1.made, grows);
                      there = ended.1.there;
                    },
                  )
            ]
        | inr now ↦
            elim (ends_once_all events next
            (ledger_after-IsLedger event ledger kept allowed.0) allowed.1 v g.0 f g.1 is (sym g.2)) [
              | inl rest ↦
                  inr (
                    now.0,
                    record {
                      checkpoint = now.1.checkpoint;
                      is = rest ∙ now.1.is;
                      made = now.1.made;
                      there = omega (arith, now.1.there, later);
                    },
                  )
              | inr ended ↦ let two : None ≡ Some now.1.checkpoint = sym ended.0 ∙ now.1.is in absurd (cc)
            ]
      ]
    ]
