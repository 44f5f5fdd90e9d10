-- What a retirement is to the ledger.
use Rattle.std.proofs.Common.{◌≡◌, ℕ, Bool, true, false, cond, eqb, List, [], ◌∷◌, Option, Some, None, inl, inr, sym, refl, ap, ◌∙◌}
use Rattle.std.specs.Prelude.{◌||◌, is_none}
use Rattle.std.specs.List.{list_any}
use Rattle.std.specs.Option.{option_map}
use Rattle.std.proofs.lemmas.Bool.{cases_Bool, eqb-true, both_ways}
use Rattle.nl_types.specs.Blocks.Entries.{Content, Entry, covers, is_needed}
use Rattle.nl_types.specs.Plain.NumberLists.{is_one_of}
use Rattle.nl_types.specs.Facts.PartialMaps.{or_false}
use Rattle.nl_types.specs.Blocks.Lifetimes.{Allowed, Ledger, Frees}
use Rattle.nl_vstore.specs.Stores.{IsStore, Numbered, address_in, block_now, content_in, entry_now, is_inside, numbered_in}
use Rattle.nl_vstore.specs.Located.{entry_needed}
use Rattle.nl_vstore.specs.Facts.NumberAt.{needed-member}
use Rattle.nl_reclaim.specs.Moves.{KeptStore, needed_now}
use Rattle.nl_reclaim.specs.Reclaims.{IsLedgerOf, RetiredSegmentsAreUnreached, RetiringIsAllowed, stood_in}

none-covers : (e : Entry) (c : ℕ) (kept : List ℕ) → list_any (λ k. covers k e) kept ≡ false
    → is_one_of kept c ≡ true → covers c e ≡ false
none-covers e c [] none among = cc
none-covers e c (k ∷ kept) none among =
    let parts = or_false (covers k e) (list_any (λ k. covers k e) kept) none in
    elim (cases_Bool (eqb c k)) [
      | inl same ↦ ap (λ (n : ℕ). covers n e) (eqb-true c k same) ∙ parts.0
      | inr other ↦ none-covers e c kept parts.1 (sym (ap (λ t. t || is_one_of kept c) other) ∙ among)
    ]

address-of : (s : KeptStore) (v : ℕ) (e : Entry) → content_in s.store v ≡ Some e
    → (b : ℕ) × (address_in s.store v ≡ Some b)
address-of s v e is = by_number (numbered_in s.store v) refl is
  where
    by_number : (o : Option Numbered) → numbered_in s.store v ≡ o → option_map entry_now o ≡ Some e
        → (b : ℕ) × (address_in s.store v ≡ Some b)
    by_number None at h = cc
    by_number (Some n) at h = (n.block, ap (option_map block_now) at)

-- nothing that a kept checkpoint needs goes
none-goes : (segment : ℕ) (ledger : Ledger) (s : KeptStore) → IsStore s.store → IsLedgerOf ledger s
    → needed_now s segment ≡ [] → Allowed (Frees (stood_in s.store segment)) ledger
none-goes segment ledger s store same none v e c numbers gone at kept =
    elim (cases_Bool (is_needed s.kept e)) [
      | inl needed ↦ absurd (unneeded (sym (ap (λ (m : Content). m v) same.content) ∙ at) needed)
      | inr free ↦
          none-covers e c s.kept (or_false (is_none e.end) (list_any (λ k. covers k e) s.kept) free).1
          (same.kept c numbers kept)
    ]
  where
    unneeded : content_in s.store v ≡ Some e → is_needed s.kept e ≡ true → ⊥
    unneeded at needed =
        let there = address-of s v e at in
        let among =
        needed-member s.store (is_needed s.kept) segment v there.0 store there.1
        (sym (ap (is_inside s.store.segments segment) there.1) ∙ gone)
        (ap (entry_needed (is_needed s.kept)) at ∙ needed) in
        both_ways (is_one_of (needed_now s segment) v) (ap (λ (xs : List ℕ). is_one_of xs v) none) among

pub retiring-is-allowed : RetiringIsAllowed
retiring-is-allowed segment count ledger old new store same none reclaimed =
    (none-goes segment ledger old store same none, content)
  where
    content : (v : ℕ)
        → content_in new.store v ≡ cond (stood_in old.store segment v) None (content_in old.store v)
    content v = ap (option_map entry_now) (reclaimed.numbers v) ∙ by_test (stood_in old.store segment v)
      where
        by_test : (t : Bool)
            → option_map entry_now (cond t None (numbered_in old.store v))
            ≡ cond t None (content_in old.store v)
        by_test true = refl
        by_test false = refl

pub retired-segments-are-unreached : RetiredSegmentsAreUnreached
retired-segments-are-unreached segment c v q numbers ledger s store same exact none kept reaches =
    elim (cases_Bool (stood_in s.store segment v)) [
      | inl gone ↦ let (e, at, covering) = (exact c numbers kept).reached q v reaches in
          absurd (both_ways (covers c e)
          (none-goes segment ledger s store same none v e c numbers gone at kept) covering)
      | inr stays ↦ stays
    ]
