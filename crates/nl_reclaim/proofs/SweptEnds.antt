-- Ends that are swept.
use Rattle.std.proofs.Common.{◌≡◌, ℕ, zero, suc, ◌<◌, ◌≤◌, ◌⊎◌, Bool, cond, List, [], ◌∷◌, length, Option, Some, None, inl, inr, sym, refl, ap, subst, ◌∙◌, arith}
use Rattle.std.specs.Prelude.{is_some}
use Rattle.std.proofs.lemmas.Bool.{cases_lt}
use Rattle.nl_types.specs.Blocks.Entries.{Content, Entry}
use Rattle.nl_reclaim.specs.declared.ends.Ended.{Ended}
use Rattle.nl_reclaim.specs.EndLists.{end_at, end_of, no_end, swept}
use Rattle.nl_reclaim.specs.Counted.{AreBelow, AreEnds, HasEndedNeeded}
use Rattle.nl_reclaim.proofs.EndPlaces.{in-list, no-number, rising-from}

-- one place more, which is left where it has a number
abbrev swept_one : Option ℕ → Ended → List Ended → List Ended
swept_one o e ends = cond (is_some o) (e ∷ ends) ends

-- what is left was at a place
abbrev LeftWas : List Ended → List Ended → Type 0
LeftWas now old = (k : ℕ) → k < length now → (p : ℕ) × (p < length old) × (end_at now k ≡ end_at old p)

left-one : (e : Ended) (ends : List Ended) → LeftWas (swept ends) ends → (o : Option ℕ)
    → LeftWas (swept_one o e (swept ends)) (e ∷ ends)
left-one e ends rest None k low = let (p, held, same) = rest k low in (suc p, omega arith, same)
left-one e ends rest (Some v) zero low = (0, omega arith, refl)
left-one e ends rest (Some v) (suc k) low =
    let (p, held, same) = rest k (omega arith) in (suc p, omega arith, same)

left-was : (ends : List Ended) → LeftWas (swept ends) ends
left-was [] k low = absurd (omega arith)
left-was (e ∷ ends) k low = left-one e ends (λ j less. left-was ends j less) e.number k low

-- and of two the first was before the second
abbrev TwoWere : List Ended → List Ended → Type 0
TwoWere now old = (k j : ℕ) → k < j → j < length now
    → (p : ℕ) × (q : ℕ) × (p < q) × (q < length old) × (end_at now k ≡ end_at old p)
    × (end_at now j ≡ end_at old q)

two-one : (e : Ended) (ends : List Ended) → TwoWere (swept ends) ends → (o : Option ℕ)
    → TwoWere (swept_one o e (swept ends)) (e ∷ ends)
two-one e ends rest None k j less low =
    let (p, q, order, held, one, two) = rest k j less low in
    (suc p, suc q, omega arith, omega arith, one, two)
two-one e ends rest (Some v) k zero less low = absurd (omega arith)
two-one e ends rest (Some v) zero (suc j) less low =
    let (q, held, two) = left-was ends j (omega arith) in (0, suc q, omega arith, omega arith, refl, two)
two-one e ends rest (Some v) (suc k) (suc j) less low =
    let (p, q, order, held, one, two) = rest k j (omega arith) (omega arith) in
    (suc p, suc q, omega arith, omega arith, one, two)

two-were : (ends : List Ended) → TwoWere (swept ends) ends
two-were [] k j less low = absurd (omega arith)
two-were (e ∷ ends) k j less low = two-one e ends (λ i l m n. two-were ends i l m n) e.number k j less low

-- what has a number is left
abbrev Stays : List Ended → Ended → Type 0
Stays now e = (k : ℕ) × (k < length now) × (end_at now k ≡ e)

stays-first : (e : Ended) (v : ℕ) (ends : List Ended) (o : Option ℕ) → o ≡ Some v
    → Stays (swept_one o e ends) e
stays-first e v ends None none = no-number v none
stays-first e v ends (Some w) some = (0, omega arith, refl)

stays-behind : (e f : Ended) (ends : List Ended) (o : Option ℕ) → Stays ends f → Stays (swept_one o e ends) f
stays-behind e f ends None rest = rest
stays-behind e f ends (Some w) rest = let (k, held, same) = rest in (suc k, omega arith, same)

stays : (ends : List Ended) (p v : ℕ) → (end_at ends p).number ≡ Some v → Stays (swept ends) (end_at ends p)
stays [] p v is = no-number v is
stays (e ∷ ends) zero v is = stays-first e v (swept ends) e.number is
stays (e ∷ ends) (suc p) v is = stays-behind e (end_at ends p) (swept ends) e.number (stays ends p v is)

was : (ends : List Ended) (k v : ℕ) → (end_at (swept ends) k).number ≡ Some v
    → (p : ℕ) × ((end_at ends p).number ≡ Some v) × (end_at (swept ends) k ≡ end_at ends p)
was ends k v is =
    let (p, held, same) = left-was ends k (in-list (swept ends) k v is) in
    (p, sym (ap (λ (e : Ended). e.number) same) ∙ is, same)

module _ (content : Content) (needed : Entry → Bool) (ends : List Ended)
    (are : AreEnds content needed ends) where
  up : (k j : ℕ) → k ≤ j → j < length (swept ends) → (k < j) ⊎ (j ≤ k)
      → (end_at (swept ends) k).end ≤ (end_at (swept ends) j).end
  up k j order low (inl less) =
      let (p, q, before, held, first, second) = two-were ends k j less low in
      let rise = are.rising p q no_end (omega arith) held in
      let one = ap end_of first in
      let two = ap end_of second in
      omega arith
  up k j order low (inr past) =
      let same : k ≡ j = omega arith in
      let equal = ap (λ i. (end_at (swept ends) i).end) same in
      omega arith

  never : (k j v : ℕ) → (end_at (swept ends) k).number ≡ Some v → (end_at (swept ends) j).number ≡ Some v
      → k < j → ⊥
  never k j v one two less =
      let (p, q, order, held, first, second) = two-were ends k j less (in-list (swept ends) j v two) in
      let same : p ≡ q =
      are.once p q v (sym (ap (λ (e : Ended). e.number) first) ∙ one)
      (sym (ap (λ (e : Ended). e.number) second) ∙ two) in
      omega arith

  apart : (k j v : ℕ) → (end_at (swept ends) k).number ≡ Some v → (end_at (swept ends) j).number ≡ Some v
      → (k < j) ⊎ (j ≤ k) → (j < k) ⊎ (k ≤ j) → k ≡ j
  apart k j v one two (inl less) more = absurd (never k j v one two less)
  apart k j v one two (inr past) (inl more) = absurd (never j k v two one more)
  apart k j v one two (inr past) (inr ahead) = omega arith

  pub ends-swept : AreEnds content needed (swept ends)
  ends-swept = record {
    rising = rising-from (swept ends) (λ k j order low. up k j order low (cases_lt k j));
    theirs = λ k v is. let (p, number, same) = was ends k v is in
        subst (HasEndedNeeded content needed v) (sym (ap end_of same)) (are.theirs p v number);
    all = λ v end needs.
        let (p, held, number, ending) = are.all v end needs in let (k, low, same) = stays ends p v number in
        (k, low, ap (λ (e : Ended). e.number) same ∙ number, ap end_of same ∙ ending);
    once = λ k j v one two. apart k j v one two (cases_lt k j) (cases_lt j k);
  }

pub below-swept : (kept : List ℕ) (ends : List Ended) → AreBelow kept ends → AreBelow kept (swept ends)
below-swept kept ends below k low =
    let (p, held, same) = left-was ends k low in
    let (c, among, high) = below p held in
    let ending = ap end_of same in
    (c, among, omega (arith, ending, high))
