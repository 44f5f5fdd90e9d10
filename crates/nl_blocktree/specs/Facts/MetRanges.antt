-- Places that are met one after another, and those under a range of one level.
use Rattle.std.proofs.Common.{◌≡◌, ◌⊎◌, ℕ, suc, ◌+◌, ◌*◌, ◌-◌, ◌/◌, ◌^◌, ◌≤◌, Bool, true, false, List, Some, None, refl, ap, sym, subst, ◌∙◌, inl, inr, arith}
use Rattle.std.proofs.lemmas.Bool.{cases_eq, cases_lt}
use Rattle.nl_types.specs.Blocks.RootChanges.{places}
use Rattle.nl_types.specs.Blocks.Roots.{Pages, Root, Tree, place_at}
use Rattle.nl_blocktree.specs.TreePlaces.{IsUnder}
use Rattle.nl_blocktree.specs.Walked.{HasMet, Meets, is_met}
use Rattle.nl_blocktree.specs.Facts.MetPlaces.{pair, step-some}
use Rattle.nl_blocktree.specs.Facts.TreePlaces.{above-next, above-same, none-under}

-- ---- places that are met one after another

pub met-nowhere : (pages : Pages) (root : Root) (Visited : ℕ × ℕ → Type 0) (now : List Bool)
    → ((b : ℕ × ℕ) → Visited b → places pages root b ≡ None)
    → HasMet pages root Visited now now
met-nowhere pages root Visited now none = record {
  count = refl;
  stored = λ b v n is. absurd (nothing b v n is);
  whole = λ b v page n is. absurd (nothing b v n is);
  fresh = λ b v n is. absurd (nothing b v n is);
  once = λ a b v n k is other. absurd (nothing a v n is);
  added = λ b v n is. absurd (nothing b v n is);
  met_stay = λ v is. is;
  only = λ v is. inl is;
}
  where
    nothing : (b : ℕ × ℕ) (v : ℕ) → Visited b → places pages root b ≡ Some v → ⊥
    nothing b v n is = let e = none b n in cc

module _ (pages : Pages) (root : Root) (First Second All : ℕ × ℕ → Type 0) (step :
    (b : ℕ × ℕ) → All b → First b ⊎ Second b)
    (left : (b : ℕ × ℕ) → First b → All b) (right : (b : ℕ × ℕ) → Second b → All b)
    (old mid : List Bool) where
  -- what is met, and then what is met after that
  module _ (new : List Bool) (m : HasMet pages root First old mid)
      (k : HasMet pages root Second mid new) where
    not-old : (v : ℕ) → is_met mid v ≡ false → is_met old v ≡ false
    not-old v e = by (is_met old v) refl
      where
        by : (b : Bool) → is_met old v ≡ b → is_met old v ≡ false
        by true is = absurd (let still = m.met_stay v is in cc)
        by false is = is

    apart : (x y : ℕ × ℕ) (v : ℕ) → First x → Second y → places pages root x ≡ Some v
        → places pages root y ≡ Some v → ⊥
    apart x y v n o is other = let met = m.added x v n is in let free = k.fresh y v o other in cc

    pub joined : HasMet pages root All old new
    joined = record {
      count = k.count ∙ m.count;
      stored = λ b v n is. elim (step b n) [ inl h ↦ m.stored b v h is | inr h ↦ k.stored b v h is ];
      whole = λ b v page n is.
          elim (step b n) [ inl h ↦ m.whole b v page h is | inr h ↦ k.whole b v page h is ];
      fresh = λ b v n is. elim (step b n) [ inl h ↦ m.fresh b v h is | inr h ↦ not-old v (k.fresh b v h is) ];
      once = λ a b v n o is other. elim (step a n) [
        | inl h ↦
            elim (step b o) [ inl g ↦ m.once a b v h g is other | inr g ↦ absurd (apart a b v h g is other) ]
        | inr h ↦
            elim (step b o) [ inl g ↦ absurd (apart b a v g h other is) | inr g ↦ k.once a b v h g is other ]
      ];
      added = λ b v n is.
          elim (step b n) [ inl h ↦ k.met_stay v (m.added b v h is) | inr h ↦ k.added b v h is ];
      met_stay = λ v is. k.met_stay v (m.met_stay v is);
      only = λ v is. elim (k.only v is) [
        | inl o ↦ elim (m.only v o) [ inl p ↦ inl p | inr w ↦ inr (w.0, left w.0 w.1, w.2) ]
        | inr w ↦ inr (w.0, right w.0 w.1, w.2)
      ];
    }

pub met-one : (pages : Pages) (root : Root) (at : ℕ × ℕ) (v : ℕ) (old new : List Bool)
    → places pages root at ≡ Some v
    → Meets pages v old new
    → HasMet pages root (λ b. b ≡ at) old new
met-one pages root at v old new stands meets =
    step-some pages root old (λ b. ⊥) (λ b. b ≡ at) at (λ b e. inr e)
    (λ b none. absurd none) refl old new v stands
    (met-nowhere pages root (λ b. ⊥) old (λ b none. absurd none)) meets

-- ---- places of a level, and what is under these

-- one place more
pub range-step : (level first last : ℕ) (b : ℕ × ℕ) → IsUnder level first (last + 1) b
    → IsUnder level first last b ⊎ IsUnder level last (suc last) b
range-step level first last b n = elim (cases_lt (b.1 / 128 ^ (level - b.0)) last) [
  | inl l ↦ inl (record { low = n.low; from = n.from; below = l })
  | inr h ↦ inr (record { low = n.low; from = h; below = let k = n.below in omega (arith, k) })
]

pub range-left : (level first last : ℕ) (b : ℕ × ℕ) → IsUnder level first last b
    → IsUnder level first (last + 1) b
range-left level first last b n =
    record { low = n.low; from = n.from; below = let k = n.below in omega (arith, k) }

pub range-right : (level first last : ℕ) → first ≤ last → (b : ℕ × ℕ) → IsUnder level last (suc last) b
    → IsUnder level first (last + 1) b
range-right level first last l b n = record {
  low = n.low;
  from = let k = n.from in omega
      (arith, k, l);
  below = let k = n.below in omega (arith, k);
}

pub range-apart : (level first last : ℕ) (b : ℕ × ℕ) → IsUnder level first last b
    → IsUnder level last (suc last) b → ⊥
range-apart level first last b n m = let k = n.below in let j = m.from in omega (arith, k, j)

pub range-none : (level first : ℕ) (b : ℕ × ℕ) → IsUnder level first first b → ⊥
range-none level first b n = let k = n.below in let j = n.from in omega (arith, k, j)

-- one place is all that stands under it
pub one-under : (pages : Pages) (height top level last : ℕ) → level ≤ height
    → place_at pages (Tree height top) level last ≡ None
    → (b : ℕ × ℕ) → IsUnder level last (suc last) b → places pages (Tree height top) b ≡ None
one-under pages height top level last low none b n =
    let over : b.1 / 128 ^ (level - b.0) ≡ last =
    (let k = n.from in let j = n.below in omega (arith, k, j)) in
    none-under pages height top level last b.0 b.1 low n.low over none

module _ (level below offset : ℕ) (e : level ≡ suc below) where
  abbrev pub Whole : ℕ × ℕ → Type 0
  Whole = IsUnder level offset (suc offset)

  abbrev pub Slots : ℕ × ℕ → Type 0
  Slots = IsUnder below (128 * offset) (128 * offset + 128)

  pub node-whole : (b : ℕ × ℕ) → b ≡ (level, offset) → Whole b
  node-whole b is =
      let over : offset / 128 ^ (level - level) ≡ offset = above-same level level offset refl in
      subst Whole (sym is)
      (record { low = omega arith; from = omega (arith, over); below = omega (arith, over) })

  pub slots-whole : (b : ℕ × ℕ) (bound : ℕ) → bound ≤ 128 * offset + 128
      → IsUnder below (128 * offset) bound b → Whole b
  slots-whole b bound most n =
      let over = above-next level below b.0 b.1 e n.low in
      let low = n.low in let from = n.from in let under = n.below in
      record {
        low = omega (arith, low, e);
        from = omega (arith, over, from);
        below = omega (arith, over, under, most);
      }

  pub whole-step : (b : ℕ × ℕ) → Whole b → (b ≡ (level, offset)) ⊎ Slots b
  whole-step b n = elim (cases_eq b.0 level) [
    | inl is ↦ (let over = above-same level b.0 b.1 is in let from = n.from in let under = n.below in
        inl (pair b (level, offset) is (omega (arith, over, from, under))))
    | inr other ↦ (let low = n.low in let lower : b.0 ≤ below = omega (arith, low, other, e) in
        let over = above-next level below b.0 b.1 e lower in
        let from = n.from in let under = n.below in
        inr (record {
          low = lower;
          from = omega (arith, over, from, under);
          below = omega (arith, over, from, under);
        }))
  ]

  pub node-apart : (first bound : ℕ) (b : ℕ × ℕ) → b ≡ (level, offset) → IsUnder below first bound b → ⊥
  node-apart first bound b is n = let low = n.low in let at : b.0 ≡ level = ap (λ (x : ℕ × ℕ). x.0) is in
      omega (arith, low, at, e)
