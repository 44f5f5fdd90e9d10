-- One place after another is met, and a whole file.
use Rattle.std.proofs.Common.{get_or-set_other, get_or-set_same, ◌≡◌, ◌⊎◌, ℕ, zero, suc, ◌<◌, Bool, true, false, List, length, Option, Some, None, refl, ap, sym, subst, ◌∙◌, inl, inr}
use Rattle.std.specs.Option.{IsSome, option_and_then}
use Rattle.std.proofs.lemmas.Bool.{cases_eq}
use Rattle.std.proofs.Math.ListN.{length-set, set}
use Rattle.nl_types.specs.Blocks.RootChanges.{places}
use Rattle.nl_types.specs.Blocks.Roots.{Empty, Pages, Root, numbered, page_at, place_at}
use Rattle.nl_blocktree.specs.FileShapes.{HasShape}
use Rattle.nl_blocktree.specs.Walked.{CanBeMet, HasMet, IsAny, IsWalked, Meets, is_met}

-- ---- one place more

met-same : (met : List Bool) (v : ℕ) → v < length met → is_met (set met v true) v ≡ true
met-same met v low = get_or-set_same met v true false low

met-other : (met : List Bool) (v w : ℕ) → (w ≡ v → ⊥) → is_met (set met v true) w ≡ is_met met w
met-other met v w other = get_or-set_other met v w true false other

pub no-some : {A : Type 0} (o : Option A) → IsSome o → o ≡ None → ⊥
no-some o h e = cc

pub pair : (a b : ℕ × ℕ) → a.0 ≡ b.0 → a.1 ≡ b.1 → a ≡ b
pair a b p q = λ i. (p i, q i)

module _ (pages : Pages) (root : Root) (old : List Bool) (Visited Next : ℕ × ℕ → Type 0) (at : ℕ × ℕ)
    (step : (b : ℕ × ℕ) → Next b → Visited b ⊎ (b ≡ at)) (more : (b : ℕ × ℕ) → Visited b → Next b)
    (here : Next at) where
  -- where nothing stands, nothing is met
  pub step-none : (now : List Bool) → places pages root at ≡ None → HasMet pages root Visited old now
      → HasMet pages root Next old now
  step-none now none m = record {
    count = m.count;
    stored = λ b v n is. elim (step b n) [ inl u ↦ m.stored b v u is | inr e ↦ absurd (clash b v e is) ];
    whole = λ b v page n is.
        elim (step b n) [ inl u ↦ m.whole b v page u is | inr e ↦ absurd (clash b v e is) ];
    fresh = λ b v n is. elim (step b n) [ inl u ↦ m.fresh b v u is | inr e ↦ absurd (clash b v e is) ];
    once = λ a b v n k is other. elim (step a n) [
      | inl u ↦ elim (step b k) [ inl w ↦ m.once a b v u w is other | inr e ↦ absurd (clash b v e other) ]
      | inr e ↦ absurd (clash a v e is)
    ];
    added = λ b v n is. elim (step b n) [ inl u ↦ m.added b v u is | inr e ↦ absurd (clash b v e is) ];
    met_stay = m.met_stay;
    only = λ v is. elim (m.only v is) [ inl o ↦ inl o | inr w ↦ inr (w.0, more w.0 w.1, w.2) ];
  }
    where
      clash : (b : ℕ × ℕ) (v : ℕ) → b ≡ at → places pages root b ≡ Some v → ⊥
      clash b v e is = let none_there : places pages root b ≡ None = ap (places pages root) e ∙ none in cc

  module _ (now new : List Bool) (v : ℕ) (stands : places pages root at ≡ Some v)
      (m : HasMet pages root Visited old now) (meets : Meets pages v now new) where
    before : (w : ℕ) → is_met old w ≡ true → w ≡ v → ⊥
    before w is e =
        let now_met = m.met_stay w is in
        let not_met : is_met now w ≡ false = ap (is_met now) e ∙ meets.fresh in
        cc

    new-at : (w : ℕ) → is_met new w ≡ is_met (set now v true) w
    new-at w = ap (λ (met : List Bool). is_met met w) meets.now

    met-here : is_met new v ≡ true
    met-here = new-at v ∙ met-same now v meets.within

    still : (w : ℕ) → is_met now w ≡ true → is_met new w ≡ true
    still w is = elim (cases_eq w v) [
      | inl e ↦ ap (is_met new) e ∙ met-here
      | inr other ↦ new-at w ∙ (met-other now v w other ∙ is)
    ]

    not-old : is_met old v ≡ false
    not-old = by (is_met old v) refl
      where
        by : (b : Bool) → is_met old v ≡ b → is_met old v ≡ false
        by true e = absurd (before v e refl)
        by false e = e

    same : (b : ℕ × ℕ) (w : ℕ) → b ≡ at → places pages root b ≡ Some w → w ≡ v
    same b w e is = let one : Some w ≡ Some v = sym is ∙ (ap (places pages root) e ∙ stands) in cc

    -- a visited place has another number
    apart : (b : ℕ × ℕ) (w : ℕ) → Visited b → places pages root b ≡ Some w → w ≡ v → ⊥
    apart b w u is e =
        let now_met = m.added b w u is in
        let not_met : is_met now w ≡ false = ap (is_met now) e ∙ meets.fresh in
        cc

    -- the number that stands there is met
    pub step-some : HasMet pages root Next old new
    step-some = record {
      count = ap length meets.now ∙ (length-set now v true ∙ m.count);
      stored = λ b w n is. elim (step b n) [
        | inl u ↦ m.stored b w u is
        | inr e ↦ subst (λ (x : ℕ). IsSome (pages x)) (sym (same b w e is)) meets.stored
      ];
      whole = λ b w page n is. elim (step b n) [
        | inl u ↦ m.whole b w page u is
        | inr e ↦
            subst (λ (x : ℕ). pages x ≡ Some page → length page ≡ 1024) (sym (same b w e is))
            (meets.whole page)
      ];
      fresh = λ b w n is. elim (step b n) [
        | inl u ↦ m.fresh b w u is
        | inr e ↦ ap (is_met old) (same b w e is) ∙ not-old
      ];
      once = λ a b w n k is other. elim (step a n) [
        | inl u ↦ elim (step b k) [
          | inl x ↦ m.once a b w u x is other
          | inr e ↦ absurd (apart a w u is (same b w e other))
        ]
        | inr e ↦ elim (step b k) [
          | inl x ↦ absurd (apart b w x other (same a w e is))
          | inr f ↦ e ∙ sym f
        ]
      ];
      added = λ b w n is. elim (step b n) [
        | inl u ↦ still w (m.added b w u is)
        | inr e ↦ ap (is_met new) (same b w e is) ∙ met-here
      ];
      met_stay = λ w is. still w (m.met_stay w is);
      only = λ w is. elim (cases_eq w v) [
        | inl e ↦ inr (at, here, stands ∙ ap (λ (n : ℕ). Some n) (sym e))
        | inr other ↦
            elim (m.only w (sym (met-other now v w other) ∙ (sym (new-at w) ∙ is)))
            [ inl o ↦ inl o | inr x ↦ inr (x.0, more x.0 x.1, x.2) ]
      ];
    }

-- ---- a whole file

-- where nothing stands at other places, all are met
pub all-met : (pages : Pages) (root : Root) (old new : List Bool) (Visited : ℕ × ℕ → Type 0)
    → ((at : ℕ × ℕ) → Visited at ⊎ (places pages root at ≡ None)) → HasMet pages root Visited old new
    → HasMet pages root IsAny old new
all-met pages root old new Visited each m = record {
  count = m.count;
  stored = λ at v n is.
      elim (each at) [ inl u ↦ m.stored at v u is | inr none ↦ absurd (clash at v none is) ];
  whole = λ at v page n is.
      elim (each at) [ inl u ↦ m.whole at v page u is | inr none ↦ absurd (clash at v none is) ];
  fresh = λ at v n is. elim (each at) [ inl u ↦ m.fresh at v u is | inr none ↦ absurd (clash at v none is) ];
  once = λ a b v n k is other. elim (each a) [
    | inl u ↦ elim (each b) [ inl w ↦ m.once a b v u w is other | inr none ↦ absurd (clash b v none other) ]
    | inr none ↦ absurd (clash a v none is)
  ];
  added = λ at v n is. elim (each at) [ inl u ↦ m.added at v u is | inr none ↦ absurd (clash at v none is) ];
  met_stay = m.met_stay;
  only = λ v is. elim (m.only v is) [ inl o ↦ inl o | inr w ↦ inr (w.0, tt, w.2) ];
}
  where
    clash : (at : ℕ × ℕ) (v : ℕ) → places pages root at ≡ None → places pages root at ≡ Some v → ⊥
    clash at v none is = cc

pub can-met : (pages : Pages) (root : Root) (old new : List Bool) → HasShape pages root
    → HasMet pages root IsAny old new → CanBeMet pages root old
can-met pages root old new shape m = record {
  shape = shape;
  fresh = λ at v is. m.fresh at v tt is;
  once = λ a b v is other. m.once a b v tt tt is other;
}

pub no-block : (pages : Pages) (root : Root) (i : ℕ) → place_at pages root 0 i ≡ None
    → page_at pages root i ≡ None
no-block pages root i none = ap (option_and_then pages) none

pub empty-place : (pages : Pages) (level offset : ℕ) → place_at pages Empty level offset ≡ None
unfolding place_at
empty-place pages level offset = refl

-- a file without blocks
pub walked-empty : (pages : Pages) (old : List Bool) → IsWalked pages Empty old old 0
walked-empty pages old = record {
  can = can-met pages Empty old old shape whole;
  met = whole;
  sized = record {
    count = 0;
    is = refl;
    none_past = λ i high. no-block pages Empty i (empty-place pages 0 i);
    last = inl refl;
  };
}
  where
    nowhere : (level offset v : ℕ) → place_at pages Empty level offset ≡ Some v → ⊥
    nowhere level offset v is = let none = empty-place pages level offset in cc

    whole : HasMet pages Empty IsAny old old
    whole = record {
      count = refl;
      stored = λ at v n is. absurd (nowhere at.0 at.1 v is);
      whole = λ at v page n is. absurd (nowhere at.0 at.1 v is);
      fresh = λ at v n is. absurd (nowhere at.0 at.1 v is);
      once = λ a b v n k is other. absurd (nowhere a.0 a.1 v is);
      added = λ at v n is. absurd (nowhere at.0 at.1 v is);
      met_stay = λ v is. is;
      only = λ v is. inl is;
    }

    shape : HasShape pages Empty
    shape = record {
      stored = λ level offset v at. absurd (nowhere level offset v at);
      has_top = λ k. absurd (k refl);
      ends_full = λ k. cc;
      tree_shape = λ k. cc;
    }

pub numbered-some : (n : ℕ) → (n ≡ 0 → ⊥) → numbered n ≡ Some n
numbered-some zero h = absurd (h refl)
numbered-some (suc n) h = refl
