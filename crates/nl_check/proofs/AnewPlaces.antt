-- Numbers that are met anew, at one place after another.
use Rattle.std.proofs.Common.{◌≡◌, ◌⊎◌, ℕ, Bool, List, refl, ap, sym, ◌∙◌, inl, inr}
use Rattle.nl_check.specs.Shapes.{At, Owner}
use Rattle.nl_check.specs.Private.ChangedFiles.{AreMetAnew}
use Rattle.nl_check.proofs.LeftPlaces.{still-not}

module _ (Place : Type 0) where
  -- nothing stands at the places
  pub anew-nowhere : (Stands : Place → ℕ → Type 0) (now : List Bool)
      → ((at : Place) (v : ℕ) → Stands at v → ⊥) → AreMetAnew Place Stands now now
  anew-nowhere Stands now none = record {
    fresh = λ at v s. absurd (none at v s);
    once = λ p q v s t. absurd (none p v s);
    added = λ at v s. absurd (none at v s);
    met_stay = λ v is. is;
    only = λ v is. inl is;
  }

  -- what is met, and then what is met after that
  pub anew-joined : (First Second All : Place → ℕ → Type 0)
      → ((at : Place) (v : ℕ) → All at v → First at v ⊎ Second at v)
      → ((at : Place) (v : ℕ) → First at v → All at v) → ((at : Place) (v : ℕ) → Second at v → All at v)
      → (old mid new : List Bool) → AreMetAnew Place First old mid → AreMetAnew Place Second mid new
      → AreMetAnew Place All old new
  anew-joined First Second All step left right old mid new m k = record {
    fresh = λ at v a. elim (step at v a) [
      | inl f ↦ m.fresh at v f
      | inr s ↦ still-not mid old v (m.met_stay v) (k.fresh at v s)
    ];
    once = λ p q v a b. elim (step p v a) [
      | inl f ↦ elim (step q v b) [ inl g ↦ m.once p q v f g | inr t ↦ absurd (apart p q v f t) ]
      | inr s ↦ elim (step q v b) [ inl g ↦ absurd (apart q p v g s) | inr t ↦ k.once p q v s t ]
    ];
    added = λ at v a. elim (step at v a) [
      | inl f ↦ k.met_stay v (m.added at v f)
      | inr s ↦ k.added at v s
    ];
    met_stay = λ v is. k.met_stay v (m.met_stay v is);
    only = λ v is. elim (k.only v is) [
      | inl before ↦ elim (m.only v before) [ inl o ↦ inl o | inr w ↦ inr (w.0, left w.0 v w.1) ]
      | inr w ↦ inr (w.0, right w.0 v w.1)
    ];
  }
    where
      apart : (p q : Place) (v : ℕ) → First p v → Second q v → ⊥
      apart p q v f s = let is = m.added p v f in let isnt = k.fresh q v s in cc

pair-at : (p q : At) → p.owner ≡ q.owner → ◌≡◌ {A = ℕ × ℕ} (p.level, p.offset) (q.level, q.offset) → p ≡ q
pair-at p q a b = λ i. record {
  owner = a i;
  level = ap (λ (x : ℕ × ℕ). x.0) b i;
  offset = ap (λ (x : ℕ × ℕ). x.1) b i;
}

-- the places of an owner's file
pub anew-of : (owner : Owner) (Stands : ℕ × ℕ → ℕ → Type 0) (old new : List Bool)
    → AreMetAnew (ℕ × ℕ) Stands old new
    → AreMetAnew At (λ at v. (at.owner ≡ owner) × Stands (at.level, at.offset) v) old new
anew-of owner Stands old new m = record {
  fresh = λ at v s. m.fresh (at.level, at.offset) v s.1;
  once = λ p q v s t.
      pair-at p q (s.0 ∙ sym t.0) (m.once (p.level, p.offset) (q.level, q.offset) v s.1 t.1);
  added = λ at v s. m.added (at.level, at.offset) v s.1;
  met_stay = m.met_stay;
  only = λ v is. elim (m.only v is) [
    | inl before ↦ inl before
    | inr w ↦ inr (record { owner = owner; level = w.0.0; offset = w.0.1 }, (refl, w.1))
  ];
}
