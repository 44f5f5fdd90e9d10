-- Numbers that are met no more, at one place after another.
use Rattle.std.proofs.Common.{◌≡◌, ◌⊎◌, ℕ, Bool, true, false, List, refl, ap, sym, subst, ◌∙◌, inl, inr}
use Rattle.std.proofs.lemmas.Bool.{cases_eq}
use Rattle.nl_blocktree.specs.Walked.{is_met}
use Rattle.nl_check.specs.Shapes.{At, Owner}
use Rattle.nl_check.specs.Private.BesideTrees.{HasLeft, Leaves}

-- what isn't met isn't met later, where no number is met anew
pub still-not : (old new : List Bool) (v : ℕ) → (is_met new v ≡ true → is_met old v ≡ true)
    → is_met old v ≡ false → is_met new v ≡ false
still-not old new v only e = by (is_met new v) refl
  where
    by : (b : Bool) → is_met new v ≡ b → is_met new v ≡ false
    by true is = absurd (let before = only is in cc)
    by false is = is

module _ (Place : Type 0) where
  -- nothing stands at the places
  pub left-nowhere : (Stands : Place → ℕ → Type 0) (now : List Bool)
      → ((at : Place) (v : ℕ) → Stands at v → ⊥) → HasLeft Place Stands now now
  left-nowhere Stands now none = record {
    gone = λ at v s. absurd (none at v s);
    only = λ v is. is;
    others = λ v is. inl is;
  }

  -- one number alone stands there
  pub left-one : (Stands : Place → ℕ → Type 0) (at : Place) (v : ℕ) (old new : List Bool)
      → ((q : Place) (w : ℕ) → Stands q w → w ≡ v) → Stands at v → Leaves v old new
      → HasLeft Place Stands old new
  left-one Stands at v old new alone here l = record {
    gone = λ q w s. ap (is_met new) (alone q w s) ∙ l.gone;
    only = λ w is. elim (cases_eq w v) [
      | inl e ↦ absurd (let isnt : is_met new w ≡ false = ap (is_met new) e ∙ l.gone in cc)
      | inr other ↦ sym (l.others w other) ∙ is
    ];
    others = λ w is. elim (cases_eq w v) [
      | inl e ↦ inr (at, subst (Stands at) (sym e) here)
      | inr other ↦ inl (l.others w other ∙ is)
    ];
  }

  -- what is left, and then what is left after that
  pub left-joined : (First Second All : Place → ℕ → Type 0)
      → ((at : Place) (v : ℕ) → All at v → First at v ⊎ Second at v)
      → ((at : Place) (v : ℕ) → First at v → All at v) → ((at : Place) (v : ℕ) → Second at v → All at v)
      → (old mid new : List Bool) → HasLeft Place First old mid → HasLeft Place Second mid new
      → HasLeft Place All old new
  left-joined First Second All step left right old mid new m k = record {
    gone = λ at v a. elim (step at v a) [
      | inl f ↦ still-not mid new v (k.only v) (m.gone at v f)
      | inr s ↦ k.gone at v s
    ];
    only = λ v is. m.only v (k.only v is);
    others = λ v is. elim (m.others v is) [
      | inl still ↦ elim (k.others v still) [ inl now ↦ inl now | inr w ↦ inr (w.0, right w.0 v w.1) ]
      | inr w ↦ inr (w.0, left w.0 v w.1)
    ];
  }

  -- the same numbers, said otherwise
  pub left-among : (One Other : Place → ℕ → Type 0) → ((at : Place) (v : ℕ) → One at v → Other at v)
      → ((at : Place) (v : ℕ) → Other at v → One at v) → (old new : List Bool) → HasLeft Place One old new
      → HasLeft Place Other old new
  left-among One Other to back old new m = record {
    gone = λ at v s. m.gone at v (back at v s);
    only = m.only;
    others = λ v is. elim (m.others v is) [ inl now ↦ inl now | inr w ↦ inr (w.0, to w.0 v w.1) ];
  }

-- the places of an owner's file
pub left-of : (owner : Owner) (Stands : ℕ × ℕ → ℕ → Type 0) (old new : List Bool)
    → HasLeft (ℕ × ℕ) Stands old new
    → HasLeft At (λ at v. (at.owner ≡ owner) × Stands (at.level, at.offset) v) old new
left-of owner Stands old new m = record {
  gone = λ at v s. m.gone (at.level, at.offset) v s.1;
  only = m.only;
  others = λ v is. elim (m.others v is) [
    | inl now ↦ inl now
    | inr w ↦ inr (record { owner = owner; level = w.0.0; offset = w.0.1 }, (refl, w.1))
  ];
}
