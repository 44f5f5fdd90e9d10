-- What a batch does at each number.
use Rattle.std.proofs.Common.{◌≡◌, ℕ, Bool, true, false, cond, eqb, List, [], ◌∷◌, Some, None, Option, inl, inr, sym, refl, ap, ◌∙◌}
use Rattle.std.specs.Option.{option_map}
use Rattle.std.specs.Prelude.{◌||◌}
use Rattle.std.proofs.lemmas.Bool.{cases_Bool, eqb-true}
use Rattle.nl_types.specs.Plain.NumberLists.{is_one_of}
use Rattle.nl_types.specs.Blocks.PartialMaps.{put, put_all, adjust, adjust_all}
use Rattle.nl_types.specs.Blocks.Entries.{Birth, Entry, Content, number_of, born_at, ended_at, written, birth_of, written_at, GivenOnce}
use Rattle.nl_types.specs.Facts.PartialMaps.{or_false}

-- a number that no birth is given to keeps what it has
put_all-others : (c : ℕ) (births : List Birth) (m : Content) (v : ℕ) → birth_of births v ≡ None
    → put_all number_of (born_at c) births m v ≡ m v
put_all-others c [] m v none = refl
put_all-others c (p ∷ ps) m v none = elim (cases_Bool (eqb v (number_of p))) [
  | inl e ↦ absurd (some_none (sym (rw e refl) ∙ none))
  | inr e ↦ put_all-others c ps (put m (number_of p) (born_at c p)) v (sym (rw e refl) ∙ none) ∙ rw e refl
]
  where
    some_none : Some p ≡ None → ⊥
    some_none h = cc

pub number_of-birth_of : (births : List Birth) (v : ℕ) (p : Birth) → birth_of births v ≡ Some p
    → number_of p ≡ v
number_of-birth_of [] v p h = cc
number_of-birth_of (q ∷ qs) v p h = elim (cases_Bool (eqb v (number_of q))) [
  | inl e ↦
      let same : Some q ≡ Some p = sym (rw e refl) ∙ h in
      let it : q ≡ p = cc in
      ap number_of (sym it) ∙ sym (eqb-true v (number_of q) e)
  | inr e ↦ number_of-birth_of qs v p (sym (rw e refl) ∙ h)
]

-- a number that a birth is given to stands for that birth
put_all-birth : (c : ℕ) (births : List Birth) (m : Content) (v : ℕ) (p : Birth) → GivenOnce births
    → birth_of births v ≡ Some p → put_all number_of (born_at c) births m v ≡ Some (born_at c p)
put_all-birth c [] m v p once h = cc
put_all-birth c (q ∷ qs) m v p once h = elim (cases_Bool (eqb v (number_of q))) [
  | inl e ↦
      let same : Some q ≡ Some p = sym (rw e refl) ∙ h in
      let it : q ≡ p = cc in
      let no_more : birth_of qs v ≡ None = ap (birth_of qs) (eqb-true v (number_of q) e) ∙ once.0 in
      put_all-others c qs (put m (number_of q) (born_at c q)) v no_more
      ∙ rw e (ap (λ x. Some (born_at c x)) it)
  | inr e ↦ put_all-birth c qs (put m (number_of q) (born_at c q)) v p once.1 (sym (rw e refl) ∙ h)
]

ended_twice : (c : ℕ) (o : Option Entry)
    → option_map (ended_at c) (option_map (ended_at c) o) ≡ option_map (ended_at c) o
ended_twice c None = refl
ended_twice c (Some e) = refl

-- a number that doesn't end keeps what it has
adjust_all-others : (c : ℕ) (ends : List ℕ) (m : Content) (v : ℕ) → is_one_of ends v ≡ false
    → adjust_all (ended_at c) ends m v ≡ m v
adjust_all-others c [] m v h = refl
adjust_all-others c (k ∷ ks) m v h =
    let here : eqb v k ≡ false = (or_false _ _ h).0 in
    adjust_all-others c ks (adjust (ended_at c) m k) v (or_false _ _ h).1 ∙ rw here refl

-- an end is an end, however often it is set
adjust_all-ended : (c : ℕ) (ends : List ℕ) (m : Content) (v : ℕ)
    → option_map (ended_at c) (adjust_all (ended_at c) ends m v) ≡ option_map (ended_at c) (m v)
adjust_all-ended c [] m v = refl
adjust_all-ended c (k ∷ ks) m v =
    adjust_all-ended c ks (adjust (ended_at c) m k) v ∙ elim (cases_Bool (eqb v k)) [
      | inl e ↦ rw e (ended_twice c (m v))
      | inr e ↦ rw e refl
    ]

adjust_all-ends : (c : ℕ) (ends : List ℕ) (m : Content) (v : ℕ) → is_one_of ends v ≡ true
    → adjust_all (ended_at c) ends m v ≡ option_map (ended_at c) (m v)
adjust_all-ends c [] m v h = cc
adjust_all-ends c (k ∷ ks) m v h = elim (cases_Bool (is_one_of ks v)) [
  | inl more ↦ adjust_all-ends c ks (adjust (ended_at c) m k) v more ∙ ended_once (eqb v k) (m v)
  | inr last ↦
      adjust_all-others c ks (adjust (ended_at c) m k) v last
      ∙ elim (cases_Bool (eqb v k)) [
        | inl e ↦ rw e refl
        | inr e ↦ absurd (neither (eqb v k) (is_one_of ks v) e last h)
      ]
]
  where
    ended_once : (b : Bool) (o : Option Entry)
        → option_map (ended_at c) (cond b (option_map (ended_at c) o) o) ≡ option_map (ended_at c) o
    ended_once true o = ended_twice c o
    ended_once false o = refl

    neither : (a b : Bool) → a ≡ false → b ≡ false → (a || b) ≡ true → ⊥
    neither false b e f g = cc
    neither true b e f g = cc

-- what a batch does, number by number
pub written-at : (births : List Birth) (ends : List ℕ) (c : ℕ) (m : Content) (v : ℕ) → GivenOnce births
    → written births ends c m v ≡ written_at (birth_of births v) (is_one_of ends v) c (m v)
written-at births ends c m v once =
    elim (birth_of births v) as (λ o.
    birth_of births v ≡ o → written births ends c m v ≡ written_at o (is_one_of ends v) c (m v)) [
      | Some p ↦ λ h. put_all-birth c births (adjust_all (ended_at c) ends m) v p once h
      | None ↦ λ h. put_all-others c births (adjust_all (ended_at c) ends m) v h ∙
          (elim (is_one_of ends v) as (λ b.
          is_one_of ends v ≡ b → adjust_all (ended_at c) ends m v ≡ written_at None b c (m v)) [
            | true ↦ λ e. adjust_all-ends c ends m v e
            | false ↦ λ e. adjust_all-others c ends m v e
          ]) refl
    ] refl
