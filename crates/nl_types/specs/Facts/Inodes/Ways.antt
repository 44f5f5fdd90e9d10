-- Laws of upward paths below a path, and what stands at a path once something is put there or moved.
use Rattle.std.specs.Prelude.{◌≡◌, ◌⊎◌, true, false, if◌then◌else◌, [], ◌∷◌, ◌++◌, length, Option, Some, None, refl}
use Rattle.std.specs.Option.{option_map}
use Rattle.std.proofs.Common.{sym, ◌∙◌, ap, subst, inl, inr, arith, length-append, true≢false}
use Rattle.std.proofs.lemmas.Bool.{cases_Bool}
use Rattle.nl_types.specs.Plain.Paths.{Name, Path, same_name, same_path}
use Rattle.nl_types.specs.Facts.TreeLaws.{same_path-equal}
use Rattle.nl_types.specs.Facts.Lookups.{same_path-itself, same_name-itself, same_name-equal}

-- x at a path, and what was there at every other
unfoldable pub put_at : {A : Type 0} → Path → Option A → (Path → Option A) → Path → Option A
put_at path x tree p = if same_path p path then x else tree p

-- what stands in front of `top` in the path, where it ends in `top`: the way down from it
unfoldable pub below : Path → Path → Option Path
below top [] = if same_path [] top then Some [] else None
below top (n ∷ p) = if same_path (n ∷ p) top then Some [] else option_map (λ r. n ∷ r) (below top p)

-- what comes to a path, by the way down to it from where things are moved to and from where they are moved
-- from
abbrev pub moved_by : {A : Type 0} → Path → (Path → Option A) → Path → Option Path → Option Path → Option A
moved_by from tree p (Some r) way_from = tree (r ++ from)
moved_by from tree p None (Some r) = None
moved_by from tree p None None = tree p

-- every path at or below `from` stands at or below `to` in its place
unfoldable pub moved : {A : Type 0} → Path → Path → (Path → Option A) → Path → Option A
moved from to tree p = moved_by from tree p (below to p) (below from p)

pub path_cases : (p q : Path) → ((same_path p q ≡ true) × (p ≡ q)) ⊎ ((same_path p q ≡ false) × (p ≡ q → ⊥))
path_cases p q = elim (cases_Bool (same_path p q)) [
  | inl e ↦ inl (e, same_path-equal p q e)
  | inr e ↦ inr (e, λ k. true≢false (sym (same_path-itself p) ∙ ap (same_path p) k ∙ e))
]

pub name_cases : (m n : Name) → ((same_name m n ≡ true) × (m ≡ n)) ⊎ ((same_name m n ≡ false) × (m ≡ n → ⊥))
name_cases m n = elim (cases_Bool (same_name m n)) [
  | inl e ↦ inl (e, same_name-equal m n e)
  | inr e ↦ inr (e, λ k. true≢false (sym (same_name-itself m) ∙ ap (same_name m) k ∙ e))
]

pub put_at-there : {A : Type 0} (path : Path) (x : Option A) (tree : Path → Option A)
    → put_at path x tree path ≡ x
unfolding put_at
put_at-there path x tree = rw (same_path-itself path) refl

pub put_at-other : {A : Type 0} (path : Path) (x : Option A) (tree : Path → Option A) (p : Path)
    → (p ≡ path → ⊥) → put_at path x tree p ≡ tree p
unfolding put_at
put_at-other path x tree p ne = elim (path_cases p path) [ inl t ↦ absurd (ne t.1) | inr f ↦ rw (f.0) refl ]

pub longer : (n : Name) (r p : Path) → n ∷ (r ++ p) ≡ p → ⊥
longer n r p e = let k : length (n ∷ (r ++ p)) ≡ length p = ap length e in omega (arith, length-append r p, k)

pub below-here : (top : Path) → below top top ≡ Some []
unfolding below
below-here [] = refl
below-here (n ∷ p) = rw (same_path-itself (n ∷ p)) refl

pub below-more : (top : Path) (n : Name) (p : Path) → (n ∷ p ≡ top → ⊥)
    → below top (n ∷ p) ≡ option_map (λ (r : Path). n ∷ r) (below top p)
unfolding below
below-more top n p ne = elim (path_cases (n ∷ p) top) [ inl t ↦ absurd (ne t.1) | inr f ↦ rw (f.0) refl ]

pub below-append : (top r : Path) → below top (r ++ top) ≡ Some r
below-append top [] = below-here top
below-append top (n ∷ r) =
    below-more top n (r ++ top) (longer n r top) ∙ ap (option_map (λ (s : Path). n ∷ s)) (below-append top r)

mapped_some : {A B : Type 0} (f : A → B) (o : Option A) (y : B) → option_map f o ≡ Some y
    → (x : A) × (o ≡ Some x) × (f x ≡ y)
mapped_some f None y e = cc
mapped_some f (Some x) y e = (x, refl, (cc))

below-nil : (top r : Path) → ([] ≡ top → ⊥) → below top [] ≡ Some r → ⊥
unfolding below
below-nil top r ne e =
    elim (path_cases [] top) [ inl t ↦ ne t.1 | inr f ↦ let k : None ≡ Some r = rw (f.0) at e in cc ]

below-top : (top p r : Path) → p ≡ top → below top p ≡ Some r → p ≡ r ++ top
below-top top p r q e =
    let k : below top top ≡ Some r = subst (λ x. below top x ≡ Some r) q e in
    let l : Some r ≡ Some [] = sym k ∙ below-here top in
    let s : r ≡ [] = cc in
    rw (s, q) refl

-- what `below` answers is the way down
pub below-is : (top p r : Path) → below top p ≡ Some r → p ≡ r ++ top
below-is top [] r e =
    elim (path_cases [] top) [ inl t ↦ below-top top [] r t.1 e | inr f ↦ absurd (below-nil top r f.1 e) ]
below-is top (n ∷ p) r e = elim (path_cases (n ∷ p) top) [
  | inl t ↦ below-top top (n ∷ p) r t.1 e
  | inr f ↦
      let m = mapped_some (λ (x : Path). n ∷ x) (below top p) r (sym (below-more top n p f.1) ∙ e) in
      ap (λ (x : Path). n ∷ x) (below-is top p m.0 m.1) ∙ ap (λ (x : Path). x ++ top) m.2
]

pub below-root : (n : Name) (p : Path) → below (n ∷ p) [] ≡ None
unfolding below
below-root n p = refl

none_by : (o : Option Path) → ((r : Path) → o ≡ Some r → ⊥) → o ≡ None
none_by None h = refl
none_by (Some r) h = absurd (h r refl)

pub below-none : (top p : Path) → ((r : Path) → p ≡ r ++ top → ⊥) → below top p ≡ None
below-none top p h = none_by (below top p) (λ r e. h r (below-is top p r e))

pub below-parent : (top : Path) (n : Name) (p : Path) → below top (n ∷ p) ≡ None → below top p ≡ None
below-parent top n p h = none_by (below top p) (λ r e.
    let here : n ∷ p ≡ (n ∷ r) ++ top = ap (λ (q : Path). n ∷ q) (below-is top p r e) in
    let k : below top (n ∷ p) ≡ Some (n ∷ r) = ap (below top) here ∙ below-append top (n ∷ r) in
    let c : None ≡ Some (n ∷ r) = sym h ∙ k in
    cc)

pub moved-to : {A : Type 0} (from to : Path) (tree : Path → Option A) (r : Path)
    → moved from to tree (r ++ to) ≡ tree (r ++ from)
unfolding moved
moved-to from to tree r =
    ap (λ (w : Option Path). moved_by from tree (r ++ to) w (below from (r ++ to))) (below-append to r)

pub moved-from : {A : Type 0} (from to : Path) (tree : Path → Option A) (r : Path)
    → below to (r ++ from) ≡ None → moved from to tree (r ++ from) ≡ None
unfolding moved
moved-from from to tree r h =
    ap (λ (w : Option Path). moved_by from tree (r ++ from) w (below from (r ++ from))) h
    ∙ ap (λ (w : Option Path). moved_by from tree (r ++ from) None w) (below-append from r)

pub moved-elsewhere : {A : Type 0} (from to : Path) (tree : Path → Option A) (p : Path) → below to p ≡ None
    → below from p ≡ None → moved from to tree p ≡ tree p
unfolding moved
moved-elsewhere from to tree p h k =
    ap (λ (w : Option Path). moved_by from tree p w (below from p)) h
    ∙ ap (λ (w : Option Path). moved_by from tree p None w) k
