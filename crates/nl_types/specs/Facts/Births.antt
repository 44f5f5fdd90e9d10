-- Births of a batch by their numbers and by their places, and what numbers and births make of content.
use Rattle.std.proofs.Common.{◌≡◌, ◌⊎◌, ℕ, zero, suc, ◌<◌, Bool, true, false, eqb, List, [], ◌∷◌, length, get_or, Option, Some, None, refl, ap, sym, subst, ◌∙◌, arith, inl, inr}
use Rattle.std.specs.Prelude.{◌||◌, ◌&&◌}
use Rattle.std.specs.List.{Contains}
use Rattle.std.specs.Option.{option_map}
use Rattle.std.proofs.lemmas.Bool.{cases_Bool, eqb-true, eq-eqb, or_cases}
use Rattle.nl_types.specs.Blocks.Entries.{Birth, Content, Entry, GivenOnce, Place, birth_of, number_of, written, written_at}
use Rattle.nl_types.specs.Blocks.Lifetimes.{birth_at, is_same_place}
use Rattle.nl_types.specs.Plain.NumberLists.{is_one_of}
use Rattle.nl_types.specs.Blocks.RootChanges.{with_births}
use Rattle.nl_types.specs.Blocks.Roots.{Pages, pages_of}
use Rattle.nl_types.specs.Facts.PartialMaps.{same_at_all}
use Rattle.nl_types.specs.Facts.WrittenEntries.{written-at}

-- ---- members

-- what a list contains is its head, or the rest contains it
pub uncons : {X : Type 0} (x : X) (xs : List X) (y : X) → Contains (x ∷ xs) y → (x ≡ y) ⊎ Contains xs y
uncons x xs y c = go c.0 c.1 c.2
  where
    go : (k : ℕ) → k < length (x ∷ xs) → get_or (x ∷ xs) k y ≡ y → (x ≡ y) ⊎ Contains xs y
    go zero l e = inl e
    go (suc k) l e = inr (k, omega arith, e)

pub one_of-is : (xs : List ℕ) (v : ℕ) → Contains xs v → is_one_of xs v ≡ true
one_of-is [] v c = absurd (let l = c.1 in omega arith)
one_of-is (x ∷ xs) v c = elim (uncons x xs v c) [
  | inl e ↦ ap (λ t. t || is_one_of xs v) (eq-eqb v x (sym e))
  | inr k ↦ or_right (eqb v x) (one_of-is xs v k)
]
  where
    or_right : (a : Bool) {b : Bool} → b ≡ true → (a || b) ≡ true
    or_right true h = refl
    or_right false h = h

pub is-one_of : (xs : List ℕ) (v : ℕ) → is_one_of xs v ≡ true → Contains xs v
is-one_of [] v h = cc
is-one_of (x ∷ xs) v h = elim (or_cases (eqb v x) (is_one_of xs v) h) [
  | inl e ↦ (0, omega arith, sym (eqb-true v x e))
  | inr e ↦ let r = is-one_of xs v e in (suc r.0, (let l = r.1 in omega arith), r.2)
]

-- ---- the birth at a place

and_parts : (a b : Bool) → (a && b) ≡ true → (a ≡ true) × (b ≡ true)
and_parts true b h = (refl, h)
and_parts false b h = cc

pub same_place : (a b : Place) → is_same_place a b ≡ true → a ≡ b
same_place a b h =
    let one = and_parts _ _ h in
    let two = and_parts _ _ one.1 in
    fields a b (eqb-true a.inode b.inode one.0) (eqb-true a.level b.level two.0)
    (eqb-true a.offset b.offset two.1)
  where
    fields : (x y : Place) → x.inode ≡ y.inode → x.level ≡ y.level → x.offset ≡ y.offset → x ≡ y
    fields x y i l o = place i l o
      where
        place : {i i' l l' o o' : ℕ} → i ≡ i' → l ≡ l' → o ≡ o'
            → (let p : Place = record { inode = i; level = l; offset = o } in p)
            ≡ record { inode = i'; level = l'; offset = o' }
        place a b c = cc

pub is_same : (a b : Place) → a ≡ b → is_same_place a b ≡ true
is_same a b e =
    subst (λ (x : Place). is_same_place a x ≡ true) e
    (rw (eq-eqb a.inode a.inode refl, eq-eqb a.level a.level refl, eq-eqb a.offset a.offset refl) refl)

pub found : (births : List Birth) (q : Place) (p : Birth) → birth_at births q ≡ Some p
    → Contains births p × (p.place ≡ q)
found [] q p h = cc
found (b ∷ births) q p h = elim (cases_Bool (is_same_place q b.place)) [
  | inl e ↦
      let is : Some b ≡ Some p = sym (rw e refl) ∙ h in
      let it : b ≡ p = cc in
      ((0, omega arith, it), ap (λ (x : Birth). x.place) (sym it) ∙ sym (same_place q b.place e))
  | inr e ↦
      let r = found births q p (sym (rw e refl) ∙ h) in
      ((suc r.0.0, (let l = r.0.1 in omega arith), r.0.2), r.1)
]

pub not_found : (births : List Birth) (q : Place) (p : Birth) → birth_at births q ≡ None → Contains births p
    → p.place ≡ q → ⊥
not_found [] q p h c e = let l = c.1 in omega arith
not_found (b ∷ births) q p h c e = elim (cases_Bool (is_same_place q b.place)) [
  | inl t ↦ let no : Some b ≡ None = sym (rw t refl) ∙ h in cc
  | inr t ↦ elim (uncons b births p c) [
    | inl k ↦
        let yes : true ≡ false = sym (is_same q b.place (sym e ∙ ap (λ (x : Birth). x.place) (sym k))) ∙ t in
        cc
    | inr k ↦ not_found births q p (sym (rw t refl) ∙ h) k e
  ]
]

-- ---- the birth under a number

pub given : (births : List Birth) (p : Birth) → GivenOnce births → Contains births p
    → birth_of births p.number ≡ Some p
given [] p once c = absurd (let l = c.1 in omega arith)
given (b ∷ births) p once c = elim (cases_Bool (eqb p.number b.number)) [
  | inl t ↦ elim (uncons b births p c) [
    | inl k ↦ rw t (ap (λ (x : Birth). Some x) k)
    | inr k ↦
        let here : birth_of births b.number ≡ Some p =
        ap (birth_of births) (sym (eqb-true p.number b.number t)) ∙ given births p once.1 k in
        let no : None ≡ Some p = sym once.0 ∙ here in cc
  ]
  | inr t ↦ elim (uncons b births p c) [
    | inl k ↦ let yes : true ≡ false = sym (eq-eqb p.number b.number (ap number_of (sym k))) ∙ t in cc
    | inr k ↦ rw t (given births p once.1 k)
  ]
]

pub given_in : (births : List Birth) (v : ℕ) (p : Birth) → birth_of births v ≡ Some p
    → Contains births p × (p.number ≡ v)
given_in [] v p h = cc
given_in (b ∷ births) v p h = elim (cases_Bool (eqb v b.number)) [
  | inl t ↦
      let is : Some b ≡ Some p = sym (rw t refl) ∙ h in
      let it : b ≡ p = cc in
      ((0, omega arith, it), ap number_of (sym it) ∙ sym (eqb-true v b.number t))
  | inr t ↦
      let r = given_in births v p (sym (rw t refl) ∙ h) in
      ((suc r.0.0, (let l = r.0.1 in omega arith), r.0.2), r.1)
]

-- the page that a number stands for, where it may be a birth's
abbrev pub page_given : Option Birth → Option (List ℕ) → Option (List ℕ)
page_given None page = page
page_given (Some b) page = Some b.page

pub pages-given : (births : List Birth) (pages : Pages) (v : ℕ)
    → with_births births pages v ≡ page_given (birth_of births v) (pages v)
unfolding with_births
pages-given [] pages v = refl
pages-given (b ∷ births) pages v = elim (cases_Bool (eqb v b.number)) [
  | inl t ↦ rw t refl
  | inr t ↦ rw t (pages-given births pages v)
]

pub pages-written : (births : List Birth) (ends : List ℕ) (c : ℕ) (content : Content) → GivenOnce births
    → pages_of (written births ends c content) ≡ with_births births (pages_of content)
pages-written births ends c content once = same_at_all _ _ (λ v.
    ap (option_map page_of) (written-at births ends c content v once)
    ∙ (of_entry (birth_of births v) (is_one_of ends v) (content v)
    ∙ sym (pages-given births (pages_of content) v)))
  where
    page_of : Entry → List ℕ
    page_of e = e.page

    of_entry : (b : Option Birth) (t : Bool) (e : Option Entry)
        → option_map (λ (x : Entry). x.page) (written_at b t c e)
        ≡ page_given b (option_map (λ (x : Entry). x.page) e)
    of_entry (Some b) t e = refl
    of_entry None false e = refl
    of_entry None true None = refl
    of_entry None true (Some e) = refl
