-- A level of a tree, node by node; and the levels of a tree in use.
use Rattle.std.proofs.Common.{◌≡◌, ◌≢◌, ℕ, suc, ◌+◌, ◌*◌, ◌/◌, ◌<◌, List, [], ◌∷◌, ◌++◌, Option, Some, refl, ap, sym, subst, ◌∙◌, arith, inl, inr, ◌⊎◌, append_assoc}
use Rattle.std.specs.List.{Contains}
use Rattle.std.specs.Option.{IsSome}
use Rattle.std.proofs.lemmas.Bool.{cases_eq, eq-eqb, ne_eqb}
use Rattle.std.proofs.lemmas.List.{append-nil}
use Rattle.std.proofs.lemmas.List.Elements.{Contains-append_cases, Contains-append_left, Contains-append_right, Contains-push}
use Rattle.smallvec.specs.SmallVec.{SmallVec}
use Rattle.nl_types.specs.Blocks.Entries.{Birth, Content}
use Rattle.nl_types.specs.Blocks.RootChanges.{InPayloadOrder, IsSound, PrecedesInPayload}
use Rattle.nl_types.specs.Blocks.Roots.{Tree, pages_of, place_at}
use Rattle.nl_vstore.specs.Batches.{IsLowestFree, TakeLowestFree}
use Rattle.nl_blocktree.specs.Private.Edits.{ComesBefore, edited}
use Rattle.nl_blocktree.specs.Private.TreeLevels.{AreOldLevels}
use Rattle.nl_blocktree.specs.Private.Writing.{NodeBecomes, PutsLevel, PutsNode, ended_of}
use Rattle.nl_blocktree.specs.declared.tree.Edit.{Edit}
use Rattle.nl_blocktree.specs.Private.Writing as shapes
use Rattle.nl_blocktree.specs.Facts.Ended.{ended_once, ended_stood, stood_ends}
use Rattle.nl_blocktree.specs.Facts.Numbers.{numbered-push}
use Rattle.nl_blocktree.specs.Facts.Pairwise.{in_lone, pairs-append}
use Rattle.nl_blocktree.specs.Facts.TreeLevels.{tree_above, tree_child}
use Rattle.nl_blocktree.proofs.TreeShape.{full_of}

-- ---- edits of two parts

pub edited_right : (xs ys : List Edit) (old : ℕ → Option ℕ) (p : ℕ)
    → ((e : Edit) → Contains xs e → e.offset ≡ p → ⊥) → edited (xs ++ ys) old p ≡ edited ys old p
edited_right [] ys old p n = refl
edited_right (x ∷ xs) ys old p n =
    rw (ne_eqb p x.offset (λ e. n x (0, omega arith, refl) (sym e)))
    (edited_right xs ys old p (λ e c k. n e (suc c.0, (let l = c.1 in omega arith), c.2) k))

pub edited_left : (xs ys : List Edit) (old : ℕ → Option ℕ) (p : ℕ)
    → ((e : Edit) → Contains ys e → e.offset ≡ p → ⊥) → edited (xs ++ ys) old p ≡ edited xs old p
edited_left [] [] old p n = refl
edited_left [] (y ∷ ys) old p n =
    rw (ne_eqb p y.offset (λ e. n y (0, omega arith, refl) (sym e)))
    (edited_left [] ys old p (λ e c k. n e (suc c.0, (let l = c.1 in omega arith), c.2) k))
edited_left (x ∷ xs) ys old p n = elim (cases_eq p x.offset) [
  | inl e ↦ rw (eq-eqb p x.offset e) refl
  | inr e ↦ rw (ne_eqb p x.offset e) (edited_left xs ys old p n)
]

-- ---- one node more

module _ (offset number : ℕ) (over : SmallVec ℕ) {content : Content} {inode level : ℕ}
    (above below : ℕ → Option ℕ) (done group ups : List Edit) {old mid new : List Birth} {zs ys ends : List ℕ}
    (once : (a b v : ℕ) → above a ≡ Some v → above b ≡ Some v → a ≡ b)
    (h : PutsLevel content inode level above below done ups old mid zs ys)
    (first : (e : Edit) × Contains group e)
    (grouped : (e : Edit) → Contains group e → e.offset / 128 ≡ offset)
    (later : (u : Edit) → Contains ups u → u.offset < offset)
    (n : PutsNode content inode level offset (above offset)
    (λ s. edited group below (128 * offset + s)) number mid new ys ends) where
  up : Edit
  up = record { offset = offset; number = number; above = over }

  up_cases : (u : Edit) → Contains (ups ++ up ∷ []) u → Contains ups u ⊎ (u ≡ up)
  up_cases u k = elim (Contains-append_cases ups (up ∷ []) u k) [
    | inl q ↦ inl q
    | inr q ↦ inr (in_lone up u q)
  ]

  -- what the nodes before have below them stays
  before : (u : Edit) (s : ℕ) → Contains ups u → s < 128
      → edited (done ++ group) below (128 * u.offset + s) ≡ edited done below (128 * u.offset + s)
  before u s k low =
      edited_left done group below (128 * u.offset + s)
      (λ e c q. let g = grouped e c in let l = later u k in absurd (omega arith))

  here : (s : ℕ) → s < 128
      → edited (done ++ group) below (128 * offset + s) ≡ edited group below (128 * offset + s)
  here s low = edited_right done group below (128 * offset + s) (λ e c q.
      let u = h.up_of e c in
      let l = later u.0 u.1 in
      let o = u.2 in
      absurd (omega arith))

  keeps : (added : List Birth) (u : Edit) → Contains ups u → NodeBecomes done below h.added u
      → NodeBecomes (done ++ group) below (h.added ++ added) u
  keeps added u k (shapes.comes b c at m slots s low some) =
      shapes.comes b (Contains-append_left h.added added b c) at m
      (λ t l. slots t l ∙ sym (before u t k l)) s low
      (subst (λ (o : Option ℕ). IsSome o) (sym (before u s k low)) some)
  keeps added u k (shapes.goes z none) = shapes.goes z (λ t l. before u t k l ∙ none t l)

  together : (added : List Birth) → new ≡ mid ++ added → ends ≡ ys ++ ended_of (above offset)
      → TakeLowestFree content old (h.added ++ added) → InPayloadOrder added →
      ((b : Birth) → Contains added b
      → (b.place.inode ≡ inode) × (b.place.level ≡ level) × (b.place.offset ≡ offset) × (b.number ≡ number))
      →
      NodeBecomes (done ++ group) below (h.added ++ added) up →
      PutsLevel content inode level above below (done ++ group) (ups ++ up ∷ []) old new zs ends
  unfolding up
  together added bs es numbers order tag this = record {
    added = h.added ++ added;
    gone = h.gone ++ ended_of (above offset);
    births_are = bs ∙ (ap (λ (xs : List Birth). xs ++ added) h.births_are ∙ append_assoc old h.added added);
    ends_are =
        es
        ∙ (ap (λ (xs : List ℕ). xs ++ ended_of (above offset)) h.ends_are
        ∙ append_assoc zs h.gone (ended_of (above offset)));
    lowest_free = numbers;
    in_order = pairs-append PrecedesInPayload h.added added h.in_order order (λ x y k l.
        let u = h.born_up x k in
        let t = tag y l in
        let a = (h.tags x k).1 in
        let p = later u.0 u.1 in
        let q = u.2 in
        let r = t.2 in
        inr (a ∙ sym t.1, omega arith));
    tags = λ b k. elim (Contains-append_cases h.added added b k) [
      | inl q ↦ h.tags b q
      | inr q ↦ let t = tag b q in (t.0, t.1)
    ];
    ascending =
        pairs-append ComesBefore ups (up ∷ []) h.ascending (λ i j d l m. absurd (omega arith))
        (λ x y k l.
        let a = later x k in subst (λ (z : Edit). x.offset < z.offset) (sym (in_lone up y l)) a);
    up_of = λ e k. elim (Contains-append_cases done group e k) [
      | inl q ↦ let u = h.up_of e q in (u.0, Contains-append_left ups (up ∷ []) u.0 u.1, u.2)
      | inr q ↦ (up, Contains-push ups up, sym (grouped e q))
    ];
    edit_of = λ u k. elim (up_cases u k) [
      | inl q ↦ let e = h.edit_of u q in (e.0, Contains-append_left done group e.0 e.1, e.2)
      | inr q ↦ (
        first.0,
        Contains-append_right done group first.0 first.1,
        ap (λ (x : Edit). x.offset) q ∙ sym (grouped first.0 first.1),
      )
    ];
    becomes = λ u k. elim (up_cases u k) [
      | inl q ↦ keeps added u q (h.becomes u q)
      | inr q ↦ subst (λ (x : Edit). NodeBecomes (done ++ group) below (h.added ++ added) x) (sym q) this
    ];
    born_up = λ b k. elim (Contains-append_cases h.added added b k) [
      | inl q ↦ let u = h.born_up b q in (u.0, Contains-append_left ups (up ∷ []) u.0 u.1, u.2, u.3)
      | inr q ↦ let t = tag b q in (up, Contains-push ups up, t.2, t.3)
    ];
    ended = λ u v k e. elim (up_cases u k) [
      | inl q ↦ Contains-append_left h.gone (ended_of (above offset)) v (h.ended u v q e)
      | inr q ↦
          Contains-append_right h.gone (ended_of (above offset)) v
          (stood_ends (above offset) v (ap above (ap (λ (x : Edit). x.offset) (sym q)) ∙ e))
    ];
    gone_up = λ v k. elim (Contains-append_cases h.gone (ended_of (above offset)) v k) [
      | inl q ↦ let u = h.gone_up v q in (u.0, Contains-append_left ups (up ∷ []) u.0 u.1, u.2)
      | inr q ↦ (up, Contains-push ups up, ended_stood (above offset) v q)
    ];
    gone_once =
        pairs-append (λ (x : ℕ) (y : ℕ). x ≢ y) h.gone (ended_of (above offset)) h.gone_once
        (ended_once (above offset)) (λ x y k l e.
        let u = h.gone_up x k in
        let there : above offset ≡ Some x =
        ended_stood (above offset) y l ∙ ap (λ (m : ℕ). let o : Option ℕ = Some m in o) (sym e) in
        let same : u.0.offset ≡ offset = once u.0.offset offset x u.2 there in
        let less = later u.0 u.1 in
        absurd (omega arith));
  }

  pub level_more : PutsLevel content inode level above below (done ++ group)
      (ups ++ record { offset = offset; number = number; above = over } ∷ []) old new zs ends
  unfolding up
  level_more = elim n [
    | shapes.comes b i l o m free at s low some bs es ↦ together (b ∷ []) bs es
        (numbered-push content old h.added b h.lowest_free
        (subst (λ (xs : List Birth). IsLowestFree content xs b.number) h.births_are free))
        (λ p q d r t. absurd (omega arith))
        (λ x k.
        let e = in_lone b x k in (
          ap (λ (y : Birth). y.place.inode) e ∙ i,
          ap (λ (y : Birth). y.place.level) e ∙ l,
          ap (λ (y : Birth). y.place.offset) e ∙ o,
          ap (λ (y : Birth). y.number) e ∙ m,
        ))
        (shapes.comes b (Contains-push h.added b) o m (λ t r. at t r ∙ sym (here t r)) s low
        (subst (λ (x : Option ℕ). IsSome x) (sym (here s low)) some))
    | shapes.goes z none bs es ↦ together [] (bs ∙ sym (append-nil mid)) es
        (subst (λ (xs : List Birth). TakeLowestFree content old xs) (sym (append-nil h.added)) h.lowest_free)
        (λ p q d r t. absurd (omega arith))
        (λ x k. absurd (let l = k.1 in omega arith))
        (shapes.goes z (λ t r. here t r ∙ none t r))
  ]

-- ---- a tree in use

pub old_levels : (content : Content) (height top : ℕ) → IsSound (pages_of content) (Tree height top)
    → AreOldLevels content height (place_at (pages_of content) (Tree height top))
old_levels content height top sound = record {
  stored = sound.stored;
  once = λ p q v a b. sound.once p q v a b;
  children = λ l offset low. tree_child (pages_of content) height top l offset low;
  full = full_of (pages_of content) height top (sound.tree_shape refl);
  none_above = λ l offset far. tree_above (pages_of content) height top l offset far;
}
