-- Edits of one level of a tree, and of the level above it.
use Rattle.std.proofs.Common.{◌≡◌, ℕ, zero, suc, ◌+◌, ◌*◌, ◌/◌, ◌%◌, ◌<◌, List, [], ◌∷◌, ◌++◌, length, get_or, Option, Some, None, refl, ap, sym, subst, ◌∙◌, arith, inl, inr, ◌⊎◌}
use Rattle.std.specs.List.{AllPairs, Contains}
use Rattle.std.specs.Option.{option_and_then, IsSome}
use Rattle.std.proofs.lemmas.Bool.{cases_eq, eq-eqb, ne_eqb}
use Rattle.std.proofs.lemmas.List.Elements.{Contains-get_or}
use Rattle.nl_types.specs.Facts.Births.{uncons}
use Rattle.nl_types.specs.Blocks.Entries.{Birth, Content}
use Rattle.nl_types.specs.Blocks.RootChanges.{Includes, born, with_births}
use Rattle.nl_types.specs.Blocks.Roots.{Pages, child, numbered, pages_of, slot}
use Rattle.nl_vstore.specs.Batches.{TakeLowestFree}
use Rattle.nl_blocktree.specs.Private.Edits.{ComesBefore, edited}
use Rattle.nl_blocktree.specs.Private.Writing.{NodeBecomes, PlaceBecomes, PutsLevel, stays}
use Rattle.nl_blocktree.specs.declared.tree.Edit.{Edit}
use Rattle.nl_blocktree.specs.Private.Writing as shapes
use Rattle.nl_blocktree.specs.Facts.Frames.{block-kept}
use Rattle.nl_blocktree.specs.Facts.Numbers.{born_in, free-some, numbered_later, numbered_untaken}

-- ---- members

in_tail : {X : Type 0} (x : X) (xs : List X) (y : X) → Contains xs y → Contains (x ∷ xs) y
in_tail x xs y c = (suc c.0, (let l = c.1 in omega arith), c.2)

pairs_tail : {X : Type 0} (R : X → X → Type 0) (x : X) (xs : List X) → AllPairs R (x ∷ xs) → AllPairs R xs
pairs_tail R x xs a i j d l m = a (suc i) (suc j) d (omega arith) (omega arith)

pairs_head : {X : Type 0} (R : X → X → Type 0) (x : X) (xs : List X) (y : X) → AllPairs R (x ∷ xs)
    → Contains xs y → R x y
pairs_head R x xs y a c = subst (R x) c.2 (a 0 (suc c.0) y (omega arith) (let l = c.1 in omega arith))

-- ---- what stands at an offset

-- an edit says what stands there, or what was there stands
pub edited_cases : (edits : List Edit) (old : ℕ → Option ℕ) (p : ℕ) →
    ((e : Edit) × Contains edits e × (e.offset ≡ p) × (edited edits old p ≡ numbered e.number))
    ⊎ (((e : Edit) → Contains edits e → e.offset ≡ p → ⊥) × (edited edits old p ≡ old p))
edited_cases [] old p = inr (λ e c k. absurd (let l = c.1 in omega arith), refl)
edited_cases (x ∷ xs) old p = elim (cases_eq p x.offset) [
  | inl k ↦ inl (x, (0, omega arith, refl), sym k, rw (eq-eqb p x.offset k) refl)
  | inr n ↦ elim (edited_cases xs old p) [
    | inl r ↦ inl (r.0, in_tail x xs r.0 r.1, r.2, (let z = r.3 in rw (ne_eqb p x.offset n) z))
    | inr r ↦
        inr (
          λ e c k.
              (elim (uncons x xs e c)
              [ inl q ↦ n (sym k ∙ ap (λ (y : Edit). y.offset) (sym q)) | inr q ↦ r.0 e q k ]),
          (let z = r.1 in rw (ne_eqb p x.offset n) z),
        )
  ]
]

-- edits ascend, so each is the only one at its offset
pub edited_at : (edits : List Edit) (old : ℕ → Option ℕ) (e : Edit) → AllPairs ComesBefore edits
    → Contains edits e → edited edits old e.offset ≡ numbered e.number
edited_at [] old e a c = absurd (let l = c.1 in omega arith)
edited_at (x ∷ xs) old e a c = elim (uncons x xs e c) [
  | inl q ↦
      rw (eq-eqb e.offset x.offset (ap (λ (y : Edit). y.offset) (sym q)))
      (ap (λ (y : Edit). numbered y.number) q)
  | inr q ↦
      let before : x.offset < e.offset = pairs_head ComesBefore x xs e a q in
      rw (ne_eqb e.offset x.offset (λ k. absurd (omega arith)))
      (edited_at xs old e (pairs_tail ComesBefore x xs a) q)
]

-- ---- pages of births

-- the pages of older births play no part for a number that they don't have
with-older : (old births : List Birth) (pages : Pages) (n : ℕ) → (Contains (born old) n → ⊥)
    → with_births (old ++ births) pages n ≡ with_births births pages n
unfolding with_births
with-older [] births pages n h = refl
with-older (b ∷ old) births pages n h =
    rw (ne_eqb n b.number (λ e. h (0, omega arith, sym e)))
    (with-older old births pages n (λ c. h (suc c.0, (let l = c.1 in omega arith), c.2)))

with-there : (content : Content) (before births : List Birth) (pages : Pages) (k : ℕ) (d : Birth)
    → TakeLowestFree content before births → k < length births →
    with_births births pages (get_or births k d).number ≡ Some (get_or births k d).page
unfolding with_births
with-there content before [] pages k d n l = absurd (omega arith)
with-there content before (b ∷ births) pages zero d n l = rw (eq-eqb b.number b.number refl) refl
with-there content before (b ∷ births) pages (suc k) d n l =
    rw (ne_eqb (get_or births k d).number b.number
    (λ e.
    numbered_later content before births b (get_or births k d) n.1
    (Contains-get_or births k d (omega arith)) (sym e)))
    (with-there content (before ++ b ∷ []) births pages k d n.1 (omega arith))

pub birth_page : (content : Content) (old added : List Birth) (b : Birth) → TakeLowestFree content old added
    → Contains added b →
    with_births (old ++ added) (pages_of content) b.number ≡ Some b.page
birth_page content old added b n c =
    with-older old added (pages_of content) b.number
    (λ k. numbered_untaken content old added b.number n (born_in added b c) k)
    ∙ subst (λ (x : Birth). with_births added (pages_of content) x.number ≡ Some x.page) c.2
    (with-there content old added (pages_of content) c.0 b n c.1)

pub child_kept : (pages more : Pages) (s : ℕ) (node : Option ℕ) → Includes pages more
    → ((v : ℕ) → node ≡ Some v → IsSome (pages v)) → child more s node ≡ child pages s node
child_kept pages more s node u h =
    ap (option_and_then (λ (page : List ℕ). slot s page)) (block-kept pages more node u h)

child_at : (pages : Pages) (s n : ℕ) (bytes : List ℕ) → pages n ≡ Some bytes
    → child pages s (Some n) ≡ slot s bytes
child_at pages s n bytes e = rw e refl

pub birth_named : (content : Content) (old added : List Birth) (b : Birth) → TakeLowestFree content old added
    → Contains added b → numbered b.number ≡ Some b.number
birth_named content old [] b n c = absurd (let l = c.1 in omega arith)
birth_named content old (x ∷ xs) b n c = elim (uncons x xs b c) [
  | inl q ↦ subst (λ (y : Birth). numbered y.number ≡ Some y.number) q (free-some content old x.number n.0)
  | inr q ↦ birth_named content (old ++ x ∷ []) xs b n.1 q
]

-- ---- one level

module _ {content : Content} {inode level : ℕ} {above below : ℕ → Option ℕ} {edits ups : List Edit}
    {old all : List Birth} {zs ends : List ℕ}
    (h : PutsLevel content inode level above below edits ups old all zs ends) where
  pages : Pages
  pages = with_births all (pages_of content)

  page_of : (b : Birth) → Contains h.added b → with_births all (pages_of content) b.number ≡ Some b.page
  page_of b c =
      ap (λ (bs : List Birth). with_births bs (pages_of content) b.number) h.births_are
      ∙ birth_page content old h.added b h.lowest_free c

  pub at_up : (u : Edit) → Contains ups u → edited ups above u.offset ≡ numbered u.number
  at_up u c = edited_at ups above u h.ascending c

  pub at_birth : (u : Edit) (b : Birth) → Contains ups u → Contains h.added b → b.number ≡ u.number
      → edited ups above u.offset ≡ Some b.number
  at_birth u b c k e = at_up u c ∙ (ap numbered (sym e) ∙ birth_named content old h.added b h.lowest_free k)

  -- the level below is what the nodes of this one name
  pub level_children : ((offset : ℕ) → ((u : Edit) → Contains ups u → u.offset ≡ offset / 128 → ⊥)
      → below offset ≡ child (with_births all (pages_of content)) (offset % 128) (above (offset / 128)))
      →
      (offset : ℕ)
      → edited edits below offset
      ≡ child (with_births all (pages_of content)) (offset % 128) (edited ups above (offset / 128))
  level_children rest offset = elim (edited_cases ups above (offset / 128)) [
    | inl r ↦ elim (h.becomes r.0 r.1) [
      | shapes.comes b k at number slots s low some ↦
          let m : offset % 128 < 128 = omega arith in
          let o : 128 * r.0.offset + offset % 128 ≡ offset = (let q = r.2 in omega arith) in
          let now : edited ups above (offset / 128) ≡ Some b.number =
          ap (edited ups above) (sym r.2) ∙ at_birth r.0 b r.1 k number in
          sym (ap (child (with_births all (pages_of content)) (offset % 128)) now
          ∙ (child_at (with_births all (pages_of content)) (offset % 128) b.number b.page (page_of b k)
          ∙ (slots (offset % 128) m ∙ ap (edited edits below) o)))
      | shapes.goes z none ↦
          let m : offset % 128 < 128 = omega arith in
          let o : 128 * r.0.offset + offset % 128 ≡ offset = (let q = r.2 in omega arith) in
          let now : edited ups above (offset / 128) ≡ None =
          ap (edited ups above) (sym r.2) ∙ (at_up r.0 r.1 ∙ ap numbered z) in
          ap (edited edits below) (sym o)
          ∙ (none (offset % 128) m ∙ sym (ap (child (with_births all (pages_of content)) (offset % 128)) now))
    ]
    | inr r ↦ elim (edited_cases edits below offset) [
      | inl e ↦
          let u = h.up_of e.0 e.1 in
          absurd (r.0 u.0 u.1 (u.2 ∙ ap (λ (x : ℕ). x / 128) e.2))
      | inr e ↦
          e.1 ∙ (rest offset r.0 ∙ sym (ap (child (with_births all (pages_of content)) (offset % 128)) r.1))
    ]
  ]

  -- each node of this level has a block below it
  pub level_full : ((offset v : ℕ) → ((u : Edit) → Contains ups u → u.offset ≡ offset → ⊥)
      → above offset ≡ Some v → (s : ℕ) × (s < 128) × IsSome (below (128 * offset + s)))
      →
      (offset v : ℕ) → edited ups above offset ≡ Some v
      → (s : ℕ) × (s < 128) × IsSome (edited edits below (128 * offset + s))
  level_full rest offset v e = elim (edited_cases ups above offset) [
    | inl r ↦ elim (h.becomes r.0 r.1) [
      | shapes.comes b k at number slots s low some ↦
          (s, low, subst (λ (o : ℕ). IsSome (edited edits below (128 * o + s))) r.2 some)
      | shapes.goes z none ↦ let no : None ≡ Some v = sym (r.3 ∙ ap numbered z) ∙ e in cc
    ]
    | inr r ↦
        let w = rest offset v r.0 (sym r.1 ∙ e) in (
          w.0,
          w.1,
          elim (edited_cases edits below (128 * offset + w.0)) [
            | inl k ↦
                let u = h.up_of k.0 k.1 in
                let q : (128 * offset + w.0) / 128 ≡ offset = (let l = w.1 in omega arith) in
                absurd (r.0 u.0 u.1 (u.2 ∙ (ap (λ (x : ℕ). x / 128) k.2 ∙ q)))
            | inr k ↦ subst (λ (o : Option ℕ). IsSome o) (sym k.1) w.2
          ],
        )
  ]

  -- what became of each place of this level
  pub level_becomes : (offset : ℕ)
      → PlaceBecomes (above offset) (edited ups above offset) level offset h.added h.gone
  level_becomes offset = elim (edited_cases ups above offset) [
    | inl r ↦ elim (h.becomes r.0 r.1) [
      | shapes.comes b k at number slots s low some ↦
          shapes.comes b k ((h.tags b k).1, at ∙ r.2)
          (ap (edited ups above) (sym r.2) ∙ at_birth r.0 b r.1 k number)
          (λ v e. h.ended r.0 v r.1 (ap above r.2 ∙ e))
      | shapes.goes z none ↦ shapes.goes (r.3 ∙ ap numbered z) (λ v e. h.ended r.0 v r.1 (ap above r.2 ∙ e))
    ]
    | inr r ↦ stays r.1
  ]
