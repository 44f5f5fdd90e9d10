-- One group of edits more, and one level more.
use Rattle.std.proofs.Common.{◌≡◌, ◌≢◌, ℕ, zero, suc, ◌+◌, ◌*◌, ◌-◌, ◌/◌, ◌%◌, ◌<◌, ◌≤◌, List, [], ◌∷◌, ◌++◌, length, get_or, take, drop, Option, Some, refl, ap, sym, subst, ◌∙◌, arith, inl, inr, ◌⊎◌}
use Rattle.std.specs.List.{AllPairs, Contains}
use Rattle.std.specs.Option.{IsSome}
use Rattle.std.proofs.lemmas.Bool.{cases_eq, cases_lt}
use Rattle.std.proofs.lemmas.List.{append-nil, get_or-drop, get_or-take, length-drop, length-take}
use Rattle.smallvec.specs.SmallVec.{SmallVec}
use Rattle.nl_types.specs.Blocks.Entries.{Birth, Content}
use Rattle.nl_types.specs.Blocks.RootChanges.{IsSound}
use Rattle.nl_types.specs.Blocks.Roots.{Root, child, pages_of}
use Rattle.nl_blocktree.specs.Private.Edits.{ComesBefore, IsEdited, edited}
use Rattle.nl_blocktree.specs.Private.TreeLevels.{kept_levels, tree_height}
use Rattle.nl_blocktree.specs.Private.Writing.{PutsLevel, PutsNode, slots_with}
use Rattle.nl_blocktree.specs.declared.tree.Edit.{Edit}
use Rattle.nl_blocktree.specs.Private.Writing as shapes
use Rattle.nl_blocktree.specs.Facts.Frames.{cases-Option}
use Rattle.nl_blocktree.proofs.TreeEdits.{edited_at, edited_cases}
use Rattle.nl_blocktree.proofs.TreeGroups.{level_more}
use Rattle.nl_blocktree.proofs.TreeKept.{kept_old, kept_once, none_over}

-- ---- lists in parts

none_taken : {X : Type 0} (n : ℕ) → take {A = X} n [] ≡ []
none_taken zero = refl
none_taken (suc n) = refl

pub take_parts : {X : Type 0} (xs : List X) (n m k : ℕ) → k ≡ n + m
    → take k xs ≡ take n xs ++ take m (drop n xs)
take_parts xs zero m k e = let s : k ≡ m = omega (arith, e) in ap (λ (i : ℕ). take i xs) s
take_parts [] (suc n) m k e = none_taken k ∙ sym (none_taken m)
take_parts (x ∷ xs) (suc n) m zero e = absurd (omega (arith, e))
take_parts (x ∷ xs) (suc n) m (suc k) e = ap (λ ys. x ∷ ys) (take_parts xs n m k (omega (arith, e)))

pub any_default : {X : Type 0} (xs : List X) (j : ℕ) (u v : X) → j < length xs → get_or xs j u ≡ get_or xs j v
any_default [] j u v h = absurd (omega arith)
any_default (y ∷ ys) zero u v h = refl
any_default (y ∷ ys) (suc j) u v h = any_default ys j u v (omega arith)

-- ---- a node's slots

edited_same : (group : List Edit) (f g : ℕ → Option ℕ) (p : ℕ) → AllPairs ComesBefore group
    → (((e : Edit) → Contains group e → e.offset ≡ p → ⊥) → f p ≡ g p) → edited group f p ≡ edited group g p
edited_same group f g p a h = elim (edited_cases group f p) [
  | inl r ↦ r.3 ∙ sym (ap (edited group g) (sym r.2) ∙ edited_at group g r.0 a r.1)
  | inr r ↦ elim (edited_cases group g p) [
    | inl s ↦ absurd (r.0 s.0 s.1 s.2)
    | inr s ↦ r.1 ∙ (h r.0 ∙ sym s.1)
  ]
]

node_same : {content : Content} {inode level offset : ℕ} {above : Option ℕ} {slots slots' : ℕ → Option ℕ}
    {number : ℕ} {births births' : List Birth} {ends ends' : List ℕ}
    →
    ((s : ℕ) → s < 128 → slots s ≡ slots' s)
    → PutsNode content inode level offset above slots number births births' ends ends'
    → PutsNode content inode level offset above slots' number births births' ends ends'
node_same h (shapes.comes b i l o n free at s low some bs es) =
    shapes.comes b i l o n free (λ t r. at t r ∙ h t r) s low
    (subst (λ (x : Option ℕ). IsSome x) (h s low) some) bs es
node_same h (shapes.goes z none bs es) = shapes.goes z (λ t r. sym (h t r) ∙ none t r) bs es

module _ (content : Content) (root : Root) (below : ℕ) (edits group : List Edit) (offset : ℕ)
    (sound : IsSound (pages_of content) root) (ascending : AllPairs ComesBefore group)
    (told : tree_height root ≤ below → (i v : ℕ) → kept_levels (pages_of content) root below i ≡ Some v
    → IsEdited edits i)
    (all : (e : Edit) → Contains edits e → e.offset / 128 ≡ offset → Contains group e) where
  -- the slots of a node that is kept are the blocks of the level below
  slots_same : (s : ℕ) → s < 128
      → edited group
      (λ i. child (pages_of content) (i % 128) (kept_levels (pages_of content) root (suc below) offset))
      (128 * offset + s)
      ≡ edited group (kept_levels (pages_of content) root below) (128 * offset + s)
  slots_same s low =
      edited_same group
      (λ i. child (pages_of content) (i % 128) (kept_levels (pages_of content) root (suc below) offset))
      (kept_levels (pages_of content) root below) (128 * offset + s) ascending
      (λ none. at none (cases_lt below (tree_height root)))
    where
      q : (128 * offset + s) / 128 ≡ offset
      q = omega arith

      at : ((e : Edit) → Contains group e → e.offset ≡ 128 * offset + s → ⊥)
          → (below < tree_height root) ⊎ (tree_height root ≤ below) →
          child (pages_of content) ((128 * offset + s) % 128)
          (kept_levels (pages_of content) root (suc below) offset)
          ≡ kept_levels (pages_of content) root below (128 * offset + s)
      at none (inl l) =
          sym ((kept_old content root sound).children below (128 * offset + s) l
          ∙ ap (λ (o : ℕ).
          child (pages_of content) ((128 * offset + s) % 128)
          (kept_levels (pages_of content) root (suc below) o))
          q)
      at none (inr l) =
          ap (child (pages_of content) ((128 * offset + s) % 128))
          (none_over (pages_of content) root (suc below) offset (omega arith))
          ∙ sym (elim (cases-Option (kept_levels (pages_of content) root below (128 * offset + s))) [
            | inl e ↦ e
            | inr e ↦
                let t = told l (128 * offset + s) e.0 e.1 in
                absurd (none t.0 (all t.0 t.1 (ap (λ (o : ℕ). o / 128) t.2 ∙ q)) t.2)
          ])

-- ---- the groups of a level

module _ (edits : List Edit) (at end offset : ℕ) (ascending : AllPairs ComesBefore edits) (after : at < end)
    (within : end ≤ length edits)
    (edge : (i j : ℕ) (d e : Edit) → i < at → at ≤ j → j < length edits
    → (get_or edits i d).offset / 128 < (get_or edits j e).offset / 128)
    (grouped : (k : ℕ) (d e : Edit) → at ≤ k → k < end
    → (get_or edits k d).offset / 128 ≡ (get_or edits at e).offset / 128)
    (next : (d e : Edit) → end < length edits
    → (get_or edits end d).offset / 128 ≢ (get_or edits at e).offset / 128)
    (is : (d : Edit) → offset ≡ (get_or edits at d).offset / 128) where
  rises : (i j : ℕ) (d e : Edit) → i ≤ j → j < length edits
      → (get_or edits i d).offset / 128 ≤ (get_or edits j e).offset / 128
  rises i j d e l m = elim (cases_eq i j) [
    | inl q ↦
        let r : get_or edits i d ≡ get_or edits j e =
        ap (λ (k : ℕ). get_or edits k d) q ∙ any_default edits j d e m in
        let s = ap (λ (x : Edit). x.offset / 128) r in omega (arith, s)
    | inr q ↦
        let p = ascending i j e (omega (arith, q)) m in
        let r = ap (λ (x : Edit). x.offset) (any_default edits i d e (omega arith)) in
        omega (arith, p, r)
  ]

  pub later_edge : (i j : ℕ) (d e : Edit) → i < end → end ≤ j → j < length edits
      → (get_or edits i d).offset / 128 < (get_or edits j e).offset / 128
  later_edge i j d e l m n =
      let a = rises i at d e in
      let first : (get_or edits i d).offset / 128 ≤ (get_or edits at e).offset / 128 = low (cases_lt i at) in
      let far = next d e (omega arith) in
      let up = rises at end e d (omega arith) (omega arith) in
      let on = rises end j d e m n in
      omega (arith, first, far, up, on)
    where
      low : (i < at) ⊎ (at ≤ i) → (get_or edits i d).offset / 128 ≤ (get_or edits at e).offset / 128
      low (inl q) = let r = edge i at d e q (omega arith) (omega arith) in omega (arith, r)
      low (inr q) = let r = grouped i d e q l in omega (arith, r)

  group_at : (k : ℕ) (d : Edit) → k < end - at
      → get_or (take (end - at) (drop at edits)) k d ≡ get_or edits (at + k) d
  group_at k d l = get_or-take (end - at) (drop at edits) k d l ∙ get_or-drop at edits k d

  group_length : length (take (end - at) (drop at edits)) ≡ end - at
  group_length = let a = length-take (end - at) (drop at edits) in let b = length-drop at edits in omega arith

  pub group_in : (e : Edit) → Contains (take (end - at) (drop at edits)) e → e.offset / 128 ≡ offset
  group_in e c =
      let m = group_length in
      let l = c.1 in
      let here : get_or edits (at + c.0) e ≡ e = sym (group_at c.0 e (omega arith)) ∙ c.2 in
      sym (ap (λ (x : Edit). x.offset / 128) here)
      ∙ (grouped (at + c.0) e e (omega arith) (omega arith) ∙ sym (is e))

  all_in : (e : Edit) → Contains edits e → e.offset / 128 ≡ offset
      → Contains (take (end - at) (drop at edits)) e
  all_in e c q = by (cases_lt c.0 at) (cases_lt c.0 end)
    where
      here : (get_or edits c.0 e).offset / 128 ≡ (get_or edits at e).offset / 128
      here = ap (λ (x : Edit). x.offset / 128) c.2 ∙ (q ∙ is e)

      by : (c.0 < at) ⊎ (at ≤ c.0) → (c.0 < end) ⊎ (end ≤ c.0) → Contains (take (end - at) (drop at edits)) e
      by (inl l) m =
          absurd
          (let r = edge c.0 at e e l (omega arith) (omega arith) in let h = here in omega (arith, r, h))
      by (inr l) (inr m) =
          absurd (let r = later_edge at c.0 e e after m c.1 in let h = here in omega (arith, r, h))
      by (inr l) (inl m) =
          let n = group_length in
          let k : at + (c.0 - at) ≡ c.0 = omega arith in (
            c.0 - at,
            omega arith,
            group_at (c.0 - at) e (omega arith) ∙ (ap (λ (i : ℕ). get_or edits i e) k ∙ c.2),
          )

  pub group_ascends : AllPairs ComesBefore (take (end - at) (drop at edits))
  group_ascends i j d l m =
      let n = group_length in
      let a = group_at i d (omega arith) in
      let b = group_at j d (omega arith) in
      let r = ascending (at + i) (at + j) d (omega arith) (omega arith) in
      subst (λ (x : Edit). ComesBefore x (get_or (take (end - at) (drop at edits)) j d)) (sym a)
      (subst (λ (x : Edit). ComesBefore (get_or edits (at + i) d) x) (sym b) r)

  first_in : (e : Edit) × Contains (take (end - at) (drop at edits)) e
  first_in = by edits refl
    where
      by : (xs : List Edit) → xs ≡ edits → (e : Edit) × Contains (take (end - at) (drop at edits)) e
      by [] q = absurd (let l = ap length q in omega (arith, l))
      by (x ∷ xs) q =
          let n = group_length in (
            get_or (take (end - at) (drop at edits)) 0 x,
            (
              0,
              omega arith,
              any_default (take (end - at) (drop at edits)) 0 (get_or (take (end - at) (drop at edits)) 0 x) x
                  (omega arith),
            ),
          )

  take_end : take end edits ≡ take at edits ++ take (end - at) (drop at edits)
  take_end = take_parts edits at (end - at) end (omega arith)

  pub before_in : {content : Content} {inode level : ℕ} {above below : ℕ → Option ℕ} {ups : List Edit}
      {births mid : List Birth} {zs ys : List ℕ}
      →
      PutsLevel content inode level above below (take at edits) ups births mid zs ys → (u : Edit)
      → Contains ups u → u.offset < offset
  before_in h u k =
      let e = h.edit_of u k in
      let c = e.1 in
      let l = c.1 in
      let n = length-take at edits in
      let i : c.0 < at = omega arith in
      let there : get_or edits c.0 e.0 ≡ e.0 = sym (get_or-take at edits c.0 e.0 i) ∙ c.2 in
      let r = edge c.0 at e.0 e.0 i (omega arith) (omega arith) in
      let o = ap (λ (x : Edit). x.offset / 128) there in
      let u_is = e.2 in
      let first = is e.0 in
      omega (arith, r, o, u_is, first)

  -- one group more
  pub groups_more : (content : Content) (inode : ℕ) (root : Root) (below number : ℕ) (over : SmallVec ℕ)
      (ups : List Edit) {births mid new : List Birth} {zs ys ends : List ℕ}
      → IsSound (pages_of content) root →
      (tree_height root ≤ below → (i v : ℕ) → kept_levels (pages_of content) root below i ≡ Some v
      → IsEdited edits i)
      →
      PutsLevel content inode (suc below) (kept_levels (pages_of content) root (suc below))
      (kept_levels (pages_of content) root below) (take at edits) ups births mid zs ys
      →
      PutsNode content inode (suc below) offset (kept_levels (pages_of content) root (suc below) offset)
      (slots_with (take (end - at) (drop at edits)) (pages_of content)
      (kept_levels (pages_of content) root (suc below) offset) offset)
      number mid new ys ends
      →
      PutsLevel content inode (suc below) (kept_levels (pages_of content) root (suc below))
      (kept_levels (pages_of content) root below) (take end edits)
      (ups ++ record { offset = offset; number = number; above = over } ∷ []) births new zs ends
  groups_more content inode root below number over ups {births} {mid} {new} {zs} {ys} {ends} sound told h n =
      subst (λ (xs : List Edit).
      PutsLevel content inode (suc below) (kept_levels (pages_of content) root (suc below))
      (kept_levels (pages_of content) root below) xs
      (ups ++ record { offset = offset; number = number; above = over } ∷ []) births new zs ends)
      (sym take_end)
      (level_more offset number over (kept_levels (pages_of content) root (suc below))
      (kept_levels (pages_of content) root below) (take at edits) (take (end - at) (drop at edits)) ups
      (λ a b v p q.
      let same = kept_once content root sound (suc below, a) (suc below, b) v p q in
      ap (λ (x : ℕ × ℕ). x.1) same)
      h first_in group_in (before_in h)
      (node_same (slots_same content root below edits
      (take (end - at) (drop at edits)) offset sound group_ascends told all_in)
      n))

-- no group yet
pub groups_none : (content : Content) (inode level : ℕ) (above below : ℕ → Option ℕ) (births : List Birth)
    (ends : List ℕ)
    → PutsLevel content inode level above below [] [] births births ends ends
groups_none content inode level above below births ends = record {
  added = [];
  gone = [];
  births_are = sym (append-nil births);
  ends_are = sym (append-nil ends);
  lowest_free = tt;
  in_order = λ i j d l m. absurd (omega arith);
  tags = λ b c. absurd (let l = c.1 in omega arith);
  ascending = λ i j d l m. absurd (omega arith);
  up_of = λ e c. absurd (let l = c.1 in omega arith);
  edit_of = λ u c. absurd (let l = c.1 in omega arith);
  becomes = λ u c. absurd (let l = c.1 in omega arith);
  born_up = λ b c. absurd (let l = c.1 in omega arith);
  ended = λ u v c. absurd (let l = c.1 in omega arith);
  gone_up = λ v c. absurd (let l = c.1 in omega arith);
  gone_once = λ i j d l m. absurd (omega arith);
}

-- the node of a group, as it is put
pub group_puts : {content : Content} {inode level below offset : ℕ} {old kept : Option ℕ} (group : List Edit)
    {number : ℕ} {births births' : List Birth} {ends ends' : List ℕ}
    → level ≡ below + 1 → old ≡ kept →
    PutsNode content inode level offset old
    (slots_with group (pages_of content) old offset) number births births' ends ends'
    →
    PutsNode content inode (suc below) offset kept
    (slots_with group (pages_of content) kept offset) number births births' ends ends'
group_puts {content} {inode} {level} {below} {offset} {old} {kept} group {number} {births} {births'} {ends}
    {ends'} e k n =
    let l : level ≡ suc below = omega (arith, e) in
    subst (λ (m : ℕ).
    PutsNode content inode m offset kept
    (slots_with group (pages_of content) kept offset) number births births' ends ends')
    l
    (subst (λ (o : Option ℕ).
    PutsNode content inode level offset o
    (slots_with group (pages_of content) o offset) number births births' ends ends')
    k n)
