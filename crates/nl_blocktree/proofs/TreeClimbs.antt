-- A tree that is written anew, level by level.
use Rattle.std.proofs.Common.{◌≡◌, ◌≢◌, ℕ, suc, ◌+◌, ◌*◌, ◌/◌, ◌%◌, ◌^◌, ◌<◌, ◌≤◌, ◌==◌, if◌then◌else◌, List, ◌∷◌, ◌++◌, Option, Some, None, refl, ap, sym, subst, ◌∙◌, arith, inl, inr, ◌⊎◌, append_assoc}
use Rattle.std.specs.List.{AllPairs, Contains}
use Rattle.std.specs.Option.{IsSome}
use Rattle.std.proofs.lemmas.Bool.{cases_eq, cases_lt, eq-eqb, ne_eqb}
use Rattle.std.proofs.lemmas.List.Elements.{Contains-append_cases, Contains-append_left, Contains-append_right}
use Rattle.nl_types.specs.Blocks.Entries.{Birth, Content}
use Rattle.nl_types.specs.Blocks.RootChanges.{InPayloadOrder, Includes, IsAt, PrecedesInPayload, born, with_births}
use Rattle.nl_types.specs.Blocks.Roots.{Tree, child, numbered, pages_of, place_at}
use Rattle.nl_vstore.specs.Batches.{TakeLowestFree}
use Rattle.nl_blocktree.specs.Numbering.{IsUnused}
use Rattle.nl_blocktree.specs.Private.Edits.{ComesBefore, IsEdited, edit_alone, edited}
use Rattle.nl_blocktree.specs.Private.Renewing.{Climbs, IsRenewed}
use Rattle.nl_blocktree.specs.Private.TreeLevels.{AreLevels, AreOldLevels, Levels, only}
use Rattle.nl_blocktree.specs.Private.Writing.{NodeBecomes, PlaceBecomes, PutsLevel, stays}
use Rattle.nl_blocktree.specs.declared.tree.Edit.{Edit}
use Rattle.nl_blocktree.specs.Private.Writing as shapes
use Rattle.nl_blocktree.specs.Facts.Frames.{births-keep, cases-Option, more-keep}
use Rattle.nl_blocktree.specs.Facts.Staying.{some-is, some-of}
use Rattle.nl_blocktree.specs.Facts.HeldPages.{unused_page}
use Rattle.nl_blocktree.specs.Facts.Numbers.{born-append, born_in, numbered-append, numbered_unused}
use Rattle.nl_blocktree.specs.Facts.Pairwise.{pairs-append}
use Rattle.nl_blocktree.proofs.TreeEdits.{at_birth, at_up, birth_page, child_kept, level_becomes, edited_at, edited_cases, level_children, level_full}
use Rattle.nl_blocktree.specs.Facts.TreeLevels.{div-pow-suc, levels_are, tree_above}

some_none : {X : Type 0} (o : Option X) → IsSome o → o ≡ None → ⊥
some_none None s e = cc
some_none (Some x) s e = cc

module _ {content : Content} {inode height level : ℕ} {old : Levels} {asked edits ups : List Edit}
    {births mid all : List Birth} {zs ys ends : List ℕ}
    (o : AreOldLevels content height old) (fresh : IsUnused content births)
    (h : Climbs content inode old asked level edits births mid zs ys)
    (n : PutsLevel content inode (suc level) (old (suc level)) (old level) edits ups mid all ys ends)
    (spine : height ≤ level → (offset v : ℕ) → old level offset ≡ Some v → IsEdited edits offset) where
  levels : Levels
  levels l offset = if l == suc level then edited ups (old (suc level)) offset else h.levels l offset

  added : List Birth
  added = h.added ++ n.added

  gone : List ℕ
  gone = h.gone ++ n.gone

  at_new : (offset : ℕ) → levels (suc level) offset ≡ edited ups (old (suc level)) offset
  unfolding levels
  at_new offset = rw (eq-eqb (suc level) (suc level) refl) refl

  at_old : (l offset : ℕ) → l ≤ level → levels l offset ≡ h.levels l offset
  unfolding levels
  at_old l offset low = rw (ne_eqb l (suc level) (λ e. absurd (omega arith))) refl

  -- births and their pages
  births_are : all ≡ births ++ added
  unfolding added
  births_are =
      n.births_are
      ∙ (ap (λ (xs : List Birth). xs ++ n.added) h.births_are ∙ append_assoc births h.added n.added)

  numbers : TakeLowestFree content births added
  unfolding added
  numbers =
      numbered-append content births h.added n.added h.lowest_free
      (subst (λ (t : List Birth). TakeLowestFree content t n.added) h.births_are n.lowest_free)

  unused_of : (xs ys : List Birth) → IsUnused content xs → TakeLowestFree content xs ys
      → IsUnused content (xs ++ ys)
  unused_of xs ys u t v k =
      elim (Contains-append_cases (born xs) (born ys) v
      (subst (λ (ns : List ℕ). Contains ns v) (born-append xs ys) k)) [
        | inl q ↦ u v q
        | inr q ↦ numbered_unused content xs ys v t q
      ]

  unused_mid : IsUnused content mid
  unused_mid =
      subst (λ (xs : List Birth). IsUnused content xs) (sym h.births_are)
      (unused_of births h.added fresh h.lowest_free)

  unused_all : IsUnused content all
  unused_all =
      subst (λ (xs : List Birth). IsUnused content xs) (sym n.births_are)
      (unused_of mid n.added unused_mid n.lowest_free)

  old_kept : Includes (pages_of content) (with_births all (pages_of content))
  old_kept = births-keep content all unused_all

  mid_kept : Includes (with_births mid (pages_of content)) (with_births all (pages_of content))
  mid_kept =
      subst (λ (xs : List Birth).
      Includes (with_births mid (pages_of content)) (with_births xs (pages_of content)))
      (sym n.births_are)
      (more-keep content mid n.added (λ v k. numbered_unused content mid n.added v n.lowest_free k))

  mid_stored : (l offset v : ℕ) → l ≤ level → h.levels l offset ≡ Some v
      → IsSome (with_births mid (pages_of content) v)
  mid_stored l offset v low e = elim (h.becomes l offset low) [
    | shapes.stays s ↦
        let x = some-of (pages_of content v) (o.stored l offset v (sym s ∙ e)) in
        some-is (with_births mid (pages_of content) v) x.0 (births-keep content mid unused_mid v x.0 x.1)
    | shapes.comes b k at s g ↦
        let same : Some b.number ≡ Some v = sym s ∙ e in
        let number : b.number ≡ v = cc in
        let page =
        ap (λ (bs : List Birth). with_births bs (pages_of content) b.number) h.births_are
        ∙ birth_page content births h.added b h.lowest_free k in
        some-is (with_births mid (pages_of content) v) b.page
        (subst (λ (m : ℕ). with_births mid (pages_of content) m ≡ Some b.page) number page)
    | shapes.goes s g ↦ let no : None ≡ Some v = sym s ∙ e in cc
  ]

  -- no birth has a number of old
  not_born : (l offset v : ℕ) → old l offset ≡ Some v → (b : Birth) → Contains n.added b → b.number ≡ v → ⊥
  not_born l offset v p b k e =
      some_none (pages_of content v) (o.stored l offset v p)
      (unused_page content v
      (numbered_unused content mid n.added v n.lowest_free
      (subst (λ (m : ℕ). Contains (born n.added) m) e (born_in n.added b k))))

  -- the level below
  rest : (offset : ℕ) → ((u : Edit) → Contains ups u → u.offset ≡ offset / 128 → ⊥) →
      old level offset
      ≡ child (with_births all (pages_of content)) (offset % 128) (old (suc level) (offset / 128))
  rest offset none = elim (cases_lt level height) [
    | inl l ↦
        o.children level offset l
        ∙ sym (child_kept (pages_of content) (with_births all (pages_of content)) (offset % 128)
        (old (suc level) (offset / 128)) old_kept (o.stored (suc level) (offset / 128)))
    | inr l ↦
        empty l
        ∙ sym (ap (child (with_births all (pages_of content)) (offset % 128))
        (o.none_above (suc level) (offset / 128) (omega arith)))
  ]
    where
      empty : height ≤ level → old level offset ≡ None
      empty l = elim (cases-Option (old level offset)) [
        | inl e ↦ e
        | inr e ↦
            let k = spine l offset e.0 e.1 in
            let u = n.up_of k.0 k.1 in
            absurd (none u.0 u.1 (u.2 ∙ ap (λ (x : ℕ). x / 128) k.2))
      ]

  cases_level : (l : ℕ) → l ≤ suc level → (l ≤ level) ⊎ (l ≡ suc level)
  cases_level l low = elim (cases_eq l (suc level)) [ inl e ↦ inr e | inr e ↦ inl (omega (arith, e)) ]

  children : (l offset : ℕ) → l < suc level
      → levels l offset
      ≡ child (with_births all (pages_of content)) (offset % 128) (levels (suc l) (offset / 128))
  children l offset low = elim (cases_eq l level) [
    | inl e ↦
        subst (λ (k : ℕ).
        levels k offset
        ≡ child (with_births all (pages_of content)) (offset % 128) (levels (suc k) (offset / 128)))
        (sym e)
        (at_old level offset (omega arith)
        ∙ (h.now offset
        ∙ (level_children n rest offset
        ∙ sym (ap (child (with_births all (pages_of content)) (offset % 128)) (at_new (offset / 128))))))
    | inr e ↦
        let under : l < level = omega (arith, e) in
        at_old l offset (omega arith) ∙ (h.children l offset under
        ∙ (sym (child_kept (with_births mid (pages_of content)) (with_births all (pages_of content))
        (offset % 128) (h.levels (suc l) (offset / 128)) mid_kept
        (λ v q. mid_stored (suc l) (offset / 128) v under q))
        ∙ sym (ap (child (with_births all (pages_of content)) (offset % 128))
        (at_old (suc l) (offset / 128) under))))
  ]

  full : (l offset v : ℕ) → l < suc level → levels (suc l) offset ≡ Some v
      → (s : ℕ) × (s < 128) × IsSome (levels l (128 * offset + s))
  full l offset v low p = elim (cases_eq l level) [
    | inl e ↦
        let q : edited ups (old (suc level)) offset ≡ Some v =
        sym (at_new offset) ∙ subst (λ (k : ℕ). levels (suc k) offset ≡ Some v) e p in
        let r = level_full n (λ a w none k. o.full level a w k) offset v q in
        subst (λ (k : ℕ). (s : ℕ) × (s < 128) × IsSome (levels k (128 * offset + s))) (sym e) (
          r.0,
          r.1,
          subst (λ (x : Option ℕ). IsSome x)
              (sym (at_old level (128 * offset + r.0) (omega arith) ∙ h.now (128 * offset + r.0))) r.2,
        )
    | inr e ↦
        let under : l < level = omega (arith, e) in
        let r = h.full l offset v under (sym (at_old (suc l) offset under) ∙ p) in
        (r.0, r.1, subst (λ (x : Option ℕ). IsSome x) (sym (at_old l (128 * offset + r.0) (omega arith))) r.2)
  ]

  left_birth : (b : Birth) → Contains h.added b → Contains added b
  unfolding added
  left_birth b k = Contains-append_left h.added n.added b k

  right_birth : (b : Birth) → Contains n.added b → Contains added b
  unfolding added
  right_birth b k = Contains-append_right h.added n.added b k

  cases_birth : (b : Birth) → Contains added b → Contains h.added b ⊎ Contains n.added b
  unfolding added
  cases_birth b k = Contains-append_cases h.added n.added b k

  left_gone : (v : ℕ) → Contains h.gone v → Contains gone v
  unfolding gone
  left_gone v k = Contains-append_left h.gone n.gone v k

  right_gone : (v : ℕ) → Contains n.gone v → Contains gone v
  unfolding gone
  right_gone v k = Contains-append_right h.gone n.gone v k

  becomes : (l offset : ℕ) → l ≤ suc level → PlaceBecomes (old l offset) (levels l offset) l offset added gone
  becomes l offset low = elim (cases_level l low) [
    | inl k ↦ elim (h.becomes l offset k) [
      | shapes.stays s ↦ shapes.stays (at_old l offset k ∙ s)
      | shapes.comes b c at s g ↦
          shapes.comes b (left_birth b c) at (at_old l offset k ∙ s) (λ v e. left_gone v (g v e))
      | shapes.goes s g ↦ shapes.goes (at_old l offset k ∙ s) (λ v e. left_gone v (g v e))
    ]
    | inr k ↦
        subst (λ (m : ℕ). PlaceBecomes (old m offset) (levels m offset) m offset added gone) (sym k)
        (elim (level_becomes n offset) [
          | shapes.stays s ↦ shapes.stays (at_new offset ∙ s)
          | shapes.comes b c at s g ↦
              shapes.comes b (right_birth b c) at (at_new offset ∙ s) (λ v e. right_gone v (g v e))
          | shapes.goes s g ↦ shapes.goes (at_new offset ∙ s) (λ v e. right_gone v (g v e))
        ])
  ]

  placed : (b : Birth) → Contains added b → levels b.place.level b.place.offset ≡ Some b.number
  placed b k = elim (cases_birth b k) [
    | inl q ↦ at_old b.place.level b.place.offset (h.tags b q).1 ∙ h.placed b q
    | inr q ↦
        let u = n.born_up b q in
        subst (λ (l : ℕ). levels l b.place.offset ≡ Some b.number) (sym (n.tags b q).1)
        (at_new b.place.offset ∙ (ap (edited ups (old (suc level))) u.2 ∙ at_birth n u.0 b u.1 q u.3))
  ]

  data_asked : (b : Birth) → Contains added b → b.place.level ≡ 0 → IsEdited asked b.place.offset
  data_asked b k z = elim (cases_birth b k) [
    | inl q ↦ h.data_asked b q z
    | inr q ↦ let t = (n.tags b q).1 in absurd (omega arith)
  ]

  tags : (b : Birth) → Contains added b → (b.place.inode ≡ inode) × (b.place.level ≤ suc level)
  tags b k = elim (cases_birth b k) [
    | inl q ↦ let t = h.tags b q in (t.0, (let l = t.1 in omega arith))
    | inr q ↦ let t = n.tags b q in (t.0, (let l = t.1 in omega arith))
  ]

  in_order : InPayloadOrder added
  unfolding added
  in_order = pairs-append PrecedesInPayload h.added n.added h.in_order n.in_order
      (λ x y k l. let p = (h.tags x k).1 in let q = (n.tags y l).1 in inl (omega arith))

  new_lost : (v : ℕ) → Contains n.gone v
      → (u : Edit) × (old (suc level) u.offset ≡ Some v) × (edited ups (old (suc level)) u.offset ≢ Some v)
  new_lost v k =
      let r = n.gone_up v k in (
        r.0,
        r.2,
        elim (n.becomes r.0 r.1) [
          | shapes.comes b c at number slots s low some ↦ λ e.
              let same : Some b.number ≡ Some v = sym (at_birth n r.0 b r.1 c number) ∙ e in
              not_born (suc level) r.0.offset v r.2 b c cc
          | shapes.goes z none ↦ λ e. let no : None ≡ Some v = sym (at_up n r.0 r.1 ∙ ap numbered z) ∙ e in cc
        ],
      )

  lost : (v : ℕ) → Contains gone v
      → (at : ℕ × ℕ) × (at.0 ≤ suc level) × (old at.0 at.1 ≡ Some v) × (levels at.0 at.1 ≢ Some v)
  unfolding gone
  lost v k = elim (Contains-append_cases h.gone n.gone v k) [
    | inl q ↦
        let r = h.lost v q in
        let low = r.1 in
        (r.0, omega arith, r.2, λ e. r.3 (sym (at_old r.0.0 r.0.1 low) ∙ e))
    | inr q ↦
        let r = new_lost v q in
        ((suc level, r.0.offset), omega arith, r.1, λ e. r.2 (sym (at_new r.0.offset) ∙ e))
  ]

  gone_once : AllPairs (λ (a : ℕ) (b : ℕ). a ≢ b) gone
  unfolding gone
  gone_once = pairs-append (λ (a : ℕ) (b : ℕ). a ≢ b) h.gone n.gone h.gone_once n.gone_once (λ x y k l e.
      let p = h.lost x k in
      let q = new_lost y l in
      let there : old (suc level) q.0.offset ≡ Some x =
      q.1 ∙ ap (λ (m : ℕ). let w : Option ℕ = Some m in w) (sym e) in
      let same : p.0 ≡ (suc level, q.0.offset) = o.once p.0 (suc level, q.0.offset) x p.2 there in
      let level_is : p.0.0 ≡ suc level = ap (λ (a : ℕ × ℕ). a.0) same in
      let low = p.1 in
      absurd (omega arith))

  -- what the edits are for
  covered : (i : ℕ) → IsEdited asked i → IsEdited ups (i / 128 ^ suc level)
  covered i k =
      let e = h.covered i k in
      let u = n.up_of e.0 e.1 in
      (u.0, u.1, u.2 ∙ (ap (λ (x : ℕ). x / 128) e.2 ∙ sym (div-pow-suc i level)))

  nothing_higher : (l : ℕ) → ((offset : ℕ) → old l offset ≡ None) → (offset : ℕ) → old (suc l) offset ≡ None
  nothing_higher l none offset = elim (cases-Option (old (suc l) offset)) [
    | inl e ↦ e
    | inr e ↦
        let w = o.full l offset e.0 e.1 in
        absurd (some_none (old l (128 * offset + w.0)) w.2 (none (128 * offset + w.0)))
  ]

  up_why : (u : Edit) → Contains ups u
      → ((i : ℕ) × IsEdited asked i × (i / 128 ^ suc level ≡ u.offset))
      ⊎ ((offset : ℕ) → old (suc level) offset ≡ None)
  up_why u k =
      let e = n.edit_of u k in
      elim (h.why e.0 e.1) [
        | inl r ↦ inl (r.0, r.1, div-pow-suc r.0 level ∙ (ap (λ (x : ℕ). x / 128) r.2 ∙ sym e.2))
        | inr r ↦ inr r
      ]

  why : (u : Edit) → Contains ups u
      → ((i : ℕ) × IsEdited asked i × (i / 128 ^ suc level ≡ u.offset))
      ⊎ ((offset : ℕ) → old (suc (suc level)) offset ≡ None)
  why u k = elim (up_why u k) [ inl r ↦ inl r | inr r ↦ inr (nothing_higher (suc level) r) ]

  written : (b : Birth) → Contains added b → (1 ≤ b.place.level) →
      (old b.place.level b.place.offset ≡ None)
      ⊎ ((i : ℕ) × IsEdited asked i × (i / 128 ^ b.place.level ≡ b.place.offset))
  written b k one = elim (cases_birth b k) [
    | inl q ↦ h.written b q one
    | inr q ↦
        let u = n.born_up b q in
        let t = (n.tags b q).1 in
        elim (up_why u.0 u.1) [
          | inl r ↦ inr (r.0, r.1, ap (λ (l : ℕ). r.0 / 128 ^ l) t ∙ (r.2 ∙ sym u.2))
          | inr r ↦ inl (ap (λ (l : ℕ). old l b.place.offset) t ∙ r b.place.offset)
        ]
  ]

  rewritten : (l i : ℕ) → 1 ≤ l → l ≤ suc level → IsEdited asked i
      → ((b : Birth) × Contains added b × IsAt b l (i / 128 ^ l)) ⊎ (levels l (i / 128 ^ l) ≡ None)
  rewritten l i one low k = elim (cases_level l low) [
    | inl q ↦ elim (h.rewritten l i one q k) [
      | inl r ↦ inl (r.0, left_birth r.0 r.1, r.2)
      | inr r ↦ inr (at_old l (i / 128 ^ l) q ∙ r)
    ]
    | inr q ↦
        subst (λ (m : ℕ).
        ((b : Birth) × Contains added b × IsAt b m (i / 128 ^ m)) ⊎ (levels m (i / 128 ^ m) ≡ None))
        (sym q) here
  ]
    where
      here : ((b : Birth) × Contains added b × IsAt b (suc level) (i / 128 ^ suc level))
          ⊎ (levels (suc level) (i / 128 ^ suc level) ≡ None)
      here =
          let u = covered i k in
          elim (n.becomes u.0 u.1) [
            | shapes.comes b c at number slots s low some ↦
                inl (b, right_birth b c, ((n.tags b c).1, at ∙ u.2))
            | shapes.goes z none ↦
                inr (at_new (i / 128 ^ suc level)
                ∙ (ap (edited ups (old (suc level))) (sym u.2) ∙ (at_up n u.0 u.1 ∙ ap numbered z)))
          ]

  pub climbs_more : Climbs content inode old asked (suc level) ups births all zs ends
  unfolding levels added gone
  climbs_more = record {
    levels = levels;
    added = added;
    gone = gone;
    births_are = births_are;
    ends_are = n.ends_are ∙ (ap (λ (xs : List ℕ). xs ++ n.gone) h.ends_are ∙ append_assoc zs h.gone n.gone);
    lowest_free = numbers;
    in_order = in_order;
    tags = tags;
    placed = placed;
    data_is = λ i. at_old 0 i (omega arith) ∙ h.data_is i;
    data_asked = data_asked;
    now = at_new;
    children = children;
    full = full;
    becomes = becomes;
    lost = lost;
    gone_once = gone_once;
    covered = covered;
    why = why;
    written = written;
    rewritten = rewritten;
  }

-- ---- growth

-- what stands already may be told by edits, where there are no nodes above
pub climbs_told : {content : Content} {inode level : ℕ} {old : Levels} {asked edits : List Edit}
    {births mid : List Birth} {zs ys : List ℕ} (told : List Edit)
    →
    Climbs content inode old asked level edits births mid zs ys
    → ((offset : ℕ) → old (suc level) offset ≡ None)
    → ((offset : ℕ) → edited edits (old level) offset ≡ edited told (old level) offset) →
    ((e : Edit) → Contains edits e → IsEdited told e.offset)
    → Climbs content inode old asked level told births mid zs ys
climbs_told told h none same all = record {
  levels = h.levels;
  added = h.added;
  gone = h.gone;
  births_are = h.births_are;
  ends_are = h.ends_are;
  lowest_free = h.lowest_free;
  in_order = h.in_order;
  tags = h.tags;
  placed = h.placed;
  data_is = h.data_is;
  data_asked = h.data_asked;
  now = λ offset. h.now offset ∙ same offset;
  children = h.children;
  full = h.full;
  becomes = h.becomes;
  lost = h.lost;
  gone_once = h.gone_once;
  covered = λ i k. let r = h.covered i k in let q = all r.0 r.1 in (q.0, q.1, q.2 ∙ r.2);
  why = λ e k. inr none;
  written = h.written;
  rewritten = h.rewritten;
}

-- the old top, where no edit stands at offset 0
pub spine_same : (old : ℕ → Option ℕ) (edits : List Edit) (top : ℕ) → old 0 ≡ numbered top
    → ((e : Edit) → Contains edits e → e.offset ≡ 0 → ⊥) →
    (offset : ℕ) → edited edits old offset ≡ edited (edit_alone 0 top ∷ edits) old offset
spine_same old edits top is none offset = at (cases_eq offset 0)
  where
    at : (offset ≡ 0) ⊎ (offset ≡ 0 → ⊥)
        → edited edits old offset ≡ edited (edit_alone 0 top ∷ edits) old offset
    at (inl z) =
        rw (eq-eqb offset 0 z) (elim (edited_cases edits old offset) [
          | inl r ↦ absurd (none r.0 r.1 (r.2 ∙ z))
          | inr r ↦ r.1 ∙ (ap old z ∙ is)
        ])
    at (inr z) = rw (ne_eqb offset 0 z) refl

-- ---- the top

module _ {content : Content} {inode level top : ℕ} {old : Levels} {asked edits : List Edit}
    {births mid : List Birth} {zs ys : List ℕ}
    (h : Climbs content inode old asked level edits births mid zs ys) (ascend : AllPairs ComesBefore edits)
    (first : Edit) (there : Contains edits first) (zero_is : first.offset ≡ 0) (top_is : first.number ≡ top)
    (alone : (e : Edit) → Contains edits e → e.offset ≡ 0)
    (one_top : (offset : ℕ) → offset ≢ 0 → old level offset ≡ None) where
  -- the level where all edits stand at offset 0 has the top alone
  tops : (offset : ℕ) → h.levels level offset ≡ only top offset
  tops offset = h.now offset ∙ elim (cases_eq offset 0) [
    | inl z ↦
        ap (edited edits (old level)) (z ∙ sym zero_is)
        ∙ (edited_at edits (old level) first ascend there ∙ (ap numbered top_is ∙ sym (ap (only top) z)))
    | inr z ↦ elim (edited_cases edits (old level) offset) [
      | inl r ↦ absurd (z (sym r.2 ∙ alone r.0 r.1))
      | inr r ↦ r.1 ∙ (one_top offset z ∙ sym (none z))
    ]
  ]
    where
      none : (offset ≡ 0 → ⊥) → only top offset ≡ None
      none z = rw (ne_eqb offset 0 z) refl

  pub climbed_levels : AreLevels (with_births mid (pages_of content)) level top h.levels
  climbed_levels = record { tops = tops; children = h.children }

  pub climbed_places : (l offset : ℕ) → l ≤ level
      → place_at (with_births mid (pages_of content)) (Tree level top) l offset ≡ h.levels l offset
  climbed_places = levels_are (with_births mid (pages_of content)) level top h.levels climbed_levels

  -- what became of each place, on any level
  pub climbed : ((l offset : ℕ) → level < l → old l offset ≡ None) →
      IsRenewed content inode old old
      (place_at (with_births mid (pages_of content)) (Tree level top)) asked births mid zs ys
  climbed none = record {
    added = h.added;
    gone = h.gone;
    births_are = h.births_are;
    ends_are = h.ends_are;
    lowest_free = h.lowest_free;
    in_order = h.in_order;
    of_inode = λ b k. (h.tags b k).0;
    placed = λ b k. climbed_places b.place.level b.place.offset (h.tags b k).1 ∙ h.placed b k;
    data_is = λ i. climbed_places 0 i (omega arith) ∙ h.data_is i;
    data_asked = h.data_asked;
    becomes = λ l offset. elim (cases_lt level l) [
      | inl far ↦
          shapes.stays
          (tree_above (with_births mid (pages_of content)) level top l offset far ∙ sym (none l offset far))
      | inr low ↦
          subst (λ (x : Option ℕ). PlaceBecomes (old l offset) x l offset h.added h.gone)
          (sym (climbed_places l offset low)) (h.becomes l offset low)
    ];
    lost = λ v k. let r = h.lost v k in (r.0, r.2, λ e. r.3 (sym (climbed_places r.0.0 r.0.1 r.1) ∙ e));
    gone_once = h.gone_once;
    written = h.written;
    rewritten = λ l i one k. elim (cases_lt level l) [
      | inl far ↦ inr (tree_above (with_births mid (pages_of content)) level top l (i / 128 ^ l) far)
      | inr low ↦ elim (h.rewritten l i one low k) [
        | inl r ↦ inl r
        | inr r ↦ inr (climbed_places l (i / 128 ^ l) low ∙ r)
      ]
    ];
  }
