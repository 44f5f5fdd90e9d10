-- Why the nodes of a tree are written, where it stands for a tree or for a chain.
use Rattle.std.proofs.Common.{◌≡◌, ◌≢◌, ℕ, zero, suc, ◌/◌, ◌^◌, List, ◌++◌, Option, Some, None, refl, ap, sym, subst, ◌∙◌, arith, inl, inr, ◌⊎◌, append_assoc}
use Rattle.std.specs.List.{AllPairs, Contains}
use Rattle.std.specs.Option.{IsSome}
use Rattle.std.proofs.lemmas.List.Elements.{Contains-append_cases, Contains-append_left, Contains-append_right}
use Rattle.nl_types.specs.Blocks.Entries.{Birth, Content}
use Rattle.nl_types.specs.Blocks.RootChanges.{NodeWritten, born, of_tree, was_absent}
use Rattle.nl_types.specs.Blocks.Roots.{Chain, Empty, OfChain, OfTree, Pages, Root, Tree, kind_of, page_at, pages_of, place_at}
use Rattle.nl_blocktree.specs.Private.Edits.{IsEdited}
use Rattle.nl_blocktree.specs.Private.Renewing.{IsRenewed}
use Rattle.nl_blocktree.specs.Private.TreeLevels.{Levels, data_alone}
use Rattle.nl_blocktree.specs.Private.Writing.{PlaceBecomes}
use Rattle.nl_blocktree.specs.declared.tree.Edit.{Edit}
use Rattle.nl_blocktree.specs.Private.Writing as shapes
use Rattle.nl_blocktree.specs.Facts.HeldPages.{unused_page}
use Rattle.nl_blocktree.specs.Facts.Numbers.{born_in, numbered_unused}
use Rattle.nl_blocktree.specs.Facts.Pairwise.{pairs-append}

some_none : {X : Type 0} (o : Option X) → IsSome o → o ≡ None → ⊥
some_none None s e = cc
some_none (Some x) s e = cc

pub tree_of : (pages : Pages) (root : Root) (level offset v : ℕ) → kind_of root ≢ OfChain
    → place_at pages root level offset ≡ Some v → kind_of root ≡ OfTree
unfolding place_at
tree_of pages Empty level offset v t e = cc
tree_of pages (Chain top) level offset v t e = absurd (t refl)
tree_of pages (Tree height top) level offset v t e = refl

-- ---- a tree stays a tree

pub tree_why : {old_pages new_pages : Pages} {root new : Root} (asked : List Edit) {offset n : ℕ} (level : ℕ)
    → kind_of new ≢ OfChain → place_at new_pages new (suc level) offset ≡ Some n →
    ((i : ℕ) → IsEdited asked i → page_at old_pages root i ≢ page_at new_pages new i) →
    (place_at old_pages root (suc level) offset ≡ None)
    ⊎ ((i : ℕ) × IsEdited asked i × (i / 128 ^ suc level ≡ offset))
    → NodeWritten old_pages new_pages root new (suc level) offset
tree_why asked level chain e d (inl none) = was_absent none
tree_why {new_pages = new_pages} {new = new} asked {offset = offset} {n = n} level chain e d (inr r) =
    of_tree (tree_of new_pages new (suc level) offset n chain e) r.0 r.2 (d r.0 r.1)

-- no node stays where the kind changes, as no tree was one of another kind
pub tree_moves : (old_pages new_pages : Pages) (root new : Root) → kind_of root ≢ OfChain
    → kind_of new ≢ OfChain → kind_of root ≢ kind_of new →
    (level offset v : ℕ) → place_at old_pages root (suc level) offset ≡ Some v
    → place_at new_pages new (suc level) offset ≡ Some v → ⊥
tree_moves old_pages new_pages root new a b c level offset v p q =
    c (tree_of old_pages root (suc level) offset v a p ∙ sym (tree_of new_pages new (suc level) offset v b q))

-- ---- a chain becomes a tree: all its nodes end

module _ {content : Content} {inode : ℕ} {old new : Levels} {asked : List Edit} {births all : List Birth}
    {zs ends : List ℕ} (nodes : List ℕ)
    (stored : (l offset v : ℕ) → old l offset ≡ Some v → IsSome (pages_of content v))
    (once : (p q : ℕ × ℕ) (v : ℕ) → old p.0 p.1 ≡ Some v → old q.0 q.1 ≡ Some v → p ≡ q)
    (listed : (l offset v : ℕ) → old (suc l) offset ≡ Some v → Contains nodes v)
    (placed : (v : ℕ) → Contains nodes v → (at : ℕ × ℕ) × (old (suc at.0) at.1 ≡ Some v))
    (nodes_once : AllPairs (λ (a : ℕ) (b : ℕ). a ≢ b) nodes)
    (h : IsRenewed content inode (data_alone old) (data_alone old) new asked births all zs ends) where
  not_born : (l offset v : ℕ) → old l offset ≡ Some v → (b : Birth) → Contains h.added b → b.number ≡ v → ⊥
  not_born l offset v p b k e =
      some_none (pages_of content v) (stored l offset v p)
      (unused_page content v
      (numbered_unused content births h.added v h.lowest_free
      (subst (λ (m : ℕ). Contains (born h.added) m) e (born_in h.added b k))))

  left : (v : ℕ) → Contains h.gone v → Contains (h.gone ++ nodes) v
  left v k = Contains-append_left h.gone nodes v k

  right : (v : ℕ) → Contains nodes v → Contains (h.gone ++ nodes) v
  right v k = Contains-append_right h.gone nodes v k

  node_gone : (l offset v : ℕ) → old (suc l) offset ≡ Some v → new (suc l) offset ≢ Some v
  node_gone l offset v e now = elim (h.becomes (suc l) offset) [
    | shapes.stays s ↦ let no : None ≡ Some v = sym s ∙ now in cc
    | shapes.comes b k at s g ↦
        let same : Some b.number ≡ Some v = sym s ∙ now in not_born (suc l) offset v e b k cc
    | shapes.goes s g ↦ let no : None ≡ Some v = sym s ∙ now in cc
  ]

  data_lost : (v : ℕ) → Contains h.gone v → (offset : ℕ) × (old 0 offset ≡ Some v) × (new 0 offset ≢ Some v)
  data_lost v k = let r = h.lost v k in at r.0.0 r.0.1 r.1 r.2
    where
      at : (l offset : ℕ) → data_alone old l offset ≡ Some v → new l offset ≢ Some v
          → (o : ℕ) × (old 0 o ≡ Some v) × (new 0 o ≢ Some v)
      at zero offset e n = (offset, e, n)
      at (suc l) offset e n = cc

  becomes : (l offset : ℕ) → PlaceBecomes (old l offset) (new l offset) l offset h.added (h.gone ++ nodes)
  becomes zero offset = elim (h.becomes 0 offset) [
    | shapes.stays s ↦ shapes.stays s
    | shapes.comes b k at s g ↦ shapes.comes b k at s (λ v e. left v (g v e))
    | shapes.goes s g ↦ shapes.goes s (λ v e. left v (g v e))
  ]
  becomes (suc l) offset = elim (h.becomes (suc l) offset) [
    | shapes.stays s ↦ shapes.goes s (λ v e. right v (listed l offset v e))
    | shapes.comes b k at s g ↦ shapes.comes b k at s (λ v e. right v (listed l offset v e))
    | shapes.goes s g ↦ shapes.goes s (λ v e. right v (listed l offset v e))
  ]

  pub chain_renewed : IsRenewed content inode (data_alone old) old new asked births all zs (ends ++ nodes)
  chain_renewed = record {
    added = h.added;
    gone = h.gone ++ nodes;
    births_are = h.births_are;
    ends_are = ap (λ (xs : List ℕ). xs ++ nodes) h.ends_are ∙ append_assoc zs h.gone nodes;
    lowest_free = h.lowest_free;
    in_order = h.in_order;
    of_inode = h.of_inode;
    placed = h.placed;
    data_is = h.data_is;
    data_asked = h.data_asked;
    becomes = becomes;
    lost = λ v k. elim (Contains-append_cases h.gone nodes v k) [
      | inl q ↦ let r = data_lost v q in ((0, r.0), r.1, r.2)
      | inr q ↦ let r = placed v q in ((suc r.0.0, r.0.1), r.1, node_gone r.0.0 r.0.1 v r.1)
    ];
    gone_once = pairs-append (λ (x : ℕ) (y : ℕ). x ≢ y) h.gone nodes h.gone_once nodes_once (λ x y k m e.
        let r = data_lost x k in
        let q = placed y m in
        let there : old (suc q.0.0) q.0.1 ≡ Some x =
        q.1 ∙ ap (λ (n : ℕ). let o : Option ℕ = Some n in o) (sym e) in
        let same : ◌≡◌ {A = ℕ × ℕ} (0, r.0) (suc q.0.0, q.0.1) =
        once (0, r.0) (suc q.0.0, q.0.1) x r.1 there in
        let level : 0 ≡ suc q.0.0 = ap (λ (p : ℕ × ℕ). p.0) same in
        absurd (omega arith));
    written = h.written;
    rewritten = h.rewritten;
  }

pub chain_moves : {content : Content} {inode : ℕ} {old new : Levels} {asked : List Edit}
    {births all : List Birth} {zs ends : List ℕ}
    →
    ((l offset v : ℕ) → old l offset ≡ Some v → IsSome (pages_of content v))
    → IsRenewed content inode (data_alone old) (data_alone old) new asked births all zs ends →
    (l offset v : ℕ) → old (suc l) offset ≡ Some v → new (suc l) offset ≡ Some v → ⊥
chain_moves {content} {inode} {old} {new} {asked} {births} {all} stored h l offset v e now =
    elim (h.becomes (suc l) offset) [
      | shapes.stays s ↦ let no : None ≡ Some v = sym s ∙ now in cc
      | shapes.comes b k at s g ↦
          let same : Some b.number ≡ Some v = sym s ∙ now in
          let number : b.number ≡ v = cc in
          some_none (pages_of content v) (stored (suc l) offset v e)
          (unused_page content v
          (numbered_unused content births h.added v h.lowest_free
          (subst (λ (m : ℕ). Contains (born h.added) m) number (born_in h.added b k))))
      | shapes.goes s g ↦ let no : None ≡ Some v = sym s ∙ now in cc
    ]
