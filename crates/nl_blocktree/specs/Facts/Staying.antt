-- A file over pages that agree with its own where it reaches.
use Rattle.std.proofs.Common.{◌≡◌, ℕ, zero, suc, ◌-◌, ◌/◌, ◌%◌, ◌<◌, ◌≤◌, List, Option, Some, None, refl, ap, sym, subst, ◌∙◌, arith, inl, inr}
use Rattle.std.specs.Option.{option_and_then, IsSome}
use Rattle.std.proofs.lemmas.Bool.{cases_lt, le-leb, lt-leb}
use Rattle.nl_types.specs.Blocks.RootChanges.{IsSound, IsWrittenPlace, KeepsFile, NodeWritten, new_kind, of_chain, of_tree, was_absent}
use Rattle.nl_types.specs.Blocks.Roots.{Chain, Empty, Pages, Root, Tree, below_top, chain_node, child, height_of, page_at, place_at, slot}
use Rattle.nl_blocktree.specs.Checkpoints.{AgreeWhere}

pub some-of : {X : Type 0} (o : Option X) → IsSome o → (x : X) × (o ≡ Some x)
some-of None h = cc
some-of (Some x) h = (x, refl)

pub some-is : {X : Type 0} (o : Option X) (x : X) → o ≡ Some x → IsSome o
some-is o x e = rw e refl

-- ---- places

tree-place : (pages : Pages) (height top level offset : ℕ) → level ≤ height
    → place_at pages (Tree height top) level offset ≡ below_top pages top (height - level) offset
unfolding place_at
tree-place pages height top level offset l = rw (le-leb level height l) refl

above-tree : (pages : Pages) (height top level offset : ℕ) → height < level
    → place_at pages (Tree height top) level offset ≡ None
unfolding place_at
above-tree pages height top level offset l = rw (lt-leb level height l) refl

-- a map read where the pages agree
pub block-agrees : (pages more : Pages) (o : Option ℕ) → ((v : ℕ) → o ≡ Some v → more v ≡ pages v)
    → option_and_then more o ≡ option_and_then pages o
block-agrees pages more None h = refl
block-agrees pages more (Some n) h = h n refl

child-agrees : (pages more : Pages) (s : ℕ) (o : Option ℕ) → ((v : ℕ) → o ≡ Some v → more v ≡ pages v)
    → child more s o ≡ child pages s o
child-agrees pages more s o h =
    ap (option_and_then (λ (page : List ℕ). slot s page)) (block-agrees pages more o h)

nodes-agree : (pages more : Pages) (top : ℕ)
    → ((p v : ℕ) → chain_node pages top p ≡ Some v → more v ≡ pages v) → (p : ℕ)
    → chain_node more top p ≡ chain_node pages top p
unfolding chain_node
nodes-agree pages more top h zero = refl
nodes-agree pages more top h (suc p) =
    ap (child more 127) (nodes-agree pages more top h p)
    ∙ child-agrees pages more 127 (chain_node pages top p) (h p)

below-agrees : (pages more : Pages) (top : ℕ) (k : ℕ)
    → ((j o v : ℕ) → j ≤ k → below_top pages top j o ≡ Some v → more v ≡ pages v) → (offset : ℕ)
    → below_top more top k offset ≡ below_top pages top k offset
unfolding below_top
below-agrees pages more top zero h offset = refl
below-agrees pages more top (suc k) h offset =
    ap (child more (offset % 128))
    (below-agrees pages more top k (λ j o v l. h j o v (omega arith)) (offset / 128))
    ∙ child-agrees pages more (offset % 128) (below_top pages top k (offset / 128))
    (λ v. h k (offset / 128) v (omega arith))

pub places-agree : (pages more : Pages) (root : Root) → AgreeWhere pages more root → (level offset : ℕ)
    → place_at more root level offset ≡ place_at pages root level offset
unfolding place_at
places-agree pages more Empty h level offset = refl
places-agree pages more (Chain top) h zero offset =
    ap (child more (offset % 127)) (nodes-agree pages more top (h 1) (offset / 127))
    ∙ child-agrees pages more (offset % 127) (chain_node pages top (offset / 127)) (h 1 (offset / 127))
places-agree pages more (Chain top) h (suc zero) offset = nodes-agree pages more top (h 1) offset
places-agree pages more (Chain top) h (suc (suc level)) offset = refl
places-agree pages more (Tree height top) h level offset = elim (cases_lt height level) [
  | inl l ↦ above-tree more height top level offset l ∙ sym (above-tree pages height top level offset l)
  | inr l ↦ tree-place more height top level offset l
      ∙ (below-agrees pages more top (height - level) (λ j o v m. at j o v (omega arith)) offset
      ∙ sym (tree-place pages height top level offset l))
]
  where
    at : (j o v : ℕ) → j ≤ height → below_top pages top j o ≡ Some v → more v ≡ pages v
    at j o v m e =
        let k : height - (height - j) ≡ j = omega arith in
        h (height - j) o v
        (tree-place pages height top (height - j) o (omega arith)
        ∙ (ap (λ (i : ℕ). below_top pages top i o) k ∙ e))

pub file-stays : (pages more : Pages) (root : Root) → IsSound pages root → AgreeWhere pages more root
    → KeepsFile pages more root
file-stays pages more root s h = record {
  places = frame;
  blocks = λ i.
      ap (option_and_then more) (frame 0 i) ∙ block-agrees pages more (place_at pages root 0 i) (h 0 i);
  sound = record {
    in_range = λ level offset v e. s.in_range level offset v (sym (frame level offset) ∙ e);
    stored = λ level offset v e.
        let was = sym (frame level offset) ∙ e in
        let x = some-of (pages v) (s.stored level offset v was) in
        some-is (more v) x.0 (h level offset v was ∙ x.1);
    once = λ p q v a b. s.once p q v (sym (frame p.0 p.1) ∙ a) (sym (frame q.0 q.1) ∙ b);
    ends_full = λ t p v e.
        let r = s.ends_full t p v (sym (frame 1 p) ∙ e) in
        (r.0, r.1, subst (λ (o : Option ℕ). IsSome o) (sym (frame 0 r.0)) r.2);
    has_top = λ k. subst (λ (o : Option ℕ). IsSome o) (sym (frame (height_of root) 0)) (s.has_top k);
    tree_shape = λ t. let h = s.tree_shape t in record {
      low = h.low;
      above_data = λ level offset v e.
          let r = h.above_data level offset v (sym (frame (suc level) offset) ∙ e) in
          (r.0, r.1, subst (λ (o : Option ℕ). IsSome o) (sym (frame 0 r.0)) r.2);
      least = (h.least.0, subst (λ (o : Option ℕ). IsSome o) (sym (frame 0 h.least.0)) h.least.1, h.least.2);
    };
  };
}
  where
    frame : (level offset : ℕ) → place_at more root level offset ≡ place_at pages root level offset
    frame = places-agree pages more root h

-- where nothing differs nothing is written
pub unwritten : (pages final : Pages) (root : Root)
    → ((level offset : ℕ) → place_at final root level offset ≡ place_at pages root level offset) →
    ((i : ℕ) → page_at final root i ≡ page_at pages root i) → (level offset : ℕ)
    → IsWrittenPlace pages final root root level offset → ⊥
unwritten pages final root places blocks zero offset w = w.1 (sym (blocks offset))
unwritten pages final root places blocks (suc level) offset w = node w.1
  where
    node : NodeWritten pages final root root (suc level) offset → ⊥
    node (was_absent e) =
        let x = some-of _ w.0 in
        let no : None ≡ Some x.0 = sym e ∙ (sym (places (suc level) offset) ∙ x.1) in
        cc
    node (new_kind e) = e refl
    node (of_chain k i e) = e (sym (blocks i))
    node (of_tree k i at e) = e (sym (blocks i))
