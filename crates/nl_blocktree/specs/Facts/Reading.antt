-- A chain's places against the lists that are read of it.
use Rattle.std.proofs.Common.{◌≡◌, ◌≢◌, ℕ, zero, suc, ◌+◌, ◌-◌, ◌*◌, ◌/◌, ◌%◌, ◌<◌, ◌≤◌, List, [], ◌∷◌, ◌++◌, length, get_or, Option, Some, None, refl, ap, sym, ◌∙◌, arith, inl, inr}
use Rattle.std.specs.List.{slice_get}
use Rattle.std.proofs.lemmas.Bool.{cases_lt}
use Rattle.std.proofs.lemmas.List.{get_or_past}
use Rattle.std.proofs.lemmas.Option.{slice_get_past}
use Rattle.nl_types.specs.Blocks.Roots.{Chain, Empty, OfTree, Pages, Root, Tree, chain_node, child, kind_of, place_at}
use Rattle.nl_blocktree.specs.Private.Chains.{ChainAsLists, raw, top_of}
use Rattle.nl_blocktree.specs.Facts.Chains.{chain_node-ended, chain_node-more}

pub above : (pages : Pages) (root : Root) (level offset : ℕ) → kind_of root ≢ OfTree
    → place_at pages root (suc (suc level)) offset ≡ None
unfolding place_at
above pages Empty level offset h = refl
above pages (Chain top) level offset h = refl
above pages (Tree height top) level offset h = absurd (h refl)

pub first-place : (pages : Pages) (root : Root) → kind_of root ≢ OfTree
    → top_of root ≡ place_at pages root 1 0
unfolding place_at chain_node
first-place pages Empty h = refl
first-place pages (Chain top) h = refl
first-place pages (Tree height top) h = absurd (h refl)

pub next-place : (pages : Pages) (root : Root) (p : ℕ) → kind_of root ≢ OfTree
    → place_at pages root 1 (p + 1) ≡ child pages 127 (place_at pages root 1 p)
unfolding place_at
next-place pages Empty p h = refl
next-place pages (Chain top) p h = chain_node-more pages top p
next-place pages (Tree height top) p h = absurd (h refl)

pub data-place : (pages : Pages) (root : Root) (i : ℕ) → kind_of root ≢ OfTree
    → place_at pages root 0 i ≡ child pages (i % 127) (place_at pages root 1 (i / 127))
unfolding place_at
data-place pages Empty i h = refl
data-place pages (Chain top) i h = refl
data-place pages (Tree height top) i h = absurd (h refl)

pub ended-place : (pages : Pages) (root : Root) (p q : ℕ) → kind_of root ≢ OfTree
    → place_at pages root 1 p ≡ None → p ≤ q → place_at pages root 1 q ≡ None
unfolding place_at
ended-place pages Empty p q h e le = refl
ended-place pages (Chain top) p q h e le = chain_node-ended pages top p q e le
ended-place pages (Tree height top) p q h e le = absurd (h refl)

slice_get-before : (xs : List ℕ) (y p : ℕ) → p < length xs → slice_get (xs ++ y ∷ []) p ≡ slice_get xs p
slice_get-before [] y p l = absurd (omega arith)
slice_get-before (x ∷ xs) y zero l = refl
slice_get-before (x ∷ xs) y (suc p) l = slice_get-before xs y p (omega arith)

slice_get-here : (xs : List ℕ) (y : ℕ) → slice_get (xs ++ y ∷ []) (length xs) ≡ Some y
slice_get-here [] y = refl
slice_get-here (x ∷ xs) y = slice_get-here xs y

-- one more node
pub nodes-more : (f : ℕ → Option ℕ) (xs : List ℕ) (n : ℕ) → ((p : ℕ) → p < length xs → f p ≡ slice_get xs p)
    → Some n ≡ f (length xs) →
    (p : ℕ) → p < length xs + 1 → f p ≡ slice_get ((xs ++ n ∷ [])) p
nodes-more f xs n before here p l = elim (cases_lt p (length xs)) [
  | inl b ↦ before p b ∙ sym (slice_get-before xs n p b)
  | inr a ↦
      let e : p ≡ length xs = omega arith in
      ap f e ∙ (sym here ∙ sym (ap (λ (k : ℕ). slice_get (xs ++ n ∷ []) k) e ∙ slice_get-here xs n))
]

-- and its slots
pub slots-more : (pages : Pages) (root : Root) (count n : ℕ) (old new : List ℕ) → kind_of root ≢ OfTree
    → length old ≡ 127 * count →
    length new ≡ length old + 127 →
    ((i : ℕ) → i < length old → raw (place_at pages root 0 i) ≡ get_or old i 0) →
    ((i : ℕ) → i < length old → get_or new i 0 ≡ get_or old i 0) →
    ((s : ℕ) → s < 127 → get_or new (length old + s) 0 ≡ raw (child pages s (Some n))) →
    Some n ≡ place_at pages root 1 count →
    (i : ℕ) → i < length new → raw (place_at pages root 0 i) ≡ get_or new i 0
slots-more pages root count n old new h len long before kept added here i l = elim (cases_lt i (length old)) [
  | inl b ↦ before i b ∙ sym (kept i b)
  | inr a ↦
      let d : i / 127 ≡ count = omega arith in
      let r : i ≡ length old + i % 127 = omega arith in
      let s : i % 127 < 127 = omega arith in
      ap raw
      (data-place pages root i h ∙ ap (child pages (i % 127)) (ap (place_at pages root 1) d ∙ sym here))
      ∙ (sym (added (i % 127) s) ∙ ap (λ (k : ℕ). get_or new k 0) (sym r))
]

-- past the last node there is nothing
pub listed : (pages : Pages) (root : Root) (nodes : List ℕ) (slots : List ℕ) → kind_of root ≢ OfTree →
    length slots ≡ 127 * length nodes → place_at pages root 1 (length nodes) ≡ None →
    ((p : ℕ) → p < length nodes → place_at pages root 1 p ≡ slice_get nodes p) →
    ((i : ℕ) → i < length slots → raw (place_at pages root 0 i) ≡ get_or slots i 0)
    → ChainAsLists pages root nodes slots
listed pages root nodes slots h len last ns ss = record {
  nodes_at = λ p. elim (cases_lt p (length nodes)) [
    | inl b ↦ ns p b
    | inr a ↦ ended-place pages root (length nodes) p h last a ∙ sym (slice_get_past nodes p a)
  ];
  slots_at = λ i. elim (cases_lt i (length slots)) [
    | inl b ↦ ss i b
    | inr a ↦
        let k : length nodes ≤ i / 127 = omega arith in
        ap raw (data-place pages root i h
        ∙ ap (child pages (i % 127)) (ended-place pages root (length nodes) (i / 127) h last k))
        ∙ sym (get_or_past slots i 0 a)
  ];
}

-- the number in which a root's nodes begin, 0 for none
top_number : Root → ℕ
top_number Empty = 0
top_number (Chain top) = top
top_number (Tree height top) = 0

node-place : (pages : Pages) (root : Root) (p : ℕ) → kind_of root ≢ OfTree
    → place_at pages root 1 p ≡ chain_node pages (top_number root) p
unfolding place_at chain_node top_number
node-place pages Empty p h = sym (chain_node-ended pages 0 0 p refl (omega arith))
node-place pages (Chain top) p h = refl
node-place pages (Tree height top) p h = absurd (h refl)

-- a node that stands behind another
pub place-behind : (pages : Pages) (root : Root) (known position : ℕ) (from behind : Option ℕ)
    → kind_of root ≢ OfTree → known ≤ position → from ≡ place_at pages root 1 known →
    ((top p : ℕ) → from ≡ chain_node pages top p → behind ≡ chain_node pages top (p + (position - known)))
    → behind ≡ place_at pages root 1 position
place-behind pages root known position from behind h le e f =
    let k : known + (position - known) ≡ position = omega arith in
    f (top_number root) known (e ∙ node-place pages root known h)
    ∙ (ap (chain_node pages (top_number root)) k ∙ sym (node-place pages root position h))
