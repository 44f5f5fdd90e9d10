-- A tree, level by level.
use Rattle.std.proofs.Common.{◌≡◌, ◌≢◌, ℕ, zero, suc, ◌+◌, ◌*◌, ◌-◌, ◌/◌, ◌%◌, ◌^◌, ◌<◌, ◌≤◌, Option, Some, None, refl, ap, sym, subst, ◌∙◌, arith, inl, inr, ◌⊎◌}
use Rattle.std.proofs.Math.Nat.{div-div-eq-div-mul, pow-suc, div-one, one-le-pow, lt-div-mul-add, zero-mul}
use Rattle.std.proofs.lemmas.Bool.{cases_eq, cases_lt, ne_eqb, le-leb, lt-leb}
use Rattle.nl_types.specs.Blocks.Roots.{Pages, Tree, below_top, child, numbered, place_at}
use Rattle.nl_blocktree.specs.Private.TreeLevels.{AreLevels, Levels, only}

-- ---- places and levels

pub tree_place : (pages : Pages) (height top level offset : ℕ) → level ≤ height
    → place_at pages (Tree height top) level offset ≡ below_top pages top (height - level) offset
unfolding place_at
tree_place pages height top level offset l = rw (le-leb level height l) refl

pub tree_above : (pages : Pages) (height top level offset : ℕ) → height < level
    → place_at pages (Tree height top) level offset ≡ None
unfolding place_at
tree_above pages height top level offset l = rw (lt-leb level height l) refl

pub tree_top : (pages : Pages) (height top offset : ℕ)
    → place_at pages (Tree height top) height offset ≡ only top offset
unfolding below_top
tree_top pages height top offset =
    let e : height - height ≡ 0 = omega arith in
    tree_place pages height top height offset (omega arith) ∙ ap (λ (k : ℕ). below_top pages top k offset) e

pub tree_child : (pages : Pages) (height top level offset : ℕ) → level < height →
    place_at pages (Tree height top) level offset
    ≡ child pages (offset % 128) (place_at pages (Tree height top) (suc level) (offset / 128))
unfolding below_top
tree_child pages height top level offset l =
    let e : height - level ≡ suc (height - suc level) = omega arith in
    tree_place pages height top level offset (omega arith)
    ∙ (ap (λ (k : ℕ). below_top pages top k offset) e
    ∙ ap (child pages (offset % 128))
    (sym (tree_place pages height top (suc level) (offset / 128) (omega arith))))

levels_down : (pages : Pages) (height top : ℕ) (levels : Levels) → AreLevels pages height top levels →
    (d level offset : ℕ) → level + d ≡ height
    → place_at pages (Tree height top) level offset ≡ levels level offset
levels_down pages height top levels h zero level offset e =
    let k : level ≡ height = omega arith in
    subst (λ (l : ℕ). place_at pages (Tree height top) l offset ≡ levels l offset) (sym k)
    (tree_top pages height top offset ∙ sym (h.tops offset))
levels_down pages height top levels h (suc d) level offset e =
    tree_child pages height top level offset (omega arith)
    ∙ (ap (child pages (offset % 128))
    (levels_down pages height top levels h d (suc level) (offset / 128) (omega arith))
    ∙ sym (h.children level offset (omega arith)))

-- a tree is given by its levels
pub levels_are : (pages : Pages) (height top : ℕ) (levels : Levels) → AreLevels pages height top levels →
    (level offset : ℕ) → level ≤ height → place_at pages (Tree height top) level offset ≡ levels level offset
levels_are pages height top levels h level offset l =
    levels_down pages height top levels h (height - level) level offset (omega arith)

-- ---- what stands above

pub div-pow-suc : (i level : ℕ) → i / 128 ^ suc level ≡ i / 128 ^ level / 128
div-pow-suc i level = ap (λ (k : ℕ). i / k) (pow-suc 128 level) ∙ sym (div-div-eq-div-mul i (128 ^ level) 128)

pub child_node : (pages : Pages) (s v : ℕ) (node : Option ℕ) → child pages s node ≡ Some v
    → (n : ℕ) × (node ≡ Some n)
child_node pages s v None e = cc
child_node pages s v (Some n) e = (n, refl)

-- where there is data, there is a node above it on each level
pub node_above : (pages : Pages) (height top i v : ℕ) → place_at pages (Tree height top) 0 i ≡ Some v →
    (level : ℕ) → level ≤ height
    → (n : ℕ) × (place_at pages (Tree height top) level (i / 128 ^ level) ≡ Some n)
node_above pages height top i v e zero l = (v, ap (place_at pages (Tree height top) 0) (div-one i) ∙ e)
node_above pages height top i v e (suc level) l =
    let r = node_above pages height top i v e level (omega arith) in
    let n =
    child_node pages (i / 128 ^ level % 128) r.0 _
    (sym (tree_child pages height top level (i / 128 ^ level) (omega arith)) ∙ r.1) in
    (n.0, ap (place_at pages (Tree height top) (suc level)) (div-pow-suc i level) ∙ n.1)

pub only_zero : (top offset v : ℕ) → only top offset ≡ Some v → offset ≡ 0
only_zero top offset v e = elim (cases_eq offset 0) [
  | inl k ↦ k
  | inr k ↦ let no : None ≡ Some v = sym (rw (ne_eqb offset 0 k) refl) ∙ e in cc
]

none_of : (i q k : ℕ) → q ≡ 0 → i < q * k + k → i < k
none_of i q k e l = let z : q * k ≡ 0 = ap (λ (x : ℕ). x * k) e ∙ zero-mul k in omega (arith, z)

-- a tree has room for so many indices
pub below_power : (pages : Pages) (height top i v : ℕ) → place_at pages (Tree height top) 0 i ≡ Some v
    → i < 128 ^ height
below_power pages height top i v e =
    let r = node_above pages height top i v e height (omega arith) in
    let z : i / 128 ^ height ≡ 0 =
    only_zero top (i / 128 ^ height) r.0 (sym (tree_top pages height top (i / 128 ^ height)) ∙ r.1) in
    let b : 1 ≤ 128 ^ height = one-le-pow height 128 (omega arith) in
    let c : i < i / 128 ^ height * 128 ^ height + 128 ^ height =
    lt-div-mul-add {a = i} {b = 128 ^ height} b in
    none_of i (i / 128 ^ height) (128 ^ height) z c

-- ---- a tree that is higher than it need be

-- where the top names one node alone, at its first slot, that node's tree is the same but for the top
pub lower_levels : (pages : Pages) (height top below : ℕ)
    → ((s : ℕ) → s < 128 → child pages s (numbered top) ≡ only below s) →
    AreLevels pages height below (place_at pages (Tree (suc height) top))
lower_levels pages height top below h = record {
  tops = λ offset.
      tree_child pages (suc height) top height offset (omega arith)
      ∙ (ap (child pages (offset % 128)) (tree_top pages (suc height) top (offset / 128))
      ∙ at offset (cases_lt offset 128));
  children = λ level offset l. tree_child pages (suc height) top level offset (omega arith);
}
  where
    at : (offset : ℕ) → (offset < 128) ⊎ (128 ≤ offset)
        → child pages (offset % 128) (only top (offset / 128)) ≡ only below offset
    at offset (inl l) =
        let q : offset / 128 ≡ 0 = omega arith in
        let r : offset % 128 ≡ offset = omega arith in
        ap (λ (k : ℕ). child pages k (only top (offset / 128))) r
        ∙ (ap (λ (k : ℕ). child pages offset (only top k)) q ∙ h offset l)
    at offset (inr l) =
        let q : offset / 128 ≢ 0 = λ e. absurd (omega arith) in
        let z : offset ≢ 0 = λ e. absurd (omega arith) in
        rw (ne_eqb (offset / 128) 0 q, ne_eqb offset 0 z) refl

pub lowered : (pages : Pages) (height top below : ℕ)
    → ((s : ℕ) → s < 128 → child pages s (numbered top) ≡ only below s) →
    (level offset : ℕ) → level ≤ height
    → place_at pages (Tree height below) level offset ≡ place_at pages (Tree (suc height) top) level offset
lowered pages height top below h level offset l =
    levels_are pages height below (place_at pages (Tree (suc height) top))
    (lower_levels pages height top below h) level offset l

-- ---- the least height

pub pow_rises : (a b : ℕ) → a ≤ b → 128 ^ a ≤ 128 ^ b
pow_rises a zero l = let e : a ≡ 0 = omega arith in rw e (omega arith)
pow_rises a (suc b) l = elim (cases_eq a (suc b)) [
  | inl e ↦ rw e (omega arith)
  | inr n ↦ let r = pow_rises a b (omega (arith, n)) in rw (pow-suc 128 b) (let k = 128 ^ b in omega arith)
]

-- an index that stands beyond a lower tree asks for this height
pub least_by : (height i : ℕ) → 128 ^ height ≤ i → (h : ℕ) → 1 ≤ h → i < 128 ^ h → suc height ≤ h
least_by height i far h one near = elim (cases_lt height h) [
  | inl l ↦ l
  | inr l ↦ absurd (let r = pow_rises h height l in omega arith)
]
