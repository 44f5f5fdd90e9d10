-- The places of a tree, level by level.
use Rattle.std.proofs.Common.{◌≡◌, ◌⊎◌, ℕ, zero, suc, ◌+◌, ◌*◌, ◌-◌, ◌/◌, ◌%◌, ◌^◌, ◌<◌, ◌≤◌, List, Some, None, refl, ap, sym, ◌∙◌, arith, inl, inr}
use Rattle.std.specs.Option.{option_and_then}
use Rattle.std.proofs.Math.Nat.{div-div-eq-div-mul, div-mul-le_self, div-one, mul_comm, one-le-pow, pow-suc}
use Rattle.std.proofs.lemmas.Bool.{cases_eq, cases_lt, ne_eqb}
use Rattle.std.proofs.lemmas.Nat.{le-div}
use Rattle.nl_types.specs.Blocks.RootChanges.{places}
use Rattle.nl_types.specs.Blocks.Roots.{Pages, Tree, below_top, child, numbered, place_at, slot}
use Rattle.nl_blocktree.specs.TreePlaces.{IsUnder}
use Rattle.nl_blocktree.specs.Facts.MetPlaces.{numbered-some}
use Rattle.nl_blocktree.specs.Facts.TreeLevels.{div-pow-suc, tree_above, tree_child, tree_place}

-- ---- levels

pub tree-top : (pages : Pages) (height top : ℕ) → place_at pages (Tree height top) height 0 ≡ numbered top
unfolding below_top
tree-top pages height top =
    let e : height - height ≡ 0 = omega arith in
    tree_place pages height top height 0 (omega arith) ∙ ap (λ (k : ℕ). below_top pages top k 0) e

-- there is one block alone on the level of the top
pub tree-beside : (pages : Pages) (height top offset : ℕ) → (offset ≡ 0 → ⊥)
    → place_at pages (Tree height top) height offset ≡ None
unfolding below_top
tree-beside pages height top offset other =
    let e : height - height ≡ 0 = omega arith in
    tree_place pages height top height offset (omega arith)
    ∙ (ap (λ (k : ℕ). below_top pages top k offset) e ∙ rw (ne_eqb offset 0 other) refl)

-- ---- what stands above a place

-- the offset one level higher, by the one above the place
pub div-pow-in : (q d : ℕ) → q / 128 ^ suc d ≡ q / 128 / 128 ^ d
div-pow-in q d =
    ap (λ (k : ℕ). q / k) (pow-suc 128 d ∙ mul_comm (128 ^ d) 128) ∙ sym (div-div-eq-div-mul q 128 (128 ^ d))

pub above-next : (level below at offset : ℕ) → level ≡ suc below → at ≤ below
    → offset / 128 ^ (level - at) ≡ offset / 128 ^ (below - at) / 128
above-next level below at offset e low =
    let one : level - at ≡ suc (below - at) = omega (arith, e, low) in
    ap (λ (d : ℕ). offset / 128 ^ d) one ∙ div-pow-suc offset (below - at)

pub above-same : (level at offset : ℕ) → at ≡ level → offset / 128 ^ (level - at) ≡ offset
above-same level at offset e =
    let none : level - at ≡ 0 = omega (arith, e) in
    ap (λ (d : ℕ). offset / 128 ^ d) none ∙ div-one offset

pub above-rises : (d low high : ℕ) → low ≤ high → low / 128 ^ d ≤ high / 128 ^ d
above-rises d low high l =
    let some : 1 ≤ 128 ^ d = one-le-pow d 128 (omega arith) in
    let most = div-mul-le_self low (128 ^ d) in
    le-div (low / 128 ^ d) high (128 ^ d) some (omega (arith, most, l))

-- ---- where nothing stands

none-down : (pages : Pages) (height top level offset d at q : ℕ) → level ≤ height → at + d ≡ level
    → q / 128 ^ d ≡ offset
    → place_at pages (Tree height top) level offset ≡ None → place_at pages (Tree height top) at q ≡ None
none-down pages height top level offset zero at q low e over none =
    let same_level : at ≡ level = omega (arith, e) in
    let same : q ≡ offset = sym (div-one q) ∙ over in
    ap (λ (k : ℕ). place_at pages (Tree height top) k q) same_level
    ∙ (ap (place_at pages (Tree height top) level) same ∙ none)
none-down pages height top level offset (suc d) at q low e over none =
    tree_child pages height top at q (omega (arith, e, low))
    ∙ ap (child pages (q % 128))
    (none-down pages height top level offset d (suc at) (q / 128) low (omega (arith, e)) (sym
    (div-pow-in q d) ∙ over) none)

-- nothing stands under a place where nothing stands
pub none-under : (pages : Pages) (height top level offset at q : ℕ) → level ≤ height → at ≤ level
    → q / 128 ^ (level - at) ≡ offset
    → place_at pages (Tree height top) level offset ≡ None → place_at pages (Tree height top) at q ≡ None
none-under pages height top level offset at q low under over none =
    none-down pages height top level offset (level - at) at q low (omega (arith, under)) over none

-- nor at one that isn't under the top
pub none-beside : (pages : Pages) (height top at q : ℕ) → at ≤ height → (q / 128 ^ (height - at) ≡ 0 → ⊥)
    → place_at pages (Tree height top) at q ≡ None
none-beside pages height top at q low other =
    none-under pages height top height (q / 128 ^ (height - at)) at q (omega arith) low refl
    (tree-beside pages height top
    (q / 128 ^ (height - at)) other)

-- each place of a tree is under its top, or nothing stands there
pub under-top : (pages : Pages) (height top : ℕ) (b : ℕ × ℕ)
    → IsUnder height 0 1 b ⊎ (places pages (Tree height top) b ≡ None)
under-top pages height top b = elim (cases_lt height b.0) [
  | inl high ↦ inr (tree_above pages height top b.0 b.1 high)
  | inr low ↦ elim (cases_eq (b.1 / 128 ^ (height - b.0)) 0) [
    | inl here ↦ inl (record { low = low; from = omega arith; below = omega (arith, here) })
    | inr other ↦ inr (none-beside pages height top b.0 b.1 low other)
  ]
]

pub under-there : (pages : Pages) (height top : ℕ) (b : ℕ × ℕ) (v : ℕ)
    → places pages (Tree height top) b ≡ Some v
    → IsUnder height 0 1 b
under-there pages height top b v is = elim (under-top pages height top b) [
  | inl h ↦ h
  | inr none ↦ absurd (cc)
]

pub top-place : (pages : Pages) (height top : ℕ) → (top ≡ 0 → ⊥)
    → place_at pages (Tree height top) height 0 ≡ Some top
top-place pages height top some = tree-top pages height top ∙ numbered-some top some

-- ---- the slots of a node

pub slot-child : (pages : Pages) (height top level below offset number s : ℕ) (page : List ℕ)
    → level ≡ suc below
    → level ≤ height
    → place_at pages (Tree height top) level offset ≡ Some number → pages number ≡ Some page → s < 128
    → place_at pages (Tree height top) below (128 * offset + s) ≡ slot s page
slot-child pages height top level below offset number s page e low node stored within =
    let up : (128 * offset + s) / 128 ≡ offset = omega (arith, within) in
    let in_slot : (128 * offset + s) % 128 ≡ s = omega (arith, within) in
    tree_child pages height top below (128 * offset + s) (omega (arith, e, low))
    ∙ (ap (λ (k : ℕ). child pages k (place_at pages (Tree height top) (suc below) ((128 * offset + s) / 128)))
    in_slot
    ∙ (ap (λ (q : ℕ). child pages s (place_at pages (Tree height top) (suc below) q)) up
    ∙ (ap (λ (k : ℕ). child pages s (place_at pages (Tree height top) k offset)) (sym e)
    ∙ (ap (child pages s) node ∙ ap (option_and_then (λ (bytes : List ℕ). slot s bytes)) stored))))

-- ---- the least height

pub pow-rises : (a b : ℕ) → a ≤ b → 128 ^ a ≤ 128 ^ b
pow-rises a zero l = let e : a ≡ 0 = omega arith in rw e (omega arith)
pow-rises a (suc b) l = elim (cases_eq a (suc b)) [
  | inl e ↦ rw e (omega arith)
  | inr n ↦ let r = pow-rises a b (omega (arith, n)) in rw (pow-suc 128 b) (let k = 128 ^ b in omega arith)
]

-- the offsets of a level, where the level of the top has one
pub low-offset : (level offset : ℕ) → offset < 128 ^ (3 - level) → offset < 2097152
low-offset level offset low = let most = pow-rises (3 - level) 3 (omega arith) in omega (arith, low, most)

pub lower-offset : (level offset s : ℕ) → level ≤ 3 → (level ≡ 0 → ⊥) → offset < 128 ^ (3 - level) → s < 128
    → 128 * offset + s < 128 ^ (3 - (level - 1))
lower-offset level offset s most high low within =
    let one : 3 - (level - 1) ≡ suc (3 - level) = omega (arith, most, high) in
    let power : 128 ^ (3 - (level - 1)) ≡ 128 ^ (3 - level) * 128 = ap (λ (k : ℕ). 128 ^ k) one
    ∙ pow-suc 128 (3 - level) in
    omega (arith, power, low, within)

-- an index that stands beyond a lower tree asks for a higher one
pub beyond-lower : (height i : ℕ) → 128 ^ height ≤ i → (h : ℕ) → i < 128 ^ h → height < h
beyond-lower height i far h near = elim (cases_lt height h) [
  | inl l ↦ l
  | inr l ↦ absurd (let r = pow-rises h height l in omega arith)
]
