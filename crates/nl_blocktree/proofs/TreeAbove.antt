-- The old nodes above edits, as the edits know them.
use Rattle.std.proofs.Common.{◌≡◌, ◌≢◌, ℕ, zero, suc, ◌+◌, ◌*◌, ◌-◌, ◌/◌, ◌%◌, ◌^◌, ◌<◌, ◌≤◌, List, [], ◌∷◌, ◌++◌, length, get_or, Option, Some, None, refl, ap, sym, subst, ◌∙◌, arith, inl, inr}
use Rattle.std.specs.List.{All}
use Rattle.std.proofs.Math.Nat.{div-div-eq-div-mul, div-one, pow-suc}
use Rattle.std.proofs.lemmas.Bool.{cases_eq, eq-eqb, ne_eqb}
use Rattle.std.proofs.lemmas.List.Elements.{All-append, All-push}
use Rattle.smallvec.specs.SmallVec.{SmallVec}
use Rattle.nl_types.specs.Blocks.Roots.{Chain, Empty, OfChain, Pages, Root, Tree, below_top, chain_node, child, kind_of, numbered, place_at}
use Rattle.nl_layout.specs.declared.root.Root.{Root as CodeRoot}
use Rattle.nl_layout.specs.declared.root.Root.TheVariants as code
use Rattle.nl_layout.specs.Root.{root_of}
use Rattle.nl_blocktree.specs.Private.Chains.{raw, top_of}
use Rattle.nl_blocktree.specs.Private.Edits.{KnowAbove, TellsAbove, edit_alone, edit_of, top_edits}
use Rattle.nl_blocktree.specs.Private.TreeLevels.{IsNodeOf, Levels, kept_levels, nodes_above}
use Rattle.nl_blocktree.specs.declared.tree.Edit.{Edit}
use Rattle.nl_blocktree.specs.Facts.Frames.{raw-numbered, raw-slot}
use Rattle.nl_blocktree.proofs.TreeClimbing.{front_cases}
use Rattle.nl_blocktree.proofs.TreeKept.{none_over}
use Rattle.nl_blocktree.specs.Facts.TreeLevels.{div-pow-suc, tree_above, tree_place}

-- ---- by powers

over_one : (i : ℕ) → i / 128 ^ suc 0 ≡ i / 128
over_one i = div-pow-suc i 0 ∙ ap (λ (k : ℕ). k / 128) (div-one i)

over_more : (i j : ℕ) → i / 128 / 128 ^ j ≡ i / 128 ^ suc j
over_more i j =
    let p : 128 * 128 ^ j ≡ 128 ^ suc j = (let q = pow-suc 128 j in let k = 128 ^ j in omega (arith, q)) in
    div-div-eq-div-mul i 128 (128 ^ j) ∙ ap (λ (k : ℕ). i / k) p

-- ---- from level to level

-- the old node above an edit
pub old_above : (old : Levels) (below : ℕ) (edits : List Edit) (at : ℕ) (d : Edit) → at < length edits
    → KnowAbove old below edits →
    numbered (get_or (get_or edits at d).above.items below 0)
    ≡ old (suc below) ((get_or edits at d).offset / 128)
old_above old below edits at d l know =
    let e = get_or edits at d in
    let z : below + 0 ≡ below = omega arith in
    subst (λ (b : ℕ). numbered (get_or e.above.items b 0) ≡ old (suc b) (e.offset / 128)) z
    (know at d l 0 ∙ ap (old (suc (below + 0))) (over_one e.offset))

-- what stands above an edit stands below the same nodes
pub tells_up : (old : Levels) (below : ℕ) (offset : ℕ) (above over : List ℕ) → over ≡ above
    → TellsAbove old below offset above → TellsAbove old (suc below) (offset / 128) over
tells_up old below offset above over same t j =
    let n : suc below + j ≡ below + suc j = omega arith in
    subst (λ (k : ℕ). numbered (get_or over k 0) ≡ old (suc k) (offset / 128 / 128 ^ suc j)) (sym n)
    (ap (λ (xs : List ℕ). numbered (get_or xs (below + suc j) 0)) same
    ∙ (t (suc j) ∙ ap (old (suc (below + suc j))) (sym (over_more offset (suc j)))))

pub know_none : (old : Levels) (level : ℕ) → KnowAbove old level []
know_none old level k d l = absurd (omega arith)

pub know_more : (old : Levels) (level : ℕ) (edits : List Edit) (e : Edit) → KnowAbove old level edits
    → TellsAbove old level e.offset e.above.items → KnowAbove old level (edits ++ e ∷ [])
know_more old level edits e know t =
    All-push (λ (x : Edit). TellsAbove old level x.offset x.above.items) edits e know t

pub know_edit : (old : Levels) (edits : List Edit) (offset : ℕ) (number : Option ℕ) (above : SmallVec ℕ)
    → KnowAbove old 0 edits → TellsAbove old 0 offset above.items
    → KnowAbove old 0 (edits ++ edit_of offset number above)
know_edit old edits offset None above know t =
    All-append (λ (x : Edit). TellsAbove old 0 x.offset x.above.items) edits [] know
    (λ k d l. absurd (omega arith))
know_edit old edits offset (Some n) above know t =
    know_more old 0 edits (record { offset = offset; number = n; above = above }) know t

pub know_same : (old : Levels) (level : ℕ) {edits same : List Edit} → same ≡ edits → KnowAbove old level edits
    → KnowAbove old level same
know_same old level e know = subst (λ (es : List Edit). KnowAbove old level es) (sym e) know

-- what is put above an edit of a level
pub know_up : (old : Levels) (below : ℕ) (edits ups : List Edit) (at : ℕ) (d u : Edit) → at < length edits
    → KnowAbove old below edits → u.offset ≡ (get_or edits at d).offset / 128
    → u.above.items ≡ (get_or edits at d).above.items →
    KnowAbove old (below + 1) ups → KnowAbove old (below + 1) (ups ++ u ∷ [])
know_up old below edits ups at d u l know offset same more =
    let e = get_or edits at d in
    let n : suc below ≡ below + 1 = omega arith in
    know_more old (below + 1) ups u more
    (subst (λ (k : ℕ). TellsAbove old k u.offset u.above.items) n
    (subst (λ (o : ℕ). TellsAbove old (suc below) o u.above.items) (sym offset)
    (tells_up old below e.offset e.above.items u.above.items same (know at d l))))

-- the top of a tree that grows stands below no old node
pub know_top : (pages : Pages) (root : Root) (level height : ℕ) (ups : List Edit)
    → KnowAbove (kept_levels pages root) level ups
    → KnowAbove (kept_levels pages root) level (top_edits root level height ups)
know_top pages Empty level height ups know = know
know_top pages (Chain top) level height ups know = know
know_top pages (Tree old top) level height ups know =
    front_cases old level height top ups
    (λ (es : List Edit). KnowAbove (kept_levels pages (Tree old top)) level es)
    (λ o l b. with o) (λ n. know)
  where
    with : old ≡ level → KnowAbove (kept_levels pages (Tree old top)) level (edit_alone 0 top ∷ ups)
    with o zero d l j =
        sym (none_over pages (Tree old top) (suc (level + j)) (0 / 128 ^ suc j) (omega (arith, o)))
    with o (suc k) d l j = know k d (omega arith) j

-- all nodes of a chain are new ones
pub chain_knows : (pages : Pages) (root : Root) (edits : List Edit) → kind_of root ≡ OfChain
    → All (λ (e : Edit). e.above.items ≡ []) edits → KnowAbove (kept_levels pages root) 0 edits
chain_knows pages Empty edits c alone k d l j = cc
chain_knows pages (Tree height top) edits c alone k d l j = cc
chain_knows pages (Chain top) edits c alone k d l j =
    ap (λ (xs : List ℕ). numbered (get_or xs (0 + j) 0)) (alone k d l)

-- ---- the way down

-- the first node of a chain stands above its first data
pub chain_begins : (pages : Pages) (root : Root) {node : Option ℕ} → node ≡ top_of root
    → IsNodeOf pages root 0 node
unfolding place_at chain_node
chain_begins pages Empty e c = cc
chain_begins pages (Chain top) e c = e
chain_begins pages (Tree height top) e c = cc

-- one level further down
pub below_step : (pages : Pages) (top levels offset : ℕ) → levels ≢ 0
    → below_top pages top levels offset
    ≡ child pages (offset % 128) (below_top pages top (levels - 1) (offset / 128))
unfolding below_top
below_step pages top zero offset n = absurd (n refl)
below_step pages top (suc levels) offset n =
    let e : levels ≡ suc levels - 1 = omega arith in
    ap (λ (k : ℕ). child pages (offset % 128) (below_top pages top k (offset / 128))) e

pub above_step : (pages : Pages) (top levels offset : ℕ) → levels ≢ 0
    → nodes_above pages top levels offset
    ≡ raw (below_top pages top (levels - 1) (offset / 128))
    ∷ nodes_above pages top (levels - 1) (offset / 128)
above_step pages top zero offset n = absurd (n refl)
above_step pages top (suc levels) offset n =
    let e : levels ≡ suc levels - 1 = omega arith in
    ap (λ (k : ℕ). raw (below_top pages top k (offset / 128)) ∷ nodes_above pages top k (offset / 128)) e

pub on_way : {a b : Option ℕ} {xs ys : List ℕ} → a ≡ b → xs ≡ ys → raw a ∷ xs ≡ raw b ∷ ys
on_way {a} {b} {xs} {ys} e f = ap (λ (o : Option ℕ). raw o ∷ xs) e ∙ ap (λ (zs : List ℕ). raw b ∷ zs) f

below_again : (pages : Pages) (top levels offset : ℕ)
    → numbered (raw (below_top pages top levels offset)) ≡ below_top pages top levels offset
unfolding below_top
below_again pages top zero offset = elim (cases_eq offset 0) [
  | inl e ↦ rw (eq-eqb offset 0 e) (raw-numbered top)
  | inr e ↦ rw (ne_eqb offset 0 e) refl
]
below_again pages top (suc levels) offset = raw-slot (offset % 128) _

path_told : (pages : Pages) (height top levels offset : ℕ) → levels ≤ height → (j : ℕ) →
    numbered (get_or (nodes_above pages top levels offset) j 0)
    ≡ place_at pages (Tree height top) (suc (height - levels) + j) (offset / 128 ^ suc j)
path_told pages height top zero offset l j =
    sym (tree_above pages height top (suc (height - 0) + j) (offset / 128 ^ suc j) (omega arith))
path_told pages height top (suc levels) offset l zero =
    let n : suc (height - suc levels) + 0 ≡ height - levels = omega arith in
    let m : height - (height - levels) ≡ levels = omega arith in
    below_again pages top levels (offset / 128)
    ∙ sym (ap (λ (k : ℕ). place_at pages (Tree height top) k (offset / 128 ^ suc 0)) n
    ∙ (tree_place pages height top (height - levels) (offset / 128 ^ suc 0) (omega arith)
    ∙ (ap (λ (k : ℕ). below_top pages top k (offset / 128 ^ suc 0)) m
    ∙ ap (below_top pages top levels) (over_one offset))))
path_told pages height top (suc levels) offset l (suc j) =
    let n : suc (height - levels) + j ≡ suc (height - suc levels) + suc j = omega arith in
    path_told pages height top levels (offset / 128) (omega arith) j
    ∙ (ap (λ (k : ℕ). place_at pages (Tree height top) k (offset / 128 / 128 ^ suc j)) n
    ∙ ap (place_at pages (Tree height top) (suc (height - suc levels) + suc j)) (over_more offset (suc j)))

-- the nodes on the way to a tree's data
pub way_told : (pages : Pages) (height top offset : ℕ) (above : List ℕ)
    → above ≡ nodes_above pages top height offset
    → TellsAbove (kept_levels pages (Tree height top)) 0 offset above
way_told pages height top offset above is j =
    let n : suc (height - height) + j ≡ suc (0 + j) = omega arith in
    ap (λ (xs : List ℕ). numbered (get_or xs (0 + j) 0)) is
    ∙ (ap (λ (k : ℕ). numbered (get_or (nodes_above pages top height offset) k 0))
    (let z : 0 + j ≡ j = omega arith in z)
    ∙ (path_told pages height top height offset (omega arith) j
    ∙ ap (λ (k : ℕ). place_at pages (Tree height top) k (offset / 128 ^ suc j)) n))

pub tree_way : (pages : Pages) (root : CodeRoot) (height top offset : ℕ) (above : List ℕ)
    → root ≡ code.Tree height top → above ≡ nodes_above pages top height offset
    → TellsAbove (kept_levels pages (root_of root)) 0 offset above
tree_way pages root height top offset above is e =
    subst (λ (r : Root). TellsAbove (kept_levels pages r) 0 offset above) (sym (ap root_of is))
    (way_told pages height top offset above e)

pub no_way : (pages : Pages) (root : CodeRoot) (offset : ℕ) (above : List ℕ) → root ≡ code.Empty → above ≡ []
    → TellsAbove (kept_levels pages (root_of root)) 0 offset above
no_way pages root offset above is e =
    subst (λ (r : Root). TellsAbove (kept_levels pages r) 0 offset above) (sym (ap root_of is))
    (λ j.
    ap (λ (xs : List ℕ). numbered (get_or xs (0 + j) 0)) e
    ∙ sym (none_over pages Empty (suc (0 + j)) (offset / 128 ^ suc j) (omega arith)))

pub tree_number : (pages : Pages) (root : CodeRoot) (height top offset : ℕ) → root ≡ code.Tree height top
    → below_top pages top height offset ≡ place_at pages (root_of root) 0 offset
tree_number pages root height top offset is =
    let n : height ≡ height - 0 = omega arith in
    ap (λ (k : ℕ). below_top pages top k offset) n
    ∙ (sym (tree_place pages height top 0 offset (omega arith))
    ∙ ap (λ (r : CodeRoot). place_at pages (root_of r) 0 offset) (sym is))
