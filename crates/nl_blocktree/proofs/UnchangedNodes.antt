-- A node of a tree below which no data changes keeps its number, whatever puts the changes: no birth stands
-- at its place.
use Rattle.std.proofs.Common.{◌≡◌, ℕ, suc, ◌/◌, ◌^◌, List, Option, Some, None, refl, ap, sym, subst, ◌∙◌, inl, inr}
use Rattle.std.specs.Option.{IsSome, option_and_then}
use Rattle.nl_types.specs.Blocks.Entries.{Birth, Content}
use Rattle.nl_types.specs.Blocks.RootChanges.{IsAt, IsWrittenPlace, NodeWritten, with_births, was_absent, new_kind, of_chain, of_tree}
use Rattle.nl_types.specs.Blocks.Roots.{Chain, Empty, OfChain, OfTree, Root, Tree, kind_of, page_at, pages_of, place_at}
use Rattle.nl_vstore.specs.Batches.{Changes}
use Rattle.nl_blocktree.specs.Putting.{NodesKeepNumbers, NodesStay, PutsAll}
use Rattle.nl_blocktree.specs.declared.change.BlockChange.{BlockChange}
use Rattle.nl_blocktree.specs.Facts.Staying.{some-is, some-of}
use Rattle.nl_blocktree.specs.Facts.TreeLevels.{node_above}

pub node_same : {content : Content} {inode : ℕ} {root new : Root} {changes : List BlockChange}
    {before after : Changes}
    → PutsAll content inode root new changes before after → kind_of root ≡ OfTree → kind_of new ≡ OfTree →
    (level offset v w : ℕ) → place_at (pages_of content) root (suc level) offset ≡ Some v
    → place_at (with_births after.births (pages_of content)) new (suc level) offset ≡ Some w →
    ((i : ℕ) → i / 128 ^ suc level ≡ offset
    → page_at (pages_of content) root i ≡ page_at (with_births after.births (pages_of content)) new i)
    → w ≡ v
node_same {content} {inode} {root} {new} {changes} {before}
    {after} p tree tree' level offset v w old now same =
    elim (p.rewrites.born_or_kept (suc level) offset w now) [
      | inl b ↦ absurd (copied (moved b.0 b.2 (p.rewrites.born_written b.0 b.1)))
      | inr k ↦ let e : Some w ≡ Some v = sym k ∙ old in cc
    ]
  where
    moved : (b : Birth) → IsAt b (suc level) offset
        → IsWrittenPlace (pages_of content)
        (with_births after.births (pages_of content)) root new b.place.level b.place.offset
        →
        IsWrittenPlace (pages_of content) (with_births after.births (pages_of content)) root new
        (suc level) offset
    moved b at h =
        subst (λ (l : ℕ).
        IsWrittenPlace (pages_of content) (with_births after.births (pages_of content)) root new l offset)
        at.0
        (subst (λ (o : ℕ).
        IsWrittenPlace (pages_of content)
        (with_births after.births (pages_of content)) root new b.place.level o)
        at.1 h)

    why : NodeWritten (pages_of content) (with_births after.births (pages_of content)) root new
        (suc level) offset
        → ⊥
    why (was_absent e) = let no : None ≡ Some v = sym e ∙ old in cc
    why (new_kind e) = e (tree ∙ sym tree')
    why (of_chain k i e) = let no : OfTree ≡ OfChain = sym tree' ∙ k in cc
    why (of_tree k i at e) = e (same i at)

    copied : IsWrittenPlace (pages_of content) (with_births after.births (pages_of content)) root new
        (suc level) offset
        → ⊥
    copied h = why h.1

pub nodes_keep_numbers : NodesKeepNumbers
nodes_keep_numbers content inode root new changes before after p tree tree' level offset v w old now same =
    node_same p tree tree' level offset v w old now same

some_page : (o : Option ℕ) (f : ℕ → Option (List ℕ)) → IsSome (option_and_then f o) → IsSome o
some_page None f s = cc
some_page (Some v) f s = some-is (Some v) v refl

-- as high as the new tree is, the node stands there
pub nodes_stay : NodesStay
nodes_stay content inode root Empty changes before after sound p tree tree' level offset v low old same = cc
nodes_stay content inode root
    (Chain top) changes before after sound p tree tree' level offset v low old same =
    cc
nodes_stay content inode root
    (Tree height top) changes before after sound p tree tree' level offset v low old same =
    let pages = with_births after.births (pages_of content) in
    let r = (sound.tree_shape tree).above_data level offset v old in
    let x = some-of (place_at (pages_of content) root 0 r.0) r.2 in
    let there : IsSome (page_at (pages_of content) root r.0) =
    subst (λ (o : Option ℕ). IsSome (option_and_then (pages_of content) o)) (sym x.1)
    (sound.stored 0 r.0 x.0 x.1) in
    let still : IsSome (page_at pages (Tree height top) r.0) =
    subst (λ (o : Option (List ℕ)). IsSome o) (same r.0 r.1) there in
    let y =
    some-of (place_at pages (Tree height top) 0 r.0)
    (some_page (place_at pages (Tree height top) 0 r.0) pages still) in
    let n = node_above pages height top r.0 y.0 y.1 (suc level) low in
    let now : place_at pages (Tree height top) (suc level) offset ≡ Some n.0 =
    ap (place_at pages (Tree height top) (suc level)) (sym r.1) ∙ n.1 in
    now
    ∙ ap (λ (m : ℕ). let o : Option ℕ = Some m in o) (node_same p tree tree' level offset v n.0 old now same)
