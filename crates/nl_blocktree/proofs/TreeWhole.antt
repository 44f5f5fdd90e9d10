-- A file whose data was changed and whose root was renewed as a tree has all its changes put.
use Rattle.std.proofs.Common.{◌≡◌, ◌≢◌, ℕ, suc, ◌+◌, ◌*◌, ◌/◌, ◌^◌, ◌<◌, List, Some, None, refl, ap, sym, subst, ◌∙◌, arith, inl, inr, ◌⊎◌}
use Rattle.std.specs.List.{Contains}
use Rattle.std.specs.Option.{IsSome}
use Rattle.std.proofs.lemmas.List.Elements.{Contains-append_cases}
use Rattle.nl_types.specs.Blocks.Entries.{Birth, Content}
use Rattle.nl_types.specs.Blocks.RootChanges.{Includes, IsSound, NodeWritten, born, new_kind, with_births}
use Rattle.nl_types.specs.Blocks.Roots.{Empty, OfChain, Pages, Root, Tree, kind_of, numbered, pages_of, place_at}
use Rattle.nl_blocktree.specs.Changed.{indexes}
use Rattle.nl_blocktree.specs.Numbering.{IsUnused}
use Rattle.nl_blocktree.specs.Putting.{IsWrittenKind, PutsAll}
use Rattle.nl_blocktree.specs.declared.change.BlockChange.{BlockChange}
use Rattle.nl_blocktree.specs.Private.Edits.{IsEdited}
use Rattle.nl_blocktree.specs.Private.Renewing.{IsNewTree, IsRenewed}
use Rattle.nl_blocktree.specs.Private.TreeLevels.{Levels, data_alone}
use Rattle.nl_blocktree.specs.Private.Writing.{PutsData}
use Rattle.nl_blocktree.specs.declared.tree.Edit.{Edit}
use Rattle.nl_blocktree.specs.Facts.Staying.{some-is}
use Rattle.nl_blocktree.specs.Facts.Numbers.{born-append, numbered_unused}
use Rattle.nl_blocktree.proofs.TreeKinds.{chain_moves, tree_moves, tree_why}
use Rattle.nl_blocktree.specs.Facts.TreeLevels.{tree_top}
use Rattle.nl_blocktree.proofs.TreePuts.{blocks, data_differs, kept, tree_sound}
use Rattle.nl_blocktree.proofs.TreeShape.{NeedsHeight, above_data, tree_shape}

pub new_tree : (pages : Pages) (height top : ℕ) → numbered top ≡ Some top → NeedsHeight pages top height →
    ((l offset v : ℕ) → l < height → place_at pages (Tree height top) (suc l) offset ≡ Some v
    → (s : ℕ) × (s < 128) × IsSome (place_at pages (Tree height top) l (128 * offset + s)))
    → IsNewTree pages (Tree height top)
new_tree pages height top named needs full = record {
  no_chain = λ e. cc;
  has_top = λ k.
      some-is (place_at pages (Tree height top) height 0) top (tree_top pages height top 0 ∙ named);
  above = above_data pages height top full;
  shape = λ k. tree_shape pages height top needs full;
}

pub new_empty : (pages : Pages) → IsNewTree pages Empty
unfolding place_at
new_empty pages = record {
  no_chain = λ e. cc;
  has_top = λ k. absurd (k refl);
  above = λ level offset v e. cc;
  shape = λ k. cc;
}

module _ (new : Root) {content : Content} {inode : ℕ} {root : Root} {changes : List BlockChange}
    {prior : Levels} {asked : List Edit} {births mid all : List Birth} {zs ys ends : List ℕ}
    (sound : IsSound (pages_of content) root) (fresh : IsUnused content births)
    (range : (o : ℕ) → Contains (indexes changes) o → o < 262144)
    (d : PutsData content inode changes (place_at (pages_of content) root 0) asked births mid zs ys)
    (first : (e : Edit) × Contains asked e)
    (h : IsRenewed content inode prior (place_at (pages_of content) root)
    (place_at (with_births all (pages_of content)) new) asked births all zs ends)
    (more : Includes (with_births mid (pages_of content)) (with_births all (pages_of content)))
    (tree : IsNewTree (with_births all (pages_of content)) new) (kind : IsWrittenKind (kind_of new))
    (why : (b : Birth) → Contains h.added b → (level : ℕ) → b.place.level ≡ suc level
    → NodeWritten (pages_of content) (with_births all (pages_of content)) root new
    (suc level) b.place.offset)
    (moves : kind_of root ≢ kind_of new → (level offset v : ℕ)
    → place_at (pages_of content) root (suc level) offset ≡ Some v
    → place_at (with_births all (pages_of content)) new (suc level) offset ≡ Some v → ⊥) where
  free : IsUnused content all
  free v k =
      elim (Contains-append_cases (born births) (born h.added) v
      (subst (λ (ns : List ℕ). Contains ns v) (ap born h.births_are ∙ born-append births h.added) k)) [
        | inl q ↦ fresh v q
        | inr q ↦ numbered_unused content births h.added v h.lowest_free q
      ]

  pub puts_tree : PutsAll content inode root new changes (record { births = births; ends = zs })
      (record { births = all; ends = ends })
  puts_tree =
      let both =
      tree_sound new sound fresh d h more range tree.no_chain tree.has_top tree.above tree.shape why
      moves in
      record {
        births = h.added;
        ends = h.gone;
        births_are = h.births_are;
        ends_are = h.ends_are;
        lowest_free = h.lowest_free;
        unused = free;
        rewrites = both.1;
        blocks = blocks new sound fresh d h more;
        sound = both.0;
        same_root = kept new sound fresh d h more first.0 first.1;
        kind = inr kind;
      }

-- from a tree, or from no blocks
pub tree_of_tree : (new : Root) {content : Content} {inode : ℕ} {root : Root} {changes : List BlockChange}
    {asked : List Edit} {births mid all : List Birth} {zs ys ends : List ℕ}
    → kind_of root ≢ OfChain →
    IsSound (pages_of content) root → IsUnused content births
    → ((o : ℕ) → Contains (indexes changes) o → o < 262144) →
    PutsData content inode changes (place_at (pages_of content) root 0) asked births mid zs ys
    → (e : Edit) × Contains asked e →
    IsRenewed content inode (place_at (pages_of content) root) (place_at (pages_of content) root)
    (place_at (with_births all (pages_of content)) new) asked births all zs ends
    →
    Includes (with_births mid (pages_of content)) (with_births all (pages_of content))
    → IsNewTree (with_births all (pages_of content)) new → IsWrittenKind (kind_of new) →
    PutsAll content inode root new changes (record { births = births; ends = zs })
    (record { births = all; ends = ends })
tree_of_tree new {content} {inode} {root} {changes} {asked} {births} {mid}
    {all} no_chain sound fresh range d first h more tree kind =
    puts_tree new sound fresh range d first h more tree kind
    (λ b k level e.
    tree_why asked level tree.no_chain
    (subst
    (λ (l : ℕ). place_at (with_births all (pages_of content)) new l b.place.offset ≡ Some b.number) e
    (h.placed b k))
    (data_differs new sound fresh d h more)
    (subst (λ (l : ℕ).
    (place_at (pages_of content) root l b.place.offset ≡ None)
    ⊎ ((i : ℕ) × IsEdited asked i × (i / 128 ^ l ≡ b.place.offset)))
    e
    (h.written b k (omega (arith, e)))))
    (tree_moves (pages_of content) (with_births all (pages_of content)) root new no_chain tree.no_chain)

-- from a chain
pub tree_of_chain : (new : Root) {content : Content} {inode : ℕ} {root : Root} {changes : List BlockChange}
    {asked : List Edit} {births mid all : List Birth} {zs ys ends mine : List ℕ}
    → kind_of root ≡ OfChain →
    IsSound (pages_of content) root → IsUnused content births
    → ((o : ℕ) → Contains (indexes changes) o → o < 262144) →
    PutsData content inode changes (place_at (pages_of content) root 0) asked births mid zs ys
    → (e : Edit) × Contains asked e →
    IsRenewed content inode (data_alone (place_at (pages_of content) root))
    (data_alone (place_at (pages_of content) root))
    (place_at (with_births all (pages_of content)) new) asked births all zs mine
    →
    IsRenewed content inode (data_alone (place_at (pages_of content) root)) (place_at (pages_of content) root)
    (place_at (with_births all (pages_of content)) new) asked births all zs ends
    →
    Includes (with_births mid (pages_of content)) (with_births all (pages_of content))
    → IsNewTree (with_births all (pages_of content)) new → IsWrittenKind (kind_of new) →
    PutsAll content inode root new changes (record { births = births; ends = zs })
    (record { births = all; ends = ends })
tree_of_chain new {content} {inode} {root} {changes} {asked} {births} {mid}
    {all} chain sound fresh range d first bare h more tree kind =
    puts_tree new sound fresh range d first h more tree kind
    (λ b k level e. new_kind (λ q. tree.no_chain (sym q ∙ chain)))
    (λ k. chain_moves sound.stored bare)
