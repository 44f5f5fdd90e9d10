-- One inode is settled.
use Rattle.std.proofs.Common.{◌≡◌, ℕ, suc, List, Option, Some, None, refl, ap, sym, subst, ◌∙◌, inl, inr}
use Rattle.std.specs.Option.{IsSome, option_and_then}
use Rattle.nl_types.specs.Blocks.Entries.{Content}
use Rattle.nl_types.specs.Blocks.Roots as roots
use Rattle.nl_types.specs.Blocks.Roots.{NoBlocks, OfChain, Pages, page_at, pages_of, place_at}
use Rattle.nl_types.specs.Blocks.RootChanges.{IsSound}
use Rattle.nl_vstore.specs.Batches.{Changes}
use Rattle.nl_layout.specs.Root.{root_of}
use Rattle.nl_layout.specs.declared.root.Root.{Root}
use Rattle.nl_layout.specs.declared.root.Root.TheVariants.{Empty, Chain, Tree}
use Rattle.nl_layout.specs.declared.inode.Inode.{Inode}
use Rattle.nl_blocktree.specs.declared.change.BlockChange.{BlockChange}
use Rattle.nl_blocktree.specs.Changed.{blocks_with}
use Rattle.nl_blocktree.specs.Putting.{PutsAll, pages_after}
use Rattle.nl_blocktree.specs.Facts.Frames.{cases-Option, nothing-sound}
use Rattle.nl_blocktree.specs.Facts.Staying.{some-of}
use Rattle.nl_tree.specs.Became.{Became, over_became}
use Rattle.nl_tree.specs.Held.{Held}
use Rattle.nl_files.specs.CheckpointRoots.{StandsFor, inode_root}
use Rattle.nl_files.specs.Private.Planned.{IsBase, IsPlanned, StandsShaped, shaped}
use Rattle.nl_files.specs.Settles.{IsInodeSettled}
use Rattle.nl_files.specs.declared.plan.Shape.{Shape}
use Rattle.nl_files.specs.declared.plan.Plan.{Plan}

clash : {X : Type 0} (o : Option X) → IsSome o → o ≡ None → ⊥
clash None s e = cc
clash (Some x) s e = cc

-- a root without a page has no place
no_data : (pages : Pages) (root : roots.Root) → IsSound pages root → ((b : ℕ) → page_at pages root b ≡ None)
    → (b : ℕ) → place_at pages root 0 b ≡ None
no_data pages root sound none b = elim (cases-Option (place_at pages root 0 b)) [
  | inl e ↦ e
  | inr x ↦
      let page = some-of (pages x.0) (sound.stored 0 b x.0 x.1) in
      let here : page_at pages root b ≡ Some page.0 = ap (option_and_then pages) x.1 ∙ page.1 in
      absurd (let no : None ≡ Some page.0 = sym (none b) ∙ here in cc)
]

pub high-none : (pages : Pages) (top level offset : ℕ)
    → place_at pages (roots.Chain top) (suc (suc level)) offset ≡ None
unfolding place_at
high-none pages top level offset = refl

pub empty-none : (pages : Pages) (level offset : ℕ) → place_at pages roots.Empty level offset ≡ None
unfolding place_at
empty-none pages level offset = refl

-- a root without data is empty
pub no_root : (pages : Pages) (root : Root) → IsSound pages (root_of root) →
    ((b : ℕ) → page_at pages (root_of root) b ≡ None) → root_of root ≡ roots.Empty
no_root pages Empty sound none = refl
no_root pages (Chain top) sound none =
    let first =
    some-of (place_at pages (roots.Chain top) 1 0)
    (sound.has_top (λ e. let no : OfChain ≡ NoBlocks = e in cc)) in
    let there = sound.ends_full refl 0 first.0 first.1 in
    absurd (clash (place_at pages (roots.Chain top) 0 there.0) there.2
    (no_data pages (roots.Chain top) sound none there.0))
no_root pages (Tree height top) sound none =
    let there = (sound.tree_shape refl).least in
    absurd (clash (place_at pages (roots.Tree height top) 0 there.0) there.1
    (no_data pages (roots.Tree height top) sound none there.0))

pub no_place : (pages : Pages) (root : Root) → IsSound pages (root_of root)
    → ((b : ℕ) → page_at pages (root_of root) b ≡ None) →
    (level offset : ℕ) → place_at pages (root_of root) level offset ≡ None
no_place pages root sound none level offset =
    ap (λ (r : roots.Root). place_at pages r level offset) (no_root pages root sound none)
    ∙ empty-none pages level offset

-- what a shape with a root is
record Shaped (pages : Pages) (new : Option Inode) (root : roots.Root) (held : Option Held) : Type 0 where
  pub is_root : inode_root new ≡ root
  pub sound : IsSound pages (inode_root new)
  pub stands : StandsFor pages new held

shaped-stands : (pages : Pages) (shape : Option Shape) (root : Root) (held : Option Held)
    → IsSound pages (root_of root) → StandsShaped (page_at pages (root_of root)) shape held
    → Shaped pages (shaped shape root) (root_of root) held
shaped-stands pages None root held sound stands = record {
  is_root = sym (no_root pages root sound stands.1);
  sound = nothing-sound pages;
  stands = stands.0;
}
shaped-stands pages (Some s) root held sound stands =
    record { is_root = refl; sound = sound; stands = stands }

pub settled-one : (content : Content) (i : ℕ) (old : Option Inode) (change : Became) (plan : Plan)
    (given : roots.Root) (root : Root) (new : Option Inode) (changes : List BlockChange)
    (before after : Changes) (base : Option Held)
    →
    IsPlanned old change plan → changes ≡ plan.changes.items → given ≡ inode_root old
    → PutsAll content i given (root_of root) changes before after → new ≡ shaped plan.shape root →
    IsBase (page_at (pages_of content) (inode_root old)) old base
    → IsInodeSettled content i (inode_root old) new (over_became change base) before after
settled-one content i old change plan given root new changes before after base planned items given_is put
    new_is is =
    record {
      changes = changes;
      root = root_of root;
      settled = record { put = put_old; is_root = made.is_root; sound = made.sound; stands = made.stands };
    }
  where
    put_old : PutsAll content i (inode_root old) (root_of root) changes before after
    put_old = subst (λ (r : roots.Root). PutsAll content i r (root_of root) changes before after) given_is put

    blocks_are : blocks_with plan.changes.items (page_at (pages_of content) (inode_root old))
        ≡ page_at (pages_after content after) (root_of root)
    blocks_are = λ j.
        λ b.
        (ap (λ (cs : List BlockChange). blocks_with cs (page_at (pages_of content) (inode_root old)) b)
        (sym items)
        ∙ sym (put_old.blocks b))
        j

    made : Shaped (pages_after content after) new (root_of root) (over_became change base)
    made =
        subst (λ (n : Option Inode).
        Shaped (pages_after content after) n (root_of root) (over_became change base))
        (sym new_is)
        (shaped-stands (pages_after content after) plan.shape root (over_became change base) put_old.sound
        (subst (λ (blocks : Pages). StandsShaped blocks plan.shape (over_became change base)) blocks_are
        (planned (page_at (pages_of content) (inode_root old)) base is)))
