use Rattle.std.proofs.Common.{◌≡◌, ◌∙◌, ◌-◌, ◌<◌, ℕ, suc, None, ap, arith, sym}
use Rattle.nl_types.specs.Blocks.Roots as roots
use Rattle.nl_types.specs.Blocks.Roots.{Pages, place_at}
use Rattle.nl_layout.specs.Root.{root_of}
use Rattle.nl_layout.specs.declared.root.Root.{Root}
use Rattle.nl_layout.specs.declared.root.Root.TheVariants.{Chain}
use Rattle.nl_blocktree.specs.Facts.Reading.{above}
use Rattle.nl_blocktree.proofs.Places.{place-empty}
use Rattle.nl_blocktree.proofs.placed.high_node_at.Goals as goal

-- a chain has nothing above its nodes
none-high : (pages : Pages) (root : Root) (top level offset : ℕ) → root ≡ Chain top → 1 < level
    → place_at pages (root_of root) level offset ≡ None
none-high pages root top level offset is high =
    let e : level ≡ suc (suc (level - 2)) = omega (arith, high) in
    ap (λ (r : Root). place_at pages (root_of r) level offset) is
    ∙ (ap (λ (l : ℕ). place_at pages (roots.Chain top) l offset) e
    ∙ above pages (roots.Chain top) (level - 2) offset (λ k. cc))

pub returns-in-Empty : goal.returns-in-Empty
returns-in-Empty g c =
    sym (place-empty (g.V.VRead.pages c.args.store.now) c.args.root.now c.args.level c.args.offset c.in-Empty.is)

pub returns-in-Chain : goal.returns-in-Chain
returns-in-Chain g c =
    sym (none-high (g.V.VRead.pages c.args.store.now) c.args.root.now _ c.args.level c.args.offset c.in-Chain.is
    c.requires)
