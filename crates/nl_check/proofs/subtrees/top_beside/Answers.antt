use Rattle.std.proofs.Common.{rules, ◌≡◌, ◌∙◌, ap, sym}
use Rattle.nl_types.specs.Blocks.Roots.{place_at}
use Rattle.nl_layout.specs.Root.{root_of}
use Rattle.nl_layout.specs.declared.root.Root.{Root as CodeRoot}
use Rattle.nl_check.specs.Private.ChangedFiles.{of_height}
use Rattle.nl_check.proofs.HeightsBeside.{top-other, top-same}
use Rattle.nl_blocktree.specs.Facts.MetPlaces.{empty-place}
use Rattle.nl_check.proofs.subtrees.top_beside.Goals as goal

pub returns-in-Empty : goal.returns-in-Empty
returns-in-Empty c = λ pages.
    ap (λ (r : CodeRoot). place_at pages (of_height c.args.height (root_of r)) c.args.height 0) c.in-Empty.is
    ∙ empty-place pages c.args.height 0

pub returns-in-Chain : goal.returns-in-Chain
returns-in-Chain c = λ pages.
    ap (λ (r : CodeRoot). place_at pages (of_height c.args.height (root_of r)) c.args.height 0) c.in-Chain.is
    ∙ empty-place pages c.args.height 0

pub returns-then-eq : goal.returns-then-eq
returns-then-eq c = λ pages.
    let one : c.in-Tree.level ≡ c.args.height = search rules in
    ap (λ (r : CodeRoot). place_at pages (of_height c.args.height (root_of r)) c.args.height 0) c.in-Tree.is
    ∙ (top-same pages c.args.height c.in-Tree.level c.in-Tree.top one ∙ sym c.named.ensures)

pub returns-else-eq : goal.returns-else-eq
returns-else-eq c = λ pages.
    ap (λ (r : CodeRoot). place_at pages (of_height c.args.height (root_of r)) c.args.height 0) c.in-Tree.is
    ∙ top-other pages c.args.height c.in-Tree.level c.in-Tree.top
    (λ (e : c.in-Tree.level ≡ c.args.height). search rules)
