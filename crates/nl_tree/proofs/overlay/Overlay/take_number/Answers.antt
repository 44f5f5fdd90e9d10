use Rattle.std.proofs.Common.{Bool, None, ap, ◌∙◌}
use Rattle.std.specs.Prelude.{cond}
use Rattle.std.specs.Ordering.{nat_cmp}
use Rattle.std.specs.BTreeMap as map
use Rattle.nl_tree.specs.Facts.Places.{tied}
use Rattle.nl_tree.proofs.overlay.Overlay.take_number.Goals as goal

pub returns-then-le-clause-freed : goal.returns-then-le-clause-freed
returns-then-le-clause-freed c = λ n.
    c.remove.ensures.updates.0 n
    ∙ ap (λ (t : Bool). cond t None (map.get nat_cmp c.args.self.now.freed n)) (tied c.args.inode n)

pub returns-else-le-clause-freed : goal.returns-else-le-clause-freed
returns-else-le-clause-freed c = λ n.
    c.remove.ensures.updates.0 n
    ∙ ap (λ (t : Bool). cond t None (map.get nat_cmp c.args.self.now.freed n)) (tied c.args.inode n)
