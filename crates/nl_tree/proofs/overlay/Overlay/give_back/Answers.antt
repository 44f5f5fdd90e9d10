use Rattle.std.proofs.Common.{Bool, Some, true, ap, ◌∙◌}
use Rattle.std.specs.Prelude.{cond}
use Rattle.std.specs.Ordering.{nat_cmp}
use Rattle.std.specs.BTreeMap as map
use Rattle.nl_tree.specs.Facts.Places.{tied}
use Rattle.nl_tree.proofs.overlay.Overlay.give_back.Goals as goal

pub returns-in-Some-clause-freed : goal.returns-in-Some-clause-freed
returns-in-Some-clause-freed c = λ n.
    ((c.get_mut.follows.holds true).3 c.requires).0 n
    ∙ ap (λ (t : Bool). cond t (Some true) (map.get nat_cmp c.args.self.now.freed n)) (tied c.args.inode n)
