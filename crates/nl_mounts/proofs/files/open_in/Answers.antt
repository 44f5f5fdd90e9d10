use Rattle.nl_mounts.proofs.Looking.{of_tree}
use Rattle.nl_mounts.proofs.OpenFiles.{not_opened, opened}
use Rattle.nl_mounts.proofs.files.open_in.Goals as goal

pub invariant_of-result : goal.invariant_of-result
invariant_of-result g c = λ held on.
    c.in-Ok.ensures held (c.new.ensures held ((c.requires c.in-Some.found held c.in-Some.is).1 on))

pub returns-in-Err-clause-opens : goal.returns-in-Err-clause-opens
returns-in-Err-clause-opens g c = of_tree _ c.args.tree c.in-Some.found _ _ c.in-Some.is (λ t means.
    not_opened _ means.held t means.means c.args.path.now c.in-Err.refusal
    (c.in-Err.ensures means.held (c.new.ensures means.held means.holds)))

pub returns-in-Ok-clause-opens : goal.returns-in-Ok-clause-opens
returns-in-Ok-clause-opens g c = of_tree _ c.args.tree c.in-Some.found _ _ c.in-Some.is (λ t means.
    opened means.held t means.means c.args.path.now c.in-Ok.inode _
    (c.in-Ok.ensures means.held (c.new.ensures means.held means.holds)))
