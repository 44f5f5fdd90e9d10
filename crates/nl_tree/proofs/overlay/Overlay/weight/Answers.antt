use Rattle.std.proofs.Common.{arith}
use Rattle.nl_tree.proofs.Weights.{all-shown}
use Rattle.nl_tree.proofs.overlay.Overlay.weight.Goals as goal

pub returns : goal.returns
returns c =
    let few = all-shown c.args.self.now.changed.entries in
    let counted = c.requires.counted in
    omega (arith, few, counted)
