use Rattle.std.proofs.Common.{arith}
use Rattle.std.proofs.lemmas.Grind.{common_steps}
use Rattle.std.proofs.lemmas.Map.Text.{is_eq-slice_cmp}
use Rattle.nl_dirs.proofs.reading.is_same.Goals as goal

pub returns : goal.returns
returns c = rw (is_eq-slice_cmp c.args.name.now c.args.other.now) (grind (arith, common_steps))
