use Rattle.std.proofs.Common.{◌≡◌, drop}
use Rattle.nl_types.specs.Blocks.Segments.{clean_from}
use Rattle.nl_sufile.proofs.clean.next_clean.Given as goal

abbrev pub invariant-loop-number : goal.invariant-loop-number
invariant-loop-number l = clean_from l.number (drop l.number l.each) ≡ clean_from l.from (drop l.from l.each)
