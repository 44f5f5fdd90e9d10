use Rattle.std.proofs.Common.{◌∙◌}
use Rattle.nl_manifests.proofs.Lookups.{rising_is}
use Rattle.nl_manifests.proofs.looking.Entries.of.Goals as goal

pub invariant_of-result : goal.invariant_of-result
invariant_of-result g c = record { ordered = c.are_rising-is_ordered.ensures ∙ rising_is c.args.all.now }
