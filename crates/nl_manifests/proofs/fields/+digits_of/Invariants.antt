use Rattle.nl_manifests.proofs.fields.+digits_of.Given as goal

abbrev pub decreases-digits_of : goal.decreases-digits_of
decreases-digits_of l = l.width
