use Rattle.nl_commit.specs.Layout.{MeansWorld}
use Rattle.nl_keep.specs.Facts.Tidied.{leads_to_itself}
use Rattle.nl_keep_pen.proofs.rounds.Round.tidy_if_due.Goals as goal

pub returns-else-is_due-clause-tidies : goal.returns-else-is_due-clause-tidies
returns-else-is_due-clause-tidies g c = leads_to_itself c.args.self.now.moment (MeansWorld c.args.volume.now.pen)
