use Rattle.nl_files.specs.Facts.Staying.{checkpoints-stay, kept_pages-agree}
use Rattle.nl_files.proofs.laws.checkpoints_stay.Goals as goal

pub returns-clause-stay : goal.returns-clause-stay
returns-clause-stay c = checkpoints-stay

pub returns-clause-kept : goal.returns-clause-kept
returns-clause-kept c = kept_pages-agree
