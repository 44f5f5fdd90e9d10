use Rattle.nl_blocktree.specs.Facts.Staying.{file-stays}
use Rattle.nl_blocktree.proofs.laws.files_stay.Goals as goal

pub returns : goal.returns
returns c = file-stays
