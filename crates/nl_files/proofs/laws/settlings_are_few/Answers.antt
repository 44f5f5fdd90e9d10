use Rattle.nl_files.proofs.FewSettled as few
use Rattle.nl_files.proofs.laws.settlings_are_few.Goals as goal

pub returns : goal.returns
returns c = few.settlings_are_few
