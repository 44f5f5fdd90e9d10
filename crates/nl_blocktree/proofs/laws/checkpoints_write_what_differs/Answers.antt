use Rattle.nl_blocktree.specs.Facts.RootByRoot.{writes-what-differs}
use Rattle.nl_blocktree.proofs.laws.checkpoints_write_what_differs.Goals as goal

pub returns : goal.returns
returns c = λ room last ledger roots files is r ascending.
    writes-what-differs room ledger roots files is r last ascending
