use Rattle.nl_tree.proofs.FilePages.{cut_shows}
use Rattle.nl_tree.proofs.overlay.Changed.cut_at.Goals as goal

pub returns-in-File-clause-cut : goal.returns-in-File-clause-cut
returns-in-File-clause-cut c = λ base size blocks shows.
    cut_shows c.args.self.now c.in-File.file c.cut_at.new.self base c.args.count size blocks c.in-File.is
    c.cut_at.ensures.size (c.cut_at.ensures.blocks base) shows
