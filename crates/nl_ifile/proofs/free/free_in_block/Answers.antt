use Rattle.nl_ifile.proofs.Blocks.{found-of_root}
use Rattle.nl_ifile.proofs.free.free_in_block.Goals as goal

pub returns-clause-found : goal.returns-clause-found
returns-clause-found g c =
    found-of_root _ _ c.args.changes.now _ c.args.first c.page_at.ensures.page c.free_on_page.result
    c.free_on_page.ensures
