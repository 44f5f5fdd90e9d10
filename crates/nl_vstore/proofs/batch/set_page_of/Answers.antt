use Rattle.std.proofs.Common.{get_or}
use Rattle.std.proofs.lemmas.List.{get_or_default}
use Rattle.nl_vstore.specs.Facts.BatchLaws.{set_page_births}
use Rattle.nl_vstore.proofs.batch.set_page_of.Goals as goal

pub returns : goal.returns
returns c =
    let item = get_or c.args.births.now c.args.index c.index-births-index.result in
    set_page_births c.args.births.now c.args.index c.args.page item c.requires
    (get_or_default c.args.births.now c.args.index c.index-births-index.result item c.requires)
