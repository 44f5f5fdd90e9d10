use Rattle.std.proofs.Common.{sym, subst}
use Rattle.nl_cleaner.specs.Private.Choice.{AreFirst}
use Rattle.nl_cleaner.proofs.Ages.{are-first}
use Rattle.nl_cleaner.proofs.choice.oldest.Goals as goal

pub returns : goal.returns
returns c = subst (AreFirst c.args.most c.args.found.items) (sym c.truncate.ensures.items)
    (are-first c.args.most c.args.found.items c.in_ok-chosen.chosen.items c.in_ok-chosen.ensures.order
    c.in_ok-chosen.ensures.those)
