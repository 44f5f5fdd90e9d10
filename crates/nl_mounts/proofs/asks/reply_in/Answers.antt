use Rattle.nl_mounts.proofs.Looking.{of_tree}
use Rattle.nl_mounts.proofs.asks.reply_in.Goals as goal

pub returns-in-Some : goal.returns-in-Some
returns-in-Some c =
    of_tree _ c.args.tree c.in-Some.tree _ _ c.in-Some.is
    (λ t means. c.answer.ensures means.held t (c.new.ensures means.held means.holds) means.means)
