use Rattle.std.proofs.Common.{ap, ◌∙◌}
use Rattle.nl_cleaner.specs.Job.{first_done}
use Rattle.nl_cleaner.proofs.Found.{advanced}
use Rattle.nl_cleaner.proofs.job.Job.advance.Goals as goal

pub returns-then-self-len : goal.returns-then-self-len
returns-then-self-len c =
    let job = c.self.inside in
    advanced job.stage job.moment job.period job.victims.items job.done ∙ ap first_done c.self.view_is
