use Rattle.nl_publish.proofs.Lanes.{answers_set}
use Rattle.nl_publish.proofs.many.set_answer.Goals as goal

pub returns-then-index-answers : goal.returns-then-index-answers
returns-then-index-answers g c =
    answers_set c.args.mount.now c.args.jobs.now c.args.answers.now c.args.index c.args.answer
    c.requires.answers c.requires.placed
