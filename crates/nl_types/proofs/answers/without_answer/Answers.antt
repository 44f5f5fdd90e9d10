use Rattle.nl_types.proofs.answers.without_answer.Goals as goal

pub returns : goal.returns
returns c = (c.in_ok-reply.field-0, c.in_ok-reply.was)
