use Rattle.nl_commands.proofs.OneSplitting.{one_list, open_has_none}
use Rattle.nl_commands.proofs.laws.words_are_one_list.Goals as goal

pub returns-clause-one : goal.returns-clause-one
returns-clause-one c = λ text words others are also.
    one_list words others text are.0 also.0 are.1 are.2 also.1 also.2

pub returns-clause-open : goal.returns-clause-open
returns-clause-open c = λ text words are opens.
    open_has_none words opens.0 text are.0 opens.1 opens.2 are.1 are.2 opens.3 opens.4 opens.5
