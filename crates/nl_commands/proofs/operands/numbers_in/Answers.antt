use Rattle.std.proofs.Common.{◌∙◌, ap, ℕ, Ok}
use Rattle.nl_commands.specs.NumberWords.{number_in}
use Rattle.nl_commands.proofs.WordLists.{turn}
use Rattle.nl_commands.proofs.operands.numbers_in.Goals as goal

pub loop-word-preserved : goal.loop-word-preserved
loop-word-preserved c =
    turn number_in c.args.words.now c.loop-word.word-index c.loop-word.numbers c.push.new.self c.new.result
    c.loop-word-test.true
    (ap (λ (n : ℕ). Ok n) c.new.ensures ∙ c.in_ok-number.ensures) c.in_ok-push.ensures.ok
    c.loop-word.invariant
