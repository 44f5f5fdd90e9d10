use Rattle.nl_commands.specs.RangeWords.{range_in}
use Rattle.nl_commands.proofs.WordLists.{turn}
use Rattle.nl_commands.proofs.operands.ranges_in.Goals as goal

pub loop-word-preserved : goal.loop-word-preserved
loop-word-preserved c =
    turn range_in c.args.words.now c.loop-word.word-index c.loop-word.ranges c.push.new.self
    c.in_ok-range.range
    c.loop-word-test.true c.in_ok-range.ensures c.in_ok-push.ensures.ok c.loop-word.invariant
