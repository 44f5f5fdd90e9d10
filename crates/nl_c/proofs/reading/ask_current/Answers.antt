use Rattle.nl_c.proofs.TreeReads.{read_answers, read_stays}
use Rattle.nl_c.proofs.reading.ask_current.Goals as goal

pub returns : goal.returns
returns c =
    let old = c.args.pen.now in
    let new = c.apply.new.self in
    record {
      same = read_stays old new c.args.ask c.apply.result c.apply.ensures;
      reply = read_answers old new c.args.ask c.apply.result c.apply.ensures;
    }
