use Rattle.std.proofs.Common.{◌∙◌, refl}
use Rattle.nl_script.proofs.ScriptRuns.{ends-unread, run-start, turn-ends, turn-goes-on}
use Rattle.nl_script.proofs.runner.Runner.script.Goals as goal

pub loop-number-init : goal.loop-number-init
loop-number-init g c =
    let self = c.args.self.now in
    record {
      fine = refl;
      config = refl;
      so_far =
          run-start g.V.Volume.habits self.config c.args.moment self.volume
          (g.I.Read.remaining c.args.input)
          g.O.Write.contents c.args.output.now _ refl refl refl;
    }

pub returns-then-not-run_next : goal.returns-then-not-run_next
returns-then-not-run_next g c =
    let l = c.loop-number in
    let self = c.args.self.now in
    turn-ends g.V.Volume.habits self.config c.args.moment self.volume (g.I.Read.remaining c.args.input)
    g.O.Write.contents c.args.output.now
    l.self.volume l.done l.number (g.I.Read.remaining l.input) l.output l.invariant.so_far l.invariant.fine
    c.run_next.new.self.volume c.run_next.new.done c.run_next.result
    (g.I.Read.remaining c.run_next.new.input) c.run_next.new.output
    l.self.config l.invariant.config c.run_next.ensures.done c.loop-number-test.true c.if-not-run_next.true

pub loop-number-preserved : goal.loop-number-preserved
loop-number-preserved g c =
    let l = c.loop-number in
    let self = c.args.self.now in
    let more =
    turn-goes-on g.V.Volume.habits self.config c.args.moment self.volume (g.I.Read.remaining c.args.input)
    g.O.Write.contents c.args.output.now
    l.self.volume l.done l.number (g.I.Read.remaining l.input) l.output l.invariant.so_far l.invariant.fine
    c.run_next.new.self.volume c.run_next.new.done c.run_next.result
    (g.I.Read.remaining c.run_next.new.input) c.run_next.new.output
    l.self.config l.invariant.config c.run_next.ensures.done c.loop-number-test.true
    c.if-not-run_next.false in
    record { fine = more.1; config = c.run_next.ensures.config ∙ l.invariant.config; so_far = more.0 }

pub returns : goal.returns
returns g c =
    let l = c.loop-number in
    let self = c.args.self.now in
    ends-unread g.V.Volume.habits self.config c.args.moment self.volume (g.I.Read.remaining c.args.input)
    g.O.Write.contents c.args.output.now
    l.self.volume l.done l.number
    (g.I.Read.remaining l.input) l.output l.invariant.so_far l.invariant.fine l.output refl
