use Rattle.std.proofs.Common.{◌≡◌, None}
use Rattle.nl_script.specs.Scripts.{IsRunSoFar}
use Rattle.nl_script.proofs.runner.Runner.script.Given as goal

abbrev pub invariant-loop-number : goal.invariant-loop-number
invariant-loop-number g l = record {
  fine : l.done.failed ≡ None;
  config : l.self.config ≡ l.fn.self.config;
  so_far : IsRunSoFar g.V.Volume.habits l.fn.self.config l.fn.moment l.fn.self.volume l.self.volume l.done
      l.number (g.I.Read.remaining l.fn.input) (g.I.Read.remaining l.input)
      (g.O.Write.contents l.fn.output) (g.O.Write.contents l.output);
}
