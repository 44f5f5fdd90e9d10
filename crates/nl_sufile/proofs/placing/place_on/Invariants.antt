use Rattle.std.proofs.Common.{◌≡◌, ◌≤◌, ◌++◌, List}
use Rattle.std.specs.Option.{IfSome}
use Rattle.nl_types.specs.declared.segment.Log.{Log}
use Rattle.nl_types.specs.Blocks.Placing.{GoOn}
use Rattle.nl_sufile.proofs.placing.place_on.Given as goal

-- what the logs so far and those that go on from here are is what goes on from the start
abbrev pub invariant-loop-rest : goal.invariant-loop-rest
invariant-loop-rest l = record {
  inside : IfSome l.left (λ place. place.block ≤ l.blocks);
  onward : (tail : List Log) → GoOn l.blocks l.left l.free l.rest tail
      → GoOn l.blocks l.fn.left l.fn.free l.n (l.logs.items ++ tail);
  only : (all : List Log) → GoOn l.blocks l.fn.left l.fn.free l.n all
      → (tail : List Log) × (all ≡ l.logs.items ++ tail) × GoOn l.blocks l.left l.free l.rest tail;
}

abbrev pub decreases-loop-rest : goal.decreases-loop-rest
decreases-loop-rest l = l.rest
