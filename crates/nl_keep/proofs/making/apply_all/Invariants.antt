use Rattle.std.specs.Vec.Iter.{into_iter_items}
use Rattle.nl_keep.proofs.Calls.{GoOn}
use Rattle.nl_keep.specs.Volumes.{LeadsTo}
use Rattle.nl_keep.proofs.making.apply_all.Given as goal

abbrev pub invariant-loop-call : goal.invariant-loop-call
invariant-loop-call g l =
    (goal.iterator-loop-call g).can_next l.call-iterator × (goal.iterator-loop-call g).is_finite l.call-iterator
    × LeadsTo (GoOn l.fn.calls (into_iter_items l.call-iterator)) (g.V.Volume.means l.initial.volume)
    (g.V.Volume.means l.volume)
