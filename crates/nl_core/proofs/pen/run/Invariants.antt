use Rattle.std.proofs.Common.{◌≡◌, ◌≤◌, take, length, vec_len}
use Rattle.std.specs.Prelude.{vec_capacity}
use Rattle.nl_types.specs.Plain.Runs.{Run}
use Rattle.nl_commit.specs.Layout.{Does, unshared}
use Rattle.nl_core.proofs.pen.run.Given as goal

abbrev pub invariant-loop-event : goal.invariant-loop-event
invariant-loop-event g l = record {
  count : vec_len l.replies ≡ l.event-index;
  room : length l.events ≤ vec_capacity l.replies;
  so_far : Run (Does unshared) l.fn.pen (take l.event-index l.events) l.replies.items l.pen;
}
