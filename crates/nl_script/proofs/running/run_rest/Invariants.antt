use Rattle.std.proofs.Common.{◌≡◌, ◌≤◌, ◌+◌, ◌++◌, List, take, length, vec_len}
use Rattle.std.specs.Prelude.{vec_capacity}
use Rattle.nl_types.specs.Plain.Runs.{Run}
use Rattle.nl_types.specs.Plain.Worlds.{Reply}
use Rattle.nl_script.proofs.running.run_rest.Given as goal

abbrev pub invariant-loop-event : goal.invariant-loop-event
invariant-loop-event g l = record {
  count : vec_len l.replies ≡ vec_len l.fn.replies + l.event-index;
  room : vec_len l.fn.replies + length l.rest ≤ vec_capacity l.replies;
  so_far : (done : List Reply) × (l.replies.items ≡ l.fn.replies.items ++ done)
      × Run g.V.Volume.habits.does l.fn.volume (take l.event-index l.rest) done l.volume;
}
