use Rattle.std.proofs.Common.{◌≡◌, ℕ, length}
use Rattle.std.specs.List.{AllByRecursion}
use Rattle.std.specs.Vec.Iter.{into_iter_items, into_iter_len}
use Rattle.nl_types.specs.Blocks.Segments.{StaysUsed, AreTidy}
use Rattle.nl_types.specs.Blocks.Placing.{AreNextLogs, with_logs}
use Rattle.nl_vstore.specs.Content.{SpaceContent, KeepsUsed, IsSameAt}
use Rattle.nl_vstore.specs.Appended.{IsOutside}
use Rattle.nl_segwriter.specs.Private.Staging.{IsReady, logs_of}
use Rattle.nl_segwriter.specs.Writing.{space_content, LogsStand, BreaksOff}
use Rattle.nl_segwriter.proofs.log_space.LogSpace.write_logs.Given as goal

-- what goes on from here with the logs that are left goes on from the start with all logs
abbrev pub invariant-loop-staged : goal.invariant-loop-staged
invariant-loop-staged g l =
    let device = g.D.Device in
    let rest = into_iter_items l.staged-iterator in
    let all = l.fn.all.items in
    let start = l.fn.self in
    let before = space_content start.table start.payload (device.pages start.device) in
    let now = space_content l.self.table l.self.payload (device.pages l.self.device) in
    record {
      can : (goal.iterator-loop-staged g).can_next l.staged-iterator;
      finite : (goal.iterator-loop-staged g).is_finite l.staged-iterator;
      goes : (goal.iterator-loop-staged g).can_next l.staged-iterator;
      long : into_iter_len l.staged-iterator ≡ length rest;
      size : l.self.table.blocks ≡ start.table.blocks;
      tidy : AreTidy l.self.table;
      next : AreNextLogs l.self.table l.now (logs_of rest);
      ready : AllByRecursion IsReady rest;
      stamps : AllByRecursion (λ x. x.stamp ≡ l.now) rest;
      table : with_logs l.self.table (logs_of rest) l.now ≡ with_logs start.table (logs_of all) l.now;
      broken : (later : SpaceContent) → KeepsUsed l.self.table now later → BreaksOff l.now rest now later
          → BreaksOff l.now all before later;
      unfailed : device.failed l.self.device ≡ device.failed start.device;
      used_stay : KeepsUsed start.table before now;
      stays : StaysUsed start.table l.self.table;
      others : (b : ℕ) → AllByRecursion (IsOutside start.table.blocks b) (logs_of all)
          → AllByRecursion (IsOutside start.table.blocks b) (logs_of rest) × IsSameAt before now b;
      stand : (later : SpaceContent) → KeepsUsed l.self.table now later
          → LogsStand start.table.blocks rest later.held later.stored
          → LogsStand start.table.blocks all later.held later.stored;
    }
