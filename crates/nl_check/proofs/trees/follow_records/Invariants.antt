use Rattle.std.proofs.Common.{◌≡◌, ◌+◌, ◌≤◌, ℕ, Some, length}
use Rattle.std.specs.List.{slice_get}
use Rattle.nl_tree.specs.Held.{Holding, IsHolding}
use Rattle.nl_check.specs.Private.Naming.{IsNaming, awaited_count, records_in}
use Rattle.nl_check.proofs.trees.follow_records.Given as goal

abbrev pub invariant-loop-record : goal.invariant-loop-record
invariant-loop-record l = record {
  grows : length l.initial.queue.items ≤ length l.queue.items;
  fewer : length l.queue.items + awaited_count l.awaited
      ≤ length l.initial.queue.items + awaited_count l.initial.awaited;
  turn : (done d : ℕ) → slice_get l.initial.queue.items done ≡ Some d → slice_get l.queue.items done ≡ Some d;
  naming : (held : Holding) (done d : ℕ) → IsHolding held → slice_get l.initial.queue.items done ≡ Some d
      → records_in (held d) ≡ l.records
      → IsNaming held l.initial.queue.items done 0 l.initial.awaited
      → IsNaming held l.queue.items done l.record-index l.awaited;
}
