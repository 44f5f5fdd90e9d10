use Rattle.std.proofs.Common.{◌≡◌, ℕ, ◌+◌, ◌<◌, ◌≤◌, length, None}
use Rattle.nl_vstore.specs.Content.{SameOutside}
use Rattle.nl_segwriter.specs.Writing.{held_in}
use Rattle.nl_segwriter.proofs.payload.drop_row.Given as goal

abbrev pub invariant-loop : goal.invariant-loop
invariant-loop l = record {
  at : l.number ≡ l.first + l.counter;
  size : length l.table ≡ length l.fn.table;
  inside : (b : ℕ) → l.first ≤ b → b < l.number → held_in l.table b ≡ None;
  outside : SameOutside l.first l.count (held_in l.fn.table) (held_in l.table);
}
