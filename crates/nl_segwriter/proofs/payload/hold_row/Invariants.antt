use Rattle.std.proofs.Common.{◌≡◌, ℕ, ◌+◌, ◌<◌, ◌≤◌, length}
use Rattle.std.specs.Prelude.{slice_get}
use Rattle.std.specs.Vec.Iter.{into_iter_items, into_iter_len}
use Rattle.nl_vstore.specs.Content.{SameOutside}
use Rattle.nl_segwriter.specs.Writing.{held_in}
use Rattle.nl_segwriter.proofs.payload.hold_row.Given as goal

-- the payload so far stands, and the iterator has what is behind it
abbrev pub invariant-loop-item : goal.invariant-loop-item
invariant-loop-item l =
    let rest = into_iter_items l.item-iterator in
    record {
      long : into_iter_len l.item-iterator ≡ length rest;
      count : l.number + length rest ≡ l.first + length l.fn.payload;
      low : l.first ≤ l.number;
      size : length l.table ≡ length l.fn.table;
      others : SameOutside l.first (length l.fn.payload) (held_in l.fn.table) (held_in l.table);
      stand : (j : ℕ) → l.first + j < l.number → held_in l.table (l.first + j) ≡ slice_get l.fn.payload j;
      rest : (j k : ℕ) → l.first + j ≡ l.number + k → slice_get rest k ≡ slice_get l.fn.payload j;
    }
