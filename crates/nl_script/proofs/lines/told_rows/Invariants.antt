use Rattle.std.proofs.Common.{◌≡◌, ◌≤◌, vec_len, take}
use Rattle.std.specs.Prelude.{vec_capacity}
use Rattle.nl_script.specs.Lines.{rows_from}
use Rattle.nl_script.proofs.lines.told_rows.Given as goal

abbrev pub invariant-loop-segment : goal.invariant-loop-segment
invariant-loop-segment g l = record {
  counted : vec_len l.rows ≡ l.segment;
  within : l.segment ≤ l.count;
  room : l.count ≤ vec_capacity l.rows;
  so_far : l.rows.items
      ≡ rows_from l.long (g.P.NotingPen.layout l.pen) 0
      (take l.segment (g.P.NotingPen.layout l.pen).store.segments.each);
}
