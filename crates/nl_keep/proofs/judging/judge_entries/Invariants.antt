use Rattle.std.proofs.Common.{◌≡◌, true, take}
use Rattle.std.specs.List.{list_all}
use Rattle.nl_keep.specs.Private.Judged.{is_entry}
use Rattle.nl_keep.proofs.judging.judge_entries.Given as goal

abbrev pub invariant-loop-entry : goal.invariant-loop-entry
invariant-loop-entry l = list_all is_entry (take l.entry-index l.entries) ≡ true
