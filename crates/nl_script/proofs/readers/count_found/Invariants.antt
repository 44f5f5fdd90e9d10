use Rattle.std.proofs.Common.{◌≡◌, ◌+◌, drop}
use Rattle.std.specs.List.{position_or_len}
use Rattle.nl_script.specs.FileReads.{is_bad_mount}
use Rattle.nl_script.proofs.readers.count_found.Given as goal

-- none so far
abbrev pub invariant-loop-index : goal.invariant-loop-index
invariant-loop-index l =
    l.index + position_or_len is_bad_mount (drop l.index l.replies) ≡ position_or_len is_bad_mount l.replies
