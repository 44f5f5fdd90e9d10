use Rattle.std.proofs.Common.{◌≡◌, ◌++◌, drop}
use Rattle.std.specs.List.{filter}
use Rattle.nl_protect.specs.Configuration.{bytes_of, is_not_empty}
use Rattle.nl_protect.proofs.words.words_of.Given as goal

abbrev pub invariant-loop-part : goal.invariant-loop-part
invariant-loop-part l =
    bytes_of l.words.items ++ filter is_not_empty (bytes_of (drop l.part-index l.part-items))
    ≡ filter is_not_empty (bytes_of l.part-items)
