use Rattle.std.proofs.Common.{◌≡◌}
use Rattle.nl_tree.specs.Shown.{if_true, key_alone, shown_entries}
use Rattle.nl_tree.proofs.overlay.Overlay.first_freed.Given as goal

-- none of the numbers so far is to be given
abbrev pub invariant-loop-number : goal.invariant-loop-number
invariant-loop-number l =
    shown_entries key_alone if_true l.number-iterator
    ≡ shown_entries key_alone if_true l.fn.self.freed.entries
