use Rattle.std.proofs.Common.{◌≡◌, ◌+◌, drop}
use Rattle.nl_protect.specs.Configuration.{bytes_of, after_lines}
use Rattle.nl_protect.proofs.config.Config.parse.Given as goal

abbrev pub invariant-loop-line : goal.invariant-loop-line
invariant-loop-line l =
    (l.number ≡ l.line-index + 1)
    × (after_lines (bytes_of (drop l.line-index l.line-items)) l.number l.config
    ≡ after_lines (bytes_of l.line-items) 1 l.initial.config)
