use Rattle.std.proofs.Common.{◌≡◌, ◌≤◌, ◌++◌, replicate, string_bytes}
use Rattle.nl_commands.proofs.help.write_blanks.Given as goal

abbrev pub invariant-loop : goal.invariant-loop
invariant-loop l = record {
  within : l.counter ≤ l.count;
  written : string_bytes l.text ≡ string_bytes l.fn.text ++ replicate l.counter 32;
}
