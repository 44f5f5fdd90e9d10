use Rattle.std.proofs.Common.{◌≡◌, drop}
use Rattle.nl_words.specs.Coming.{latest_stamp}
use Rattle.nl_words.proofs.copying.latest_stamp.Given as goal

abbrev pub invariant-loop-kept : goal.invariant-loop-kept
invariant-loop-kept l = latest_stamp l.latest (drop l.kept-index l.rows) ≡ latest_stamp 0 l.rows
