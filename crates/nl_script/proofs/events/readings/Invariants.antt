use Rattle.std.proofs.Common.{◌≡◌, map, take}
use Rattle.nl_script.specs.Events.{reading}
use Rattle.nl_script.proofs.events.readings.Given as goal

-- the events so far are the reads of the paths so far
abbrev pub invariant-loop-path : goal.invariant-loop-path
invariant-loop-path l = l.events.items ≡ map (reading l.mount) (take l.path-index l.paths)
