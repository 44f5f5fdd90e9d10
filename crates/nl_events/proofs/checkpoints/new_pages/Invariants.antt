use Rattle.std.proofs.Common.{◌≡◌, map, take}
use Rattle.nl_vstore.specs.Batches.{births_of}
use Rattle.nl_commit.specs.Notes.{new_page}
use Rattle.nl_events.proofs.checkpoints.new_pages.Given as goal

abbrev pub invariant-loop-birth : goal.invariant-loop-birth
invariant-loop-birth l = l.pages.items ≡ map new_page (births_of (take l.birth-index l.births))
