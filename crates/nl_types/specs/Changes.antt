-- Changes by what they do at a path.
use Rattle.std.specs.Prelude.{ℕ, List}
use Rattle.nl_types.specs.declared.event.Change.{Change}
use Rattle.nl_types.specs.declared.event.Change.TheVariants as change
use Rattle.nl_types.specs.declared.changes.PathCall.{PathCall}
use Rattle.nl_types.specs.declared.changes.PathCall.TheVariants as call

abbrev pub change_at : PathCall → List ℕ → Change
change_at call.Create path = change.Create path
change_at call.Mkdir path = change.Mkdir path
change_at (call.Truncate size) path = change.Truncate path size
change_at call.Unlink path = change.Unlink path
change_at call.Rmdir path = change.Rmdir path
