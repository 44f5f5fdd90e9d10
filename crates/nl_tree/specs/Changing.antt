-- Which inodes and blocks a file call changes.
use Rattle.nl_types.specs.declared.event.Change.{Change}
use Rattle.nl_types.specs.declared.event.Change.TheVariants.{Create, Mkdir, Write, Truncate, Unlink, Rmdir, Rename}
use Rattle.nl_types.specs.declared.kind.Kind.TheVariants as kind
use Rattle.nl_tree.specs.CurrentTrees.{HasCreated, HasRemoved, HasRenamed, HasTruncated, HasOverwrittenAny}
use Rattle.nl_tree.specs.Held.{Holding}

-- what inodes hold changes as the call says
abbrev pub HasChangedHolding : Change → Holding → Holding → Type 0
HasChangedHolding (Create path) old new = HasCreated path kind.File old new
HasChangedHolding (Mkdir path) old new = HasCreated path kind.Directory old new
HasChangedHolding (Write path offset bytes) old new = HasOverwrittenAny path offset bytes old new
HasChangedHolding (Truncate path size) old new = HasTruncated path size old new
HasChangedHolding (Unlink path) old new = HasRemoved path kind.File old new
HasChangedHolding (Rmdir path) old new = HasRemoved path kind.Directory old new
HasChangedHolding (Rename from to) old new = HasRenamed from to old new
