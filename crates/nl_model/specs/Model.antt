-- The steps of the plain program.
use Rattle.std.specs.Prelude.{if◌then◌else◌, Ok, Err}
use Rattle.nl_types.specs.declared.event.Event.{Event}
use Rattle.nl_types.specs.declared.reply.Answer.TheVariants as answer
use Rattle.nl_types.specs.declared.reply.Object.{Object}
use Rattle.nl_types.specs.Plain.Paths.{Path, same_path}
use Rattle.nl_types.specs.Plain.Trees.{Tree, lookup, move_subtree}
use Rattle.nl_types.specs.Plain.Calls.{Changed, and_then, may_replace}
use Rattle.nl_types.specs.Plain.Worlds.{World, Reply, step, IsDoneUnlessMemory}

-- what a volume may answer to a move or a retirement
abbrev pub cleaned_by : Reply → Reply
cleaned_by (Ok (answer.Moved moved left)) = Ok (answer.Moved moved left)
cleaned_by (Ok (answer.Freed count)) = Ok (answer.Freed count)
cleaned_by (Ok other) = Ok answer.Done
cleaned_by (Err e) = Err e

-- each event is done as defined, unless memory ran out; moves and retirements answer as the volume did
abbrev pub ModelStep : World → Event × Reply → Reply → World → Type 0
ModelStep old event reply new = IsDoneUnlessMemory reply new old (step (cleaned_by event.1) old event.0)

-- a rename of what stands at a path, into a directory that stands
abbrev pub rename_onto : Tree → Path → Path → Object → Changed
rename_onto tree from to object =
    if same_path from to then Ok (answer.Done, tree) else (
    and_then (may_replace tree to object (lookup tree to)) (λ _.
    Ok (answer.Done, move_subtree tree from to)))
