use Rattle.std.proofs.Common.{◌≡◌, Some, sym}
use Rattle.std.specs.Option.{option_map}
use Rattle.nl_types.specs.declared.kind.Kind.TheVariants as kind
use Rattle.nl_types.specs.Inodes.{Link}
use Rattle.nl_tree.specs.Private.PathParts.{parts_of}
use Rattle.nl_tree.proofs.RenamesJudged.{parts_of-last, source-above, source-none, source-refused}
use Rattle.nl_tree.proofs.renaming.find_source.Goals as goal

pub returns-in-Err : goal.returns-in-Err
returns-in-Err g c = λ held h.
    let to = parts_of-last c.args.target_names.now in
    source-refused held (parts_of c.args.names.now)
    (parts_of c.args.target_names.now) to.0 to.1 c.in-Err.e to.2 (c.in-Err.ensures held h)

pub returns-in-None-default : goal.returns-in-None-default
returns-in-None-default g c = λ held h.
    let to = parts_of-last c.args.target_names.now in
    source-none held (parts_of c.args.names.now) (parts_of c.args.target_names.now) to.0 to.1 to.2
    c.in-Ok.place.directory c.in-Ok.place.name.now (rw c.in-None-default.is-0 at (c.in-Ok.ensures held h))

pub returns-in-Some-default-Directory-true : goal.returns-in-Some-default-Directory-true
returns-in-Some-default-Directory-true g c = λ held h.
    let to = parts_of-last c.args.target_names.now in
    let is : option_map (λ (link : Link). link.1) c.in-Ok.place.link ≡ Some kind.Directory = cc in
    source-above held (parts_of c.args.names.now) (parts_of c.args.target_names.now) to.0 to.1 to.2
    c.in-Ok.place.directory c.in-Ok.place.name.now c.in-Ok.place.link (c.in-Ok.ensures held h)
    is (sym c.in-Some-default-Directory-true.ensures)
