use Rattle.nl_types.specs.Blocks.Roots.{Pages}
use Rattle.nl_layout.specs.Root.{root_of}
use Rattle.nl_check.specs.declared.shape.Walk.{Walk}
use Rattle.nl_check.specs.Facts.Below.{found-at, refused-at}
use Rattle.nl_check.proofs.KnownInodes.{known-first, walk-of}
use Rattle.nl_check.proofs.WalkedFiles.{first-can}
use Rattle.nl_check.proofs.shape.walk_checkpoint.Goals as goal

pub returns-in_default-clause-no : goal.returns-in_default-clause-no
returns-in_default-clause-no g c = λ _ s.
    let pages : Pages = g.V.VRead.pages c.args.store.now in
    refused-at _ c.walk.result c.walk.ensures.no c.in_default.not-Ok
    (first-can pages (root_of c.args.root.now) c.args.found.now.met c.requires.none_met s)

pub walk_inodes-requires-clause-known : goal.walk_inodes-requires-clause-known
walk_inodes-requires-clause-known g c =
    let pages : Pages = g.V.VRead.pages c.args.store.now in
    known-first pages
    (root_of c.args.root.now) c.args.found.now.met c.walk.new.met c.in-Ok.count c.args.found.now.kinds
    c.requires.none_met
    c.in-Ok.ensures.yes c.requires.none_told

pub returns-in-Some-clause-yes : goal.returns-in-Some-clause-yes
returns-in-Some-clause-yes g c =
    let walk : Walk = record { count = c.in-Ok.count; sound = c.in-Some.sound } in
    let found = found-at _ c.in_ok-sound.field-0 c.in-Some.sound c.in_ok-sound.ensures.yes c.in-Some.is in
    walk-of (g.V.VRead.pages c.args.store.now)
    (root_of c.args.root.now) walk c.args.found.now.met c.walk.new.met c.walk_inodes.new.found.met
    c.walk_inodes.new.found.kinds
    c.in-Ok.ensures.yes found.1 found.0
