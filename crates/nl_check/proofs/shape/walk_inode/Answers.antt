use Rattle.std.proofs.Common.{◌∙◌, ◌+◌, subst}
use Rattle.nl_types.specs.Blocks.Roots.{Pages}
use Rattle.nl_layout.specs.Root.{root_of}
use Rattle.nl_check.specs.Private.Walks.{AreKnown}
use Rattle.nl_check.specs.Facts.Below.{both-first, both-second, none-from, refused-at}
use Rattle.nl_check.proofs.KnownInodes.{known-can, known-more, known-none, measured}
use Rattle.nl_check.proofs.shape.walk_inode.Goals as goal

pub returns-in_default-clause-yes : goal.returns-in_default-clause-yes
returns-in_default-clause-yes g c = λ root at k.
    known-none (g.V.VRead.pages c.args.store.now) root c.args.number c.args.inode c.args.found.now.met
    c.args.found.now.kinds c.args.sound
    (none-from c.args.inode c.in_default.not-Some) at k

pub returns-in_default-walk-clause-no : goal.returns-in_default-walk-clause-no
returns-in_default-walk-clause-no g c = λ _ root at k s.
    let pages : Pages = g.V.VRead.pages c.args.store.now in
    refused-at _ c.walk.result c.walk.ensures.no c.in_default-walk.not-Ok
    (known-can pages root c.args.number c.in-Some.inode c.args.inode c.args.found.now.met c.args.found.now.kinds
    c.args.sound c.in-Some.is at k s)

pub is_sound_inode-requires : goal.is_sound_inode-requires
is_sound_inode-requires g c =
    let pages : Pages = g.V.VRead.pages c.args.store.now in
    measured pages (root_of c.in-Some.inode.root) c.args.found.now.met c.walk.new.met c.in-Ok.count
    c.in-Ok.ensures.yes

pub returns-then-sound-clause-yes : goal.returns-then-sound-clause-yes
returns-then-sound-clause-yes g c = λ root at k.
    let pages : Pages = g.V.VRead.pages c.args.store.now in
    subst (AreKnown pages root (c.args.number + 1) c.walk.new.met c.note.new.self)
    (both-second c.args.sound c.in_ok-is_sound.is_sound c.if-sound.true)
    (known-more pages root c.args.number c.in-Ok.count c.in-Some.inode c.args.inode c.args.found.now.met
    c.walk.new.met c.args.found.now.kinds c.note.new.self c.args.sound
    c.in_ok-is_sound.is_sound c.in-Some.is c.in-Ok.ensures.yes c.note.ensures.count
    (λ low. c.note.ensures.here low ∙ c.kind_of.ensures) c.note.ensures.others
    c.in_ok-is_sound.ensures.yes c.in_ok-is_sound.ensures.no at k)

pub returns-else-sound-clause-yes : goal.returns-else-sound-clause-yes
returns-else-sound-clause-yes g c = λ root at k.
    let pages : Pages = g.V.VRead.pages c.args.store.now in
    subst (AreKnown pages root (c.args.number + 1) c.walk.new.met c.note.new.self)
    (both-first c.args.sound c.in_ok-is_sound.is_sound c.if-sound.false)
    (known-more pages root c.args.number c.in-Ok.count c.in-Some.inode c.args.inode c.args.found.now.met
    c.walk.new.met c.args.found.now.kinds c.note.new.self c.args.sound
    c.in_ok-is_sound.is_sound c.in-Some.is c.in-Ok.ensures.yes c.note.ensures.count
    (λ low. c.note.ensures.here low ∙ c.kind_of.ensures) c.note.ensures.others
    c.in_ok-is_sound.ensures.yes c.in_ok-is_sound.ensures.no at k)
