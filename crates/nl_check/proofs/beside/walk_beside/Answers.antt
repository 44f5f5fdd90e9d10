use Rattle.std.proofs.Common.{List, subst, sym}
use Rattle.nl_types.specs.Blocks.Roots.{Pages, Root}
use Rattle.nl_layout.specs.Root.{root_of}
use Rattle.nl_check.specs.Private.ChangedFiles.{AreAllListed, AreAllMet, IsWalkedBeside}
use Rattle.nl_check.specs.Facts.Below.{some-map}
use Rattle.nl_check.specs.declared.differing.ChangedFile.{ChangedFile}
use Rattle.nl_check.proofs.StepsBeside.{files-whole}
use Rattle.nl_check.proofs.TreesBeside.{walked-beside}
use Rattle.nl_check.proofs.beside.walk_beside.Goals as goal

pub leave_all-requires-clause-before : goal.leave_all-requires-clause-before
leave_all-requires-clause-before g c =
    files-whole (g.V.VRead.pages c.args.store.now) (root_of c.args.before) c.args.found.now.met c.requires.known

pub meet_all-requires-clause-before : goal.meet_all-requires-clause-before
meet_all-requires-clause-before g c =
    files-whole (g.V.VRead.pages c.args.store.now) (root_of c.args.before) c.args.found.now.met c.requires.known

pub returns-clause-yes : goal.returns-clause-yes
returns-clause-yes g c =
    let pages : Pages = g.V.VRead.pages c.args.store.now in
    let old : Root = root_of c.args.before in
    let new : Root = root_of c.args.now in
    let files = c.as_slice-files.result.now in
    let mid = c.leave_all.new.met in
    let met = c.meet_all.new.met in
    let listed : AreAllListed pages old new files =
    subst (AreAllListed pages old new) (sym c.as_slice-files.ensures.value)
    (c.in_ok-list_changed.ensures.yes c.if-not-branch.false) in
    some-map c.in_ok-count.count (AreAllMet pages old new files mid met)
    (IsWalkedBeside pages old new met c.args.found.now.kinds c.note_kinds.new.kinds
    c.list_changed.new.files.items)
    (λ count is.
    subst (λ (fs : List ChangedFile). IsWalkedBeside pages old new met c.args.found.now.kinds
    c.note_kinds.new.kinds fs count)
    c.as_slice-files.ensures.value
    (walked-beside pages old new c.args.found.now.met mid met c.args.found.now.kinds c.note_kinds.new.kinds files count
    c.requires.known listed c.in_ok-leave_all.ensures.left is c.note_kinds.ensures.count
    c.note_kinds.ensures.noted))
    c.in_ok-count.ensures.yes

pub returns-clause-told : goal.returns-clause-told
returns-clause-told g c = λ some start is.
    c.in_ok-count.ensures.told some start (c.in_ok-leave_all.ensures.told start is)
