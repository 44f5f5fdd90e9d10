use Rattle.std.proofs.Common.{length, subst}
use Rattle.std.proofs.lemmas.Result.{on_ok_weaker}
use Rattle.nl_types.specs.Blocks.Roots.{Pages}
use Rattle.nl_layout.specs.Root.{root_of}
use Rattle.nl_check.specs.Shapes.{At, Itself, Of}
use Rattle.nl_blocktree.specs.FileShapes.{HasShape}
use Rattle.nl_check.specs.Private.BesideTrees.{HasLeft, TellsOn}
use Rattle.nl_check.specs.Private.ChangedFiles.{IsLost, IsLostIn, StandsOf}
use Rattle.nl_check.proofs.StepPlaces.{left-all, was-root}
use Rattle.nl_check.proofs.beside.leave_all.Goals as goal

pub leave_file-requires-clause-shape : goal.leave_file-requires-clause-shape
leave_file-requires-clause-shape g c = let w = c.requires.before Itself in w.shape

pub leave_files-requires-clause-shape : goal.leave_files-requires-clause-shape
leave_files-requires-clause-shape g c = λ f contained.
    let pages : Pages = g.V.VRead.pages c.args.store.now in
    let w = c.requires.before (Of f.number) in
    subst (HasShape pages)
    (was-root pages (root_of c.args.before) (root_of c.args.now) c.args.files.now c.requires.listed f
    contained)
    w.shape

pub returns-clause-left : goal.returns-clause-left
returns-clause-left g c =
    let pages : Pages = g.V.VRead.pages c.args.store.now in
    on_ok_weaker
    {P = HasLeft At (StandsOf (IsLostIn pages) c.args.files.now (length c.args.files.now))
    c.leave_file.new.met
    c.leave_files.new.met}
    {Q = HasLeft At (IsLost pages (root_of c.args.before) (root_of c.args.now)) c.args.met.now
    c.leave_files.new.met}
    c.leave_files.result
    (λ files.
    left-all pages (root_of c.args.before) (root_of c.args.now) c.args.files.now c.requires.listed
    c.args.met.now
    c.leave_file.new.met c.leave_files.new.met c.in_ok-leave_file.ensures.left files)
    c.leave_files.ensures.left

pub returns-clause-told : goal.returns-clause-told
returns-clause-told g c =
    on_ok_weaker
    {P = TellsOn c.leave_file.new.met c.leave_file.new.changed.items c.leave_files.new.met
    c.leave_files.new.changed.items}
    {Q = TellsOn c.args.met.now c.args.changed.now.items c.leave_files.new.met
    c.leave_files.new.changed.items}
    c.leave_files.result (λ files start told. files start (c.in_ok-leave_file.ensures.told start told))
    c.leave_files.ensures.told
