use Rattle.std.proofs.Common.{ap, subst}
use Rattle.std.specs.Option.{is_some}
use Rattle.nl_types.specs.Blocks.Roots.{Pages}
use Rattle.nl_layout.specs.Root.{root_of}
use Rattle.nl_check.specs.Shapes.{Itself, Of}
use Rattle.nl_check.specs.Private.ChangedFiles.{IsFileMet, IsWholeFile}
use Rattle.nl_check.specs.Facts.Below.{found-at}
use Rattle.nl_check.proofs.StepPlaces.{met-all, turn-of, was-root}
use Rattle.nl_check.proofs.beside.meet_all.Goals as goal

pub meet_file-requires-clause-before : goal.meet_file-requires-clause-before
meet_file-requires-clause-before g c = c.requires.before Itself

pub meet_files-requires-clause-before : goal.meet_files-requires-clause-before
meet_files-requires-clause-before g c = λ f contained.
    let pages : Pages = g.V.VRead.pages c.args.store.now in
    subst (IsWholeFile pages)
    (was-root pages (root_of c.args.before) (root_of c.args.now) c.args.files.now c.requires.listed f
    contained)
    (c.requires.before (Of f.number))

pub returns-then-branch-clause-yes : goal.returns-then-branch-clause-yes
returns-then-branch-clause-yes g c =
    let pages : Pages = g.V.VRead.pages c.args.store.now in
    let m =
    found-at (IsFileMet pages (root_of c.args.before) (root_of c.args.now) c.args.met.now c.meet_file.new.met)
    c.in_ok-count.field-0 c.in-Some.count c.in_ok-count.ensures.yes c.in-Some.is in
    let files = c.in_ok-meet_files.ensures.yes c.if-branch.true in
    record {
      met =
          met-all pages (root_of c.args.before) (root_of c.args.now) c.args.files.now c.requires.listed
          c.args.met.now c.meet_file.new.met c.meet_files.new.met m.met files.met;
      itself = m.file;
      sized = m.sized;
      sound = λ f contained.
          files.sound contained.0 f contained.1
          (turn-of pages (root_of c.args.before) (root_of c.args.now) c.args.files.now c.requires.listed f
          contained);
    }

pub returns-then-branch-clause-told : goal.returns-then-branch-clause-told
returns-then-branch-clause-told g c = λ _ start told.
    c.in_ok-meet_files.ensures.told c.if-branch.true start
    (c.in_ok-count.ensures.told (ap is_some c.in-Some.is) start told)
