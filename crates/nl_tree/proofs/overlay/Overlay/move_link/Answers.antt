use Rattle.std.proofs.Common.{◌==◌, List, Option, Some, ap, ◌∙◌}
use Rattle.std.specs.Prelude.{cond}
use Rattle.nl_dirs.specs.declared.record.Record.{Record}
use Rattle.nl_tree.specs.Held.{Held, Listed}
use Rattle.nl_tree.specs.Overlays.{HasName}
use Rattle.nl_tree.specs.Records.{with_record, without_record}
use Rattle.nl_tree.specs.Facts.Places.{name_left}
use Rattle.nl_tree.proofs.overlay.Overlay.move_link.Goals as goal

pub link-requires : goal.link-requires
link-requires c =
    let all = c.requires.0 in
    let others = c.requires.1 in (
      cond (c.args.found.now.target.directory == c.args.found.now.directory)
          (without_record c.args.found.now.name.now all) others,
      name_left c.args.self.now c.unlink.new.self c.args.found.now.directory c.args.found.now.target.directory
          all others c.args.found.now.name.now c.args.found.now.target.name.now
          c.requires.2.0 c.requires.2.1 c.unlink.ensures.others c.unlink.ensures.names,
    )

pub returns-clause-shown : goal.returns-clause-shown
returns-clause-shown c = λ all others has b i.
    let r : Record = record {
      name = c.args.found.now.target.name.now;
      inode = c.args.found.now.link.0;
      kind = c.args.found.now.link.1;
    } in
    let left : List Record =
    cond (c.args.found.now.target.directory == c.args.found.now.directory)
    (without_record c.args.found.now.name.now all) others in
    let named : HasName c.unlink.new.self c.args.found.now.target.directory left
    c.args.found.now.target.name.now =
    name_left c.args.self.now c.unlink.new.self c.args.found.now.directory c.args.found.now.target.directory
    all others c.args.found.now.name.now c.args.found.now.target.name.now
    has.0 has.1 c.unlink.ensures.others c.unlink.ensures.names in
    c.link.ensures.shown left named b i
    ∙ ap (λ (h : Option Held).
    cond (i == c.args.found.now.target.directory) (Some (Listed (with_record r left))) h)
    (c.unlink.ensures.shown all has.0 b i)
