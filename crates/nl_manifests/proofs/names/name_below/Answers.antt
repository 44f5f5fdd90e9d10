use Rattle.std.proofs.Common.{◌∙◌, ap, length}
use Rattle.std.proofs.lemmas.List.{take_rest}
use Rattle.nl_manifests.specs.Private.Sealing.{only_name}
use Rattle.nl_manifests.proofs.HostLines.{below_only}
use Rattle.nl_manifests.proofs.names.name_below.Goals as goal

pub returns : goal.returns
returns c =
    let dir = c.args.directory.now in
    c.only_name.ensures ∙ ap only_name (take_rest c.args.path.now (length dir))
    ∙ below_only dir c.args.path.now c.requires.within
