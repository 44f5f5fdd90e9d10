use Rattle.std.proofs.Common.{ap, inr}
use Rattle.nl_types.specs.declared.event.Ask.TheVariants as ask
use Rattle.nl_folders.specs.declared.folder.FolderError.TheVariants.{Refused}
use Rattle.nl_keep.proofs.TreeReads.{refused_is_missing}
use Rattle.nl_keep.proofs.trees.judge_kept.Goals as goal

pub returns-in-Err-clause-refused : goal.returns-in-Err-clause-refused
returns-in-Err-clause-refused g c w means =
    let missing =
    refused_is_missing c.args.number (ask.Stat c.in_ok-path.path) c.read_at-reply.result c.in-Err.error w
    (g.met.V.Volume.sound c.args.volume.now w means) (ap ask.Stat c.in_ok-path.ensures)
    (c.read_at-reply.ensures w means) c.in-Err.is in
    inr (ap Refused missing.0, missing.1)
