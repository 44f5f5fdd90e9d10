use Rattle.std.proofs.Common.{refl}
use Rattle.std.proofs.lemmas.Result.{err_from_is_err_and}
use Rattle.nl_types.specs.declared.event.Ask.TheVariants as ask
use Rattle.nl_folders.specs.Spelled.{spelling}
use Rattle.nl_keep.proofs.ReadRefusals.{bytes_refused, kept_replies, read_named}
use Rattle.nl_keep.proofs.TreeReads.{file_stands}
use Rattle.nl_keep.proofs.checkpoint_folder.CheckpointFolder.judge_file.Goals as goal

pub returns-clause-file : goal.returns-clause-file
returns-clause-file g c tree shown =
    file_stands c.args.self.now.number c.args.path.now 0 c.in_ok-ask.ask c.read_at.result c.in_ok-bytes_of.field-0
    (g.V.Volume.means c.args.self.now.volume.now) (c.in_ok-ask.ensures.names refl) c.in_ok-ask.ensures.asked
    c.read_at.ensures c.in_ok-bytes_of.ensures.bytes tree shown

pub returns-in_err-bytes_of-clause-refused : goal.returns-in_err-bytes_of-clause-refused
returns-in_err-bytes_of-clause-refused g c =
    let exits = c.from_residual-in_err-bytes_of in
    let p = err_from_is_err_and exits.result exits.ensures.1 in
    rw (p.1, p.2) (λ tree bytes shown is.
    let replies =
    kept_replies c.args.self.now.number c.in_ok-ask.ask (ask.Bytes (spelling c.args.path.now) 0 0) c.read_at.result tree
    (g.V.Volume.means c.args.self.now.volume.now) c.in_ok-ask.ensures.asked c.read_at.ensures shown in
    bytes_refused c.args.path.now 0 tree bytes c.read_at.result c.in_err-bytes_of.field-0.0
    (read_named tree c.args.path.now bytes shown.is_tree is) is replies c.in_err-bytes_of.ensures.other
    c.in_err-bytes_of.ensures.refused)
