use Rattle.nl_keep_pen.proofs.KnownFiles.{answers_known}
use Rattle.nl_keep_pen.proofs.comparing.SameFilesKnowledge.is_known.Goals as goal

pub returns : goal.returns
returns g c =
    let known = c.args.self.now in
    answers_known known.volume.now.pen known.old known.new known.files c.args.path.now c.is_same_file.result
    c.is_same_file.ensures.exact
