use Rattle.std.proofs.Common.{refl}
use Rattle.std.proofs.lemmas.Result.{err_from_is_err_and}
use Rattle.nl_keep_pen.proofs.LookedAt.{file_there}
use Rattle.nl_keep_pen.proofs.opened.OpenedVolume.file.Goals as goal

pub returns-clause-read : goal.returns-clause-read
returns-clause-read c image of =
    file_there c.pens_of_one_image_mean_one_world.ensures image c.args.self.now.volume.pen of c.args.number
    c.args.path.now c.in_ok-bytes.bytes c.in_ok-judge_kept.ensures.kept c.in_ok-bytes.ensures.read

pub returns-in_err-bytes-clause-refused : goal.returns-in_err-bytes-clause-refused
returns-in_err-bytes-clause-refused c =
    let exits = c.from_residual-in_err-bytes in
    let p = err_from_is_err_and exits.result exits.ensures.1 in
    rw (p.1, p.2) (λ w copy bytes means kept is.
    c.in_err-bytes.ensures.refused copy.tree bytes (record {
      world = w;
      means = means;
      copy = copy;
      kept = kept;
      has = refl;
      is_tree = means.world.trees c.args.number copy kept;
    }) is)
