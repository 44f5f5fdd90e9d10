use Rattle.std.proofs.Common.{◌<◌, length, false, arith}
use Rattle.nl_folders.proofs.FileBytes.{blocks_before}
use Rattle.nl_folders.specs.Blocks.{blocks_in}
use Rattle.nl_folders.proofs.rewriting.next_run.Goals as goal

pub returns-clause-found : goal.returns-clause-found
returns-clause-found c =
    let first = c.standing_up_to-first.result in
    let more : first < blocks_in (length c.args.new.now) =
    omega (arith, c.standing_up_to-first.ensures.within, c.if-first-blocks_in.false, c.blocks_in.ensures) in
    record {
      behind = c.standing_up_to-first.ensures.behind;
      some = omega (arith, c.others_up_to-end.ensures.behind);
      within = c.others_up_to-end.ensures.within;
      standing = c.standing_up_to-first.ensures.standing;
      others =
          blocks_before false c.args.old.now c.args.new.now first c.others_up_to-end.result
          (c.standing_up_to-first.ensures.other more) c.others_up_to-end.ensures.others;
    }
