use Rattle.std.proofs.Common.{◌≤◌, ◌^◌, arith}
use Rattle.nl_blocktree.specs.Facts.TreePlaces.{pow-rises}
use Rattle.nl_blocktree.proofs.read.indexes_below.Goals as goal

pub pow-requires : goal.pow-requires
pow-requires c =
    let most : 128 ^ c.from.result ≤ 128 ^ 3 = pow-rises c.from.result 3 (omega arith) in omega (arith, most)
