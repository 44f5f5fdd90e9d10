use Rattle.std.proofs.Common.{sym, ◌∙◌, arith}
use Rattle.nl_folders.proofs.Agreeing.{agree_more}
use Rattle.nl_folders.proofs.paths.shared_names.Goals as goal

pub loop-shared-preserved : goal.loop-shared-preserved
loop-shared-preserved c =
    let k = c.loop-shared.shared in
    let is_same = sym c.is_same_name.ensures ∙ c.if-not-is_same_name.false in (
      omega (arith, c.loop-shared-test.true),
      λ same.
          agree_more k c.args.a.now c.args.b.now c.index-a-shared.result c.index-b-shared.result
          (omega (arith, c.loop-shared-test.true, c.min-most.ensures))
          (omega (arith, c.loop-shared-test.true, c.min-most.ensures))
          c.index-a-shared.is c.index-b-shared.is is_same (c.loop-shared.invariant.1 same),
    )
