use Rattle.std.proofs.Common.{◌∙◌, ◌-◌, arith, option_copied}
use Rattle.nl_folders.proofs.Handing.{kept_passed}
use Rattle.nl_folders.proofs.ReadEntries.{entry_read, found_there, goes_by_read}
use Rattle.nl_types.specs.Plain.Trees.{lookup}
use Rattle.nl_folders.proofs.plans.unwanted_before.Goals as goal

pub loop-left-preserved : goal.loop-left-preserved
loop-left-preserved c =
    let s = c.args.sides.now in
    let k = c.loop-left.left - 1 in
    let e = c.index-present-index.result in
    record {
      below = omega arith;
      within = omega arith;
      kept =
          kept_passed s c.args.left c.loop-left.left e c.present-present.ensures.told c.loop-left.invariant.kept
          c.loop-left-test.true c.loop-left.invariant.within
          (entry_read s.present c.present-present.result.now k e c.present-present.ensures.value
          c.index-present-index.is)
          (λ sorted.
          goes_by_read s.gone c.gone-gone.result.now k e.1 (lookup s.wanted e.0)
          (option_copied c.find_near-found.result.object) c.has_to_go.result c.gone-gone.ensures.value
          (found_there s.wanted c.wanted-wanted.result.now e.0 c.as_slice.result.now
          (option_copied c.find_near-found.result.object) c.wanted-wanted.ensures.value c.as_slice.ensures
          c.find_near-found.ensures sorted)
          c.has_to_go.ensures
          ∙ c.if-has_to_go.false);
    }
