use Rattle.std.proofs.Common.{Ok, Option, length, ap, arith, refl, subst, sym}
use Rattle.std.specs.Option.{option_map}
use Rattle.std.specs.Prelude.{map}
use Rattle.std.proofs.lemmas.Option.{slice_get_read}
use Rattle.nl_check.specs.Conditions.{FirstFault}
use Rattle.nl_check.specs.ImageConditions.{number_of}
use Rattle.nl_check.specs.declared.conditions.ImageCondition.{ImageCondition}
use Rattle.nl_check.specs.Judging.{IsJudgedLast, told}
use Rattle.nl_check.specs.Facts.Below.{found-at, none-from}
use Rattle.nl_check.proofs.JudgedCheckpoints.{judged-all, judged-more, judged-none, shape-fails}
use Rattle.nl_check.proofs.checks.judge_all.Goals as goal

pub loop-entry-init : goal.loop-entry-init
loop-entry-init g c = record {
  room = c.requires.room;
  last = tt;
  judged =
      judged-none (g.V.VRead.pages c.args.image.now.store.now) (g.V.VRead.periods c.args.image.now.store.now)
      c.args.kept.now;
}

pub returns-in_default-clause-verdict : goal.returns-in_default-clause-verdict
returns-in_default-clause-verdict g c =
    shape-fails (g.V.VRead.pages c.args.image.now.store.now)
    (g.V.VRead.periods c.args.image.now.store.now) c.args.kept.now c.loop-entry.entry-index
    c.entry-item.result
    (slice_get_read c.args.kept.now
    (length c.args.kept.now) c.loop-entry.entry-index c.entry-item.result refl c.loop-entry-test.true
    c.entry-item.is)
    (c.in_ok-now.ensures.no (ap Ok (none-from c.in_ok-now.field-0 c.in_default.not-Some)))

pub loop-entry-preserved : goal.loop-entry-preserved
loop-entry-preserved g c =
    let pages = g.V.VRead.pages c.args.image.now.store.now in
    let periods = g.V.VRead.periods c.args.image.now.store.now in
    let found = c.judge_next.new.found in
    let next =
    found-at (IsJudgedLast pages periods c.entry-item.result c.loop-entry.judged found.met found.kinds)
    c.in_ok-now.field-0 c.in-Some.now c.in_ok-now.ensures.yes c.in-Some.is in
    record {
      room = record {
        within = λ v s.
            let low = c.loop-entry.invariant.room.within v s in
            let same = c.judge_next.ensures.count in
            omega (arith, low, same);
        each = c.loop-entry.invariant.room.each;
      };
      last = next.last;
      judged =
          judged-more pages periods c.args.kept.now c.loop-entry.entry-index c.entry-item.result
          c.loop-entry.judged c.in-Some.now c.loop-entry.invariant.judged
          (slice_get_read c.args.kept.now
          (length c.args.kept.now) c.loop-entry.entry-index c.entry-item.result refl c.loop-entry-test.true
          c.entry-item.is)
          next.judged;
    }

pub returns-clause-verdict : goal.returns-clause-verdict
returns-clause-verdict g c =
    judged-all (g.V.VRead.pages c.args.image.now.store.now) (g.V.VRead.periods c.args.image.now.store.now)
    c.args.kept.now c.loop-entry.entry-index
    (record { trees = c.loop-entry.judged.trees; periods = c.loop-entry.judged.periods })
    c.loop-entry-test.false c.loop-entry.invariant.judged
