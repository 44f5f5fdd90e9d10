use Rattle.std.proofs.Common.{◌<◌, length, arith, subst}
use Rattle.std.specs.List.{All}
use Rattle.std.proofs.lemmas.List.{take_all}
use Rattle.std.proofs.lemmas.List.Elements.{All-more}
use Rattle.nl_dirs.specs.Records.{RecordHasSpelling}
use Rattle.nl_trials.proofs.tests.directories.all_fit.Goals as goal

pub loop-record-preserved : goal.loop-record-preserved
loop-record-preserved c =
    let within : c.loop-record.record-index < length c.args.records.now = omega arith in
    All-more RecordHasSpelling c.args.records.now c.loop-record.record-index c.record-item.result within
    c.loop-record.invariant
    (subst RecordHasSpelling c.record-item.is (c.fits.ensures c.if-not-fits.false))

pub returns : goal.returns
returns c = λ _.
    subst (All RecordHasSpelling)
    (take_all c.loop-record.record-index c.args.records.now (omega arith)) c.loop-record.invariant
