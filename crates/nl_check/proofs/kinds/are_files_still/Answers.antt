use Rattle.std.proofs.Common.{◌≡◌, refl, subst, length, arith}
use Rattle.std.proofs.lemmas.Option.{slice_get_read}
use Rattle.nl_check.specs.Private.ChangedFiles.{AreFilesStill}
use Rattle.nl_check.proofs.NotedKinds.{still-first, still-more}
use Rattle.nl_check.proofs.kinds.are_files_still.Goals as goal

pub loop-file-init : goal.loop-file-init
loop-file-init c = still-first c.args.files.now

pub loop-file-preserved : goal.loop-file-preserved
loop-file-preserved c =
    still-more c.args.files.now c.loop-file.file-index c.file-item.result
    (slice_get_read c.args.files.now (length c.args.files.now) c.loop-file.file-index c.file-item.result refl
    c.loop-file-test.true c.file-item.is) (c.is_file_still.ensures c.if-not-is_file_still.false)
    c.loop-file.invariant

pub returns : goal.returns
returns c = λ _.
    let all : c.loop-file.file-index ≡ length c.args.files.now =
    omega (arith, c.loop-file-test.false, c.loop-file.auto.file-index-end) in
    subst (AreFilesStill c.args.files.now) all c.loop-file.invariant
