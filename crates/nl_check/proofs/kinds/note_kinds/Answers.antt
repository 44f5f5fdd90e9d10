use Rattle.std.proofs.Common.{◌≡◌, ◌∙◌, ℕ, refl, subst, sym, length, arith}
use Rattle.std.proofs.lemmas.Option.{slice_get_read}
use Rattle.nl_check.specs.Private.ChangedFiles.{AreNoted}
use Rattle.nl_check.proofs.NotedKinds.{noted-first, noted-more}
use Rattle.nl_check.proofs.kinds.note_kinds.Goals as goal

pub loop-file-init : goal.loop-file-init
loop-file-init c = record {
  count = refl;
  noted = λ now later. noted-first now c.args.files.now c.args.kinds.now;
}

pub loop-file-preserved : goal.loop-file-preserved
loop-file-preserved c = record {
  count = c.note.ensures.same ∙ c.loop-file.invariant.count;
  noted = λ now later.
      noted-more now c.args.files.now c.loop-file.file-index c.file-item.result c.args.kinds.now
      c.loop-file.kinds c.note.new.self c.kind_of_file.result c.kind_of_file.ensures
      (later c.file-item.result (c.loop-file.file-index, c.loop-file-test.true, sym c.file-item.is))
      (slice_get_read c.args.files.now (length c.args.files.now) c.loop-file.file-index c.file-item.result refl
      c.loop-file-test.true c.file-item.is) c.note.ensures.here c.note.ensures.others
      (c.loop-file.invariant.noted now later);
}

pub returns-clause-noted : goal.returns-clause-noted
returns-clause-noted c = λ now later.
    let all : c.loop-file.file-index ≡ length c.args.files.now =
    omega (arith, c.loop-file-test.false, c.loop-file.auto.file-index-end) in
    subst (λ (k : ℕ). AreNoted now c.args.files.now k c.args.kinds.now c.loop-file.kinds) all
    (c.loop-file.invariant.noted now later)
