use Rattle.std.proofs.Common.{◌≡◌, ◌∙◌, ℕ, refl, subst, sym, length, arith}
use Rattle.std.proofs.lemmas.Option.{slice_get_read}
use Rattle.nl_check.specs.Private.ChangedFiles.{AreFilesMet}
use Rattle.nl_check.proofs.TurnPlaces.{met-first, met-turn}
use Rattle.nl_check.proofs.meeting_anew.meet_files.Goals as goal

pub loop-file-init : goal.loop-file-init
loop-file-init g c = record {
  within = c.requires.within;
  count = refl;
  met = met-first (g.V.VRead.pages c.args.store.now) c.args.files.now c.args.met.now;
  told = λ start told. told;
}

pub meet_changed-requires-clause-before : goal.meet_changed-requires-clause-before
meet_changed-requires-clause-before g c =
    c.requires.before c.file-item.result (c.loop-file.file-index, c.loop-file-test.true, sym c.file-item.is)

pub loop-file-preserved : goal.loop-file-preserved
loop-file-preserved g c =
    let l = c.in_ok-meet_changed.ensures in
    let before = c.loop-file.invariant in
    let m = l.yes c.if-not-branch.false in
    record {
      within = λ v u.
          let low = before.within v u in
          let same = c.meet_changed.ensures.count in
          omega (arith, low, same);
      count = c.meet_changed.ensures.count ∙ before.count;
      met =
          met-turn (g.V.VRead.pages c.args.store.now) c.args.files.now c.loop-file.file-index
          c.file-item.result
          c.args.met.now c.loop-file.met c.meet_changed.new.met
          (slice_get_read c.args.files.now (length c.args.files.now) c.loop-file.file-index
          c.file-item.result refl
          c.loop-file-test.true c.file-item.is) before.met m (l.sound c.if-not-branch.false);
      told = λ start told. l.told c.if-not-branch.false start (before.told start told);
    }

pub returns-clause-yes : goal.returns-clause-yes
returns-clause-yes g c = λ _.
    let all : c.loop-file.file-index ≡ length c.args.files.now =
    omega (arith, c.loop-file-test.false, c.loop-file.auto.file-index-end) in
    subst (λ (k : ℕ). AreFilesMet (g.V.VRead.pages c.args.store.now) c.args.files.now k c.args.met.now
    c.loop-file.met) all c.loop-file.invariant.met
