use Rattle.std.proofs.Common.{◌≡◌, ◌≢◌, ◌∙◌, ℕ, refl, subst, sym, length, arith}
use Rattle.std.proofs.lemmas.Option.{slice_get_read}
use Rattle.nl_types.specs.Blocks.Roots.{OfChain, Root, kind_of}
use Rattle.nl_layout.specs.Root.{root_of}
use Rattle.nl_files.specs.CheckpointRoots.{inode_root}
use Rattle.nl_check.specs.Shapes.{At}
use Rattle.nl_blocktree.specs.FileShapes.{HasShape}
use Rattle.nl_check.specs.Private.BesideTrees.{HasLeft}
use Rattle.nl_check.specs.Private.ChangedFiles.{IsLostIn, StandsOf}
use Rattle.nl_check.proofs.TurnPlaces.{left-first, left-turn}
use Rattle.nl_check.proofs.leaving.leave_files.Goals as goal

pub loop-file-init : goal.loop-file-init
loop-file-init g c = record {
  count = refl;
  left = left-first (g.V.VRead.pages c.args.store.now) c.args.files.now c.args.met.now;
  told = λ start told. told;
}

pub leave_file-requires-clause-no_chain : goal.leave_file-requires-clause-no_chain
leave_file-requires-clause-no_chain g c =
    subst (λ (r : Root). kind_of r ≢ OfChain) (sym c.root_of_file-before.ensures)
    (c.requires.no_chain c.file-item.result (c.loop-file.file-index, c.loop-file-test.true, sym c.file-item.is))

pub leave_file-requires-clause-shape : goal.leave_file-requires-clause-shape
leave_file-requires-clause-shape g c =
    subst (HasShape (g.V.VRead.pages c.args.store.now)) (sym c.root_of_file-before.ensures)
    (c.requires.shape c.file-item.result (c.loop-file.file-index, c.loop-file-test.true, sym c.file-item.is))

pub loop-file-preserved : goal.loop-file-preserved
loop-file-preserved g c =
    let l = c.in_ok-leave_file.ensures in
    let before = c.loop-file.invariant in
    record {
      count = c.leave_file.ensures.count ∙ before.count;
      left =
          left-turn (g.V.VRead.pages c.args.store.now) c.args.files.now c.loop-file.file-index
          c.file-item.result
          c.args.met.now c.loop-file.met c.leave_file.new.met
          (slice_get_read c.args.files.now (length c.args.files.now) c.loop-file.file-index
          c.file-item.result refl
          c.loop-file-test.true c.file-item.is) before.left
          (subst (λ (r : Root). HasLeft (ℕ × ℕ) (IsLostIn (g.V.VRead.pages c.args.store.now) r
          (inode_root c.file-item.result.later)) c.loop-file.met c.leave_file.new.met)
          c.root_of_file-before.ensures
          (subst (λ (r : Root). HasLeft (ℕ × ℕ) (IsLostIn (g.V.VRead.pages c.args.store.now)
          (root_of c.root_of_file-before.result) r) c.loop-file.met c.leave_file.new.met)
          c.root_of_file-now.ensures l.left));
      told = λ start told. l.told start (before.told start told);
    }

pub returns-clause-left : goal.returns-clause-left
returns-clause-left g c =
    let all : c.loop-file.file-index ≡ length c.args.files.now =
    omega (arith, c.loop-file-test.false, c.loop-file.auto.file-index-end) in
    subst (λ (k : ℕ). HasLeft At (StandsOf (IsLostIn (g.V.VRead.pages c.args.store.now)) c.args.files.now k)
    c.args.met.now c.loop-file.met) all c.loop-file.invariant.left
