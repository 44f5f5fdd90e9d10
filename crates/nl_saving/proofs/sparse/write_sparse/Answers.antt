use Rattle.std.proofs.Common.{arith}
use Rattle.std.proofs.lemmas.Result.{on_ok_weaker}
use Rattle.nl_saving.proofs.UnitBounds.{first_bound}
use Rattle.nl_saving.proofs.WrittenParts.{behind_resize, behind_write}
use Rattle.nl_saving.proofs.sparse.write_sparse.Goals as goal

pub loop-extent-init : goal.loop-extent-init
loop-extent-init g c = record { bound = first_bound _; written = λ h. h }

pub loop-extent-preserved : goal.loop-extent-preserved
loop-extent-preserved g c = record {
  bound = c.in-Some.ensures.ends;
  written = λ h.
      behind_write c.args.bytes.now c.loop-extent.at c.in-Some.extent.start c.in-Some.extent.end
      (g.F.SparseFile.holds c.loop-extent.file) (g.F.SparseFile.holds c.write_all_at.new.self)
      c.in-Some.ensures.ascends (omega (arith, c.in-Some.ensures.some)) c.loop-extent.invariant.bound.within c.in-Some.ensures.zeros
      (c.loop-extent.invariant.written h) c.in_ok-write_all_at.ensures;
}

pub returns : goal.returns
returns g c =
    on_ok_weaker c.resize.result
    (λ resized. λ empty.
    behind_resize c.args.bytes.now c.loop-extent.at (g.F.SparseFile.holds c.loop-extent.file)
    (g.F.SparseFile.holds c.resize.new.self) c.loop-extent.invariant.bound.within c.in_default.ensures
    (c.loop-extent.invariant.written empty) resized)
    c.resize.ensures
