use Rattle.std.proofs.Common.{◌≡◌, ℕ, ◌+◌, ◌<◌, length}
use Rattle.std.specs.Prelude.{slice_get}
use Rattle.std.specs.Vec.Iter.{into_iter_items}
use Rattle.nl_vstore.specs.Content.{SameOutside}
use Rattle.nl_segwriter.proofs.put.put_row.Given as goal

-- the pages tried so far stand at their numbers, and the iterator has those behind them
abbrev pub invariant-loop-page : goal.invariant-loop-page
invariant-loop-page g l = record {
  next : (goal.iterator-loop-page g).can_next l.page-iterator;
  ends : (goal.iterator-loop-page g).is_finite l.page-iterator;
  count : l.tried + length (into_iter_items l.page-iterator) ≡ length l.fn.pages;
  others : SameOutside l.first l.tried (g.D.Device.pages l.fn.device) (g.D.Device.pages l.device);
  unfailed : g.D.Device.failed l.device ≡ g.D.Device.failed l.fn.device;
  shape : g.D.Device.shape l.device ≡ g.D.Device.shape l.fn.device;
  stand : (j : ℕ) → j < l.tried → g.D.Device.pages l.device (l.first + j) ≡ slice_get l.fn.pages j;
  rest : (j : ℕ) → slice_get (into_iter_items l.page-iterator) j ≡ slice_get l.fn.pages (l.tried + j);
}
