use Rattle.std.proofs.Common.{◌≡◌, ℕ, ◌+◌, ◌<◌, List, Some, length}
use Rattle.std.specs.Prelude.{slice_get}
use Rattle.std.specs.Vec.Iter.{into_iter_items, into_iter_len}
use Rattle.nl_segwriter.specs.Images.{page_in}
use Rattle.nl_segwriter.proofs.put.put_pages.Given as goal

-- the pages below the number are put, and the iterator has those from it on
abbrev pub invariant-loop-page : goal.invariant-loop-page
invariant-loop-page g l = record {
  next : (goal.iterator-loop-page g).can_next l.page-iterator;
  ends : (goal.iterator-loop-page g).is_finite l.page-iterator;
  long : into_iter_len l.page-iterator ≡ length (into_iter_items l.page-iterator);
  count : l.number + length (into_iter_items l.page-iterator) ≡ length l.fn.pages;
  unfailed : g.D.Device.failed l.device ≡ g.D.Device.failed l.fn.device;
  shape : g.D.Device.shape l.device ≡ g.D.Device.shape l.fn.device;
  put : (b : ℕ) (page : List ℕ) → b < l.number → page_in l.fn.pages b ≡ Some page
      → g.D.Device.pages l.device b ≡ Some page;
  rest : (j : ℕ) → slice_get (into_iter_items l.page-iterator) j ≡ slice_get l.fn.pages (l.number + j);
}
