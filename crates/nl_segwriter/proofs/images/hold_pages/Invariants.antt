use Rattle.std.proofs.Common.{◌≡◌, ◌+◌, length, take}
use Rattle.nl_segwriter.specs.Images.{IsRowHeld, SameAround, page_in}
use Rattle.nl_segwriter.specs.Writing.{held_in}
use Rattle.nl_segwriter.proofs.images.hold_pages.Given as goal

abbrev pub invariant-loop-k : goal.invariant-loop-k
invariant-loop-k l = record {
  held : IsRowHeld l.first (take l.k l.tags) (held_in l.payload) (page_in l.pages);
  others : SameAround l.first (l.first + l.k) (held_in l.fn.payload) (held_in l.payload);
  size : length l.payload ≡ length l.fn.payload;
}
