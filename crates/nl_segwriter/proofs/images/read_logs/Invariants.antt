use Rattle.std.proofs.Common.{◌≡◌, ◌-◌, length}
use Rattle.nl_segwriter.specs.Images.{page_in}
use Rattle.nl_segwriter.specs.Writing.{held_in}
use Rattle.nl_segwriter.proofs.ImageLogs.{AreRead}
use Rattle.nl_segwriter.proofs.images.read_logs.Given as goal

abbrev pub invariant-loop-at : goal.invariant-loop-at
invariant-loop-at l = record {
  read : AreRead l.first l.at l.end (held_in l.fn.payload) (held_in l.payload) (page_in l.pages);
  size : length l.payload ≡ length l.fn.payload;
}

abbrev pub decreases-loop-at : goal.decreases-loop-at
decreases-loop-at l = l.end - l.at
