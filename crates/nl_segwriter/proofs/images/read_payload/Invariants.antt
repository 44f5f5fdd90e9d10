use Rattle.nl_segwriter.specs.Images.{page_in}
use Rattle.nl_segwriter.proofs.ImagePayload.{AreHeldBelow}
use Rattle.nl_segwriter.proofs.images.read_payload.Given as goal

abbrev pub invariant-loop-i : goal.invariant-loop-i
invariant-loop-i l = AreHeldBelow l.table (page_in l.pages) l.payload l.i
