use Rattle.nl_vstore.specs.Images.{pages_of_bytes}
use Rattle.nl_segwriter.proofs.ImagePages.{AreUsedBelow}
use Rattle.nl_segwriter.proofs.images.read_pages.Given as goal

abbrev pub invariant-loop-number : goal.invariant-loop-number
invariant-loop-number l = AreUsedBelow l.table (pages_of_bytes l.blocks) l.pages.items l.number
