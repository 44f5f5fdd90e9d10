-- Failures of reads that are counted one call after another.
use Rattle.std.proofs.Common.{◌∙◌, arith}
use Rattle.nl_device.specs.Failures.{Failures, CountsReads, FailsToRead}

pub counts-reads : (old mid new : Failures) → CountsReads old mid → CountsReads mid new → CountsReads old new
counts-reads old mid new one two = (omega (arith, one.0, two.0), two.1 ∙ one.1)

pub fails-to-read : (old mid new : Failures) → CountsReads old mid → FailsToRead mid new → FailsToRead old new
fails-to-read old mid new one two = (omega (arith, one.0, two.0), two.1 ∙ one.1)
