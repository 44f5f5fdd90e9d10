use Rattle.std.proofs.Common.{arith, inl, inr}
use Rattle.nl_publish.proofs.press.count_refusal.Goals as goal

pub returns-then-refusals-eq18446744073709551615 : goal.returns-then-refusals-eq18446744073709551615
returns-then-refusals-eq18446744073709551615 c = record { later = omega arith; counted = inr (omega arith) }

pub returns : goal.returns
returns c = record { later = omega arith; counted = inl (omega arith) }
