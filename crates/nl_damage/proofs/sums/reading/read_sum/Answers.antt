use Rattle.std.proofs.Common.{◌≡◌, ◌∙◌, IfOk, Result, Ok, Err, Option, None, Some, List, ℕ}
use Rattle.std.specs.Prelude.{IfSome}
use Rattle.nl_damage.specs.declared.sums.sum.Sum.{Sum}
use Rattle.nl_damage.specs.SumTexts.{IsPrinted, IsSum}
use Rattle.nl_damage.specs.Private.SumReading.{sum_in}
use Rattle.nl_damage.proofs.SumsRead.{found_is, sum_read}
use Rattle.nl_damage.proofs.sums.reading.read_sum.Goals as goal

found : {E : Type 0} (r : Result (Option Sum) E) (bytes : List ℕ) → IfOk r (λ read. read ≡ sum_in bytes)
    → IfOk r (λ read. IfSome read IsSum) → IfOk r (λ read. IfSome read (λ sum. IsPrinted sum bytes))
found (Ok None) bytes is sums = tt
found (Ok (Some sum)) bytes is sums = record { is_sum = sums; spelled = found_is (Some sum) bytes is }
found (Err e) bytes is sums = tt

only : {E : Type 0} (r : Result (Option Sum) E) (bytes : List ℕ) → IfOk r (λ read. read ≡ sum_in bytes)
    → IfOk r (λ read. (sum : Sum) → IsPrinted sum bytes → read ≡ Some sum)
only (Ok read) bytes is = λ sum printed. is ∙ sum_read bytes sum printed.is_sum printed.spelled
only (Err e) bytes is = tt

pub returns-clause-found : goal.returns-clause-found
returns-clause-found c = found c.sum_in.result c.args.bytes.now c.sum_in.ensures.read c.sum_in.ensures.sums

pub returns-clause-only : goal.returns-clause-only
returns-clause-only c = only c.sum_in.result c.args.bytes.now c.sum_in.ensures.read
