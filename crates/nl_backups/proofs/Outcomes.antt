-- Several facts of what a call answers.
use Rattle.std.proofs.Common.{Result, Ok, Err, IfOk}

pub all_three : {T E : Type 0} {P Q R S : T → Type 0} (r : Result T E) → ((x : T) → P x → Q x → R x → S x)
    → IfOk r P → IfOk r Q → IfOk r R → IfOk r S
all_three (Ok x) together p q r = together x p q r
all_three (Err e) together p q r = tt
