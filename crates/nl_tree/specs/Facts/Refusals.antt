-- What the exit of a `?` returns.
use Rattle.std.proofs.Common.{◌≡◌, ◌∙◌}
use Rattle.std.specs.declared.result.Result.{Result}
use Rattle.std.specs.declared.result.Result.TheVariants.{Ok, Err}
use Rattle.std.specs.Result.{IfErr, IsErrAnd, OnErr}

module _ {T E : Type 0} where
  -- what holds anyway holds at a refusal
  pub holds_on_err : (r : Result T E) (P : Type 0) → P → OnErr r P
  holds_on_err (Ok x) P p = tt
  holds_on_err (Err e) P p = p

  -- the refusal of a callee is passed on
  pub passed_on : (r : Result T E) (e x : E) → IsErrAnd r (λ y. y ≡ e) → e ≡ x → IfErr r (λ y. y ≡ x)
  passed_on (Ok y) e x is same = tt
  passed_on (Err y) e x is same = is ∙ same
