-- Runs, put together.
use Rattle.std.proofs.Common.{List, [], ◌∷◌, ◌++◌, refl, subst}
use Rattle.nl_types.specs.Plain.Runs.{Run}

-- a run goes on by one step
pub Run-more : {S E R : Type 0} (Steps : S → E → R → S → Type 0) (old mid new : S) (es : List E) (rs : List R)
    (e : E) (r : R)
    → Run Steps old es rs mid → Steps mid e r new → Run Steps old (es ++ e ∷ []) (rs ++ r ∷ []) new
Run-more Steps old mid new [] [] e r done step = (new, subst (λ s. Steps s e r new) done step, refl)
Run-more Steps old mid new (x ∷ es) (y ∷ rs) e r done step =
    (done.0, done.1, Run-more Steps done.0 mid new es rs e r done.2 step)
Run-more Steps old mid new [] (y ∷ rs) e r done step = absurd done
Run-more Steps old mid new (x ∷ es) [] e r done step = absurd done
