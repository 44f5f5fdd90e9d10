-- Worlds that stay as they are.
use Rattle.std.specs.Prelude.{refl}
use Rattle.std.proofs.Common.{◌∙◌}
use Rattle.nl_keep.specs.Volumes.{LeadsTo, Meaning, Stays}

pub stays_itself : (Old : Meaning) → LeadsTo Stays Old Old
stays_itself Old w means = (w, means, refl)

pub stays_on : (Old Mid New : Meaning) → LeadsTo Stays Old Mid → LeadsTo Stays Mid New → LeadsTo Stays Old New
stays_on Old Mid New one other w means =
    let a = one w means in
    let b = other a.0 a.1 in
    (b.0, b.1, b.2 ∙ a.2)
