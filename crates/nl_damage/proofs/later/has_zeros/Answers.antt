use Rattle.std.proofs.Common.{refl}
use Rattle.nl_damage.proofs.later.has_zeros.Goals as goal

pub returns-then-are_zero : goal.returns-then-are_zero
returns-then-are_zero c =
    let z = c.if-are_zero.ensures in (
      λ zero. record { padding = z.0 refl; blocks = c.is_rest_zero.ensures.0 zero },
      λ zeros. c.is_rest_zero.ensures.1 zeros.blocks,
    )
