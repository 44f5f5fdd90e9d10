use Rattle.std.proofs.Common.{refl}
use Rattle.nl_image.proofs.reading.has_zeros.Goals as goal

pub returns-then-is_zero : goal.returns-then-is_zero
returns-then-is_zero c =
    let z = c.if-is_zero.ensures in (
      λ zero. record { padding = z.0 refl; blocks = c.is_rest_zero.ensures.0 zero },
      λ zeros. c.is_rest_zero.ensures.1 zeros.blocks,
    )
