use Rattle.std.proofs.Common.{◌≡◌, true, arith}
use Rattle.std.proofs.lemmas.Grind.{common_steps}
use Rattle.nl_manifests.specs.Manifests.{are_bytes, is_text}
use Rattle.nl_manifests.proofs.Digits.{bytes_fit}
use Rattle.nl_manifests.proofs.manifest.is_text.Goals as goal

pub returns-then-not-is_empty : goal.returns-then-not-is_empty
unfolding is_text
returns-then-not-is_empty c =
    let fits : are_bytes c.args.bytes.now ≡ true =
    bytes_fit c.args.bytes.now (λ i. omega (arith, c.type_inv.bytes i)) in
    rw fits (grind (arith, common_steps))
