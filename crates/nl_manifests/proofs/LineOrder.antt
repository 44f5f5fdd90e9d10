-- Lines in order.
use Rattle.std.proofs.Common.{◌≡◌, ◌≤◌, true, [], ◌∷◌, List, length, refl, arith}
use Rattle.nl_manifests.specs.declared.manifest.Line.{Line}
use Rattle.nl_manifests.specs.Manifests.{ascend}

pub ascend_short : (lines : List Line) → length lines ≤ 1 → ascend lines ≡ true
ascend_short [] few = refl
ascend_short (a ∷ []) few = refl
ascend_short (a ∷ b ∷ lines) few = absurd (omega arith)
