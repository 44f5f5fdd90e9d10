-- What a port replies to a question about a mount.
use Rattle.std.proofs.Common.{◌≡◌, ◌⊎◌, Err, inl, inr}
use Rattle.nl_types.specs.declared.error.VolError.TheVariants.{BadMount}
use Rattle.nl_types.specs.declared.event.Ask.{Ask}
use Rattle.nl_types.specs.Plain.Trees.{Tree}
use Rattle.nl_types.specs.Plain.Worlds.{Reply}
use Rattle.nl_mounts.specs.Ports.{IsReplyOf}
use Rattle.nl_script.specs.FileReads.{IsToldBy}

pub told_by : (t : Tree) (asked : Ask) (reply : Reply) → (reply ≡ Err BadMount) ⊎ IsReplyOf t asked reply
    → IsToldBy t asked reply
told_by t asked reply (inl refused) = inl refused
told_by t asked reply (inr (inl is)) = inr (λ other. is)
told_by t asked reply (inr (inr lacks)) = inr (λ other. absurd (other lacks.1))
