use Rattle.std.proofs.Common.{◌≡◌, ◌≢◌, ◌⊎◌, ◌∙◌, ap, refl, [], ◌∷◌, None, Some, inl, inr}
use Rattle.clap.specs.Words.{IsAmong, Kinds}
use Rattle.clap.specs.declared.error.kind.ErrorKind.{ErrorKind}
use Rattle.clap.specs.declared.error.kind.ErrorKind.TheVariants.{OutOfMemory}
use Rattle.nl_commands.specs.Meanings.{Meaning, error_meaning, kind_meant, unless_fault}
use Rattle.nl_commands.proofs.OneFault.{IsSingle}

one-decides : (kinds : Kinds) (k : ErrorKind) (meaning : Meaning) → IsSingle kinds → IsAmong k kinds
    → kind_meant k ≡ unless_fault kinds meaning
one-decides [] k meaning single among = absurd among
one-decides (x ∷ []) k meaning single (inl is) = ap kind_meant is
one-decides (x ∷ []) k meaning single (inr none) = absurd none
one-decides (x ∷ y ∷ kinds) k meaning single among = absurd single

error-cases : (k : ErrorKind) → (error_meaning k ≡ None) ⊎ (error_meaning k ≡ Some (kind_meant k))
error-cases OutOfMemory = inl refl
error-cases _ = inr refl

-- an error of the library means what the words mean, but for want of memory
pub error-decides : (kinds : Kinds) (k : ErrorKind) (meaning : Meaning) → IsSingle kinds
    → (k ≡ OutOfMemory) ⊎ IsAmong k kinds → error_meaning k ≢ None
    → error_meaning k ≡ Some (unless_fault kinds meaning)
error-decides kinds k meaning single (inl memory) other = absurd (other (ap error_meaning memory))
error-decides kinds k meaning single (inr among) other = elim (error-cases k) [
  | inl is ↦ absurd (other is)
  | inr is ↦ is ∙ ap (λ (m : Meaning). Some m) (one-decides kinds k meaning single among)
]
