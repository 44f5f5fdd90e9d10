-- What comes of a mount that is to be given back.
use Rattle.std.specs.Prelude.{◌≡◌, ◌≢◌, MatchResult, Result, Ok, Err}
use Rattle.nl_types.specs.declared.error.VolError.{VolError}
use Rattle.nl_types.specs.declared.error.VolError.TheVariants.{BadMount}
use Rattle.nl_types.specs.declared.event.Event.TheVariants.{Unmount}
use Rattle.nl_types.specs.declared.reply.Answer.{Answer}
use Rattle.nl_publish.specs.Locks.{HeldPen, Ran}
use Rattle.nl_publish.specs.Mounts.{Claim}

-- nothing, or why it is refused, with the mount
abbrev pub Returned : Type 0
Returned = Result (Unit {0}) (VolError × Claim)

-- the mount is given back, or that is refused
abbrev pub IsGivenBack : HeldPen → Claim → Returned → HeldPen → Type 0
IsGivenBack old m result new =
    MatchResult result (λ u. (answer : Answer) × Ran old (Unmount m.number) (Ok answer) new)
    (λ r. Ran old (Unmount m.number) (Err r.0) new)

-- the mount is another volume's, and nothing is done; or it is given back, or that is refused
pub data UnmountRan (old : HeldPen) (m : Claim) (result : Returned) (new : HeldPen) : Type 0 where
  Foreign : m.told.volume ≢ old.volume → result ≡ Err (BadMount, m) → new ≡ old → UnmountRan old m result new
  Own : m.told.volume ≡ old.volume → IsGivenBack old m result new → UnmountRan old m result new
