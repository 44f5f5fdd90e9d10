-- What a step of a round of cleaning does under the lock.
use Rattle.std.specs.Prelude.{◌≡◌, Option, None, Some, Err}
use Rattle.nl_types.specs.declared.error.VolError.TheVariants.{Memory}
use Rattle.nl_types.specs.declared.event.Event.{Event}
use Rattle.nl_types.specs.Plain.Worlds.{Reply}
use Rattle.nl_commit.specs.Rounds.{RoundHabits}
use Rattle.nl_publish.specs.Locks.{GoesBy, HeldPen, IsReady, IsStuck, IsTried}

-- Behind the give-back of a lost mount the next event of the round runs, and its reply is noted; or nothing
-- is left of the round; or the give-back is refused, which is noted as the refusal of the event. What is pending
-- was tried
pub data CleanRan {J : Type 0} (rounds : RoundHabits J) (old : HeldPen) (round : J) (reply : Option Reply)
    (new : HeldPen) (now : J) : Type 0 where
  Stepped : (begun : HeldPen) (event : Event) (answer : Reply) → IsReady old begun
      → rounds.next round begun.layout ≡ Some event
      → GoesBy begun event answer new → reply ≡ Some answer → now ≡ rounds.noted round answer
      → IsTried old new → CleanRan rounds old round reply new now
  Over : IsReady old new → rounds.next round new.layout ≡ None → reply ≡ None → now ≡ round
      → IsTried old new → CleanRan rounds old round reply new now
  NotBegun : IsStuck old new → reply ≡ Some (Err Memory) → now ≡ rounds.noted round (Err Memory)
      → CleanRan rounds old round reply new now
