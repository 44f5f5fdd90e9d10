-- Calls of a shared volume that have an answer of their own.
use Rattle.std.specs.Prelude.{◌≡◌, ◌⊎◌, Result, Ok, Err}
use Rattle.nl_types.specs.declared.error.VolError.{VolError}
use Rattle.nl_types.specs.declared.error.VolError.TheVariants.{Memory}
use Rattle.nl_types.specs.declared.event.Event.{Event}
use Rattle.nl_types.specs.declared.reply.Answer.{Answer}
use Rattle.nl_types.specs.Replies.{reply_with}
use Rattle.nl_mounts.specs.Sharing.{HasRun}

-- the event ran in some sound state, and this is the answer to it, or its refusal
abbrev pub HasAnswered : {A : Type 0} → (A → Answer) → Event → Result A VolError → Type 0
HasAnswered view event result = HasRun event (reply_with view result)

-- the same of an event whose answer isn't told
abbrev pub HasDone : Event → Result (Unit {0}) VolError → Type 0
HasDone event (Ok done) = (a : Answer) × HasRun event (Ok a)
HasDone event (Err e) = HasRun event (Err e)

-- that is so; or memory for the bytes of the event was refused, and nothing ran
abbrev pub UnlessMemory : {A : Type 0} → Type 0 → Result A VolError → Type 0
UnlessMemory Runs result = Runs ⊎ (result ≡ Err Memory)
