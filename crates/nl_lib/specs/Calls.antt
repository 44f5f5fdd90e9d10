-- What calls do to a pen.
use Rattle.std.specs.Prelude.{◌≡◌, ℕ, Bool, MatchBool, Result, Ok, Err}
use Rattle.nl_types.specs.declared.error.VolError.{VolError}
use Rattle.nl_types.specs.declared.event.Event.TheVariants as event
use Rattle.nl_types.specs.declared.event.Mode.TheVariants.{Plain}
use Rattle.nl_types.specs.declared.reply.Answer.TheVariants as answer
use Rattle.nl_types.specs.Plain.Worlds.{Reply}
use Rattle.nl_commit.specs.Layout.{Layout, Does, unshared}
use Rattle.nl_types.specs.Replies.{reply_with}

-- the reply to an event that answers nothing
abbrev pub done_reply : Result (Unit {0}) VolError → Reply
done_reply (Ok done) = Ok answer.Done
done_reply (Err e) = Err e

-- a plain checkpoint is made where something is dirty; else nothing is done, and the latest one is answered
abbrev pub Syncs : (now : ℕ) (dirty : Bool) → Layout → Result ℕ VolError → Layout → Type 0
Syncs now dirty old result new = MatchBool dirty
    (Does unshared old (event.Checkpoint Plain now) (reply_with answer.Checkpoint result) new)
    ((new ≡ old) × (result ≡ Ok old.lists.table.latest.number))
