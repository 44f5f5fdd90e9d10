-- Replies, by the answers that results have of them.
use Rattle.std.specs.Prelude.{◌≡◌, IfOk, Result, Ok, Err}
use Rattle.nl_types.specs.declared.error.VolError.{VolError}
use Rattle.nl_types.specs.declared.reply.Answer.{Answer}
use Rattle.nl_types.specs.Plain.Worlds.{Reply}

-- the reply of which a result tells the answer's value
abbrev pub reply_with : {A : Type 0} → (A → Answer) → Result A VolError → Reply
reply_with view (Ok a) = Ok (view a)
reply_with view (Err e) = Err e

-- an answer is one of a kind
abbrev pub IsReplyWith : {A : Type 0} → (A → Answer) → Reply → Type 0
IsReplyWith {A} view reply = IfOk reply (λ found. (a : A) × (found ≡ view a))
