-- Results of calls as answers.
use Rattle.std.proofs.Common.{◌≡◌, subst, sym, Result, OnOk}
use Rattle.std.specs.Prelude.{MatchResult, Ok, Err}
use Rattle.nl_types.specs.declared.error.VolError.{VolError}
use Rattle.nl_types.specs.declared.reply.Answer.{Answer}
use Rattle.nl_types.specs.Plain.Calls.{Changed}
use Rattle.nl_types.specs.Plain.Worlds.{Reply}
use Rattle.nl_tree.specs.Became.{Current}
use Rattle.nl_tree.specs.CurrentTrees.{AnswersCall}
use Rattle.nl_tree.specs.Held.{Holding}

-- the reply answers what the result gives, or is refused as it is
abbrev pub Answers : {A : Type 0} → (A → Answer) → Result A VolError → Reply → Type 0
Answers given result reply = MatchResult result (λ a. reply ≡ Ok (given a)) (λ e. reply ≡ Err e)

pub calls-answered : {A : Type 0} (given : A → Answer) (result : Result A VolError) (reply : Reply)
    (now : Current) (base : Holding) (called : Changed)
    →
    Answers given result reply → AnswersCall given result now base called
    → AnswersCall (λ answer. answer) reply now base called
calls-answered given (Ok a) reply now base called is calls =
    subst (λ (r : Reply). AnswersCall (λ answer. answer) r now base called) (sym is) calls
calls-answered given (Err e) reply now base called is calls =
    subst (λ (r : Reply). AnswersCall (λ answer. answer) r now base called) (sym is) calls

pub ok-answered : {A : Type 0} (given : A → Answer) (result : Result A VolError) (reply : Reply)
    (Holds : Type 0)
    →
    Answers given result reply → OnOk result Holds → OnOk reply Holds
ok-answered given (Ok a) reply Holds is holds = subst (λ (r : Reply). OnOk r Holds) (sym is) holds
ok-answered given (Err e) reply Holds is holds = subst (λ (r : Reply). OnOk r Holds) (sym is) holds
