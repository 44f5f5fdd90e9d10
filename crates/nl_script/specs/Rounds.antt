-- Rounds of cleaning, and what is told of them.
use Rattle.std.specs.Prelude.{◌≡◌, ◌+◌, ◌-◌, ◌^◌, if◌then◌else◌, min, ℕ, List, [], ◌∷◌, ◌++◌, length, Option, None, Some, Ok, Err}
use Rattle.nl_types.specs.Plain.Worlds.{Reply}
use Rattle.nl_types.specs.declared.error.VolError.{VolError}
use Rattle.nl_types.specs.declared.reply.Answer.{Answer}
use Rattle.nl_types.specs.declared.reply.Answer.TheVariants.{Expired, Moved, Freed}
use Rattle.nl_commit.specs.Rounds.{ends_round}
use Rattle.nl_script.specs.AnswerTexts.{clean_text}
use Rattle.nl_script.specs.RefusalTexts.{refusal_text}
use Rattle.nl_script.specs.Texts.{Text}
use Rattle.nl_script.specs.declared.rounds.RoundSum.{RoundSum}

-- ---- what a round comes to

abbrev pub nothing_done : RoundSum
nothing_done = record { expired = 0; moved = 0; freed = 0; refusal = None }

-- a sum of 64 bits, or the greatest that there is
abbrev pub plus : ℕ → ℕ → ℕ
plus count more = min (count + more) (2 ^ 64 - 1)

abbrev pub with_answer : RoundSum → Answer → RoundSum
with_answer sum (Expired gone) = record sum { expired = plus sum.expired (length gone) }
with_answer sum (Moved moved left) = record sum { moved = plus sum.moved moved }
with_answer sum (Freed count) = record sum { freed = plus sum.freed 1 }
with_answer sum _ = sum

abbrev pub with_refusal : RoundSum → VolError → RoundSum
with_refusal sum error = if ends_round error then record sum { refusal = Some error } else sum

abbrev pub with_reply : RoundSum → Reply → RoundSum
with_reply sum (Ok answer) = with_answer sum answer
with_reply sum (Err error) = with_refusal sum error

-- what further replies make of a sum
abbrev pub sum_behind : RoundSum → List Reply → RoundSum
sum_behind sum [] = sum
sum_behind sum (reply ∷ replies) = sum_behind (with_reply sum reply) replies

-- ---- steps

-- a step of a round, with its reply or none, leads from one state and job to another
abbrev pub Steps : (S J : Type 0) → Type 1
Steps S J = S → J → Option Reply → S → J → Type 0

-- steps of a round, one after another, with these replies
abbrev pub AreSteps : {S J : Type 0} → Steps S J → (job : J) → (old : S) → List Reply
    → (later : J) → (new : S) → Type 0
AreSteps steps job old [] later new = (later ≡ job) × (new ≡ old)
AreSteps {S = S} {J = K} steps job old (reply ∷ replies) later new =
    (mid : S) × (next : K) × steps old job (Some reply) mid next × AreSteps steps next mid replies later new

-- the steps of a round are done until none is left, and came to this
pub record IsRoundOver {S J : Type 0} (steps : Steps S J) (job : J) (old new : S)
    (sum : RoundSum) : Type 0 where
  pub replies : List Reply
  pub later : J
  pub mid : S
  pub done : AreSteps steps job old replies later mid
  pub last : J
  pub over : steps mid later None new last
  pub sum_is : sum ≡ sum_behind nothing_done replies

-- ---- what is told

abbrev pub ending_text : (line : ℕ) → Option VolError → Text
ending_text line None = []
ending_text line (Some error) = refusal_text line None error

abbrev pub round_text : (line : ℕ) → RoundSum → Text
round_text line sum = clean_text sum.expired sum.moved sum.freed ++ ending_text line sum.refusal
