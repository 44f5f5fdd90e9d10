-- One step more of a round.
use Rattle.std.proofs.Common.{◌≡◌, ◌∙◌, ◌++◌, ap, sym, refl, subst, List, ◌∷◌, [], Option, None, Some}
use Rattle.nl_types.specs.Plain.Worlds.{Reply}
use Rattle.nl_script.specs.Rounds.{AreSteps, IsRoundOver, nothing_done, sum_behind, with_reply}
use Rattle.nl_script.specs.declared.rounds.RoundSum.{RoundSum}

sum_behind-more : (sum : RoundSum) (replies : List Reply) (reply : Reply)
    → sum_behind sum (replies ++ reply ∷ []) ≡ with_reply (sum_behind sum replies) reply
sum_behind-more sum [] reply = refl
sum_behind-more sum (r ∷ replies) reply = sum_behind-more (with_reply sum r) replies reply

AreSteps-more : {S J : Type 0} (steps : S → J → Option Reply → S → J → Type 0) (job later next : J)
    (old mid new : S) (replies : List Reply)
    (reply : Reply) → AreSteps steps job old replies later mid → steps mid later (Some reply) new next
    → AreSteps steps job old (replies ++ reply ∷ []) next new
AreSteps-more {S = S} {J = K} steps job later next old mid new [] reply done one =
    let begun = subst (λ (k : K). steps mid k (Some reply) new next) done.0 one in
    (new, next, subst (λ (s : S). steps s job (Some reply) new next) done.1 begun, (refl, refl))
AreSteps-more steps job later next old mid new (r ∷ replies) reply done one =
    (done.0, done.1, done.2, AreSteps-more steps done.1 later next done.0 mid new replies reply done.3 one)

-- the steps so far
pub record IsRoundSoFar {S J : Type 0} (steps : S → J → Option Reply → S → J → Type 0) (job later : J)
    (old now : S) (sum : RoundSum) : Type 0 where
  pub replies : List Reply
  pub done : AreSteps steps job old replies later now
  pub sum_is : sum ≡ sum_behind nothing_done replies

module _ {S J : Type 0} (steps : S → J → Option Reply → S → J → Type 0) (job : J) (old : S) where
  pub round-start : (sum : RoundSum) → sum ≡ nothing_done → IsRoundSoFar steps job job old old sum
  round-start sum is = record { replies = []; done = (refl, refl); sum_is = is }

  module _ (later : J) (mid : S) (sum : RoundSum) (so_far : IsRoundSoFar steps job later old mid sum) where
    pub round-more : (next : J) (new : S) (reply : Reply) (more : RoundSum)
        → steps mid later (Some reply) new next → more ≡ with_reply sum reply
        → IsRoundSoFar steps job next old new more
    round-more next new reply more one is = record {
      replies = so_far.replies ++ reply ∷ [];
      done = AreSteps-more steps job later next old mid new so_far.replies reply so_far.done one;
      sum_is =
          is ∙ ap (λ (s : RoundSum). with_reply s reply) so_far.sum_is
          ∙ sym (sum_behind-more nothing_done so_far.replies reply);
    }

    -- no step is left
    pub round-ends : (last : J) (new : S) → steps mid later None new last → IsRoundOver steps job old new sum
    round-ends last new none = record {
      replies = so_far.replies;
      later = later;
      mid = mid;
      done = so_far.done;
      last = last;
      over = none;
      sum_is = so_far.sum_is;
    }
