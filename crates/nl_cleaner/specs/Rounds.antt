-- Rounds of cleaning, as a shared volume knows them.
use Rattle.nl_commit.specs.Rounds.{RoundHabits}
use Rattle.nl_cleaner.specs.Job.{JobView, job_after_reply, next_event, steps_left}
use Rattle.nl_cleaner.specs.Plan.{IsPlan}

abbrev pub cleaning_habits : RoundHabits JobView
cleaning_habits =
    record { plans = IsPlan; next = next_event; noted = job_after_reply; left = steps_left }
