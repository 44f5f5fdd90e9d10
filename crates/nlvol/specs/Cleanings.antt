-- What a line that cleans leaves in use.
use Rattle.std.specs.Prelude.{ℕ, All, IsOk}
use Rattle.nl_commit.specs.Layout.{IsPen}
use Rattle.nl_protect.specs.declared.config.Config.{Config}
use Rattle.nl_cleaner.specs.Laws.{LeavesNothingDead, TakesEachDirty}
use Rattle.nl_cleaner.specs.Rounds.{cleaning_habits}
use Rattle.nl_script.specs.Lines.{IsRoundDone, LineEnd}
use Rattle.nlvol.specs.SharedVolumes.{Sharing, shared_habits}

-- A line plans a round, and does it until it is over. Where the round takes each dirty segment, and is
-- refused nothing, each number in use is needed then, or its page stands in a segment that was active or in
-- error.
abbrev pub CleaningsLeaveNothingDead : Type 0
CleaningsLeaveNothingDead =
    (config : Config) (line moment : ℕ) (old new : Sharing) (end : LineEnd)
    (done : IsRoundDone (shared_habits cleaning_habits) config line moment old new end)
    → IsPen old.held.layout → TakesEachDirty done.job old.held.layout → All IsOk done.over.replies
    → LeavesNothingDead old.held.layout new.held.layout
