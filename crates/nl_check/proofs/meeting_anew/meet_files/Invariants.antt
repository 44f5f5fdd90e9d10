use Rattle.std.proofs.Common.{◌≡◌, ◌<◌, ℕ, length}
use Rattle.std.specs.Option.{IsSome}
use Rattle.nl_check.specs.Private.BesideTrees.{TellsOn}
use Rattle.nl_check.specs.Private.ChangedFiles.{AreFilesMet}
use Rattle.nl_check.proofs.meeting_anew.meet_files.Given as goal

abbrev pub invariant-loop-file : goal.invariant-loop-file
invariant-loop-file g l =
    let pages = g.V.VRead.pages l.store in
    record {
      within : (v : ℕ) → IsSome (pages v) → v < length l.met;
      count : length l.met ≡ length l.initial.met;
      met : AreFilesMet pages l.files l.file-index l.initial.met l.met;
      told : TellsOn l.initial.met l.initial.changed.items l.met l.changed.items;
    }
