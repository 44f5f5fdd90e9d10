use Rattle.std.proofs.Common.{◌≡◌, length}
use Rattle.nl_check.specs.Shapes.{At}
use Rattle.nl_check.specs.Private.BesideTrees.{HasLeft, TellsOn}
use Rattle.nl_check.specs.Private.ChangedFiles.{IsLostIn, StandsOf}
use Rattle.nl_check.proofs.leaving.leave_files.Given as goal

abbrev pub invariant-loop-file : goal.invariant-loop-file
invariant-loop-file g l = record {
  count : length l.met ≡ length l.initial.met;
  left : HasLeft At (StandsOf (IsLostIn (g.V.VRead.pages l.store)) l.files l.file-index) l.initial.met l.met;
  told : TellsOn l.initial.met l.initial.changed.items l.met l.changed.items;
}
