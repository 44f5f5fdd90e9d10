use Rattle.nl_check.specs.Private.ChangedFiles.{AreFilesStill}
use Rattle.nl_check.proofs.kinds.are_files_still.Given as goal

abbrev pub invariant-loop-file : goal.invariant-loop-file
invariant-loop-file l = AreFilesStill l.files l.file-index
