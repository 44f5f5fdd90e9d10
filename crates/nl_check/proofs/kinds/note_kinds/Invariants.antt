use Rattle.std.proofs.Common.{◌≡◌, ℕ, Option, length}
use Rattle.nl_layout.specs.declared.inode.Inode.{Inode}
use Rattle.nl_check.specs.Private.ChangedFiles.{AreNoted, HaveLater}
use Rattle.nl_check.proofs.kinds.note_kinds.Given as goal

abbrev pub invariant-loop-file : goal.invariant-loop-file
invariant-loop-file l = record {
  count : length l.kinds ≡ length l.initial.kinds;
  noted : (now : ℕ → Option Inode) → HaveLater l.files now
      → AreNoted now l.files l.file-index l.initial.kinds l.kinds;
}
