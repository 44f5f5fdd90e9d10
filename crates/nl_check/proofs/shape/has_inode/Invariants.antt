use Rattle.std.proofs.Common.{◌≡◌, ◌<◌, ℕ, None}
use Rattle.nl_ifile.specs.Inodes.{inode_in}
use Rattle.nl_check.proofs.shape.has_inode.Given as goal

abbrev pub invariant-loop-place : goal.invariant-loop-place
invariant-loop-place l = (p : ℕ) → p < l.place → inode_in l.page p ≡ None
