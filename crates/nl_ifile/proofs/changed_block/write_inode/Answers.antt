use Rattle.std.proofs.Common.{◌≡◌, ◌+◌, ◌-◌, ◌*◌, sym, ap, ◌∙◌, arith}
use Rattle.nl_layout.specs.Inode.{entry_bytes}
use Rattle.nl_ifile.specs.Inodes.{entry_for}
use Rattle.nl_ifile.proofs.BlockBytes.{block-written}
use Rattle.nl_ifile.proofs.changed_block.write_inode.Goals.{in-Some, in-None}
use Rattle.nl_ifile.proofs.changed_block.write_inode.Goals as goal

pub returns-clause-written : goal.returns-clause-written
returns-clause-written c =
    let entry : c.match-inode.entry ≡ entry_for c.args.inode =
    elim c.match-inode.branch [
      | in-Some w ↦ w.entry-is ∙ sym (ap entry_for w.in-Some.is)
      | in-None w ↦ w.entry-is ∙ sym (ap entry_for w.in-None.is)
    ] in
    λ inodes was.
    block-written inodes c.args.place c.args.inode _ c.write.new.out
    (c.args.place * 128 + 128 - c.args.place * 128) c.requires was (omega arith)
    (c.write.ensures.spelling ∙ ap entry_bytes entry)
