use Rattle.std.proofs.Common.{Option, subst, sym}
use Rattle.nl_types.specs.Blocks.Roots.{Pages}
use Rattle.nl_layout.specs.declared.inode.Inode.{Inode}
use Rattle.nl_check.specs.Private.SoundInodes.{IsSoundInode}
use Rattle.nl_check.proofs.SoundOnes.{none-sound}
use Rattle.nl_check.proofs.meeting_anew.is_sound_later.Goals as goal

pub returns-in-None-clause-yes : goal.returns-in-None-clause-yes
returns-in-None-clause-yes g c = λ _.
    let pages : Pages = g.V.VRead.pages c.args.store.now in
    subst (λ (o : Option Inode). IsSoundInode pages c.args.file.now.number o) (sym c.in-None.is)
    (none-sound pages c.args.file.now.number)
