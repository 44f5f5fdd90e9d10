use Rattle.std.proofs.Common.{◌+◌, ◌-◌, ap, refl}
use Rattle.nl_dirs.specs.Facts.Filling.{put_record}
use Rattle.nl_dirs.proofs.packing.Filling.add.Goals as goal

pub returns : goal.returns
returns c = λ records had.
    put_record records c.args.next.now c.args.self.now.bytes c.write.new.out c.args.self.now.used
    (1024 - c.args.self.now.used) (c.args.self.now.used + c.size.result)
    had c.requires.room refl (ap (λ n. c.args.self.now.used + n) c.size.ensures) c.write.ensures
