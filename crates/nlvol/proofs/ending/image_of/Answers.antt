use Rattle.std.proofs.Common.{refl}
use Rattle.nlvol.proofs.Saves.{can_be_closed}
use Rattle.nlvol.proofs.ending.image_of.Goals as goal

pub returns-clause-saved : goal.returns-clause-saved
returns-clause-saved g c =
    let settled = c.in_ok-checkpoint_if_dirty.ensures.settled refl in
    record {
      closed = c.checkpoint_if_dirty.new.pen;
      settled = settled;
      pen = c.means_a_world.ensures;
      can_be =
          can_be_closed c.args.pen.now.lists.dirty c.args.moment c.args.pen.now c.checkpoint_if_dirty.new.pen refl
          c.requires settled;
      image_is = c.in_ok-image.ensures.image;
    }
