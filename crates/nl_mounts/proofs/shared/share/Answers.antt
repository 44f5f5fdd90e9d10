use Rattle.std.proofs.Common.{◌∙◌}
use Rattle.nl_publish.specs.Locks.{told_by}
use Rattle.nl_mounts.proofs.FirstSeen.{all_seen}
use Rattle.nl_mounts.proofs.shared.share.Goals as goal

pub returns-clause-shared : goal.returns-clause-shared
returns-clause-shared g c =
    let state = c.in-Ok-new.made.0 in
    record {
      is = c.volume.ensures ∙ c.in-Ok-new.ensures.begun.volume;
      state = state;
      sound = c.is_sound.ensures;
      begun = c.in-Ok-new.ensures.begun;
      seen =
          all_seen (λ s. s.front) (told_by state) c.in-Ok-new.made.1.items c.in-Ok.list.items
          c.seat_all.new.ports.items c.in-Ok.ensures.items c.seat_all.ensures c.in-Ok-new.ensures.fronts;
    }
