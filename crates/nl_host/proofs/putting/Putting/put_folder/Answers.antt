use Rattle.nl_host.proofs.Places.{down_is}
use Rattle.nl_host.proofs.putting.Putting.put_folder.Goals as goal

pub returns-clause-stands : goal.returns-clause-stands
returns-clause-stands g c =
    down_is _ _ _ _ _ _ _ _ _ _ _ c.requires.stands c.requires.path c.requires.name c.requires.entry
    c.in_ok-push.ensures.items c.make_folder.ensures.stays c.in_default.ensures.down
