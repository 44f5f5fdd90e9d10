use Rattle.std.proofs.Common.{inl}
use Rattle.nl_c.proofs.opening.nlvol_format.Goals as goal

pub returns-in-Ok : goal.returns-in-Ok
returns-in-Ok c = inl (c.in-Ok.geometry, c.in-Ok.ensures.made, c.hold_new.ensures)
