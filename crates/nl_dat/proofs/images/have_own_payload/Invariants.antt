use Rattle.nl_dat.proofs.OwnPayload.{AreOwnBelow}
use Rattle.nl_dat.proofs.images.have_own_payload.Given as goal

abbrev pub invariant-loop-number : goal.invariant-loop-number
invariant-loop-number g l = AreOwnBelow l.table (g.S.Space.content l.space) l.number
