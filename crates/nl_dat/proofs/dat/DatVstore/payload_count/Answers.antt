use Rattle.std.proofs.Common.{◌≡◌, ◌<◌, length, subst, sym, ◌∙◌}
use Rattle.nl_vstore.specs.Stores.{Store}
use Rattle.nl_vstore.specs.Located.{in_row, payload_count_in, picked}
use Rattle.nl_dat.proofs.CountedPayload.{payload-counted}
use Rattle.nl_dat.proofs.StoreOf.{same_store}
use Rattle.nl_dat.proofs.dat.DatVstore.payload_count.Goals as goal

pub returns : goal.returns
returns g c =
    c.count_payload.ensures
    ∙ subst (λ (s : Store).
    length (picked (in_row c.summary.result.now) 0 (length c.summary.result.now))
    ≡ payload_count_in s c.args.segment)
    (same_store c.self.view_is)
    (payload-counted c.self.inside.table (g.S.Space.content c.self.inside.space)
    (g.S.Space.failed c.self.inside.space) c.args.segment c.summary.result.now
    (g.met.S.Space.limits c.self.inside.space).tidy
    (subst (λ (s : Store). c.args.segment < length s.segments.each)
    (sym (same_store c.self.view_is)) c.requires)
    c.summary.ensures.count c.summary.ensures.each)
