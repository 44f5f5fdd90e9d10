use Rattle.std.proofs.Common.{◌≡◌, ◌<◌, length, subst, sym}
use Rattle.nl_vstore.specs.Stores.{Store}
use Rattle.nl_vstore.specs.Summaries.{IsOfLogs, payload_row}
use Rattle.nl_vstore.specs.Facts.StoredLogs.{row-of_logs}
use Rattle.nl_dat.proofs.ShownRows.{row-store_of}
use Rattle.nl_dat.proofs.StoreOf.{same_store}
use Rattle.nl_dat.proofs.dat.DatVstore.payload.Goals as goal

pub returns-clause-row : goal.returns-clause-row
returns-clause-row g c =
    subst (λ (s : Store). c.summary.result.now ≡ payload_row s c.args.segment) (same_store c.self.view_is)
    (row-store_of c.self.inside.table (g.S.Space.content c.self.inside.space)
    (g.S.Space.failed c.self.inside.space) c.args.segment c.summary.result.now
    (g.met.S.Space.limits c.self.inside.space).tidy
    (subst (λ (s : Store). c.args.segment < length s.segments.each)
    (sym (same_store c.self.view_is)) c.requires)
    c.summary.ensures.count c.summary.ensures.each)

pub returns-clause-logs : goal.returns-clause-logs
returns-clause-logs g c =
    subst (IsOfLogs c.args.self.now.store c.args.segment) (sym (returns-clause-row g c))
    (row-of_logs c.args.self.now.store c.args.segment c.args.self.now.sound)
