use Rattle.std.proofs.Common.{◌≡◌, List, Option, subst, refl}
use Rattle.nl_vstore.specs.Content.{SpaceContent}
use Rattle.nl_dat.specs.declared.entries.DatEntry.{DatEntry}
use Rattle.nl_dat.specs.Inside.{IsDatTable, births_in}
use Rattle.nl_dat.specs.Table.{HaveOwnPayload, addresses_of, entry_in}
use Rattle.nl_dat.proofs.OwnPayload.{restored_table}
use Rattle.nl_dat.proofs.ShownNumbers.{entries-store_of}
use Rattle.nl_dat.proofs.StoreOf.{is_store}
use Rattle.nl_dat.proofs.dat.Dat.restore.Goals as goal

pub invariant_of-result : goal.invariant_of-result
invariant_of-result g c =
    let space : SpaceContent = g.S.Space.content c.args.space in
    let own : HaveOwnPayload (addresses_of (entry_in c.args.table)) (births_in space) =
    subst (λ (t : List (Option DatEntry)). HaveOwnPayload (addresses_of (entry_in t)) (births_in space))
    c.as_slice.ensures
    (c.if-not-have_own_payload.ensures.0 refl) in
    let tabled : IsDatTable c.args.table 1 space =
    restored_table c.args.table space c.requires (g.met.S.Space.whole_logs c.args.space) own in (
      is_store c.args.table 1 space (g.S.Space.failed c.args.space) tabled (g.met.S.Space.limits c.args.space)
          (g.met.S.Space.whole_logs c.args.space) (g.met.S.Space.holds_only_used c.args.space)
          (g.met.S.Space.have_logs c.args.space),
      (tabled, tt),
    )

pub returns-clause-shown : goal.returns-clause-shown
returns-clause-shown g c =
    let space : SpaceContent = g.S.Space.content c.args.space in
    let own : HaveOwnPayload (addresses_of (entry_in c.args.table)) (births_in space) =
    subst (λ (t : List (Option DatEntry)). HaveOwnPayload (addresses_of (entry_in t)) (births_in space))
    c.as_slice.ensures
    (c.if-not-have_own_payload.ensures.0 refl) in
    entries-store_of c.args.table space (g.S.Space.failed c.args.space) own
