use Rattle.std.proofs.Common.{◌+◌, subst, sym}
use Rattle.std.proofs.lemmas.Result.{on_ok_weaker}
use Rattle.nl_vstore.specs.Content.{SpaceContent}
use Rattle.nl_vstore.specs.Images.{AreBlocksOf}
use Rattle.nl_vstore.specs.Stores.{Store, space_in}
use Rattle.nl_dat.specs.Inside.{IsDatTable}
use Rattle.nl_dat.proofs.ShownBlocks.{blocks-store_of}
use Rattle.nl_dat.proofs.StoreOf.{is_store, same_store}
use Rattle.nl_dat.proofs.dat.Dat.dump_blocks.Goals as goal

pub invariant_of-self-inside : goal.invariant_of-self-inside
invariant_of-self-inside g c =
    let table = c.self.inside.table in
    let space = c.dump.new.space in
    let tabled : IsDatTable table (c.self.inside.filled + 1) (g.S.Space.content space) =
    subst (IsDatTable table (c.self.inside.filled + 1)) (sym c.dump.ensures.same) c.self.inside.tabled in (
      is_store table (c.self.inside.filled + 1) (g.S.Space.content space) (g.S.Space.failed space) tabled
          (g.met.S.Space.limits space) (g.met.S.Space.whole_logs space) (g.met.S.Space.holds_only_used space)
          (g.met.S.Space.have_logs space),
      (tabled, tt),
    )

pub returns-clause-blocks : goal.returns-clause-blocks
returns-clause-blocks g c =
    let table = c.self.inside.table in
    let content : SpaceContent = g.S.Space.content c.self.inside.space in
    let failures = g.S.Space.failed c.self.inside.space in
    on_ok_weaker c.dump.result
    (λ are.
    subst (λ (s : Store). AreBlocksOf (space_in s) c.dump.new.out) (same_store c.self.view_is)
    (blocks-store_of table content failures c.dump.new.out are))
    c.dump.ensures.blocks
