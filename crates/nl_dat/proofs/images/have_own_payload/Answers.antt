use Rattle.std.proofs.Common.{◌≡◌, ◌∙◌, Option, None, arith, refl, subst, sym}
use borrow.Author.Count.{below_more}
use Rattle.std.specs.Option.{IfSome}
use Rattle.std.proofs.lemmas.List.{get_or_default}
use Rattle.nl_types.specs.Blocks.Segments.{IsUsed}
use Rattle.nl_vstore.specs.Content.{SpaceContent}
use Rattle.nl_dat.specs.declared.entries.DatEntry.{DatEntry}
use Rattle.nl_dat.specs.Images.{HasOwn}
use Rattle.nl_dat.specs.Table.{entry_in}
use Rattle.nl_dat.proofs.OwnPayload.{all_own, own_each, used_each}
use Rattle.nl_dat.proofs.images.have_own_payload.Goals as goal

pub has_own_payload-requires : goal.has_own_payload-requires
has_own_payload-requires g c =
    let space : SpaceContent = g.S.Space.content c.args.space.now in
    let table = c.args.table.now in
    let at : entry_in table c.loop-number.number ≡ c.index-table-number.result =
    get_or_default table c.loop-number.number None c.index-table-number.result (omega arith)
    ∙ sym c.index-table-number.is in
    subst (λ (o : Option DatEntry). IfSome o (λ e. IsUsed space.segments e.block)) at
    (used_each table space c.loop-number.number c.requires)

pub loop-number-preserved : goal.loop-number-preserved
loop-number-preserved g c =
    let space : SpaceContent = g.S.Space.content c.args.space.now in
    let table = c.args.table.now in
    let at : entry_in table c.loop-number.number ≡ c.index-table-number.result =
    get_or_default table c.loop-number.number None c.index-table-number.result (omega arith)
    ∙ sym c.index-table-number.is in
    below_more (λ v. HasOwn space v (entry_in table v)) c.loop-number.number c.loop-number.invariant
    (subst (HasOwn space c.loop-number.number) (sym at) (c.if-not-has_own_payload.ensures.0 refl))

pub returns-then-not-has_own_payload : goal.returns-then-not-has_own_payload
returns-then-not-has_own_payload g c =
    let space : SpaceContent = g.S.Space.content c.args.space.now in
    let table = c.args.table.now in
    let at : entry_in table c.loop-number.number ≡ c.index-table-number.result =
    get_or_default table c.loop-number.number None c.index-table-number.result (omega arith)
    ∙ sym c.index-table-number.is in (
      λ no. absurd (cc),
      λ own.
          c.if-not-has_own_payload.ensures.1
          (subst (HasOwn space c.loop-number.number) at (own_each table space c.loop-number.number own)),
    )

pub returns : goal.returns
returns g c =
    let space : SpaceContent = g.S.Space.content c.args.space.now in (
      λ _. all_own c.args.table.now space c.loop-number.number (omega arith) c.loop-number.invariant,
      λ _. refl,
    )
