use Rattle.std.proofs.Common.{◌∙◌, sym, subst}
use Rattle.nl_sufile.specs.Table.{IsActiveIn}
use Rattle.nl_sufile.proofs.ActiveSegment.{rests_none, rests_one}
use Rattle.nl_sufile.proofs.table.rest_active.Goals as goal

pub bounds-as_slice-at : goal.bounds-as_slice-at
bounds-as_slice-at c =
    rw (c.get-at.ensures, c.as_slice.ensures) (c.requires.there c.in-Some.segment c.in-Some.is).0

pub bounds-as_slice-at-in-Some : goal.bounds-as_slice-at-in-Some
bounds-as_slice-at-in-Some c =
    rw (c.get-at.ensures, c.as_slice.ensures) (c.requires.there c.in-Some.segment c.in-Some.is).0

pub set-requires : goal.set-requires
set-requires c = rw c.get-at.ensures (c.requires.there c.in-Some.segment c.in-Some.is).0

pub returns-in-Some : goal.returns-in-Some
returns-in-Some c =
    let one =
    rests_one c.args.each.now c.in-Some.segment
    (subst (IsActiveIn c.args.each.now) c.in-Some.is c.requires) in
    c.set.ensures.set ∙ rw (c.get-at.ensures, c.as_slice.ensures) (sym one)

pub returns-in_default : goal.returns-in_default
returns-in_default c =
    rests_none c.args.each.now (subst (IsActiveIn c.args.each.now) c.in_default.is c.requires)
