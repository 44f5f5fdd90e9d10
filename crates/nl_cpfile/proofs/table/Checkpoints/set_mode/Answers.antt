use Rattle.std.proofs.Common.{◌≡◌, ◌∙◌, refl, List, get_or, ap, subst, sym}
use Rattle.nl_cpfile.specs.declared.checkpoint.Checkpoint.{Checkpoint}
use Rattle.nl_cpfile.specs.Inside.{table_of}
use Rattle.nl_types.specs.Plain.Rows.{mode_change}
use Rattle.nl_cpfile.specs.Searching.{HasNumberAt}
use Rattle.nl_cpfile.specs.Tables.{IsTable, RoomyTable, RoomyList, rows, with_mode}
use Rattle.nl_cpfile.specs.Facts.Found.{earlier-IsRising, kept-earlier, kept-last, kept-none, with_mode-earlier, with_mode-latest}
use Rattle.nl_cpfile.specs.Facts.Rising.{same_table, with_mode-IsTable}
use Rattle.nl_cpfile.proofs.Told.{mode_change-kept, mode_change-none}
use Rattle.nl_cpfile.proofs.ToldChanges.{rows-with_mode}
use Rattle.nl_cpfile.proofs.table.Checkpoints.set_mode.Goals as goal

pub invariant_of-self : goal.invariant_of-self
invariant_of-self c =
    let t = table_of c.self.inside in
    subst IsTable (with_mode-latest t c.self.invariant c.args.number c.args.mode (sym c.if-eq.ensures))
    (with_mode-IsTable c.args.number c.args.mode t c.self.invariant)

pub returns-then-eq-clause-judged : goal.returns-then-eq-clause-judged
returns-then-eq-clause-judged c =
    let t = table_of c.self.inside in
    mode_change-kept c.args.number t t.latest
    (kept-last t c.self.invariant c.args.number (sym c.if-eq.ensures))
    ∙ ap (λ (r : RoomyTable). mode_change c.args.number (rows r.table)) c.self.view_is

pub returns-then-eq-clause-changed : goal.returns-then-eq-clause-changed
returns-then-eq-clause-changed c =
    let t = table_of c.self.inside in
    sym (with_mode-latest t c.self.invariant c.args.number c.args.mode (sym c.if-eq.ensures))
    ∙ ap (λ (r : RoomyTable). with_mode c.args.number c.args.mode r.table) c.self.view_is

pub place_of-requires : goal.place_of-requires
place_of-requires c =
    earlier-IsRising
    (table_of c.self.inside) c.self.invariant c.args.number _ c.as_slice-earlier.ensures.value

-- what is left is the table with the mode
left : (c : goal.After-set) → with_mode c.args.number c.args.mode (table_of c.self.inside) ≡ record {
  earlier = c.set.new.self.items;
  latest = c.self.inside.latest;
}
left c =
    let t = table_of c.self.inside in
    let found = c.index-earlier-index.result in
    let has : HasNumberAt t.earlier c.args.number c.in-Some.index =
    subst (λ (cs : List Checkpoint). HasNumberAt cs c.args.number c.in-Some.index)
    c.as_slice-earlier.ensures.value c.in-Some.ensures in
    let at =
    c.index-earlier-index.is
    ∙ ap (λ (cs : List Checkpoint). get_or cs c.in-Some.index found) c.as_slice-earlier.ensures.value in
    with_mode-earlier t c.self.invariant c.args.number c.args.mode c.in-Some.index found
    (sym c.if-eq.ensures) has at
    ∙ same_table (sym (ap (λ (r : RoomyList). r.items) c.set.ensures)) refl

pub invariant_of-self-in-Some : goal.invariant_of-self-in-Some
invariant_of-self-in-Some c =
    subst IsTable (left c)
    (with_mode-IsTable c.args.number c.args.mode (table_of c.self.inside) c.self.invariant)

pub returns-in-Some-clause-judged : goal.returns-in-Some-clause-judged
returns-in-Some-clause-judged c =
    let t = table_of c.self.inside in
    let found = c.index-earlier-index.result in
    mode_change-kept c.args.number t found
    (kept-earlier t c.self.invariant c.args.number _ c.in-Some.index found c.as_slice-earlier.ensures.value
    c.in-Some.ensures c.index-earlier-index.is)
    ∙ ap (λ (r : RoomyTable). mode_change c.args.number (rows r.table)) c.self.view_is

pub returns-in-Some-clause-changed : goal.returns-in-Some-clause-changed
returns-in-Some-clause-changed c =
    sym (left c) ∙ ap (λ (r : RoomyTable). with_mode c.args.number c.args.mode r.table) c.self.view_is

pub returns-in-None-clause-judged : goal.returns-in-None-clause-judged
returns-in-None-clause-judged c =
    let t = table_of c.self.inside in
    mode_change-none c.args.number t
    (kept-none t c.self.invariant c.args.number _ c.as_slice-earlier.ensures.value c.in-None.ensures
    (sym c.if-eq.ensures))
    ∙ ap (λ (r : RoomyTable). mode_change c.args.number (rows r.table)) c.self.view_is

pub returns-then-eq-clause-told : goal.returns-then-eq-clause-told
returns-then-eq-clause-told c =
    ap rows (returns-then-eq-clause-changed c)
    ∙ rows-with_mode c.args.number c.args.mode c.args.self.now.table

pub returns-in-Some-clause-told : goal.returns-in-Some-clause-told
returns-in-Some-clause-told c =
    ap rows (returns-in-Some-clause-changed c)
    ∙ rows-with_mode c.args.number c.args.mode c.args.self.now.table
