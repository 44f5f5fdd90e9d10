use Rattle.std.proofs.Common.{◌≡◌, ◌∙◌, List, ℕ, ap, refl, rules, subst, sym}
use Rattle.std.proofs.lemmas.Fn.{filter_same}
use Rattle.std.specs.List.{filter}
use Rattle.nl_cpfile.specs.Inside.{table_of}
use Rattle.nl_types.specs.Plain.NumberLists.{is_one_of}
use Rattle.nl_types.specs.Plain.Rows.{rows_between, judged_range}
use Rattle.nl_cpfile.specs.Tables.{IsTable, RoomyTable, Table, rows, without}
use Rattle.nl_cpfile.proofs.Ranges.{latest-not_removed, stays_in, stays-removed}
use Rattle.nl_cpfile.specs.Facts.Rising.{filter-IsTable, same_table}
use Rattle.nl_cpfile.proofs.ToldChanges.{rows-without}
use Rattle.nl_cpfile.proofs.table.Checkpoints.take_out_between.Goals as goal

-- what is left
left : (c : goal.After-retain)
    → c.retain.new.self.items ≡ filter (stays_in c.args.first c.args.last) c.self.inside.earlier.items
left c =
    filter_same _ (stays_in c.args.first c.args.last) _
    (λ x b f' k. search rules) _ _ c.retain.ensures.filtered

pub invariant_of-self : goal.invariant_of-self
invariant_of-self c =
    subst IsTable (sym (same_table (left c) refl))
    (filter-IsTable (stays_in c.args.first c.args.last) (table_of c.self.inside) c.self.invariant)

pub returns-clause-taken : goal.returns-clause-taken
returns-clause-taken c =
    same_table
    (left c ∙ stays-removed c.args.first c.args.last (table_of c.self.inside) c.self.invariant) refl
    ∙ ap (λ (r : RoomyTable).
    without
    (judged_range r.table.latest.number (rows_between c.args.first c.args.last (rows r.table))).removed
    r.table)
    c.self.view_is

pub returns-clause-told : goal.returns-clause-told
returns-clause-told c =
    let t = table_of c.self.inside in
    let gone : Table → List ℕ = λ u.
    (judged_range u.latest.number (rows_between c.args.first c.args.last (rows u))).removed in
    let stays = ap (λ (r : RoomyTable). is_one_of (gone r.table) r.table.latest.number) (sym c.self.view_is)
    ∙ latest-not_removed c.args.first c.args.last t c.self.invariant in
    ap rows (returns-clause-taken c) ∙ rows-without (gone c.args.self.now.table) c.args.self.now.table stays
