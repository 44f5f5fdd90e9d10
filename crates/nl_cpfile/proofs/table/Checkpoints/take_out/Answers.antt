use Rattle.std.proofs.Common.{◌≡◌, ◌∙◌, ◌∷◌, [], List, ap, refl, subst, sym}
use Rattle.std.specs.List.{filter}
use Rattle.nl_cpfile.specs.declared.checkpoint.Checkpoint.{Checkpoint}
use Rattle.nl_cpfile.specs.Inside.{table_of}
use Rattle.nl_cpfile.specs.Searching.{HasNumberAt}
use Rattle.nl_cpfile.specs.Tables.{IsTable, RoomyTable, is_kept_without, without}
use Rattle.nl_cpfile.specs.Facts.Found.{earlier-IsRising, filter-absent, found, remove-filter}
use Rattle.nl_cpfile.specs.Facts.Rising.{filter-IsTable, same_table}
use Rattle.nl_cpfile.proofs.table.Checkpoints.take_out.Goals as goal

pub place_of-requires : goal.place_of-requires
place_of-requires c =
    earlier-IsRising (table_of c.self.inside) c.self.invariant c.args.number _ c.as_slice.ensures.value

-- what is left is the table without the number
left : (c : goal.After-remove)
    → c.remove.new.self.items ≡ filter (is_kept_without (c.args.number ∷ [])) c.self.inside.earlier.items
left c =
    let t = table_of c.self.inside in
    let has : HasNumberAt t.earlier c.args.number c.in-Some.index =
    subst (λ (cs : List Checkpoint). HasNumberAt cs c.args.number c.in-Some.index)
    c.as_slice.ensures.value c.in-Some.ensures in
    c.remove.ensures.items ∙ remove-filter c.args.number t.earlier c.in-Some.index t.latest
    (earlier-IsRising t c.self.invariant c.args.number t.earlier refl) has.inside (has.number t.latest)

pub invariant_of-self : goal.invariant_of-self
invariant_of-self c =
    let t = table_of c.self.inside in
    subst IsTable (sym (same_table (left c) refl))
    (filter-IsTable (is_kept_without (c.args.number ∷ [])) t c.self.invariant)

pub returns-in-Some : goal.returns-in-Some
returns-in-Some c =
    same_table (left c) refl ∙ ap (λ (r : RoomyTable). without (c.args.number ∷ []) r.table) c.self.view_is

-- there is none
pub returns-in_default : goal.returns-in_default
returns-in_default c =
    let absent = ap (found c.args.number) (sym c.as_slice.ensures.value) ∙ c.in_default.ensures in
    ap (λ (r : RoomyTable). r.table) (sym c.self.view_is)
    ∙ same_table (sym (filter-absent c.args.number c.self.inside.earlier.items absent)) refl
    ∙ ap (λ (r : RoomyTable). without (c.args.number ∷ []) r.table) c.self.view_is
