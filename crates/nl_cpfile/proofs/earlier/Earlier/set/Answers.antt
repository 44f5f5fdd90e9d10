use Rattle.std.proofs.Common.{◌∙◌, ap}
use Rattle.nl_cpfile.specs.Tables.{RoomyList}
use Rattle.std.proofs.lemmas.List.{drop-set-add}
use Rattle.std.specs.Prelude.{slice_set, vec_capacity, vec_len, ◌-◌}
use Rattle.nl_cpfile.proofs.earlier.Earlier.set.Goals as goal

pub returns : goal.returns
returns c =
    let inside = c.self.inside in
    let room = vec_capacity inside.places - vec_len inside.places in
    ap (λ items. (let r : RoomyList = record { items = items; room = room } in r))
    (drop-set-add inside.gone inside.places.items c.args.index c.args.checkpoint)
    ∙ ap (λ (r : RoomyList).
    (let s : RoomyList = record r { items = slice_set r.items c.args.index c.args.checkpoint } in s))
    c.self.view_is
