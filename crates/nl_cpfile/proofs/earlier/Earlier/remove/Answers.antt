use Rattle.std.proofs.Common.{◌<◌, ◌+◌, ◌∙◌, length, drop, length-drop, ap, arith}
use Rattle.std.specs.List.{remove}
use Rattle.nl_cpfile.specs.Tables.{RoomyList}
use Rattle.nl_cpfile.proofs.Gaps.{moved_up, moved_down}
use Rattle.nl_cpfile.proofs.earlier.Earlier.remove.Goals as goal

-- the place is one of the list
inside : (c : goal.After-self-1) → c.self.inside.gone + c.args.index < length c.self.inside.places.items
inside c =
    let within = c.requires in
    let kept = ap (λ (r : RoomyList). length r.items) c.self.view_is in
    let count = length-drop c.self.inside.gone c.self.inside.places.items in
    omega (arith, within, kept, count)

pub returns-then-index-rest-clause-items : goal.returns-then-index-rest-clause-items
returns-then-index-rest-clause-items c =
    let places = c.self.inside.places.items in
    let gone = c.self.inside.gone in
    ap (drop (gone + 1)) c.copy_within.ensures.items
    ∙ moved_up places gone c.args.index (inside c)
    ∙ ap (λ (r : RoomyList). remove r.items c.args.index) c.self.view_is

pub returns-else-index-rest-clause-items : goal.returns-else-index-rest-clause-items
returns-else-index-rest-clause-items c =
    let places = c.self.inside.places.items in
    let gone = c.self.inside.gone in
    ap (drop gone) c.remove.ensures.items
    ∙ moved_down places gone c.args.index
    (omega
    (arith, c.requires, ap (λ (r : RoomyList). length r.items) c.self.view_is, length-drop gone places))
    ∙ ap (λ (r : RoomyList). remove r.items c.args.index) c.self.view_is
