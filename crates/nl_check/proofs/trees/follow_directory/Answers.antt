use Rattle.std.proofs.Common.{◌≡◌, ◌<◌, ◌∙◌, ℕ, List, Some, length, get_or, refl, sym}
use Rattle.std.specs.List.{slice_get}
use Rattle.std.proofs.lemmas.Option.{slice_get_read}
use Rattle.nl_check.specs.Facts.Below.{ok-then}
use Rattle.nl_check.proofs.NamesFollowed.{next-records}
use Rattle.nl_check.proofs.trees.follow_directory.Goals as goal

turn-of : (queue : List ℕ) (turn number : ℕ) → turn < length queue → number ≡ get_or queue turn number
    → slice_get queue turn ≡ Some number
turn-of queue turn number low is = slice_get_read queue (length queue) turn number refl low is

pub returns-clause-yes : goal.returns-clause-yes
returns-clause-yes g c =
    ok-then c.follow_records.result c.follow_records.ensures.yes _ (λ all follows t held holds limits n.
    let turn =
    turn-of c.args.queue.now.items c.args.turn c.index.result.now c.requires c.index.ensures in
    let records =
    next-records held limits c.args.queue.now.items c.args.turn c.index.result.now c.args.awaited.now
    c.in_ok-records.records.items n turn
    (λ records is. c.in_ok-records.ensures.all held records holds is) in
    follows t held c.args.turn c.index.result.now limits turn (records ∙ sym c.as_slice.ensures.value) n)

pub returns-clause-no : goal.returns-clause-no
returns-clause-no g c =
    ok-then c.follow_records.result c.follow_records.ensures.no _ (λ all refuses f held holds limits n tree.
    let turn =
    turn-of c.args.queue.now.items c.args.turn c.index.result.now c.requires c.index.ensures in
    let records =
    next-records held limits c.args.queue.now.items c.args.turn c.index.result.now c.args.awaited.now
    c.in_ok-records.records.items n turn
    (λ records is. c.in_ok-records.ensures.all held records holds is) in
    refuses f held c.args.turn c.index.result.now limits turn (records ∙ sym c.as_slice.ensures.value) n tree)
