use Rattle.std.proofs.Common.{◌≡◌, ◌∙◌, ◌++◌, ℕ, List, length, take, drop, slice_index, arith, ap, sym, subst}
use Rattle.std.proofs.lemmas.List.{take_at}
use Rattle.std.proofs.lemmas.Result.{IfOk-weaker}
use Rattle.nl_types.specs.Blocks.Roots.{numbered}
use Rattle.nl_blocktree.specs.Private.Edits.{TellsAll, edited, edits_from}
use Rattle.nl_blocktree.specs.declared.tree.Edit.{Edit}
use Rattle.nl_blocktree.proofs.TreeSlots.{all_below, tells_made}
use Rattle.nl_blocktree.proofs.slots.told_edits.Goals as goal

pub set_slots-requires-clause-room : goal.set_slots-requires-clause-room
set_slots-requires-clause-room c =
    let count = ap length c.deref_mut.ensures.value in
    let room = c.in_ok-make_room.ensures.room in
    all_below c.args.edits.now (length c.deref_mut.result.now) c.index-edits-edits.result c.requires.ascending
    (omega (arith, count, room))

pub returns-clause-ok : goal.returns-clause-ok
returns-clause-ok c =
    let wrote = c.set_slots.new.slots in
    let roomy = c.make_room.new.slots.items in
    let count : length wrote ≡ length roomy =
    c.set_slots.ensures.count ∙ ap length c.deref_mut.ensures.value in
    let long : length wrote ≡ c.make_room.new.slots.len = count ∙ sym c.make_room.new.slots.ok.0 in
    let back : take c.make_room.new.slots.len (wrote ++ drop (length wrote) roomy) ≡ wrote =
    take_at wrote (drop (length wrote) roomy) c.make_room.new.slots.len long in
    let made : TellsAll c.args.slots.items c.args.edits.now (edits_from 0 wrote) =
    tells_made c.args.slots.items c.trim.new.slots.items roomy wrote c.args.edits.now
    c.index-edits-edits.result c.requires.some c.requires.ascending c.requires.small c.requires.near
    c.trim.ensures.same c.trim.ensures.tight c.make_room.ensures.same c.in_ok-make_room.ensures.room
    c.make_room.ensures.len count
    (λ i.
    c.set_slots.ensures.slots i
    ∙ ap (λ (xs : List ℕ). edited c.args.edits.now (λ j. numbered (slice_index xs j)) i)
    c.deref_mut.ensures.value) in
    IfOk-weaker c.edits_of.result _ _
    (λ told e.
    subst (λ (es : List Edit). TellsAll c.args.slots.items c.args.edits.now es)
    (sym (e ∙ ap (edits_from 0) (c.deref.ensures.value ∙ back))) made)
    c.edits_of.ensures.ok
