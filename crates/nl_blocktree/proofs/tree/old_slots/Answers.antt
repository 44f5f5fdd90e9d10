use Rattle.std.proofs.Common.{◌≡◌, ◌∙◌, ap, sym, None, replicate, slice_index}
use Rattle.std.proofs.lemmas.List.{get_or-replicate}
use Rattle.std.specs.Option.{option_and_then}
use Rattle.std.specs.Prelude.{option_copied}
use Rattle.nl_types.specs.Blocks.Roots.{child, numbered, slot}
use Rattle.nl_blocktree.proofs.tree.old_slots.Goals as goal

pub returns-in-None-clause-slots : goal.returns-in-None-clause-slots
returns-in-None-clause-slots g c = λ s within.
    let none : child (g.V.VRead.pages c.args.store.now) s c.args.old ≡ None =
    ap (option_and_then (λ bytes. slot s bytes)) (sym c.page_under.ensures ∙ ap option_copied c.in-None.is) in
    let zero : slice_index (replicate 128 c.new.result) s ≡ 0 =
    get_or-replicate 128 s c.new.result 0 within ∙ c.new.ensures in
    ap numbered zero ∙ sym none
