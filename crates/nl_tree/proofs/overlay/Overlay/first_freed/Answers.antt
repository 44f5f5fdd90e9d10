use Rattle.std.proofs.Common.{sym, ap, ◌∙◌}
use Rattle.nl_tree.specs.Shown.{if_true, key_alone, shown_entries}
use Rattle.nl_tree.proofs.Freed.{first_shown, none_shown, shows_first}
use Rattle.nl_tree.proofs.overlay.Overlay.first_freed.Goals as goal

pub returns-then-is_free : goal.returns-then-is_free
returns-then-is_free c =
    first_shown c.args.self.now.freed.entries c.in-Some.number.now
    (shown_entries key_alone if_true c.next.new.self) c.iter-number-items.ensures.ordered
    (sym c.loop-number.invariant ∙ ap (λ es. shown_entries key_alone if_true es) c.in-Some.ensures.steps
    ∙ shows_first c.in-Some.number.now c.in-Some.is_free.now c.next.new.self c.if-is_free.true)

pub returns : goal.returns
returns c =
    none_shown c.args.self.now.freed.entries
    (sym c.loop-number.invariant ∙ ap (λ es. shown_entries key_alone if_true es) c.in-None.ensures.steps.0)
