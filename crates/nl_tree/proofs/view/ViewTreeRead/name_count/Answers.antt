use Rattle.std.proofs.Common.{◌<◌, ◌^◌, sym, ap, subst, ◌∙◌}
use Rattle.nl_tree.specs.Held.{Holding, held_count}
use Rattle.nl_tree.proofs.CurrentReads.{names_countable}
use Rattle.nl_tree.proofs.view.ViewTreeRead.name_count.Goals as goal

pub returns : goal.returns
returns g c = λ held h.
    let same = ap (λ (holding : Holding). held_count (holding c.args.dir)) h.1.2 in
    c.name_count.ensures h.1.0 h.1.1
    (subst (λ count. count < 2 ^ 64) same (names_countable held h.0 c.args.dir))
    ∙ sym same
