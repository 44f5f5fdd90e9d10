use Rattle.std.proofs.Common.{List, ap, ◌∙◌}
use Rattle.std.specs.Iterator.Adapters.{zip_first, zip_second}
use Rattle.std.specs.Prelude.{reverse}
use Rattle.std.specs.Slice.Iter.{iter_rest}
use Rattle.std.proofs.lemmas.Slice.Zip.{either_empty_from_Zip}
use Rattle.nl_pins.specs.declared.rules.Dated.{Dated}
use Rattle.nl_backups.proofs.Candidates.{none_left}
use Rattle.nl_backups.proofs.pruning.candidates.Goals as goal

pub returns : goal.returns
returns c =
    let it = c.loop-row.row-iterator in
    c.reverse.ensures.items
    ∙ ap (λ (all : List Dated). reverse all)
    (none_left c.args.pins.now.lines c.loop-row.all.items _ (iter_rest (zip_first it)) (iter_rest (zip_second it))
    (either_empty_from_Zip it c.next.new.self c.next.result c.in-None.is c.next.ensures.steps) c.loop-row.invariant)
