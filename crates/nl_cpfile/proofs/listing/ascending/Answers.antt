use Rattle.std.proofs.Common.{◌∷◌, [], rules, tests}
use Rattle.std.proofs.lemmas.Iterator.{YieldsList-from_map, YieldsList-from_slice, YieldsList-from_take, items_from_collect}
use Rattle.std.proofs.lemmas.Iterator.Consumers.{YieldsList-at, YieldsList-from_chain, YieldsList-from_filter}
use Rattle.nl_types.specs.Plain.Rows.{is_shown}
use Rattle.nl_cpfile.specs.Tables.{checkpoint_row}
use Rattle.nl_cpfile.proofs.listing.ascending.Goals as goal

pub returns : goal.returns
returns c =
    items_from_collect _ c.collect.ensures.ran
    (YieldsList-from_take c.args.most
    (YieldsList-at c.take.ensures.source (YieldsList-from_filter _ (is_shown c.args.options.now)
    (YieldsList-at c.filter.ensures.source (YieldsList-from_map _ checkpoint_row
    (YieldsList-from_chain (YieldsList-from_slice c.args.earlier.now (cc))
    (YieldsList-from_slice (c.args.latest.now ∷ []) (cc)) (cc) (cc))
    c.map.ensures.closure (λ x r q k. search (rules, tests))))
    c.filter.ensures.closure (λ x b q k. search (rules, tests))))
    c.take.ensures.count)
