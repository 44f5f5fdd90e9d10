use Rattle.std.proofs.Common.{◌++◌, ◌∷◌, [], Bool, List, false, ap, ◌∙◌}
use Rattle.std.proofs.lemmas.List.{replicate_more}
use Rattle.nl_dat.proofs.images.free_blocks.Goals as goal

pub loop-preserved : goal.loop-preserved
loop-preserved c =
    c.in_ok-push.ensures.items
    ∙ (ap (λ (taken : List Bool). taken ++ false ∷ []) c.loop.invariant ∙ replicate_more c.loop.counter false)
