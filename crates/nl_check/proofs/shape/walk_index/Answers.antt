use Rattle.std.proofs.Common.{◌∙◌, ap, sym}
use Rattle.std.specs.Prelude.{option_copied}
use Rattle.nl_types.specs.Blocks.Roots.{Pages}
use Rattle.nl_check.specs.Facts.Below.{some-both}
use Rattle.nl_check.proofs.KnownInodes.{block-of-hole, block-of-page, known-hole}
use Rattle.nl_check.proofs.shape.walk_index.Goals as goal

pub returns-in_ok-now-in-Some-clause-yes : goal.returns-in_ok-now-in-Some-clause-yes
returns-in_ok-now-in-Some-clause-yes g c =
    let pages : Pages = g.V.VRead.pages c.args.store.now in
    some-both c.in_ok-now-in-Some.now c.in_ok-now-in-Some.ensures.yes
    c.in_ok-now-in-Some.ensures.block
    (λ now known block root at k.
    let there = sym at ∙ ap option_copied c.in-Some.is in
    (known root there k, block-of-page pages root c.args.index c.in-Some.page.now there block))

pub returns-in_ok-now-in-Some-clause-no : goal.returns-in_ok-now-in-Some-clause-no
returns-in_ok-now-in-Some-clause-no g c = λ none root at k s.
    c.in_ok-now-in-Some.ensures.no none root (sym at ∙ ap option_copied c.in-Some.is) k s

pub returns-in-None-clause-yes : goal.returns-in-None-clause-yes
returns-in-None-clause-yes g c = λ root at k.
    let pages : Pages = g.V.VRead.pages c.args.store.now in
    let none = sym (ap option_copied c.in-None.is) ∙ at in (
      known-hole pages root c.args.index c.args.found.now.met c.args.found.now.kinds c.args.sound none k,
      block-of-hole pages root c.args.index (sym none),
    )
