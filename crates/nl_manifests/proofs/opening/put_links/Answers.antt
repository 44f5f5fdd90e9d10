use Rattle.std.proofs.Common.{◌+◌, drop, refl}
use Rattle.std.specs.List.{flat_map}
use Rattle.nl_manifests.specs.Private.Opening.{link_part}
use Rattle.nl_manifests.proofs.Putting.{Putting-done, Putting-more, all_passed, flat_map-drop}
use Rattle.nl_manifests.proofs.opening.put_links.Goals as goal

pub loop-line-init : goal.loop-line-init
loop-line-init c = λ sorted. record { left = refl; ordered = sorted }

pub loop-line-preserved : goal.loop-line-preserved
loop-line-preserved c =
    let part = link_part c.args.tree.now.all.now c.args.directory.now in
    let lines = c.args.lines.now in
    let i = c.loop-line.line-index in
    let line = c.line-item.result in
    Putting-more _ _ _ (part line) (flat_map part (drop (i + 1) lines)) (flat_map part (drop i lines)) _
    (flat_map-drop part lines i line c.loop-line-test.true c.line-item.is) c.loop-line.invariant
    c.in_ok-put_link.ensures

pub returns : goal.returns
returns c =
    let part = link_part c.args.tree.now.all.now c.args.directory.now in
    Putting-done _ _ (flat_map part (drop c.loop-line.line-index c.args.lines.now)) _
    (all_passed part c.args.lines.now c.loop-line.line-index c.loop-line-test.false) c.loop-line.invariant
