use Rattle.std.proofs.Common.{◌≡◌, ℕ, drop, subst, ◌∙◌, arith}
use Rattle.nl_folders.proofs.SortedTrees.{first_found_from}
use Rattle.nl_folders.specs.Private.Looking.{BeginsNotBelow}
use Rattle.nl_folders.proofs.looking.place_in.Goals as goal

pub returns-clause-found : goal.returns-clause-found
returns-clause-found g c sorted =
    let entries = c.args.entries.now in
    let path = c.args.path.now in
    let span = c.loop-span.span in
    let b = c.loop-span.invariant in
    let met : span.high ≡ span.low = omega (arith, b.ordered, c.loop-span-test.false) in
    b.passed sorted
    ∙ first_found_from entries span.low path sorted
    (subst (λ (n : ℕ). BeginsNotBelow path (drop n entries)) met (b.ended sorted))
