use Rattle.std.proofs.Common.{◌∙◌}
use Rattle.nl_tree.proofs.PathParts.{names-last, names-more, names-not}
use Rattle.nl_tree.proofs.paths.are_names.Goals as goal

pub returns-then-not-is_name : goal.returns-then-not-is_name
returns-then-not-is_name c =
    names-not c.args.parts.now c.loop-part.rest.now c.loop-part.invariant c.in-Some.part.now
    c.in-Some.behind.now c.in-Some.ensures c.if-not-is_name.ensures

pub loop-part-preserved : goal.loop-part-preserved
loop-part-preserved c =
    names-more c.args.parts.now c.loop-part.rest.now c.loop-part.invariant c.in-Some.part.now
    c.in-Some.behind.now c.in-Some.ensures c.if-not-is_name.ensures

pub returns : goal.returns
returns c =
    c.is_name-2.ensures
    ∙ names-last c.args.parts.now c.loop-part.rest.now c.loop-part.invariant c.in_default.ensures
