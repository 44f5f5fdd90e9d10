use Rattle.std.proofs.Common.{◌∙◌, ◌<◌, length, subst, option_copied}
use Rattle.nl_folders.proofs.Handing.{alike_passed}
use Rattle.nl_folders.proofs.ReadEntries.{entry_read, found_there, lacks_by_read}
use Rattle.nl_types.specs.Plain.Trees.{Tree, lookup}
use Rattle.nl_folders.proofs.plans.to_make_from.Goals as goal

pub loop-index-preserved : goal.loop-index-preserved
loop-index-preserved c =
    let s = c.args.sides.now in
    let k = c.loop-index.index in
    let f = c.index-wanted-index.result in
    alike_passed s c.args.done k f c.wanted-wanted.ensures.told c.loop-index.invariant
    (subst (λ (t : Tree). k < length t) c.wanted-wanted.ensures.value c.loop-index-test.true)
    (entry_read s.wanted c.wanted-wanted.result.now k f c.wanted-wanted.ensures.value c.index-wanted-index.is)
    (λ sorted.
    lacks_by_read s.come c.come-come.result.now k f.1 (lookup s.present f.0)
    (option_copied c.find_near-found.result.object) c.is_lacking.result c.come-come.ensures.value
    (found_there s.present c.present-present.result.now f.0 c.as_slice.result.now
    (option_copied c.find_near-found.result.object) c.present-present.ensures.value c.as_slice.ensures
    c.find_near-found.ensures sorted)
    c.is_lacking.ensures
    ∙ c.if-is_lacking.false)
