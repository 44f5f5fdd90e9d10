use Rattle.std.proofs.Common.{◌+◌, [], drop, refl}
use Rattle.nl_types.specs.declared.reply.Object.{Object}
use Rattle.nl_types.specs.Plain.Paths.{Path}
use Rattle.nl_manifests.specs.Private.Opening.{object_part, parts}
use Rattle.nl_manifests.proofs.Putting.{Putting-done, Putting-more, all_passed, flat_map-drop}
use Rattle.nl_manifests.proofs.opening.put_objects.Goals as goal

pub loop-entry-preserved : goal.loop-entry-preserved
loop-entry-preserved c =
    let tree = c.args.tree.now.all.now in
    let all = c.args.all.now.all.now in
    let part = λ (e : Path × Object). object_part tree all e.0 e.1 in
    let i = c.loop-entry.entry-index in
    let entry = c.entry-item.result in
    Putting-more [] _ _ (part entry) (parts tree all (drop (i + 1) tree)) (parts tree all (drop i tree)) _
    (flat_map-drop part tree i entry c.loop-entry-test.true c.entry-item.is) c.loop-entry.invariant
    c.in_ok-put_object.ensures

pub returns : goal.returns
returns c =
    let tree = c.args.tree.now.all.now in
    let all = c.args.all.now.all.now in
    let part = λ (e : Path × Object). object_part tree all e.0 e.1 in
    rw c.from_vec.ensures
    (Putting-done [] _ (parts tree all (drop c.loop-entry.entry-index tree)) _
    (all_passed part tree c.loop-entry.entry-index c.loop-entry-test.false) c.loop-entry.invariant refl)
