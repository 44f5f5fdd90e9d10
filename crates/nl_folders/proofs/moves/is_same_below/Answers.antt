use Rattle.std.proofs.Common.{◌≡◌, true, drop, ap, sym, ◌∙◌}
use Rattle.nl_types.specs.Plain.Paths.{Path, same_path}
use Rattle.nl_folders.proofs.Sameness.{entry_by}
use Rattle.nl_folders.specs.Private.Moved.{cut}
use Rattle.nl_folders.proofs.moves.is_same_below.Goals as goal

pub returns-then-is_same_path : goal.returns-then-is_same_path
returns-then-is_same_path c same =
    let one = cut c.args.one_cut c.args.one.now in
    let other = cut c.args.other_cut c.args.other.now in
    let front : c.rest_of-one_rest.result.now ≡ one.0 =
    c.rest_of-one_rest.ensures ∙ ap (λ (path : Path). drop c.args.one_cut path) c.as_slice.ensures in
    let back : c.rest_of-other_rest.result.now ≡ other.0 =
    c.rest_of-other_rest.ensures ∙ ap (λ (path : Path). drop c.args.other_cut path) c.as_slice-2.ensures in
    (entry_by one other true c.is_same_object.result
    (sym c.if-is_same_path.true ∙ c.is_same_path.ensures
    ∙ ap (λ (path : Path). same_path path c.rest_of-other_rest.result.now) front
    ∙ ap (same_path one.0) back)
    c.is_same_object.ensures).0 same
