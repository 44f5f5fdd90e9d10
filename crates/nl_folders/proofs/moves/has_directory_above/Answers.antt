use Rattle.std.proofs.Common.{◌≡◌, ◌<◌, List, Bool, false, length, get_or, inr, ap, sym, subst, ◌∙◌, arith}
use Rattle.std.proofs.lemmas.List.{same_from_push}
use Rattle.nl_types.specs.Facts.TreeLaws.{same_path-equal}
use Rattle.nl_types.specs.Plain.Trees.{Tree}
use Rattle.nl_folders.proofs.SortedTrees.{path_read}
use Rattle.nl_folders.specs.Private.Sides.{path_at}
use Rattle.nl_folders.proofs.moves.has_directory_above.Goals as goal

pub returns-then-is_same_path : goal.returns-then-is_same_path
returns-then-is_same_path c comes p w dir name is =
    let s = c.args.sides.now in
    let wanted = c.wanted-wanted.result.now in
    let k = c.place_in-place.result in
    let above = c.in-Some.above.now in
    let within : k < length wanted = omega (arith, c.if-place-wanted.false) in
    let here : path_at s.wanted k ≡ above =
    ap (λ (tree : Tree). path_at tree k) (sym c.wanted-wanted.ensures.value)
    ∙ path_read wanted k c.index-wanted-place.result within
    ∙ sym c.as_slice.ensures
    ∙ same_path-equal c.as_slice.result.now above (sym c.is_same_path.ensures ∙ c.if-is_same_path.true) in
    let dir_is : above ≡ dir =
    (same_from_push above dir c.in-Some.field-0-0.now name (sym c.in-Some.ensures.cases.0 ∙ sym is)).0 in
    inr (
      k,
      subst (λ (tree : Tree). k < length tree) c.wanted-wanted.ensures.value within,
      here ∙ dir_is,
      ap (λ (flags : List Bool). get_or flags k false) (sym c.come.ensures.value) ∙ comes,
    )
