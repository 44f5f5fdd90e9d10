use Rattle.std.proofs.Common.{◌≡◌, ◌∙◌, replicate, sym}
use Rattle.std.proofs.lemmas.Bool.Decides.{Decides-eqb}
use Rattle.std.proofs.lemmas.Slice.Eq.{slice_eq-Decides}
use Rattle.nl_saving.proofs.extents.is_hole.Goals as goal

pub returns : goal.returns
returns c =
    let zeros : c.as_slice.result.now ≡ replicate 4096 0 = c.as_slice.ensures in
    let decides =
    slice_eq-Decides Decides-eqb c.args.bytes.now c.as_slice.result.now c.eq.result c.eq.ensures in
    (λ equal. decides.0 equal ∙ zeros, λ hole. decides.1 (hole ∙ sym zeros))
