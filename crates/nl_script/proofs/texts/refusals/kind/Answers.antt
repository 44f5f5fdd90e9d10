use Rattle.std.proofs.Common.{◌∙◌, ◌++◌, ◌∷◌, ap, codes}
use Rattle.std.specs.Fmt.{decimal}
use Rattle.nl_types.specs.Plain.Refusals.{refusal_number}
use Rattle.nl_script.specs.Texts.{Text}
use Rattle.nl_script.specs.Facts.Appending.{OnOk-same}
use Rattle.nl_script.proofs.texts.refusals.kind.Goals as goal

pub returns : goal.returns
returns g c =
    let number = ap (λ n. codes "error " ++ (decimal n ++ (32 ∷ c.name.result.now))) c.number.ensures in
    let name =
    ap (λ (t : Text). codes "error " ++ (decimal (refusal_number c.args.error) ++ (32 ∷ t)))
    c.name.ensures in
    OnOk-same c.write.result _ _ _ _ (number ∙ name) c.write.ensures.bytes
