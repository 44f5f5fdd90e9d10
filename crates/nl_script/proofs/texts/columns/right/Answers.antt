use Rattle.std.proofs.Common.{◌∙◌, ap}
use Rattle.std.specs.Fmt.{styled_decimal}
use Rattle.nl_script.proofs.Alignment.{right-is}
use Rattle.nl_script.specs.Facts.Appending.{OnOk-same}
use Rattle.nl_script.proofs.texts.columns.right.Goals as goal

pub returns : goal.returns
returns g c =
    let padded =
    ap (λ spec. styled_decimal spec c.args.number) c.laid_out.ensures
    ∙ right-is c.args.width c.args.number in
    OnOk-same c.write.result _ _ _ _ padded c.write.ensures.bytes
