use Rattle.std.proofs.Common.{◌∙◌, ap, []}
use Rattle.std.specs.Fmt.{styled_text}
use Rattle.nl_script.proofs.Alignment.{blanks-are}
use Rattle.nl_script.specs.Facts.Appending.{OnOk-same}
use Rattle.nl_script.proofs.texts.columns.blanks.Goals as goal

pub returns : goal.returns
returns g c =
    let padded = ap (λ spec. styled_text spec []) c.laid_out.ensures ∙ blanks-are c.args.count in
    OnOk-same c.write.result _ _ _ _ padded c.write.ensures.bytes
