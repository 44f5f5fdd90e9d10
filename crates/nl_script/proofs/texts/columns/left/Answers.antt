use Rattle.std.proofs.Common.{◌≡◌, ◌-◌, ap, arith, length}
use Rattle.nl_script.specs.Texts.{blanks}
use Rattle.nl_script.specs.Facts.Appending.{Appends-same, OnOk-same, OnOk-then}
use Rattle.nl_script.proofs.texts.columns.left.Goals as goal

pub returns : goal.returns
returns g c =
    let r = c.blanks.result in
    let short : c.saturating_sub.result ≡ c.args.width - length c.args.text.now = omega arith in
    OnOk-then r _ _ _ _ _ (Appends-same _ _ _ _ c.as_bytes.ensures.value c.in_ok-write_all.ensures.bytes)
    (OnOk-same r _ _ _ _ (ap blanks short) c.blanks.ensures)
