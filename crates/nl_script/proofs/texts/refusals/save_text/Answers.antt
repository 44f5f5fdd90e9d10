use Rattle.std.proofs.Common.{ap}
use Rattle.nl_script.specs.RefusalTexts.{detail_text}
use Rattle.nl_script.specs.Facts.Appending.{Appends-same, OnOk-then}
use Rattle.nl_script.proofs.texts.refusals.save_text.Goals as goal

pub returns : goal.returns
returns g c =
    let r = c.write_all-2.result in
    let detail = Appends-same _ _ _ _ (ap detail_text c.detail_of.ensures) c.in_ok-detail.ensures in
    OnOk-then r _ _ _ _ _ c.in_ok-write_all.ensures.bytes (OnOk-then r _ _ _ _ _ c.in_ok-kind.ensures (
    OnOk-then r _ _ _ _ _ detail c.write_all-2.ensures.bytes))
