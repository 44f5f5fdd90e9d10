use Rattle.nl_script.specs.Facts.Appending.{OnOk-then}
use Rattle.nl_script.proofs.texts.refusals.taken_text.Goals as goal

pub returns : goal.returns
returns g c =
    let r = c.write_all-6.result in
    OnOk-then r _ _ _ _ _ c.in_ok-write_all.ensures.bytes (
    OnOk-then r _ _ _ _ _ c.in_ok-write_all-2.ensures.bytes (
    OnOk-then r _ _ _ _ _ c.in_ok-write_all-3.ensures.bytes (
    OnOk-then r _ _ _ _ _ c.in_ok-write_all-4.ensures.bytes (
    OnOk-then r _ _ _ _ _ c.in_ok-write_all-5.ensures.bytes c.write_all-6.ensures.bytes))))
