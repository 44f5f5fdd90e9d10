use Rattle.nl_script.specs.Facts.Appending.{OnOk-then}
use Rattle.nl_script.proofs.texts.refusals.unread_text.Goals as goal

pub returns : goal.returns
returns g c =
    OnOk-then c.write_all-2.result _ _ _ _ _ c.in_ok-write_all.ensures.bytes c.write_all-2.ensures.bytes
