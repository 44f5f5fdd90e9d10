use Rattle.nl_script.specs.Facts.Appending.{Appends-same, OnOk-same, OnOk-then}
use Rattle.nl_script.proofs.texts.answers.name_line.Goals as goal

pub returns : goal.returns
returns g c =
    let r = c.write_all-2.result in
    OnOk-then r _ _ _ _ _ (Appends-same _ _ _ _ c.as_slice.ensures c.in_ok-write_all.ensures.bytes)
    (OnOk-same r _ _ _ _ c.name_end.ensures c.write_all-2.ensures.bytes)
