use Rattle.std.proofs.Common.{ap, ◌∙◌}
use Rattle.std.specs.Fmt.{decimal}
use Rattle.nl_script.specs.Texts.{right, left}
use Rattle.nl_script.specs.Facts.Appending.{Appends-same, OnOk-then}
use Rattle.nl_script.proofs.texts.segments.seg_line.Goals as goal

pub returns : goal.returns
returns g c =
    let r = c.write_all-4.result in
    let number =
    Appends-same _ _ _ _
    (ap (λ n. right 8 (decimal n)) (c.from.ensures ∙ c.get.ensures)) c.in_ok-right.ensures in
    let letters = Appends-same _ _ _ _ (ap (left 4) c.state_letters.ensures) c.in_ok-left.ensures in
    let used =
    Appends-same _ _ _ _ (ap (λ n. right 8 (decimal n)) c.from-2.ensures) c.in_ok-right-3.ensures in
    OnOk-then r _ _ _ _ _ number (OnOk-then r _ _ _ _ _ c.in_ok-write_all.ensures.bytes (
    OnOk-then r _ _ _ _ _ c.in_ok-right-2.ensures (OnOk-then r _ _ _ _ _ c.in_ok-write_all-2.ensures.bytes (
    OnOk-then r _ _ _ _ _ letters (OnOk-then r _ _ _ _ _ c.in_ok-write_all-3.ensures.bytes (
    OnOk-then r _ _ _ _ _ used
    (OnOk-then r _ _ _ _ _ c.in_ok-needed_column.ensures c.write_all-4.ensures.bytes)))))))
