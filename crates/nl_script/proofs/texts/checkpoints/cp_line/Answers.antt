use Rattle.std.proofs.Common.{ap}
use Rattle.std.specs.Fmt.{decimal}
use Rattle.nl_script.specs.Texts.{right, left}
use Rattle.nl_script.specs.Facts.Appending.{Appends-same, OnOk-then}
use Rattle.nl_script.proofs.texts.checkpoints.cp_line.Goals as goal

pub returns : goal.returns
returns g c =
    let r = c.write_all-5.result in
    let number = Appends-same _ _ _ _ (ap (λ n. right 8 (decimal n)) c.get.ensures) c.in_ok-right.ensures in
    let mode = Appends-same _ _ _ _ (ap (left 4) c.mode_name.ensures) c.in_ok-left.ensures in
    let flag = Appends-same _ _ _ _ (ap (left 3) c.minor_flag.ensures) c.in_ok-left-2.ensures in
    OnOk-then r _ _ _ _ _ number (OnOk-then r _ _ _ _ _ c.in_ok-write_all.ensures.bytes (
    OnOk-then r _ _ _ _ _ c.in_ok-right-2.ensures (OnOk-then r _ _ _ _ _ c.in_ok-write_all-2.ensures.bytes (
    OnOk-then r _ _ _ _ _ mode (OnOk-then r _ _ _ _ _ c.in_ok-write_all-3.ensures.bytes (
    OnOk-then r _ _ _ _ _ flag (OnOk-then r _ _ _ _ _ c.in_ok-write_all-4.ensures.bytes (
    OnOk-then r _ _ _ _ _ c.in_ok-right-3.ensures c.write_all-5.ensures.bytes))))))))
