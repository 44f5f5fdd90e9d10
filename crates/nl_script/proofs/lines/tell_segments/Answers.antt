use Rattle.nl_script.specs.Facts.Appending.{OnOk-then}
use Rattle.nl_script.proofs.lines.tell_segments.Goals as goal

pub returns : goal.returns
returns g c = OnOk-then c.seg_lines.result _ _ _ _ _ c.in_ok-seg_header.ensures c.seg_lines.ensures
