use Rattle.nl_script.specs.Facts.Appending.{OnOk-then}
use Rattle.nl_script.proofs.telling.write_rows.Goals as goal

pub returns : goal.returns
returns g c = OnOk-then c.cp_lines.result _ _ _ _ _ c.in_ok-cp_header.ensures c.cp_lines.ensures
