use Rattle.nl_script.specs.CheckpointLines.{cp_text}
use Rattle.nl_script.specs.Facts.Appending.{goes_on-more, flat_map-drop}
use Rattle.nl_script.proofs.texts.checkpoints.cp_lines.Goals as goal

pub loop-row-preserved : goal.loop-row-preserved
loop-row-preserved g c =
    let next =
    flat_map-drop cp_text c.args.rows.now c.loop-row.row-index c.row-item.result c.loop-row-test.true
    c.row-item.is in
    goes_on-more _ _ _ _ _ _ _ next c.loop-row.invariant c.in_ok-cp_line.ensures
