use Rattle.nl_script.specs.AnswerTexts.{name_text}
use Rattle.nl_script.specs.Facts.Appending.{goes_on-more, flat_map-drop}
use Rattle.nl_script.proofs.texts.answers.name_lines.Goals as goal

pub loop-named-preserved : goal.loop-named-preserved
loop-named-preserved g c =
    let next =
    flat_map-drop name_text c.args.names.now c.loop-named.named-index c.named-item.result
    c.loop-named-test.true c.named-item.is in
    goes_on-more _ _ _ _ _ _ _ next c.loop-named.invariant c.in_ok-name_line.ensures
