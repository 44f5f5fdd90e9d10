use Rattle.nl_damage.proofs.WholeSections.{are-whole, image-sections}
use Rattle.nl_damage.proofs.sections.Sections.of_whole.Goals as goal

pub returns-then-image-sections-clause-whole : goal.returns-then-image-sections-clause-whole
returns-then-image-sections-clause-whole c =
    are-whole c.args.image.now c.in_ok-sections.sections c.in_ok-sections.ensures.sections
    c.if-image-sections.true

pub returns-then-image-sections-clause-image : goal.returns-then-image-sections-clause-image
returns-then-image-sections-clause-image c =
    let is = c.in_ok-sections.ensures in
    image-sections c.args.image.now c.in_ok-sections.sections is.sections is.meets is.few c.if-image-sections.true
