use Rattle.nl_image.proofs.OneParts.{images_have_one_parts}
use Rattle.nl_image.proofs.laws.images_have_one_list_of_parts.Goals as goal

pub returns : goal.returns
returns c = images_have_one_parts (record {
  superblocks = c.bytes_spell_one_value.ensures.superblocks;
  segments = c.bytes_spell_one_value.ensures.segments;
  checkpoints = c.bytes_spell_one_value.ensures.checkpoints;
  numbers = c.bytes_spell_one_entry.ensures;
})
