use Rattle.std.proofs.Common.{sym, ◌∙◌}
use Rattle.nl_dat.proofs.EntryReading.{number_at-Spells}
use Rattle.nl_dat.proofs.laws.bytes_spell_one_entry.Goals as goal

pub returns : goal.returns
returns c = λ bytes s t one other. sym (number_at-Spells bytes s one) ∙ number_at-Spells bytes t other
