use Rattle.std.specs.Prelude.{◌≡◌, Some}
use Rattle.std.proofs.Common.{sym, ◌∙◌}
use Rattle.nl_layout.proofs.CheckpointReading.{checkpoint_at-Spells}
use Rattle.nl_layout.proofs.ImageReading.{segment_at-Spells, superblock_at-Spells}
use Rattle.nl_layout.proofs.laws.bytes_spell_one_value.Goals as goal

pub returns-clause-superblocks : goal.returns-clause-superblocks
returns-clause-superblocks c = λ bytes s t one other.
    sym (superblock_at-Spells bytes s one) ∙ superblock_at-Spells bytes t other

pub returns-clause-segments : goal.returns-clause-segments
returns-clause-segments c = λ bytes s t one other.
    let same : Some s ≡ Some t = sym (segment_at-Spells bytes s one) ∙ segment_at-Spells bytes t other in
    cc

pub returns-clause-checkpoints : goal.returns-clause-checkpoints
returns-clause-checkpoints c = λ bytes s t one other.
    let same : Some s ≡ Some t =
    sym (checkpoint_at-Spells bytes s one) ∙ checkpoint_at-Spells bytes t other in
    cc
