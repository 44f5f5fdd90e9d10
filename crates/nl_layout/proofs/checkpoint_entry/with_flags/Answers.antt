use Rattle.std.proofs.Common.{◌∙◌}
use Rattle.byteorder.specs.Endian.{little_number}
use Rattle.nl_layout.proofs.CheckpointReading.{from_place, with_fields}
use Rattle.nl_layout.proofs.checkpoint_entry.with_flags.Goals as goal

pub returns : goal.returns
returns c =
    let bytes = c.args.bytes.now in
    with_fields bytes c.args.told _ _ _ _ _
    (c.new.ensures ∙ c.read_u64.ensures) (c.read_u64-2.ensures ∙ from_place (little_number 8) bytes 8)
    (c.read_u64-3.ensures ∙ from_place (little_number 8) bytes 24)
    c.root_fields.ensures (c.read_u64-4.ensures ∙ from_place (little_number 8) bytes 40)
