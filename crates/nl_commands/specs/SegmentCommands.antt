-- Commands on segments and mounts: what they may be given, and what they ask for then.
use Rattle.std.specs.Prelude.{List, [], ◌∷◌, codes, Result, Ok}
use Rattle.clap.specs.Words.{Row, Rule}
use Rattle.nl_types.specs.Plain.Calls.{and_then}
use Rattle.nl_commands.specs.declared.command.Command.{Command}
use Rattle.nl_commands.specs.declared.command.Command.TheVariants.{Lssu, Mount, Resize, Umount}
use Rattle.nl_commands.specs.declared.error.LineError.{LineError}
use Rattle.nl_commands.specs.Grammars.{flag_rule, is_used, letter, operand_rule}
use Rattle.nl_commands.specs.GivenOperands.{number_at}

-- lssu [-a] [-l]
abbrev pub lssu_rules : List Rule
lssu_rules = flag_rule (codes "all") (letter (codes "a")) ∷ flag_rule (codes "long") (letter (codes "l")) ∷ []

abbrev pub lssu_given : List Row → Command
lssu_given rows = Lssu (is_used (codes "all") rows) (is_used (codes "long") rows)

-- mount N
abbrev pub mount_rules : List Rule
mount_rules = operand_rule (codes "checkpoint") ∷ []

abbrev pub mount_given : List Row → Result Command LineError
mount_given rows = and_then (number_at (codes "checkpoint") rows) (λ checkpoint. Ok (Mount checkpoint))

-- umount M
abbrev pub umount_rules : List Rule
umount_rules = operand_rule (codes "mount") ∷ []

abbrev pub umount_given : List Row → Result Command LineError
umount_given rows = and_then (number_at (codes "mount") rows) (λ mount. Ok (Umount mount))

-- resize S
abbrev pub resize_rules : List Rule
resize_rules = operand_rule (codes "segments") ∷ []

abbrev pub resize_given : List Row → Result Command LineError
resize_given rows = and_then (number_at (codes "segments") rows) (λ segments. Ok (Resize segments))
