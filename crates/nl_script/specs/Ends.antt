-- The status that the program ends with.
use Rattle.std.specs.Prelude.{ℕ, ◌||◌, if◌then◌else◌, is_some}
use Rattle.nl_script.specs.declared.texts.ends.Done.{Done}

-- what the process ends with
abbrev pub exit_status : Done → ℕ
exit_status done = if done.misread then 2 else if done.refused || is_some done.failed then 1 else 0
