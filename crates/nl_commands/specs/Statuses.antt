-- How the program ends where its words are at fault.
use Rattle.std.specs.Prelude.{ℕ}
use Rattle.nl_commands.specs.declared.asked.ArgumentsFault.{ArgumentsFault}
use Rattle.nl_commands.specs.declared.asked.ArgumentsFault.TheVariants.{Misread, Memory}

abbrev pub fault_status : ArgumentsFault → ℕ
fault_status (Misread text) = 2
fault_status Memory = 1
