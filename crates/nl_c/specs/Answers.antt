-- What of answers goes into what a caller lends.
use Rattle.std.specs.Prelude.{◌≡◌, ℕ, List, [], length, Option, None, Some}
use Rattle.nl_types.specs.declared.kind.Kind.{Kind}
use Rattle.nl_types.specs.declared.kind.Kind.TheVariants.{File, Directory}
use Rattle.nl_types.specs.declared.reply.Answer.{Answer}
use Rattle.nl_types.specs.declared.reply.Answer.TheVariants as answer
use Rattle.nl_types.specs.declared.reply.Named.{Named}
use Rattle.nl_types.specs.declared.reply.Stat.TheVariants as found
use Rattle.nl_c.specs.Copying.{filled}
use Rattle.nl_c.specs.Statuses.{done, wrong_argument}
use Rattle.nl_c.specs.declared.answers.Object.{Object}

abbrev pub bytes_in : Answer → List ℕ
bytes_in (answer.Bytes bytes) = bytes
bytes_in _ = []

abbrev pub names_in : Answer → List Named
names_in (answer.Names names) = names
names_in _ = []

abbrev pub object_in : Answer → Object
object_in (answer.Stat (found.File size)) = record { kind = 0; size = size }
object_in (answer.Stat (found.Dir names)) = record { kind = 1; size = names }
object_in _ = record { kind = 0; size = 0 }

abbrev pub kind_number : Kind → ℕ
kind_number File = 0
kind_number Directory = 1

-- a name is told; where there is none, nothing is
abbrev pub IsNameTold : Option Named → (array : List ℕ) → Object → (status : ℕ) → List ℕ → Object → Type 0
IsNameTold None array object status new_array new_object =
    (status ≡ wrong_argument) × (new_array ≡ array) × (new_object ≡ object)
IsNameTold (Some named) array object status new_array new_object =
    (status ≡ done) × (new_array ≡ filled array named.name)
    × (new_object ≡ record { kind = kind_number named.kind; size = length named.name })
