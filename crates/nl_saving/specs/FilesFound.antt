-- What stands at a path, by what the system tells of it.
use Rattle.std.specs.Prelude.{◌≡◌, Option, None, Some}
use Rattle.std.specs.Fs.{IsFile, file_type, metadata_len}
use Rattle.std.specs.declared.fs.attrs.Metadata.{Metadata}
use Rattle.nl_saving.specs.declared.standing.FileState.{FileState}
use Rattle.nl_saving.specs.declared.standing.Found.{Found}
use Rattle.nl_saving.specs.declared.standing.Found.TheVariants.{Nothing, Regular, Other}

-- nothing, a regular file of this size, or anything else
abbrev pub IsFoundOf : Option Metadata → Found → Type 0
IsFoundOf None found = found ≡ Nothing
IsFoundOf (Some told) Nothing = ⊥
IsFoundOf (Some told) (Regular state) = IsFile (file_type told) × (state.size ≡ metadata_len told)
IsFoundOf (Some told) Other = IsFile (file_type told) → ⊥

-- one file by its device and its inode, in whatever state
pub record AreOneFile (a b : FileState) : Type 0 where
  pub device : a.device ≡ b.device
  pub inode : a.inode ≡ b.inode
