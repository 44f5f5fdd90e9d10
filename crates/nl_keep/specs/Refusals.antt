-- When storing, reading and forgetting are refused.
use Rattle.std.specs.Prelude.{◌≡◌, ◌⊎◌, ℕ, ◌+◌, ◌<◌, ◌≤◌, Any, IsTrue, List, [], ◌∷◌, length, None, false}
use Rattle.std.specs.List.{list_all}
use Rattle.nl_types.specs.declared.error.VolError.{VolError}
use Rattle.nl_types.specs.declared.error.VolError.TheVariants.{BadName, BadPath, Fault, Latest, Memory, Mounted, NoCheckpoint, NoSpace, NumbersSpent, TooBig}
use Rattle.nl_types.specs.declared.reply.Object.{Object}
use Rattle.nl_types.specs.declared.reply.Object.TheVariants.{File}
use Rattle.nl_types.specs.Plain.Limits.{checkpoint_number_limit, file_limit, path_limit}
use Rattle.nl_types.specs.Plain.Paths.{Path, is_name}
use Rattle.nl_types.specs.Plain.Trees.{Tree, IsTree}
use Rattle.nl_types.specs.Plain.Worlds.{World, copy_at, is_mounted, latest}
use Rattle.nl_folders.specs.declared.folder.FolderError.{FolderError}
use Rattle.nl_folders.specs.declared.folder.FolderError.TheVariants as folder
use Rattle.nl_folders.specs.Refusals.{IsTooLong, RefusesPath}
use Rattle.nl_keep.specs.declared.storing.KeepError.{KeepError}
use Rattle.nl_keep.specs.declared.storing.KeepError.TheVariants.{Disordered, Refused}
use Rattle.nl_keep.specs.Forgotten.{ForgetsOne, MakesPlain}

-- ---- storing

-- no call can make the entry: a name of its path is none, no call can name the path, or the file is too long
abbrev pub RefusesEntry : Path × Object → VolError → Type 0
RefusesEntry e BadName = list_all is_name e.0 ≡ false
RefusesEntry e BadPath = IsTooLong e.0
RefusesEntry e TooBig = (bytes : List ℕ) × (e.1 ≡ File bytes) × (file_limit < length bytes)
RefusesEntry e _ = ⊥

-- calls can't make one of the entries, these are too many, or they are no tree
abbrev pub RefusesEntries : Tree → KeepError → Type 0
RefusesEntries entries (Refused error) =
    Any (λ e. RefusesEntry e error) entries ⊎ ((error ≡ TooBig) × (path_limit + 1 < length entries))
RefusesEntries entries Disordered = IsTree entries → ⊥

-- after checkpoint n no snapshot is taken: the numbers are spent, or space lacks, the device fails, or memory
-- lacks
abbrev pub RefusesSnapshot : ℕ → KeepError → Type 0
RefusesSnapshot n (Refused NumbersSpent) = checkpoint_number_limit ≤ n + 1
RefusesSnapshot n (Refused NoSpace) = Unit {0}
RefusesSnapshot n (Refused Fault) = Unit {0}
RefusesSnapshot n (Refused Memory) = Unit {0}
RefusesSnapshot n _ = ⊥

-- calls can't make the wanted tree, or can't name the current one's paths, or no snapshot is taken
abbrev pub RefusesStore : (wanted : Tree) → World → KeepError → Type 0
RefusesStore wanted w e = RefusesEntries wanted e ⊎ RefusesEntries w.tree e ⊎ RefusesSnapshot (latest w) e

-- a folder's refusal, passed on
abbrev pub passed_on : FolderError → KeepError
passed_on (folder.Refused error) = Refused error
passed_on folder.Unread = Disordered
passed_on folder.Disordered = Disordered

-- ---- reading

-- the tree answers for the file by this error, memory lacks, or no call can name the path
abbrev pub RefusesFile : Path → VolError → FolderError → Type 0
RefusesFile path error e = (e ≡ folder.Refused error) ⊎ RefusesPath path e

-- ---- forgetting

-- a checkpoint stays: it isn't kept, a mount shows it, it is the latest one, or memory lacks
abbrev pub RefusesToForget : ℕ → World → VolError → Type 0
RefusesToForget n w NoCheckpoint = copy_at w n ≡ None
RefusesToForget n w Mounted = IsTrue (is_mounted w.mounts n)
RefusesToForget n w Latest = n ≡ latest w
RefusesToForget n w Memory = Unit {0}
RefusesToForget n w _ = ⊥

-- the first ones are forgotten, and the next one stays
abbrev pub RefusesToForgetAll : List ℕ → World → VolError → Type 0
RefusesToForgetAll [] w e = ⊥
RefusesToForgetAll (n ∷ numbers) w e =
    RefusesToForget n w e ⊎ ((mid : World) × ForgetsOne n w mid × RefusesToForgetAll numbers mid e)

-- the first ones are made plain, and the next one isn't
abbrev pub RefusesPlain : List ℕ → World → VolError → Type 0
RefusesPlain [] w e = ⊥
RefusesPlain (n ∷ numbers) w e =
    RefusesToForget n w e ⊎ ((mid : World) × MakesPlain n w mid × RefusesPlain numbers mid e)
