-- Manifests that are in a handle.
use Rattle.std.specs.Prelude.{◌≡◌, ◌⊎◌, ℕ, ◌<◌, ◌==◌, ◌&&◌, Bool, true, if◌then◌else◌, nat_lt, List, [], ◌∷◌, ◌++◌, length, slice_get, Option, None, Some, is_some, Result, Ok, Err}
use Rattle.nl_manifests.specs.declared.attributes.Attributes.{Attributes}
use Rattle.nl_manifests.specs.declared.manifest.Line.{Line}
use Rattle.nl_manifests.specs.declared.manifest.LineKind.{LineKind}
use Rattle.nl_manifests.specs.declared.manifest.LineKind.TheVariants.{File, Link}
use Rattle.nl_manifests.specs.declared.manifest.Manifest.{Manifest}
use Rattle.nl_manifests.specs.Manifests.{printed}
use Rattle.nl_manifests.specs.Readings.{manifest_in}
use Rattle.nl_c.specs.Calls.{IsClosed}
use Rattle.nl_c.specs.Copying.{filled}
use Rattle.nl_c.specs.Statuses.{closed, done, memory, wrong_argument}
use Rattle.nl_c.specs.declared.held.Held.{Held}
use Rattle.nl_c.specs.declared.manifests.AttributesTold.{AttributesTold}
use Rattle.nl_c.specs.declared.manifests.LineTold.{LineTold}

-- ---- attributes

abbrev pub attributes_told : Attributes → AttributesTold
attributes_told a =
    record {
      mode = a.mode;
      owner = a.owner;
      group = a.group;
      is_negative = if a.time.is_negative then 1 else 0;
      seconds = a.time.seconds;
      nanoseconds = a.time.nanoseconds;
    }

-- the numbers are of their kinds
abbrev pub are_told : AttributesTold → Bool
are_told t =
    (nat_lt t.mode 4096 && (nat_lt t.owner 4294967296 && nat_lt t.group 4294967296))
    && (nat_lt t.is_negative 2 && nat_lt t.nanoseconds 1000000000)

abbrev pub attributes_in : AttributesTold → Option Attributes
attributes_in t =
    if are_told t then Some (record {
      mode = t.mode;
      owner = t.owner;
      group = t.group;
      time = record { is_negative = t.is_negative == 1; seconds = t.seconds; nanoseconds = t.nanoseconds };
    })
    else None

-- ---- lines

-- a file has none
abbrev pub target_in : LineKind → List ℕ
target_in File = []
target_in (Link target) = target

abbrev pub kind_in : List ℕ → LineKind
kind_in target = if length target == 0 then File else Link target

abbrev pub HasLine : (name target : List ℕ) → Attributes → Line → Type 0
HasLine name target attributes line =
    (line.name ≡ name) × (line.kind ≡ kind_in target) × (line.attributes ≡ attributes)

abbrev pub line_told : Line → LineTold
line_told line =
    record {
      name_size = length line.name;
      target_size = length (target_in line.kind);
      attributes = attributes_told line.attributes;
    }

abbrev pub IsLineTold : Option Line → (name target : List ℕ) → LineTold → (status : ℕ)
    → List ℕ → List ℕ → LineTold → Type 0
IsLineTold None name target told status new_name new_target new_told =
    (status ≡ wrong_argument) × (new_name ≡ name) × (new_target ≡ target) × (new_told ≡ told)
IsLineTold (Some line) name target told status new_name new_target new_told =
    (status ≡ done) × (new_name ≡ filled name line.name) × (new_target ≡ filled target (target_in line.kind))
    × (new_told ≡ line_told line)

-- of the manifest that is in the handle
abbrev pub IsLineOf : Option Held → (index : ℕ) → (name target : List ℕ) → LineTold → (status : ℕ)
    → List ℕ → List ℕ → LineTold → Type 0
IsLineOf None index name target told status new_name new_target new_told =
    (status ≡ closed) × (new_name ≡ name) × (new_target ≡ target) × (new_told ≡ told)
IsLineOf (Some h) index name target told status new_name new_target new_told =
    IsLineTold (slice_get h.manifest.lines index) name target told status new_name new_target new_told

-- ---- what is left in the handle

abbrev pub having_manifest : Manifest → Held → Held
having_manifest m h = record h { manifest = m }

-- nothing is told, and the handle stays
abbrev pub IsUnread : Option Held → AttributesTold → (count : ℕ) → Option Held → AttributesTold → ℕ → Type 0
IsUnread was own count after new_own new_count = (after ≡ was) × (new_own ≡ own) × (new_count ≡ count)

abbrev pub IsFoundIn : Held → Option Manifest → AttributesTold → (count : ℕ) → (status : ℕ)
    → Option Held → AttributesTold → ℕ → Type 0
IsFoundIn h None own count status after new_own new_count =
    (status ≡ wrong_argument) × IsUnread (Some h) own count after new_own new_count
IsFoundIn h (Some m) own count status after new_own new_count =
    (status ≡ done) × (after ≡ Some (having_manifest m h))
    × (new_own ≡ attributes_told m.own) × (new_count ≡ length m.lines)

-- the manifest of the bytes is left; or there is no memory
abbrev pub IsManifestRead : Option Held → Option Manifest → AttributesTold → (count : ℕ) → (status : ℕ)
    → Option Held → AttributesTold → ℕ → Type 0
IsManifestRead None found own count status after new_own new_count =
    (status ≡ closed) × IsUnread None own count after new_own new_count
IsManifestRead (Some h) found own count status after new_own new_count =
    ((status ≡ memory) × IsUnread (Some h) own count after new_own new_count)
    ⊎ IsFoundIn h found own count status after new_own new_count

abbrev pub IsBegun : Option Held → Option Attributes → (status : ℕ) → Option Held → Type 0
IsBegun None own status after = IsClosed status after
IsBegun (Some h) None status after = (status ≡ wrong_argument) × (after ≡ Some h)
IsBegun (Some h) (Some own) status after =
    (status ≡ done) × (after ≡ Some (having_manifest (record { own = own; lines = [] }) h))

abbrev pub with_line : Line → Held → Held
with_line line h = having_manifest (record { own = h.manifest.own; lines = h.manifest.lines ++ line ∷ [] }) h

abbrev pub IsLineAdded : Option Held → (name target : List ℕ) → Attributes → (status : ℕ) → Option Held → Type 0
IsLineAdded None name target attributes status after = IsClosed status after
IsLineAdded (Some h) name target attributes status after =
    (line : Line) × HasLine name target attributes line × (status ≡ done) × (after ≡ Some (with_line line h))

-- the line is added; or there is no memory, and nothing is done
abbrev pub IsAdded : Option Held → (name target : List ℕ) → Option Attributes → (status : ℕ) → Option Held → Type 0
IsAdded was name target None status after = (status ≡ wrong_argument) × (after ≡ was)
IsAdded was name target (Some attributes) status after =
    ((status ≡ memory) × (after ≡ was)) ⊎ IsLineAdded was name target attributes status after

-- ---- its bytes

-- They are those of the manifest, and some manifest is read from them; else none is, or memory lacks.
abbrev pub IsPrintedIn : Manifest → Result (List ℕ) ℕ → Type 0
IsPrintedIn m (Ok bytes) = (bytes ≡ printed m) × (is_some (manifest_in bytes) ≡ true)
IsPrintedIn m (Err status) = (status ≡ memory) ⊎ ((status ≡ wrong_argument) × (manifest_in (printed m) ≡ None))

abbrev pub IsBytesLeft : Held → Result (List ℕ) ℕ → (size : ℕ) → (status : ℕ) → Option Held → ℕ → Type 0
IsBytesLeft h (Ok bytes) size status after new_size =
    (status ≡ done) × (after ≡ Some (record h { image = bytes })) × (new_size ≡ length bytes)
IsBytesLeft h (Err e) size status after new_size = (status ≡ e) × (after ≡ Some h) × (new_size ≡ size)

abbrev pub IsManifestLeft : Option Held → (size : ℕ) → (status : ℕ) → Option Held → ℕ → Type 0
IsManifestLeft None size status after new_size = IsClosed status after × (new_size ≡ size)
IsManifestLeft (Some h) size status after new_size =
    (told : Result (List ℕ) ℕ) × IsPrintedIn h.manifest told × IsBytesLeft h told size status after new_size
