-- The image of a volume.
use Rattle.std.specs.Prelude.{◌≡◌, ◌⊎◌, ◌≤◌, ℕ, true, false, List, [], length, drop, Option, None, Some, Result, Ok, Err}
use Rattle.std.specs.Option.{option_map}
use Rattle.nl_types.specs.declared.error.VolError.{VolError}
use Rattle.nl_types.specs.declared.error.VolError.TheVariants.{Fault, Memory}
use Rattle.nl_vstore.specs.Stores.{KeepsStored}
use Rattle.nl_commit.specs.Layout.{Layout}
use Rattle.nl_core.specs.PenImages.{IsImageBeside}
use Rattle.nl_c.specs.Calls.{IsClosed, with_pen}
use Rattle.nl_c.specs.Copying.{filled, fitting}
use Rattle.nl_c.specs.Openings.{no_manifest}
use Rattle.nl_c.specs.Statuses.{closed, done, error_number, unsettled}
use Rattle.nl_c.specs.declared.held.Held.{Held}

-- what the volume holds stays; a read of the device that failed may be counted
pub record IsOnlyRead (old new : Layout) : Type 0 where
  pub lists : new.lists ≡ old.lists
  pub stored : KeepsStored old.store new.store
  pub counted : old.store.failures ≤ new.store.failures

-- why there is no image
abbrev pub IsImageRefusal : (old : Layout) → (status : ℕ) → (new : Layout) → Type 0
IsImageRefusal old status new =
    ((status ≡ unsettled) × (old.lists.dirty ≡ true) × (new ≡ old))
    ⊎ (IsOnlyRead old new × (e : VolError) × ((e ≡ Fault) ⊎ (e ≡ Memory)) × (status ≡ error_number e))

-- where nothing is dirty, the image of the volume once its mounts are given back; they stay
abbrev pub IsPenImaged : (old : Layout) → Result (List ℕ) ℕ → (new : Layout) → Type 0
IsPenImaged old (Ok bytes) new = (old.lists.dirty ≡ false) × IsImageBeside old bytes × IsOnlyRead old new
IsPenImaged old (Err status) new = IsImageRefusal old status new

-- the image is left to be copied out, and its size told
abbrev pub IsImageLeft : Held → (size : ℕ) → (status : ℕ) → Option Held → ℕ → Result (List ℕ) ℕ → Layout
    → Type 0
IsImageLeft h size status after new_size (Ok bytes) new =
    (status ≡ done) × (after ≡ Some (record h { pen = new; image = bytes })) × (new_size ≡ length bytes)
IsImageLeft h size status after new_size (Err e) new =
    (status ≡ e) × (after ≡ Some (with_pen new h)) × (new_size ≡ size)

abbrev pub IsImaged : Option Held → (size : ℕ) → (status : ℕ) → Option Held → ℕ → Type 0
IsImaged None size status after new_size = IsClosed status after × (new_size ≡ size)
IsImaged (Some h) size status after new_size =
    (told : Result (List ℕ) ℕ) × (new : Layout) × IsPenImaged h.pen told new
    × IsImageLeft h size status after new_size told new

-- bytes of the last image, from an offset on
abbrev pub IsImageRead : Option Held → (offset : ℕ) → (array : List ℕ) → (count : ℕ) → (status : ℕ)
    → List ℕ → ℕ → Type 0
IsImageRead None offset array count status new_array new_count =
    (status ≡ closed) × (new_array ≡ array) × (new_count ≡ count)
IsImageRead (Some h) offset array count status new_array new_count =
    (status ≡ done) × (new_array ≡ filled array (drop offset h.image))
    × (new_count ≡ fitting array (drop offset h.image))

-- nothing is left to be copied out
abbrev pub just_pen : Held → Held
just_pen h = record h { image = []; names = []; manifest = no_manifest }

abbrev pub released : Option Held → Option Held
released = option_map just_pen
