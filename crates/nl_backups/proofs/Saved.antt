-- What becomes of an image that is read, changed and saved.
use Rattle.std.proofs.Common.{◌≡◌, Option, None, Some, sym, subst}
use Rattle.std.specs.Prelude.{unwrap_or}
use Rattle.nl_backups.specs.Hosts.{Becomes, Holds, Image, IsPut}

-- bytes are read and saved as slices
pub becomes : (Comes : Image → Image → Type 0) (old new : Option Image) (image given next saved : Image)
    → Holds old image → given ≡ image → Comes given next
    → saved ≡ next → Holds new saved → Becomes Comes old new
becomes Comes old new image given next saved read same comes as_is holds = (
  image,
  next,
  read,
  subst (λ (bytes : Image). Comes bytes next) same comes,
  subst (λ (bytes : Image). Holds new bytes) as_is holds,
)

-- there may be no other image, and then nothing is saved
pub becomes_put : (Comes : Image → Image → Type 0) (old new : Option Image) (image given : Image)
    (next : Option Image) → Holds old image → given ≡ image → Comes given (unwrap_or next given)
    → IsPut next old new → Becomes Comes old new
becomes_put Comes old new image given None read same comes put = (
  image,
  image,
  read,
  subst (λ (bytes : Image). Comes bytes bytes) same comes,
  subst (λ (known : Option Image). Holds known image) (sym put) read,
)
becomes_put Comes old new image given (Some bytes) read same comes put = (
  image,
  bytes,
  read,
  subst (λ (x : Image). Comes x bytes) same comes,
  put,
)
