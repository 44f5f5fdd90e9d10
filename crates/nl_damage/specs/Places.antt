-- Where an image fails one of its first conditions.
use Rattle.std.specs.Prelude.{◌≡◌, ℕ, List, length, Option, Some}
use Rattle.nl_image.specs.Conditions.{MeetsFirst}
use Rattle.nl_image.specs.Parts.{Parts, image_length}
use Rattle.nl_damage.specs.declared.places.Place.{Place}
use Rattle.nl_damage.specs.declared.places.Place.TheVariants.{Length, Superblock}

-- the bytes are divided as these parts say, and have another length
pub record HasOtherLength (bytes : List ℕ) (p : Parts) : Type 0 where
  pub divided : MeetsFirst 2 bytes p
  pub other : length bytes ≡ image_length p.shape → ⊥

-- what is told where the mark fails, and where the length does
abbrev pub mark_told : Option Place
mark_told = Some (Superblock 0)

abbrev pub length_told : List ℕ → Parts → Option Place
length_told bytes p = Some (Length (length bytes) (image_length p.shape))
