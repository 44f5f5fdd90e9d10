-- The sum of an image.
use Rattle.std.specs.Prelude.{◌≡◌, ℕ, ◌+◌, ◌-◌, ◌*◌, List, drop, length, map, take}
use Rattle.std.specs.List.{range_with_len}
use Rattle.hex.specs.Hex.{encode_lower}
use Rattle.sha2.specs.Sha256.{sha256}
use Rattle.nl_types.specs.declared.geometry.Geometry.{Geometry}
use Rattle.nl_damage.specs.declared.sections.Sections.{Sections}
use Rattle.nl_damage.specs.declared.sums.digests.Digest.{Digest}
use Rattle.nl_damage.specs.declared.sums.sum.Kept.{Kept}
use Rattle.nl_damage.specs.declared.sums.sum.Sum.{Sum}
use Rattle.nl_damage.specs.Sections.{AreImageSections, IsLatest}

-- the SHA-256 digest, as its digits spell it
abbrev pub digest_of : List ℕ → Digest
digest_of bytes = record { digits = encode_lower (sha256 bytes) }

-- how many bytes stand in front of the blocks, which are the last ones
abbrev pub front_of : List ℕ → Geometry → ℕ
front_of image g = length image - 1024 * (g.segments * g.blocks)

-- the digest of a segment's bytes, where each has so many and the first begins at `front`
abbrev pub digest_of_segment : List ℕ → (front size segment : ℕ) → Digest
digest_of_segment image front size segment = digest_of (take size (drop (front + size * segment) image))

-- the digest of the superblock and the tables
abbrev pub tables_of : List ℕ → Geometry → Digest
tables_of image g = digest_of (take (front_of image g) image)

-- The sum is of these bytes, where they are the image of a volume that is divided so.
pub record IsSumOf (image : List ℕ) (g : Geometry) (kept : Kept) (sum : Sum) : Type 0 where
  pub bytes : sum.save.bytes ≡ length image
  pub divided : sum.save.segments ≡ g.segments
  pub blocks : sum.save.blocks ≡ g.blocks
  pub count : sum.save.checkpoints ≡ kept.count
  pub latest : sum.save.latest ≡ kept.latest
  pub tables : sum.save.tables ≡ tables_of image g
  pub whole : sum.whole ≡ digest_of image
  pub segments : sum.segments
      ≡ map (digest_of_segment image (front_of image g) (1024 * g.blocks)) (range_with_len 0 g.segments)

-- ---- by the image alone

-- how many checkpoints its table tells, and which is the latest
pub record IsKeptIn (x : Sections) (kept : Kept) : Type 0 where
  pub count : kept.count ≡ x.superblock.checkpoints
  pub latest : IsLatest x kept.latest

-- the sum of bytes that meet the first three conditions of an image, by what their own tables tell
pub record IsImageSum (image : List ℕ) (sum : Sum) : Type 0 where
  pub sections : Sections
  pub are : AreImageSections image sections
  pub kept : Kept
  pub is_kept : IsKeptIn sections kept
  pub sum_is : IsSumOf image sections.geometry kept sum
