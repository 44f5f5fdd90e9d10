-- The text of a sum: lines of a word and a number in decimal, or a digest.
use Rattle.std.specs.Prelude.{◌≡◌, ◌<◌, ◌^◌, ℕ, List, [], ◌∷◌, ◌++◌, All, codes, length}
use Rattle.std.specs.Fmt.{decimal}
use Rattle.std.specs.List.{flat_map}
use Rattle.nl_types.specs.Plain.Characters.{line_feed}
use Rattle.nl_damage.specs.declared.sums.digests.Digest.{Digest}
use Rattle.nl_damage.specs.declared.sums.sum.Save.{Save}
use Rattle.nl_damage.specs.declared.sums.sum.Sum.{Sum}

unfoldable pub number_text : List ℕ → ℕ → List ℕ
number_text label number = label ++ (decimal number ++ line_feed ∷ [])

unfoldable pub digest_text : List ℕ → Digest → List ℕ
digest_text label digest = label ++ (digest.digits ++ line_feed ∷ [])

abbrev pub segment_text : Digest → List ℕ
segment_text digest = digest_text (codes "segment ") digest

unfoldable pub save_text : Save → List ℕ
save_text save =
    number_text (codes "bytes ") save.bytes
    ++ (number_text (codes "segments ") save.segments
    ++ (number_text (codes "blocks ") save.blocks
    ++ (number_text (codes "checkpoints ") save.checkpoints
    ++ (number_text (codes "latest ") save.latest
    ++ digest_text (codes "tables ") save.tables))))

unfoldable pub sum_text : Sum → List ℕ
sum_text sum =
    codes "nlkeep sum 1" ++ (line_feed ∷ (save_text sum.save
    ++ (digest_text (codes "image ") sum.whole ++ flat_map segment_text sum.segments)))

-- ---- what has such a text

-- 64 digits
abbrev pub IsDigest : Digest → Type 0
IsDigest digest = length digest.digits ≡ 64

-- numbers of 64 bits, and a digest
pub record IsSave (save : Save) : Type 0 where
  pub bytes : save.bytes < 2 ^ 64
  pub segments : save.segments < 2 ^ 64
  pub blocks : save.blocks < 2 ^ 64
  pub checkpoints : save.checkpoints < 2 ^ 64
  pub latest : save.latest < 2 ^ 64
  pub tables : IsDigest save.tables

-- a digest of each segment
pub record IsSum (sum : Sum) : Type 0 where
  pub save : IsSave sum.save
  pub whole : IsDigest sum.whole
  pub each : All IsDigest sum.segments
  pub count : length sum.segments ≡ sum.save.segments

-- a sum, and its text
pub record IsPrinted (sum : Sum) (text : List ℕ) : Type 0 where
  pub is_sum : IsSum sum
  pub spelled : sum_text sum ≡ text
