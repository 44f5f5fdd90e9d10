-- Reading a sum from the front on. Each reader gives what it read and the bytes behind it.
use Rattle.std.specs.Prelude.{ℕ, zero, suc, ◌+◌, ◌-◌, ◌*◌, ◌^◌, Bool, ◌&&◌, if◌then◌else◌, ◌==◌, nat_lt, nat_le, List, [], ◌∷◌, ◌++◌, codes, drop, length, take, Option, Some, None, option_and_then}
use Rattle.std.specs.Str.{bytes_eq}
use Rattle.nl_types.specs.Plain.Characters.{line_feed}
use Rattle.nl_damage.specs.declared.sums.digests.Digest.{Digest}
use Rattle.nl_damage.specs.declared.sums.sum.Kept.{Kept}
use Rattle.nl_damage.specs.declared.sums.sum.Save.{Save}
use Rattle.nl_damage.specs.declared.sums.sum.Sum.{Sum}
use Rattle.nl_damage.specs.SumTexts.{sum_text}

infixl 10 ◌>>=◌
abbrev pub ◌>>=◌ : {A B : Type 0} → Option A → (A → Option B) → Option B
o >>= f = option_and_then f o

-- ---- texts and numbers

-- what stands behind a text
unfoldable pub behind : List ℕ → List ℕ → Option (List ℕ)
behind [] bytes = Some bytes
behind (b ∷ text) [] = None
behind (b ∷ text) (c ∷ bytes) = if b == c then behind text bytes else None

abbrev pub decimal_digit_at : List ℕ → Option (ℕ × List ℕ)
decimal_digit_at [] = None
decimal_digit_at (b ∷ bytes) = if nat_le 48 b && nat_le b 57 then Some (b - 48, bytes) else None

-- the number that a digit writes behind those of another one, up to 64 bits
abbrev pub pushed : (number digit : ℕ) → Option ℕ
pushed number digit = if nat_lt (number * 10 + digit) (2 ^ 64) then Some (number * 10 + digit) else None

-- the same for all digits that there are
unfoldable pub decimal_from : ℕ → List ℕ → Option (ℕ × List ℕ)
decimal_from number [] = Some (number, [])
decimal_from number (b ∷ bytes) =
    if nat_le 48 b && nat_le b 57
    then (pushed number (b - 48) >>= λ next. decimal_from next bytes)
    else Some (number, b ∷ bytes)

-- ---- lines

unfoldable pub number_at : List ℕ → List ℕ → Option (ℕ × List ℕ)
number_at label bytes = do
  at_number ← behind label bytes
  number ← decimal_from 0 at_number
  rest ← behind (line_feed ∷ []) number.1
  Some (number.0, rest)

unfoldable pub digits_at : List ℕ → Option (Digest × List ℕ)
digits_at bytes =
    if nat_lt (length bytes) 64 then None else Some (record { digits = take 64 bytes }, drop 64 bytes)

unfoldable pub digest_at : List ℕ → List ℕ → Option (Digest × List ℕ)
digest_at label bytes = do
  at_digits ← behind label bytes
  digest ← digits_at at_digits
  rest ← behind (line_feed ∷ []) digest.1
  Some (digest.0, rest)

-- ---- all of it

-- the bytes, the segments and the blocks in each
unfoldable pub divided_at : List ℕ → Option (ℕ × (ℕ × (ℕ × List ℕ)))
divided_at text = do
  bytes ← number_at (codes "bytes ") text
  segments ← number_at (codes "segments ") bytes.1
  blocks ← number_at (codes "blocks ") segments.1
  Some (bytes.0, (segments.0, (blocks.0, blocks.1)))

-- how many checkpoints are kept, and the latest
unfoldable pub kept_at : List ℕ → Option (Kept × List ℕ)
kept_at text = do
  count ← number_at (codes "checkpoints ") text
  latest ← number_at (codes "latest ") count.1
  Some (record { count = count.0; latest = latest.0 }, latest.1)

unfoldable pub save_at : List ℕ → Option (Save × List ℕ)
save_at text = do
  divided ← divided_at text
  kept ← kept_at divided.1.1.1
  tables ← digest_at (codes "tables ") kept.1
  Some (
    record {
      bytes = divided.0;
      segments = divided.1.0;
      blocks = divided.1.1.0;
      checkpoints = kept.0.count;
      latest = kept.0.latest;
      tables = tables.0;
    },
    tables.1,
  )

-- so many lines of segments
unfoldable pub segments_at : (count : ℕ) → List ℕ → Option (List Digest)
segments_at zero bytes = Some []
segments_at (suc count) bytes = do
  first ← digest_at (codes "segment ") bytes
  others ← segments_at count first.1
  Some (first.0 ∷ others)

-- what stands in front of them, and the rest
unfoldable pub front_at : List ℕ → Option (Save × (Digest × List ℕ))
front_at bytes = do
  at_save ← behind (codes "nlkeep sum 1" ++ line_feed ∷ []) bytes
  save ← save_at at_save
  whole ← digest_at (codes "image ") save.1
  Some (save.0, (whole.0, whole.1))

unfoldable pub sum_at : List ℕ → Option Sum
sum_at bytes = do
  front ← front_at bytes
  segments ← segments_at front.0.segments front.1.1
  Some (record { save = front.0; whole = front.1.0; segments = segments })

-- whether the sum is printed as these bytes
abbrev pub is_spelled : Sum → List ℕ → Bool
is_spelled sum bytes = bytes_eq (sum_text sum) bytes

-- the sum that is
unfoldable pub sum_in : List ℕ → Option Sum
sum_in bytes = sum_at bytes >>= λ sum. if is_spelled sum bytes then Some sum else None
