-- The summary block of a log: 64 bytes of header, and room for 30 records.
use Rattle.std.specs.Prelude.{◌≡◌, ℕ, ◌-◌, ◌*◌, ◌<◌, ◌≤◌, ◌^◌, List, [], ◌∷◌, ◌++◌, length, replicate, drop, codes, flat_map, All, zero, suc}
use Rattle.byteorder.specs.Endian.{little_bytes, little_number}
use Rattle.nl_types.specs.Plain.Limits.{log_limit}
use Rattle.nl_layout.specs.declared.tag.Tag.{Tag}
use Rattle.nl_layout.specs.Tag.{tag_bytes, tag_at, TagHasSpelling}

-- a log's moment and checkpoint number, and a record for each payload block
pub record Contents : Type 0 where
  pub stamp : ℕ
  pub checkpoint : ℕ
  pub tags : List Tag

-- ---- writing

-- the mark, the count of payload blocks, 2 zeros, the moment and the checkpoint number, and 40 zeros
abbrev pub header_bytes : ℕ → ℕ → ℕ → List ℕ
header_bytes count stamp checkpoint =
    codes "NLSG"
    ++ little_bytes 2 count
    ++ replicate 2 0
    ++ little_bytes 8 stamp
    ++ little_bytes 8 checkpoint
    ++ replicate 40 0

-- the records, in order
abbrev pub tags_bytes : List Tag → List ℕ
tags_bytes tags = flat_map tag_bytes tags

-- the header, the records, and zeros where further records would stand
abbrev pub summary_bytes : Contents → List ℕ
summary_bytes s =
    header_bytes (length s.tags) s.stamp s.checkpoint
    ++ tags_bytes s.tags
    ++ replicate (32 * (log_limit - length s.tags)) 0

-- what has a spelling
pub record SummaryHasSpelling (s : Contents) : Type 0 where
  pub some : 1 ≤ length s.tags
  pub most : length s.tags ≤ log_limit
  pub stamp : s.stamp < 2 ^ 64
  pub checkpoint : s.checkpoint < 2 ^ 64
  pub tags : All TagHasSpelling s.tags

-- the bytes are the spelling of this summary
pub record Spells (bytes : List ℕ) (s : Contents) : Type 0 where
  pub fits : SummaryHasSpelling s
  pub spelling : bytes ≡ summary_bytes s

-- ---- reading

-- so many records, from the front of the bytes
abbrev pub tags_at : ℕ → List ℕ → List Tag
tags_at zero bytes = []
tags_at (suc n) bytes = tag_at bytes ∷ tags_at n (drop 32 bytes)

-- what stands in the fields of a summary of so many records, whether the bytes spell one or not
abbrev pub contents_at : ℕ → List ℕ → Contents
contents_at count bytes = record {
  stamp = little_number 8 (drop 8 bytes);
  checkpoint = little_number 8 (drop 16 bytes);
  tags = tags_at count (drop 64 bytes);
}

-- each of the tags has a level that there is
abbrev pub HaveLevels : List Tag → Type 0
HaveLevels tags = All (λ tag. tag.level ≤ 3) tags
