-- The record of a payload block in its log's summary: 32 bytes, numbers in little endian.
use Rattle.std.specs.Prelude.{ℕ, ◌<◌, ◌≤◌, ◌^◌, List, ◌∷◌, ◌++◌, replicate, drop, slice_index}
use Rattle.byteorder.specs.Endian.{little_bytes, little_number}
use Rattle.nl_layout.specs.declared.tag.Tag.{Tag}

-- the virtual number, the inode and the offset, each in 8 bytes, then the level, and 7 zeros
abbrev pub tag_bytes : Tag → List ℕ
tag_bytes tag =
    little_bytes 8 tag.number
    ++ little_bytes 8 tag.inode
    ++ little_bytes 8 tag.offset
    ++ tag.level
    ∷ replicate 7 0

-- what has a spelling
pub record TagHasSpelling (tag : Tag) : Type 0 where
  pub number : tag.number < 2 ^ 64
  pub inode : tag.inode < 2 ^ 64
  pub offset : tag.offset < 2 ^ 64
  pub level : tag.level ≤ 3

-- what stands in the fields of the record that the bytes begin with, whether they spell one or not
abbrev pub tag_at : List ℕ → Tag
tag_at bytes = record {
  number = little_number 8 bytes;
  inode = little_number 8 (drop 8 bytes);
  offset = little_number 8 (drop 16 bytes);
  level = slice_index bytes 24;
}
