-- The parts of the bytes that spell an image.
use Rattle.std.proofs.Common.{◌≡◌, ◌∙◌, ℕ, ◌+◌, ◌*◌, List, [], ◌++◌, refl, ap, append_assoc, arith, drop, length, length-append, replicate, sym, take}
use Rattle.std.proofs.Math.Seq.{drop-append_seam, take-append_seam}
use Rattle.std.proofs.lemmas.List.{length-replicate, take_all}
use Rattle.nl_types.specs.Facts.EqualPieces.{length-pieces}
use Rattle.nl_layout.specs.Checkpoints.{checkpoint_bytes}
use Rattle.nl_layout.specs.Segment.{segment_bytes}
use Rattle.nl_layout.specs.Superblock.{superblock_bytes}
use Rattle.nl_layout.specs.declared.superblock.Mark.{Mark}
use Rattle.nl_layout.specs.declared.superblock.Mark.TheVariants.{First, Second}
use Rattle.nl_layout.specs.declared.superblock.Superblock.{Superblock}
use Rattle.nl_sufile.specs.Images.{sufile_bytes}
use Rattle.nl_sufile.specs.Facts.ImageEntries as segments
use Rattle.nl_dat.specs.EntryBytes.{dat_bytes, number_bytes}
use Rattle.nl_dat.specs.Facts.ImageEntries as numbers
use Rattle.nl_cpfile.specs.Images.{cpfile_bytes}
use Rattle.nl_cpfile.specs.Facts.ImageEntries as checkpoints
use Rattle.nl_image.specs.Parts.{Parts, blocks_in, blocks_start, bytes_from, cpfile_in, cpfile_start, dat_in, dat_start, image_bytes, image_length, padding_in, padding_of, padding_start, sufile_in, sufile_start, total_of}

-- ---- one part of a list

pub part_behind : (bytes front part behind : List ℕ) (first count : ℕ) → bytes ≡ front ++ (part ++ behind)
    → length front ≡ first → length part ≡ count → bytes_from first count bytes ≡ part
part_behind bytes front part behind first count is before long =
    ap (λ (n : ℕ). take n (drop first bytes)) (sym long)
    ∙ ap (λ (n : ℕ). take (length part) (drop n bytes)) (sym before)
    ∙ ap (λ (xs : List ℕ). take (length part) (drop (length front) xs)) is
    ∙ ap (λ (xs : List ℕ). take (length part) xs) (drop-append_seam front (part ++ behind))
    ∙ take-append_seam part behind

-- what stands at the end
pub part_last : (bytes front part : List ℕ) (first count : ℕ) → bytes ≡ front ++ part → length front ≡ first
    → length part ≡ count → bytes_from first count bytes ≡ part
part_last bytes front part first count is before long =
    ap (λ (n : ℕ). take count (drop n bytes)) (sym before)
    ∙ ap (λ (xs : List ℕ). take count (drop (length front) xs)) is
    ∙ ap (λ (xs : List ℕ). take count xs) (drop-append_seam front part)
    ∙ take_all count part (omega (arith, long))

-- ---- how long the parts are

pub superblock-length : (s : Superblock) → length (superblock_bytes s) ≡ 1024
superblock-length s = by s.mark
  where
    by : (m : Mark) → length (superblock_bytes (record s { mark = m })) ≡ 1024
    by First = refl
    by Second = refl

-- there are as many segments, numbers, checkpoints and blocks as the superblock says
pub record HaveCounts (p : Parts) (data_bytes : List ℕ) : Type 0 where
  pub segment_count : length p.segments.each ≡ p.shape.segments
  pub number_count : length p.numbers ≡ total_of p.shape
  pub kept_count : length p.kept ≡ p.shape.checkpoints
  pub block_count : length data_bytes ≡ 1024 * total_of p.shape

module _ (p : Parts) (blocks bytes : List ℕ) (counts : HaveCounts p blocks)
    (spelled : bytes ≡ image_bytes p blocks) where
  abbrev head : List ℕ
  head = superblock_bytes p.shape

  abbrev segment_part : List ℕ
  segment_part = sufile_bytes p.segments

  abbrev number_part : List ℕ
  number_part = dat_bytes p.numbers

  abbrev kept_part : List ℕ
  kept_part = cpfile_bytes p.kept

  abbrev zero_part : List ℕ
  zero_part = replicate (padding_of p.shape) 0

  head-long : length head ≡ 1024
  head-long = superblock-length p.shape

  segments-long : length segment_part ≡ 16 * p.shape.segments
  segments-long =
      length-pieces segment_bytes 16 segments.entry_width p.segments.each
      ∙ ap (λ n. 16 * n) counts.segment_count

  numbers-long : length number_part ≡ 24 * total_of p.shape
  numbers-long =
      length-pieces number_bytes 24 numbers.entry_width p.numbers ∙ ap (λ n. 24 * n) counts.number_count

  kept-long : length kept_part ≡ 160 * p.shape.checkpoints
  kept-long =
      length-pieces checkpoint_bytes 160 checkpoints.entry_width p.kept ∙ ap (λ n. 160 * n) counts.kept_count

  zeros-long : length zero_part ≡ padding_of p.shape
  zeros-long = length-replicate (padding_of p.shape) 0

  pub head-told : take 1024 bytes ≡ head
  head-told =
      part_behind bytes [] head (segment_part ++ (number_part ++ (kept_part ++ (zero_part ++ blocks)))) 0 1024
      (spelled ∙ simp append_assoc) refl head-long

  pub segments-told : sufile_in p.shape bytes ≡ segment_part
  segments-told =
      part_behind bytes head segment_part (number_part ++ (kept_part ++ (zero_part ++ blocks))) sufile_start
      (16 * p.shape.segments) (spelled ∙ simp append_assoc) head-long segments-long

  pub numbers-told : dat_in p.shape bytes ≡ number_part
  numbers-told =
      part_behind bytes (head ++ segment_part) number_part (kept_part ++ (zero_part ++ blocks))
      (dat_start p.shape) (24 * total_of p.shape)
      (spelled ∙ simp append_assoc)
      (omega (arith, length-append head segment_part, head-long, segments-long)) numbers-long

  pub kept-told : cpfile_in p.shape bytes ≡ kept_part
  kept-told =
      part_behind bytes ((head ++ segment_part) ++ number_part) kept_part (zero_part ++ blocks)
      (cpfile_start p.shape) (160 * p.shape.checkpoints)
      (spelled ∙ simp append_assoc) front-long kept-long
    where
      front-long : length ((head ++ segment_part) ++ number_part) ≡ cpfile_start p.shape
      front-long =
          omega (
            arith,
            length-append (head ++ segment_part) number_part,
            length-append head segment_part,
            head-long,
            segments-long,
            numbers-long,
          )

  abbrev tables : List ℕ
  tables = ((head ++ segment_part) ++ number_part) ++ kept_part

  tables-long : length tables ≡ padding_start p.shape
  tables-long =
      omega (
        arith,
        length-append ((head ++ segment_part) ++ number_part) kept_part,
        length-append (head ++ segment_part) number_part,
        length-append head segment_part,
        head-long,
        segments-long,
        numbers-long,
        kept-long,
      )

  pub padding-told : padding_in p.shape bytes ≡ zero_part
  padding-told =
      part_behind bytes tables zero_part blocks (padding_start p.shape) (padding_of p.shape)
      (spelled ∙ simp append_assoc) tables-long zeros-long

  fronts-long : length (tables ++ zero_part) ≡ blocks_start p.shape
  fronts-long =
      length-append tables zero_part ∙ ap (λ n. n + length zero_part) tables-long
      ∙ ap (λ n. padding_start p.shape + n) zeros-long

  at-end : bytes ≡ (tables ++ zero_part) ++ blocks
  at-end = spelled ∙ simp append_assoc

  pub blocks-told : blocks_in p.shape bytes ≡ blocks
  blocks-told =
      part_last bytes (tables ++ zero_part) blocks (blocks_start p.shape)
      (1024 * total_of p.shape) at-end fronts-long counts.block_count

  pub all-long : length bytes ≡ image_length p.shape
  all-long =
      ap length at-end ∙ length-append (tables ++ zero_part) blocks ∙ ap (λ n. n + length blocks) fronts-long
      ∙ ap (λ n. blocks_start p.shape + n) counts.block_count
