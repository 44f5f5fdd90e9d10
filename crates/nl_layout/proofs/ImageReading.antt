-- The fields of a superblock and of an entry of the segment usage file that were written.
use Rattle.std.proofs.Common.{◌≡◌, ℕ, ◌<◌, ◌^◌, List, drop, Some, refl, ap, ◌∙◌, arith}
use Rattle.std.proofs.Math.ListN.{replicate}
use Rattle.std.specs.Option.{option_map}
use Rattle.byteorder.specs.Endian.{little_number}
use Rattle.byteorder.specs.Numbers.{little_number-reads_back}
use Rattle.nl_types.specs.declared.segment.SegmentInfo.{SegmentInfo}
use Rattle.nl_types.specs.declared.segment.SegmentState.{SegmentState}
use Rattle.nl_types.specs.declared.segment.SegmentState.TheVariants.{Clean, Dirty, Active, Error}
use Rattle.nl_layout.specs.declared.superblock.Mark.{Mark}
use Rattle.nl_layout.specs.declared.superblock.Mark.TheVariants.{First, Second}
use Rattle.nl_layout.specs.declared.superblock.Superblock.{Superblock}
use Rattle.nl_layout.specs.Superblock as superblock
use Rattle.nl_layout.specs.Superblock.{superblock_at, superblock_bytes}
use Rattle.nl_layout.specs.Segment as segment
use Rattle.nl_layout.specs.Segment.{info_with, segment_at, segment_bytes, segment_flags, segment_state_at}

same_superblock : (s : Superblock) (m : Mark) (n b c : ℕ) → m ≡ s.mark → n ≡ s.segments → b ≡ s.blocks
    → c ≡ s.checkpoints
    → (let t : Superblock = record { mark = m; segments = n; blocks = b; checkpoints = c } in t) ≡ s
same_superblock s m n b c o p q r = rw (o, p, q, r) refl

-- by either mark, since bytes are dropped only where they are known
module _ (n b c : ℕ) (segments : n < 2 ^ 32) (blocks : b < 2 ^ 32) (checkpoints : c < 2 ^ 64) where
  abbrev of : Mark → Superblock
  of mark = record { mark = mark; segments = n; blocks = b; checkpoints = c }

  written : (mark : Mark) → superblock_at (superblock_bytes (of mark)) ≡ of mark
  written First =
      let bytes : List ℕ = superblock_bytes (of First) in
      same_superblock (of First) _ _ _ _ refl (little_number-reads_back 4 n (drop 12 bytes) segments)
      (little_number-reads_back 4 b (drop 16 bytes) blocks)
      (little_number-reads_back 8 c (replicate 1000 0) checkpoints)
  written Second =
      let bytes : List ℕ = superblock_bytes (of Second) in
      same_superblock (of Second) _ _ _ _ refl (little_number-reads_back 4 n (drop 12 bytes) segments)
      (little_number-reads_back 4 b (drop 16 bytes) blocks)
      (little_number-reads_back 8 c (replicate 1000 0) checkpoints)

superblock_at-written : (s : Superblock) → superblock.HasSpelling s → superblock_at (superblock_bytes s) ≡ s
superblock_at-written s fits =
    written s.segments s.blocks s.checkpoints fits.segments fits.blocks fits.checkpoints s.mark

-- the fields are those of the superblock that is spelled
pub superblock_at-Spells : (bytes : List ℕ) (s : Superblock) → superblock.Spells bytes s
    → superblock_at bytes ≡ s
superblock_at-Spells bytes s spells = ap superblock_at spells.spelling ∙ superblock_at-written s spells.fits

state_at-flags : (state : SegmentState) → segment_state_at (segment_flags state) ≡ Some state
state_at-flags Clean = refl
state_at-flags Dirty = refl
state_at-flags Active = refl
state_at-flags Error = refl

flags-small : (state : SegmentState) → segment_flags state < 2 ^ 32
flags-small Clean = omega arith
flags-small Dirty = omega arith
flags-small Active = omega arith
flags-small Error = omega arith

same_info : (info : SegmentInfo) (s u : ℕ) → s ≡ info.stamp → u ≡ info.used
    → (let i : SegmentInfo = record { state = info.state; stamp = s; used = u } in i) ≡ info
same_info info s u p q = rw (p, q) refl

segment_at-written : (info : SegmentInfo) → segment.HasSpelling info
    → segment_at (segment_bytes info) ≡ Some info
segment_at-written info fits =
    let bytes : List ℕ = segment_bytes info in
    let stamp : little_number 8 bytes ≡ info.stamp =
    little_number-reads_back 8 info.stamp (drop 8 bytes) fits.stamp in
    let used : little_number 4 (drop 8 bytes) ≡ info.used =
    little_number-reads_back 4 info.used (drop 12 bytes) fits.used in
    let flags : little_number 4 (drop 12 bytes) ≡ segment_flags info.state =
    little_number-reads_back 4 (segment_flags info.state) (drop 16 bytes) (flags-small info.state) in
    ap (option_map (info_with bytes)) (ap segment_state_at flags ∙ state_at-flags info.state)
    ∙ ap (λ (i : SegmentInfo). Some i) (same_info info _ _ stamp used)

-- the fields of a place are those of the entry that it spells
pub segment_at-Spells : (bytes : List ℕ) (info : SegmentInfo) → segment.Spells bytes info
    → segment_at bytes ≡ Some info
segment_at-Spells bytes info spells = ap segment_at spells.spelling ∙ segment_at-written info spells.fits
