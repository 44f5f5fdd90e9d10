-- An image that meets all conditions can be restored.
use Rattle.std.proofs.Common.{◌≡◌, ◌∙◌, ℕ, ◌+◌, ◌*◌, ◌<◌, ◌≤◌, List, [], ◌∷◌, length, drop, refl, ap, sym, subst, arith, None, Some, Option}
use Rattle.std.specs.Prelude.{All}
use Rattle.std.specs.Option.{option_map}
use Rattle.nl_types.specs.Blocks.Segments as segments
use Rattle.nl_types.specs.Blocks.Segments.{IsUsed, Segments, total_blocks}
use Rattle.nl_layout.specs.declared.checkpoint_entry.CheckpointEntry.{CheckpointEntry}
use Rattle.nl_segwriter.specs.Images as spaces
use Rattle.nl_segwriter.specs.Images.{HoldLogs, page_in}
use Rattle.nl_dat.specs.declared.entries.DatEntry.{DatEntry}
use Rattle.nl_dat.specs.EntryBytes.{HasSpelling}
use Rattle.nl_dat.specs.Images.{IsDatOf, IsTableOver, entry_told, table_of}
use Rattle.nl_dat.specs.Table.{addresses_of}
use Rattle.nl_cpfile.specs.Images.{AreRising, cpfile_bytes}
use Rattle.nl_image.specs.declared.reading.ReadImage.{ReadImage}
use Rattle.nl_image.specs.Conditions.{HasCheckpoints, HasNumbers, HasSegments, IsDivided, latest_told}
use Rattle.nl_image.specs.Parts.{Parts, cpfile_start, dat_in, image_length, padding_of, total_of}
use Rattle.nl_image.specs.Reading.{CanBeRestored, IsReadImage}
use Rattle.nl_image.specs.Facts.ReadParts.{part-length}

-- a table of entries that are told has a used block at each number in use
module _ (s : Segments) (latest : ℕ) (bytes : List ℕ) (numbers : List (Option DatEntry))
    (is : IsDatOf s latest bytes numbers) where
  used-told : (v b : ℕ) → addresses_of (entry_told numbers) v ≡ Some b → IsUsed s b
  used-told v b at = by (entry_told numbers v) refl at
    where
      by : (o : Option DatEntry) → entry_told numbers v ≡ o
          → option_map (λ (e : DatEntry). e.block) o ≡ Some b → IsUsed s b
      by None there told = cc
      by (Some e) there told = subst (IsUsed s) (inside told) (is.entries v e there).used
        where
          inside : Some e.block ≡ Some b → e.block ≡ b
          inside same = cc

  pub over-told : IsTableOver (table_of numbers) s
  over-told = record {
    full = omega (arith, is.count);
    zero_unused = refl;
    used = used-told;
  }

-- entries with bytes are some
some-kept : (kept : List CheckpointEntry) (count : ℕ) → length (cpfile_bytes kept) ≡ 160 * count → 1 ≤ count
    → 0 < length kept
some-kept [] count long some = absurd (omega (arith, long, some))
some-kept (e ∷ kept) count long some = omega arith

module _ (bytes : List ℕ) (r : ReadImage) (is : IsReadImage bytes r) where
  abbrev p : Parts
  p = is.parts

  divided : IsDivided bytes p
  divided = is.image.1.0

  sufile : HasSegments bytes p
  sufile = is.image.1.1.1.0

  cpfile : HasCheckpoints bytes p
  cpfile = is.image.1.1.1.1.0

  dat : HasNumbers bytes p
  dat = is.image.1.1.1.1.1.0

  shape-told : spaces.IsTableShapeOf r.geometry p.segments
  shape-told = record {
    segments = sufile.told.count ∙ (sufile.shape.segments ∙ sym is.shape.segments);
    blocks = sufile.told.blocks ∙ (sufile.shape.blocks ∙ sym is.shape.blocks);
  }

  long-told : length bytes
      ≡ cpfile_start p.shape + 160 * p.shape.checkpoints + (padding_of p.shape + 1024 * total_of p.shape)
  long-told = let long : length bytes ≡ image_length p.shape = is.image.1.1.0 in omega (arith, long)

  kept-told : 0 < length p.kept
  kept-told =
      let s = p.shape in
      some-kept p.kept s.checkpoints
      (ap length (sym cpfile.spelled)
      ∙ part-length bytes (cpfile_start s) (160 * s.checkpoints) (padding_of s + 1024 * total_of s) long-told)
      divided.some

  pub can-be-restored : CanBeRestored r
  can-be-restored = record {
    shape = subst (spaces.IsTableShapeOf r.geometry) (sym is.segments) shape-told;
    pages = is.logs.pages.count ∙ ap total_blocks (sym is.segments);
    logs =
        subst (λ (s : Segments). HoldLogs s (page_in r.logs.pages) r.logs.payload)
        (sym is.segments) is.logs.logs;
    have_logs = subst segments.HaveLogs (sym is.segments) sufile.told.have_logs;
    over = subst (λ (s : Segments). IsTableOver r.numbers s) (sym is.segments)
        (subst (λ (table : List (Option DatEntry)). IsTableOver table p.segments) (sym is.numbers)
        (over-told p.segments (latest_told p) (dat_in p.shape bytes) p.numbers dat));
    fit = subst (λ (table : List (Option DatEntry)). All HasSpelling (drop 1 table)) (sym is.numbers) dat.fit;
    rise = subst AreRising (sym is.kept) cpfile.rise;
    some = subst (λ (kept : List CheckpointEntry). 0 < length kept) (sym is.kept) kept-told;
  }
