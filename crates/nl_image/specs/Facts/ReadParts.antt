-- What was read of an image, against what the conditions tell of its parts.
use Rattle.std.proofs.Common.{◌≡◌, ◌⊎◌, ℕ, ◌+◌, ◌*◌, ◌≤◌, List, length, take, drop, replicate, Option, Some, None, is_some, ap, sym, ◌∙◌, subst, refl, arith, inl, inr, Result, Ok, Err}
use Rattle.std.specs.Prelude.{map, IfErr}
use Rattle.std.specs.Option.{option_and_then, option_map}
use Rattle.std.proofs.lemmas.List.{length-drop, length-take-le}
use Rattle.nl_types.specs.declared.error.VolError.{VolError}
use Rattle.nl_types.specs.declared.error.VolError.TheVariants.{BadImage, Memory}
use Rattle.nl_types.specs.Blocks.Segments.{IsUsed}
use Rattle.nl_device.specs.Pages.{DevicePages}
use Rattle.nl_layout.specs.declared.checkpoint_entry.CheckpointEntry.{CheckpointEntry}
use Rattle.nl_vstore.specs.Content.{Payload}
use Rattle.nl_vstore.specs.Images.{IsRestZero, pages_of_bytes}
use Rattle.nl_vstore.specs.Periods.{Periods}
use Rattle.nl_vstore.specs.Summaries.{SummariesAreOne}
use Rattle.nl_types.specs.Blocks.Roots.{Pages}
use Rattle.nl_segwriter.specs.declared.images.Restored.{Restored}
use Rattle.nl_segwriter.specs.Images.{AreLogsIn, HoldLogs, IsRestored, used_end, used_start, page_in}
use Rattle.nl_segwriter.specs.Writing.{held_in}
use Rattle.nl_dat.specs.declared.entries.DatEntry.{DatEntry}
use Rattle.nl_dat.specs.Table.{block_of, entry_in, period_of_entry}
use Rattle.nl_check.specs.Conditions.{FirstFault}
use Rattle.nl_check.specs.Judging.{told}
use Rattle.nl_image.specs.declared.reading.ReadImage.{ReadImage}
use Rattle.nl_image.specs.declared.sections.Sections.{Sections}
use Rattle.nl_image.specs.declared.tables.ImageTables.{ImageTables}
use Rattle.nl_image.specs.Conditions.{FirstFails, HasLogs, HasZeros, IsImage, blocks_told, pages_told, periods_told}
use Rattle.nl_image.specs.Parts.{Parts, padding_of, padding_start, total_of}
use Rattle.nl_image.specs.ReadPages.{pages_under, periods_under}
use Rattle.nl_image.specs.Reading.{AreNumbered, AreZero, HasCheckedTrees, HaveReadLogs, HaveOwn, HaveTables, IsReadImage, IsRefusal, IsSectioned, parts_read}
use Rattle.nl_image.specs.Facts.LaterConditions.{checked-trees, fault-fails, logs-fail}
use Rattle.nl_image.specs.Facts.OnePayload.{on_device, own_by_both, used_page}

-- ---- parts of a list of bytes

pub part-length : (bytes : List ℕ) (first count rest : ℕ) → length bytes ≡ first + count + rest
    → length (take count (drop first bytes)) ≡ count
part-length bytes first count rest long =
    let dropped = length-drop first bytes in
    let enough : count ≤ length (drop first bytes) = omega (arith, dropped, long) in
    length-take-le count (drop first bytes) enough

-- ---- pages and periods

same-pages : (o : Option DatEntry) (f g : DatEntry → Option (List ℕ))
    → ((e : DatEntry) → o ≡ Some e → f e ≡ g e) → option_and_then f o ≡ option_and_then g o
same-pages None f g same = refl
same-pages (Some e) f g same = same e refl

both-some : (o : Option DatEntry) (f : DatEntry → Option (List ℕ))
    → ((e : DatEntry) → o ≡ Some e → (page : List ℕ) × (f e ≡ Some page))
    → is_some (option_and_then f o) ≡ is_some (option_map period_of_entry o)
both-some None f has = refl
both-some (Some e) f has = ap is_some (has e refl).1

-- the same table, pages, checkpoints and fault
pub fault-same : (numbers table : List (Option DatEntry)) (pages others : List (Option (List ℕ)))
    (kept entries : List CheckpointEntry) (fault found : Option ℕ)
    → numbers ≡ table → pages ≡ others → kept ≡ entries → fault ≡ found
    → FirstFault (pages_under numbers pages) (periods_under numbers) (map told kept) fault
    → FirstFault (pages_under table others) (periods_under table) (map told entries) found
fault-same numbers table pages others kept entries fault found a b d e f =
    subst (λ (ns : List (Option DatEntry)).
    FirstFault (pages_under ns others) (periods_under ns) (map told entries) found)
    a
    (subst (λ (ps : List (Option (List ℕ))).
    FirstFault (pages_under numbers ps) (periods_under numbers) (map told entries) found)
    b
    (subst (λ (ks : List CheckpointEntry).
    FirstFault (pages_under numbers pages) (periods_under numbers) (map told ks) found)
    d
    (subst (FirstFault (pages_under numbers pages) (periods_under numbers) (map told kept)) e f)))

-- the same table and payload
pub own-same : (table others : List (Option DatEntry)) (payload held : List (Option Payload)) → table ≡ others
    → payload ≡ held → HaveOwn table payload → HaveOwn others held
own-same table others payload held a b own =
    subst (λ (es : List (Option DatEntry)). HaveOwn es held) a
    (subst (λ (ps : List (Option Payload)). HaveOwn table ps) b own)

module _ (x : Sections) (t : ImageTables) (is : IsSectioned x)
    (tables : HaveTables x.image.now (parts_read x t)) where
  abbrev image : List ℕ
  image = x.image.now

  abbrev parts : Parts
  parts = parts_read x t

  pub blocks-told : pages_of_bytes x.blocks.now ≡ blocks_told image parts
  blocks-told = ap pages_of_bytes is.blocks

  -- ---- condition 7

  are-logs : HasLogs image parts → AreLogsIn t.segments (pages_of_bytes x.blocks.now)
  are-logs logs = subst (AreLogsIn t.segments) (sym blocks-told)
      (λ i within.
      let l = logs.whole.held i within in (
        l.0,
        on_device (used_start t.segments i) (used_end t.segments i) l.0 (held_in logs.payload)
            (blocks_told image parts) l.1,
      ))

  pub whole-refused : (r : Result Restored VolError)
      → (AreLogsIn t.segments (pages_of_bytes x.blocks.now) → IfErr r (λ e. e ≡ Memory))
      → IfErr r (λ e. (e ≡ BadImage 7) ⊎ (e ≡ Memory)) → IfErr r (IsRefusal image)
  whole-refused (Ok r) only refused = tt
  whole-refused (Err e) only (inr memory) = inl memory
  whole-refused (Err e) only (inl bad) =
      inr (7, bad, logs-fail image parts tables (λ logs. let memory = only (are-logs logs) in cc))

  module _ (numbered : AreNumbered t.numbers t.segments parts) (r : Restored)
      (restored : IsRestored t.segments (pages_of_bytes x.blocks.now) r) where
    used-block : (v : ℕ) (e : DatEntry) → entry_in t.numbers v ≡ Some e → (b : ℕ) → b ≡ e.block
        → IsUsed t.segments b
    used-block v e at b here = numbered.over.used v b (ap (option_map block_of) at ∙ ap Some (sym here))

    pub own-fails : SummariesAreOne → (HaveOwn t.numbers r.payload → ⊥) → FirstFails 7 image
    own-fails ones never = logs-fail image parts tables (λ logs.
        let whole : HoldLogs t.segments (pages_of_bytes x.blocks.now) logs.payload =
        subst (λ (d : DevicePages). HoldLogs t.segments d logs.payload) (sym blocks-told) logs.whole in
        never (λ v e at.
        own_by_both ones t.segments
        (pages_of_bytes x.blocks.now) r.pages restored.pages r.payload logs.payload restored.logs whole v e
        (used-block v e at e.block refl)
        (logs.own v e
        (ap (λ (table : List (Option DatEntry)). entry_in table v) (sym numbered.table_is) ∙ at))))

    pub has-logs : HaveOwn t.numbers r.payload → HasLogs image parts
    has-logs own = record {
      payload = r.payload;
      whole = subst (λ (d : DevicePages). HoldLogs t.segments d r.payload) blocks-told restored.of_image;
      own = subst (λ (table : List (Option DatEntry)). HaveOwn table r.payload) numbered.table_is own;
    }

    -- ---- conditions 8 to 10

    pages-are : pages_under t.numbers r.pages ≡ pages_told image parts
    pages-are = λ i v. at v i
      where
        at : (v : ℕ) → pages_under t.numbers r.pages v ≡ pages_told image parts v
        at v =
            same-pages (entry_in t.numbers v) (λ e. page_in r.pages e.block)
            (λ e. blocks_told image parts e.block)
            (λ e here.
            restored.pages.used e.block (used-block v e here e.block refl)
            ∙ ap (λ (d : DevicePages). d e.block) blocks-told)
            ∙ ap (λ (table : List (Option DatEntry)).
            option_and_then (λ (e : DatEntry). blocks_told image parts e.block) (entry_in table v))
            numbered.table_is

    periods-are : periods_under t.numbers ≡ periods_told parts
    periods-are = ap (λ (table : List (Option DatEntry)). periods_under table) numbered.table_is

    have-both : (v : ℕ) → is_some (pages_under t.numbers r.pages v) ≡ is_some (periods_under t.numbers v)
    have-both v =
        both-some (entry_in t.numbers v) (λ e. page_in r.pages e.block)
        (λ e at.
        used_page t.segments (page_in r.pages) r.payload restored.logs e.block
        (used-block v e at e.block refl))

    pub have-both-same : (numbers : List (Option DatEntry)) (pages : List (Option (List ℕ)))
        → numbers ≡ t.numbers → pages ≡ r.pages → (v : ℕ)
        → is_some (pages_under numbers pages v) ≡ is_some (periods_under numbers v)
    have-both-same numbers pages a b v =
        subst
        (λ (ns : List (Option DatEntry)). is_some (pages_under ns pages v) ≡ is_some (periods_under ns v))
        (sym a)
        (subst (λ (ps : List (Option (List ℕ))).
        is_some (pages_under t.numbers ps v) ≡ is_some (periods_under t.numbers v))
        (sym b) (have-both v))

    fault-told : (fault : Option ℕ)
        → FirstFault (pages_under t.numbers r.pages) (periods_under t.numbers) (map told t.kept) fault
        → FirstFault (pages_told image parts) (periods_told parts) (map told parts.kept) fault
    fault-told fault f =
        subst (λ (ps : Pages). FirstFault ps (periods_told parts) (map told t.kept) fault) pages-are
        (subst (λ (qs : Periods). FirstFault (pages_under t.numbers r.pages) qs (map told t.kept) fault)
        periods-are f)

    pub fault-refuses : HasLogs image parts → (n : ℕ)
        → FirstFault (pages_under t.numbers r.pages) (periods_under t.numbers) (map told t.kept) (Some n)
        → FirstFails n image
    fault-refuses logs n f = fault-fails image parts tables logs n (fault-told (Some n) f)

    pub no-fault : HasLogs image parts
        → FirstFault (pages_under t.numbers r.pages) (periods_under t.numbers) (map told t.kept) None
        → HasCheckedTrees image parts
    no-fault logs f = checked-trees image parts tables logs (fault-told None f)

  -- ---- condition 11

  padding-length : length x.padding.now ≡ padding_of x.superblock
  padding-length =
      ap length is.padding
      ∙ part-length image (padding_start x.superblock) (padding_of x.superblock)
      (1024 * total_of x.superblock) is.long

  pub has-zeros : AreZero x t.segments → HasZeros image parts
  has-zeros zeros = record {
    padding = sym is.padding ∙ (zeros.padding ∙ ap (λ (n : ℕ). replicate n 0) padding-length);
    blocks = subst (IsRestZero t.segments) blocks-told zeros.blocks;
  }

  pub are-zeros : HasZeros image parts → AreZero x t.segments
  are-zeros zeros = record {
    padding = is.padding ∙ (zeros.padding ∙ ap (λ (n : ℕ). replicate n 0) (sym padding-length));
    blocks = subst (IsRestZero t.segments) (sym blocks-told) zeros.blocks;
  }

  -- ---- all of it

  pub are-read : AreNumbered t.numbers t.segments parts → (r : Restored) → HaveReadLogs x t r
      → IsImage image parts → (bytes : List ℕ) → image ≡ bytes
      → IsReadImage bytes
      (record {
        geometry = x.geometry;
        segments = t.segments;
        kept = t.kept;
        numbers = t.numbers;
        logs = r;
      })
  are-read numbered r logs meets bytes same = subst (λ (all : List ℕ). IsReadImage all read) same (record {
    parts = parts;
    image = meets;
    shape = is.shape;
    segments = refl;
    kept = refl;
    numbers = numbered.table_is;
    logs = subst (λ (d : DevicePages). IsRestored t.segments d r) blocks-told logs.restored;
  })
    where
      read : ReadImage
      read = record {
        geometry = x.geometry;
        segments = t.segments;
        kept = t.kept;
        numbers = t.numbers;
        logs = r;
      }
