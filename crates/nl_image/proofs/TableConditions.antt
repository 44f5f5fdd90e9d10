-- The conditions of the tables of segments, checkpoints and numbers.
use Rattle.std.proofs.Common.{◌≡◌, ◌⊎◌, ℕ, ◌+◌, ◌*◌, ◌≤◌, [], List, length, drop, Option, Result, Ok, Err, ap, refl, sym, ◌∙◌, subst, arith}
use Rattle.std.specs.Prelude.{IfErr, IfOk}
use Rattle.std.proofs.lemmas.List.{length-drop, length-take-le}
use Rattle.nl_types.specs.declared.error.VolError.{VolError}
use Rattle.nl_types.specs.declared.error.VolError.TheVariants.{BadImage, Memory}
use Rattle.nl_types.specs.declared.geometry.Geometry.{Geometry}
use Rattle.nl_types.specs.Blocks.Segments.{Segments, total_blocks}
use Rattle.nl_layout.specs.declared.checkpoint_entry.CheckpointEntry.{CheckpointEntry}
use Rattle.nl_layout.specs.declared.superblock.Superblock.{Superblock}
use Rattle.nl_sufile.specs.Images.{IsSufileOf}
use Rattle.nl_cpfile.specs.Images.{IsCpfileOf}
use Rattle.nl_dat.specs.declared.entries.DatEntry.{DatEntry}
use Rattle.nl_dat.specs.Images.{IsDatOf, IsTableOf, table_of}
use Rattle.nl_image.specs.declared.sections.Sections.{Sections}
use Rattle.nl_image.specs.Conditions.{HasSegments, MeetsFirst, conditions, number_of_last}
use Rattle.nl_image.specs.Parts.{Parts, bytes_from, cpfile_in, cpfile_start, dat_in, dat_start, image_length, sufile_in, total_of}
use Rattle.nl_image.specs.Reading.{AreTold, HaveCheckpoints, HaveSegments, HaveTables, IsRefusal, IsSectioned, parts_with}
use Rattle.nl_image.specs.Facts.ConditionOrder.{hold-fewer}
use Rattle.nl_image.proofs.FirstConditions.{parts-of}
use Rattle.nl_image.proofs.Refusing.{FindsAll, memory-alone, refused-by}

-- ---- values with equal fields

sufile-of : (g h : Geometry) (bytes others : List ℕ) (s t : Segments) → IsSufileOf g bytes s
    → g.segments ≡ h.segments → g.blocks ≡ h.blocks → bytes ≡ others → s ≡ t → IsSufileOf h others t
sufile-of g h bytes others s t is segments blocks same_bytes same =
    subst (IsSufileOf h others) same (subst (λ xs. IsSufileOf h xs s) same_bytes (record {
      spelled = is.spelled;
      fit = is.fit;
      count = is.count ∙ segments;
      blocks = is.blocks ∙ blocks;
      tidy = is.tidy;
      have_logs = is.have_logs;
    }))

pub same-parts : (p q : Parts) → p.shape ≡ q.shape → p.segments ≡ q.segments → p.numbers ≡ q.numbers
    → p.kept ≡ q.kept → p ≡ q
same-parts p q shape segments numbers kept =
    ap (λ (s : Superblock). of s p.segments p.numbers p.kept) shape
    ∙ ap (λ (s : Segments). of q.shape s p.numbers p.kept) segments
    ∙ ap (λ (n : List (Option DatEntry)). of q.shape q.segments n p.kept) numbers
    ∙ ap (of q.shape q.segments q.numbers) kept
  where
    of : Superblock → Segments → List (Option DatEntry) → List CheckpointEntry → Parts
    of s segments numbers kept = record { shape = s; segments = segments; numbers = numbers; kept = kept }

dat-of : (s t : Segments) (a b : ℕ) (bytes others : List ℕ) (numbers : List (Option DatEntry))
    → IsDatOf s a bytes numbers → s ≡ t → a ≡ b → bytes ≡ others → IsDatOf t b others numbers
dat-of s t a b bytes others numbers is segments latest same =
    subst (λ z. IsDatOf z b others numbers) segments
    (subst (λ c. IsDatOf s c others numbers) latest (subst (λ xs. IsDatOf s a xs numbers) same is))

-- ---- how long the sections are

length-bytes_from : (first count : ℕ) (bytes : List ℕ) → first + count ≤ length bytes
    → length (bytes_from first count bytes) ≡ count
length-bytes_from first count bytes low =
    length-take-le count (drop first bytes) (omega (arith, low, length-drop first bytes))

module _ (x : Sections) (is : IsSectioned x) where
  abbrev bytes : List ℕ
  bytes = x.image.now

  pub length-segments : length x.segments.now ≡ 16 * x.geometry.segments
  length-segments =
      ap length is.segments
      ∙ length-bytes_from 1024 (16 * x.superblock.segments) bytes (omega (arith, is.long))
      ∙ ap (λ n. 16 * n) (sym is.shape.segments)

  pub length-checkpoints : length x.checkpoints.now ≡ 160 * x.superblock.checkpoints
  length-checkpoints =
      ap length is.checkpoints
      ∙ length-bytes_from (cpfile_start x.superblock) (160 * x.superblock.checkpoints) bytes
      (omega (arith, is.long))

  length-numbers : length x.numbers.now ≡ 24 * total_of x.superblock
  length-numbers =
      ap length is.numbers
      ∙ length-bytes_from (dat_start x.superblock) (24 * total_of x.superblock) bytes (omega (arith, is.long))

  -- ---- condition 4

  pub meets-three : (p : Parts) → p.shape ≡ x.superblock → MeetsFirst 3 bytes p
  meets-three p e = let m = is.begins.meets p e in (m.0, (m.1.0, (is.long ∙ ap image_length (sym e), tt)))

  shape-told : (p : Parts) → MeetsFirst 4 bytes p → p.shape ≡ x.superblock
  shape-told p m = is.begins.only p (m.0, (m.1.0, tt))

  sufile-told : (p : Parts) → MeetsFirst 4 bytes p → IsSufileOf x.geometry x.segments.now p.segments
  sufile-told p m =
      let e = shape-told p m in
      let has = m.1.1.1.0 in
      sufile-of has.geometry x.geometry
      (sufile_in p.shape bytes) x.segments.now p.segments p.segments has.told
      (has.shape.segments ∙ ap (λ (s : Superblock). s.segments) e ∙ sym is.shape.segments)
      (has.shape.blocks ∙ ap (λ (s : Superblock). s.blocks) e ∙ sym is.shape.blocks)
      (ap (λ (s : Superblock). sufile_in s bytes) e ∙ sym is.segments) refl

  has_segments : (s : Segments) → IsSufileOf x.geometry x.segments.now s → (p : Parts)
      → p.shape ≡ x.superblock → p.segments ≡ s → HasSegments bytes p
  has_segments s told p e same = record {
    geometry = x.geometry;
    shape = record {
      segments = is.shape.segments ∙ ap (λ (z : Superblock). z.segments) (sym e);
      blocks = is.shape.blocks ∙ ap (λ (z : Superblock). z.blocks) (sym e);
    };
    told =
        sufile-of x.geometry x.geometry x.segments.now (sufile_in p.shape bytes) s p.segments told refl refl
        (is.segments ∙ ap (λ (z : Superblock). sufile_in z bytes) (sym e)) (sym same);
  }

  meets-four : (s : Segments) → IsSufileOf x.geometry x.segments.now s → (p : Parts) → p.shape ≡ x.superblock
      → p.segments ≡ s → MeetsFirst 4 bytes p
  meets-four s told p e same =
      let m = meets-three p e in (m.0, (m.1.0, (m.1.1.0, (has_segments s told p e same, tt))))

  pub have_segments : (r : Result Segments VolError) → IfOk r (IsSufileOf x.geometry x.segments.now)
      → FindsAll r (IsSufileOf x.geometry x.segments.now) (λ s. s) → IfOk r (HaveSegments x)
  have_segments (Ok s) found only = record {
    meets = λ p e same. meets-four s found p e same;
    only = λ p m. (shape-told p m, sym (only p.segments (sufile-told p m)));
  }
  have_segments (Err e) found only = tt

  pub segments-refused : (r : Result Segments VolError)
      → FindsAll r (IsSufileOf x.geometry x.segments.now) (λ s. s)
      → IfErr r (λ e. (e ≡ BadImage 4) ⊎ (e ≡ Memory)) → IfErr r (IsRefusal bytes)
  segments-refused r only why =
      refused-by r 4 bytes (omega arith) (parts-of x.superblock) (meets-three (parts-of x.superblock) refl)
      (λ q m. memory-alone (λ t. t ≡ q.segments) r (only q.segments (sufile-told q m))) why

  -- ---- condition 5

  cpfile-told : (p : Parts) → MeetsFirst 5 bytes p → IsCpfileOf x.superblock.mark x.checkpoints.now p.kept
  cpfile-told p m =
      let e = shape-told p (hold-fewer 4 5 conditions bytes p (omega arith) m) in
      subst (λ xs. IsCpfileOf x.superblock.mark xs p.kept) (sym is.checkpoints)
      (subst (λ (s : Superblock). IsCpfileOf s.mark (cpfile_in s bytes) p.kept) e m.1.1.1.1.0)

  meets-five : (s : Segments) (kept : List CheckpointEntry) → HaveSegments x s
      → IsCpfileOf x.superblock.mark x.checkpoints.now kept → (p : Parts) → AreTold x s kept p
      → MeetsFirst 5 bytes p
  meets-five s kept have told p t =
      let m = have.meets p t.shape t.segments_are in
      let spelled = subst (λ (s : Superblock). IsCpfileOf s.mark (cpfile_in s bytes) kept) (sym t.shape)
      (subst (λ xs. IsCpfileOf x.superblock.mark xs kept) is.checkpoints told) in (
        m.0,
        (
          m.1.0,
          (
            m.1.1.0,
            (
              m.1.1.1.0,
              (
                subst (λ k. IsCpfileOf p.shape.mark (cpfile_in p.shape bytes) k) (sym t.kept_are) spelled,
                tt,
              ),
            ),
          ),
        ),
      )

  module _ (s : Segments) (have : HaveSegments x s) where
    pub have_checkpoints : (r : Result (List CheckpointEntry) VolError)
        → IfOk r (IsCpfileOf x.superblock.mark x.checkpoints.now)
        → FindsAll r (IsCpfileOf x.superblock.mark x.checkpoints.now) (λ kept. kept)
        → IfOk r (HaveCheckpoints x s)
    have_checkpoints (Ok kept) found only = record {
      meets = λ p t. meets-five s kept have found p t;
      only = λ p m.
          let told = have.only p (hold-fewer 4 5 conditions bytes p (omega arith) m) in
          record { shape = told.0; segments_are = told.1; kept_are = sym (only p.kept (cpfile-told p m)) };
    }
    have_checkpoints (Err e) found only = tt

    pub checkpoints-refused : (r : Result (List CheckpointEntry) VolError)
        → FindsAll r (IsCpfileOf x.superblock.mark x.checkpoints.now) (λ kept. kept)
        → IfErr r (λ e. (e ≡ BadImage 5) ⊎ (e ≡ Memory)) → IfErr r (IsRefusal bytes)
    checkpoints-refused r only why =
        let p : Parts = parts_with x s [] [] in
        refused-by r 5 bytes (omega arith) p (have.meets p refl refl)
        (λ q m. memory-alone (λ t. t ≡ q.kept) r (only q.kept (cpfile-told q m))) why

  -- ---- condition 6

  module _ (s : Segments) (kept : List CheckpointEntry) (have : HaveCheckpoints x s kept) where
    meets-all-five : (table : List (Option DatEntry)) → MeetsFirst 5 bytes (parts_with x s kept table)
    meets-all-five table =
        have.meets (parts_with x s kept table) (record { shape = refl; segments_are = refl; kept_are = refl })

    -- there are as many numbers as blocks
    pub room-for-numbers : length x.numbers.now ≡ 24 * total_blocks s
    room-for-numbers =
        let told =
        sufile-told (parts_with x s kept [])
        (hold-fewer 4 5 conditions bytes (parts_with x s kept []) (omega arith) (meets-all-five [])) in
        rw (told.count ∙ is.shape.segments, told.blocks ∙ is.shape.blocks) length-numbers

    module _ (latest : ℕ) (last : latest ≡ number_of_last kept) where
      dat-told : (p : Parts) → MeetsFirst 6 bytes p → IsDatOf s latest x.numbers.now p.numbers
      dat-told p m =
          let t = have.only p (hold-fewer 5 6 conditions bytes p (omega arith) m) in
          dat-of p.segments s (number_of_last p.kept) latest
          (dat_in p.shape bytes) x.numbers.now p.numbers m.1.1.1.1.1.0 t.segments_are
          (ap number_of_last t.kept_are ∙ sym last)
          (ap (λ (z : Superblock). dat_in z bytes) t.shape ∙ sym is.numbers)

      numbers-of : (table : List (Option DatEntry)) (t : IsTableOf s latest x.numbers.now table)
          → drop 1 table ≡ t.numbers
      numbers-of table t = ap (drop 1) t.table_is

      meets-six : (table : List (Option DatEntry)) → IsTableOf s latest x.numbers.now table
          → MeetsFirst 6 bytes (parts_with x s kept table)
      meets-six table t =
          let m = meets-all-five table in
          let told =
          subst (λ n. IsDatOf s (number_of_last kept) (dat_in x.superblock bytes) n)
          (sym (numbers-of table t))
          (dat-of s s latest (number_of_last kept) x.numbers.now
          (dat_in x.superblock bytes) t.numbers t.told refl last is.numbers) in
          (m.0, (m.1.0, (m.1.1.0, (m.1.1.1.0, (m.1.1.1.1.0, (told, tt))))))

      pub have_tables : (r : Result (List (Option DatEntry)) VolError)
          → IfOk r (IsTableOf s latest x.numbers.now) → FindsAll r (IsDatOf s latest x.numbers.now) table_of
          → IfOk r (λ table. HaveTables bytes (parts_with x s kept table))
      have_tables (Ok table) found only = record {
        meets = meets-six table found;
        only = λ q m.
            let t = have.only q (hold-fewer 5 6 conditions bytes q (omega arith) m) in
            same-parts q (parts_with x s kept table) t.shape t.segments_are
            (sym (ap (drop 1) (only q.numbers (dat-told q m)))) t.kept_are;
      }
      have_tables (Err e) found only = tt

      pub numbers-refused : (r : Result (List (Option DatEntry)) VolError)
          → FindsAll r (IsDatOf s latest x.numbers.now) table_of
          → IfErr r (λ e. (e ≡ BadImage 6) ⊎ (e ≡ Memory))
          → IfErr r (IsRefusal bytes)
      numbers-refused r only why =
          refused-by r 6 bytes (omega arith) (parts_with x s kept []) (meets-all-five [])
          (λ q m. memory-alone (λ t. t ≡ table_of q.numbers) r (only q.numbers (dat-told q m))) why
