-- The bytes of an image tell its parts.
use Rattle.std.proofs.Common.{◌≡◌, ◌∙◌, ℕ, ◌<◌, List, [], ◌∷◌, ◌++◌, ap, arith, length, length-append, refl, sym, take}
use Rattle.std.specs.List.{All, flat_map}
use Rattle.std.proofs.Math.Seq.{take-append_seam}
use Rattle.std.proofs.lemmas.List.{append_cancel_left}
use Rattle.std.proofs.lemmas.List.Elements.{All-head, All-tail}
use Rattle.nl_types.specs.declared.segment.SegmentInfo.{SegmentInfo}
use Rattle.nl_types.specs.Blocks.Segments.{Segments}
use Rattle.nl_types.specs.Facts.EqualPieces.{HaveWidth}
use Rattle.nl_layout.specs.Checkpoints as checkpoint
use Rattle.nl_layout.specs.Laws.{SpellOne}
use Rattle.nl_layout.specs.Segment as segment
use Rattle.nl_layout.specs.Superblock as superblock
use Rattle.nl_layout.specs.declared.superblock.Superblock.{Superblock}
use Rattle.nl_sufile.specs.Facts.ImageEntries as segments
use Rattle.nl_dat.specs.EntryBytes as number
use Rattle.nl_dat.specs.Facts.ImageEntries as numbers
use Rattle.nl_cpfile.specs.Facts.ImageEntries as checkpoints
use Rattle.nl_image.specs.Conditions.{HasCheckpoints, HasNumbers, HasSegments, IsDivided, IsImage}
use Rattle.nl_image.specs.Laws.{ImagesHaveOneParts}
use Rattle.nl_image.specs.Parts.{Parts, cpfile_in, dat_in, sufile_in}
use Rattle.nl_image.proofs.TableConditions.{same-parts}

-- ---- entries of one width, one after the other

-- each value that fits has a spelling of its own
abbrev HaveOwnSpelling : {A : Type 0} → (A → List ℕ) → (A → Type 0) → Type 0
HaveOwnSpelling {A} spell Fits = (x y : A) → Fits x → Fits y → spell x ≡ spell y → x ≡ y

module _ {A : Type 0} (spell : A → List ℕ) (Fits : A → Type 0) (w : ℕ) (some : 0 < w)
    (wide : HaveWidth spell w)
    (own : HaveOwnSpelling spell Fits) where
  not-nothing : (y : A) (ys : List A) → [] ≡ spell y ++ flat_map spell ys → ⊥
  not-nothing y ys same =
      omega (arith, some, wide y, ap length same, length-append (spell y) (flat_map spell ys))

  -- they are told by their bytes
  one-list : (xs ys : List A) → All Fits xs → All Fits ys → flat_map spell xs ≡ flat_map spell ys → xs ≡ ys
  one-list [] [] fit others same = refl
  one-list [] (y ∷ ys) fit others same = absurd (not-nothing y ys same)
  one-list (x ∷ xs) [] fit others same = absurd (not-nothing x xs (sym same))
  one-list (x ∷ xs) (y ∷ ys) fit others same =
      let first : spell x ≡ spell y =
      sym (take-append_seam (spell x) (flat_map spell xs))
      ∙ ap (take (length (spell x))) same
      ∙ ap (λ (n : ℕ). take n (spell y ++ flat_map spell ys)) (wide x ∙ sym (wide y))
      ∙ take-append_seam (spell y) (flat_map spell ys) in
      let behind : spell x ++ flat_map spell xs ≡ spell x ++ flat_map spell ys =
      same ∙ ap (λ (front : List ℕ). front ++ flat_map spell ys) (sym first) in
      let one : x ≡ y = own x y (All-head Fits x xs fit) (All-head Fits y ys others) first in
      let rest : xs ≡ ys =
      one-list xs ys (All-tail Fits x xs fit) (All-tail Fits y ys others)
      (append_cancel_left (spell x) _ _ behind) in
      λ i. one i ∷ rest i

-- ---- the parts of two readings of the same bytes

same-table : (s t : Segments) → s.blocks ≡ t.blocks → s.each ≡ t.each → s ≡ t
same-table s t blocks each = ap (λ (n : ℕ). of n s.each) blocks ∙ ap (of t.blocks) each
  where
    of : ℕ → List SegmentInfo → Segments
    of blocks each = record { blocks = blocks; each = each }

-- what bytes spell is one value
pub record SpellOneEach : Type 0 where
  pub superblocks : SpellOne superblock.Spells
  pub segments : SpellOne segment.Spells
  pub checkpoints : SpellOne checkpoint.Spells
  pub numbers : SpellOne number.Spells

module _ (ones : SpellOneEach) where
  own-segment : HaveOwnSpelling segment.segment_bytes segment.HasSpelling
  own-segment x y fit other same =
      ones.segments _ x y (record { fits = fit; spelling = refl }) (record { fits = other; spelling = same })

  own-checkpoint : HaveOwnSpelling checkpoint.checkpoint_bytes checkpoint.HasSpelling
  own-checkpoint x y fit other same =
      ones.checkpoints _ x y (record { fits = fit; spelling = refl })
      (record { fits = other; spelling = same })

  own-number : HaveOwnSpelling number.number_bytes number.HasSpelling
  own-number x y fit other same =
      ones.numbers _ x y (record { fits = fit; spelling = refl }) (record { fits = other; spelling = same })

  module _ (bytes : List ℕ) (p q : Parts) (m : IsImage bytes p) (n : IsImage bytes q) where
    same-shape : p.shape ≡ q.shape
    same-shape =
        let one : IsDivided bytes p = m.1.0 in
        let other : IsDivided bytes q = n.1.0 in
        ones.superblocks (take 1024 bytes) p.shape q.shape one.spelled other.spelled

    same-segments : p.segments ≡ q.segments
    same-segments =
        let one : HasSegments bytes p = m.1.1.1.0 in
        let other : HasSegments bytes q = n.1.1.1.0 in
        same-table p.segments q.segments
        (one.told.blocks ∙ one.shape.blocks ∙ ap (λ (s : Superblock). s.blocks) same-shape
        ∙ sym other.shape.blocks ∙ sym other.told.blocks)
        (one-list segment.segment_bytes segment.HasSpelling 16
        (omega arith) segments.entry_width own-segment _ _ one.told.fit other.told.fit
        (sym one.told.spelled ∙ ap (λ (s : Superblock). sufile_in s bytes) same-shape ∙ other.told.spelled))

    same-kept : p.kept ≡ q.kept
    same-kept =
        let one : HasCheckpoints bytes p = m.1.1.1.1.0 in
        let other : HasCheckpoints bytes q = n.1.1.1.1.0 in
        one-list checkpoint.checkpoint_bytes checkpoint.HasSpelling 160
        (omega arith) checkpoints.entry_width own-checkpoint _ _ one.fit other.fit
        (sym one.spelled ∙ ap (λ (s : Superblock). cpfile_in s bytes) same-shape ∙ other.spelled)

    same-numbers : p.numbers ≡ q.numbers
    same-numbers =
        let one : HasNumbers bytes p = m.1.1.1.1.1.0 in
        let other : HasNumbers bytes q = n.1.1.1.1.1.0 in
        one-list number.number_bytes number.HasSpelling 24
        (omega arith) numbers.entry_width own-number p.numbers q.numbers one.fit other.fit
        (sym one.spelled ∙ ap (λ (s : Superblock). dat_in s bytes) same-shape ∙ other.spelled)

  pub images_have_one_parts : ImagesHaveOneParts
  images_have_one_parts bytes p q m n =
      same-parts p q (same-shape bytes p q m n) (same-segments bytes p q m n) (same-numbers bytes p q m n)
      (same-kept bytes p q m n)
