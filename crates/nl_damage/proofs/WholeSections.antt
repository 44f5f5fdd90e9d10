-- Sections of bytes that are as long as the superblock tells: none of their bytes is missing.
use Rattle.std.proofs.Common.{◌≡◌, ◌∙◌, ℕ, ◌+◌, ◌*◌, List, ap, arith, length, refl, sym}
use Rattle.nl_layout.specs.declared.superblock.Superblock.{Superblock}
use Rattle.nl_image.specs.Conditions.{IsShapeOf, MeetsFirst}
use Rattle.nl_image.specs.Facts.ReadParts.{part-length}
use Rattle.nl_image.specs.Parts.{Parts, blocks_start, cpfile_start, dat_start, image_length, padding_of, total_of}
use Rattle.nl_damage.specs.declared.sections.Sections.{Sections}
use Rattle.nl_damage.specs.Sections.{AreImageSections, AreSections, AreWhole, HasTooMany, total_in}

same-total : (x : Sections) → IsShapeOf x.geometry x.superblock → total_of x.superblock ≡ total_in x
same-total x shape = rw (shape.segments, shape.blocks) refl

-- what stands behind one part is the others
behind : (n head a b c d e : ℕ) → n ≡ head + a + b + c + d + e → n ≡ head + a + (b + c + d + e)
behind n head a b c d e is = omega (arith, is)

behind-two : (n head a b c d e : ℕ) → n ≡ head + a + b + c + d + e → n ≡ head + a + b + (c + d + e)
behind-two n head a b c d e is = omega (arith, is)

behind-three : (n head a b c d e : ℕ) → n ≡ head + a + b + c + d + e → n ≡ head + a + b + c + (d + e)
behind-three n head a b c d e is = omega (arith, is)

behind-all : (n first count : ℕ) → n ≡ first + count → n ≡ first + count + 0
behind-all n first count is = omega (arith, is)

pub are-whole : (bytes : List ℕ) (x : Sections) → AreSections bytes x → length bytes ≡ x.places.end
    → AreWhole x
are-whole bytes x are long =
    let s : Superblock = x.superblock in
    let whole : length bytes ≡ image_length s = long ∙ are.places.end in
    record {
      segments =
          ap length are.segments
          ∙ (part-length bytes 1024 (16 * s.segments) _
          (behind (length bytes) 1024 (16 * s.segments) (24 * total_of s) (160 * s.checkpoints) (padding_of s)
          (1024 * total_of s) whole)
          ∙ ap (λ (n : ℕ). 16 * n) (sym are.shape.segments));
      numbers =
          ap length are.numbers
          ∙ (part-length bytes (dat_start s) (24 * total_of s) _
          (behind-two (length bytes) 1024 (16 * s.segments) (24 * total_of s) (160 * s.checkpoints)
          (padding_of s) (1024 * total_of s) whole)
          ∙ ap (λ (n : ℕ). 24 * n) (same-total x are.shape));
      checkpoints = (
        s.checkpoints,
        ap length are.checkpoints
            ∙ part-length bytes (cpfile_start s) (160 * s.checkpoints) _
            (behind-three (length bytes) 1024 (16 * s.segments) (24 * total_of s) (160 * s.checkpoints)
            (padding_of s) (1024 * total_of s) whole),
      );
      blocks =
          ap length are.blocks
          ∙ (part-length bytes (blocks_start s) (1024 * total_of s) 0
          (behind-all (length bytes) (blocks_start s) (1024 * total_of s) whole)
          ∙ ap (λ (n : ℕ). 1024 * n) (same-total x are.shape));
    }

-- and they meet the first three conditions
pub image-sections : (bytes : List ℕ) (x : Sections) → AreSections bytes x
    → ((p : Parts) × MeetsFirst 2 bytes p × (p.shape ≡ x.superblock)) → (HasTooMany x.superblock → ⊥)
    → length bytes ≡ x.places.end → AreImageSections bytes x
image-sections bytes x are meets few long =
    let length-is : length bytes ≡ image_length meets.0.shape =
    long ∙ are.places.end ∙ ap (λ (s : Superblock). image_length s) (sym meets.2) in
    record {
      are = are;
      meets = (meets.0, (meets.1.0, (meets.1.1.0, (length-is, tt))), meets.2);
      few = few;
    }
