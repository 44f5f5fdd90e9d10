-- The conditions of the superblock, and of the length that it tells.
use Rattle.std.proofs.Common.{◌≡◌, ℕ, [], List, take, length, ap, refl, sym, ◌∙◌, subst, arith}
use Rattle.nl_types.specs.declared.geometry.Geometry.{Geometry}
use Rattle.nl_layout.specs.Superblock.{HasMark}
use Rattle.nl_layout.specs.declared.superblock.Mark.TheVariants.{Second}
use Rattle.nl_layout.specs.declared.superblock.Superblock.{Superblock}
use Rattle.nl_image.specs.Conditions.{FirstFails, IsDividedBy, IsShapeOf, MeetsFirst}
use Rattle.nl_image.specs.Parts.{Parts, image_length}
use Rattle.nl_image.specs.Reading.{BeginsWith}

-- parts with this superblock
abbrev pub parts-of : Superblock → Parts
parts-of s = record { shape = s; segments = record { blocks = 0; each = [] }; numbers = []; kept = [] }

blank : Parts
blank = parts-of (record { mark = Second; segments = 0; blocks = 0; checkpoints = 0 })

module _ (bytes : List ℕ) where
  pub no-mark : (HasMark bytes → ⊥) → FirstFails 1 bytes
  no-mark never = record {
    number = omega arith;
    before = (blank, tt);
    fails = λ p m. never m.0;
  }

  pub not-divided : HasMark bytes → ((s : Superblock) → IsDividedBy (take 1024 bytes) s → ⊥)
      → FirstFails 2 bytes
  not-divided mark never = record {
    number = omega arith;
    before = (blank, (mark, tt));
    fails = λ p m. never p.shape m.1.0;
  }

  pub begins-with : (s : Superblock) → HasMark bytes → IsDividedBy (take 1024 bytes) s
      → ((t : Superblock) → IsDividedBy (take 1024 bytes) t → s ≡ t) → BeginsWith bytes s
  begins-with s mark is alone = record {
    meets = λ p e. (mark, (subst (IsDividedBy (take 1024 bytes)) (sym e) is, tt));
    only = λ p m. sym (alone p.shape m.1.0);
  }

  pub are-divided : (g : Geometry) (s : Superblock) → BeginsWith bytes s → IsShapeOf g s
      → (p : Parts) × MeetsFirst 2 bytes p × IsShapeOf g p.shape
  are-divided g s begins shape = (parts-of s, begins.meets (parts-of s) refl, shape)

  -- no other length would be met either
  pub other-length : (s : Superblock) → BeginsWith bytes s → (length bytes ≡ image_length s → ⊥)
      → FirstFails 3 bytes
  other-length s begins never = record {
    number = omega arith;
    before = (parts-of s, begins.meets (parts-of s) refl);
    fails = λ p m. never (m.1.1.0 ∙ ap image_length (begins.only p (m.0, (m.1.0, tt))));
  }
