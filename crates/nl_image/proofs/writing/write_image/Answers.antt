use Rattle.std.proofs.Common.{◌≡◌, ◌∙◌, ℕ, List, ◌++◌, length, ap, arith, length-append, take}
use Rattle.std.proofs.Math.Seq.{take-append_seam}
use Rattle.nl_image.proofs.writing.write_image.Goals as goal

-- what is written fills the place, which is nothing else
filled : (n : ℕ) (front blocks rest spelling : List ℕ) → n ≡ length (front ++ blocks) → front ≡ spelling
    → take n (front ++ blocks ++ rest) ≡ spelling ++ blocks
filled n front blocks rest spelling count is =
    ap (λ k. take k (front ++ blocks ++ rest)) count ∙ take-append_seam (front ++ blocks) rest
    ∙ ap (λ f. f ++ blocks) is

pub returns-clause-image : goal.returns-clause-image
returns-clause-image g c =
    let long : c.in_ok-image.image.len ≡ length (c.write_front.new.out ++ c.dump_blocks.new.out) =
    omega (arith, length-append c.write_front.new.out c.dump_blocks.new.out) in
    record {
      shape = c.superblock_over-superblock.result;
      blocks = c.dump_blocks.new.out;
      divided = c.superblock_over-superblock.ensures.shape;
      count = c.superblock_over-superblock.ensures.kept;
      blocks_are = c.in_ok-dump_blocks.ensures.blocks;
      fit = record {
        shape = c.write_front.ensures.superblock;
        segments = c.write_front.ensures.segments;
        numbers = c.requires;
        kept = c.write_front.ensures.kept;
      };
      spelled = filled _ _ _ _ _ long c.write_front.ensures.bytes;
    }
