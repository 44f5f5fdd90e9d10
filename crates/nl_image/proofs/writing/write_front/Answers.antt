use Rattle.std.proofs.Common.{◌≡◌, ◌∙◌, ℕ, ◌*◌, List, ◌++◌, replicate, ap, append_assoc, arith, sym}
use Rattle.nl_sufile.specs.Images.{sufile_bytes}
use Rattle.nl_image.specs.Parts.{padding_of}
use Rattle.nl_image.proofs.writing.write_front.Goals as goal

-- five parts, one after the other
assembled : (head segments numbers kept padding h s n k p : List ℕ)
    → head ≡ h → segments ≡ s → numbers ≡ n → kept ≡ k → padding ≡ p
    → head ++ (segments ++ (numbers ++ (kept ++ padding))) ≡ h ++ (s ++ n ++ k) ++ p
assembled head segments numbers kept padding h s n k p a b c d e = rw (a, b, c, d, e) (simp append_assoc)

pub returns-clause-bytes : goal.returns-clause-bytes
returns-clause-bytes g c =
    let total : c.args.superblock.now.segments * c.args.superblock.now.blocks ≡ c.capacity.result =
    rw (c.requires.shape.segments, c.requires.shape.blocks) (sym c.capacity.ensures.count) in
    let zeros : c.fill.new.self ≡ replicate (padding_of c.args.superblock.now) 0 =
    c.fill.ensures.after (λ y e. e) ∙ ap (λ n. replicate n 0) (omega arith) in
    assembled _ _ _ _ _ _ _ _ _ _ c.write.ensures.spelling
    (c.dump.ensures.bytes ∙ ap sufile_bytes c.table.ensures) c.dump-2.ensures
    c.write_checkpoints.ensures.bytes zeros
