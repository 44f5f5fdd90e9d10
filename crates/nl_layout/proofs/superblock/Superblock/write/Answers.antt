use Rattle.std.proofs.Common.{◌≡◌, ◌∙◌, ℕ, ◌++◌, List, length, ap, arith}
use Rattle.std.proofs.Math.ListN.{replicate}
use Rattle.nl_layout.specs.Superblock.{header_bytes}
use Rattle.nl_layout.proofs.superblock.Superblock.write.Goals as goal

pub returns : goal.returns
returns c =
    let count : length c.split_at_mut-header.result.1.now ≡ 1000 =
    omega (arith, c.split_at_mut-header.ensures.back_len, c.requires) in
    let header = c.copy_from_slice.ensures.after ∙ c.header_of.ensures.bytes in
    let rest = c.fill.ensures.after (λ y e. e) ∙ ap (λ (n : ℕ). replicate n 0) count in
    record {
      fits = c.header_of.ensures.fits;
      spelling =
          ap (λ (xs : List ℕ). xs ++ c.fill.new.self) header
          ∙ ap (λ (xs : List ℕ). header_bytes c.args.self.now ++ xs) rest;
    }
