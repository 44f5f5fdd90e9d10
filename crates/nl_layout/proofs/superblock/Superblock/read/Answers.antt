use Rattle.std.proofs.Common.{◌≡◌, ◌∙◌, ap, sym, false, true}
use Rattle.std.proofs.lemmas.Slice.Eq.{slice_eq-Decides}
use Rattle.std.proofs.lemmas.Bool.Decides.{Decides-eqb}
use Rattle.nl_layout.specs.Superblock.{superblock_bytes}
use Rattle.nl_layout.proofs.ImageReading.{superblock_at-Spells}
use Rattle.nl_layout.proofs.superblock.Superblock.read.Goals as goal

pub returns-else-eq-clause-only : goal.returns-else-eq-clause-only
returns-else-eq-clause-only c = λ s spells.
    let read : c.from_bytes-superblock.result ≡ s =
    c.from_bytes-superblock.ensures ∙ superblock_at-Spells c.args.bytes.now s spells in
    let again : c.as_slice.result.now ≡ c.args.bytes.now =
    c.as_slice.ensures ∙ c.write.ensures.spelling ∙ ap superblock_bytes read ∙ sym spells.spelling in
    let no : false ≡ true = (slice_eq-Decides Decides-eqb _ _ _ c.if-eq.ensures).1 again in cc
