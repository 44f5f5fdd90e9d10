use Rattle.std.proofs.Common.{◌≡◌, ◌∙◌, ap, sym, Some, false, true}
use Rattle.std.proofs.lemmas.Slice.Eq.{slice_eq-Decides}
use Rattle.std.proofs.lemmas.Bool.Decides.{Decides-eqb}
use Rattle.nl_layout.specs.Summary.{summary_bytes}
use Rattle.nl_layout.specs.Facts.Reading.{contents-Spells, length-Spells, levels-Spells}
use Rattle.nl_layout.proofs.summary.Summary.read.Goals as goal

pub returns-then-bytes-ne-BLOCK_SIZE-clause-only :
    goal.returns-then-bytes-ne-BLOCK_SIZE-clause-only
returns-then-bytes-ne-BLOCK_SIZE-clause-only c = λ s spells.
    absurd (c.if-bytes-ne-BLOCK_SIZE.true (length-Spells c.args.bytes.now s spells))

pub returns-in_err-summary-clause-only : goal.returns-in_err-summary-clause-only
returns-in_err-summary-clause-only c = λ s spells.
    absurd (c.in_err-summary.ensures
    (levels-Spells c.args.bytes.now s _ spells (c.from-count.ensures ∙ c.read_u16.ensures)))

pub returns-then-eq-clause-only : goal.returns-then-eq-clause-only
returns-then-eq-clause-only c = λ s spells.
    ap Some (c.in_ok-summary.ensures.1
    ∙ contents-Spells c.args.bytes.now s _ spells (c.from-count.ensures ∙ c.read_u16.ensures))

pub returns-else-eq-clause-only : goal.returns-else-eq-clause-only
returns-else-eq-clause-only c = λ s spells.
    let again : c.as_slice.result.now ≡ c.args.bytes.now =
    c.as_slice.ensures ∙ c.write.ensures.spelling
    ∙ ap summary_bytes
    (c.in_ok-summary.ensures.1
    ∙ contents-Spells c.args.bytes.now s _ spells (c.from-count.ensures ∙ c.read_u16.ensures))
    ∙ sym spells.spelling in
    let no : false ≡ true = (slice_eq-Decides Decides-eqb _ _ _ c.if-eq.ensures).1 again in cc
