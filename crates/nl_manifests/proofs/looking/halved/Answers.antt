use Rattle.std.proofs.Common.{◌+◌, ◌-◌, ◌/◌, sym, ◌∙◌, arith}
use Rattle.nl_manifests.proofs.Lookups.{behind_line}
use Rattle.nl_manifests.proofs.looking.halved.Goals as goal

pub returns-then-is_below-clause-between : goal.returns-then-is_below-clause-between
returns-then-is_below-clause-between c =
    let b = c.requires.between in
    let k = c.args.span.low + (c.args.span.high - c.args.span.low) / 2 in
    record {
      ordered = omega (arith, c.requires.open);
      within = b.within;
      passed =
          behind_line c.args.lines.now k c.index-lines-middle.result c.args.name.now c.requires.ascend
          (omega (arith, c.requires.open, b.within)) c.index-lines-middle.is
          (sym c.is_below.ensures ∙ c.if-is_below.true);
      ended = b.ended;
    }
