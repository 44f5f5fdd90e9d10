use Rattle.std.proofs.Common.{◌≡◌, ◌∙◌, ap, length, subst, sym}
use Rattle.std.proofs.Math.ListN.{replicate}
use Rattle.nl_types.specs.Blocks.Segments.{IsUsed, Segments}
use Rattle.nl_vstore.specs.Images.{zero_page}
use Rattle.nl_vstore.proofs.images.dump_block.Goals as goal

pub returns-then-not-is_used-clause-page : goal.returns-then-not-is_used-clause-page
returns-then-not-is_used-clause-page g c =
    let segments : Segments = (g.S.Space.content c.args.space.now).segments in
    let zeros : c.fill.new.self ≡ zero_page =
    c.fill.ensures.after (λ y e. e) ∙ ap (λ n. replicate n 0) c.requires.size in
    let unused : IsUsed segments c.args.number → ⊥ = λ used.
    let there : IsUsed c.table.result.now c.new-number.result =
    subst (λ (s : Segments). IsUsed s c.new-number.result) (sym c.table.ensures)
    (subst (IsUsed segments) (sym c.new-number.ensures) used) in
    let yes = c.if-not-is_used.ensures.1 there in absurd (cc) in
    record {
      whole = ap length zeros;
      used = λ used. absurd (unused used);
      unused = λ _. zeros;
    }
