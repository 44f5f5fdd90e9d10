use Rattle.std.proofs.Common.{◌≡◌, ◌+◌, ◌*◌, ◌∷◌, ◌++◌, [], ap, sym, ◌∙◌, append_assoc, arith, ℕ, List}
use Rattle.nl_types.specs.Blocks.Placing.{blocks_from, first_block}
use Rattle.nl_segwriter.proofs.Rows.{row_of-more}
use Rattle.nl_segwriter.proofs.numbers.push_row.Goals as goal

pub loop-k-preserved : goal.loop-k-preserved
loop-k-preserved c =
    let b : ℕ = first_block c.args.blocks c.args.log + 1 in
    let before : List ℕ = c.args.numbers.now.items in
    let start : c.get.result * c.args.blocks ≡ c.args.log.segment * c.args.blocks =
    ap (λ (n : ℕ). n * c.args.blocks) c.get.ensures in
    let number : c.new.result ≡ b + c.loop-k.k = omega (arith, c.new.ensures, start) in
    c.in_ok-push.ensures.items
    ∙ rw (c.loop-k.invariant, number)
    (append_assoc before (blocks_from b c.loop-k.k) ((b + c.loop-k.k) ∷ [])
    ∙ ap (λ (xs : List ℕ). before ++ xs) (sym (row_of-more b c.loop-k.k)))
