use Rattle.std.proofs.Common.{◌+◌, ◌-◌, get_or, length, sym, ◌∙◌, ap, arith}
use Rattle.std.proofs.lemmas.Result.{IfOk-weaker}
use Rattle.nl_tree.specs.Facts.PageBytes.{from_zero, length-put, overwrote}
use Rattle.nl_tree.proofs.page_writing.overwritten_page.Goals as goal

pub returns : goal.returns
returns c =
    IfOk-weaker c.new-2.result _ _ (λ page is. record {
      whole =
          ap length (is ∙ c.new.ensures)
          ∙ length-put c.args.within
          (c.args.within + length c.args.bytes.now - c.args.within) c.bytes_of_block-block.result
          c.copy_from_slice.new.self
          (omega arith) (c.copy_from_slice.ensures.len ∙ omega arith)
          ∙ omega arith;
      bytes_at = λ k low. ap (λ b. get_or b k 0) (is ∙ c.new.ensures)
          ∙ overwrote _ _ _ _ c.copy_from_slice.ensures.after (omega arith) (omega arith)
          (c.bytes_of_block-block.ensures k)
          ∙ sym (from_zero _ _ k _);
    }) c.new-2.ensures
