use Rattle.std.proofs.Common.{◌≡◌, ℕ, ◌*◌, length, subst, ◌∙◌, refl, arith}
use Rattle.std.proofs.lemmas.Result.{IfOk-weaker}
use Rattle.std.specs.Prelude.{IfOk}
use Rattle.std.specs.Option.{option_copied}
use Rattle.nl_tree.specs.Bytes.{IsPageWritten}
use Rattle.nl_tree.specs.Facts.PageBytes.{from_zero, part_written, touches}
use Rattle.nl_tree.proofs.page_writing.written_page.Goals as goal

pub returns : goal.returns
returns c =
    let start = c.args.index * 1024 in
    let near =
    touches c.args.offset
    (length c.args.bytes.now) c.args.index c.requires.touched.0 c.requires.touched.1 in
    let same : start ≡ 1024 * c.args.index = omega arith in
    subst (λ (n : ℕ).
    IfOk c.overwritten_page.result
    (IsPageWritten (option_copied c.args.old) n c.args.offset c.args.bytes.now))
    same
    (IfOk-weaker c.overwritten_page.result _
    (IsPageWritten (option_copied c.args.old) start c.args.offset c.args.bytes.now) (λ page is. record {
      whole = is.whole;
      bytes_at = λ k low. is.bytes_at k low
          ∙ from_zero _ _ k _
          ∙ part_written c.args.bytes.now _ c.args.offset start c.max-from.result c.min-to.result k _
          (c.max-from.ensures, c.min-to.ensures) (omega (arith, near.0)) (omega (arith, near.1)) refl low;
    }) c.overwritten_page.ensures)
