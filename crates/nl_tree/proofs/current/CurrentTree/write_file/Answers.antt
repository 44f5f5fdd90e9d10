use Rattle.std.proofs.Common.{ℕ, ◌+◌, ◌/◌, Some, length, max, ap, ◌∙◌}
use Rattle.std.proofs.lemmas.Result.{on_ok_weaker}
use Rattle.nl_tree.specs.Became.{holding_over}
use Rattle.nl_tree.specs.Held.{Holding, Stored}
use Rattle.nl_tree.specs.Overlays.{became_in}
use Rattle.nl_tree.specs.Private.Pages.{put_from}
use Rattle.nl_tree.specs.Steps.{with_held}
use Rattle.nl_tree.proofs.OneHolding.{as_lists, counts_inside, counts_outside, file_inside}
use Rattle.nl_tree.proofs.WritingCalls.{file_number, file_of, is_written}
use Rattle.nl_tree.proofs.current.CurrentTree.write_file.Goals as goal

pub write_blocks-requires-clause-file : goal.write_blocks-requires-clause-file
write_blocks-requires-clause-file g c =
    let asked = c.requires.file in (
      asked.0,
      asked.1,
      asked.2,
      asked.3,
      file_inside c.self.inside.overlay c.args.self.now asked.0 c.args.file asked.1 asked.2 c.self.invariant
          c.self.view_is
          (file_of (holding_over c.args.self.now.became asked.0) c.args.file asked.1 asked.2 asked.4),
    )

pub returns-clause-written : goal.returns-clause-written
returns-clause-written g c = λ b size blocks holds is.
    let old : Holding = holding_over c.args.self.now.became b in
    let o = c.self.inside.overlay in
    let here =
    file_inside o c.args.self.now b c.args.file size blocks c.self.invariant c.self.view_is
    (file_of old c.args.file size blocks is) in
    let orderly =
    c.write_blocks.ensures.orderly c.self.invariant (file_number old c.args.file size blocks is) in
    on_ok_weaker c.write_blocks.result
    (is_written old
    (holding_over (became_in c.write_blocks.new.self) b) c.args.file size blocks is c.args.offset
    c.max-size.result c.args.bytes.now c.in_ok-pages.pages.items
    c.requires.more c.requires.fits c.in_ok-pages.ensures.count
    (c.in_ok-pages.ensures.pages old (c.view.ensures b holds is.sound))
    (c.max-size.ensures
    ∙ ap (λ (n : ℕ). max n (c.args.offset + length c.args.bytes.now))
    (c.size.ensures old (c.view-2.ensures b holds is.sound))))
    (as_lists o c.write_blocks.new.self c.args.self.now b
    (with_held c.args.file
    (Some (Stored c.max-size.result (put_from (c.args.offset / 1024) c.in_ok-pages.pages.items blocks))))
    c.write_blocks.result c.self.invariant orderly c.self.view_is
    (c.write_blocks.ensures.written b size blocks holds here))

pub returns-clause-counts : goal.returns-clause-counts
returns-clause-counts g c = λ b size blocks holds is counts.
    let old : Holding = holding_over c.args.self.now.became b in
    let o = c.self.inside.overlay in
    let here =
    file_inside o c.args.self.now b c.args.file size blocks c.self.invariant c.self.view_is
    (file_of old c.args.file size blocks is) in
    let orderly =
    c.write_blocks.ensures.orderly c.self.invariant (file_number old c.args.file size blocks is) in
    on_ok_weaker c.write_blocks.result (counts_outside c.write_blocks.new.self b orderly)
    (c.write_blocks.ensures.counts b size blocks holds here
    (counts_inside o c.args.self.now b c.self.invariant c.self.view_is counts))

pub invariant_of-self : goal.invariant_of-self
invariant_of-self g c =
    let asked = c.requires.file in
    c.write_blocks.ensures.orderly c.self.invariant
    (file_number (holding_over c.args.self.now.became asked.0) c.args.file asked.1 asked.2 asked.4)
