use Rattle.std.proofs.Common.{◌/◌, Some}
use Rattle.std.proofs.lemmas.Result.{on_ok_weaker}
use Rattle.nl_tree.specs.Became.{holding_over}
use Rattle.nl_tree.specs.Held.{Holding, Stored}
use Rattle.nl_tree.specs.Overlays.{became_in}
use Rattle.nl_tree.specs.Private.Pages.{blocks_below, blocks_for, put_from}
use Rattle.nl_tree.specs.Steps.{with_held}
use Rattle.nl_tree.proofs.OneHolding.{as_lists, counts_inside, counts_outside, file_inside}
use Rattle.nl_tree.proofs.WritingCalls.{file_number, file_of, is_resized}
use Rattle.nl_tree.proofs.current.CurrentTree.truncate_file.Goals as goal

pub truncate_blocks-requires-clause-file : goal.truncate_blocks-requires-clause-file
truncate_blocks-requires-clause-file g c =
    let asked = c.requires.file in (
      asked.0,
      asked.1,
      asked.2,
      asked.3,
      file_inside c.self.inside.overlay c.args.self.now asked.0 c.args.file asked.1 asked.2 c.self.invariant
          c.self.view_is
          (file_of (holding_over c.args.self.now.became asked.0) c.args.file asked.1 asked.2 asked.4),
    )

pub returns-clause-resized : goal.returns-clause-resized
returns-clause-resized g c = λ b was blocks holds is.
    let old : Holding = holding_over c.args.self.now.became b in
    let o = c.self.inside.overlay in
    let here =
    file_inside o c.args.self.now b c.args.file was blocks c.self.invariant c.self.view_is
    (file_of old c.args.file was blocks is) in
    let orderly =
    c.truncate_blocks.ensures.orderly c.self.invariant (file_number old c.args.file was blocks is) in
    on_ok_weaker c.truncate_blocks.result
    (is_resized old
    (holding_over (became_in c.truncate_blocks.new.self) b) c.args.file was blocks is c.args.size
    c.in_ok-pages.pages.items c.requires.fits
    (c.in_ok-pages.ensures old (c.view.ensures b holds is.sound)))
    (as_lists o c.truncate_blocks.new.self c.args.self.now b
    (with_held c.args.file
    (Some (Stored c.args.size
    (blocks_below (blocks_for c.args.size)
    (put_from (c.args.size / 1024) c.in_ok-pages.pages.items blocks)))))
    c.truncate_blocks.result c.self.invariant orderly c.self.view_is
    (c.truncate_blocks.ensures.truncated b was blocks holds here))

pub returns-clause-counts : goal.returns-clause-counts
returns-clause-counts g c = λ b was blocks holds is counts.
    let old : Holding = holding_over c.args.self.now.became b in
    let o = c.self.inside.overlay in
    let here =
    file_inside o c.args.self.now b c.args.file was blocks c.self.invariant c.self.view_is
    (file_of old c.args.file was blocks is) in
    let orderly =
    c.truncate_blocks.ensures.orderly c.self.invariant (file_number old c.args.file was blocks is) in
    on_ok_weaker c.truncate_blocks.result (counts_outside c.truncate_blocks.new.self b orderly)
    (c.truncate_blocks.ensures.counts b was blocks holds here
    (counts_inside o c.args.self.now b c.self.invariant c.self.view_is counts))

pub invariant_of-self : goal.invariant_of-self
invariant_of-self g c =
    let asked = c.requires.file in
    c.truncate_blocks.ensures.orderly c.self.invariant
    (file_number (holding_over c.args.self.now.became asked.0) c.args.file asked.1 asked.2 asked.4)
