use Rattle.std.proofs.Common.{sym, true≢false, ◌∙◌}
use Rattle.nl_keep.proofs.Judgements.{nameable}
use Rattle.nl_keep.proofs.StoreRefusals.{rooted}
use Rattle.nl_keep.proofs.judging.judge_tree.Goals as goal

pub returns-then-is_rooted-clause-nameable : goal.returns-then-is_rooted-clause-nameable
returns-then-is_rooted-clause-nameable c =
    nameable c.args.entries.now (sym c.is_rooted.ensures ∙ c.if-is_rooted.true) c.in_ok-judge_entries.ensures.each
    c.in_ok-judge_entries.ensures.count

pub returns-else-is_rooted-clause-refused : goal.returns-else-is_rooted-clause-refused
returns-else-is_rooted-clause-refused c t =
    true≢false (sym (rooted c.args.entries.now t) ∙ sym c.is_rooted.ensures ∙ c.if-is_rooted.false)
