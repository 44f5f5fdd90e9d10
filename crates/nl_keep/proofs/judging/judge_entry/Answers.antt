use Rattle.std.proofs.Common.{ap, sym, ◌∙◌}
use Rattle.nl_types.specs.Plain.Limits.{path_length_limit}
use Rattle.nl_keep.specs.Private.Judged.{is_spelled}
use Rattle.nl_keep.proofs.StoreRefusals.{too_long}
use Rattle.nl_keep.proofs.judging.judge_entry.Goals as goal

pub returns-then-not-is_spelled-clause-refused : goal.returns-then-not-is_spelled-clause-refused
returns-then-not-is_spelled-clause-refused c =
    too_long c.args.entry.now.0
    (ap (is_spelled path_length_limit) (sym c.as_slice-path.ensures) ∙ sym c.is_spelled.ensures
    ∙ c.if-not-is_spelled.true)
