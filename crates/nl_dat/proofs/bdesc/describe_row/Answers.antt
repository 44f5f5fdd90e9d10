use Rattle.std.proofs.Common.{◌++◌, List, ap, sym, ◌∙◌}
use Rattle.nl_dat.specs.declared.bdesc.Bdesc.{Bdesc}
use Rattle.nl_dat.specs.Described.{desc_at}
use Rattle.nl_dat.specs.Table.{addresses_of, entry_in}
use Rattle.nl_dat.proofs.DescribedRows.{descs-more}
use Rattle.nl_dat.proofs.bdesc.describe_row.Goals as goal

pub loop-position-preserved : goal.loop-position-preserved
loop-position-preserved c =
    let addresses = addresses_of (entry_in c.args.table.now) in
    c.in_ok-push_desc.ensures
    ∙ ap (λ (descs : List Bdesc). descs ++ desc_at addresses c.new.result c.row_tag-tag.result)
    c.loop-position.invariant
    ∙ sym (descs-more addresses c.args.first c.loop-position.position c.new.result c.args.row.now
    c.row_tag-tag.result c.loop-position-test.true c.new.ensures c.row_tag-tag.ensures)
