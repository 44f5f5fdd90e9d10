use Rattle.std.proofs.Common.{◌≡◌, ◌+◌, ◌∷◌, length, ap, ◌∙◌, sym, arith, rules}
use Rattle.std.specs.Prelude.{Some}
use Rattle.std.specs.Vec.Iter.{into_iter_items}
use Rattle.nl_device.specs.Pages.{KeepsOthers}
use Rattle.nl_segwriter.proofs.Rows.{keeps_put, stand_put, value_next, rest_behind}
use Rattle.nl_segwriter.proofs.put.put_row.Goals as goal

pub loop-page-preserved : goal.loop-page-preserved
loop-page-preserved g c =
    let inv = c.loop-page.invariant in
    let put = c.put.ensures in
    let pages = g.D.Device.pages c.put.new.self in
    let number = c.args.first + c.loop-page.tried in
    let first : into_iter_items c.loop-page.page-iterator ≡ c.in-Some.page ∷ into_iter_items c.next.new.self =
    c.in-Some.ensures.steps.0 in
    let others : KeepsOthers number (g.D.Device.pages c.loop-page.device) pages =
    rw c.new-number.ensures at put.others in
    let put_page : pages c.new-number.result ≡ Some c.in-Some.page = search rules in
    let unfailed : g.D.Device.failed c.put.new.self ≡ g.D.Device.failed c.loop-page.device = search rules in
    let here = value_next c.args.pages _ _ c.in-Some.page c.loop-page.tried first inv.rest in
    record {
      next = tt;
      ends = tt;
      count = omega (arith, inv.count, ap length first);
      others = keeps_put c.args.first c.loop-page.tried _ _ pages inv.others others;
      unfailed = unfailed ∙ inv.unfailed;
      shape = put.shape ∙ inv.shape;
      stand =
          stand_put c.args.first c.loop-page.tried _ pages c.args.pages others
          (ap pages (sym c.new-number.ensures) ∙ put_page ∙ here) inv.stand;
      rest = rest_behind c.args.pages _ _ c.in-Some.page c.loop-page.tried first inv.rest;
    }
