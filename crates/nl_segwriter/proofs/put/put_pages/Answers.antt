use Rattle.std.proofs.Common.{◌≡◌, ◌∷◌, length, ap, ◌∙◌, sym, arith}
use Rattle.std.specs.Vec.Iter.{into_iter_items}
use Rattle.nl_segwriter.proofs.PutPages.{all_put, more_put}
use Rattle.nl_segwriter.proofs.Rows.{rest_behind, value_next}
use Rattle.nl_segwriter.proofs.put.put_pages.Goals as goal

pub loop-page-preserved : goal.loop-page-preserved
loop-page-preserved g c =
    let inv = c.loop-page.invariant in
    let done = c.in_ok-put_page.ensures in
    let first : into_iter_items c.loop-page.page-iterator ≡ c.in-Some.page ∷ into_iter_items c.next.new.self =
    c.in-Some.ensures.steps.0 in
    let here = value_next c.args.pages _ _ c.in-Some.page c.loop-page.number first inv.rest in
    record {
      next = tt;
      ends = tt;
      long = omega (arith, inv.long, ap length first, c.in-Some.ensures.steps.1);
      count = omega (arith, inv.count, ap length first);
      unfailed = done.unfailed ∙ inv.unfailed;
      shape = done.shape ∙ inv.shape;
      put =
          more_put c.args.pages (g.D.Device.pages c.loop-page.device)
          (g.D.Device.pages c.put_page.new.device) c.loop-page.number c.new.result c.in-Some.page
          c.new.ensures
          (sym here) inv.put done.put done.others;
      rest = rest_behind c.args.pages _ _ c.in-Some.page c.loop-page.number first inv.rest;
    }

pub returns-clause-put : goal.returns-clause-put
returns-clause-put g c =
    let none = c.in-None.ensures.steps in
    all_put c.args.pages (g.D.Device.pages c.loop-page.device) c.loop-page.number
    (omega (arith, none.0, c.loop-page.invariant.long, c.loop-page.invariant.count))
    c.loop-page.invariant.put
