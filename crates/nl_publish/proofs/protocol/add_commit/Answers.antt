use Rattle.std.proofs.Common.{◌≡◌, sym, ◌∙◌, ap}
use Rattle.nl_publish.proofs.Adding.{adds_moves}
use Rattle.nl_publish.proofs.protocol.add_commit.Goals as goal

pub compare_exchange-requires : goal.compare_exchange-requires
compare_exchange-requires c =
    let head = c.requires.head in
    let offer = c.plain-offer.ensures in
    let pen = c.no_pen-pen.ensures in
    let here : c.args.seen.now.book ≡ c.args.head.now.book = sym (ap (λ w. w.book) head) in (
      ap (λ w. w.tracked) head,
      here,
      pen.0 ∙ here,
      offer.0,
      rw (ap (λ w. w.key) head, pen.1, offer.1, offer.3)
          (adds_moves c.args.seen.now.log c.args.commit.now c.args.count (sym c.requires.count)
          c.requires.begun),
    )
