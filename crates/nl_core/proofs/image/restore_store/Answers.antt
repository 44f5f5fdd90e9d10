use Rattle.nl_core.proofs.RestoredStores.{own-held, restored-store}
use Rattle.nl_core.proofs.image.restore_store.Goals as goal

pub returns-in_err-store-in-Ok-clause-refused : goal.returns-in_err-store-in-Ok-clause-refused
returns-in_err-store-in-Ok-clause-refused g c =
    absurd (c.in_err-store-in-Ok.ensures.other
    (own-held c.args.segments c.args.logs c.args.numbers _ c.in-Ok.ensures.content c.requires.own))

pub returns-in_ok-store-in-Ok-clause-restored : goal.returns-in_ok-store-in-Ok-clause-restored
returns-in_ok-store-in-Ok-clause-restored g c =
    restored-store c.args.segments c.args.logs c.args.numbers _ c.in-Ok.ensures.content
    c.requires.pages c.requires.logs.count _ c.in_ok-store-in-Ok.store.store
    c.in_ok-store-in-Ok.ensures.restored c.in_ok-store-in-Ok.ensures.shown
