use Rattle.std.proofs.Common.{◌≡◌, ℕ, List, arith, sym, subst}
use Rattle.std.proofs.lemmas.Result.{IfOk-weaker}
use Rattle.nl_types.specs.Blocks.Entries.{Birth}
use Rattle.nl_types.specs.Blocks.Roots.{Pages}
use Rattle.nl_blocktree.specs.Private.Renewing.{TopPage}
use Rattle.nl_blocktree.proofs.TreeHeights.{lowered_as_is, lowered_at_one, lowered_step}
use Rattle.nl_blocktree.proofs.height.+lower.Goals as goal

-- what is read of a top is what is stored
as_read : {read stored : Pages} {births : List Birth} {begun top : ℕ} {page : List ℕ} → read ≡ stored
    → TopPage stored births begun top page → TopPage read births begun top page
as_read {births = births} {begun} {top} {page} e t =
    subst (λ (pages : Pages). TopPage pages births begun top page) (sym e) t

pub returns-then-height-eq1-clause-ok : goal.returns-then-height-eq1-clause-ok
returns-then-height-eq1-clause-ok g t c =
    lowered_at_one c.args.height c.new.result c.args.batch.now (omega arith) c.new.ensures c.requires.named

pub lower-requires : goal.lower-requires
lower-requires g t c κs within = (
  omega (arith, c.decreases),
  (within, (omega arith, (omega arith, c.lone_child.ensures.named c.in-Some.below c.in-Some.is))),
)

pub returns-in-None-clause-ok : goal.returns-in-None-clause-ok
returns-in-None-clause-ok g t c =
    lowered_as_is c.args.height c.new-in-None.result c.args.batch.now
    (omega arith) c.new-in-None.ensures c.requires.named
    (λ page at.
    c.lone_child.ensures.more page (as_read (g.met.V.Vstore.reads_pages c.args.store.now) at) c.in-None.is)

pub returns-in_ok-drop_top-in-Some-clause-ok : goal.returns-in_ok-drop_top-in-Some-clause-ok
returns-in_ok-drop_top-in-Some-clause-ok g t c =
    IfOk-weaker c.lower.result _ _
    (λ new low.
    lowered_step c.args.height c.in-Some.below c.args.batch.now c.drop_top.new.batch c.lower.new.batch
    (omega arith) c.requires.named
    (λ page at.
    c.lone_child.ensures.lone page
    (as_read (g.met.V.Vstore.reads_pages c.args.store.now) at) c.in-Some.below c.in-Some.is)
    c.in_ok-drop_top-in-Some.ensures.ok low)
    c.lower.ensures.ok
