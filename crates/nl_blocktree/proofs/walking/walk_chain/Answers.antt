use Rattle.std.proofs.Common.{◌≢◌, ◌∙◌, ℕ, arith, ap, sym, refl}
use Rattle.std.specs.Option.{is_some}
use Rattle.std.proofs.lemmas.Result.{err_from_is_err_and}
use Rattle.nl_types.specs.Blocks.Roots.{Chain, OfTree, Pages, kind_of}
use Rattle.nl_blocktree.specs.Private.Walks.{IsNode}
use Rattle.nl_blocktree.proofs.MetChains.{ended-no, ended-yes, met-next, met-none, next-slot, no-top, top-there, unmet-most}
use Rattle.nl_blocktree.proofs.walking.walk_chain.Goals as goal

chain : (top : ℕ) → kind_of (Chain top) ≢ OfTree
chain top e = cc

pub returns-then-get-eq0-clause-refused : goal.returns-then-get-eq0-clause-refused
returns-then-get-eq0-clause-refused g c =
    no-top (g.V.VRead.pages c.args.store.now) c.args.first c.args.met.now
    (sym c.get.ensures ∙ c.if-get-eq0.true)

pub nodes-init : goal.nodes-init
nodes-init g c =
    let pages : Pages = g.V.VRead.pages c.args.store.now in
    let there = top-there pages c.args.first (λ e. c.if-get-eq0.false (c.get.ensures ∙ e)) in
    record {
      within = c.requires.within;
      same_count = refl;
      left = let most = unmet-most c.args.met.now in omega (arith, most);
      top = ap is_some there;
      at = there;
      walked = met-none pages (Chain c.args.first) c.args.met.now;
    }

pub returns-in_err-page-clause-refused : goal.returns-in_err-page-clause-refused
returns-in_err-page-clause-refused g c =
    let exits = err_from_is_err_and c.from_residual.result c.from_residual.ensures.1 in
    rw (exits.1, exits.2)
    (c.in_err-page.ensures.refused (Chain c.args.first) c.nodes.position c.args.met.now
    (chain c.args.first) c.nodes.invariant.at c.nodes.invariant.walked)

pub nodes-preserved : goal.nodes-preserved
nodes-preserved g c =
    let pages : Pages = g.V.VRead.pages c.args.store.now in
    let node : IsNode pages (Chain c.args.first) c.nodes.position c.in_ok-page.page.now =
    record { number = c.nodes.number; at = c.nodes.invariant.at; stored = c.in_ok-page.ensures.page } in
    record {
      within = λ v s.
          let low = c.nodes.invariant.within v s in omega (arith, low, c.in_ok-page.ensures.count);
      same_count = c.in_ok-page.ensures.count ∙ c.nodes.invariant.same_count;
      left =
          let less = c.in_ok-page.ensures.fewer in
          let before = c.nodes.invariant.left in
          omega (arith, less, before);
      top = c.nodes.invariant.top;
      at =
          next-slot pages (Chain c.args.first) c.nodes.position c.in_ok-page.page.now
          (chain c.args.first) node
          ∙ sym c.in-Some.ensures;
      walked = met-next pages (Chain c.args.first) c.nodes.position c.args.met.now c.meet_node.new.met
          (c.in_ok-page.ensures.yes (Chain c.args.first) c.nodes.position c.args.met.now
          (chain c.args.first) c.nodes.invariant.at c.nodes.invariant.walked);
    }

pub returns-in-None-clause-yes : goal.returns-in-None-clause-yes
returns-in-None-clause-yes g c =
    let pages : Pages = g.V.VRead.pages c.args.store.now in
    let node : IsNode pages (Chain c.args.first) c.nodes.position c.in_ok-page.page.now =
    record { number = c.nodes.number; at = c.nodes.invariant.at; stored = c.in_ok-page.ensures.page } in
    ended-yes pages c.args.first c.nodes.position c.in_ok-page.page.now c.args.met.now c.meet_node.new.met
    node
    (sym c.in-None.ensures) c.nodes.invariant.top
    (c.in_ok-page.ensures.yes (Chain c.args.first) c.nodes.position c.args.met.now
    (chain c.args.first) c.nodes.invariant.at c.nodes.invariant.walked)
    c.end_of.result c.end_of.ensures.ok

pub returns-in-None-clause-refused : goal.returns-in-None-clause-refused
returns-in-None-clause-refused g c =
    let pages : Pages = g.V.VRead.pages c.args.store.now in
    let node : IsNode pages (Chain c.args.first) c.nodes.position c.in_ok-page.page.now =
    record { number = c.nodes.number; at = c.nodes.invariant.at; stored = c.in_ok-page.ensures.page } in
    ended-no pages c.args.first c.nodes.position c.in_ok-page.page.now c.args.met.now node
    (sym c.in-None.ensures) c.end_of.result c.end_of.ensures.refused
