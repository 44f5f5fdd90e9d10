use Rattle.nl_commit.specs.Shown.{pages_shown}
use Rattle.nl_mounts.proofs.Looking.{of_tree}
use Rattle.nl_mounts.proofs.PortPages.{touches_in}
use Rattle.nl_mounts.proofs.port.read_in.Goals as goal

pub returns-in-None-clause-reads : goal.returns-in-None-clause-reads
returns-in-None-clause-reads c = of_tree _ c.args.tree c.in-Some.found _ _ c.in-Some.is (λ t means. record {
  reads = c.read_into.ensures.reads means.held t (c.new-tree.ensures means.held means.holds) means.means;
  rest = c.read_into.ensures.rest;
  same = c.read_into.ensures.refused;
})

pub returns-in-Some-cache-clause-reads : goal.returns-in-Some-cache-clause-reads
returns-in-Some-cache-clause-reads c =
    of_tree _ c.args.tree c.in-Some.found _ _ c.in-Some.is (λ t means. record {
      reads = c.read_cached.ensures.reads means.held t (
        c.new-tree.ensures means.held means.holds,
        c.requires c.in-Some.found c.in-Some-cache.cache means.held c.in-Some.is c.in-Some-cache.is
            means.holds,
      )
          means.means;
      rest = c.read_cached.ensures.rest;
      same = c.read_cached.ensures.refused;
    })

pub returns-in-Some-cache-clause-touched : goal.returns-in-Some-cache-clause-touched
returns-in-Some-cache-clause-touched c =
    touches_in
    (pages_shown c.args.state.now.tables) c.args.tree c.in-Some.found c.args.path.now _ c.in-Some.is
    (λ held holds. (
      c.new-tree.ensures held holds,
      c.requires c.in-Some.found c.in-Some-cache.cache held c.in-Some.is c.in-Some-cache.is holds,
    ))
    c.args.offset c.args.cache.now c.in-Some-cache.cache c.read_cached.new.cache c.read_cached.result
    c.in-Some-cache.is c.read_cached.ensures.touched
