use Rattle.std.proofs.Common.{◌≡◌, ◌∙◌, ◌*◌, ◌≤◌, ℕ, subst, ap, arith, Some, Ok}
use Rattle.std.specs.Prelude.{IfSome}
use Rattle.nl_check.specs.Private.DirectoryBlocks.{IsAdded}
use Rattle.nl_check.specs.Facts.Below.{none-from}
use Rattle.nl_types.specs.Blocks.Roots.{page_at}
use Rattle.nl_layout.specs.Root.{root_of}
use Rattle.nl_check.proofs.DirectoryReading.{AreRead, AreReadOfAny, added-read, added-read_of, next-block, of-all, of-none, read-all, read-none}
use Rattle.nl_check.proofs.directories.records_of.Goals as goal

pub loop-index-init : goal.loop-index-init
loop-index-init g c =
    let blocks = page_at (g.V.VRead.pages c.args.store.now) (root_of c.args.root) in record {
      store = c.new-cursor.ensures.store;
      root = c.new-cursor.ensures.root;
      most = omega arith;
      read = read-none blocks c.new-all.result.items c.new-all.ensures.items;
      read_of = of-none blocks c.args.count c.new-all.result.items c.new-all.ensures.items;
    }

pub returns-in_default-2-clause-only : goal.returns-in_default-2-clause-only
returns-in_default-2-clause-only g c = λ list holds.
    let blocks = page_at (g.V.VRead.pages c.args.store.now) (root_of c.args.root) in
    let page : Some c.in-Some.page.now ≡ blocks c.loop-index.index =
    rw (c.loop-index.invariant.store, c.loop-index.invariant.root) at c.in-Some.ensures.page in
    let next =
    next-block blocks c.args.count c.loop-index.index c.loop-index.used c.loop-index.all.items
    c.in-Some.page.now c.loop-index-test.true c.loop-index.invariant.read_of page list holds in
    c.in_ok-size.ensures.only
    (ap Ok (none-from c.in_ok-size.field-0 c.in_default-2.not-Some)) next.0 next.1 next.2

pub loop-index-preserved : goal.loop-index-preserved
loop-index-preserved g c =
    let blocks = page_at (g.V.VRead.pages c.args.store.now) (root_of c.args.root) in
    let page : Some c.in-Some.page.now ≡ blocks c.loop-index.index =
    rw (c.loop-index.invariant.store, c.loop-index.invariant.root) at c.in-Some.ensures.page in
    let added =
    subst (λ o.
    IfSome o (λ size.
    (size ≤ 1024)
    × IsAdded c.in-Some.page.now c.loop-index.used c.loop-index.all.items c.add_block.new.all.items
    size))
    c.in-Some-2.is c.in_ok-size.ensures.added in
    record {
      store = c.page_at.ensures.store ∙ c.loop-index.invariant.store;
      root = c.page_at.ensures.root ∙ c.loop-index.invariant.root;
      most = added.0;
      read =
          added-read blocks c.args.count c.loop-index.index c.loop-index.used c.in-Some-2.size
          c.loop-index.all.items c.add_block.new.all.items c.in-Some.page.now c.loop-index.invariant.read
          page added.1;
      read_of =
          added-read_of blocks c.args.count c.loop-index.index c.loop-index.used c.in-Some-2.size
          c.loop-index.all.items c.add_block.new.all.items c.in-Some.page.now c.loop-index-test.true
          c.loop-index.invariant.read_of page added.1;
    }

pub returns-clause-found : goal.returns-clause-found
returns-clause-found g c =
    let blocks = page_at (g.V.VRead.pages c.args.store.now) (root_of c.args.root) in
    let done : c.loop-index.index ≡ c.args.count =
    omega (arith, c.loop-index-test.false, c.loop-index.auto.index-end) in
    read-all blocks c.args.count c.loop-index.used c.loop-index.all.items
    (subst
    (λ (n : ℕ). AreRead blocks n c.loop-index.all.items c.loop-index.used) done c.loop-index.invariant.read)
    (λ i high. c.requires.sized.none_past i (let same = c.requires.sized.is in omega (arith, same, high)))

pub returns-clause-only : goal.returns-clause-only
returns-clause-only g c = λ list holds.
    let blocks = page_at (g.V.VRead.pages c.args.store.now) (root_of c.args.root) in
    let done : c.loop-index.index ≡ c.args.count =
    omega (arith, c.loop-index-test.false, c.loop-index.auto.index-end) in
    of-all blocks c.args.count c.loop-index.all.items c.loop-index.used
    (subst (λ (n : ℕ). AreReadOfAny blocks (1024 * c.args.count) n c.loop-index.all.items c.loop-index.used)
    done c.loop-index.invariant.read_of)
    list holds
