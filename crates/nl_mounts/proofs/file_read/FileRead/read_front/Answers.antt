use Rattle.std.proofs.Common.{◌≡◌, ℕ, ◌+◌, ◌-◌, ◌/◌, ◌<◌, ◌∙◌, sym, subst, length, arith, Contains, List, ◌∷◌}
use Rattle.lru.proofs.Splits.{Contains-head, Contains-tail}
use Rattle.std.proofs.lemmas.Bool.{eqb-true}
use Rattle.nl_tree.specs.Held.{held_block}
use Rattle.nl_mounts.specs.declared.cache.CacheKey.{CacheKey}
use Rattle.nl_mounts.specs.Caching.{block_count, key_of}
use Rattle.nl_mounts.proofs.InFront.{front_begun, front_more, front_stays, key_equal}
use Rattle.nl_mounts.proofs.Parts.{IsLastPart, last_of_page, more_before}
use Rattle.nl_mounts.proofs.file_read.FileRead.read_front.Goals as goal

pub loop-key-preserved : goal.loop-key-preserved
loop-key-preserved g c =
    let file = c.args.self.now.file.now in let offset = c.args.self.now.offset in
    let was = c.loop-key.invariant in let left = c.loop-key.left in let count = c.min-count.result in
    let within = was.within in
    let some : 0 < left = omega (arith, c.if-left-eq0.false) in
    let part : IsLastPart offset left count = c.min-count.ensures in
    let key = c.in-Some.key.now in let page = c.in-Some.page.now in let rest = c.next.new.self in
    let steps : c.loop-key.key-iterator ≡ (key, page) ∷ rest = c.in-Some.ensures.steps in
    let key_is : key ≡ key_of file.checkpoint file.inode ((offset + (left - 1)) / 1024) =
    key_equal key c.key.result c.ne.result c.ne.ensures c.if-ne.false ∙ c.key.ensures in
    let has : Contains c.args.cache.now.entries
    (key_of file.checkpoint file.inode ((offset + (left - 1)) / 1024), page) =
    subst (λ (k : CacheKey). Contains c.args.cache.now.entries (k, page)) key_is
    (was.inside (key, page)
    (subst (λ (es : List (CacheKey × List ℕ)). Contains es (key, page)) (sym steps)
    (Contains-head (key, page) rest))) in
    record {
      next = tt;
      ends = tt;
      within = omega (arith, within);
      front = λ front.
          was.front (front_more offset left count some part file.checkpoint file.inode c.loop-key.key-iterator
          key page rest steps key_is front);
      inside = λ e there.
          was.inside e (subst (λ (es : List (CacheKey × List ℕ)). Contains es e) (sym steps)
          (Contains-tail (key, page) rest e there));
      read = λ held cached.
          more_before c.loop-key.into c.copy_page.new.into (left - count) left (length c.args.into.now)
          (omega arith) (omega (arith, within, c.loop-key.auto.into))
          (omega (arith, c.loop-key.auto.into)) c.copy_page.auto.into
          (held_block (held file.inode)) offset
          (last_of_page (held_block (held file.inode)) offset left count page c.copy_page.new.into some part
          (cached file.inode ((offset + (left - 1)) / 1024) page has)
          (omega (arith, c.copy_page.auto.into)) c.copy_page.ensures)
          (was.read held cached);
    }

pub returns-then-left-eq0-clause-order : goal.returns-then-left-eq0-clause-order
returns-then-left-eq0-clause-order g c = λ _.
    let file = c.args.self.now.file.now in let offset = c.args.self.now.offset in
    front_stays file.checkpoint file.inode (offset / 1024)
    (block_count offset (length c.args.into.now)) c.args.cache.now.entries c.args.cache.now.cap
    (c.loop-key.invariant.front
    (front_begun file.checkpoint file.inode offset c.loop-key.left c.loop-key.key-iterator
    c.if-left-eq0.true))

pub returns-then-left-eq0-clause-read : goal.returns-then-left-eq0-clause-read
returns-then-left-eq0-clause-read g c = λ _ held cached k low.
    c.loop-key.invariant.read held cached k (omega (arith, c.if-left-eq0.true))
    (omega (arith, low, c.loop-key.auto.into))

pub returns-clause-order : goal.returns-clause-order
returns-clause-order g c = λ is.
    let file = c.args.self.now.file.now in let offset = c.args.self.now.offset in
    front_stays file.checkpoint file.inode (offset / 1024)
    (block_count offset (length c.args.into.now)) c.args.cache.now.entries c.args.cache.now.cap
    (c.loop-key.invariant.front
    (front_begun file.checkpoint file.inode offset c.loop-key.left c.loop-key.key-iterator
    (eqb-true c.loop-key.left 0 is)))

pub returns-clause-read : goal.returns-clause-read
returns-clause-read g c = λ is held cached k low.
    let none = eqb-true c.loop-key.left 0 is in
    c.loop-key.invariant.read held cached k (omega (arith, none)) (omega (arith, low, c.loop-key.auto.into))
