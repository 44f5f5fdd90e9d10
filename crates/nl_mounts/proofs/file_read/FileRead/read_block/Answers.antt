use Rattle.std.proofs.Common.{◌≡◌, ◌+◌, ◌/◌, ◌∙◌, sym, subst, arith}
use Rattle.nl_tree.specs.Held.{held_block}
use Rattle.nl_mounts.specs.declared.cache.CacheKey.{CacheKey}
use Rattle.nl_mounts.specs.Caching.{touched_one}
use Rattle.nl_mounts.proofs.Kept.{page_first}
use Rattle.nl_mounts.proofs.Parts.{more_of_page}
use Rattle.nl_mounts.proofs.file_read.FileRead.read_block.Goals as goal

pub returns-then-not-promote-clause-touched : goal.returns-then-not-promote-clause-touched
returns-then-not-promote-clause-touched g c =
    subst (λ (k : CacheKey). c.promote.new.self ≡ touched_one k c.args.cache.now) c.key.ensures
    c.promote.ensures.entries

pub returns-clause-touched : goal.returns-clause-touched
returns-clause-touched g c =
    subst (λ (k : CacheKey). c.promote.new.self ≡ touched_one k c.args.cache.now) c.key.ensures
    c.promote.ensures.entries

pub returns-clause-read : goal.returns-clause-read
returns-clause-read g c = λ held h cached were.
    let file = c.args.self.now.file.now in
    let offset = c.args.self.now.offset in
    let from = c.args.from in
    let to = c.args.to in
    let into = c.read_stored.new.into in
    let order = c.requires.order in let some = c.requires.some in let room = c.requires.room in
    let page =
    page_first file.checkpoint file.inode
    ((offset + from) / 1024) held c.key.result c.args.cache.now c.promote.new.self c.key.ensures
    (sym c.promote.ensures.value ∙ c.if-not-promote.false) c.promote.ensures.entries cached in
    let e = page.0 in
    more_of_page into c.copy_front.new.into from to (omega (arith, some))
    (omega (arith, room, c.read_stored.auto.into)) c.copy_front.auto.into
    (held_block (held file.inode)) offset
    e.1 c.requires.block page.2 (c.copy_front.ensures e page.1) (c.read_stored.ensures held h were)
