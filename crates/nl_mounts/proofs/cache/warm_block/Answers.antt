use Rattle.std.proofs.Common.{◌≡◌, sym, ap, ◌∙◌, subst, option_copied}
use Rattle.std.specs.Prelude.{Contains}
use Rattle.std.proofs.lemmas.Result.{err_from_is_err_and}
use Rattle.nl_tree.specs.Held.{held_block}
use Rattle.nl_mounts.specs.declared.cache.CacheKey.{CacheKey}
use Rattle.nl_mounts.specs.Caching.{Cache, put_by, warmed_one}
use Rattle.nl_mounts.proofs.Stored.{none_put, put_stored, touched_stored}
use Rattle.nl_mounts.proofs.Warming.{left, not_there, put}
use Rattle.nl_mounts.proofs.cache.warm_block.Goals as goal

pub returns-then-promote-clause-stored : goal.returns-then-promote-clause-stored
returns-then-promote-clause-stored g c =
    touched_stored (g.T.TreeRead.holds c.args.tree.now) c.args.file.now.checkpoint c.key-key.result
    c.args.cache.now c.promote.new.self c.promote.ensures.entries

pub returns-in_err-put_page-in-Some-clause-stored : goal.returns-in_err-put_page-in-Some-clause-stored
returns-in_err-put_page-in-Some-clause-stored g c =
    let none = sym c.promote.ensures.value ∙ c.if-promote.false in
    let same =
    c.in_err-put_page-in-Some.ensures.same
    ∙ not_there c.key-key.result c.args.cache.now c.promote.new.self none c.promote.ensures.entries in
    none_put c.args.cache.now c.put_page.new.cache
    (λ e has. subst (λ (d : Cache). Contains d.entries e) same has)
    (g.T.TreeRead.holds c.args.tree.now) c.args.file.now.checkpoint

pub returns-in_err-put_page-in-Some-clause-same : goal.returns-in_err-put_page-in-Some-clause-same
returns-in_err-put_page-in-Some-clause-same g c =
    let given = err_from_is_err_and c.from_residual.result c.from_residual.ensures.1 in
    let none = sym c.promote.ensures.value ∙ c.if-promote.false in
    rw given.1 (c.in_err-put_page-in-Some.ensures.same
    ∙ not_there c.key-key.result c.args.cache.now c.promote.new.self none c.promote.ensures.entries)

pub returns-in-None-clause-warmed : goal.returns-in-None-clause-warmed
returns-in-None-clause-warmed g c = λ held h.
    let cache = c.args.cache.now in
    let stored = held_block (held c.args.file.now.inode) c.args.index in
    let none = sym c.promote.ensures.value ∙ c.if-promote.false in
    let is = sym (ap option_copied c.in-None.is) ∙ c.block.ensures held h in
    subst (λ (k : CacheKey). (c.promote.new.self ≡ warmed_one k stored cache) × (0 ≡ put_by k stored cache))
    c.key-key.ensures
    (left c.key-key.result cache c.promote.new.self none c.promote.ensures.entries stored is)

pub returns-in-None-clause-stored : goal.returns-in-None-clause-stored
returns-in-None-clause-stored g c =
    touched_stored (g.T.TreeRead.holds c.args.tree.now) c.args.file.now.checkpoint c.key-key.result
    c.args.cache.now c.promote.new.self c.promote.ensures.entries

pub returns-in_ok-put_page-in-Some-clause-warmed : goal.returns-in_ok-put_page-in-Some-clause-warmed
returns-in_ok-put_page-in-Some-clause-warmed g c = λ held h.
    let cache = c.args.cache.now in
    let stored = held_block (held c.args.file.now.inode) c.args.index in
    let none = sym c.promote.ensures.value ∙ c.if-promote.false in
    let is = sym (ap option_copied c.in-Some.is) ∙ c.block.ensures held h in
    subst (λ (k : CacheKey). (c.put_page.new.cache ≡ warmed_one k stored cache) × (1 ≡ put_by k stored cache))
    c.key-key.ensures
    (put c.key-key.result cache c.promote.new.self none c.promote.ensures.entries stored c.in-Some.page.now
    c.put_page.new.cache is c.in_ok-put_page-in-Some.ensures.put)

pub returns-in_ok-put_page-in-Some-clause-stored : goal.returns-in_ok-put_page-in-Some-clause-stored
returns-in_ok-put_page-in-Some-clause-stored g c =
    let none = sym c.promote.ensures.value ∙ c.if-promote.false in
    let same =
    not_there c.key-key.result c.args.cache.now c.promote.new.self none c.promote.ensures.entries in
    put_stored (g.T.TreeRead.holds c.args.tree.now) c.args.file.now.checkpoint c.args.file.now.inode
    c.args.index c.in-Some.page.now
    (λ held h. sym (ap option_copied c.in-Some.is) ∙ c.block.ensures held h)
    c.key-key.result c.args.cache.now c.promote.new.self c.put_page.new.cache c.key-key.ensures same
    c.in_ok-put_page-in-Some.ensures.put
