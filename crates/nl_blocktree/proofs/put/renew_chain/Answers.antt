use Rattle.std.proofs.Common.{◌≡◌, ◌∙◌, ◌++◌, ℕ, List, true, get_or, ap, sym, subst, refl, ◌≢◌, ◌<◌, Option, None, Some, arith, length}
use Rattle.std.specs.List.{All, AllPairs}
use Rattle.std.proofs.lemmas.Option.{slice_get-get_or}
use Rattle.nl_types.specs.Blocks.Roots.{Pages, Root, pages_of, place_at}
use Rattle.nl_layout.specs.Root.{root_of}
use Rattle.nl_vstore.specs.Batches.{Changes, is_live}
use Rattle.nl_vstore.specs.Stores.{capacity, content_in}
use Rattle.nl_blocktree.specs.Private.Chains.{ChainAsLists, raw}
use Rattle.nl_blocktree.specs.Private.Edits.{IsToldFrom, ComesBefore}
use Rattle.nl_blocktree.specs.Private.Renewing.{IsRootRenewed}
use Rattle.nl_blocktree.specs.Private.TreeLevels.{kept_levels}
use Rattle.nl_blocktree.specs.declared.tree.Edit.{Edit}
use Rattle.nl_blocktree.proofs.TreeAbove.{chain_knows, know_same}
use Rattle.nl_blocktree.proofs.TreeRoots.{chain_root, told_from}
use Rattle.nl_blocktree.proofs.Kept.{goes_on-ends, goes_on-more, goes_on-same}
use Rattle.std.proofs.lemmas.Result.{IfOk-from_err}
use Rattle.std.proofs.lemmas.List.Elements.{All-weaker}
use Rattle.std.specs.Prelude.{slice_index}
use Rattle.nl_blocktree.proofs.put.renew_chain.Goals as goal

-- what is read of a chain is what is stored
stored_lists : {read stored : Pages} {root : Root} {nodes slots : List ℕ} → read ≡ stored
    → ChainAsLists read root nodes slots → ChainAsLists stored root nodes slots
stored_lists {root = root} {nodes} {slots} e l =
    subst (λ (pages : Pages). ChainAsLists pages root nodes slots) e l

-- what a slot names stands in range
slots_near : (pages : Pages) (root : Root) (slots : List ℕ)
    → ((level offset v : ℕ) → place_at pages root level offset ≡ Some v → offset < 262144)
    → ((i : ℕ) → raw (place_at pages root 0 i) ≡ slice_index slots i) → (i : ℕ) → slice_index slots i ≢ 0
    → i < 262144
slots_near pages root slots in_range slots_at i some = by_place (place_at pages root 0 i) refl
  where
    by_place : (place : Option ℕ) → place_at pages root 0 i ≡ place → i < 262144
    by_place None is = absurd (some (sym (slots_at i) ∙ ap raw is))
    by_place (Some v) is = in_range 0 i v is

pub renew_tree-requires-clause-told : goal.renew_tree-requires-clause-told
renew_tree-requires-clause-told g c =
    subst (λ (es : List Edit).
    IsToldFrom (pages_of (content_in (g.V.Vstore.store c.args.file.now.store.now))) (root_of c.args.file.now.root) es)
    (sym c.deref.ensures.value)
    (told_from (pages_of (content_in (g.V.Vstore.store c.args.file.now.store.now)))
    (root_of c.args.file.now.root) c.in_ok-chain.chain.nodes.items c.in_ok-chain.chain.slots.items
    c.args.edits.now c.in_ok-told.told.items
    (stored_lists (g.met.V.Vstore.reads_pages c.args.file.now.store.now) c.in_ok-chain.ensures.lists)
    c.in_ok-told.ensures.ok c.requires.chain)

pub returns-clause-ok : goal.returns-clause-ok
returns-clause-ok g c =
    let content = content_in (g.V.Vstore.store c.args.file.now.store.now) in
    let lists = stored_lists (g.met.V.Vstore.reads_pages c.args.file.now.store.now) c.in_ok-chain.ensures.lists in
    let nodes = c.in_ok-chain.chain.nodes.items in
    let ended = c.in_ok-end_all.ensures.ok in
    chain_root {room = capacity (g.V.Vstore.store c.args.file.now.store.now)} {content = content}
    {inode = c.args.file.now.inode} (root_of c.args.file.now.root) {edits = c.args.edits.now}
    {told = c.in_ok-told.told.items} {new = root_of c.in_ok-new.new}
    c.in_ok-chain.chain.slots.items nodes c.args.batch.now c.renew_tree.new.batch c.end_all.new.batch
    c.requires.chain c.requires.edits.kept lists c.in_ok-told.ensures.ok
    (subst (λ (es : List Edit).
    IsRootRenewed (capacity (g.V.Vstore.store c.args.file.now.store.now)) content c.args.file.now.inode
    (root_of c.args.file.now.root) es (root_of c.in_ok-new.new) c.args.batch.now c.renew_tree.new.batch)
    c.deref.ensures.value c.in_ok-new.ensures.ok)
    (ap (λ (x : Changes). x.births) ended)
    (ap (λ (x : Changes). x.ends) ended
    ∙ ap (λ (xs : List ℕ). c.renew_tree.new.batch.ends ++ xs) c.deref-2.ensures.value)
    (λ f. c.in_ok-end_all.ensures.fits _ _ f
    (subst (λ (ns : List ℕ). All (λ v. is_live (content v) ≡ true) ns) (sym c.deref-2.ensures.value)
    (λ k d l. c.requires.edits.kept.live 1 k (get_or nodes k d) (lists.nodes_at k ∙ slice_get-get_or nodes k d l))))

pub returns-in_err-chain-clause-ok : goal.returns-in_err-chain-clause-ok
returns-in_err-chain-clause-ok g c = IfOk-from_err c.from_residual.result _ c.from_residual.ensures.0

pub returns-in_err-chain-clause-kept : goal.returns-in_err-chain-clause-kept
returns-in_err-chain-clause-kept g c = goes_on-same c.args.batch.now c.args.batch.now refl

pub returns-in_err-told-clause-ok : goal.returns-in_err-told-clause-ok
returns-in_err-told-clause-ok g c =
    IfOk-from_err c.from_residual-in_err-told.result _ c.from_residual-in_err-told.ensures.0

pub returns-in_err-told-clause-kept : goal.returns-in_err-told-clause-kept
returns-in_err-told-clause-kept g c = goes_on-same c.args.batch.now c.args.batch.now refl

pub returns-in_err-new-clause-ok : goal.returns-in_err-new-clause-ok
returns-in_err-new-clause-ok g c =
    IfOk-from_err c.from_residual-in_err-new.result _ c.from_residual-in_err-new.ensures.0

pub returns-in_err-new-clause-kept : goal.returns-in_err-new-clause-kept
returns-in_err-new-clause-kept g c = c.in_err-new.ensures.kept

pub returns-in_err-end_all-clause-ok : goal.returns-in_err-end_all-clause-ok
returns-in_err-end_all-clause-ok g c =
    IfOk-from_err c.from_residual-in_err-end_all.result _ c.from_residual-in_err-end_all.ensures.0

pub returns-in_err-end_all-clause-kept : goal.returns-in_err-end_all-clause-kept
returns-in_err-end_all-clause-kept g c =
    goes_on-more c.args.batch.now c.renew_tree.new.batch c.end_all.new.batch c.in_ok-new.ensures.kept
    (goes_on-ends c.renew_tree.new.batch c.end_all.new.batch c.in_err-end_all.ensures.births_kept
    c.in_err-end_all.ensures.ends_kept)

pub returns-clause-kept : goal.returns-clause-kept
returns-clause-kept g c =
    goes_on-more c.args.batch.now c.renew_tree.new.batch c.end_all.new.batch c.in_ok-new.ensures.kept
    (goes_on-ends c.renew_tree.new.batch c.end_all.new.batch c.in_ok-end_all.ensures.births_kept
    c.in_ok-end_all.ensures.ends_kept)

pub read_chain-requires-clause-near : goal.read_chain-requires-clause-near
read_chain-requires-clause-near g c =
    λ p v at. c.requires.edits.kept.sound.in_range 1 p v
    (subst (λ (pages : Pages). place_at pages (root_of c.args.file.now.root) 1 p ≡ Some v)
    (g.met.V.Vstore.reads_pages c.args.file.now.store.now) at)

pub told_edits-requires-clause-near : goal.told_edits-requires-clause-near
told_edits-requires-clause-near g c =
    let lists = stored_lists (g.met.V.Vstore.reads_pages c.args.file.now.store.now) c.in_ok-chain.ensures.lists in
    slots_near (pages_of (content_in (g.V.Vstore.store c.args.file.now.store.now)))
    (root_of c.args.file.now.root) c.in_ok-chain.chain.slots.items c.requires.edits.kept.sound.in_range lists.slots_at

pub renew_tree-requires-clause-small : goal.renew_tree-requires-clause-small
renew_tree-requires-clause-small g c =
    subst (λ (es : List Edit). All (λ (e : Edit). e.offset < 2097152) es) (sym c.deref.ensures.value)
    (All-weaker (λ (e : Edit). e.offset < 262144) (λ (e : Edit). e.offset < 2097152)
    (λ e l. omega (arith, l)) c.in_ok-told.told.items c.in_ok-told.ensures.ok.small)

pub renew_tree-requires-clause-edits : goal.renew_tree-requires-clause-edits
renew_tree-requires-clause-edits g c =
    let pages = pages_of (content_in (g.V.Vstore.store c.args.file.now.store.now)) in
    record {
      fits = c.requires.edits.fits;
      kept = c.requires.edits.kept;
      some =
          subst (λ (es : List Edit). 0 < length es) (sym c.deref.ensures.value)
          c.in_ok-told.ensures.ok.some;
      ascending =
          subst (λ (es : List Edit). AllPairs ComesBefore es) (sym c.deref.ensures.value)
          c.in_ok-told.ensures.ok.ascending;
      above =
          know_same (kept_levels pages (root_of c.args.file.now.root)) 0 c.deref.ensures.value
          (chain_knows pages (root_of c.args.file.now.root) c.in_ok-told.told.items c.requires.chain
          c.in_ok-told.ensures.ok.alone);
    }
