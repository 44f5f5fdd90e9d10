use Rattle.std.proofs.Common.{inl, inr, ◌<◌, arith}
use Rattle.std.proofs.lemmas.Result.{IfOk-weaker}
use Rattle.nl_layout.specs.Root.{root_of}
use Rattle.nl_vstore.specs.Stores.{content_in}
use Rattle.nl_types.specs.Blocks.Roots.{pages_of}
use Rattle.nl_blocktree.proofs.TreeRoots.{told_tree}
use Rattle.std.proofs.lemmas.List.Elements.{All-weaker}
use Rattle.nl_blocktree.specs.declared.tree.Edit.{Edit}
use Rattle.nl_blocktree.proofs.put.renew_file.Goals as goal

pub renew_tree-requires-clause-told : goal.renew_tree-requires-clause-told
renew_tree-requires-clause-told g c =
    told_tree (pages_of (content_in (g.V.Vstore.store c.args.file.now.store.now)))
    (root_of c.args.file.now.root) c.args.edits.now
    (c.is_chain.ensures.no c.if-is_chain.false) c.requires.edits.kept.sound

pub returns-then-is_chain-clause-ok : goal.returns-then-is_chain-clause-ok
returns-then-is_chain-clause-ok g c =
    IfOk-weaker c.renew_chain.result _ _
    (λ new r. inl (c.is_chain.ensures.yes c.if-is_chain.true, r)) c.renew_chain.ensures.ok

pub returns-clause-ok : goal.returns-clause-ok
returns-clause-ok g c =
    IfOk-weaker c.renew_tree.result _ _
    (λ new r. inr (c.is_chain.ensures.no c.if-is_chain.false, r)) c.renew_tree.ensures.ok

pub renew_tree-requires-clause-small : goal.renew_tree-requires-clause-small
renew_tree-requires-clause-small g c =
    All-weaker (λ (e : Edit). e.offset < 262144) (λ (e : Edit). e.offset < 2097152) (λ e l. omega (arith, l))
    c.args.edits.now c.requires.small
