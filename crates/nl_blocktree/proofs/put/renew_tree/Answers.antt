use Rattle.std.proofs.Common.{◌≡◌, ◌<◌, ◌-◌, ◌^◌, ℕ, arith, subst}
use Rattle.std.specs.List.{All}
use Rattle.std.proofs.lemmas.Result.{IfOk-weaker}
use Rattle.nl_layout.specs.Root.{root_of}
use Rattle.nl_blocktree.specs.declared.tree.Edit.{Edit}
use Rattle.nl_blocktree.proofs.TreeRoots.{root_gone, root_lowered}
use Rattle.nl_blocktree.proofs.put.renew_tree.Goals as goal

pub returns-then-get-eq0-clause-ok : goal.returns-then-get-eq0-clause-ok
returns-then-get-eq0-clause-ok g c =
    root_gone
    (root_of c.args.file.now.root) c.height_for-height.result c.in_ok-top.top c.args.batch.now c.climb.new.batch
    (omega arith) c.in_ok-top.ensures.fits c.in_ok-top.ensures.ok

pub returns-clause-ok : goal.returns-clause-ok
returns-clause-ok g c = IfOk-weaker c.lower.result _ _
    (λ new low.
    root_lowered (root_of c.args.file.now.root) c.birth_count-begun.result c.height_for-height.result
    c.in_ok-top.top c.args.batch.now c.climb.new.batch c.lower.new.batch
    c.requires.edits.kept c.birth_count-begun.ensures c.in_ok-top.ensures.kept.births c.in_ok-top.ensures.fits
    c.in_ok-top.ensures.ok low)
    c.lower.ensures.ok

pub returns-clause-kept : goal.returns-clause-kept
returns-clause-kept g c =
    c.lower.ensures.kept c.args.batch.now c.birth_count-begun.ensures c.in_ok-top.ensures.kept

pub climb-requires-clause-climb : goal.climb-requires-clause-climb
climb-requires-clause-climb g c = record {
  low = omega arith;
  one = c.height_for-height.ensures.low;
  high = c.height_for-height.ensures.most;
  whole = c.height_for-height.ensures.whole;
  narrow =
      let whole : c.height_for-height.result ≡ c.height_for-height.result - 0 = omega arith in
      subst (λ (h : ℕ). All (λ (e : Edit). e.offset < 128 ^ h) c.args.edits.now) whole
      c.height_for-height.ensures.room;
  told = λ low _ i v at. c.requires.told (omega (arith, low)) i v at;
}
