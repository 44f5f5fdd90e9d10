use Rattle.std.proofs.Common.{◌≡◌, ◌∙◌, ℕ, ap, subst, arith}
use Rattle.std.specs.Prelude.{option_copied}
use Rattle.nl_ifile.specs.Inodes.{inode_at}
use Rattle.nl_check.specs.Private.ChangedFiles.{ListsInode, ListsPlaces}
use Rattle.nl_check.specs.declared.differing.ChangedFile.{ChangedFile}
use Rattle.nl_check.proofs.KnownInodes.{inode-under}
use Rattle.nl_check.proofs.ListedFiles.{block-listed, inode-listed, places-next, places-start}
use Rattle.nl_check.proofs.differing.list_block.Goals as goal

pub loop-place-init : goal.loop-place-init
loop-place-init c = λ pages old new was is. places-start pages old new c.args.index c.args.files.now.items

pub loop-place-preserved : goal.loop-place-preserved
loop-place-preserved c = λ pages old new was is.
    let p : ℕ = c.loop-place.place in
    let low = c.loop-place-test.true in
    let file : ChangedFile = record {
      number = c.new-number.result;
      earlier = c.inode_under.result;
      later = c.inode_under-in-loop-place.result;
    } in
    places-next pages old new c.args.index p c.args.files.now.items c.loop-place.files.items
    c.list_file.new.files.items (c.loop-place.invariant pages old new was is)
    (subst (λ (n : ℕ). ListsInode pages old new n c.loop-place.files.items c.list_file.new.files.items)
    c.new-number.ensures
    (inode-listed pages old new file c.loop-place.files.items c.list_file.new.files.items
    (c.in_ok-list_file.ensures.yes c.if-not-branch.false)
    (ap (inode_at pages old) c.new-number.ensures
    ∙ inode-under pages old c.args.index p (option_copied c.args.before) c.inode_under.result low
    c.inode_under.ensures was)
    (ap (inode_at pages new) c.new-number.ensures
    ∙ inode-under pages new c.args.index p (option_copied c.args.now) c.inode_under-in-loop-place.result low
    c.inode_under-in-loop-place.ensures is)))

pub returns-clause-yes : goal.returns-clause-yes
returns-clause-yes c = λ _ pages old new was is.
    let all : c.loop-place.place ≡ 8 = omega (arith, c.loop-place-test.false, c.loop-place.auto.place-end) in
    block-listed pages old new c.args.index (option_copied c.args.now) c.args.files.now.items
    c.loop-place.files.items is (c.is_of_inodes.ensures c.if-not-is_of_inodes.false)
    (subst (λ (p : ℕ). ListsPlaces pages old new c.args.index p c.args.files.now.items
    c.loop-place.files.items) all
    (c.loop-place.invariant pages old new was is))
