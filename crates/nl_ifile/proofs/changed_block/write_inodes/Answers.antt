use Rattle.std.proofs.Common.{◌≡◌, ◌/◌, ℕ, List, ◌<◌, ◌++◌, ◌∷◌, ◌%◌, [], length, get_or, take, sym, subst, ap, ◌∙◌, arith}
use Rattle.std.proofs.lemmas.List.{take_all, take_more}
use Rattle.std.proofs.lemmas.List.Elements.{All-push}
use Rattle.std.specs.List.{All}
use Rattle.nl_layout.specs.Inode.{EntryHasSpelling}
use Rattle.nl_ifile.specs.declared.change.InodeChange.{InodeChange}
use Rattle.nl_ifile.specs.Inodes.{block_bytes, entry_for, in_block, with_inode}
use Rattle.nl_ifile.specs.Changing.{inodes_with}
use Rattle.nl_ifile.proofs.Changes.{block_bytes-more}
use Rattle.nl_ifile.proofs.changed_block.write_inodes.Goals as goal

pub loop-change-preserved : goal.loop-change-preserved
loop-change-preserved c =
    let k : ℕ = c.loop-change.change-index in
    let item : InodeChange = c.change-item.result in
    let l : k < length c.args.changes.now = omega arith in
    let is : get_or c.args.changes.now k item ≡ item = sym c.change-item.is in
    record {
      written = λ inodes index inside was.
          let here : item.number / 8 ≡ index =
          ap (λ (x : InodeChange). x.number / 8) (sym is) ∙ inside k item l in
          let before = c.loop-change.invariant.written inodes index inside was in
          let place =
          ap (λ (n : ℕ).
          block_bytes (with_inode (in_block (inodes_with (take k c.args.changes.now) inodes) index)
          (n % 8) item.inode))
          c.get.ensures in
          c.write_inode.ensures.written
          (in_block (inodes_with (take k c.args.changes.now) inodes) index) before
          ∙ (place ∙ block_bytes-more c.args.changes.now k item inodes index c.requires.ascending l is here);
      fits =
          subst (λ (cs : List InodeChange). All (λ x. EntryHasSpelling (entry_for x.inode)) cs)
          (sym (take_more c.args.changes.now k item l
          ∙ ap (λ (x : InodeChange). take k c.args.changes.now ++ x ∷ []) is))
          (All-push (λ (x : InodeChange). EntryHasSpelling (entry_for x.inode)) _ item
          c.loop-change.invariant.fits c.write_inode.ensures.fits);
    }

pub returns-clause-fits : goal.returns-clause-fits
returns-clause-fits c =
    subst (λ (cs : List InodeChange). All (λ x. EntryHasSpelling (entry_for x.inode)) cs)
    (take_all c.loop-change.change-index c.args.changes.now (omega arith)) c.loop-change.invariant.fits
