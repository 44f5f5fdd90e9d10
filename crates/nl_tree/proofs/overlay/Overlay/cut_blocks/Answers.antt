use Rattle.std.proofs.Common.{true, Some, refl, sym, ap, subst}
use Rattle.std.specs.Option.{is_some}
use Rattle.nl_tree.specs.declared.overlay.Slot.{Slot}
use Rattle.nl_tree.specs.Private.Files.{ShowsFile}
use Rattle.nl_tree.specs.Held.{Stored}
use Rattle.nl_tree.specs.Private.Pages.{blocks_below}
use Rattle.nl_tree.proofs.FilePages.{written_at}
use Rattle.nl_tree.specs.Facts.Places.{one_slot}
use Rattle.nl_tree.proofs.WrittenSlots.{written_orderly}
use Rattle.nl_tree.proofs.overlay.Overlay.cut_blocks.Goals as goal

pub returns-in-Some-clause-shown : goal.returns-in-Some-clause-shown
returns-in-Some-clause-shown c = λ b size blocks has i.
    let slot = c.in-Some.slot.now in
    let written : Slot = record { live = true; what = c.cut_at.new.self } in
    let shows : ShowsFile slot.what (b c.args.inode) size blocks =
    subst (λ (s : Slot). ShowsFile s.what (b c.args.inode) size blocks)
    (sym (one_slot _ slot has.0 c.in-Some.ensures.value has.1)) has.2 in
    written_at c.args.self.now.changed (c.get_mut.follows.lender written) c.args.inode written
    (Some (Stored size (blocks_below c.args.count blocks))) b
    (c.get_mut.follows.holds written) (ap is_some has.1)
    (c.cut_at.ensures.cut (b c.args.inode) size blocks shows) i

pub returns-in-Some-clause-orderly : goal.returns-in-Some-clause-orderly
returns-in-Some-clause-orderly c =
    let slot = c.in-Some.slot.now in
    let written : Slot = record { live = true; what = c.cut_at.new.self } in
    written_orderly c.args.self.now.changed (c.get_mut.follows.lender written) c.args.inode slot written
    (c.get_mut.follows.holds written) c.in-Some.ensures.value c.args.self.now
    c.recounted-self.result c.weight-was.result c.weight-now.result refl c.cut_at.ensures.ordered
    c.recounted-self.ensures c.weight-was.ensures c.weight-now.ensures

pub returns-in-Some-clause-rest : goal.returns-in-Some-clause-rest
returns-in-Some-clause-rest c = record { freed = refl; mark = refl; names = refl }
