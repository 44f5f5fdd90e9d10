use Rattle.std.proofs.Common.{◌+◌, length, true, Some, refl, sym, ap, subst}
use Rattle.std.specs.Option.{is_some}
use Rattle.nl_tree.specs.declared.overlay.Slot.{Slot}
use Rattle.nl_tree.specs.Private.Files.{ShowsFileWith}
use Rattle.nl_tree.specs.Held.{Stored}
use Rattle.nl_tree.specs.Private.Pages.{put_from}
use Rattle.nl_tree.proofs.FilePages.{written_at}
use Rattle.nl_tree.specs.Facts.Places.{one_slot, slot_written}
use Rattle.nl_tree.proofs.WrittenSlots.{written_orderly}
use Rattle.nl_tree.proofs.overlay.Overlay.put_pages.Goals as goal

pub put_pages-requires-clause-places : goal.put_pages-requires-clause-places
put_pages-requires-clause-places c =
    let slot = c.in-Some.slot.now in
    let there = c.requires.places in
    let b = there.0 in (
      b c.args.inode,
      there.1,
      there.2,
      subst (λ (s : Slot).
          ShowsFileWith s.what (b c.args.inode) there.1 there.2 c.args.first
          (c.args.first + length c.args.pages.items))
          (sym (one_slot _ slot there.3.0 c.in-Some.ensures.value there.3.1)) there.3.2,
    )

pub returns-in-Some-clause-shown : goal.returns-in-Some-clause-shown
returns-in-Some-clause-shown c = λ b was blocks has i.
    let slot = c.in-Some.slot.now in
    let written : Slot = record { live = true; what = c.put_pages.new.self } in
    let shows : ShowsFileWith slot.what (b c.args.inode) was blocks c.args.first
    (c.args.first + length c.args.pages.items) =
    subst (λ (s : Slot).
    ShowsFileWith s.what (b c.args.inode) was blocks c.args.first
    (c.args.first + length c.args.pages.items))
    (sym (one_slot _ slot has.0 c.in-Some.ensures.value has.1)) has.2 in
    written_at c.args.self.now.changed (c.get_mut.follows.lender written) c.args.inode written
    (Some (Stored c.args.size (put_from c.args.first c.args.pages.items blocks))) b
    (c.get_mut.follows.holds written) (ap is_some has.1)
    (c.put_pages.ensures.written (b c.args.inode) was blocks shows) i

pub returns-in-Some-clause-file : goal.returns-in-Some-clause-file
returns-in-Some-clause-file c = λ b was blocks has.
    let slot = c.in-Some.slot.now in
    let written : Slot = record { live = true; what = c.put_pages.new.self } in
    let shows : ShowsFileWith slot.what (b c.args.inode) was blocks c.args.first
    (c.args.first + length c.args.pages.items) =
    subst (λ (s : Slot).
    ShowsFileWith s.what (b c.args.inode) was blocks c.args.first
    (c.args.first + length c.args.pages.items))
    (sym (one_slot _ slot has.0 c.in-Some.ensures.value has.1)) has.2 in (
      written,
      slot_written c.args.self.now.changed (c.get_mut.follows.lender written) c.args.inode written
          (c.get_mut.follows.holds written) (ap is_some has.1),
      c.put_pages.ensures.file (b c.args.inode) was blocks shows,
    )

pub returns-in-Some-clause-orderly : goal.returns-in-Some-clause-orderly
returns-in-Some-clause-orderly c =
    let slot = c.in-Some.slot.now in
    let written : Slot = record { live = true; what = c.put_pages.new.self } in
    written_orderly c.args.self.now.changed (c.get_mut.follows.lender written) c.args.inode slot written
    (c.get_mut.follows.holds written) c.in-Some.ensures.value c.args.self.now
    c.recounted-self.result c.weight-was.result c.weight-now.result refl c.put_pages.ensures.ordered
    c.recounted-self.ensures c.weight-was.ensures c.weight-now.ensures

pub returns-in-Some-clause-rest : goal.returns-in-Some-clause-rest
returns-in-Some-clause-rest c = record { freed = refl; mark = refl; names = refl }
