use Rattle.std.proofs.Common.{◌*◌, ◌∙◌, None, get_or, sym, arith, length-append}
use Rattle.std.proofs.lemmas.List.{take_all}
use Rattle.std.proofs.lemmas.List.Elements.{All-push}
use Rattle.nl_types.specs.Facts.EqualPieces.{take_piece}
use Rattle.nl_dat.specs.EntryBytes.{HasSpelling, number_bytes}
use Rattle.nl_dat.specs.Images.{IsSoundNumber}
use Rattle.nl_dat.specs.Facts.ImageEntries.{entry_in_place, one_more}
use Rattle.nl_dat.proofs.images.read_entries.Goals as goal

pub returns-in_default-clause-only : goal.returns-in_default-clause-only
returns-in_default-clause-only c = λ numbers are.
    absurd (c.in_default.not-Some (get_or numbers c.loop-i.i None)
    (c.read_entry.ensures.only (get_or numbers c.loop-i.i None)
    (entry_in_place c.args.segments.now c.args.latest c.args.bytes.now numbers c.loop-i.i are
    (omega arith))))

pub loop-i-preserved : goal.loop-i-preserved
loop-i-preserved c =
    let items = c.in_ok-push.ensures.items in
    let bytes = c.args.bytes.now in
    let found = c.in-Some.ensures.found in
    rw items (record {
      read =
          take_piece number_bytes 24 bytes c.loop-i.numbers.items c.in-Some.entry c.loop-i.i
          c.loop-i.invariant.read found.spells.spelling;
      count = simp length-append (omega (arith, c.loop-i.invariant.count));
      fit =
          All-push HasSpelling c.loop-i.numbers.items c.in-Some.entry c.loop-i.invariant.fit
          found.spells.fits;
      sound =
          All-push (IsSoundNumber c.args.segments.now c.args.latest) c.loop-i.numbers.items c.in-Some.entry
          c.loop-i.invariant.sound found.sound;
      only = λ numbers are.
          one_more numbers c.loop-i.i c.loop-i.numbers.items c.in-Some.entry (omega (arith, are.count))
          (c.loop-i.invariant.only numbers are)
          (c.in-Some.ensures.only (get_or numbers c.loop-i.i None)
          (entry_in_place c.args.segments.now c.args.latest bytes numbers c.loop-i.i are (omega arith)));
    })

pub returns-clause-only : goal.returns-clause-only
returns-clause-only c = λ numbers are.
    c.from_vec.ensures
    ∙ (c.loop-i.invariant.only numbers are
    ∙ take_all c.loop-i.i numbers (omega (arith, are.count, c.loop-i-test.false)))

pub returns-clause-found : goal.returns-clause-found
returns-clause-found c =
    let whole = take_all (24 * c.loop-i.i) c.args.bytes.now (omega (arith, c.loop-i-test.false)) in
    rw c.from_vec.ensures (record {
      spelled = sym whole ∙ c.loop-i.invariant.read;
      fit = c.loop-i.invariant.fit;
      count = omega (arith, c.loop-i-test.false, c.loop-i.auto.i-end, c.loop-i.invariant.count);
      sound = c.loop-i.invariant.sound;
    })
