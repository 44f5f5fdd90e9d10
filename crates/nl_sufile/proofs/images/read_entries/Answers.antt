use Rattle.std.proofs.Common.{◌*◌, ◌∙◌, sym, arith, length-append}
use Rattle.std.proofs.lemmas.List.{take_all}
use Rattle.std.proofs.lemmas.List.Elements.{All-push}
use Rattle.nl_types.specs.Blocks.Segments.{info_of}
use Rattle.nl_types.specs.Facts.EqualPieces.{take_piece}
use Rattle.nl_layout.specs.Segment.{HasSpelling, segment_bytes}
use Rattle.nl_sufile.specs.Images.{IsSoundSegment}
use Rattle.nl_sufile.specs.Facts.ImageEntries.{entry_in_place, one_more}
use Rattle.nl_sufile.proofs.images.read_entries.Goals as goal

pub returns-in_default-clause-only : goal.returns-in_default-clause-only
returns-in_default-clause-only c = λ each are. absurd (c.in_default.not-Some (info_of each c.loop-i.i)
    (c.read_entry.ensures.only (info_of each c.loop-i.i)
    (entry_in_place c.args.geometry c.args.bytes.now each c.loop-i.i are (omega arith))))

pub loop-i-preserved : goal.loop-i-preserved
loop-i-preserved c =
    let items = c.in_ok-push.ensures.items in
    let bytes = c.args.bytes.now in
    rw items (record {
      read =
          take_piece segment_bytes 16 bytes c.loop-i.each.items c.in-Some.info c.loop-i.i
          c.loop-i.invariant.read c.in-Some.ensures.found.spells.spelling;
      count = simp length-append (omega (arith, c.loop-i.invariant.count));
      fit =
          All-push HasSpelling c.loop-i.each.items c.in-Some.info c.loop-i.invariant.fit
          c.in-Some.ensures.found.spells.fits;
      sound =
          All-push (IsSoundSegment c.args.geometry.blocks) c.loop-i.each.items c.in-Some.info
          c.loop-i.invariant.sound c.in-Some.ensures.found.sound;
      only = λ each are.
          one_more each c.loop-i.i c.loop-i.each.items c.in-Some.info (omega (arith, are.count))
          (c.loop-i.invariant.only each are)
          (c.in-Some.ensures.only (info_of each c.loop-i.i)
          (entry_in_place c.args.geometry bytes each c.loop-i.i are (omega arith)));
    })

pub returns-clause-only : goal.returns-clause-only
returns-clause-only c = λ each are.
    c.from_vec.ensures
    ∙ (c.loop-i.invariant.only each are
    ∙ take_all c.loop-i.i each (omega (arith, are.count, c.loop-i-test.false)))

pub returns-clause-found : goal.returns-clause-found
returns-clause-found c =
    let whole = take_all (16 * c.loop-i.i) c.args.bytes.now (omega (arith, c.loop-i-test.false)) in
    rw c.from_vec.ensures (record {
      spelled = sym whole ∙ c.loop-i.invariant.read;
      fit = c.loop-i.invariant.fit;
      count = omega (arith, c.loop-i-test.false, c.loop-i.auto.i-end, c.loop-i.invariant.count);
      sound = c.loop-i.invariant.sound;
    })
