use Rattle.std.proofs.Common.{◌≡◌, ◌*◌, ◌<◌, ◌∙◌, length, get_or, arith, length-append}
use Rattle.std.proofs.lemmas.List.{take_all}
use Rattle.std.proofs.lemmas.List.Elements.{All-push}
use Rattle.nl_types.specs.Facts.EqualPieces.{take_piece}
use Rattle.nl_layout.specs.Checkpoints.{HasSpelling, checkpoint_bytes}
use Rattle.nl_cpfile.specs.Facts.ImageEntries.{blank, count_told, entry_in_place, one_more}
use Rattle.nl_cpfile.proofs.images.read_entries.Goals as goal

pub returns-in_default-clause-only : goal.returns-in_default-clause-only
returns-in_default-clause-only c = λ kept spelled fit.
    let count : length c.args.bytes.now ≡ 160 * length kept = count_told c.args.bytes.now kept spelled in
    absurd (c.in_default.not-Some (get_or kept c.loop-i.i blank)
    (c.read_entry.ensures.only (get_or kept c.loop-i.i blank)
    (entry_in_place c.args.bytes.now kept c.loop-i.i blank spelled fit (omega (arith, count)))))

pub loop-i-preserved : goal.loop-i-preserved
loop-i-preserved c =
    let items = c.in_ok-push.ensures.items in
    let bytes = c.args.bytes.now in
    rw items (record {
      read =
          take_piece checkpoint_bytes 160 bytes c.loop-i.kept.items c.in-Some.entry c.loop-i.i
          c.loop-i.invariant.read c.in-Some.ensures.found.spelling;
      count = simp length-append (omega (arith, c.loop-i.invariant.count));
      fit =
          All-push HasSpelling c.loop-i.kept.items c.in-Some.entry c.loop-i.invariant.fit
          c.in-Some.ensures.found.fits;
      only = λ kept spelled fit.
          let count : length bytes ≡ 160 * length kept = count_told bytes kept spelled in
          let within : c.loop-i.i < length kept = omega (arith, count) in
          one_more kept c.loop-i.i c.loop-i.kept.items c.in-Some.entry blank within
          (c.loop-i.invariant.only kept spelled fit)
          (c.in-Some.ensures.only (get_or kept c.loop-i.i blank)
          (entry_in_place bytes kept c.loop-i.i blank spelled fit within));
    })

pub returns-clause-only : goal.returns-clause-only
returns-clause-only c = λ kept spelled fit.
    let count : length c.args.bytes.now ≡ 160 * length kept = count_told c.args.bytes.now kept spelled in
    c.from_vec.ensures
    ∙ (c.loop-i.invariant.only kept spelled fit
    ∙ take_all c.loop-i.i kept (omega (arith, count, c.loop-i-test.false)))
