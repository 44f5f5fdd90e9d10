use Rattle.std.proofs.Common.{◌≡◌, ◌*◌, ◌∙◌, List, Option, ap, refl, subst, sym}
use Rattle.std.proofs.lemmas.Result.{err_from_is_err_and}
use Rattle.nl_types.specs.Blocks.Segments.{total_blocks}
use Rattle.nl_dat.specs.declared.entries.DatEntry.{DatEntry}
use Rattle.nl_dat.specs.Images.{entry_told, table_of}
use Rattle.nl_dat.specs.Table.{addresses_of}
use Rattle.nl_dat.specs.TakenOut.{HaveOwnBlocks}
use Rattle.nl_dat.specs.Facts.ImageEntries.{blocks_inside, entries_told, told_numbers, told_over}
use Rattle.nl_dat.proofs.images.read_numbers.Goals as goal

pub returns-in_err-numbers-clause-only : goal.returns-in_err-numbers-clause-only
returns-in_err-numbers-clause-only c = λ numbers told.
    let p = err_from_is_err_and c.from_residual.result c.from_residual.ensures.1 in
    let only =
    c.in_err-numbers.ensures.only numbers
    (entries_told c.args.segments.now c.args.latest c.args.bytes.now numbers told) in
    rw (p.1, p.2) only

AreApart : List (Option DatEntry) → Type 0
AreApart numbers = HaveOwnBlocks (addresses_of (entry_told numbers))

pub are_apart-requires : goal.are_apart-requires
are_apart-requires c =
    let blocks : c.sustat.result.segments * c.blocks-2.result ≡ total_blocks c.args.segments.now =
    rw (c.sustat.ensures.segments, c.blocks-2.ensures.blocks) refl in
    rw c.as_slice.ensures
    (blocks_inside c.args.segments.now c.args.latest _ c.args.bytes.now c.in_ok-numbers.numbers
    c.blocks-2.ensures.limits blocks c.in_ok-numbers.ensures.found)

pub returns-in-Ok-clause-found : goal.returns-in-Ok-clause-found
unfolding AreApart
returns-in-Ok-clause-found c =
    let apart = subst AreApart c.as_slice.ensures (c.in-Ok-true.ensures.0 c.in-Ok-true.field-0-test) in
    record {
      numbers = c.in_ok-numbers.numbers;
      told =
          told_numbers c.args.segments.now c.args.latest c.args.bytes.now c.in_ok-numbers.numbers
          c.in_ok-numbers.ensures.found apart;
      table_is = c.in-Ok.ensures.ok;
    }

pub returns-in-Ok-clause-only : goal.returns-in-Ok-clause-only
returns-in-Ok-clause-only c = λ numbers told.
    let same =
    c.in_ok-numbers.ensures.only numbers
    (entries_told c.args.segments.now c.args.latest c.args.bytes.now numbers told) in
    c.in-Ok.ensures.ok ∙ ap table_of same

pub returns-in-Ok-false-clause-only : goal.returns-in-Ok-false-clause-only
unfolding AreApart
returns-in-Ok-false-clause-only c = λ numbers told.
    let same =
    c.in_ok-numbers.ensures.only numbers
    (entries_told c.args.segments.now c.args.latest c.args.bytes.now numbers told) in
    let yes = c.in-Ok-false.ensures.1 (subst AreApart (sym (c.as_slice.ensures ∙ same)) told.apart) in cc

pub returns-in-Ok-clause-over : goal.returns-in-Ok-clause-over
unfolding AreApart
returns-in-Ok-clause-over c =
    let apart = subst AreApart c.as_slice.ensures (c.in-Ok-true.ensures.0 c.in-Ok-true.field-0-test) in
    let told =
    told_numbers c.args.segments.now c.args.latest c.args.bytes.now c.in_ok-numbers.numbers
    c.in_ok-numbers.ensures.found apart in
    rw c.in-Ok.ensures.ok
    (told_over c.args.segments.now c.args.latest c.args.bytes.now c.in_ok-numbers.numbers told)
