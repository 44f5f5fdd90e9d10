use Rattle.std.proofs.Common.{◌≡◌, ◌∙◌, ap, sym, Some, false, true}
use Rattle.std.proofs.lemmas.Slice.Eq.{slice_eq-Decides}
use Rattle.std.proofs.lemmas.Bool.Decides.{Decides-eqb}
use Rattle.nl_dat.specs.EntryBytes.{number_bytes}
use Rattle.nl_dat.proofs.EntryReading.{number_at-Spells}
use Rattle.nl_dat.proofs.entry_bytes.read_number.Goals as goal

pub returns-then-eq-clause-only : goal.returns-then-eq-clause-only
returns-then-eq-clause-only c = λ entry spells.
    ap Some (c.from_bytes-entry.ensures.told ∙ number_at-Spells c.args.bytes.now entry spells)

pub returns-else-eq-clause-only : goal.returns-else-eq-clause-only
returns-else-eq-clause-only c = λ entry spells.
    let read : c.from_bytes-entry.result ≡ entry =
    c.from_bytes-entry.ensures.told ∙ number_at-Spells c.args.bytes.now entry spells in
    let again : c.as_slice.result.now ≡ c.args.bytes.now =
    c.as_slice.ensures ∙ c.write_number.ensures ∙ ap number_bytes read ∙ sym spells.spelling in
    let no : false ≡ true = (slice_eq-Decides Decides-eqb _ _ _ c.if-eq.ensures).1 again in cc
