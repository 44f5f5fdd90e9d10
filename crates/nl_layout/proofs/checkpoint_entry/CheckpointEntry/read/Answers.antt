use Rattle.std.proofs.Common.{◌≡◌, ◌∙◌, ap, sym, Some, false, true}
use Rattle.std.proofs.lemmas.Slice.Eq.{slice_eq-Decides}
use Rattle.std.proofs.lemmas.Bool.Decides.{Decides-eqb}
use Rattle.nl_layout.specs.Checkpoints.{checkpoint_bytes}
use Rattle.nl_layout.proofs.CheckpointReading.{checkpoint_at-Spells}
use Rattle.nl_layout.proofs.checkpoint_entry.CheckpointEntry.read.Goals as goal

pub returns-else-eq-clause-only : goal.returns-else-eq-clause-only
returns-else-eq-clause-only c = λ entry spells.
    let read : Some c.in_ok-entry.entry ≡ Some entry =
    sym c.in_ok-entry.was ∙ c.from_bytes.ensures ∙ checkpoint_at-Spells c.args.bytes.now entry spells in
    let again : c.as_slice.result.now ≡ c.args.bytes.now =
    c.as_slice.ensures ∙ c.write.ensures.spelling ∙ ap checkpoint_bytes (some_inj read)
    ∙ sym spells.spelling in
    let no : false ≡ true = (slice_eq-Decides Decides-eqb _ _ _ c.if-eq.ensures).1 again in cc
  where
    some_inj : {A : Type 0} {a b : A} → Some a ≡ Some b → a ≡ b
    some_inj e = cc
