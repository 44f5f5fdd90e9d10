-- One log after another.
use Rattle.std.proofs.Common.{◌≡◌, ℕ, ◌+◌, ◌-◌, inl, inr, List, [], ◌∷◌, ◌++◌, length, refl, ap, sym, ◌∙◌, arith, subst}
use Rattle.nl_types.specs.declared.segment.Log.{Log}
use Rattle.nl_types.specs.Blocks.Segments.{Segments, IsUsed, StaysUsed, AreTidy, with_error}
use Rattle.nl_types.specs.Blocks.Placing.{first_block, IsNextLog, with_log, with_logs}
use Rattle.nl_types.specs.Facts.UsedParts.{outside_row, used_row}
use Rattle.nl_vstore.specs.Content.{SpaceContent, KeepsUsed, IsSameAt}
use Rattle.nl_vstore.specs.Logs.{WholeLog, StandsFrom}
use Rattle.nl_vstore.specs.Appended.{IsOutside, KeepsOtherBlocks}
use Rattle.nl_segwriter.specs.declared.staging.Staged.{Staged}
use Rattle.nl_segwriter.specs.Private.Staging.{logs_of, whole_of}
use Rattle.nl_segwriter.specs.Writing.{SameOutsideLog, LogsStand, BreaksOff}
use Rattle.nl_vstore.specs.FactsOfSpace.KeptLogs.{stands_kept}

pub same_outside : (blocks : ℕ) (log : Log) (old new : SpaceContent) (b : ℕ)
    → SameOutsideLog blocks log old new → IsOutside blocks b log → IsSameAt old new b
same_outside blocks log old new b same outside =
    elim outside [
      | inl h ↦ (same.held.below b h, same.stored.below b h)
      | inr h ↦ (same.held.above b h, same.stored.above b h)
    ]

-- a log that is next keeps what is used
pub log_keeps : (s : Segments) (log : Log) (old new : SpaceContent) → AreTidy s → IsNextLog s log
    → SameOutsideLog s.blocks log old new → KeepsUsed s old new
log_keeps s log old new tidy next same b used =
    same_outside s.blocks log old new b same (outside_row s log b tidy next used)

pub keeps_on : (s t : Segments) (a b c : SpaceContent) → KeepsUsed s a b → StaysUsed s t → KeepsUsed t b c
    → KeepsUsed s a c
keeps_on s t a b c first stays second n used =
    let x = first n used in let y = second n (stays n used) in (y.0 ∙ x.0, y.1 ∙ x.1)

pub stays_on : (s t u : Segments) → StaysUsed s t → StaysUsed t u → StaysUsed s u
stays_on s t u a b n used = b n (a n used)

-- a log that was written stays where what is used does
pub log_stays : (s t : Segments) (log : Log) (stamp : ℕ) (whole : WholeLog) (now later : SpaceContent)
    → IsNextLog s log → t ≡ with_log s log stamp → length whole.payload ≡ log.count
    → StandsFrom (first_block s.blocks log) whole now.held now.stored → KeepsUsed t now later
    → StandsFrom (first_block s.blocks log) whole later.held later.stored
log_stays s t log stamp whole now later next table count stands keeps =
    stands_kept (first_block s.blocks log) whole now later
    (λ c low high. keeps c (subst (λ (u : Segments). IsUsed u c) (sym table)
    (let at : first_block s.blocks log + (c - first_block s.blocks log) ≡ c = omega (arith, low) in
    subst (IsUsed (with_log s log stamp)) at
    (used_row s log stamp (c - first_block s.blocks log) next (omega (arith, low, high, count))))))
    stands

-- the first log breaks off
pub breaks_here : (stamp : ℕ) (x : Staged) (rest : List Staged) (old new : SpaceContent)
    → new.segments ≡ with_error old.segments x.log.segment → SameOutsideLog old.segments.blocks x.log old new
    → BreaksOff stamp (x ∷ rest) old new
breaks_here stamp x rest old new is same = record {
  written = [];
  failed = x;
  left = rest;
  all_are = refl;
  segments = is;
  stand = tt;
  others = λ b outside. same_outside old.segments.blocks x.log old new b same outside.0;
}

-- one behind the first breaks off
pub breaks_on : (stamp : ℕ) (x : Staged) (rest : List Staged) (then now later : SpaceContent)
    → IsNextLog then.segments x.log → now.segments ≡ with_log then.segments x.log stamp
    → length x.payload ≡ x.log.count
    → StandsFrom (first_block then.segments.blocks x.log) (whole_of x) now.held now.stored
    → SameOutsideLog then.segments.blocks x.log
    then now → KeepsUsed now.segments now later
    → BreaksOff stamp rest now later → BreaksOff stamp (x ∷ rest) then later
breaks_on stamp x rest then now later next table count stands same keeps h =
    let blocks : now.segments.blocks ≡ then.segments.blocks = ap (λ (s : Segments). s.blocks) table in
    record {
      written = x ∷ h.written;
      failed = h.failed;
      left = h.left;
      all_are = ap (λ (xs : List Staged). x ∷ xs) h.all_are;
      segments =
          h.segments
          ∙ ap
          (λ (s : Segments). with_error (with_logs s (logs_of h.written) stamp) h.failed.log.segment) table;
      stand = (
        log_stays then.segments now.segments x.log stamp
            (whole_of x) now later next table count stands keeps,
        subst (λ (n : ℕ). LogsStand n h.written later.held later.stored) blocks h.stand,
      );
      others = λ b outside.
          let here = same_outside then.segments.blocks x.log then now b same outside.0 in
          let more =
          subst (λ (n : ℕ). KeepsOtherBlocks n (logs_of h.written ++ h.failed.log ∷ []) now later) blocks
          h.others b outside.1 in
          (more.0 ∙ here.0, more.1 ∙ here.1);
    }
