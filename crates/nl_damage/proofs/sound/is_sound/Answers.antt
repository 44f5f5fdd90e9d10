use Rattle.std.proofs.Common.{[], ◌∷◌, None, Option, Some, subst}
use Rattle.nl_check.specs.Judging.{told}
use Rattle.nl_check.specs.Verdicts.{IsVerdict}
use Rattle.nl_check.specs.declared.checks.Verdict.{Verdict}
use Rattle.nl_damage.specs.Pages.{pages_of, periods_of}
use Rattle.nl_damage.proofs.SoundCheckpoints.{judged_sound}
use Rattle.nl_damage.proofs.sound.is_sound.Goals as goal

pub returns-in-Some-clause-sound : goal.returns-in-Some-clause-sound
returns-in-Some-clause-sound c tree has =
    let pages = c.args.pages.now in
    let entry = told c.args.entry.now in
    judged_sound (pages_of pages) (periods_of pages) entry (Some c.in-Some.verdict)
    (subst (λ (v : Option Verdict). IsVerdict (pages_of pages) (periods_of pages) (entry ∷ []) v) c.in-Some.is
    c.in_ok-verdict.ensures.verdict)
    tree has

pub returns-in-None-clause-sound : goal.returns-in-None-clause-sound
returns-in-None-clause-sound c tree has =
    let pages = c.args.pages.now in
    let entry = told c.args.entry.now in
    absurd (judged_sound (pages_of pages) (periods_of pages) entry None
    (subst (λ (v : Option Verdict). IsVerdict (pages_of pages) (periods_of pages) (entry ∷ []) v) c.in-None.is
    c.in_ok-verdict.ensures.verdict)
    tree has)
