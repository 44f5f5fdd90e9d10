use Rattle.std.proofs.Common.{◌≡◌, ◌∙◌, ◌&&◌, ◌||◌, [], ◌∷◌, false, sym, ap, subst}
use Rattle.nl_cpfile.specs.declared.checkpoint.Checkpoint.{Checkpoint}
use Rattle.nl_cpfile.specs.Tables.{IsRising}
use Rattle.nl_protect.specs.Keeping.{stays_within, is_before, is_from, is_staying}
use Rattle.nl_protect.proofs.Kept.{needed_is, rising-front}
use Rattle.nl_protect.proofs.protection.needed.Goals as goal

pub earlier_stays-requires : goal.earlier_stays-requires
earlier_stays-requires c =
    let t = c.args.kept.now.table in
    subst IsRising (sym c.earlier.ensures.earlier)
    (rising-front t.earlier (t.latest ∷ []) c.earlier.ensures.table.rising)

pub returns : goal.returns
returns c =
    let t = c.args.kept.now.table in
    let below = c.args.below in
    let start = c.args.period.start in
    let end = c.in-Some.end in
    let latest : ((is_from start t.latest && is_before end t.latest) && is_staying below t.latest) ≡ false =
    sym (c.latest_stays.ensures
    ∙ ap (λ (x : Checkpoint). (is_from start x && is_before end x) && is_staying below x)
    c.latest.ensures.latest)
    ∙ c.if-latest_stays.false in
    c.earlier_stays.ensures ∙ ap (stays_within below start end) c.earlier.ensures.earlier
    ∙ ap (λ b. b || stays_within below start end t.earlier) (sym latest)
    ∙ sym (needed_is below c.args.period end t.earlier t.latest c.in-Some.is)
