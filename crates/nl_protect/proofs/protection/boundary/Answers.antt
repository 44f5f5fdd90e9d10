use Rattle.std.proofs.Common.{◌≡◌, ◌≤◌, ◌∙◌, ◌∷◌, [], List, ℕ, unwrap_or, ap, subst, sym}
use Rattle.nl_cpfile.specs.declared.checkpoint.Checkpoint.{Checkpoint}
use Rattle.nl_cpfile.specs.Tables.{IsRising}
use Rattle.nl_protect.specs.Keeping.{first_protected}
use Rattle.nl_protect.proofs.Kept.{first-decides, boundary-low, rising-front}
use Rattle.nl_protect.proofs.protection.boundary.Goals as goal

pub first_protected-requires : goal.first_protected-requires
first_protected-requires c =
    let t = c.args.kept.now.table in
    subst IsRising (sym c.earlier.ensures.earlier)
    (rising-front t.earlier (t.latest ∷ []) c.earlier.ensures.table.rising)

-- what is answered
answered : (c : goal.After-unwrap_or)
    → c.unwrap_or.result
    ≡ unwrap_or (first_protected c.args.now c.args.period c.args.kept.now.table.earlier)
    c.args.kept.now.table.latest.number
answered c =
    let now = c.args.now in
    let period = c.args.period in
    c.unwrap_or.ensures
    ∙ ap (λ o. unwrap_or o c.latest.result.now.number)
    (c.first_protected.ensures
    ∙ ap (λ (xs : List Checkpoint). first_protected now period xs) c.earlier.ensures.earlier)
    ∙ ap (λ (x : Checkpoint). unwrap_or (first_protected now period c.args.kept.now.table.earlier) x.number)
    c.latest.ensures.latest

pub returns-clause-boundary : goal.returns-clause-boundary
returns-clause-boundary c =
    let t = c.args.kept.now.table in
    answered c ∙ first-decides c.args.now c.args.period t.earlier t.latest c.earlier.ensures.table.rising

pub returns-clause-low : goal.returns-clause-low
returns-clause-low c =
    let t = c.args.kept.now.table in
    subst (λ (n : ℕ). n ≤ t.latest.number) (sym (answered c))
    (boundary-low c.args.now c.args.period t.earlier t.latest c.earlier.ensures.table.rising)
