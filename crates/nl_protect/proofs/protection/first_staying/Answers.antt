use Rattle.std.proofs.Common.{◌≡◌, ◌≤◌, ◌∙◌, List, ℕ, unwrap_or, ap, subst, sym}
use Rattle.std.specs.List.{AllByRecursion}
use Rattle.nl_types.specs.Plain.Protection as protection
use Rattle.nl_cpfile.specs.declared.checkpoint.Checkpoint.{Checkpoint}
use Rattle.nl_cpfile.specs.Tables.{rows}
use Rattle.nl_protect.specs.Keeping.{first_staying}
use Rattle.nl_protect.proofs.Staying.{stay-behind}
use Rattle.nl_protect.proofs.protection.first_staying.Goals as goal

-- what is answered
answered : (c : goal.After-unwrap_or)
    → c.unwrap_or.result
    ≡ unwrap_or (first_staying c.args.below c.args.kept.now.table.earlier) c.args.kept.now.table.latest.number
answered c =
    let below = c.args.below in
    c.unwrap_or.ensures
    ∙ ap (λ o. unwrap_or o c.latest.result.now.number)
    (c.first_staying_of.ensures
    ∙ ap (λ (xs : List Checkpoint). first_staying below xs) c.earlier.ensures.earlier)
    ∙ ap (λ (x : Checkpoint). unwrap_or (first_staying below c.args.kept.now.table.earlier) x.number)
    c.latest.ensures.latest

pub returns : goal.returns
returns c =
    let t = c.args.kept.now.table in
    subst (λ (first : ℕ). AllByRecursion (λ n. first ≤ n) (protection.staying_numbers c.args.below (rows t)))
    (sym (answered c)) (stay-behind c.args.below t.earlier t.latest c.earlier.ensures.table.rising)
