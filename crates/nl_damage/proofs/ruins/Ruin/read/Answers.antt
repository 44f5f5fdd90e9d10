use Rattle.std.proofs.Common.{◌≡◌, None, Result, Ok, Err, Some, subst, sym, ◌∙◌}
use Rattle.std.specs.Prelude.{IfOk}
use Rattle.std.proofs.lemmas.Option.{same_Some}
use Rattle.nl_types.specs.Plain.Trees.{Tree}
use Rattle.nl_damage.specs.WholeTrees.{IsWhole}
use Rattle.nl_damage.proofs.ruins.Ruin.read.Goals as goal

always : {T E : Type 0} {P : T → Type 0} (r : Result T E) → ((x : T) → P x) → IfOk r P
always (Ok x) holds = holds x
always (Err e) holds = tt

pub returns-in-Some-clause-whole : goal.returns-in-Some-clause-whole
returns-in-Some-clause-whole c tree has nameable =
    subst (λ (t : Tree). IsWhole t c.whole.result)
    (same_Some c.in-Some.tree tree (sym c.in-Some.is ∙ c.in_ok-tree.ensures.tree tree has nameable)) c.whole.ensures

pub returns-in-None-clause-whole : goal.returns-in-None-clause-whole
returns-in-None-clause-whole c = always c.of_pieces.result (λ ruin tree has nameable.
    let none : None ≡ Some tree = sym c.in-None.is ∙ c.in_ok-tree.ensures.tree tree has nameable in
    cc)
