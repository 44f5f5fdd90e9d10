-- Calls in order: the tree after some of them, and after more.
use Rattle.std.proofs.Common.{◌≡◌, List, [], ◌∷◌, ◌++◌, Result, Ok, Err, refl, ap, ◌∙◌}
use Rattle.nl_types.specs.declared.error.VolError.{VolError}
use Rattle.nl_types.specs.declared.event.Change.{Change}
use Rattle.nl_types.specs.declared.reply.Answer.{Answer}
use Rattle.nl_types.specs.Plain.Trees.{Tree}
use Rattle.nl_types.specs.Plain.Calls.{Changed, and_then, change}
use Rattle.nl_folders.specs.Plans.{tree_after_all, CallsGoOn}

-- what goes on behind each tree that a call makes goes on behind the call
on_behind : (changed : Changed) (calls more : List Change)
    → ((tree : Tree) → tree_after_all tree (calls ++ more)
    ≡ and_then (tree_after_all tree calls) (λ next. tree_after_all next more))
    → and_then changed (λ done. tree_after_all done.1 (calls ++ more))
    ≡ and_then (and_then changed (λ done. tree_after_all done.1 calls)) (λ next. tree_after_all next more)
on_behind (Ok done) calls more behind = behind done.1
on_behind (Err e) calls more behind = refl

pub calls_go_on : CallsGoOn
calls_go_on tree [] more = refl
calls_go_on tree (call ∷ calls) more =
    on_behind (change tree call) calls more (λ next. calls_go_on next calls more)

-- one call
pub after_one : (tree next : Tree) (call : Change) (given : Answer) → change tree call ≡ Ok (given, next)
    → tree_after_all tree (call ∷ []) ≡ Ok next
after_one tree next call given done =
    ap (λ (changed : Changed). and_then changed (λ d. tree_after_all d.1 [])) done

-- calls, and more on the tree that they make
pub after_both : (tree middle next : Tree) (calls more : List Change) → tree_after_all tree calls ≡ Ok middle
    → tree_after_all middle more ≡ Ok next → tree_after_all tree (calls ++ more) ≡ Ok next
after_both tree middle next calls more first second =
    calls_go_on tree calls more
    ∙ ap (λ (r : Result Tree VolError). and_then r (λ t. tree_after_all t more)) first
    ∙ second
