-- Histories that were seen, as they go on.
use Rattle.std.proofs.Common.{List, [], ◌∷◌, ◌++◌, refl, ap, sym, ◌∙◌, append_assoc}
use mathlib.Core.List.{IsPrefix}
use Rattle.nl_publish.specs.Histories.{Known}
use Rattle.nl_publish.specs.Mounts.{Claim}
use Rattle.nl_publish.specs.Reading.{HasLearned, IsLater}

prefix_self : {A : Type 0} (xs : List A) → IsPrefix xs xs
prefix_self [] = ([], refl)
prefix_self (x ∷ xs) = (let rest = prefix_self xs in rest.0, ap (λ ys. x ∷ ys) (prefix_self xs).1)

pub prefix_trans : {A : Type 0} (xs ys zs : List A) → IsPrefix xs ys → IsPrefix ys zs → IsPrefix xs zs
prefix_trans xs ys zs p q = (p.0 ++ q.0, sym (append_assoc xs p.0 q.0) ∙ (ap (λ w. w ++ q.0) p.1 ∙ q.1))

pub later_self : (k : Known) → IsLater k k
later_self k = record { volume = refl; commits = prefix_self k.commits }

pub later_on : (a b c : Known) → IsLater a b → IsLater b c → IsLater a c
later_on a b c p q = record {
  volume = q.volume ∙ p.volume;
  commits = prefix_trans a.commits b.commits c.commits p.commits q.commits;
}

-- what was learned stays
pub learned_on : (m : Claim) (old new : Known) → HasLearned m old → IsLater old new → HasLearned m new
learned_on m old new learned later same =
    prefix_trans m.told.commits old.commits new.commits (learned (same ∙ later.volume)) later.commits
