-- What was met tells whether periods are exact.
use Rattle.std.proofs.Common.{◌≡◌, ℕ, Bool, true, false, Option, Some, None, refl, ap, sym, ◌∙◌}
use Rattle.nl_types.specs.declared.period.Period.{Period}
use Rattle.nl_check.specs.Conditions.{has}
use Rattle.nl_blocktree.specs.Walked.{is_met}
use Rattle.nl_check.specs.Periods.{TellPeriods, has_in}

in-period : (c : ℕ) (o : Option Period) → has_in c o ≡ true → (p : Period) × (o ≡ Some p) × (has c p ≡ true)
in-period c None h = cc
in-period c (Some p) h = (p, refl, h)

same-test : (a b : Bool) → (a ≡ true → b ≡ true) → (b ≡ true → a ≡ true) → a ≡ b
same-test true true f g = refl
same-test true false f g = sym (f refl)
same-test false true f g = g refl
same-test false false f g = refl

pub tell-periods : TellPeriods
tell-periods = record {
  yes = λ pages periods c root numbers m are. record {
    covering = λ at v is. in-period c (periods v) (sym (are v) ∙ m.all at v is);
    met_all = λ v p is h. m.only v (are v ∙ (ap (has_in c) is ∙ h));
  };
  no = λ pages periods c root numbers m meets v.
      same-test (is_met numbers v) (has_in c (periods v))
      (λ is. let at = m.only v is in let p = meets.covering at.0 v at.1 in ap (has_in c) p.1 ∙ p.2)
      (λ is. let p = in-period c (periods v) is in let at = meets.met_all v p.0 p.1 p.2 in m.all at.0 v at.1);
}
