-- Outcomes are told of behind others.
use Rattle.std.proofs.Common.{◌≡◌, ◌∙◌, ◌++◌, ap, sym, subst, append_assoc, List, ℕ, Bool, Option, Result, Ok, Err}
use Rattle.std.specs.Prelude.{◌||◌, filter}
use Rattle.nl_script.specs.Facts.Appending.{OnOk-then}
use Rattle.nl_script.specs.Texts.{Text}
use Rattle.nl_script.specs.ExitStatus.{has_refusal}
use Rattle.nl_script.specs.Outcomes.{LineOutcome, is_told}
use Rattle.nl_script.specs.Private.Tellings.{HasTold, HasToldFirst, WritesOn}
use Rattle.nl_script.specs.declared.telling.Told.{Told}
use Rattle.nl_script.proofs.OutcomeLists.{or-assoc, has_told_refusal-append, told_text-append}

writes_on-then : {X E : Type 0} (r s t : Result X E) (a b c : Option Text) (xs ys : Text)
    → WritesOn r s a b xs → WritesOn s t b c ys
    → WritesOn r t a c (xs ++ ys)
writes_on-then (Ok x) (Ok y) t a b c xs ys first then = OnOk-then t a b c xs ys first then
writes_on-then {X = X} {E = E} (Ok x) (Err e) t a b c xs ys first then =
    subst (λ (r : Result X E). WritesOn {X = X} {E = E} (Ok x) r a c (xs ++ ys)) (sym then.0) tt
writes_on-then {X = X} {E = E} (Err e) s t a b c xs ys first then =
    let on = subst (λ (r : Result X E). WritesOn r t b c ys) first.0 then in
    (on.0, on.1 ∙ first.1)

-- these outcomes, and then those
pub told-then : (line : ℕ) (quiet : Bool) (xs ys : List LineOutcome) (old mid new : Told)
    (a b c : Option Text)
    → HasTold line quiet xs old mid a b → HasTold line quiet ys mid new b c
    → HasTold line quiet (xs ++ ys) old new a c
told-then line quiet xs ys old mid new a b c first then = record {
  refused = then.refused
      ∙ ap (λ (x : Bool). x || has_refusal (filter (is_told quiet) ys)) first.refused
      ∙ sym (or-assoc old.refused (has_refusal (filter (is_told quiet) xs))
      (has_refusal (filter (is_told quiet) ys)))
      ∙ ap (λ (x : Bool). old.refused || x) (sym (has_told_refusal-append quiet xs ys));
  written =
      subst (λ (text : Text). WritesOn old.written new.written a c text)
      (sym (told_text-append line quiet xs ys))
      (writes_on-then old.written mid.written new.written a b c _ _ first.written then.written);
}

-- one step of a loop over outcomes
pub told_first-more : (line : ℕ) (quiet : Bool) (rest xs ys all : List LineOutcome) (old now new : Told)
    (a b c : Option Text)
    → rest ≡ xs ++ ys
    → HasToldFirst line quiet rest all old now a b → HasTold line quiet xs now new b c
    → HasToldFirst line quiet ys all old new a c
told_first-more line quiet rest xs ys all old now new a b c parts so_far next = record {
  first = so_far.first ++ xs;
  told = told-then line quiet so_far.first xs old now new a b c so_far.told next;
  joined =
      append_assoc so_far.first xs ys ∙ ap (λ (os : List LineOutcome). so_far.first ++ os) (sym parts)
      ∙ so_far.joined;
}
