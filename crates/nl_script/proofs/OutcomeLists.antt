-- Outcomes, and then those behind them.
use Rattle.std.proofs.Common.{◌≡◌, ◌∙◌, ◌+◌, ◌<◌, ◌++◌, ap, sym, refl, List, ◌∷◌, [], ℕ, Bool, true, false, drop, get_or, length, map}
use Rattle.std.proofs.lemmas.Grind.{flat_map-append}
use Rattle.std.proofs.lemmas.List.{at_drop_more}
use Rattle.std.proofs.lemmas.List.Elements.{filter-append}
use Rattle.std.specs.Prelude.{◌||◌, filter, flat_map}
use Rattle.nl_types.specs.Plain.Worlds.{Reply}
use Rattle.nl_types.specs.declared.event.Event.{Event}
use Rattle.nl_types.specs.declared.row.Stays.{Stays}
use Rattle.nl_script.specs.ExitStatus.{has_refusal, is_refusal}
use Rattle.nl_script.specs.Outcomes.{LineOutcome, is_told, event_outcomes, all_outcomes, stays_outcome}
use Rattle.nl_script.specs.OutcomeTexts.{outcome_text, told_text}

pub told_text-append : (line : ℕ) (quiet : Bool) (xs ys : List LineOutcome)
    → told_text line quiet (xs ++ ys) ≡ told_text line quiet xs ++ told_text line quiet ys
told_text-append line quiet xs ys =
    ap (λ (os : List LineOutcome). flat_map (outcome_text line) os) (filter-append (is_told quiet) xs ys)
    ∙ flat_map-append (outcome_text line) (filter (is_told quiet) xs) (filter (is_told quiet) ys)

pub or-assoc : (a b c : Bool) → (a || (b || c)) ≡ ((a || b) || c)
or-assoc true b c = refl
or-assoc false b c = refl

has_refusal-append : (xs ys : List LineOutcome) → has_refusal (xs ++ ys) ≡ (has_refusal xs || has_refusal ys)
has_refusal-append [] ys = refl
has_refusal-append (x ∷ xs) ys =
    ap (λ (b : Bool). is_refusal x || b) (has_refusal-append xs ys)
    ∙ or-assoc (is_refusal x) (has_refusal xs) (has_refusal ys)

pub has_told_refusal-append : (quiet : Bool) (xs ys : List LineOutcome)
    → has_refusal (filter (is_told quiet) (xs ++ ys))
    ≡ (has_refusal (filter (is_told quiet) xs) || has_refusal (filter (is_told quiet) ys))
has_told_refusal-append quiet xs ys =
    ap has_refusal (filter-append (is_told quiet) xs ys)
    ∙ has_refusal-append (filter (is_told quiet) xs) (filter (is_told quiet) ys)

-- the outcomes of the events from one on
pub all_outcomes-drop : (es : List Event) (rs : List Reply) (i : ℕ) (e : Event) (r : Reply) → i < length es
    → i < length rs
    → e ≡ get_or es i e → r ≡ get_or rs i r
    → all_outcomes (drop i es) (drop i rs)
    ≡ event_outcomes e r ++ all_outcomes (drop (i + 1) es) (drop (i + 1) rs)
all_outcomes-drop es rs i e r in_events in_replies event_is reply_is =
    at_drop_more (λ (xs : List Event). all_outcomes xs (drop i rs)) es i e in_events
    ∙ at_drop_more (λ (ys : List Reply). all_outcomes (get_or es i e ∷ drop (i + 1) es) ys) rs i r in_replies
    ∙ ap (λ (x : Event). event_outcomes x (get_or rs i r) ++ all_outcomes (drop (i + 1) es) (drop (i + 1) rs))
    (sym event_is)
    ∙ ap (λ (y : Reply). event_outcomes e y ++ all_outcomes (drop (i + 1) es) (drop (i + 1) rs))
    (sym reply_is)

-- the checkpoints from one on that stay
pub stays_outcomes-drop : (stayed : List Stays) (i : ℕ) (s : Stays) → i < length stayed
    → s ≡ get_or stayed i s
    → map stays_outcome (drop i stayed) ≡ (stays_outcome s ∷ []) ++ map stays_outcome (drop (i + 1) stayed)
stays_outcomes-drop stayed i s within is =
    at_drop_more (λ (xs : List Stays). map stays_outcome xs) stayed i s within
    ∙ ap (λ (x : Stays). stays_outcome x ∷ map stays_outcome (drop (i + 1) stayed)) (sym is)
