-- What a writer holds after one text, then another.
use Rattle.std.proofs.Common.{◌≡◌, ◌∙◌, ◌+◌, ◌<◌, ◌++◌, ap, sym, subst, append_assoc, List, ℕ, Option, Result, Ok, Err, OnOk, length, drop, get_or}
use Rattle.std.proofs.KnownBytes.{Appends-trans}
use Rattle.std.proofs.lemmas.List.{at_drop_more}
use Rattle.std.specs.Io.KnownBytes.{Appends}
use Rattle.std.specs.List.{flat_map}
use Rattle.nl_script.specs.Texts.{Text}

pub Appends-same : (a b : Option Text) (xs ys : Text) → xs ≡ ys → Appends a b xs → Appends a b ys
Appends-same a b xs ys e first = subst (λ (t : Text). Appends a b t) e first

pub OnOk-same : {X E : Type 0} (r : Result X E) (a b : Option Text) (xs ys : Text) → xs ≡ ys
    → OnOk r (Appends a b xs) → OnOk r (Appends a b ys)
OnOk-same r a b xs ys e last = subst (λ (t : Text). OnOk r (Appends a b t)) e last

-- a text, and then what the rest of the function writes
pub OnOk-then : {X E : Type 0} (r : Result X E) (a b c : Option Text) (xs ys : Text) → Appends a b xs
    → OnOk r (Appends b c ys) → OnOk r (Appends a c (xs ++ ys))
OnOk-then (Ok x) a b c xs ys first then = Appends-trans a b c xs ys first then
OnOk-then (Err e) a b c xs ys first then = tt

-- ---- a list of texts, one after another

-- the writer got the front of a text, and this is left of it
pub record GoesOn (old now : Option Text) (rest whole : Text) : Type 0 where
  pub done : Text
  pub appended : Appends old now done
  pub joined : done ++ rest ≡ whole

pub goes_on-more : (old now new : Option Text) (rest xs ys whole : Text) → rest ≡ xs ++ ys
    → GoesOn old now rest whole → Appends now new xs → GoesOn old new ys whole
goes_on-more old now new rest xs ys whole parts g next = record {
  done = g.done ++ xs;
  appended = Appends-trans old now new g.done xs g.appended next;
  joined = append_assoc g.done xs ys ∙ ap (λ (t : Text). g.done ++ t) (sym parts) ∙ g.joined;
}

-- the text of the next item, and those of the items behind it
pub flat_map-drop : {X : Type 0} (f : X → Text) (xs : List X) (i : ℕ) (x : X) → i < length xs
    → x ≡ get_or xs i x
    → flat_map f (drop i xs) ≡ f x ++ flat_map f (drop (i + 1) xs)
flat_map-drop f xs i x within is =
    at_drop_more (flat_map f) xs i x within ∙ ap (λ y. f y ++ flat_map f (drop (i + 1) xs)) (sym is)
