-- What std's patterns say of a dot in a text.
use Rattle.std.proofs.Common.{arith, ℕ, ◌≡◌, ◌≢◌, ◌<◌, Bool, length, get_or, List, [], ◌∷◌, ◌++◌, Option, None, Some, MatchOption, Bor, sym, ap, refl, ◌∙◌, suc}
use Rattle.std.specs.Prelude.{if◌then◌else◌}
use Rattle.std.specs.Option.{option_map}
use Rattle.std.proofs.lemmas.Bool.{ne_eqb}
use Rattle.std.proofs.lemmas.Str.Pattern.{IsSplitOnceResult, split_parts}
use Rattle.nl_commands.specs.RangeWords.{around_dot, behind_dot, with_byte}

abbrev LacksDot : List ℕ → Type 0
LacksDot text = (i : ℕ) → i < length text → get_or text i 0 ≢ 46

abbrev Parts : Type 0
Parts = Option (List ℕ × List ℕ)

passed : (b : ℕ) (bs : List ℕ) (r : Parts) → b ≢ 46 → around_dot bs ≡ r
    → around_dot (b ∷ bs) ≡ option_map (with_byte b) r
passed b bs r other is =
    ap (λ (t : Bool). if t then Some ([], bs) else option_map (with_byte b) (around_dot bs))
    (ne_eqb b 46 other)
    ∙ ap (λ (o : Parts). option_map (with_byte b) o) is

tail_lacks : (b : ℕ) (bs : List ℕ) → LacksDot (b ∷ bs) → LacksDot bs
tail_lacks b bs lacks = λ i l. lacks (suc i) (omega arith)

around_dot-at : (before behind : List ℕ) → LacksDot before
    → around_dot (before ++ 46 ∷ behind) ≡ Some (before, behind)
around_dot-at [] behind lacks = refl
around_dot-at (b ∷ bs) behind lacks =
    passed b _ _ (lacks 0 (omega arith)) (around_dot-at bs behind (tail_lacks b bs lacks))

around_dot-without : (text : List ℕ) → LacksDot text → around_dot text ≡ None
around_dot-without [] lacks = refl
around_dot-without (b ∷ bs) lacks =
    passed b bs None (lacks 0 (omega arith)) (around_dot-without bs (tail_lacks b bs lacks))

-- what `split_once` at a dot answers
pub split_is : (text : List ℕ) (r : Option (Bor (List ℕ) × Bor (List ℕ))) → IsSplitOnceResult 46 text r
    → option_map (λ parts. (parts.0.now, parts.1.now)) r ≡ around_dot text
split_is text None h = sym (around_dot-without text (split_parts 46 text None h (omega arith)))
split_is text (Some p) h =
    let parts = split_parts 46 text (Some p) h (omega arith) in
    sym (ap around_dot parts.0 ∙ around_dot-at p.0.now p.1.now parts.1)

-- what `strip_prefix` of a dot answers
pub strip_is : (text : List ℕ) (r : Option (Bor (List ℕ)))
    → MatchOption r ((rest : List ℕ) → text ≢ 46 ∷ rest) (λ x. text ≡ 46 ∷ x.now)
    → option_map (λ rest. rest.now) r ≡ behind_dot text
strip_is [] None h = refl
strip_is text (Some x) h = sym (ap behind_dot h)
strip_is (b ∷ bs) None h =
    sym (ap (λ (t : Bool). if t then Some bs else None) (ne_eqb b 46 (λ e. h bs (ap (λ n. n ∷ bs) e))))
