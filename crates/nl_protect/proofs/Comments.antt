-- Where a comment begins.
use Rattle.std.proofs.Common.{◌≡◌, ◌≤◌, ℕ, Bool, true, false, cond, List, length, take, None, Some, refl, sym, ap, rules}
use Rattle.std.specs.Prelude.{nat_lt}
use Rattle.std.specs.List.{before_first, position_or_len}
use Rattle.std.proofs.lemmas.Bool.Decides.{nat_tests}
use Rattle.std.proofs.lemmas.List.{take_all}
use Rattle.nl_protect.specs.Configuration.{is_comment}

taken : (b : Bool) (at p : ℕ) → Some at ≡ cond b (Some p) None → at ≡ p
taken true at p e = search rules
taken false at p e = search rules

left : (b : Bool) (p : ℕ) → None ≡ cond b (Some p) None → b ≡ false
left true p e = search rules
left false p e = refl

pub there : (line : List ℕ) (at : ℕ)
    → Some at
    ≡ cond (nat_lt (position_or_len is_comment line) (length line))
    (Some (position_or_len is_comment line)) None
    → take at line ≡ before_first is_comment line
there line at e =
    ap (λ (n : ℕ). take n line)
    (taken (nat_lt (position_or_len is_comment line) (length line)) at (position_or_len is_comment line) e)

pub none_there : (line : List ℕ)
    → None
    ≡ cond (nat_lt (position_or_len is_comment line) (length line))
    (Some (position_or_len is_comment line)) None
    → line ≡ before_first is_comment line
none_there line e =
    let past : nat_lt (position_or_len is_comment line) (length line) ≡ false =
    left (nat_lt (position_or_len is_comment line) (length line)) (position_or_len is_comment line) e in
    let beyond : length line ≤ position_or_len is_comment line = search (rules, nat_tests) in
    sym (take_all (position_or_len is_comment line) line beyond)
