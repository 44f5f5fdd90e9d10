use Rattle.std.proofs.Common.{◌≡◌, ◌≤◌, ◌-◌, ◌∙◌, ℕ, List, ap, arith, drop, length, min, sym, take}
use Rattle.std.proofs.lemmas.List.{length-drop, take_all, take_min}
use Rattle.nl_saving.proofs.extents.has_hole.Goals as goal

-- the first n bytes behind a place, as far as there are so many
first_bytes : (bytes : List ℕ) (start m n : ℕ) → start ≤ length bytes
    → m ≡ min n (length (take (length bytes - start) (drop start bytes)))
    → take m (take (length bytes - start) (drop start bytes)) ≡ take n (drop start bytes)
first_bytes bytes start m n within is =
    let rest : List ℕ = drop start bytes in
    let whole : take (length bytes - start) rest ≡ rest =
    take_all (length bytes - start) rest (omega (arith, length-drop start bytes)) in
    let count : m ≡ min n (length rest) = is ∙ ap (λ (xs : List ℕ). min n (length xs)) whole in
    ap (λ (xs : List ℕ). take m xs) whole ∙ (ap (λ (k : ℕ). take k rest) count ∙ take_min n rest)

pub returns-clause-hole : goal.returns-clause-hole
returns-clause-hole c =
    let unit = first_bytes c.args.bytes.now c.args.start c.min.result 4096 c.requires c.min.ensures in
    (λ yes. sym unit ∙ c.is_hole.ensures.0 yes, λ hole. c.is_hole.ensures.1 (unit ∙ hole))
