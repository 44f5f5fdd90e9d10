-- How many blocks the records of a directory take: three to a block at least, but for the last.
use Rattle.std.proofs.Common.{zero, suc, ◌+◌, ◌*◌, ◌≤◌, List, [], ◌∷◌, ◌++◌, length, arith, length-append}
use Rattle.nl_dirs.specs.declared.record.Record.{Record}
use Rattle.nl_dirs.specs.Records.{AllHaveSpelling, RecordHasSpelling, sizes}
use Rattle.nl_dirs.specs.Packing.{IsPacked, no_blocks, last_block, full_block}

fit-right : (xs ys : List Record) → AllHaveSpelling (xs ++ ys) → AllHaveSpelling ys
fit-right [] ys fit = fit
fit-right (x ∷ xs) ys fit = fit-right xs ys (λ k d l. fit (suc k) d (omega arith))

fit-left : (xs ys : List Record) → AllHaveSpelling (xs ++ ys) → AllHaveSpelling xs
fit-left [] ys fit k d l = absurd (omega arith)
fit-left (x ∷ xs) ys fit zero d l = fit 0 d (omega arith)
fit-left (x ∷ xs) ys fit (suc k) d l = fit-left xs ys (λ j e m. fit (suc j) e (omega arith)) k d (omega arith)

sizes-most : (rs : List Record) → AllHaveSpelling rs → sizes rs ≤ 261 * length rs
sizes-most [] fit = omega arith
sizes-most (r ∷ rs) fit =
    let one : RecordHasSpelling r = fit 0 r (omega arith) in
    let rest = sizes-most rs (λ k d l. fit (suc k) d (omega arith)) in
    omega (arith, one.most, rest)

pub packed-few : (rs : List Record) (blocks : List (List Record)) → IsPacked rs blocks → AllHaveSpelling rs
    → 3 * length blocks ≤ length rs + 2
packed-few _ _ no_blocks fit = omega arith
packed-few _ _ (last_block r rs fits) fit = omega arith
packed-few _ _ (full_block r rs n rest blocks fits full more) fit =
    let later = fit-right (r ∷ rs) (n ∷ rest) fit in
    let here = sizes-most (r ∷ rs) (fit-left (r ∷ rs) (n ∷ rest) fit) in
    let next : RecordHasSpelling n = later 0 n (omega arith) in
    let others = packed-few (n ∷ rest) blocks more later in
    omega (arith, here, next.most, full, others, length-append (r ∷ rs) (n ∷ rest))
