-- What a file has behind each extent that is written, and in the end.
use Rattle.std.proofs.Common.{◌≡◌, ◌+◌, ◌-◌, ◌≤◌, ◌∙◌, ◌++◌, ℕ, List, [], Option, Some, ap, arith, drop, length, replicate, subst, sym, take}
use Rattle.std.specs.Prelude.{slice_range}
use Rattle.std.proofs.lemmas.List.{append-nil, drop_all, length-take-le, take-append-drop, take-take, take_all}
use Rattle.std.proofs.lemmas.Slice.{between_is}
use Rattle.nl_types.specs.Plain.Calls.{overwritten, resized}
use Rattle.nl_saving.specs.Extents.{AreZeros}
use Rattle.nl_saving.specs.SparseFiles.{IsOverwritten, IsResized}

-- the first bytes, and those from there up to a later place
pub joined : (xs : List ℕ) (m n : ℕ) → m ≤ n → take m xs ++ slice_range xs m n ≡ take n xs
joined xs m n le =
    ap (λ (ys : List ℕ). take m xs ++ ys) (between_is xs m n)
    ∙ (ap (λ (ys : List ℕ). ys ++ drop m (take n xs)) (sym (take-take m n xs le))
    ∙ take-append-drop m (take n xs))

-- the first bytes, and the zeros from there up to a later place
filled : (bytes : List ℕ) (place n : ℕ) → place ≤ n → AreZeros bytes place n
    → take place bytes ++ replicate (n - place) 0 ≡ take n bytes
filled bytes place n le zeros =
    ap (λ (ys : List ℕ). take place bytes ++ ys) (sym zeros) ∙ joined bytes place n le

-- the bytes of an extent written behind the first ones, with zeros between
written : (bytes : List ℕ) (place start end : ℕ) → place ≤ start → start ≤ end → place ≤ length bytes
    → AreZeros bytes place start
    → overwritten (take place bytes) start (slice_range bytes start end) ≡ take end bytes
written bytes place start end ascends forward within zeros =
    let known : List ℕ = take place bytes in
    let part : List ℕ = slice_range bytes start end in
    let len : length known ≡ place = length-take-le place bytes within in
    let front : take start known ≡ known = take_all start known (omega arith) in
    let rest : drop (start + length part) known ≡ [] =
    drop_all (start + length part) known (omega arith) in
    let between = filled bytes place start ascends zeros in
    let whole = joined bytes start end forward in
    let end_is = append-nil (take end bytes) in
    cc

-- the length, where zeros alone are left
ended : (bytes : List ℕ) (place : ℕ) → place ≤ length bytes → AreZeros bytes place (length bytes)
    → resized (take place bytes) (length bytes) ≡ bytes
ended bytes place within zeros =
    let known : List ℕ = take place bytes in
    let len : length known ≡ place = length-take-le place bytes within in
    let front : take (length bytes) known ≡ known = take_all (length bytes) known (omega arith) in
    let between = filled bytes place (length bytes) within zeros in
    let all = take_all (length bytes) bytes (omega arith) in
    cc

-- the same of a file whose bytes are known
pub behind_write : (bytes : List ℕ) (place start end : ℕ) (old new : Option (List ℕ)) → place ≤ start
    → start ≤ end → place ≤ length bytes → AreZeros bytes place start → old ≡ Some (take place bytes)
    → IsOverwritten old new start (slice_range bytes start end) → new ≡ Some (take end bytes)
behind_write bytes place start end old new ascends forward within zeros is write =
    let put : new ≡ Some (overwritten (take place bytes) start (slice_range bytes start end)) =
    subst (λ (o : Option (List ℕ)). IsOverwritten o new start (slice_range bytes start end)) is write in
    put ∙ ap Some (written bytes place start end ascends forward within zeros)

pub behind_resize : (bytes : List ℕ) (place : ℕ) (old new : Option (List ℕ)) → place ≤ length bytes
    → AreZeros bytes place (length bytes) → old ≡ Some (take place bytes)
    → IsResized old new (length bytes) → new ≡ Some bytes
behind_resize bytes place old new within zeros is resize =
    let put : new ≡ Some (resized (take place bytes) (length bytes)) =
    subst (λ (o : Option (List ℕ)). IsResized o new (length bytes)) is resize in
    put ∙ ap Some (ended bytes place within zeros)
