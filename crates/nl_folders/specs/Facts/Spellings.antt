-- The bytes of a path spell it.
use Rattle.std.proofs.Common.{◌≡◌, ℕ, ◌<◌, ◌≤◌, Bool, true, false, cond, not, List, [], ◌∷◌, ◌++◌, length, Result, Ok, Err, refl, ap, ◌∙◌, arith, append-nil, length-append, ltb-true, lt-ltb, ne_eqb}
use Rattle.std.specs.Prelude.{◌==◌, ◌&&◌, nat_lt, nat_le}
use Rattle.std.specs.List.{All, list_all, list_any, slice_split}
use Rattle.std.proofs.lemmas.Bool.{and_parts, or_parts, not-true}
use Rattle.std.proofs.lemmas.List.Elements.{All-cons, All-nil}
use Rattle.std.proofs.lemmas.List.Splits.{slice_split_at, slice_split_none}
use Rattle.nl_types.specs.declared.error.VolError.{VolError}
use Rattle.nl_types.specs.declared.error.VolError.TheVariants as error
use Rattle.nl_types.specs.Plain.Characters.{dot, slash}
use Rattle.nl_types.specs.Plain.Limits.{name_limit, path_length_limit}
use Rattle.nl_types.specs.Plain.Paths.{Name, Path, is_name, names_of, path_of, same_name}
use Rattle.nl_types.specs.Plain.Trees.{Tree, IsIn}
use Rattle.nl_folders.specs.Spelled.{joined, spelling, IsNameable}

none_passes : (p : ℕ → Bool) (xs : List ℕ) → list_any p xs ≡ false → All (λ x. p x ≡ false) xs
none_passes p [] is = All-nil (λ x. p x ≡ false)
none_passes p (x ∷ xs) is =
    let both = or_parts (p x) (list_any p xs) is in
    All-cons (λ y. p y ≡ false) x xs both.0 (none_passes p xs both.1)

-- a name has some bytes, of which none is a slash
record HasName (n : Name) : Type 0 where
  some : 0 < length n
  plain : All (λ b. (b == slash) ≡ false) n

has_name : (n : Name) → is_name n ≡ true → HasName n
has_name n is =
    let a = nat_lt 0 (length n) in
    let b = nat_le (length n) name_limit in
    let c = not (list_any (λ x. x == 0) n) in
    let d = not (list_any (λ x. x == slash) n) in
    let e = not (same_name n (dot ∷ [])) in
    let f = not (same_name n (dot ∷ dot ∷ [])) in
    let five = and_parts (a && b && c && d && e) f is in
    let four = and_parts (a && b && c && d) e five.0 in
    let three = and_parts (a && b && c) d four.0 in
    let two = and_parts (a && b) c three.0 in
    let one = and_parts a b two.0 in
    record {
      some = ltb-true 0 (length n) one.0;
      plain = none_passes (λ x. x == slash) n (not-true (list_any (λ x. x == slash) n) three.1);
    }

-- the names between the slashes are those that were joined
split_joined : (n : Name) (names : Path) → list_all is_name (n ∷ names) ≡ true
    → slice_split (λ b. b == slash) (n ++ joined names) ≡ n ∷ names
split_joined n [] named =
    let parts = and_parts (is_name n) true named in
    ap (slice_split (λ b. b == slash)) (append-nil n)
    ∙ slice_split_none (λ b. b == slash) n (has_name n parts.0).plain
split_joined n (m ∷ names) named =
    let parts = and_parts (is_name n) (list_all is_name (m ∷ names)) named in
    slice_split_at (λ b. b == slash) n slash (m ++ joined names) (has_name n parts.0).plain refl
    ∙ ap (λ (rest : Path). n ∷ rest) (split_joined m names parts.1)

-- the names in what stands behind the first slash
abbrev named_by : Bool → Path → Result Path VolError
named_by empty names =
    cond {A = Result Path VolError} empty (Ok [])
    (cond {A = Result Path VolError} (list_all is_name names) (Ok names) (Err error.BadName))

names_found : (n : Name) (names : Path) → list_all is_name (n ∷ names) ≡ true
    → names_of (n ++ joined names) ≡ Ok (n ∷ names)
names_found n names named =
    let bytes = n ++ joined names in
    let some = (has_name n (and_parts (is_name n) (list_all is_name names) named).0).some in
    let full : (length bytes == 0) ≡ false =
    ne_eqb (length bytes) 0 (λ e. omega (arith, some, e, length-append n (joined names))) in
    ap (λ b. named_by b (slice_split (λ c. c == slash) bytes)) full
    ∙ ap (named_by false) (split_joined n names named)
    ∙ ap (λ b. cond {A = Result Path VolError} b (Ok (n ∷ names)) (Err error.BadName)) named

-- names that are joined within the limit are found again
pub path_of-spelling : (path : Path) → list_all is_name path ≡ true → length (spelling path) ≤ path_length_limit
    → path_of (spelling path) ≡ Ok path
path_of-spelling [] named fits = refl
path_of-spelling (n ∷ names) named fits =
    let bytes = n ++ joined names in
    let room : nat_lt (length bytes) path_length_limit ≡ true =
    lt-ltb (length bytes) path_length_limit (omega (arith, fits)) in
    ap (λ b. cond {A = Result Path VolError} b (names_of bytes) (Err error.BadPath)) room
    ∙ names_found n names named

-- calls can name what is in such a tree
pub path_of-nameable : (tree : Tree) (path : Path) → IsNameable tree → IsIn tree path
    → path_of (spelling path) ≡ Ok path
path_of-nameable tree path named there =
    path_of-spelling path (named.is_tree.names path there) (named.spelled path there)
