-- The path that is read from the bytes of one is that one.
use Rattle.std.proofs.Common.{◌≡◌, ◌⊎◌, Bool, true, false, cond, [], ◌∷◌, ◌++◌, length, Result, Ok, Err, refl, sym, ap, ◌∙◌, arith, inl, inr, ltb-false, ltb-true}
use Rattle.std.specs.Prelude.{nat_lt}
use Rattle.std.specs.List.{list_all}
use Rattle.nl_types.specs.declared.error.VolError.{VolError}
use Rattle.nl_types.specs.declared.error.VolError.TheVariants as error
use Rattle.nl_types.specs.Plain.Limits.{path_length_limit}
use Rattle.nl_types.specs.Plain.Paths.{Path, is_name, names_of, path_of}
use Rattle.nl_folders.specs.Facts.Spellings.{path_of-spelling}
use Rattle.nl_folders.specs.Refusals.{IsTooLong}
use Rattle.nl_folders.specs.Spelled.{joined, spelling}

pub parsed : (path p : Path) → list_all is_name path ≡ true → path_of (spelling path) ≡ Ok p → p ≡ path
parsed [] p named is = let e : [] ≡ p = cc in sym e
parsed (n ∷ names) p named is = by (nat_lt (length (n ++ joined names)) path_length_limit) refl
  where
    by : (b : Bool) → nat_lt (length (n ++ joined names)) path_length_limit ≡ b → p ≡ n ∷ names
    by true room =
        let fits = ltb-true (length (n ++ joined names)) path_length_limit room in
        let both : Ok p ≡ Ok (n ∷ names) = sym is ∙ path_of-spelling (n ∷ names) named (omega arith) in cc
    by false room =
        let no : Ok p ≡ Err error.BadPath =
        sym is
        ∙ ap (λ b. cond {A = Result Path VolError} b (names_of (n ++ joined names)) (Err error.BadPath)) room in
        cc

-- a path of names is found in its bytes, or it is too long for any call
pub named_or_long : (path : Path) → list_all is_name path ≡ true
    → (path_of (spelling path) ≡ Ok path) ⊎ ((path_of (spelling path) ≡ Err error.BadPath) × IsTooLong path)
named_or_long [] named = inl refl
named_or_long (n ∷ names) named = by (nat_lt (length (n ++ joined names)) path_length_limit) refl
  where
    by : (b : Bool) → nat_lt (length (n ++ joined names)) path_length_limit ≡ b
        → (path_of (spelling (n ∷ names)) ≡ Ok (n ∷ names))
        ⊎ ((path_of (spelling (n ∷ names)) ≡ Err error.BadPath) × IsTooLong (n ∷ names))
    by true room =
        let fits = ltb-true (length (n ++ joined names)) path_length_limit room in
        inl (path_of-spelling (n ∷ names) named (omega arith))
    by false room =
        let long = ltb-false (length (n ++ joined names)) path_length_limit room in
        inr (
          ap (λ b. cond {A = Result Path VolError} b (names_of (n ++ joined names)) (Err error.BadPath)) room,
          omega arith,
        )
