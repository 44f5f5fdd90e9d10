-- A path has one spelling, so a rename counts as a change where its paths differ.
use Rattle.std.proofs.Common.{◌≡◌, ℕ, Bool, true, false, not, cond, List, [], ◌∷◌, length, Result, Ok, Err, refl, sym, ap, ◌∙◌, subst, true≢false, arith}
use Rattle.std.specs.Prelude.{◌==◌, ◌&&◌, nat_lt, IfOk}
use Rattle.std.specs.List.{list_all, slice_split, join_with_byte}
use Rattle.std.specs.Str.{bytes_eq}
use Rattle.std.proofs.lemmas.Bool.{and_parts, eqb-true}
use Rattle.std.proofs.lemmas.List.Splits.{join_with_byte-slice_split}
use Rattle.std.proofs.lemmas.Slice.Eq.{bytes_eq-Decides}
use Rattle.nl_types.specs.declared.error.VolError.{VolError}
use Rattle.nl_types.specs.declared.error.VolError.TheVariants as error
use Rattle.nl_types.specs.Plain.Paths.{Path, path_of, names_of, is_name, same_path}
use Rattle.nl_types.specs.Plain.Laws.{PathsHaveOneSpelling, RenamesOfTwoPathsCount}
use Rattle.nl_types.specs.Facts.Booleans.{not_true}
use Rattle.nl_types.specs.Facts.TreeLaws.{same_path-equal}
use Rattle.nl_types.specs.Facts.Lookups.{same_path-itself}

-- the names of a path spell it
names_spell : (bytes : List ℕ) → IfOk (names_of bytes) (λ path. bytes ≡ join_with_byte 47 path)
names_spell bytes =
    elim (length bytes == 0) as (λ t.
    (length bytes == 0) ≡ t
    → IfOk (cond {A = Result Path VolError} t (Ok [])
    (cond (list_all is_name names) (Ok names) (Err error.BadName)))
    (λ path. bytes ≡ join_with_byte 47 path)) [
      | true ↦ λ none. empty bytes (eqb-true (length bytes) 0 none)
      | false ↦
          λ _.
          elim (list_all is_name names) as (λ t.
          IfOk (cond {A = Result Path VolError} t (Ok names) (Err error.BadName))
          (λ path. bytes ≡ join_with_byte 47 path)) [
            | true ↦ sym (join_with_byte-slice_split 47 bytes)
            | false ↦ tt
          ]
    ] refl
  where
    names : Path
    names = slice_split (λ c. c == 47) bytes

    empty : (list : List ℕ) → length list ≡ 0 → list ≡ []
    empty [] none = refl
    empty (b ∷ list) none = absurd (omega (arith, none))

path_spells : (bytes : List ℕ) → IfOk (path_of bytes) (λ path. bytes ≡ 47 ∷ join_with_byte 47 path)
path_spells [] = tt
path_spells (b ∷ bytes) =
    elim (b == 47 && nat_lt (length bytes) 4095) as (λ t.
    (b == 47 && nat_lt (length bytes) 4095) ≡ t
    → IfOk (cond {A = Result Path VolError} t (names_of bytes) (Err error.BadPath))
    (λ path. b ∷ bytes ≡ 47 ∷ join_with_byte 47 path)) [
      | true ↦
          λ is.
          behind (eqb-true b 47 (and_parts (b == 47) (nat_lt (length bytes) 4095) is).0) (names_of bytes)
          (names_spell bytes)
      | false ↦ λ _. tt
    ] refl
  where
    behind : b ≡ 47 → (found : Result Path VolError) → IfOk found (λ path. bytes ≡ join_with_byte 47 path)
        → IfOk found (λ path. b ∷ bytes ≡ 47 ∷ join_with_byte 47 path)
    behind slash (Ok path) spelled = λ i. slash i ∷ spelled i
    behind slash (Err e) spelled = tt

spelling_is : (bytes : List ℕ) (path : Path) → path_of bytes ≡ Ok path → bytes ≡ 47 ∷ join_with_byte 47 path
spelling_is bytes path is =
    subst (λ (found : Result Path VolError). IfOk found (λ p. bytes ≡ 47 ∷ join_with_byte 47 p)) is
    (path_spells bytes)

pub paths_have_one_spelling : PathsHaveOneSpelling
paths_have_one_spelling one other path is also = spelling_is one path is ∙ sym (spelling_is other path also)

pub renames_of_two_paths_count : RenamesOfTwoPathsCount
renames_of_two_paths_count from to f t is also = ap not (by (bytes_eq from to) refl)
  where
    same_paths : from ≡ to → f ≡ t
    same_paths same = let found : Ok f ≡ Ok t = sym is ∙ (ap path_of same ∙ also) in cc

    by : (b : Bool) → bytes_eq from to ≡ b → b ≡ same_path f t
    by true same =
        sym (ap (same_path f) (sym (same_paths ((bytes_eq-Decides from to).0 same))) ∙ same_path-itself f)
    by false differ = sym (not_true (same_path f t) (λ same.
        let spelled : from ≡ to =
        spelling_is from f is
        ∙ (ap (λ (p : Path). 47 ∷ join_with_byte 47 p) (same_path-equal f t same)
        ∙ sym (spelling_is to t also)) in
        true≢false (sym ((bytes_eq-Decides from to).1 spelled) ∙ differ)))
