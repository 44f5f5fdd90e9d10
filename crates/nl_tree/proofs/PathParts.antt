-- Parts of a path, at its slashes.
use Rattle.std.proofs.Common.{◌≡◌, ℕ, ◌+◌, ◌<◌, arith, length, length-append, Bool, true, false, List, [], ◌∷◌, ◌++◌, take, drop, refl, sym, ap, ◌∙◌}
use Rattle.std.specs.Prelude.{◌==◌, ◌&&◌}
use Rattle.std.specs.List.{All, list_all, list_any, slice_split}
use Rattle.std.proofs.lemmas.Bool.{ne_eqb}
use Rattle.std.proofs.lemmas.List.{take-append-drop, drop_more}
use Rattle.std.proofs.lemmas.List.Elements.{All-head, All-tail, All-weaker}
use Rattle.std.specs.List.{join_with_byte}
use Rattle.std.proofs.lemmas.List.Splits.{join_with_byte-slice_split, slice_split_none, slice_split_at}
use Rattle.nl_types.specs.Plain.Paths.{is_name}
use Rattle.nl_tree.specs.Private.PathParts.{DividesAtSlash, IsOnePart, IsPartEnd, parts_of}

abbrev is_slash : ℕ → Bool
is_slash b = b == 47

-- the test of names for a slash finds none in a part
pub list_any-one_part : (bytes : List ℕ) → IsOnePart bytes → list_any is_slash bytes ≡ false
list_any-one_part [] none = refl
list_any-one_part (b ∷ bytes) none =
    rw (ne_eqb b 47 (All-head (λ b. b ≡ 47 → ⊥) b bytes none))
    (list_any-one_part bytes (All-tail (λ b. b ≡ 47 → ⊥) b bytes none))

all_false : (bytes : List ℕ) → IsOnePart bytes → All (λ b. is_slash b ≡ false) bytes
all_false bytes none =
    All-weaker (λ b. b ≡ 47 → ⊥) (λ b. is_slash b ≡ false) (λ b ne. ne_eqb b 47 ne) bytes none

-- at the first slash the first part ends
pub at_part_end : (bytes : List ℕ) (i : ℕ) → IsPartEnd bytes i
    → DividesAtSlash bytes (take i bytes) (drop (i + 1) bytes)
at_part_end bytes i first = record {
  one = first.before;
  whole =
      sym (take-append-drop i bytes) ∙ (ap (λ rest. take i bytes ++ rest) (drop_more bytes i 0 first.within)
      ∙ ap (λ b. take i bytes ++ b ∷ drop (i + 1) bytes) first.here);
}

pub parts_of-more : (bytes part behind : List ℕ) → DividesAtSlash bytes part behind
    → parts_of bytes ≡ part ∷ parts_of behind
parts_of-more bytes part behind split =
    ap (slice_split is_slash) split.whole
    ∙ slice_split_at is_slash part 47 behind (all_false part split.one) refl

-- what is left is shorter
pub length-behind : (bytes part behind : List ℕ) → DividesAtSlash bytes part behind
    → length behind < length bytes
length-behind bytes part behind split =
    omega (arith, ap (length {A = ℕ}) split.whole, length-append part (47 ∷ behind))

-- where there is no slash, there is one part
pub parts_of-one : (bytes : List ℕ) → IsOnePart bytes → parts_of bytes ≡ bytes ∷ []
parts_of-one bytes none = slice_split_none is_slash bytes (all_false bytes none)

-- paths with the same parts are the same bytes
pub parts_of-injective : (a b : List ℕ) → parts_of a ≡ parts_of b → a ≡ b
parts_of-injective a b same =
    sym (join_with_byte-slice_split 47 a) ∙ (ap (join_with_byte 47) same ∙ join_with_byte-slice_split 47 b)

-- ---- names

module _ (all rest : List ℕ)
    (so_far : list_all is_name (parts_of all) ≡ list_all is_name (parts_of rest)) where
  by_part : (part behind : List ℕ) (b : Bool) → DividesAtSlash rest part behind → b ≡ is_name part
      → list_all is_name (parts_of all) ≡ (b && list_all is_name (parts_of behind))
  by_part part behind b split name =
      so_far
      ∙ (ap (list_all is_name) (parts_of-more rest part behind split)
      ∙ ap (λ t. t && list_all is_name (parts_of behind)) (sym name))

  pub names-more : (part behind : List ℕ) → DividesAtSlash rest part behind → true ≡ is_name part
      → list_all is_name (parts_of all) ≡ list_all is_name (parts_of behind)
  names-more part behind split name = by_part part behind true split name

  pub names-not : (part behind : List ℕ) → DividesAtSlash rest part behind → false ≡ is_name part
      → false ≡ list_all is_name (parts_of all)
  names-not part behind split name = sym (by_part part behind false split name)

  pub names-last : IsOnePart rest → is_name rest ≡ list_all is_name (parts_of all)
  names-last one = sym (so_far ∙ (ap (list_all is_name) (parts_of-one rest one) ∙ last (is_name rest)))
    where
      last : (b : Bool) → (b && true) ≡ b
      last true = refl
      last false = refl
