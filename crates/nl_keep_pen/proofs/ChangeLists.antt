-- Lists of checkpoints that are gone through one after another.
use Rattle.std.proofs.Common.{◌≡◌, ◌⊎◌, ℕ, ◌+◌, ◌<◌, Bool, true, false, cond, ◌||◌, List, [], ◌∷◌, ◌++◌, length, drop, get_or, Option, Some, None, refl, sym, ap, ◌∙◌, subst, inl, inr, true≢false, eq-eqb, eqb-true, append_assoc}
use Rattle.std.specs.Prelude.{◌==◌}
use Rattle.std.specs.List.{cons_option}
use Rattle.std.proofs.lemmas.List.{drop_more}
use Rattle.nl_types.specs.Plain.NumberLists.{is_one_of}
use Rattle.nl_types.specs.Plain.Paths.{Path}
use Rattle.nl_types.specs.Plain.Trees.{Tree}
use Rattle.nl_types.specs.Plain.Worlds.{World, Copy, copy_at}
use Rattle.nl_types.specs.Facts.Booleans.{or_right}
use Rattle.nl_types.specs.Facts.PartialMaps.{is_one_of-get_or}
use Rattle.nl_folders.specs.declared.folder.FolderError.{FolderError}
use Rattle.nl_folders.specs.Refusals.{RefusesTree}
use Rattle.nl_manifests.specs.declared.comparing.HostDifference.{HostDifference}
use Rattle.nl_keep.specs.Stored.{IsKept, KeepsTree}
use Rattle.nl_keep_pen.specs.History.{AreChanges, AreKept, ChangesAreOne, IsChange, LacksOne, RefusesOne}

-- ---- which numbers are among others

abbrev pub Among : List ℕ → List ℕ → Type 0
Among some all = (q : ℕ) → is_one_of some q ≡ true → is_one_of all q ≡ true

pub first_is : (n : ℕ) (ns : List ℕ) → is_one_of (n ∷ ns) n ≡ true
first_is n ns = ap (λ b. b || is_one_of ns n) (eq-eqb n n refl)

pub second_is : (m n : ℕ) → is_one_of (m ∷ n ∷ []) n ≡ true
second_is m n = or_right (n == m) (first_is n [])

by_front : (n q : ℕ) (few all : List ℕ) → Among few all → is_one_of (n ∷ few) q ≡ true
    → is_one_of (n ∷ all) q ≡ true
by_front n q few all among one =
    elim (q == n) as (λ b. (b || is_one_of few q) ≡ true → (b || is_one_of all q) ≡ true)
    [ true ↦ λ _. refl | false ↦ λ later. among q later ] one

first_among : (n : ℕ) (rest : List ℕ) → Among (n ∷ []) (n ∷ rest)
first_among n rest q one = by_front n q [] rest (λ p none. absurd (true≢false (sym none))) one

-- the next one, and the one before it
pub next_among : (before : Option ℕ) (n : ℕ) (rest : List ℕ)
    → Among (cons_option before (n ∷ [])) (cons_option before (n ∷ rest))
next_among None n rest q one = first_among n rest q one
next_among (Some m) n rest q one = by_front m q (n ∷ []) (n ∷ rest) (first_among n rest) one

pub behind_among : (before : Option ℕ) (ns : List ℕ) → Among ns (cons_option before ns)
behind_among None ns q one = one
behind_among (Some m) ns q one = or_right (q == m) one

pub rest_is : (numbers : List ℕ) (i n d : ℕ) → i < length numbers → n ≡ get_or numbers i d
    → drop i numbers ≡ n ∷ drop (i + 1) numbers
rest_is numbers i n d within is =
    drop_more numbers i d within ∙ ap (λ (m : ℕ). m ∷ drop (i + 1) numbers) (sym is)

pub few_among : (numbers : List ℕ) (before : Option ℕ) (i n d : ℕ) → i < length numbers → n ≡ get_or numbers i d
    → Among (cons_option before (drop i numbers)) numbers → Among (cons_option before (n ∷ [])) numbers
few_among numbers before i n d within is among q one =
    among q
    (subst (λ (ns : List ℕ). is_one_of (cons_option before ns) q ≡ true) (sym (rest_is numbers i n d within is))
    (next_among before n (drop (i + 1) numbers) q one))

-- ---- which are kept

pub few_kept : (w : World) (few all : List ℕ) → Among few all → AreKept all w → AreKept few w
few_kept w few all among kept q one = kept q (among q one)

pub more_kept : (w : World) (n : ℕ) (rest : List ℕ) → IsKept n w → AreKept rest w → AreKept (n ∷ rest) w
more_kept w n rest kept others q one =
    elim (q == n) as (λ b. (q == n) ≡ b → (b || is_one_of rest q) ≡ true → IsKept q w) [
      | true ↦ λ same _. subst (λ (k : ℕ). IsKept k w) (sym (eqb-true q n same)) kept
      | false ↦ λ _ later. others q later
    ] refl one

pub none_kept : (w : World) → AreKept [] w
none_kept w q none = absurd (true≢false (sym none))

pub lacks : (w : World) (numbers : List ℕ) (i n d : ℕ) → i < length numbers → n ≡ get_or numbers i d
    → copy_at w n ≡ None → LacksOne numbers w
lacks w numbers i n d within is missing = record {
  number = n;
  is_one = ap (is_one_of numbers) is ∙ is_one_of-get_or numbers i d within;
  missing = missing;
}

-- none that is kept is lacked
pub lacks_none : (w : World) (numbers : List ℕ) → AreKept numbers w → LacksOne numbers w → ⊥
lacks_none w numbers kept lacks =
    let copy = kept lacks.number lacks.is_one in
    let no : ◌≡◌ {A = Option Copy} (Some copy.0) None = sym copy.1 ∙ lacks.missing in cc

-- ---- refusals

module _ (w : World) (e : FolderError) where
  pub refuses_one : (numbers : List ℕ) (n : ℕ) → is_one_of numbers n ≡ true → AreKept numbers w
      → ((copy : Copy) → copy_at w n ≡ Some copy → RefusesTree copy.tree e) → RefusesOne numbers e w
  refuses_one numbers n one kept refuses =
      let k = kept n one in
      record { number = n; is_one = one; copy = k.0; kept = k.1; refuses = refuses k.0 k.1 }

  pub refuses_both : (m n : ℕ) → AreKept (m ∷ n ∷ []) w
      → ((old new : Tree) → KeepsTree m old w → KeepsTree n new w → RefusesTree old e ⊎ RefusesTree new e)
      → RefusesOne (m ∷ n ∷ []) e w
  refuses_both m n kept refuses =
      let old = kept m (first_is m (n ∷ [])) in
      let new = kept n (second_is m n) in
      elim (refuses old.0.tree new.0.tree (record { copy = old.0; kept = old.1; has = refl })
      (record { copy = new.0; kept = new.1; has = refl })) [
        | inl one ↦ record {
          number = m;
          is_one = first_is m (n ∷ []);
          copy = old.0;
          kept = old.1;
          refuses = one;
        }
        | inr other ↦ record {
          number = n;
          is_one = second_is m n;
          copy = new.0;
          kept = new.1;
          refuses = other;
        }
      ]

  pub refuses_among : (few all : List ℕ) → Among few all → RefusesOne few e w → RefusesOne all e w
  refuses_among few all among refuses = record {
    number = refuses.number;
    is_one = among refuses.number refuses.is_one;
    copy = refuses.copy;
    kept = refuses.kept;
    refuses = refuses.refuses;
  }

-- ---- changes

-- one checkpoint more of a list is told of
pub tells_next : (w : World) (top : Path) (before : Option ℕ) (n : ℕ) (numbers rest : List ℕ) (is : Bool)
    → IsChange w top before n is → AreChanges w top (Some n) numbers rest
    → AreChanges w top before (n ∷ numbers) (cond is (n ∷ []) [] ++ rest)
tells_next w top before n numbers rest true change changes = (true, rest, change, refl, changes)
tells_next w top before n numbers rest false change changes = (false, rest, change, refl, changes)

one_change : (w : World) (top : Path) (before : Option ℕ) (n : ℕ) (a b : Bool) → IsChange w top before n a
    → IsChange w top before n b → a ≡ b
one_change w top None n a b one other = sym one ∙ other
one_change w top (Some m) n true true one other = refl
one_change w top (Some m) n true false one other =
    let no : ◌≡◌ {A = Option HostDifference} (Some one.difference) None =
    sym one.differs ∙ other one.path one.within in cc
one_change w top (Some m) n false true one other =
    let no : ◌≡◌ {A = Option HostDifference} (Some other.difference) None =
    sym other.differs ∙ one other.path other.within in cc
one_change w top (Some m) n false false one other = refl

are_one : (w : World) (top : Path) (before : Option ℕ) (numbers one other : List ℕ)
    → AreChanges w top before numbers one → AreChanges w top before numbers other → one ≡ other
are_one w top before [] one other a b = a ∙ sym b
are_one w top before (n ∷ numbers) one other a b =
    let is = one_change w top before n a.0 b.0 a.2 b.2 in
    let rest = are_one w top (Some n) numbers a.1 b.1 a.4 b.4 in
    a.3 ∙ (λ i. cond (is i) (n ∷ rest i) (rest i)) ∙ sym b.3

-- the changes of a list are determined
pub changes_are_one : ChangesAreOne
changes_are_one w top numbers one other = are_one w top None numbers one other

-- what goes on from a place of the list goes on from its start
abbrev pub GoesOn : World → (top : Path) → (numbers : List ℕ) → (before : Option ℕ) → (left changes : List ℕ) → Type 0
GoesOn w top numbers before left changes =
    (rest : List ℕ) → AreChanges w top before left rest → AreChanges w top None numbers (changes ++ rest)

pub goes_on : (w : World) (top : Path) (numbers left changes more : List ℕ) (before : Option ℕ) (n : ℕ) (is : Bool)
    → GoesOn w top numbers before (n ∷ left) changes → IsChange w top before n is
    → more ≡ changes ++ cond is (n ∷ []) [] → GoesOn w top numbers (Some n) left more
goes_on w top numbers left changes more before n is so_far change told rest after =
    subst (AreChanges w top None numbers)
    (sym (append_assoc changes (cond is (n ∷ []) []) rest) ∙ ap (λ (xs : List ℕ). xs ++ rest) (sym told))
    (so_far (cond is (n ∷ []) [] ++ rest) (tells_next w top before n left rest is change after))
