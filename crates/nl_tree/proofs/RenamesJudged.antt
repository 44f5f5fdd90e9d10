-- What a rename by paths answers, by what the walks to both find.
use Rattle.std.proofs.Common.{◌≡◌, ℕ, ◌<◌, Bool, true, false, cond, ◌&&◌, ◌||◌, List, [], ◌∷◌, ◌++◌, length, length-append, Option, Some, None, Result, Ok, Err, refl, sym, ap, ◌∙◌, arith}
use Rattle.std.specs.Prelude.{◌==◌, nat_lt}
use Rattle.std.specs.Option.{ok_or, option_map}
use Rattle.std.specs.List.{list_all}
use Rattle.std.proofs.lemmas.Bool.{and_parts, eqb-true, ne_eqb}
use Rattle.std.proofs.lemmas.List.Folds.{list_all-append}
use Rattle.std.proofs.lemmas.List.Splits.{length-slice_split}
use Rattle.nl_types.specs.declared.error.VolError.{VolError}
use Rattle.nl_types.specs.declared.error.VolError.TheVariants.{BadName, BadPath, IntoItself, NotFound}
use Rattle.nl_types.specs.declared.kind.Kind.{Kind}
use Rattle.nl_types.specs.declared.kind.Kind.TheVariants as kind
use Rattle.nl_types.specs.declared.reply.Answer.{Answer}
use Rattle.nl_types.specs.declared.reply.Answer.TheVariants as answer
use Rattle.nl_types.specs.Plain.Paths.{Name, Path, is_name, names_of, path_of, same_path}
use Rattle.nl_types.specs.Plain.Trees.{Tree}
use Rattle.nl_types.specs.Plain.Calls.{and_then, is_above, is_root, refuse_if, rename}
use Rattle.nl_types.specs.Inodes.{Inodes, Link}
use Rattle.nl_types.specs.InodeCallLaws.{tree_if_moved}
use Rattle.nl_types.specs.Judging.{is_dir_kind, judge_rename, may_take}
use Rattle.nl_types.specs.Resolving.{as_dir, record_in, resolve, resolve_from, step_to}
use Rattle.nl_types.specs.Facts.Booleans.{not_true}
use Rattle.nl_types.specs.Facts.Lookups.{same_path-itself}
use Rattle.nl_types.specs.Facts.TreeLaws.{same_path-equal}
use Rattle.nl_types.specs.Facts.Inodes.Judging.{renames_are_judged}
use Rattle.nl_tree.specs.Held.{Holding, inodes_of_holding}
use Rattle.nl_tree.specs.Private.Moving.{IsMove, IsRenameRefused, IsSource, MovesNothing}
use Rattle.nl_tree.specs.Naming.{IsPlaceOf, IsPlaceRefused, listing_of}
use Rattle.nl_tree.specs.Private.PathParts.{parts_of, path_behind}
use Rattle.nl_tree.specs.Reading.{HoldingMeans}
use Rattle.nl_tree.proofs.PathParts.{parts_of-injective}
use Rattle.nl_tree.specs.Facts.HeldContents.{listing_of-IsListing}

-- ---- the bytes of paths

last_name : (path : Path) → 0 < length path → (dir : Path) × (name : Name) × (path ≡ dir ++ name ∷ [])
last_name [] some = absurd (omega arith)
last_name (n ∷ []) some = ([], n, refl)
last_name (n ∷ m ∷ path) some =
    let rest = last_name (m ∷ path) (omega arith) in (n ∷ rest.0, rest.1, ap (λ (p : Path). n ∷ p) rest.2)

-- there is a last part
pub parts_of-last : (bytes : List ℕ) → (dir : Path) × (name : Name) × (parts_of bytes ≡ dir ++ name ∷ [])
parts_of-last bytes = last_name (parts_of bytes) (omega (arith, length-slice_split (λ b. b == 47) bytes))

-- what stands behind the slash of a path that is one
behind_slash : (bytes : List ℕ) (path : Path) → path_of bytes ≡ Ok path
    → (rest : List ℕ) × (bytes ≡ 47 ∷ rest) × (path_behind rest ≡ path) × (list_all is_name path ≡ true)
behind_slash [] path e = absurd cc
behind_slash (b ∷ bytes) path e = tested (b == 47 && nat_lt (length bytes) 4095) refl e
  where
    spelled : (empty all : Bool) (names : Path) → list_all is_name names ≡ all
        → cond empty (Ok []) (cond all (Ok names) (Err BadName)) ≡ Ok path
        → (cond empty [] names ≡ path) × (list_all is_name path ≡ true)
    spelled true all names is e = let same : [] ≡ path = cc in (same, ap (list_all is_name) (sym same))
    spelled false true names is e =
        let same : names ≡ path = cc in (same, ap (list_all is_name) (sym same) ∙ is)
    spelled false false names is e = absurd cc

    tested : (test : Bool) → (b == 47 && nat_lt (length bytes) 4095) ≡ test
        → cond test (names_of bytes) (Err BadPath) ≡ Ok path
        → (rest : List ℕ) × (b ∷ bytes ≡ 47 ∷ rest) × (path_behind rest ≡ path)
        × (list_all is_name path ≡ true)
    tested false is e = absurd cc
    tested true is e =
        let slash = eqb-true b 47 (and_parts (b == 47) (nat_lt (length bytes) 4095) is).0 in
        let names = spelled (length bytes == 0) (list_all is_name (parts_of bytes)) (parts_of bytes) refl e in
        (bytes, ap (λ (c : ℕ). c ∷ bytes) slash, names.0, names.1)

some_parts : (bytes : List ℕ) → [] ≡ parts_of bytes → ⊥
some_parts bytes e = omega (arith, ap (length {A = Name}) e, length-slice_split (λ b. b == 47) bytes)

some_behind : (x : ℕ) (bytes : List ℕ) → path_behind (x ∷ bytes) ≡ parts_of (x ∷ bytes)
some_behind x bytes =
    ap (λ (b : Bool). cond b [] (parts_of (x ∷ bytes)))
    (ne_eqb (length (x ∷ bytes)) 0 (λ e. omega (arith, e)))

path_behind-injective : (a b : List ℕ) → path_behind a ≡ path_behind b → a ≡ b
path_behind-injective [] [] e = refl
path_behind-injective [] (y ∷ b) e = absurd (some_parts (y ∷ b) (e ∙ some_behind y b))
path_behind-injective (x ∷ a) [] e = absurd (some_parts (x ∷ a) (sym e ∙ some_behind x a))
path_behind-injective (x ∷ a) (y ∷ b) e =
    parts_of-injective (x ∷ a) (y ∷ b) (sym (some_behind x a) ∙ (e ∙ some_behind y b))

-- the path tells its bytes
pub path_of-injective : (a b : List ℕ) (p q : Path) → path_of a ≡ Ok p → path_of b ≡ Ok q → p ≡ q → a ≡ b
path_of-injective a b p q is_a is_b same =
    let from = behind_slash a p is_a in
    let to = behind_slash b q is_b in
    from.1
    ∙ (ap (λ (rest : List ℕ). 47 ∷ rest) (path_behind-injective from.0 to.0 (from.2 ∙ (same ∙ sym to.2)))
    ∙ sym to.1)

-- the last part of a path is a name
pub path_of-last : (bytes : List ℕ) (path dir : Path) (name : Name) → path_of bytes ≡ Ok path
    → path ≡ dir ++ name ∷ [] → is_name name ≡ true
path_of-last bytes path dir name is last =
    let all = (behind_slash bytes path is).3 in
    (and_parts (is_name name) true
    (and_parts (list_all is_name dir) (list_all is_name (name ∷ []))
    (sym (list_all-append is_name dir (name ∷ [])) ∙ (ap (list_all is_name) (sym last) ∙ all))).1).0

-- ---- walks to a last name

resolve_from-last : (inodes : Inodes) (at : Link) (dir : Path) (name : Name)
    → resolve_from inodes at (dir ++ name ∷ [])
    ≡ and_then (resolve_from inodes at dir) (λ x. step_to inodes x name)
resolve_from-last inodes at [] name = one (step_to inodes at name)
  where
    one : (r : Result Link VolError) → and_then r (λ next. Ok next) ≡ r
    one (Ok next) = refl
    one (Err e) = refl
resolve_from-last inodes at (n ∷ dir) name =
    by (step_to inodes at n) (λ next. resolve_from-last inodes next dir name)
  where
    by : (r : Result Link VolError)
        → ((next : Link)
        → resolve_from inodes next (dir ++ name ∷ [])
        ≡ and_then (resolve_from inodes next dir) (λ x. step_to inodes x name))
        → and_then r (λ next. resolve_from inodes next (dir ++ name ∷ []))
        ≡ and_then (and_then r (λ next. resolve_from inodes next dir)) (λ x. step_to inodes x name)
    by (Ok next) rest = rest next
    by (Err e) rest = refl

resolve-last : (inodes : Inodes) (path dir : Path) (name : Name) → path ≡ dir ++ name ∷ []
    → resolve inodes path ≡ and_then (resolve inodes dir) (λ x. step_to inodes x name)
resolve-last inodes path dir name is =
    ap (resolve inodes) is ∙ resolve_from-last inodes (2, kind.Directory) dir name

-- a walk that comes to no directory goes no further
no_step : (inodes : Inodes) (name : Name) (found : Result Link VolError) (e : VolError)
    → and_then found as_dir ≡ Err e
    → and_then found (λ x. step_to inodes x name) ≡ Err e
no_step inodes name (Err x) e is = cc
no_step inodes name (Ok (i, kind.File)) e is = cc
no_step inodes name (Ok (i, kind.Directory)) e is = absurd cc

-- the walk to a place finds what has its name there
pub resolve-place : (held : Holding) (path : Path) (directory : ℕ) (name : Name) (link : Option Link)
    → IsPlaceOf held path directory name link
    → resolve (inodes_of_holding held) path ≡ ok_or link NotFound
resolve-place held path directory name link place =
    resolve-last (inodes_of_holding held) path place.dir name place.is_path
    ∙ (ap (λ (r : Result Link VolError). and_then r (λ x. step_to (inodes_of_holding held) x name))
    place.named.resolved
    ∙ ap (λ (o : Option Link). ok_or o NotFound) place.named.has)

resolve-refused : (held : Holding) (path : Path) (e : VolError) → IsPlaceRefused held path e
    → resolve (inodes_of_holding held) path ≡ Err e
resolve-refused held path e place =
    resolve-last (inodes_of_holding held) path place.dir place.name place.is_path
    ∙ no_step (inodes_of_holding held) place.name (resolve (inodes_of_holding held) place.dir) e place.refused

-- ---- the judgement, step by step

below_root : (path dir : Path) (name : Name) → path ≡ dir ++ name ∷ [] → is_root path ≡ false
below_root path dir name is =
    ne_eqb (length path) 0 (λ e. omega (arith, ap (length {A = Name}) is, length-append dir (name ∷ []), e))

module _ (held : Holding) (from dir : Path) (name : Name) where
  abbrev to : Path
  to = dir ++ name ∷ []

  -- once both walks have come to a record and a directory
  abbrev into : Kind → Link → Result Bool VolError
  into k at = and_then (as_dir at) (λ _.
      cond (same_path from to) (Ok false)
      (and_then (may_take (listing_of held) k (record_in (inodes_of_holding held at.0) name))
      (λ _. Ok true)))

  -- once the walk to the record has come there
  abbrev onward : Link → Result Bool VolError
  onward at =
      refuse_if (is_dir_kind at.1 && is_above from to) IntoItself
      (and_then (resolve (inodes_of_holding held) dir) (into at.1))

  abbrev judged : Result Bool VolError
  judged = judge_rename (inodes_of_holding held) (listing_of held) from dir name

  judged_by : (found : Result Link VolError) → is_root from ≡ false
      → resolve (inodes_of_holding held) from ≡ found → judged ≡ and_then found onward
  judged_by found root walk =
      ap (λ (b : Bool).
      refuse_if (b || is_root to) BadPath (and_then (resolve (inodes_of_holding held) from) onward))
      root
      ∙ (ap (λ (b : Bool). refuse_if b BadPath (and_then (resolve (inodes_of_holding held) from) onward))
      (below_root to dir name refl)
      ∙ ap (λ (r : Result Link VolError). and_then r onward) walk)

  -- with a record that doesn't go below itself
  judged_into : (directory : ℕ) (n : Name) (link : Link) → IsPlaceOf held from directory n (Some link)
      → (is_dir_kind link.1 && is_above from to) ≡ false
      → judged ≡ and_then (resolve (inodes_of_holding held) dir) (into link.1)
  judged_into directory n link place outside =
      judged_by (Ok link) (below_root from place.dir n place.is_path)
      (resolve-place held from directory n (Some link) place)
      ∙ ap
      (λ (b : Bool). refuse_if b IntoItself (and_then (resolve (inodes_of_holding held) dir) (into link.1)))
      outside

  answered : (r : Result Bool VolError) → judged ≡ r → (tree : Tree) → HoldingMeans held tree
      → rename tree from to ≡ and_then r (λ moves. Ok (answer.Done, tree_if_moved tree from to moves))
  answered r is tree means =
      renames_are_judged (inodes_of_holding held) tree (listing_of held) means.means
      (listing_of-IsListing held means.sound) from dir name
      ∙ ap (λ (r : Result Bool VolError).
      and_then {B = Answer × Tree} r (λ moves. Ok (answer.Done, tree_if_moved tree from to moves)))
      is

  not_into : (k : Kind) (found : Result Link VolError) (e : VolError) → and_then found as_dir ≡ Err e
      → and_then found (into k) ≡ Err e
  not_into k (Err x) e is = cc
  not_into k (Ok (i, kind.File)) e is = cc
  not_into k (Ok (i, kind.Directory)) e is = absurd cc

-- ---- what is refused

module _ (held : Holding) (from to : Path) where
  refused : (dir : Path) (name : Name) (e : VolError) → to ≡ dir ++ name ∷ []
      → judge_rename (inodes_of_holding held) (listing_of held) from dir name ≡ Err e
      → IsRenameRefused held from to e
  refused dir name e is judge tree means =
      ap (rename tree from) is ∙ answered held from dir name (Err e) judge tree means

  pub source-refused : (dir : Path) (name : Name) (e : VolError) → to ≡ dir ++ name ∷ []
      → IsPlaceRefused held from e → IsRenameRefused held from to e
  source-refused dir name e is place =
      refused dir name e is
      (judged_by held from dir name (Err e) (below_root from place.dir place.name place.is_path)
      (resolve-refused held from e place))

  pub source-none : (dir : Path) (name : Name) → to ≡ dir ++ name ∷ [] → (directory : ℕ) (n : Name)
      → IsPlaceOf held from directory n None → IsRenameRefused held from to NotFound
  source-none dir name is directory n place =
      refused dir name NotFound is
      (judged_by held from dir name (Err NotFound) (below_root from place.dir n place.is_path)
      (resolve-place held from directory n None place))

  directory-above : (dir : Path) (name : Name) → to ≡ dir ++ name ∷ [] → (directory : ℕ) (n : Name) (i : ℕ)
      → IsPlaceOf held from directory n (Some (i, kind.Directory))
      → is_above from to ≡ true → IsRenameRefused held from to IntoItself
  directory-above dir name is directory n i place above =
      refused dir name IntoItself is
      (judged_by held from dir name (Ok (i, kind.Directory)) (below_root from place.dir n place.is_path)
      (resolve-place held from directory n (Some (i, kind.Directory)) place)
      ∙ ap (λ (b : Bool).
      refuse_if b IntoItself
      (and_then (resolve (inodes_of_holding held) dir) (into held from dir name kind.Directory)))
      (sym (ap (is_above from) is) ∙ above))

  pub source-above : (dir : Path) (name : Name) → to ≡ dir ++ name ∷ []
      → (directory : ℕ) (n : Name) (link : Option Link) → IsPlaceOf held from directory n link
      → option_map (λ (l : Link). l.1) link ≡ Some kind.Directory → is_above from to ≡ true
      → IsRenameRefused held from to IntoItself
  source-above dir name is directory n None place dirs above = absurd cc
  source-above dir name is directory n (Some (i, kind.File)) place dirs above = absurd cc
  source-above dir name is directory n (Some (i, kind.Directory)) place dirs above =
      directory-above dir name is directory n i place above

  module _ (directory : ℕ) (n : Name) (link : Link) (source : IsSource held from to directory n link) where
    onto : (dir : Path) (name : Name) → to ≡ dir ++ name ∷ []
        → judge_rename (inodes_of_holding held) (listing_of held) from dir name
        ≡ and_then (resolve (inodes_of_holding held) dir) (into held from dir name link.1)
    onto dir name is =
        judged_into held from dir name directory n link source.place
        (ap (λ (p : Path). is_dir_kind link.1 && is_above from p) (sym is) ∙ source.outside)

    pub target-refused : (e : VolError) → IsPlaceRefused held to e → IsRenameRefused held from to e
    target-refused e place =
        refused place.dir place.name e place.is_path
        (onto place.dir place.name place.is_path
        ∙ not_into held from place.dir place.name link.1
        (resolve (inodes_of_holding held) place.dir) e place.refused)

    module _ (target_directory : ℕ) (target_name : Name) (target : Option Link)
        (place : IsPlaceOf held to target_directory target_name target) where
      -- what is judged once both walks are done
      abbrev ended : Bool → Option Link → Result Bool VolError
      ended same there =
          cond same (Ok false) (and_then (may_take (listing_of held) link.1 there) (λ _. Ok true))

      ends : judge_rename (inodes_of_holding held) (listing_of held) from place.dir target_name
          ≡ ended (same_path from to) target
      ends =
          onto place.dir target_name place.is_path
          ∙ (ap (λ (r : Result Link VolError). and_then r (into held from place.dir target_name link.1))
          place.named.resolved
          ∙ (ap (λ (p : Path).
          ended (same_path from p) (record_in (inodes_of_holding held target_directory) target_name))
          (sym place.is_path)
          ∙ ap (ended (same_path from to)) place.named.has))

      differ : (from ≡ to → ⊥)
          → judge_rename (inodes_of_holding held) (listing_of held) from place.dir target_name
          ≡ ended false target
      differ ne =
          ends
          ∙ ap (λ (b : Bool). ended b target)
          (not_true (same_path from to) (λ e. ne (same_path-equal from to e)))

      pub place-taken : (e : VolError) → (from ≡ to → ⊥) → may_take (listing_of held) link.1 target ≡ Err e
          → IsRenameRefused held from to e
      place-taken e ne taken =
          refused place.dir target_name e place.is_path
          (differ ne ∙ ap (λ (r : Result (Unit {0}) VolError). and_then {B = Bool} r (λ _. Ok true)) taken)

      pub moves-nothing : from ≡ to → MovesNothing held from to
      moves-nothing same = record { same = same; keeps = kept }
        where
          is_same : same_path from to ≡ true
          is_same = ap (same_path from) (sym same) ∙ same_path-itself from

          kept : (tree : Tree) → HoldingMeans held tree → rename tree from to ≡ Ok (answer.Done, tree)
          kept tree means =
              ap (rename tree from) place.is_path
              ∙ answered held from place.dir target_name (Ok false)
              (ends ∙ ap (λ (b : Bool). ended b target) is_same) tree means

      pub is-move : (from ≡ to → ⊥) → may_take (listing_of held) link.1 target ≡ Ok tt
          → IsMove held from to directory n link target_directory target_name target
      is-move ne free = record {
        differ = ne;
        place = source.place;
        target_place = place;
        judged =
            differ ne ∙ ap (λ (r : Result (Unit {0}) VolError). and_then {B = Bool} r (λ _. Ok true)) free;
      }
