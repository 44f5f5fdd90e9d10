-- What calls by paths answer, by the place that the last name of the path has.
use Rattle.std.proofs.Common.{◌≡◌, ℕ, Bool, true, false, ◌+◌, ◌<◌, ◌≤◌, List, [], ◌∷◌, ◌++◌, length, inl, inr, Option, Some, None, Result, Ok, Err, refl, sym, ap, ◌∙◌, arith}
use Rattle.std.specs.Prelude.{nat_lt, IsSome}
use Rattle.std.specs.Option.{is_some, ok_or, option_map}
use Rattle.std.proofs.lemmas.Bool.{lt-ltb, le-ltb, ne_eqb}
use Rattle.nl_types.specs.declared.error.VolError.{VolError}
use Rattle.nl_types.specs.declared.error.VolError.TheVariants.{BadPath, Exists, IsDir, Memory, NotDir, NotEmpty, NotFound, TooBig}
use Rattle.nl_types.specs.declared.kind.Kind.TheVariants as kind
use Rattle.nl_types.specs.declared.reply.Answer.{Answer}
use Rattle.nl_types.specs.declared.reply.Answer.TheVariants as answer
use Rattle.nl_types.specs.declared.reply.Object.{Object}
use Rattle.nl_types.specs.declared.reply.Object.TheVariants.{Dir}
use Rattle.nl_types.specs.Plain.Limits.{path_limit}
use Rattle.nl_types.specs.Plain.Paths.{Name, Path}
use Rattle.nl_types.specs.Plain.Trees.{Tree, insert, lookup, remove}
use Rattle.nl_types.specs.Plain.Calls.{and_then, create, is_root, refuse_if, rmdir, unlink}
use Rattle.nl_types.specs.Inodes.{Inodes, Link, MeansTree}
use Rattle.nl_types.specs.Judging.{bytes_in, has_any, judge_create}
use Rattle.nl_types.specs.Resolving.{IsNamed, as_dir, record_in, resolve, resolve_from, step_to}
use Rattle.nl_types.specs.Facts.Inodes.FullVolumes.{full_volumes_are_too_big}
use Rattle.nl_types.specs.Facts.Inodes.Judging.{creates_are_judged, files_are_judged, rmdirs_are_judged}
use Rattle.nl_tree.specs.Held.{Held, Holding, IsHolding, held_count, inode_content, inodes_of_holding}
use Rattle.nl_tree.specs.Naming.{IsPlaceOf, IsPlaceRefused, listing_of}
use Rattle.nl_tree.specs.Steps.{IsCreateRefused, IsFullOf}
use Rattle.nl_tree.specs.Facts.HeldContents.{held_count-listing, listing_of-IsListing}

-- ---- walks to the last name

-- what refuses the walk to a directory refuses whatever looks there
refused_there : {B : Type 0} (found : Result Link VolError) (next : Link → Result B VolError) (e : VolError)
    → and_then found as_dir ≡ Err e
    → and_then found (λ at. and_then (as_dir at) (λ _. next at)) ≡ Err e
refused_there (Ok (i, kind.Directory)) next e h = absurd cc
refused_there (Ok (i, kind.File)) next e h = cc
refused_there (Err x) next e h = cc

-- and the walk to the last name
refused_on : (inodes : Inodes) (found : Result Link VolError) (name : Name) (e : VolError)
    → and_then found as_dir ≡ Err e
    → and_then found (λ at. step_to inodes at name) ≡ Err e
refused_on inodes (Ok (i, kind.Directory)) name e h = absurd cc
refused_on inodes (Ok (i, kind.File)) name e h = cc
refused_on inodes (Err x) name e h = cc

-- the walk to a name in a directory is one more step
resolve-last : (inodes : Inodes) (from : Link) (dir : Path) (name : Name)
    → resolve_from inodes from (dir ++ name ∷ [])
    ≡ and_then (resolve_from inodes from dir) (λ at. step_to inodes at name)
resolve-last inodes from [] name = last (step_to inodes from name)
  where
    last : (r : Result Link VolError) → and_then r (λ next. Ok next) ≡ r
    last (Ok next) = refl
    last (Err e) = refl
resolve-last inodes from (n ∷ dir) name =
    choose (step_to inodes from n) (λ next. resolve-last inodes next dir name)
  where
    choose : (r : Result Link VolError)
        → ((next : Link)
        → resolve_from inodes next (dir ++ name ∷ [])
        ≡ and_then (resolve_from inodes next dir) (λ at. step_to inodes at name))
        → and_then r (λ next. resolve_from inodes next (dir ++ name ∷ []))
        ≡ and_then (and_then r (λ next. resolve_from inodes next dir)) (λ at. step_to inodes at name)
    choose (Ok next) rest = rest next
    choose (Err e) rest = refl

resolve-named : (inodes : Inodes) (dir : Path) (name : Name) (i : ℕ) (link : Option Link)
    → IsNamed inodes dir name i link
    → resolve inodes (dir ++ name ∷ []) ≡ ok_or link NotFound
resolve-named inodes dir name i link named =
    resolve-last inodes (2, kind.Directory) dir name
    ∙ (ap (λ (r : Result Link VolError). and_then r (λ at. step_to inodes at name)) named.resolved
    ∙ ap (λ (o : Option Link). ok_or o NotFound) named.has)

is_root-child : (dir : Path) (name : Name) → is_root (dir ++ name ∷ []) ≡ false
is_root-child [] name = ne_eqb 1 0 (λ e. absurd (omega (arith, e)))
is_root-child (n ∷ dir) name = ne_eqb (length (n ∷ (dir ++ name ∷ []))) 0 (λ e. absurd (omega (arith, e)))

-- ---- calls

module _ (holding : Holding) (tree : Tree) (means : MeansTree (inodes_of_holding holding) tree) where
  abbrev inodes : Inodes
  inodes = inodes_of_holding holding

  resolve-place : (path : Path) (directory : ℕ) (name : Name) (link : Option Link)
      → IsPlaceOf holding path directory name link
      → resolve inodes path ≡ ok_or link NotFound
  resolve-place path directory name link place =
      ap (resolve inodes) place.is_path ∙ resolve-named inodes place.dir name directory link place.named

  resolve-refused : (path : Path) (e : VolError) → IsPlaceRefused holding path e → resolve inodes path ≡ Err e
  resolve-refused path e refusal =
      ap (resolve inodes) refusal.is_path
      ∙ (resolve-last inodes (2, kind.Directory) refusal.dir refusal.name
      ∙ refused_on inodes (resolve inodes refusal.dir) refusal.name e refusal.refused)

  -- ---- create

  create_judged : (object : Object) (path dir : Path) (name : Name) (judged : Result ℕ VolError)
      → path ≡ dir ++ name ∷ [] → judge_create inodes (length tree) dir name ≡ judged
      → create tree object path ≡ and_then judged (λ _. Ok (answer.Done, insert tree (dir ++ name ∷ []) object))
  create_judged object path dir name judged is e =
      ap (create tree object) is
      ∙ (creates_are_judged inodes tree means object dir name
      ∙ ap (λ (r : Result ℕ VolError).
      and_then {B = Answer × Tree} r (λ _. Ok (answer.Done, insert tree (dir ++ name ∷ []) object)))
      e)

  pub create-root : (object : Object) → create tree object [] ≡ Err Exists
  create-root object = let root : lookup tree [] ≡ Some Dir = means.rooted.root in rw root refl

  pub create-refused : (object : Object) (path : Path) (e : VolError) → IsPlaceRefused holding path e
      → create tree object path ≡ Err e
  create-refused object path e refusal =
      create_judged object path refusal.dir refusal.name (Err e) refusal.is_path
      (refused_there (resolve inodes refusal.dir) _ e refusal.refused)

  judged_place : (paths : ℕ) (path : Path) (directory : ℕ) (name : Name) (link : Option Link)
      (place : IsPlaceOf holding path directory name link)
      → judge_create inodes paths place.dir name
      ≡ refuse_if (is_some link) Exists (refuse_if (nat_lt path_limit paths) TooBig (Ok directory))
  judged_place paths path directory name link place =
      ap (λ (r : Result Link VolError).
      and_then r (λ at.
      and_then (as_dir at)
      (λ _.
      refuse_if (is_some (record_in (inodes at.0) name)) Exists
      (refuse_if (nat_lt path_limit paths) TooBig (Ok at.0)))))
      place.named.resolved
      ∙ ap (λ (o : Option Link).
      refuse_if (is_some o) Exists (refuse_if (nat_lt path_limit paths) TooBig (Ok directory)))
      place.named.has

  pub create-exists : (object : Object) (path : Path) (directory : ℕ) (name : Name) (link : Link)
      → IsPlaceOf holding path directory name (Some link)
      → create tree object path ≡ Err Exists
  create-exists object path directory name link place =
      create_judged object path place.dir name (Err Exists) place.is_path
      (judged_place (length tree) path directory name (Some link) place)

  pub judged-free : (path : Path) (directory : ℕ) (name : Name)
      (place : IsPlaceOf holding path directory name None)
      → length tree ≤ 524277
      → judge_create inodes (length tree) place.dir name ≡ Ok directory
  judged-free path directory name place few =
      judged_place (length tree) path directory name None place
      ∙ ap (λ (b : Bool). refuse_if b TooBig (Ok directory)) (le-ltb path_limit (length tree) few)

  full_of : (names : ℕ) → length tree ≡ names + 1 → IsFullOf names holding → path_limit < length tree
  full_of names count (inl many) = omega (arith, many, count)
  full_of names count (inr used) =
      full_volumes_are_too_big inodes tree means
      (λ i low high. mapped (holding i) (used i low (omega (arith, high))))
    where
      mapped : (held : Option Held) → IsSome held → is_some (option_map inode_content held) ≡ true
      mapped (Some held) some = refl
      mapped None some = absurd cc

  create-full : (object : Object) (path : Path) (directory : ℕ) (name : Name) (names : ℕ)
      → IsPlaceOf holding path directory name None
      → length tree ≡ names + 1 → IsFullOf names holding → create tree object path ≡ Err TooBig
  create-full object path directory name names place count full =
      create_judged object path place.dir name (Err TooBig) place.is_path
      (judged_place (length tree) path directory name None place
      ∙ ap (λ (b : Bool). refuse_if b TooBig (Ok directory))
      (lt-ltb path_limit (length tree) (full_of names count full)))

  -- what the current tree refuses to make
  pub create-not_made : (object : Object) (path : Path) (directory : ℕ) (name : Name) (names : ℕ) (e : VolError)
      → IsPlaceOf holding path directory name None
      → length tree ≡ names + 1 → IsCreateRefused names holding e → (e ≡ Memory → ⊥)
      → create tree object path ≡ Err e
  create-not_made object path directory name names e place count (inl memory) other = absurd (other memory)
  create-not_made object path directory name names e place count (inr full) other =
      create-full object path directory name names place count full.1
      ∙ ap (λ (x : VolError). Err x) (sym full.0)

  -- ---- unlink

  unlink_found : (path : Path) (found : Result Link VolError) → resolve inodes path ≡ found
      → unlink tree path
      ≡ and_then (and_then found (bytes_in inodes)) (λ bytes. Ok (answer.Done, remove tree path))
  unlink_found path found e =
      ap (λ (r : Result (List ℕ) VolError).
      and_then {B = Answer × Tree} r (λ bytes. Ok (answer.Done, remove tree path)))
      (files_are_judged inodes tree means path
      ∙ ap (λ (r : Result Link VolError). and_then r (bytes_in inodes)) e)

  pub unlink-root : unlink tree [] ≡ Err IsDir
  unlink-root = unlink_found [] (Ok (2, kind.Directory)) refl

  pub unlink-refused : (path : Path) (e : VolError) → IsPlaceRefused holding path e → unlink tree path ≡ Err e
  unlink-refused path e refusal = unlink_found path (Err e) (resolve-refused path e refusal)

  pub unlink-absent : (path : Path) (directory : ℕ) (name : Name) → IsPlaceOf holding path directory name None
      → unlink tree path ≡ Err NotFound
  unlink-absent path directory name place =
      unlink_found path (Err NotFound) (resolve-place path directory name None place)

  pub unlink-directory : (path : Path) (directory : ℕ) (name : Name) (i : ℕ)
      → IsPlaceOf holding path directory name (Some (i, kind.Directory)) → unlink tree path ≡ Err IsDir
  unlink-directory path directory name i place =
      unlink_found path (Ok (i, kind.Directory))
      (resolve-place path directory name (Some (i, kind.Directory)) place)

  -- ---- rmdir

  pub rmdir-root : rmdir tree [] ≡ Err BadPath
  rmdir-root = refl

  module _ (sound : IsHolding holding) where
    -- what is asked of the directory itself
    abbrev bare : Link → Result (Unit {0}) VolError
    bare at = and_then (as_dir at) (λ _. refuse_if (has_any (listing_of holding) at.0) NotEmpty (Ok tt))

    abbrev removes : Path → Result (Unit {0}) VolError → Result (Answer × Tree) VolError
    removes path judged = and_then judged (λ _. Ok (answer.Done, remove tree path))

    rmdir_found : (path dir : Path) (name : Name) (found : Result Link VolError) → path ≡ dir ++ name ∷ []
        → resolve inodes path ≡ found
        → rmdir tree path ≡ removes path (and_then found bare)
    rmdir_found path dir name found is e =
        rmdirs_are_judged inodes tree (listing_of holding) means (listing_of-IsListing holding sound) path
        ∙ (ap (λ (b : Bool). removes path (refuse_if b BadPath (and_then (resolve inodes path) bare)))
        (ap is_root is ∙ is_root-child dir name)
        ∙ ap (λ (r : Result Link VolError). removes path (and_then r bare)) e)

    pub rmdir-refused : (path : Path) (e : VolError) → IsPlaceRefused holding path e → rmdir tree path ≡ Err e
    rmdir-refused path e refusal =
        rmdir_found path refusal.dir refusal.name (Err e) refusal.is_path (resolve-refused path e refusal)

    pub rmdir-absent : (path : Path) (directory : ℕ) (name : Name)
        → IsPlaceOf holding path directory name None → rmdir tree path ≡ Err NotFound
    rmdir-absent path directory name place =
        rmdir_found path place.dir name (Err NotFound) place.is_path
        (resolve-place path directory name None place)

    pub rmdir-file : (path : Path) (directory : ℕ) (name : Name) (i : ℕ)
        → IsPlaceOf holding path directory name (Some (i, kind.File)) → rmdir tree path ≡ Err NotDir
    rmdir-file path directory name i place =
        rmdir_found path place.dir name (Ok (i, kind.File)) place.is_path
        (resolve-place path directory name (Some (i, kind.File)) place)

    pub rmdir-not_empty : (path : Path) (directory : ℕ) (name : Name) (i : ℕ)
        → IsPlaceOf holding path directory name (Some (i, kind.Directory)) → 0 < held_count (holding i)
        → rmdir tree path ≡ Err NotEmpty
    rmdir-not_empty path directory name i place some =
        rmdir_found path place.dir name (Ok (i, kind.Directory)) place.is_path
        (resolve-place path directory name (Some (i, kind.Directory)) place)
        ∙ ap (λ (b : Bool). removes path (refuse_if b NotEmpty (Ok tt))) (has_some i some)
      where
        has_some : (i : ℕ) → 0 < held_count (holding i) → has_any (listing_of holding) i ≡ true
        has_some i some =
            lt-ltb 0 (length (listing_of holding i)) (omega (arith, some, held_count-listing (holding i)))

pub has_none : (holding : Holding) (i : ℕ) → held_count (holding i) ≤ 0
    → has_any (listing_of holding) i ≡ false
has_none holding i none =
    le-ltb 0 (length (listing_of holding i)) (omega (arith, none, held_count-listing (holding i)))
