-- A walk through a tree comes to all of it, and to nothing else, in order.
use Rattle.std.proofs.Common.{◌≡◌, ℕ, ◌+◌, ◌<◌, ◌≤◌, true, false, cond, List, [], ◌∷◌, ◌++◌, map, length, Option, Some, None, Result, Ok, Err, refl, sym, ap, ◌∙◌, subst, true≢false, arith, is_some, append_assoc, append-nil, inl, inr, length-append}
use Rattle.std.specs.Prelude.{IfOk}
use Rattle.std.specs.List.{filter}
use Rattle.std.specs.Option.{option_map}
use Rattle.std.specs.Ordering.{is_eq, is_lt}
use Rattle.std.specs.FinMap.{find, is_sorted}
use Rattle.std.specs.FinMap.Entries.{below_all}
use Rattle.std.proofs.lemmas.Bool.{and_from, and_parts}
use Rattle.nl_types.specs.declared.error.VolError.{VolError}
use Rattle.nl_types.specs.declared.kind.Kind.{Kind}
use Rattle.nl_types.specs.declared.kind.Kind.TheVariants.{Directory}
use Rattle.nl_types.specs.declared.kind.Kind.TheVariants as kind
use Rattle.nl_types.specs.declared.reply.Named.{Named}
use Rattle.nl_types.specs.declared.reply.Object.{Object}
use Rattle.nl_types.specs.declared.reply.Object.TheVariants.{Dir, File}
use Rattle.nl_types.specs.Plain.Paths.{Name, Path, name_cmp, path_cmp, same_name, is_within}
use Rattle.nl_types.specs.Plain.Trees.{Tree, IsTree, lookup, children, object_kind}
use Rattle.nl_types.specs.Plain.Calls.{and_then, dir_at, file_at, list, named}
use Rattle.nl_types.specs.Facts.Booleans.{holds, is_true, not_true}
use Rattle.nl_types.specs.Facts.Children.{children-sorted, find-children}
use Rattle.nl_types.specs.Facts.Judgements.{file_at_is, dir_at_is}
use Rattle.nl_types.specs.Facts.Lookups.{same_name-equal, same_name-itself}
use Rattle.nl_folders.proofs.DoneCalls.{file_there, list_there}
use Rattle.nl_folders.proofs.SortedTrees.{less_is}
use Rattle.nl_folders.proofs.WalkParts.{all_pass, directory_part, file_part, is_below, part_begins, parts_of}
use Rattle.nl_folders.specs.declared.folder.FolderError.{FolderError}
use Rattle.nl_folders.specs.declared.folder.Pending.{Pending}
use Rattle.nl_folders.specs.Differences.{rising}
use Rattle.nl_folders.specs.Refusals.{RefusesPath, RefusesTree}
use Rattle.nl_folders.specs.Walks.{IsVisit, IsWalk, StandIn, StandsIn, ahead, part_at, pended, stacked}

-- ---- what is read

-- a directory that is listed is there, and its names are those of the tree
pub listed_is : (tree : Tree) (dir : Path) (names : List Named) → list tree dir ≡ Ok names
    → (lookup tree dir ≡ Some Dir) × (names ≡ map named (children tree dir))
listed_is tree dir names = by (dir_at tree dir) (dir_at_is tree dir)
  where
    by : (r : Result (Unit {0}) VolError) → IfOk r (λ _. lookup tree dir ≡ Some Dir)
        → and_then r (λ _. Ok (map named (children tree dir))) ≡ Ok names
        → (lookup tree dir ≡ Some Dir) × (names ≡ map named (children tree dir))
    by (Ok u) there is = (there, cc)
    by (Err e) there is = cc

pub read_is : (tree : Tree) (path : Path) (bytes : List ℕ) → file_at tree path ≡ Ok bytes
    → lookup tree path ≡ Some (File bytes)
read_is tree path bytes is = by (file_at tree path) (file_at_is tree path) is
  where
    by : (r : Result (List ℕ) VolError) → IfOk r (λ b. lookup tree path ≡ Some (File b)) → r ≡ Ok bytes
        → lookup tree path ≡ Some (File bytes)
    by (Ok b) there is = let same : b ≡ bytes = cc in there ∙ ap (λ (x : List ℕ). Some (File x)) same
    by (Err e) there is = cc

-- ---- what is ahead

ahead-append : (tree : Tree) (a b : List Pending) → ahead tree (a ++ b) ≡ ahead tree b ++ ahead tree a
ahead-append tree [] b = sym (append-nil (ahead tree b))
ahead-append tree (p ∷ a) b =
    ap (λ (t : Tree). t ++ part_at tree p.path) (ahead-append tree a b)
    ∙ append_assoc (ahead tree b) (ahead tree a) (part_at tree p.path)

ahead-stacked : (tree : Tree) (dir : Path) (names : List (Name × Kind))
    → ahead tree (stacked dir (map named names)) ≡ parts_of tree dir names
ahead-stacked tree dir [] = refl
ahead-stacked tree dir (n ∷ names) =
    ahead-append tree (stacked dir (map named names)) (pended dir (named n) ∷ [])
    ∙ ap (λ (t : Tree). part_at tree (dir ++ n.0 ∷ []) ++ t) (ahead-stacked tree dir names)

-- ---- what stands in the tree

stand_both : (tree : Tree) (a b : List Pending) → StandIn tree a → StandIn tree b → StandIn tree (a ++ b)
stand_both tree [] b first second = second
stand_both tree (p ∷ a) b first second = (first.0, stand_both tree a b first.1 second)

stand_parts : (tree : Tree) (a b : List Pending) → StandIn tree (a ++ b) → StandIn tree a × StandIn tree b
stand_parts tree [] b both = (tt, both)
stand_parts tree (p ∷ a) b both =
    let rest = stand_parts tree a b both.1 in
    ((both.0, rest.0), rest.1)

-- a name that is found behind another one isn't that
other_name : (n k : Name) (names : List (Name × Kind)) → below_all name_cmp n names ≡ true
    → is_some (find name_cmp k names) ≡ true → same_name k n ≡ false
other_name n k names below there = not_true (same_name k n) (λ same. apart names below
    (subst (λ m. is_some (find name_cmp m names) ≡ true) (same_name-equal k n same) there))
  where
    apart : (names : List (Name × Kind)) → below_all name_cmp n names ≡ true
        → is_some (find name_cmp n names) ≡ true → ⊥
    apart [] below there = true≢false (sym there)
    apart (m ∷ names) below there =
        let parts = and_parts (is_lt (name_cmp n m.0)) (below_all name_cmp n names) below in
        apart names parts.1
        (subst (λ o. is_some (cond (is_eq o) (Some m.1) (find name_cmp n names)) ≡ true)
        (less_is (name_cmp n m.0) parts.0) there)

-- the names of a directory stand in it
names_stand : (tree : Tree) (dir : Path) (names : List (Name × Kind)) → is_sorted name_cmp names ≡ true
    → ((n : Name) (k : Kind) → find name_cmp n names ≡ Some k
    → option_map object_kind (lookup tree (dir ++ n ∷ [])) ≡ Some k)
    → StandIn tree (stacked dir (map named names))
names_stand tree dir [] rise found = tt
names_stand tree dir (n ∷ names) rise found =
    let parts = and_parts (below_all name_cmp n.0 names) (is_sorted name_cmp names) rise in
    stand_both tree (stacked dir (map named names)) (pended dir (named n) ∷ [])
    (names_stand tree dir names parts.1 (λ k kind is.
    found k kind
    (ap (λ b. cond b (Some n.1) (find name_cmp k names)) (other_name n.0 k names parts.0 (ap is_some is)) ∙ is)))
    (found n.0 n.1 (ap (λ b. cond b (Some n.1) (find name_cmp n.0 names)) (same_name-itself n.0)), tt)

-- a directory that stands there answers its names, and a file its bytes
pub directory_answers : (tree : Tree) (p : Pending) → IsTree tree → p.kind ≡ Directory → StandsIn tree p
    → (names : List Named) × (list tree p.path ≡ Ok names)
directory_answers tree p t is stands = by (lookup tree p.path) refl (stands ∙ ap Some is)
  where
    by : (o : Option Object) → lookup tree p.path ≡ o → option_map object_kind o ≡ Some Directory
        → (names : List Named) × (list tree p.path ≡ Ok names)
    by None there at = cc
    by (Some Dir) there at = (map named (children tree p.path), list_there tree p.path t there)
    by (Some (File bytes)) there at = cc

pub file_answers : (tree : Tree) (p : Pending) → IsTree tree → p.kind ≡ kind.File → StandsIn tree p
    → (bytes : List ℕ) × (file_at tree p.path ≡ Ok bytes)
file_answers tree p t is stands = by (lookup tree p.path) refl (stands ∙ ap Some is)
  where
    by : (o : Option Object) → lookup tree p.path ≡ o → option_map object_kind o ≡ Some kind.File
        → (bytes : List ℕ) × (file_at tree p.path ≡ Ok bytes)
    by None there at = cc
    by (Some Dir) there at = cc
    by (Some (File bytes)) there at = (bytes, file_there tree p.path bytes t there)

something_stands : (tree : Tree) (p : Pending) → StandsIn tree p
    → (object : Object) × (lookup tree p.path ≡ Some object)
something_stands tree p stands = by (lookup tree p.path) stands
  where
    by : (o : Option Object) → option_map object_kind o ≡ Some p.kind → (object : Object) × (o ≡ Some object)
    by None at = cc
    by (Some object) at = (object, refl)

-- ---- steps

-- the top of the stack is visited, and what its part has behind it is put there
goes_on : (tree done : Tree) (stack more : List Pending) (next : Pending) (object : Object)
    → part_at tree next.path ≡ (next.path, object) ∷ ahead tree more → StandIn tree more
    → IsWalk tree done (stack ++ next ∷ []) → IsWalk tree (done ++ (next.path, object) ∷ []) (stack ++ more)
goes_on tree done stack more next object part stand w = record {
  parts =
      append_assoc done ((next.path, object) ∷ []) (ahead tree (stack ++ more))
      ∙ ap (λ (t : Tree). done ++ (next.path, object) ∷ t) (ahead-append tree stack more)
      ∙ ap (λ (t : Tree). done ++ (t ++ ahead tree stack)) (sym part)
      ∙ sym (ap (λ (t : Tree). done ++ t) (ahead-append tree stack (next ∷ [])))
      ∙ w.parts;
  stand = stand_both tree stack more (stand_parts tree stack (next ∷ []) w.stand).0 stand;
}

listed_step : (tree done : Tree) (stack : List Pending) (next : Pending) (names : List Named)
    → IsTree tree → IsWalk tree done (stack ++ next ∷ []) → list tree next.path ≡ Ok names
    → IsWalk tree (done ++ (next.path, Dir) ∷ []) (stack ++ stacked next.path names)
listed_step tree done stack next names t w is =
    let dir = next.path in
    let there = listed_is tree dir names is in
    let found = children tree dir in
    subst (λ (ns : List Named). IsWalk tree (done ++ (dir, Dir) ∷ []) (stack ++ stacked dir ns)) (sym there.1)
    (goes_on tree done stack (stacked dir (map named found)) next Dir
    (directory_part tree dir t there.0
    ∙ ap (λ (rest : Tree). (dir, Dir) ∷ rest) (sym (ahead-stacked tree dir found)))
    (names_stand tree dir found (is_true _ (children-sorted tree dir (holds _ t.ordered)))
    (λ n k at. sym (find-children tree dir n) ∙ at)) w)

read_step : (tree done : Tree) (stack : List Pending) (next : Pending) (bytes : List ℕ)
    → IsTree tree → IsWalk tree done (stack ++ next ∷ []) → file_at tree next.path ≡ Ok bytes
    → IsWalk tree (done ++ (next.path, File bytes) ∷ []) stack
read_step tree done stack next bytes t w is =
    subst (λ (s : List Pending). IsWalk tree (done ++ (next.path, File bytes) ∷ []) s) (append-nil stack)
    (goes_on tree done stack [] next (File bytes)
    (file_part tree next.path bytes t (read_is tree next.path bytes is)) tt w)

-- a visit of what is on top of the stack goes on with the walk
pub visited : (tree done : Tree) (old rest new : List Pending) (next : Pending) (object : Object)
    → IsTree tree → IsWalk tree done old → old ≡ rest ++ next ∷ [] → IsVisit tree next rest new object
    → IsWalk tree (done ++ (next.path, object) ∷ []) new
visited tree done old rest new next Dir t w top visit =
    subst (λ s. IsWalk tree (done ++ (next.path, Dir) ∷ []) s) (sym visit.2)
    (listed_step tree done rest next visit.0 t (subst (λ s. IsWalk tree done s) top w) visit.1)
visited tree done old rest new next (File bytes) t w top visit =
    subst (λ s. IsWalk tree (done ++ (next.path, File bytes) ∷ []) s) (sym visit.1)
    (read_step tree done rest next bytes t (subst (λ s. IsWalk tree done s) top w) visit.0)

-- ---- the beginning and the end

pub begun : (tree : Tree) → IsTree tree → IsWalk tree [] (record { path = []; kind = Directory } ∷ [])
begun tree t = record {
  parts = all_pass (is_within []) tree (λ q there. refl);
  stand = (ap (option_map object_kind) t.root, tt);
}

pub walked_all : (tree done : Tree) → IsWalk tree done [] → done ≡ tree
walked_all tree done w = sym (append-nil done) ∙ w.parts

-- ---- refusals

-- what is on top of the stack stands in the tree
pub top_stands : (tree done : Tree) (stack old : List Pending) (next : Pending) → IsWalk tree done old
    → old ≡ stack ++ next ∷ [] → StandsIn tree next
top_stands tree done stack old next w top =
    (stand_parts tree stack (next ∷ []) (subst (StandIn tree) top w.stand)).1.0

-- where it isn't read, nor is the tree
pub top_refused : (tree : Tree) (next : Pending) (e : FolderError) → StandsIn tree next
    → RefusesPath next.path e → RefusesTree tree e
top_refused tree next e stands (inl memory) = inl memory
top_refused tree next e stands (inr long) =
    let found = something_stands tree next stands in
    inr (long.0, (next.path, ap is_some found.1, long.1))

-- where something is pending, not all paths of a tree were visited
pub some_left : (tree done : Tree) (stack old : List Pending) (next : Pending) → IsTree tree
    → IsWalk tree done old → old ≡ stack ++ next ∷ [] → length done < 524278
some_left tree done stack old next t w top =
    let found = something_stands tree next (top_stands tree done stack old next w top) in
    let rest : Tree = filter (λ e. is_below next.path e.0) tree in
    let left : ahead tree old ≡ ((next.path, found.0) ∷ rest) ++ ahead tree stack =
    ap (ahead tree) top ∙ ahead-append tree stack (next ∷ [])
    ∙ ap (λ (p : Tree). p ++ ahead tree stack) (part_begins tree next.path found.0 t.ordered found.1) in
    let all : length done + length (ahead tree old) ≡ length tree =
    sym (length-append done (ahead tree old)) ∙ ap length w.parts in
    omega (arith, all, ap length left, t.count)

-- ---- order

pub sorted_rising : (entries : Tree) → is_sorted path_cmp entries ≡ true → rising entries ≡ true
sorted_rising [] sorted = refl
sorted_rising (e ∷ []) sorted = refl
sorted_rising (e ∷ f ∷ entries) sorted =
    let parts = and_parts (below_all path_cmp e.0 (f ∷ entries)) (is_sorted path_cmp (f ∷ entries)) sorted in
    and_from (is_lt (path_cmp e.0 f.0)) (rising (f ∷ entries))
    (and_parts (is_lt (path_cmp e.0 f.0)) (below_all path_cmp e.0 entries) parts.0).0
    (sorted_rising (f ∷ entries) parts.1)

pub rising_short : (entries : Tree) → length entries ≤ 1 → rising entries ≡ true
rising_short [] few = refl
rising_short (e ∷ []) few = refl
rising_short (e ∷ f ∷ entries) few = absurd (omega arith)
