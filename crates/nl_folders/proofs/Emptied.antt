-- Trees in which known files count as empty.
use Rattle.std.proofs.Common.{◌≡◌, ◌⊎◌, ℕ, ◌≤◌, Bool, true, false, cond, ◌&&◌, List, [], ◌∷◌, ◌++◌, map, length, Option, Some, None, Ok, Result, refl, sym, ap, ◌∙◌, is_some, true≢false, arith, inl, inr}
use Rattle.std.specs.List.{cons_option}
use Rattle.std.specs.Option.{option_map}
use Rattle.std.specs.declared.cmp.Ordering.TheVariants.{Less, Equal, Greater}
use Rattle.std.specs.Ordering.{is_lt}
use Rattle.std.specs.FinMap.{is_sorted}
use Rattle.std.specs.FinMap.Entries.{below_all, by_order}
use Rattle.std.proofs.lemmas.Bool.{and_parts}
use Rattle.std.proofs.lemmas.Option.{same_Some}
use Rattle.nl_types.specs.declared.error.VolError.{VolError}
use Rattle.nl_types.specs.declared.kind.Kind.{Kind}
use Rattle.nl_types.specs.declared.reply.Named.{Named}
use Rattle.nl_types.specs.declared.reply.Object.{Object}
use Rattle.nl_types.specs.declared.reply.Object.TheVariants.{Dir, File}
use Rattle.nl_types.specs.Plain.Limits.{file_limit}
use Rattle.nl_types.specs.Plain.Paths.{Name, Path, path_cmp, same_path}
use Rattle.nl_types.specs.Plain.Trees.{Tree, IsTree, lookup, children, name_below, object_kind}
use Rattle.nl_types.specs.Plain.Calls.{and_then, file_at, list, named}
use Rattle.nl_types.specs.Facts.Lookups.{same_path-itself}
use Rattle.nl_types.specs.Facts.TreeLaws.{paths_equal, same_path-equal}
use Rattle.nl_folders.proofs.DoneCalls.{dir_there, file_there, list_there}
use Rattle.nl_folders.proofs.EntryParts.{mapped_some}
use Rattle.nl_folders.proofs.PlanLaws.{same_everywhere}
use Rattle.nl_folders.proofs.SortedTrees.{apart_above, less_is}
use Rattle.nl_folders.proofs.Walks.{listed_is, read_is}
use Rattle.nl_folders.specs.declared.differences.Difference.{Difference}
use Rattle.nl_folders.specs.declared.differences.Difference.TheVariants.{Added, Removed}
use Rattle.nl_folders.specs.declared.folder.FolderError.{FolderError}
use Rattle.nl_folders.specs.Differences.{Differences, all_added, beside, difference_of, differences, told}
use Rattle.nl_folders.specs.Passing.{AreFiles, AreSameFiles, DifferencesPassOver, emptied, passed_object, without_bytes}
use Rattle.nl_folders.specs.Refusals.{RefusesTree}

-- ---- look-ups

pub lookup-emptied : (known : Path → Bool) (tree : Tree) (q : Path)
    → lookup (emptied known tree) q ≡ option_map (passed_object (known q)) (lookup tree q)
lookup-emptied known [] q = refl
lookup-emptied known (e ∷ tree) q =
    elim (same_path q e.0) as (λ b. same_path q e.0 ≡ b
    → cond b (Some (passed_object (known e.0) e.1)) (lookup (emptied known tree) q)
    ≡ option_map (passed_object (known q)) (cond b (Some e.1) (lookup tree q))) [
      | true ↦ λ same. ap (λ (p : Path). Some (passed_object (known p) e.1)) (sym (same_path-equal q e.0 same))
      | false ↦ λ _. lookup-emptied known tree q
    ] refl

there-emptied : (known : Path → Bool) (tree : Tree) (q : Path)
    → is_some (lookup (emptied known tree) q) ≡ is_some (lookup tree q)
there-emptied known tree q =
    ap is_some (lookup-emptied known tree q) ∙ mapped_some (passed_object (known q)) (lookup tree q)

directory_stays : (passes : Bool) → passed_object passes Dir ≡ Dir
directory_stays true = refl
directory_stays false = refl

dir-emptied : (known : Path → Bool) (tree : Tree) (q : Path) → lookup tree q ≡ Some Dir
    → lookup (emptied known tree) q ≡ Some Dir
dir-emptied known tree q is =
    lookup-emptied known tree q
    ∙ ap (option_map (passed_object (known q))) is
    ∙ ap (λ (n : Object). Some n) (directory_stays (known q))

file-emptied : (known : Path → Bool) (tree : Tree) (q : Path) (bytes : List ℕ) → lookup tree q ≡ Some (File bytes)
    → lookup (emptied known tree) q ≡ Some (passed_object (known q) (File bytes))
file-emptied known tree q bytes is =
    lookup-emptied known tree q ∙ ap (option_map (passed_object (known q))) is

-- ---- a tree

below-emptied : (known : Path → Bool) (p : Path) (tree : Tree)
    → below_all path_cmp p (emptied known tree) ≡ below_all path_cmp p tree
below-emptied known p [] = refl
below-emptied known p (e ∷ tree) = ap (λ b. is_lt (path_cmp p e.0) && b) (below-emptied known p tree)

sorted-emptied : (known : Path → Bool) (tree : Tree)
    → is_sorted path_cmp (emptied known tree) ≡ is_sorted path_cmp tree
sorted-emptied known [] = refl
sorted-emptied known (e ∷ tree) =
    ap (λ b. b && is_sorted path_cmp (emptied known tree)) (below-emptied known e.0 tree)
    ∙ ap (λ b. below_all path_cmp e.0 tree && b) (sorted-emptied known tree)

length-emptied : (known : Path → Bool) (tree : Tree) → length (emptied known tree) ≡ length tree
length-emptied known [] = refl
length-emptied known (e ∷ tree) = let rest = length-emptied known tree in omega arith

no_longer_file : (known : Path → Bool) (tree : Tree) (q : Path) (bytes : List ℕ) → IsTree tree → (passes : Bool)
    (o : Option Object) → lookup tree q ≡ o → option_map (passed_object passes) o ≡ Some (File bytes)
    → length bytes ≤ file_limit
no_longer_file known tree q bytes t passes None there is = cc
no_longer_file known tree q bytes t true (Some Dir) there is = cc
no_longer_file known tree q bytes t false (Some Dir) there is = cc
no_longer_file known tree q bytes t true (Some (File old)) there is =
    let none : [] ≡ bytes = cc in omega (arith, ap length none)
no_longer_file known tree q bytes t false (Some (File old)) there is =
    t.sizes q bytes (there ∙ is)

pub IsTree-emptied : (known : Path → Bool) (tree : Tree) → IsTree tree → IsTree (emptied known tree)
IsTree-emptied known tree t = record {
  ordered = sorted-emptied known tree ∙ t.ordered;
  root = dir-emptied known tree [] t.root;
  parents = λ path name there.
      dir-emptied known tree path
      (t.parents path name (sym (there-emptied known tree (path ++ name ∷ [])) ∙ there));
  names = λ path there. t.names path (sym (there-emptied known tree path) ∙ there);
  sizes = λ path bytes is.
      no_longer_file known tree path bytes t (known path) (lookup tree path) refl
      (sym (lookup-emptied known tree path) ∙ is);
  count = omega (arith, length-emptied known tree, t.count);
}

-- ---- what is read

kind_stays : (passes : Bool) (object : Object) → object_kind (passed_object passes object) ≡ object_kind object
kind_stays true Dir = refl
kind_stays true (File bytes) = refl
kind_stays false object = refl

children-emptied : (known : Path → Bool) (tree : Tree) (dir : Path)
    → children (emptied known tree) dir ≡ children tree dir
children-emptied known [] dir = refl
children-emptied known (e ∷ tree) dir =
    ap (λ (k : Kind). cons_option (option_map {U = Name × Kind} (λ name. (name, k)) (name_below dir e.0))
    (children (emptied known tree) dir)) (kind_stays (known e.0) e.1)
    ∙ ap (cons_option (option_map {U = Name × Kind} (λ name. (name, object_kind e.1)) (name_below dir e.0)))
    (children-emptied known tree dir)

-- directories have the same names
pub list-emptied : (known : Path → Bool) (tree : Tree) (dir : Path) (names : List Named) → IsTree tree
    → list tree dir ≡ Ok names → list (emptied known tree) dir ≡ Ok names
list-emptied known tree dir names t is =
    let there = listed_is tree dir names is in
    ap (λ (r : Result (Unit {0}) VolError).
    and_then r (λ _. Ok (map named (children (emptied known tree) dir))))
    (dir_there (emptied known tree) dir (IsTree-emptied known tree t) (dir-emptied known tree dir there.0))
    ∙ ap (λ (cs : List (Name × Kind)). Ok (map named cs)) (children-emptied known tree dir)
    ∙ ap (λ (ns : List Named). Ok ns) (sym there.1)

-- a file that isn't passed over has its bytes
pub read-emptied : (known : Path → Bool) (tree : Tree) (path : Path) (bytes : List ℕ) → IsTree tree
    → known path ≡ false → file_at tree path ≡ Ok bytes → file_at (emptied known tree) path ≡ Ok bytes
read-emptied known tree path bytes t reads is =
    file_there (emptied known tree) path bytes (IsTree-emptied known tree t)
    (file-emptied known tree path bytes (read_is tree path bytes is)
    ∙ ap (λ b. Some (passed_object b (File bytes))) reads)

-- and one that is has none
pub passed-emptied : (known : Path → Bool) (tree : Tree) (path : Path) → IsTree tree → AreFiles known tree
    → known path ≡ true → file_at (emptied known tree) path ≡ Ok []
passed-emptied known tree path t files passes =
    let file = files path passes in
    file_there (emptied known tree) path [] (IsTree-emptied known tree t)
    (file-emptied known tree path file.0 file.1 ∙ ap (λ b. Some (passed_object b (File file.0))) passes)

-- what it answers at a path the tree answers too, by the same names, or by bytes
pub listed_in : (known : Path → Bool) (tree : Tree) (q : Path) (names : List Named) → IsTree tree
    → list (emptied known tree) q ≡ Ok names → (same : List Named) × (list tree q ≡ Ok same)
listed_in known tree q names t is =
    by (known q) (lookup tree q) refl
    (sym (lookup-emptied known tree q) ∙ (listed_is (emptied known tree) q names is).0)
  where
    by : (b : Bool) (o : Option Object) → lookup tree q ≡ o → option_map (passed_object b) o ≡ Some Dir
        → (same : List Named) × (list tree q ≡ Ok same)
    by b None there at = cc
    by b (Some Dir) there at = (map named (children tree q), list_there tree q t there)
    by true (Some (File bytes)) there at = cc
    by false (Some (File bytes)) there at = cc

pub read_in : (known : Path → Bool) (tree : Tree) (q : Path) (bytes : List ℕ) → IsTree tree
    → file_at (emptied known tree) q ≡ Ok bytes → (old : List ℕ) × (file_at tree q ≡ Ok old)
read_in known tree q bytes t is =
    by (known q) (lookup tree q) refl
    (sym (lookup-emptied known tree q) ∙ read_is (emptied known tree) q bytes is)
  where
    by : (b : Bool) (o : Option Object) → lookup tree q ≡ o → option_map (passed_object b) o ≡ Some (File bytes)
        → (old : List ℕ) × (file_at tree q ≡ Ok old)
    by b None there at = cc
    by true (Some Dir) there at = cc
    by false (Some Dir) there at = cc
    by b (Some (File old)) there at = (old, file_there tree q old t there)

-- where it isn't read, nor is the tree
pub refused_emptied : (known : Path → Bool) (tree : Tree) (e : FolderError) → RefusesTree (emptied known tree) e
    → RefusesTree tree e
refused_emptied known tree e (inl memory) = inl memory
refused_emptied known tree e (inr long) =
    inr (long.0, (long.1.0, sym (there-emptied known tree long.1.0) ∙ long.1.1, long.1.2))

-- ---- differences

none_of : {A : Type 0} (o : Option A) → is_some o ≡ false → o ≡ None
none_of None is = refl
none_of (Some x) is = absurd (true≢false is)

same_none : (o : Option Object) → difference_of o o ≡ None
same_none o = none_of (difference_of o o) (same_everywhere o)

same_difference : (passes : Bool) (n m : Object) → (passes ≡ true → n ≡ m)
    → difference_of (Some (passed_object passes n)) (Some (passed_object passes m)) ≡ difference_of (Some n) (Some m)
same_difference false n m same = refl
same_difference true n m same =
    ap (λ (x : Object). difference_of (Some (without_bytes n)) (Some (without_bytes x))) (sym (same refl))
    ∙ same_none (Some (without_bytes n))
    ∙ sym (same_none (Some n))
    ∙ ap (λ (x : Object). difference_of (Some n) (Some x)) (same refl)

-- an entry of a tree
abbrev IsEntry : Path × Object → Tree → Type 0
IsEntry x [] = ⊥
IsEntry x (e ∷ tree) = (x ≡ e) ⊎ IsEntry x tree

entry_below : (p : Path) (x : Path × Object) (tree : Tree) → below_all path_cmp p tree ≡ true → IsEntry x tree
    → path_cmp p x.0 ≡ Less
entry_below p x [] below among = absurd among
entry_below p x (e ∷ tree) below (inl is) =
    let parts = and_parts (is_lt (path_cmp p e.0)) (below_all path_cmp p tree) below in
    ap (λ (y : Path × Object). path_cmp p y.0) is ∙ less_is (path_cmp p e.0) parts.0
entry_below p x (e ∷ tree) below (inr among) =
    entry_below p x tree (and_parts (is_lt (path_cmp p e.0)) (below_all path_cmp p tree) below).1 among

found_entry : (x : Path × Object) (tree : Tree) → is_sorted path_cmp tree ≡ true → IsEntry x tree
    → lookup tree x.0 ≡ Some x.1
found_entry x [] sorted among = absurd among
found_entry x (e ∷ tree) sorted (inl is) =
    ap (λ (y : Path × Object). lookup (e ∷ tree) y.0) is
    ∙ ap (λ b. cond b (Some e.1) (lookup tree e.0)) (same_path-itself e.0)
    ∙ ap (λ (y : Path × Object). Some y.1) (sym is)
found_entry x (e ∷ tree) sorted (inr among) =
    let parts = and_parts (below_all path_cmp e.0 tree) (is_sorted path_cmp tree) sorted in
    ap (λ b. cond b (Some e.1) (lookup tree x.0)) (apart_above e.0 x.0 (entry_below e.0 x tree parts.0 among))
    ∙ found_entry x tree parts.1 among

-- entries of both trees at one path that is known have the same object
abbrev HaveSame : (Path → Bool) → Tree → Tree → Type 0
HaveSame known old new =
    (x y : Path × Object) → IsEntry x old → IsEntry y new → x.0 ≡ y.0 → known x.0 ≡ true → x.1 ≡ y.1

have_same : (old new : Tree) (known : Path → Bool) → is_sorted path_cmp old ≡ true
    → is_sorted path_cmp new ≡ true → AreSameFiles known old new → HaveSame known old new
have_same old new known s t same x y in_old in_new at passes =
    let file = same x.0 passes in
    same_Some x.1 (File file.0) (sym (found_entry x old s in_old) ∙ file.1)
    ∙ sym (same_Some y.1 (File file.0)
    (sym (found_entry y new t in_new) ∙ ap (lookup new) (sym at) ∙ file.2))

added-emptied : (known : Path → Bool) (new : Tree) → all_added (emptied known new) ≡ all_added new
added-emptied known [] = refl
added-emptied known (f ∷ new) = ap (λ (d : Differences). (f.0, Added) ∷ d) (added-emptied known new)

module _ (known : Path → Bool) (e : Path × Object) (old : Tree)
    (rest : (new : Tree) → HaveSame known old new
    → differences (emptied known old) (emptied known new) ≡ differences old new) where
  beside-emptied : (new : Tree) → HaveSame known (e ∷ old) new
      → beside (e.0, passed_object (known e.0) e.1) (differences (emptied known old)) (emptied known new)
      ≡ beside e (differences old) new
  beside-emptied [] same =
      ap (λ (d : Differences). (e.0, Removed) ∷ d) (rest [] (λ x y in_old in_new. absurd in_new))
  beside-emptied (f ∷ new) same =
      elim (path_cmp e.0 f.0) as (λ o. path_cmp e.0 f.0 ≡ o
      → by_order o ((e.0, Removed) ∷ differences (emptied known old) (emptied known (f ∷ new)))
      (told e.0 (difference_of (Some (passed_object (known e.0) e.1)) (Some (passed_object (known f.0) f.1)))
      ++ differences (emptied known old) (emptied known new))
      ((f.0, Added) ∷ beside (e.0, passed_object (known e.0) e.1) (differences (emptied known old)) (emptied known new))
      ≡ by_order o ((e.0, Removed) ∷ differences old (f ∷ new))
      (told e.0 (difference_of (Some e.1) (Some f.1)) ++ differences old new)
      ((f.0, Added) ∷ beside e (differences old) new)) [
        | Less ↦ λ _.
            ap (λ (d : Differences). (e.0, Removed) ∷ d)
            (rest (f ∷ new) (λ x y in_old in_new. same x y (inr in_old) in_new))
        | Equal ↦ λ tied.
            let keys : e.0 ≡ f.0 = paths_equal e.0 f.0 tied in
            let behind = differences (emptied known old) (emptied known new) in
            ap (λ (p : Path). told e.0 (difference_of (Some (passed_object (known e.0) e.1))
            (Some (passed_object (known p) f.1))) ++ behind) (sym keys)
            ∙ ap (λ (d : Option Difference). told e.0 d ++ behind)
            (same_difference (known e.0) e.1 f.1 (same e f (inl refl) (inl refl) keys))
            ∙ ap (λ (ds : Differences). told e.0 (difference_of (Some e.1) (Some f.1)) ++ ds)
            (rest new (λ x y in_old in_new. same x y (inr in_old) (inr in_new)))
        | Greater ↦ λ _.
            ap (λ (d : Differences). (f.0, Added) ∷ d)
            (beside-emptied new (λ x y in_old in_new. same x y in_old (inr in_new)))
      ] refl

differences-emptied : (known : Path → Bool) (old new : Tree) → HaveSame known old new
    → differences (emptied known old) (emptied known new) ≡ differences old new
differences-emptied known [] new same = added-emptied known new
differences-emptied known (e ∷ old) new same =
    beside-emptied known e old (λ n s. differences-emptied known old n s) new same

pub pass_over : DifferencesPassOver
pass_over old new known s t same = differences-emptied known old new (have_same old new known s t same)

-- both trees as they are read
pub old_files : (known : Path → Bool) (old new : Tree) → AreSameFiles known old new → AreFiles known old
old_files known old new same q passes = let file = same q passes in (file.0, file.1)

pub new_files : (known : Path → Bool) (old new : Tree) → AreSameFiles known old new → AreFiles known new
new_files known old new same q passes = let file = same q passes in (file.0, file.2)
