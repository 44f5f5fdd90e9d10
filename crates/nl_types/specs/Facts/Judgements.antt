-- What a call that is not refused has found.
use Rattle.std.proofs.Common.{◌≡◌, ℕ, ◌≤◌, Bool, true, false, cond, List, [], ◌∷◌, ◌++◌, length, Option, Some, None, Result, Ok, Err, refl, sym, ap, ◌∙◌, subst, true≢false, is_some, append_assoc, append-nil}
use Rattle.std.specs.List.{list_all, slice_split}
use Rattle.std.specs.Prelude.{nat_lt, ◌==◌, ◌&&◌, IfOk}
use Rattle.std.specs.Option.{option_or, ok_or}
use Rattle.nl_types.specs.declared.error.VolError.{VolError}
use Rattle.nl_types.specs.declared.error.VolError.TheVariants as error
use Rattle.nl_types.specs.declared.reply.Object.{Object}
use Rattle.nl_types.specs.declared.reply.Object.TheVariants.{Dir, File}
use Rattle.nl_types.specs.Plain.Limits.{file_limit}
use Rattle.nl_types.specs.Plain.Paths.{Name, Path, path_of, names_of, is_name}
use Rattle.nl_types.specs.Plain.Trees.{Tree, IsTree, lookup, insert}
use Rattle.nl_types.specs.Plain.Calls.{Changed, and_then, refuse_if, ok_unless, stops_walk, stop_from, walk, object_at, file_at, file_in, dir_at, dir_in}
use Rattle.nl_types.specs.Facts.TreeLaws.{IsTree-insert}

-- ---- judgements, one after another

-- what the first judgement gives, the next may build on
pub and_then_holds : {A B : Type 0} (P : A → Type 0) (Q : B → Type 0) (r : Result A VolError)
    (next : A → Result B VolError)
    → IfOk r P → ((a : A) → P a → IfOk (next a) Q) → IfOk (and_then r next) Q
and_then_holds P Q (Ok a) next found rest = rest a found
and_then_holds P Q (Err e) next found rest = tt

-- the next holds whatever the first judgement gives
pub and_then_any : {A B : Type 0} (Q : B → Type 0) (r : Result A VolError) (next : A → Result B VolError)
    → ((a : A) → IfOk (next a) Q) → IfOk (and_then r next) Q
and_then_any Q (Ok a) next rest = rest a
and_then_any Q (Err e) next rest = tt

-- past a refusal its test has failed
pub refuse_if_then : {A : Type 0} (Q : A → Type 0) (test : Bool) (e : VolError) (next : Result A VolError)
    → (test ≡ false → IfOk next Q) → IfOk (refuse_if test e next) Q
refuse_if_then Q true e next rest = tt
refuse_if_then Q false e next rest = rest refl

-- an answer is the value that there is
pub ok_or_is : {A : Type 0} (o : Option A) (e : VolError) → IfOk (ok_or o e) (λ a. o ≡ Some a)
ok_or_is None e = tt
ok_or_is (Some a) e = refl

-- ---- paths

-- each name on a path that bytes spell is one
pub path_of_spells : (bytes : List ℕ) → IfOk (path_of bytes) (λ path. list_all is_name path ≡ true)
path_of_spells [] = tt
path_of_spells (b ∷ bytes) =
    elim (b == 47 && nat_lt (length bytes) 4095) as (λ t.
    IfOk (cond {A = Result Path VolError} t (names_of bytes) (Err error.BadPath))
    (λ path. list_all is_name path ≡ true)) [
      | true ↦ named
      | false ↦ tt
    ]
  where
    names : Path
    names = slice_split (λ c. c == 47) bytes

    named : IfOk (names_of bytes) (λ path. list_all is_name path ≡ true)
    named =
        elim (length bytes == 0) as (λ t.
        IfOk (cond {A = Result Path VolError} t (Ok [])
        (cond (list_all is_name names) (Ok names) (Err error.BadName)))
        (λ path. list_all is_name path ≡ true)) [
          | true ↦ refl
          | false ↦
              elim (list_all is_name names) as (λ t.
              list_all is_name names ≡ t
              → IfOk (cond {A = Result Path VolError} t (Ok names) (Err error.BadName))
              (λ path. list_all is_name path ≡ true)) [
                | true ↦ λ are. are
                | false ↦ λ _. tt
              ] refl
        ]

-- ---- what was found

-- a walk that is not refused was not stopped
pub walk_is : (tree : Tree) (path : Path) → IfOk (walk tree path) (λ _. stop_from tree [] path ≡ None)
walk_is tree path = by (stop_from tree [] path)
  where
    by : (o : Option VolError) → IfOk (ok_unless o) (λ _. o ≡ None)
    by None = refl
    by (Some e) = tt

-- a walk that goes on stands on a directory, and is not stopped later
pub goes_on : (found : Option Object) (later : Option VolError) → option_or (stops_walk found) later ≡ None
    → (found ≡ Some Dir) × (later ≡ None)
goes_on None later is = absurd (true≢false (ap is_some is))
goes_on (Some Dir) later is = (refl, is)
goes_on (Some (File bytes)) later is = absurd (true≢false (ap is_some is))

-- a walk that is not stopped has passed directories alone
pub walked : (tree : Tree) (at names : Path) (name : Name) → stop_from tree at (names ++ name ∷ []) ≡ None
    → lookup tree (at ++ names) ≡ Some Dir
walked tree at [] name is =
    subst (λ p. lookup tree p ≡ Some Dir) (sym (append-nil at)) (goes_on (lookup tree at) None is).0
walked tree at (n ∷ names) name is =
    let later = (goes_on (lookup tree at) (stop_from tree (at ++ n ∷ []) (names ++ name ∷ [])) is).1 in
    subst (λ p. lookup tree p ≡ Some Dir) (append_assoc at (n ∷ []) names)
    (walked tree (at ++ n ∷ []) names name later)

-- the object that is answered stands at the path
pub object_at_is : (tree : Tree) (path : Path) → IfOk (object_at tree path) (λ object. lookup tree path ≡ Some object)
object_at_is tree path =
    and_then_any (λ object. lookup tree path ≡ Some object) (walk tree path) _
    (λ _. ok_or_is (lookup tree path) error.NotFound)

-- the bytes that are answered are those of the file at the path
pub file_at_is : (tree : Tree) (path : Path)
    → IfOk (file_at tree path) (λ bytes. lookup tree path ≡ Some (File bytes))
file_at_is tree path =
    and_then_holds _ (λ bytes. lookup tree path ≡ Some (File bytes)) (object_at tree path) file_in
    (object_at_is tree path) by
  where
    by : (object : Object) → lookup tree path ≡ Some object
        → IfOk (file_in object) (λ bytes. lookup tree path ≡ Some (File bytes))
    by Dir found = tt
    by (File bytes) found = found

-- a directory that is judged to be one is there
pub dir_at_is : (tree : Tree) (path : Path) → IfOk (dir_at tree path) (λ _. lookup tree path ≡ Some Dir)
dir_at_is tree path =
    and_then_holds _ (λ _. lookup tree path ≡ Some Dir) (object_at tree path) dir_in (object_at_is tree path) by
  where
    by : (object : Object) → lookup tree path ≡ Some object → IfOk (dir_in object) (λ _. lookup tree path ≡ Some Dir)
    by Dir found = found
    by (File bytes) found = tt

-- a judgement that gives nothing, by itself
pub ok_is : (r : Result (Unit {0}) VolError) → IfOk r (λ _. r ≡ Ok tt)
ok_is (Ok u) = refl
ok_is (Err e) = tt

-- ---- trees

-- a change that is not refused leaves a tree of which P holds
abbrev pub Leaves : (Tree → Type 0) → Changed → Type 0
Leaves P changed = IfOk changed (λ done. P done.1)

-- other bytes in a file
pub IsTree-insert_file : (tree : Tree) (path : Path) (old new : List ℕ) → IsTree tree
    → lookup tree path ≡ Some (File old) → length new ≤ file_limit → IsTree (insert tree path (File new))
IsTree-insert_file tree path old new t file fits =
    IsTree-insert tree path (File new) t (record {
      above = λ up name is. t.parents up name (ap (λ p. is_some (lookup tree p)) is ∙ ap is_some file);
      place = λ dir. let apart : Some Dir ≡ Some (File old) = sym dir ∙ file in cc;
      spelled = t.names path (ap is_some file);
      small = λ bytes is.
          let same : new ≡ bytes = cc in subst (λ (b : List ℕ). length b ≤ file_limit) same fits;
      room = λ free. absurd (true≢false (sym (ap is_some file) ∙ free));
    })
