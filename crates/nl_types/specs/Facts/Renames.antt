-- A rename that is not refused moves an object between paths of which neither lies in the other, and leaves a
-- tree.
use Rattle.std.proofs.Common.{◌≡◌, ℕ, ◌≤◌, Bool, true, false, not, cond, ◌&&◌, ◌||◌, List, [], ◌∷◌, ◌++◌, length, drop, Option, Some, None, Ok, refl, sym, ap, ◌∙◌, subst, true≢false, arith, is_some, is_ok, append_assoc, append-nil}
use Rattle.std.specs.Prelude.{IfOk}
use Rattle.std.specs.List.{list_all}
use Rattle.std.specs.Option.{unwrap_or}
use Rattle.std.proofs.lemmas.Bool.{and_parts, and_from}
use Rattle.std.proofs.lemmas.List.Folds.{list_all-append}
use Rattle.nl_types.specs.declared.error.VolError.{VolError}
use Rattle.nl_types.specs.declared.error.VolError.TheVariants as error
use Rattle.nl_types.specs.declared.reply.Answer.{Answer}
use Rattle.nl_types.specs.declared.reply.Answer.TheVariants as answer
use Rattle.nl_types.specs.declared.reply.Object.{Object}
use Rattle.nl_types.specs.declared.reply.Object.TheVariants.{Dir, File}
use Rattle.nl_types.specs.Plain.Limits.{file_limit}
use Rattle.nl_types.specs.Plain.Paths.{Name, Path, same_name, same_path, is_within, is_name}
use Rattle.nl_types.specs.Plain.Trees.{Tree, IsTree, lookup, move_subtree}
use Rattle.nl_types.specs.Plain.Calls.{Changed, and_then, refuse_if, ok_unless, stop_from, walk, object_at, has_names, is_root, is_dir, is_above, may_replace, rename}
use Rattle.nl_types.specs.Facts.TreeLaws.{same_path-equal}
use Rattle.nl_types.specs.Facts.Judgements.{Leaves, and_then_holds, refuse_if_then, goes_on, object_at_is, ok_is}
use Rattle.nl_types.specs.Facts.Lookups.{same_path-itself, same_name-equal, within_is, lookup-move_subtree}
use Rattle.nl_types.specs.Facts.Children.{listed}
use Rattle.nl_types.specs.Facts.Subtrees.{move_subtree-sorted, length-move_subtree}
use Rattle.nl_types.specs.Facts.Booleans.{is_true}

abbrev pub Parents : Tree → Type 0
Parents tree =
    (path : Path) (name : Name) → is_some (lookup tree (path ++ name ∷ [])) ≡ true
    → lookup tree path ≡ Some Dir

-- a walk that is not refused to what lies below a path has passed a directory there
passed : (tree : Tree) (at names : Path) (name : Name) (rest : Path)
    → stop_from tree at (names ++ name ∷ rest) ≡ None → lookup tree (at ++ names) ≡ Some Dir
passed tree at [] name rest is =
    subst (λ p. lookup tree p ≡ Some Dir) (sym (append-nil at))
    (goes_on (lookup tree at) (stop_from tree (at ++ name ∷ []) rest) is).0
passed tree at (n ∷ names) name rest is =
    let later = (goes_on (lookup tree at) (stop_from tree (at ++ n ∷ []) (names ++ name ∷ rest)) is).1 in
    subst (λ p. lookup tree p ≡ Some Dir) (append_assoc at (n ∷ []) names)
    (passed tree (at ++ n ∷ []) names name rest later)

not_stopped : (tree : Tree) (path : Path) → walk tree path ≡ Ok tt → stop_from tree [] path ≡ None
not_stopped tree path is = by (stop_from tree [] path) is
  where
    by : (o : Option VolError) → ok_unless o ≡ Ok tt → o ≡ None
    by None is = refl
    by (Some e) is = cc

parent_by_walk : (tree : Tree) (path : Path) (name : Name) → walk tree (path ++ name ∷ []) ≡ Ok tt
    → lookup tree path ≡ Some Dir
parent_by_walk tree path name is = passed tree [] path name [] (not_stopped tree (path ++ name ∷ []) is)

within-more : (top path more : Path) → is_within top path ≡ true → is_within top (path ++ more) ≡ true
within-more [] path more is = refl
within-more (n ∷ top) [] more is = absurd (true≢false (sym is))
within-more (n ∷ top) (m ∷ path) more is =
    let parts = and_parts (same_name n m) (is_within top path) is in
    and_from (same_name n m) (is_within top (path ++ more)) parts.0 (within-more top path more parts.1)

-- what begins with a path only by its last name is that path
within-last : (top path : Path) (name : Name) → is_within top (path ++ name ∷ []) ≡ true
    → is_within top path ≡ false → top ≡ path ++ name ∷ []
within-last [] path name is away = absurd (true≢false away)
within-last (n ∷ []) [] name is away =
    ap (λ (x : Name). x ∷ []) (same_name-equal n name (and_parts (same_name n name) true is).0)
within-last (n ∷ m ∷ top) [] name is away =
    absurd (true≢false (sym (and_parts (same_name n name) false is).1))
within-last (n ∷ top) (m ∷ path) name is away =
    let parts = and_parts (same_name n m) (is_within top (path ++ name ∷ [])) is in
    let rest = within-last top path name parts.1 (rw parts.0 at away) in
    let first = same_name-equal n m parts.0 in
    λ i. first i ∷ rest i

-- what begins with another path goes on by a name
goes_below : (top path : Path) → is_within top path ≡ true → same_path top path ≡ false
    → (name : Name) × (rest : Path) × (path ≡ top ++ name ∷ rest)
goes_below top path inside other =
    elim (drop (length top) path) as (λ below.
    path ≡ top ++ below → (name : Name) × (rest : Path) × (path ≡ top ++ name ∷ rest)) [
      | [] ↦
          λ is.
          absurd (true≢false
          (sym (same_path-itself top) ∙ ap (same_path top) (sym (append-nil top) ∙ sym is) ∙ other))
      | ◌∷◌ name rest ↦ λ is. (name, rest, is)
    ] (within_is top path inside)

-- what lies above a path in a tree is there
above_is : (tree : Tree) → Parents tree → (below path : Path) → is_some (lookup tree (path ++ below)) ≡ true
    → is_some (lookup tree path) ≡ true
above_is tree parents [] path is = subst (λ p. is_some (lookup tree p) ≡ true) (append-nil path) is
above_is tree parents (n ∷ below) path is =
    let child =
    above_is tree parents below (path ++ n ∷ [])
    (subst (λ p. is_some (lookup tree p) ≡ true) (sym (append_assoc path (n ∷ []) below)) is) in
    ap is_some (parents path n child)

pub drop-append : (top rest : Path) → drop (length top) (top ++ rest) ≡ rest
drop-append [] rest = refl
drop-append (n ∷ top) rest = drop-append top rest

-- what a rename that is not refused has found, where its paths differ
pub record IsMove (tree : Tree) (from to : Path) : Type 0 where
  pub below_root : (is_root from || is_root to) ≡ false
  pub up : is_within from to ≡ false
  pub down : is_within to from ≡ false
  pub above : (path : Path) (name : Name) → path ++ name ∷ [] ≡ to → lookup tree path ≡ Some Dir

module _ (tree : Tree) (from to : Path) (t : IsTree tree) (m : IsMove tree from to) where
  abbrev after_rename : Path → Option Object
  after_rename q =
      cond (is_within to q) (lookup tree (from ++ drop (length to) q))
      (cond (is_within from q) None (lookup tree q))

  -- outside both, the parent stays
  outside : (path : Path) (name : Name) → lookup tree path ≡ Some Dir
      → is_within from (path ++ name ∷ []) ≡ false
      → cond (is_within from path) None (lookup tree path) ≡ Some Dir
  outside path name dir away =
      elim (is_within from path) as (λ b.
      is_within from path ≡ b → cond b None (lookup tree path) ≡ Some Dir) [
        | true ↦ λ inside. absurd (true≢false (sym (within-more from path (name ∷ []) inside) ∙ away))
        | false ↦ λ _. dir
      ] refl

  parents_after : (path : Path) (name : Name) → is_some (after_rename (path ++ name ∷ [])) ≡ true
      → after_rename path ≡ Some Dir
  parents_after path name =
      let below = path ++ name ∷ [] in
      elim (is_within to path) as (λ b.
      is_within to path ≡ b → is_some (after_rename below) ≡ true
      → cond b (lookup tree (from ++ drop (length to) path))
      (cond (is_within from path) None (lookup tree path))
      ≡ Some Dir) [
        | true ↦ λ inside is.
            let rest = drop (length to) path in
            let path_is = within_is to path inside in
            let below_inside = within-more to path (name ∷ []) inside in
            let below_is : drop (length to) below ≡ rest ++ name ∷ [] =
            ap (λ p. drop (length to) (p ++ name ∷ [])) path_is
            ∙ ap (drop (length to)) (append_assoc to rest (name ∷ [])) ∙ drop-append to (rest ++ name ∷ []) in
            let there : is_some (lookup tree (from ++ (rest ++ name ∷ []))) ≡ true =
            sym (ap (λ p. is_some (lookup tree (from ++ p))) below_is)
            ∙ sym (ap (λ b.
            is_some (cond b (lookup tree (from ++ drop (length to) below))
            (cond (is_within from below) None (lookup tree below))))
            below_inside)
            ∙ is in
            t.parents (from ++ rest) name
            (ap (λ p. is_some (lookup tree p)) (append_assoc from rest (name ∷ [])) ∙ there)
        | false ↦ λ away.
            elim (is_within to below) as (λ b.
            is_within to below ≡ b
            → is_some (cond b (lookup tree (from ++ drop (length to) below))
            (cond (is_within from below) None (lookup tree below)))
            ≡ true
            → cond (is_within from path) None (lookup tree path) ≡ Some Dir) [
              | true ↦ λ inside _.
                  let to_is = within-last to path name inside away in
                  outside path name (m.above path name (sym to_is)) (ap (is_within from) (sym to_is) ∙ m.up)
              | false ↦ λ _ is.
                  elim (is_within from below) as (λ b.
                  is_within from below ≡ b → is_some (cond b None (lookup tree below)) ≡ true
                  → cond (is_within from path) None (lookup tree path) ≡ Some Dir) [
                    | true ↦ λ _ none. absurd (true≢false (sym none))
                    | false ↦ λ apart there. outside path name (t.parents path name there) apart
                  ] refl is
            ] refl
      ] refl

  names_after : (path : Path) → is_some (after_rename path) ≡ true → list_all is_name to ≡ true
      → list_all is_name path ≡ true
  names_after path there spelled =
      elim (is_within to path) as (λ b.
      is_within to path ≡ b
      → is_some (cond b (lookup tree (from ++ drop (length to) path))
      (cond (is_within from path) None (lookup tree path)))
      ≡ true
      → list_all is_name path ≡ true) [
        | true ↦ λ inside found.
            let rest = drop (length to) path in
            let both = sym (list_all-append is_name from rest) ∙ t.names (from ++ rest) found in
            ap (list_all is_name) (within_is to path inside) ∙ list_all-append is_name to rest
            ∙ and_from (list_all is_name to) (list_all is_name rest) spelled
            (and_parts (list_all is_name from) (list_all is_name rest) both).1
        | false ↦ λ _.
            elim (is_within from path) as (λ b.
            is_some (cond b None (lookup tree path)) ≡ true → list_all is_name path ≡ true) [
              | true ↦ λ none. absurd (true≢false (sym none))
              | false ↦ λ found. t.names path found
            ]
      ] refl there

  sizes_after : (path : Path) (bytes : List ℕ) → after_rename path ≡ Some (File bytes)
      → length bytes ≤ file_limit
  sizes_after path bytes =
      elim (is_within to path) as (λ b.
      cond b (lookup tree (from ++ drop (length to) path))
      (cond (is_within from path) None (lookup tree path))
      ≡ Some (File bytes)
      → length bytes ≤ file_limit) [
        | true ↦ λ is. t.sizes (from ++ drop (length to) path) bytes is
        | false ↦
            elim (is_within from path) as (λ b.
            cond b None (lookup tree path) ≡ Some (File bytes) → length bytes ≤ file_limit) [
              | true ↦ λ none. absurd (true≢false (sym (ap is_some none)))
              | false ↦ λ is. t.sizes path bytes is
            ]
      ]

  pub lookup-after : (path : Path) → lookup (move_subtree tree from to) path ≡ after_rename path
  lookup-after path = lookup-move_subtree from to m.up m.down tree path

  pub IsTree-move_subtree : list_all is_name to ≡ true → IsTree (move_subtree tree from to)
  IsTree-move_subtree spelled = record {
    ordered = is_true _ (move_subtree-sorted tree from to);
    root = lookup-after [] ∙ root_stays from to m.up m.down m.below_root;
    parents = λ path name is.
        lookup-after path
        ∙ parents_after path name (sym (ap is_some (lookup-after (path ++ name ∷ []))) ∙ is);
    names = λ path is. names_after path (sym (ap is_some (lookup-after path)) ∙ is) spelled;
    sizes = λ path bytes is. sizes_after path bytes (sym (lookup-after path) ∙ is);
    count = omega (arith, length-move_subtree tree from to, t.count);
  }
    where
      root_stays : (from to : Path) → is_within from to ≡ false → is_within to from ≡ false
          → (is_root from || is_root to) ≡ false
          → cond (is_within to []) (lookup tree (from ++ drop (length to) []))
          (cond (is_within from []) None (lookup tree []))
          ≡ Some Dir
      root_stays [] to up down h = absurd (true≢false up)
      root_stays (n ∷ from) [] up down h = absurd (true≢false down)
      root_stays (n ∷ from) (m ∷ to) up down h = t.root

-- a rename that is not refused is between paths of which neither lies in the other
pub not_into : (tree : Tree) (from to : Path) (object : Object) → lookup tree from ≡ Some object
    → (is_dir object && is_above from to) ≡ false → walk tree to ≡ Ok tt → same_path from to ≡ false
    → is_within from to ≡ false
not_into tree from to object found judged walking other =
    elim (is_within from to) as (λ b. is_within from to ≡ b → b ≡ false) [
      | true ↦ λ inside.
          let below = goes_below from to inside other in
          let dir =
          passed tree [] from below.0 below.1
          (not_stopped tree (from ++ below.0 ∷ below.1)
          (subst (λ p. walk tree p ≡ Ok tt) below.2 walking)) in
          absurd (true≢false (sym (dir_case object (some_inj (sym found ∙ dir))) ∙ by (is_dir object) inside))
      | false ↦ λ _. refl
    ] refl
  where
    some_inj : {a b : Object} → Some a ≡ Some b → a ≡ b
    some_inj {a = a} e = ap (λ (o : Option Object). unwrap_or o a) e

    dir_case : (n : Object) → n ≡ Dir → is_dir n ≡ true
    dir_case n e = ap is_dir e

    by : (d : Bool) → is_within from to ≡ true → is_dir object ≡ false
    by d inside = elim (is_dir object) as (λ b. (b && is_above from to) ≡ false → b ≡ false) [
      | true ↦
          λ j.
          absurd (true≢false
          (sym (and_from (is_within from to) (not (same_path from to)) inside (ap not other)) ∙ j))
      | false ↦ λ _. refl
    ] judged

-- what is not refused has failed the test
none_in : (b : Bool) (e : VolError) → refuse_if {A = Unit {0}} b e (Ok tt) ≡ Ok tt → b ≡ false
none_in true e is = cc
none_in false e is = refl

not_onto : (tree : Tree) (from to : Path) (object : Object) → IsTree tree → lookup tree from ≡ Some object
    → may_replace tree to object (lookup tree to) ≡ Ok tt → same_path from to ≡ false
    → is_within to from ≡ false
not_onto tree from to object t found judged other =
    elim (is_within to from) as (λ b. is_within to from ≡ b → b ≡ false) [
      | true ↦ λ inside.
          let below = goes_below to from inside (turned_around other) in
          let child =
          above_is tree t.parents below.1 (to ++ below.0 ∷ [])
          (ap (λ p. is_some (lookup tree p)) (append_assoc to (below.0 ∷ []) below.1 ∙ sym below.2)
          ∙ ap is_some found) in
          let dir = t.parents to below.0 child in
          absurd (refused object below.0 (some_child (lookup tree (to ++ below.0 ∷ [])) child)
          (ap (may_replace tree to object) (sym dir) ∙ judged))
      | false ↦ λ _. refl
    ] refl
  where
    turned_around : same_path from to ≡ false → same_path to from ≡ false
    turned_around apart = elim (same_path to from) as (λ b. same_path to from ≡ b → b ≡ false) [
      | true ↦
          λ same.
          absurd (true≢false
          (sym (same_path-itself from) ∙ ap (same_path from) (sym (same_path-equal to from same)) ∙ apart))
      | false ↦ λ _. refl
    ] refl

    some_child : (o : Option Object) → is_some o ≡ true → (n : Object) × (o ≡ Some n)
    some_child None is = absurd (true≢false (sym is))
    some_child (Some n) is = (n, refl)

    refused : (n : Object) (name : Name) → ((m : Object) × (lookup tree (to ++ name ∷ []) ≡ Some m))
        → may_replace tree to n (Some Dir) ≡ Ok tt → ⊥
    refused (File bytes) name child is = true≢false (sym (ap is_ok is))
    refused Dir name child is =
        true≢false (sym (listed tree to name child.0 child.1) ∙ none_in (has_names tree to) error.NotEmpty is)

-- what holds of a rename that stays and of one that moves holds of each that is not refused
pub rename_then : (tree : Tree) (from to : Path) (Q : Answer × Tree → Type 0) → IsTree tree
    → (same_path from to ≡ true → Q (answer.Done, tree))
    → (same_path from to ≡ false → IsMove tree from to → Q (answer.Done, move_subtree tree from to))
    → IfOk (rename tree from to) Q
rename_then tree from to Q t stays moves =
    refuse_if_then Q (is_root from || is_root to) error.BadPath _ (λ below_root.
    and_then_holds _ Q (object_at tree from) _ (object_at_is tree from) (λ object there.
    refuse_if_then Q (is_dir object && is_above from to) error.IntoItself _ (λ outside.
    and_then_holds _ Q (walk tree to) _ (ok_is (walk tree to)) (λ _ walking.
    let made : Changed = Ok (answer.Done, move_subtree tree from to) in
    elim (same_path from to) as (λ b.
    same_path from to ≡ b
    → IfOk (cond {A = Changed} b (Ok (answer.Done, tree))
    (and_then (may_replace tree to object (lookup tree to)) (λ _. made)))
    Q) [
      | true ↦ stays
      | false ↦ λ other.
          and_then_holds _ Q (may_replace tree to object (lookup tree to)) _
          (ok_is (may_replace tree to object (lookup tree to))) (λ _ judged.
          moves other (record {
            below_root = below_root;
            up = not_into tree from to object there outside walking other;
            down = not_onto tree from to object t there judged other;
            above = λ path name same.
                parent_by_walk tree path name (subst (λ p. walk tree p ≡ Ok tt) (sym same) walking);
          }))
    ] refl))))

pub rename-IsTree : (tree : Tree) (from to : Path) → IsTree tree → list_all is_name to ≡ true
    → Leaves IsTree (rename tree from to)
rename-IsTree tree from to t spelled =
    rename_then tree from to (λ done. IsTree done.1) t (λ _. t)
    (λ _ m. IsTree-move_subtree tree from to t m spelled)
