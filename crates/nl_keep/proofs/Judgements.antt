-- Entries that are judged so are a tree that calls can name.
use Rattle.std.proofs.Common.{◌≡◌, ℕ, ◌-◌, ◌<◌, ◌≤◌, Bool, true, false, cond, ◌&&◌, [], ◌∷◌, ◌++◌, length, Option, Some, None, refl, sym, ap, ◌∙◌, subst, inl, inr, is_some, true≢false, arith, ltb-true, leb-true, eqb-true, length-append}
use Rattle.std.specs.Prelude.{◌⊎◌, ◌==◌, nat_lt}
use Rattle.std.specs.declared.cmp.Ordering.{Ordering}
use Rattle.std.specs.declared.cmp.Ordering.TheVariants.{Less, Equal, Greater}
use Rattle.std.specs.List.{list_all}
use Rattle.std.specs.Cmp.{Equal-is, tied_itself}
use Rattle.std.specs.FinMap.{is_sorted}
use Rattle.std.specs.FinMap.Entries.{below_all}
use Rattle.std.specs.Ordering.{is_eq, is_lt, ordering_then}
use Rattle.std.proofs.lemmas.Bool.{and_from, and_parts}
use Rattle.std.proofs.lemmas.Option.{same_Some}
use Rattle.nl_types.specs.declared.reply.Object.{Object}
use Rattle.nl_types.specs.declared.reply.Object.TheVariants.{Dir, File}
use Rattle.nl_types.specs.Plain.Calls.{is_dir}
use Rattle.nl_types.specs.Plain.Limits.{file_limit, path_length_limit}
use Rattle.nl_types.specs.Plain.Paths.{Name, Path, is_name, is_within, name_cmp, path_cmp, same_name, same_path}
use Rattle.nl_types.specs.Plain.Trees.{Tree, lookup}
use Rattle.nl_types.specs.Facts.Lookups.{is_within-append, same_name-equal, same_name-itself}
use Rattle.nl_types.specs.Facts.TreeLaws.{path_total, same_path-equal}
use Rattle.nl_folders.specs.Spelled.{IsNameable, joined, spelling}
use Rattle.nl_keep.specs.Private.Judged.{all_follow, follows, is_entry, is_rooted, is_small, is_spelled}

-- ---- paths that follow one another

pub less_is : (o : Ordering) → is_lt o ≡ true → o ≡ Less
less_is Less is = refl
less_is Equal is = absurd (true≢false (sym is))
less_is Greater is = absurd (true≢false (sym is))

-- a path that is the root's is followed by those of its names alone
pub follows-name : (d : Bool) (a b : Path) → length a ≡ 0 → length b ≡ 1 → follows d a b ≡ d
follows-name d [] [] root one = absurd (omega arith)
follows-name d [] (n ∷ []) root one = refl
follows-name d [] (n ∷ m ∷ b) root one = absurd (omega arith)
follows-name d (x ∷ a) b root one = absurd (omega arith)

pub follows-deep : (d : Bool) (a b : Path) → length a ≡ 0 → 2 ≤ length b → follows d a b ≡ false
follows-deep d [] [] root two = refl
follows-deep d [] (n ∷ []) root two = absurd (omega arith)
follows-deep d [] (n ∷ m ∷ b) root two = refl
follows-deep d (x ∷ a) b root two = absurd (omega arith)

pub ruleset ends = (follows-name, follows-deep)

follows_less : (d : Bool) (a b : Path) → follows d a b ≡ true → path_cmp a b ≡ Less
follows_less d [] [] is = absurd (true≢false (sym is))
follows_less d (x ∷ a) [] is = absurd (true≢false (sym is))
follows_less d [] (n ∷ []) is = refl
follows_less d [] (n ∷ m ∷ b) is = absurd (true≢false (sym is))
follows_less d (x ∷ a) (n ∷ []) is = ap (λ o. ordering_then o (path_cmp a [])) (less_is (name_cmp x n) is)
follows_less d (x ∷ a) (n ∷ m ∷ b) is =
    let parts = and_parts (same_name x n) (follows d a (m ∷ b)) is in
    ap (λ o. ordering_then o (path_cmp a (m ∷ b))) ((Equal-is (name_cmp x n)).0 parts.0)
    ∙ follows_less d a (m ∷ b) parts.1

-- the first path is a beginning of the other one, and not all of it
record IsAbove (top path : Path) : Type 0 where
  within : is_within top path ≡ true
  shorter : length top < length path

-- what is above the later one is above the earlier one too, or is that one
follows_above : (d : Bool) (a b top : Path) → follows d a b ≡ true → IsAbove top b
    → IsAbove top a ⊎ ((top ≡ a) × (d ≡ true))
follows_above d [] [] top is above = absurd (true≢false (sym is))
follows_above d (x ∷ a) [] top is above = absurd (true≢false (sym is))
follows_above d [] (n ∷ []) [] is above = inr (refl, is)
follows_above d [] (n ∷ []) (y ∷ top) is above = let short = above.shorter in absurd (omega arith)
follows_above d [] (n ∷ m ∷ b) top is above = absurd (true≢false (sym is))
follows_above d (x ∷ a) (n ∷ []) [] is above = inl (record { within = refl; shorter = omega arith })
follows_above d (x ∷ a) (n ∷ []) (y ∷ top) is above = let short = above.shorter in absurd (omega arith)
follows_above d (x ∷ a) (n ∷ m ∷ b) [] is above = inl (record { within = refl; shorter = omega arith })
follows_above d (x ∷ a) (n ∷ m ∷ b) (y ∷ top) is above =
    let parts = and_parts (same_name x n) (follows d a (m ∷ b)) is in
    let here = and_parts (same_name y n) (is_within top (m ∷ b)) above.within in
    let short = above.shorter in
    let name : y ≡ x = same_name-equal y n here.0 ∙ sym (same_name-equal x n parts.0) in
    elim (follows_above d a (m ∷ b) top parts.1 (record { within = here.1; shorter = omega arith })) [
      | inl up ↦
          let less = up.shorter in
          inl (record {
            within =
                and_from (same_name y x) (is_within top a)
                (subst (λ z. same_name y z ≡ true) name (same_name-itself y)) up.within;
            shorter = omega arith;
          })
      | inr same ↦ inr ((λ i. name i ∷ same.0 i), same.1)
    ]

-- ---- entries that follow one another

pub below_more : (p q : Path) (tree : Tree) → path_cmp p q ≡ Less → below_all path_cmp q tree ≡ true
    → below_all path_cmp p tree ≡ true
below_more p q [] less below = refl
below_more p q (e ∷ tree) less below =
    let parts = and_parts (is_lt (path_cmp q e.0)) (below_all path_cmp q tree) below in
    and_from (is_lt (path_cmp p e.0)) (below_all path_cmp p tree)
    (ap is_lt (path_total.trans p q e.0 less (less_is (path_cmp q e.0) parts.0)))
    (below_more p q tree less parts.1)

pub absent : (p : Path) (tree : Tree) → below_all path_cmp p tree ≡ true → lookup tree p ≡ None
absent p [] below = refl
absent p (e ∷ tree) below =
    let parts = and_parts (is_lt (path_cmp p e.0)) (below_all path_cmp p tree) below in
    ap (λ o. cond (is_eq o) (Some e.1) (lookup tree p)) (less_is (path_cmp p e.0) parts.0)
    ∙ absent p tree parts.1

sorted_from : (e : Path × Object) (entries : Tree) → all_follow e entries ≡ true
    → is_sorted path_cmp (e ∷ entries) ≡ true
sorted_from e [] is = refl
sorted_from e (f ∷ entries) is =
    let parts = and_parts (follows (is_dir e.1) e.0 f.0) (all_follow f entries) is in
    let less = follows_less (is_dir e.1) e.0 f.0 parts.0 in
    let rest = sorted_from f entries parts.1 in
    let behind = and_parts (below_all path_cmp f.0 entries) (is_sorted path_cmp entries) rest in
    and_from (below_all path_cmp e.0 (f ∷ entries)) (is_sorted path_cmp (f ∷ entries))
    (and_from (is_lt (path_cmp e.0 f.0)) (below_all path_cmp e.0 entries) (ap is_lt less)
    (below_more e.0 f.0 entries less behind.0)) rest

directory_is : (object : Object) → is_dir object ≡ true → object ≡ Dir
directory_is Dir is = refl
directory_is (File bytes) is = absurd (true≢false (sym is))

-- what is above one of the entries is above the first one too, or is a directory among them
dirs_above : (e : Path × Object) (entries : Tree) (q top : Path) → all_follow e entries ≡ true
    → is_some (lookup entries q) ≡ true → IsAbove top q
    → IsAbove top e.0 ⊎ (lookup (e ∷ entries) top ≡ Some Dir)
dirs_above e [] q top is there above = absurd (true≢false (sym there))
dirs_above e (f ∷ entries) q top is there above =
    elim (same_path q f.0) as (λ b.
    same_path q f.0 ≡ b → is_some (cond b (Some f.1) (lookup entries q)) ≡ true
    → IsAbove top e.0 ⊎ (lookup (e ∷ f ∷ entries) top ≡ Some Dir)) [
      | true ↦ λ same _. up (subst (IsAbove top) (same_path-equal q f.0 same) above)
      | false ↦ λ _ later. elim (dirs_above f entries q top parts.1 later above) [
        | inl over ↦ up over
        | inr found ↦ inr (behind found)
      ]
    ] refl there
  where
    parts : (follows (is_dir e.1) e.0 f.0 ≡ true) × (all_follow f entries ≡ true)
    parts = and_parts (follows (is_dir e.1) e.0 f.0) (all_follow f entries) is

    up : IsAbove top f.0 → IsAbove top e.0 ⊎ (lookup (e ∷ f ∷ entries) top ≡ Some Dir)
    up over = elim (follows_above (is_dir e.1) e.0 f.0 top parts.0 over) [
      | inl higher ↦ inl higher
      | inr here ↦
          inr (ap (λ b. cond b (Some e.1) (lookup (f ∷ entries) top))
          (ap (λ (p : Path). same_path p e.0) here.0 ∙ ap is_eq (tied_itself path_total e.0))
          ∙ ap Some (directory_is e.1 here.1))
    ]

    behind : lookup (f ∷ entries) top ≡ Some Dir → lookup (e ∷ f ∷ entries) top ≡ Some Dir
    behind found =
        let below =
        and_parts (below_all path_cmp e.0 (f ∷ entries)) (is_sorted path_cmp (f ∷ entries))
        (sorted_from e (f ∷ entries) is) in
        elim (same_path top e.0) as (λ b.
        same_path top e.0 ≡ b → cond b (Some e.1) (lookup (f ∷ entries) top) ≡ Some Dir) [
          | true ↦ λ same.
              absurd (true≢false
              (sym (ap is_some found)
              ∙ ap (λ (p : Path). is_some (lookup (f ∷ entries) p)) (same_path-equal top e.0 same)
              ∙ ap is_some (absent e.0 (f ∷ entries) below.0)))
          | false ↦ λ _. found
        ] refl

-- ---- each entry by itself

spelled_within : (room : ℕ) (path : Path) → is_spelled room path ≡ true → length (joined path) ≤ room
spelled_within room [] is = omega arith
spelled_within room (name ∷ names) is =
    let parts = and_parts (nat_lt (length name) room) (is_spelled (room - length name - 1) names) is in
    let rest = spelled_within (room - length name - 1) names parts.1 in
    omega (arith, ltb-true (length name) room parts.0, rest, length-append name (joined names))

path_fits : (path : Path) → is_spelled 4095 path ≡ true → length (spelling path) ≤ 4095
path_fits [] is = omega arith
path_fits (name ∷ names) is = spelled_within 4095 (name ∷ names) is

-- what is found was judged
found_judged : (tree : Tree) (q : Path) (object : Object) → list_all is_entry tree ≡ true → lookup tree q ≡ Some object
    → is_entry (q, object) ≡ true
found_judged [] q object all is = absurd (true≢false (sym (ap is_some is)))
found_judged (e ∷ tree) q object all is =
    let parts = and_parts (is_entry e) (list_all is_entry tree) all in
    elim (same_path q e.0) as (λ b.
    same_path q e.0 ≡ b → cond b (Some e.1) (lookup tree q) ≡ Some object → is_entry (q, object) ≡ true) [
      | true ↦ λ same here.
          subst (λ (p : Path). is_entry (p, object) ≡ true) (sym (same_path-equal q e.0 same))
          (subst (λ (n : Object). is_entry (e.0, n) ≡ true) (same_Some e.1 object here) parts.0)
      | false ↦ λ _ later. found_judged tree q object parts.1 later
    ] refl is

found_in : (tree : Tree) (q : Path) → is_some (lookup tree q) ≡ true → (object : Object) × (lookup tree q ≡ Some object)
found_in tree q there = by (lookup tree q) refl there
  where
    by : (o : Option Object) → lookup tree q ≡ o → is_some o ≡ true → (object : Object) × (lookup tree q ≡ Some object)
    by None is some = absurd (true≢false (sym some))
    by (Some object) is some = (object, is)

-- ---- all of them

not_root : (path : Path) (name : Name) → same_path (path ++ name ∷ []) [] ≡ false
not_root [] name = refl
not_root (n ∷ path) name = refl

-- entries that begin with the root
rooted : (entries : Tree) → all_follow ([], Dir) entries ≡ true → list_all is_entry (([], Dir) ∷ entries) ≡ true
    → length (([], Dir) ∷ entries) ≤ 524278 → IsNameable (([], Dir) ∷ entries)
rooted entries follow judged count = record {
  is_tree = record {
    ordered = sorted_from ([], Dir) entries follow;
    root = refl;
    parents = parents;
    names = λ q there. (entry q there).0;
    sizes = λ q bytes is.
        leb-true (length bytes) file_limit
        (and_parts (list_all is_name q && is_spelled path_length_limit q) (is_small (File bytes))
        (found_judged tree q (File bytes) judged is)).1;
    count = count;
  };
  spelled = λ q there. path_fits q (entry q there).1;
}
  where
    tree : Tree
    tree = ([], Dir) ∷ entries

    parents : (path : Path) (name : Name) → is_some (lookup tree (path ++ name ∷ [])) ≡ true
        → lookup tree path ≡ Some Dir
    parents path name there =
        let later : is_some (lookup entries (path ++ name ∷ [])) ≡ true =
        sym (ap (λ b. is_some (cond b (Some Dir) (lookup entries (path ++ name ∷ [])))) (not_root path name))
        ∙ there in
        let long = length-append path (name ∷ []) in
        elim (dirs_above ([], Dir) entries (path ++ name ∷ []) path follow later (record {
          within = is_within-append path (name ∷ []);
          shorter = omega arith;
        })) [
          | inl none ↦ let less = none.shorter in absurd (omega arith)
          | inr found ↦ found
        ]

    entry : (q : Path) → is_some (lookup tree q) ≡ true
        → (list_all is_name q ≡ true) × (is_spelled path_length_limit q ≡ true)
    entry q there =
        let found = found_in tree q there in
        and_parts (list_all is_name q) (is_spelled path_length_limit q)
        (and_parts (list_all is_name q && is_spelled path_length_limit q) (is_small found.0)
        (found_judged tree q found.0 judged found.1)).0

empty_is : (path : Path) → (length path == 0) ≡ true → path ≡ []
empty_is [] is = refl
empty_is (n ∷ path) is = absurd (omega (arith, eqb-true (length (n ∷ path)) 0 is))

pub nameable : (tree : Tree) → is_rooted tree ≡ true → list_all is_entry tree ≡ true → length tree ≤ 524278
    → IsNameable tree
nameable [] is judged count = absurd (true≢false (sym is))
nameable (e ∷ entries) is judged count =
    let parts = and_parts (length e.0 == 0 && is_dir e.1) (all_follow e entries) is in
    let first = and_parts (length e.0 == 0) (is_dir e.1) parts.0 in
    let path = empty_is e.0 first.0 in
    let object = directory_is e.1 first.1 in
    let same : e ≡ ([], Dir) = λ i. (path i, object i) in
    subst (λ (f : Path × Object). all_follow f entries ≡ true → list_all is_entry (f ∷ entries) ≡ true
    → length (f ∷ entries) ≤ 524278 → IsNameable (f ∷ entries)) (sym same) (rooted entries) parts.1 judged count
