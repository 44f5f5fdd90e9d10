-- The lines of what stands in a directory of the host.
use Rattle.std.proofs.Common.{◌≡◌, Bool, true, false, cond, ◌&&◌, List, [], ◌∷◌, ◌++◌, Option, Some, None, refl, sym, ap, ◌∙◌, subst, true≢false, length, drop}
use Rattle.std.specs.declared.cmp.Ordering.{Ordering}
use Rattle.std.specs.declared.cmp.Ordering.TheVariants.{Less, Equal, Greater}
use Rattle.std.specs.Ordering.{is_eq, is_lt, ordering_then, ordering_reverse}
use Rattle.std.specs.List.{list_all}
use Rattle.std.specs.Prelude.{option_and_then}
use Rattle.std.specs.Cmp.{tied_itself}
use Rattle.std.specs.Cmp.Lexicographic.{nat_list_cmp_total}
use Rattle.std.specs.FinMap.{find, is_sorted}
use Rattle.std.specs.FinMap.Entries.{below_all}
use Rattle.std.proofs.lemmas.Bool.{and_parts, and_from}
use Rattle.std.proofs.lemmas.Option.{same_Some}
use Rattle.nl_types.specs.Plain.Paths.{Name, Path, is_within, name_cmp, path_cmp, same_name, same_path}
use Rattle.nl_types.specs.Plain.Trees.{name_below}
use Rattle.nl_types.specs.Facts.Booleans.{not_true}
use Rattle.nl_types.specs.Facts.Lookups.{path_cmp-append, same_name-equal, same_name-itself}
use Rattle.nl_types.specs.Facts.TreeLaws.{path_total, same_path-equal}
use Rattle.nl_manifests.specs.declared.attributes.Attributes.{Attributes}
use Rattle.nl_manifests.specs.declared.manifest.Line.{Line}
use Rattle.nl_manifests.specs.declared.manifest.LineKind.{LineKind}
use Rattle.nl_manifests.specs.declared.host_tree.HostEntry.{HostEntry}
use Rattle.nl_manifests.specs.HostTrees.{HostTree, line_named}
use Rattle.nl_manifests.specs.Manifests.{ascend}
use Rattle.nl_manifests.specs.Sealed.{kind_of, line_under, line_with, lines_in}
use Rattle.nl_manifests.specs.Private.Sealing.{lines_until, only_name}
use Rattle.nl_manifests.proofs.Kept.{keyed, not_none}
use Rattle.nl_manifests.proofs.Sorted.{absent, less_is}

-- ---- names right below a directory

pub below_itself : (dir : Path) (n : Name) → name_below dir (dir ++ n ∷ []) ≡ Some n
below_itself [] n = refl
below_itself (m ∷ dir) n =
    ap (λ b. cond b (name_below dir (dir ++ n ∷ [])) None) (same_name-itself m) ∙ below_itself dir n

pub below_is : (dir path : Path) (n : Name) → name_below dir path ≡ Some n → path ≡ dir ++ n ∷ []
below_is [] [] n is = cc
below_is [] (m ∷ []) n is = ap (λ (x : Name). x ∷ []) (same_Some m n is)
below_is [] (m ∷ k ∷ path) n is = cc
below_is (m ∷ dir) [] n is = cc
below_is (m ∷ dir) (k ∷ path) n is =
    elim (same_name m k) as (λ b.
    same_name m k ≡ b → cond b (name_below dir path) None ≡ Some n → k ∷ path ≡ m ∷ (dir ++ n ∷ [])) [
      | true ↦ λ same here.
          let first = sym (same_name-equal m k same) in
          let rest = below_is dir path n here in
          λ i. first i ∷ rest i
      | false ↦ λ _ here. cc
    ] refl is

-- of a path below a directory the rest tells it
pub below_only : (dir path : Path) → is_within dir path ≡ true
    → only_name (drop (length dir) path) ≡ name_below dir path
below_only [] [] within = refl
below_only [] (n ∷ []) within = refl
below_only [] (n ∷ m ∷ path) within = refl
below_only (n ∷ dir) [] within = absurd (true≢false (sym within))
below_only (n ∷ dir) (m ∷ path) within =
    let parts = and_parts (same_name n m) (is_within dir path) within in
    below_only dir path parts.1 ∙ sym (ap (λ b. cond b (name_below dir path) None) parts.0)

then_equal : (o : Ordering) → ordering_then o Equal ≡ o
then_equal Less = refl
then_equal Equal = refl
then_equal Greater = refl

-- two paths in a directory are in the order of their names
pub child_cmp : (dir : Path) (n m : Name) → path_cmp (dir ++ n ∷ []) (dir ++ m ∷ []) ≡ name_cmp n m
child_cmp dir n m = path_cmp-append dir (n ∷ []) (m ∷ []) ∙ then_equal (name_cmp n m)

child_same : (dir : Path) (n m : Name) (q : Path) → q ≡ dir ++ m ∷ []
    → same_path (dir ++ n ∷ []) q ≡ same_name n m
child_same dir n m q at = ap (same_path (dir ++ n ∷ [])) at ∙ ap is_eq (child_cmp dir n m)

-- ---- the line of a name

abbrev told_with : Name → Option LineKind → Option Attributes → Option Line
told_with name None attributes = None
told_with name (Some k) None = None
told_with name (Some k) (Some a) = Some (record { name = name; kind = k; attributes = a })

-- what is told of an entry
abbrev pub line_told : Name → HostEntry → Option Line
line_told name e = told_with name (kind_of e.object) e.attributes

-- the line of a name comes before those that are behind
first_line : (n m : Name) (k : Option LineKind) (a : Option Attributes) (rest : List Line) (t : Bool)
    → same_name n m ≡ t → (t ≡ true → line_named rest n ≡ None)
    → line_named (line_with m k a ++ rest) n ≡ cond t (told_with n k a) (line_named rest n)
first_line n m None a rest true same none = none refl
first_line n m None a rest false same none = refl
first_line n m (Some k) None rest true same none = none refl
first_line n m (Some k) None rest false same none = refl
first_line n m (Some k) (Some a) rest true same none =
    ap (λ t. cond t (Some (record { name = m; kind = k; attributes = a })) (line_named rest n)) same
    ∙ ap (λ (x : Name). told_with x (Some k) (Some a)) (sym (same_name-equal n m same))
first_line n m (Some k) (Some a) rest false same none =
    ap (λ t. cond t (Some (record { name = m; kind = k; attributes = a })) (line_named rest n)) same

told_cond : (t : Bool) (n : Name) (e : HostEntry) (o : Option HostEntry)
    → cond t (line_told n e) (option_and_then (line_told n) o)
    ≡ option_and_then (line_told n) (cond t (Some e) o)
told_cond true n e o = refl
told_cond false n e o = refl

-- the line of a name is that of what stands under it
pub found_line : (es : HostTree) (dir : Path) (n : Name) → is_sorted path_cmp es ≡ true
    → line_named (lines_in es dir) n ≡ option_and_then (line_told n) (find path_cmp (dir ++ n ∷ []) es)
found_line [] dir n sorted = refl
found_line (e ∷ es) dir n sorted =
    let parts = and_parts (below_all path_cmp e.0 es) (is_sorted path_cmp es) sorted in
    let rest = found_line es dir n parts.1 in
    by parts.0 rest (name_below dir e.0) refl
  where
    by : below_all path_cmp e.0 es ≡ true
        → line_named (lines_in es dir) n ≡ option_and_then (line_told n) (find path_cmp (dir ++ n ∷ []) es)
        → (o : Option Name) → name_below dir e.0 ≡ o
        → line_named (line_under o e.1 ++ lines_in es dir) n
        ≡ option_and_then (line_told n) (find path_cmp (dir ++ n ∷ []) (e ∷ es))
    by below rest None is =
        let other : same_path (dir ++ n ∷ []) e.0 ≡ false =
        not_true (same_path (dir ++ n ∷ []) e.0) (λ same.
        not_none n (sym is ∙ ap (name_below dir) (sym (same_path-equal (dir ++ n ∷ []) e.0 same))
        ∙ below_itself dir n)) in
        rest
        ∙ sym (ap (λ t. option_and_then (line_told n) (cond t (Some e.1) (find path_cmp (dir ++ n ∷ []) es)))
        other)
    by below rest (Some m) is =
        let test : same_path (dir ++ n ∷ []) e.0 ≡ same_name n m =
        child_same dir n m e.0 (below_is dir e.0 m is) in
        let none : same_name n m ≡ true → line_named (lines_in es dir) n ≡ None =
        λ same.
        rest
        ∙ ap (λ (p : Path). option_and_then (line_told n) (find path_cmp p es))
        (same_path-equal (dir ++ n ∷ []) e.0 (test ∙ same))
        ∙ ap (option_and_then (line_told n)) (absent e.0 es below) in
        first_line n m (kind_of e.1.object) e.1.attributes (lines_in es dir) (same_name n m) refl none
        ∙ ap (cond (same_name n m) (line_told n e.1)) rest
        ∙ told_cond (same_name n m) n e.1 (find path_cmp (dir ++ n ∷ []) es)
        ∙ sym (ap (λ t. option_and_then (line_told n) (cond t (Some e.1) (find path_cmp (dir ++ n ∷ []) es)))
        test)

-- ---- order

below_line : (n m : Name) (k : Option LineKind) (a : Option Attributes) (rest : List Line)
    → is_lt (name_cmp n m) ≡ true → below_all name_cmp n (keyed rest) ≡ true
    → below_all name_cmp n (keyed (line_with m k a ++ rest)) ≡ true
below_line n m None a rest less below = below
below_line n m (Some k) None rest less below = below
below_line n m (Some k) (Some a) rest less below = and_from (is_lt (name_cmp n m)) _ less below

below_lines : (es : HostTree) (dir : Path) (n : Name) → below_all path_cmp (dir ++ n ∷ []) es ≡ true
    → below_all name_cmp n (keyed (lines_in es dir)) ≡ true
below_lines [] dir n below = refl
below_lines (e ∷ es) dir n below =
    let parts =
    and_parts (is_lt (path_cmp (dir ++ n ∷ []) e.0)) (below_all path_cmp (dir ++ n ∷ []) es) below in
    by parts.0 (below_lines es dir n parts.1) (name_below dir e.0) refl
  where
    by : is_lt (path_cmp (dir ++ n ∷ []) e.0) ≡ true → below_all name_cmp n (keyed (lines_in es dir)) ≡ true
        → (o : Option Name) → name_below dir e.0 ≡ o
        → below_all name_cmp n (keyed (line_under o e.1 ++ lines_in es dir)) ≡ true
    by less rest None is = rest
    by less rest (Some m) is =
        below_line n m (kind_of e.1.object) e.1.attributes (lines_in es dir)
        (ap is_lt (sym (child_cmp dir n m)) ∙ ap (λ (p : Path). is_lt (path_cmp (dir ++ n ∷ []) p))
        (sym (below_is dir e.0 m is)) ∙ less) rest

line_sorted : (m : Name) (k : Option LineKind) (a : Option Attributes) (rest : List Line)
    → below_all name_cmp m (keyed rest) ≡ true → is_sorted name_cmp (keyed rest) ≡ true
    → is_sorted name_cmp (keyed (line_with m k a ++ rest)) ≡ true
line_sorted m None a rest below sorted = sorted
line_sorted m (Some k) None rest below sorted = sorted
line_sorted m (Some k) (Some a) rest below sorted =
    and_from (below_all name_cmp m (keyed rest)) (is_sorted name_cmp (keyed rest)) below sorted

pub lines_in_order : (es : HostTree) (dir : Path) → is_sorted path_cmp es ≡ true
    → is_sorted name_cmp (keyed (lines_in es dir)) ≡ true
lines_in_order [] dir sorted = refl
lines_in_order (e ∷ es) dir sorted =
    let parts = and_parts (below_all path_cmp e.0 es) (is_sorted path_cmp es) sorted in
    by parts.0 (lines_in_order es dir parts.1) (name_below dir e.0) refl
  where
    by : below_all path_cmp e.0 es ≡ true → is_sorted name_cmp (keyed (lines_in es dir)) ≡ true
        → (o : Option Name) → name_below dir e.0 ≡ o
        → is_sorted name_cmp (keyed (line_under o e.1 ++ lines_in es dir)) ≡ true
    by below rest None is = rest
    by below rest (Some m) is =
        line_sorted m (kind_of e.1.object) e.1.attributes (lines_in es dir)
        (below_lines es dir m (subst (λ (p : Path). below_all path_cmp p es ≡ true) (below_is dir e.0 m is)
        below)) rest

pub sorted_ascend : (lines : List Line) → is_sorted name_cmp (keyed lines) ≡ true → ascend lines ≡ true
sorted_ascend [] sorted = refl
sorted_ascend (a ∷ []) sorted = refl
sorted_ascend (a ∷ b ∷ lines) sorted =
    let parts = and_parts (below_all name_cmp a.name (keyed (b ∷ lines))) (is_sorted name_cmp (keyed (b ∷
    lines))) sorted in
    let first =
    and_parts (is_lt (name_cmp a.name b.name)) (below_all name_cmp a.name (keyed lines)) parts.0 in
    and_from (is_lt (name_cmp a.name b.name)) (ascend (b ∷ lines)) first.0 (sorted_ascend (b ∷ lines) parts.1)

-- ---- where the lines of a directory end

-- what comes behind a directory and isn't in it comes behind all that is
pub behind_all : (dir p rest : Path) → is_within dir p ≡ false → path_cmp dir p ≡ Less
    → path_cmp (dir ++ rest) p ≡ Less
behind_all [] p rest apart less = absurd (true≢false apart)
behind_all (n ∷ dir) [] rest apart less = cc
behind_all (n ∷ dir) (m ∷ p) rest apart less = by (behind_all dir p rest) (name_cmp n m) apart less
  where
    by : (is_within dir p ≡ false → path_cmp dir p ≡ Less → path_cmp (dir ++ rest) p ≡ Less)
        → (o : Ordering) → (is_eq o && is_within dir p) ≡ false
        → ordering_then o (path_cmp dir p) ≡ Less → ordering_then o (path_cmp (dir ++ rest) p) ≡ Less
    by further Less apart less = refl
    by further Equal apart less = further apart less
    by further Greater apart less = less

pub above_child : (dir : Path) (n : Name) → path_cmp dir (dir ++ n ∷ []) ≡ Less
above_child [] n = refl
above_child (m ∷ dir) n =
    ap (λ o. ordering_then o (path_cmp dir (dir ++ n ∷ []))) (tied_itself nat_list_cmp_total m)
    ∙ above_child dir n

-- nothing is right below a directory that doesn't come behind it
pub none_below : (dir p : Path) → is_lt (path_cmp dir p) ≡ false → name_below dir p ≡ None
none_below dir p not_above = by (name_below dir p) refl
  where
    by : (o : Option Name) → name_below dir p ≡ o → o ≡ None
    by None is = refl
    by (Some n) is =
        absurd (true≢false
        (sym (ap is_lt (ap (path_cmp dir) (below_is dir p n is) ∙ above_child dir n)) ∙ not_above))

-- nor behind one that isn't in it
none_behind : (dir p q : Path) → is_within dir p ≡ false → path_cmp dir p ≡ Less → path_cmp p q ≡ Less
    → name_below dir q ≡ None
none_behind dir p q apart less next = by (name_below dir q) refl
  where
    greater_twice : (o : Ordering) → o ≡ Less → o ≡ Greater → ⊥
    greater_twice o one other = let both : Less ≡ Greater = sym one ∙ other in cc

    by : (o : Option Name) → name_below dir q ≡ o → o ≡ None
    by None is = refl
    by (Some n) is =
        let before : path_cmp q p ≡ Less =
        ap (λ (x : Path). path_cmp x p) (below_is dir q n is) ∙ behind_all dir p (n ∷ []) apart less in
        absurd (greater_twice (path_cmp q p) before (path_total.antisymm q p ∙ ap ordering_reverse next))

no_lines_behind : (dir p : Path) (es : HostTree) → is_within dir p ≡ false → path_cmp dir p ≡ Less
    → below_all path_cmp p es ≡ true → lines_in es dir ≡ []
no_lines_behind dir p [] apart less below = refl
no_lines_behind dir p (e ∷ es) apart less below =
    let parts = and_parts (is_lt (path_cmp p e.0)) (below_all path_cmp p es) below in
    ap (λ (o : Option Name). line_under o e.1 ++ lines_in es dir)
    (none_behind dir p e.0 apart less (less_is (path_cmp p e.0) parts.0))
    ∙ no_lines_behind dir p es apart less parts.1

pub until_is : (dir : Path) (es : HostTree) → below_all path_cmp dir es ≡ true → is_sorted path_cmp es ≡ true
    → lines_until dir es ≡ lines_in es dir
until_is dir [] below sorted = refl
until_is dir (e ∷ es) below sorted =
    let down = and_parts (is_lt (path_cmp dir e.0)) (below_all path_cmp dir es) below in
    let parts = and_parts (below_all path_cmp e.0 es) (is_sorted path_cmp es) sorted in
    let rest = until_is dir es down.1 parts.1 in
    let less = less_is (path_cmp dir e.0) down.0 in
    elim (is_within dir e.0) as (λ t. is_within dir e.0 ≡ t
    → cond t (line_under (name_below dir e.0) e.1 ++ lines_until dir es) []
    ≡ line_under (name_below dir e.0) e.1 ++ lines_in es dir) [
      | true ↦ λ _. ap (λ (x : List Line). line_under (name_below dir e.0) e.1 ++ x) rest
      | false ↦ λ apart.
          sym (ap (λ (x : List Line). line_under (name_below dir e.0) e.1 ++ x)
          (no_lines_behind dir e.0 es apart less parts.0)
          ∙ ap (λ (o : Option Name). line_under o e.1 ++ [])
          (not_within dir e.0 apart))
    ] refl
  where
    within_child : (d : Path) (n : Name) → is_within d (d ++ n ∷ []) ≡ true
    within_child [] n = refl
    within_child (m ∷ d) n = and_from (same_name m m) (is_within d (d ++ n ∷ [])) (same_name-itself m) (within_child d n)

    not_within : (d p : Path) → is_within d p ≡ false → name_below d p ≡ None
    not_within d p apart = chosen (name_below d p) refl
      where
        chosen : (o : Option Name) → name_below d p ≡ o → o ≡ None
        chosen None is = refl
        chosen (Some n) is =
            absurd (true≢false (sym (ap (is_within d) (below_is d p n is) ∙ within_child d n) ∙ apart))

-- what stands before a directory isn't in it, nor is itself
pub no_lines_before : (front : HostTree) (dir : Path) (rest : HostTree)
    → list_all (λ e. is_lt (path_cmp e.0 dir)) front ≡ true
    → lines_in (front ++ rest) dir ≡ lines_in rest dir
no_lines_before [] dir rest before = refl
no_lines_before (e ∷ front) dir rest before =
    let parts = and_parts (is_lt (path_cmp e.0 dir)) (list_all (λ x. is_lt (path_cmp x.0 dir)) front) before in
    let turned : is_lt (path_cmp dir e.0) ≡ false =
    ap is_lt (path_total.antisymm dir e.0 ∙ ap ordering_reverse (less_is (path_cmp e.0 dir) parts.0)) in
    ap (λ (o : Option Name). line_under o e.1 ++ lines_in (front ++ rest) dir) (none_below dir e.0 turned)
    ∙ no_lines_before front dir rest parts.1

pub no_line_itself : (dir : Path) → name_below dir dir ≡ None
no_line_itself dir = none_below dir dir (ap is_lt (tied_itself path_total dir))
