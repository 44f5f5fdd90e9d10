-- What differs between what trees show is told without the bytes of their files.
use Rattle.std.proofs.Common.{◌≡◌, ℕ, Bool, true, false, cond, ◌&&◌, not, List, [], ◌∷◌, ◌++◌, Option, Some, None, refl, sym, ap, ◌∙◌, is_some}
use Rattle.std.specs.Prelude.{option_and_then}
use Rattle.std.specs.declared.cmp.Ordering.TheVariants.{Less, Equal, Greater}
use Rattle.std.specs.Ordering.{is_eq}
use Rattle.std.specs.Str.{bytes_eq}
use Rattle.std.specs.FinMap.{find, is_sorted}
use Rattle.std.specs.FinMap.Entries.{below_all, by_order}
use Rattle.std.proofs.lemmas.Bool.{and_parts}
use Rattle.std.proofs.lemmas.Option.{same_Some}
use Rattle.nl_types.specs.declared.reply.Object.{Object}
use Rattle.nl_types.specs.declared.reply.Object.TheVariants as objects
use Rattle.nl_types.specs.Plain.Paths.{Name, Path, is_name, path_cmp, same_name, same_path}
use Rattle.nl_types.specs.Plain.Trees.{Tree, lookup}
use Rattle.nl_types.specs.Facts.Lookups.{same_path-itself}
use Rattle.nl_types.specs.Facts.TreeLaws.{paths_equal, same_path-equal}
use Rattle.nl_folders.specs.declared.differences.Difference.TheVariants as difference
use Rattle.nl_folders.specs.Differences.{DifferencesAreExact, difference_of, differences}
use Rattle.nl_manifests.specs.declared.attributes.Attributes.{Attributes}
use Rattle.nl_manifests.specs.declared.comparing.HostDifference.{HostDifference}
use Rattle.nl_manifests.specs.declared.comparing.HostDifference.TheVariants.{Added, Removed, Replaced, Rewritten}
use Rattle.nl_manifests.specs.declared.host_tree.HostObject.{HostObject}
use Rattle.nl_manifests.specs.declared.host_tree.HostObject.TheVariants.{Directory, File, Link}
use Rattle.nl_manifests.specs.declared.host_tree.HostEntry.{HostEntry}
use Rattle.nl_manifests.specs.declared.manifest.Line.{Line}
use Rattle.nl_manifests.specs.declared.manifest.LineKind.{LineKind}
use Rattle.nl_manifests.specs.declared.manifest.LineKind.TheVariants as kind
use Rattle.nl_manifests.specs.declared.manifest.Manifest.{Manifest}
use Rattle.nl_manifests.specs.HostDifferences.{HostDifferences, Rewrites, all_added, are_alike, beside, differences_by, entry_difference, have_other_bytes, is_of_bytes, object_difference, or_changed, told, told_by, unless}
use Rattle.nl_manifests.specs.HostTrees.{HostTree, Shows, TreesShowOne, last_name, line_in, manifest_above, manifest_at, manifest_name, parted, shown_at, shown_file, shown_in, shown_link, told_of_link}
use Rattle.nl_manifests.specs.Unread.{DifferencesNeedNoBytes, unread}
use Rattle.nl_manifests.proofs.Kept.{not_none}
use Rattle.nl_manifests.proofs.Sorted.{absent}
use Rattle.nl_manifests.proofs.UnreadTrees.{all_made, bare, bare_object, bare_shows}

-- ---- of objects

-- a file without its bytes is told of as the file
object_same : (name : Name) (rewrites others : Bool) (old new : HostObject)
    → ((a b : List ℕ) → old ≡ File a → new ≡ File b → rewrites ≡ others)
    → object_difference rewrites (bare_object name old) (bare_object name new) ≡ object_difference others old new
object_same name rewrites others Directory Directory told = refl
object_same name rewrites others Directory (File b) told =
    elim (same_name name manifest_name) as (λ t.
    object_difference rewrites Directory (cond t (File b) (File [])) ≡ Some Replaced)
    [ true ↦ refl | false ↦ refl ]
object_same name rewrites others Directory (Link b) told = refl
object_same name rewrites others (File a) Directory told =
    elim (same_name name manifest_name) as (λ t.
    object_difference rewrites (cond t (File a) (File [])) Directory ≡ Some Replaced)
    [ true ↦ refl | false ↦ refl ]
object_same name rewrites others (File a) (File b) told =
    elim (same_name name manifest_name) as (λ t.
    object_difference rewrites (cond t (File a) (File [])) (cond t (File b) (File []))
    ≡ unless (not rewrites) Rewritten)
    [ true ↦ refl | false ↦ refl ]
    ∙ ap (λ t. unless (not t) Rewritten) (told a b refl refl)
object_same name rewrites others (File a) (Link b) told =
    elim (same_name name manifest_name) as (λ t.
    object_difference rewrites (cond t (File a) (File [])) (Link b) ≡ Some Replaced)
    [ true ↦ refl | false ↦ refl ]
object_same name rewrites others (Link a) Directory told = refl
object_same name rewrites others (Link a) (File b) told =
    elim (same_name name manifest_name) as (λ t.
    object_difference rewrites (Link a) (cond t (File b) (File [])) ≡ Some Replaced)
    [ true ↦ refl | false ↦ refl ]
object_same name rewrites others (Link a) (Link b) told = refl

-- ---- of trees that differ in the bytes of files

-- an entry behind the first one is found among all
found_behind : (e : Path × HostEntry) (es : HostTree) (p : Path) (x : HostEntry)
    → is_sorted path_cmp (e ∷ es) ≡ true → find path_cmp p es ≡ Some x → find path_cmp p (e ∷ es) ≡ Some x
found_behind e es p x sorted found =
    elim (same_path p e.0) as (λ t. same_path p e.0 ≡ t → cond t (Some e.1) (find path_cmp p es) ≡ Some x) [
      | true ↦ λ same.
          let below = (and_parts (below_all path_cmp e.0 es) (is_sorted path_cmp es) sorted).0 in
          let none : find path_cmp p es ≡ None =
          ap (λ (q : Path). find path_cmp q es) (same_path-equal p e.0 same) ∙ absent e.0 es below in
          absurd (not_none x (sym none ∙ found))
      | false ↦ λ _. found
    ] refl

found_first : (e : Path × HostEntry) (es : HostTree) → find path_cmp e.0 (e ∷ es) ≡ Some e.1
found_first e es = ap (λ t. cond t (Some e.1) (find path_cmp e.0 es)) (same_path-itself e.0)

abbrev exactly : HostTree → HostTree → HostDifferences
exactly old new = differences_by (λ path one other. have_other_bytes one other) old new

module _ (r : Rewrites) where
  -- at each path that both have, the same is told with and without the bytes
  abbrev Alike : HostTree → HostTree → Type 0
  Alike old new =
      (p : Path) (x y : HostEntry) → find path_cmp p old ≡ Some x → find path_cmp p new ≡ Some y
      → entry_difference (r p (bare p x).object (bare p y).object) (bare p x) (bare p y)
      ≡ entry_difference (have_other_bytes x.object y.object) x y

  added_same : (new : HostTree) → all_added (all_made bare new) ≡ all_added new
  added_same [] = refl
  added_same (f ∷ new) = ap (λ (d : HostDifferences). (f.0, Added) ∷ d) (added_same new)

  module _ (e : Path × HostEntry) (old : HostTree) (sorted : is_sorted path_cmp (e ∷ old) ≡ true)
      (rest : (new : HostTree) → is_sorted path_cmp new ≡ true → Alike old new
      → differences_by r (all_made bare old) (all_made bare new) ≡ exactly old new) where
    -- what is told of the first old entry and a new one, without bytes
    abbrev at_both : Path × HostEntry → Option HostDifference
    at_both f =
        entry_difference (r e.0 (bare e.0 e.1).object (bare f.0 f.1).object) (bare e.0 e.1) (bare f.0 f.1)

    beside_same : (new : HostTree) → is_sorted path_cmp new ≡ true → Alike (e ∷ old) new
        → beside r (e.0, bare e.0 e.1) (differences_by r (all_made bare old)) (all_made bare new)
        ≡ beside (λ path one other. have_other_bytes one other) e (exactly old) new
    beside_same [] s alike =
        ap (λ (d : HostDifferences). (e.0, Removed) ∷ d)
        (rest [] refl (λ p x y one other. absurd (not_none y other)))
    beside_same (f ∷ new) s alike =
        let news = and_parts (below_all path_cmp f.0 new) (is_sorted path_cmp new) s in
        let behind : Alike old (f ∷ new) =
        λ p x y one other. alike p x y (found_behind e old p x sorted one) other in
        elim (path_cmp e.0 f.0) as (λ o. path_cmp e.0 f.0 ≡ o → by_order o
        ((e.0, Removed) ∷ differences_by r (all_made bare old) (all_made bare (f ∷ new)))
        (told e.0 (at_both f)
        ++ differences_by r (all_made bare old) (all_made bare new))
        ((f.0, Added)
        ∷ beside r (e.0, bare e.0 e.1) (differences_by r (all_made bare old)) (all_made bare new))
        ≡ by_order o
        ((e.0, Removed) ∷ exactly old (f ∷ new))
        (told e.0 (entry_difference (have_other_bytes e.1.object f.1.object) e.1 f.1) ++ exactly old new)
        ((f.0, Added) ∷ beside (λ path one other. have_other_bytes one other) e (exactly old) new)) [
          | Less ↦ λ _. ap (λ (d : HostDifferences). (e.0, Removed) ∷ d) (rest (f ∷ new) s behind)
          | Equal ↦ λ tied.
              let keys : e.0 ≡ f.0 = paths_equal e.0 f.0 tied in
              let here : at_both f
              ≡ entry_difference (have_other_bytes e.1.object f.1.object) e.1 f.1 =
              ap (λ (q : Path). at_both (q, f.1)) (sym keys)
              ∙ alike e.0 e.1 f.1 (found_first e old)
              (ap (λ (q : Path). find path_cmp q (f ∷ new)) keys ∙ found_first f new) in
              λ i. told e.0 (here i) ++ rest new news.1
              (λ p x y one other. behind p x y one (found_behind f new p y s other)) i
          | Greater ↦ λ _. ap (λ (d : HostDifferences). (f.0, Added) ∷ d)
              (beside_same new news.1 (λ p x y one other. alike p x y one (found_behind f new p y s other)))
        ] refl

  all_same : (old new : HostTree) → is_sorted path_cmp old ≡ true → is_sorted path_cmp new ≡ true
      → Alike old new
      → differences_by r (all_made bare old) (all_made bare new) ≡ exactly old new
  all_same [] new s t alike = added_same new
  all_same (e ∷ old) new s t alike =
      let olds = and_parts (below_all path_cmp e.0 old) (is_sorted path_cmp old) s in
      beside_same e old s (λ n u a. all_same old n olds.1 u a) new t alike

-- ---- of trees of a volume

abbrev bytes_shown : HostObject → Option (List ℕ)
bytes_shown Directory = None
bytes_shown (File bytes) = Some bytes
bytes_shown (Link target) = None

abbrev bytes_of : Option Object → Option (List ℕ)
bytes_of None = None
bytes_of (Some objects.Dir) = None
bytes_of (Some (objects.File bytes)) = Some bytes

link_has_none : (k : LineKind) (a : Attributes) (x : HostEntry) → told_of_link k a ≡ Some x
    → bytes_shown x.object ≡ None
link_has_none kind.File a x is = absurd (not_none x is)
link_has_none (kind.Link target) a x is = ap (λ (e : HostEntry). bytes_shown e.object) (sym (same_Some _ x is))

-- a file is shown with the bytes that it has
bytes_are : (above : Option Manifest) (name : Name) (own : Option Manifest) (o : Option Object) (x : HostEntry)
    → shown_in above name own o ≡ Some x → bytes_shown x.object ≡ bytes_of o
bytes_are above name own None x is = by (is_name name) (line_in above name) is
  where
    by : (named : Bool) (line : Option Line)
        → ◌≡◌ {A = Option HostEntry}
        (cond named (option_and_then (λ l. told_of_link l.kind l.attributes) line) None) (Some x)
        → bytes_shown x.object ≡ None
    by false line is = absurd (not_none x is)
    by true None is = absurd (not_none x is)
    by true (Some l) is = link_has_none l.kind l.attributes x is
bytes_are above name own (Some objects.Dir) x is =
    ap (λ (e : HostEntry). bytes_shown e.object) (sym (same_Some _ x is))
bytes_are above name own (Some (objects.File bytes)) x is =
    by (is_some above && same_name name manifest_name) is
  where
    by : (hidden : Bool)
        → ◌≡◌ {A = Option HostEntry}
        (cond hidden None (Some (shown_file bytes (line_in above name)))) (Some x)
        → bytes_shown x.object ≡ Some bytes
    by true is = absurd (not_none x is)
    by false is = ap (λ (e : HostEntry). bytes_shown e.object) (sym (same_Some _ x is))

told_of_bytes : (one other : Option Object) (a b : List ℕ) → bytes_of one ≡ Some a → bytes_of other ≡ Some b
    → is_of_bytes (difference_of one other) ≡ not (bytes_eq a b)
told_of_bytes None other a b is has = absurd (not_none a is)
told_of_bytes (Some objects.Dir) other a b is has = absurd (not_none a is)
told_of_bytes (Some (objects.File x)) None a b is has = absurd (not_none b has)
told_of_bytes (Some (objects.File x)) (Some objects.Dir) a b is has = absurd (not_none b has)
told_of_bytes (Some (objects.File x)) (Some (objects.File y)) a b is has =
    elim (bytes_eq x y) as (λ t. is_of_bytes (cond t None (Some difference.Rewritten)) ≡ not t)
    [ true ↦ refl | false ↦ refl ]
    ∙ (λ i. not (bytes_eq (same_Some x a is i) (same_Some y b has i)))

abbrev told_at : Tree → Tree → Path → Bool
told_at old new p = is_of_bytes (find path_cmp p (differences old new))

pub need_no_bytes : DifferencesAreExact → TreesShowOne → DifferencesNeedNoBytes
need_no_bytes exact show_one old new one other before after s t is_one is_other is_before is_after =
    (λ i. differences_by (told_by (differences old new)) (first i) (second i))
    ∙ all_same (told_by (differences old new)) one other is_one.ordered is_other.ordered alike
  where
    first : before ≡ all_made bare one
    first = show_one (unread old) before (all_made bare one) is_before (bare_shows old one is_one)

    second : after ≡ all_made bare other
    second = show_one (unread new) after (all_made bare other) is_after (bare_shows new other is_other)

    rewrites : (p : Path) (x y : HostEntry) → find path_cmp p one ≡ Some x → find path_cmp p other ≡ Some y
        → (a b : List ℕ) → x.object ≡ File a → y.object ≡ File b
        → told_at old new p ≡ have_other_bytes x.object y.object
    rewrites p x y is has a b of_a of_b =
        let q = parted p in
        let in_old : bytes_of (lookup old p) ≡ Some a =
        sym (bytes_are (manifest_above old q) (last_name q) (manifest_at old p) (lookup old p) x
        (sym (is_one.each p) ∙ is)) ∙ ap bytes_shown of_a in
        let in_new : bytes_of (lookup new p) ≡ Some b =
        sym (bytes_are (manifest_above new q) (last_name q) (manifest_at new p) (lookup new p) y
        (sym (is_other.each p) ∙ has)) ∙ ap bytes_shown of_b in
        ap is_of_bytes (exact old new s t p)
        ∙ told_of_bytes (lookup old p) (lookup new p) a b in_old in_new
        ∙ (λ i. have_other_bytes (sym of_a i) (sym of_b i))

    alike : Alike (told_by (differences old new)) one other
    alike p x y is has =
        ap (λ (d : Option HostDifference). or_changed d (are_alike x.attributes y.attributes))
        (object_same (last_name (parted p)) (told_at old new p) (have_other_bytes x.object y.object) x.object y.object
        (rewrites p x y is has))
