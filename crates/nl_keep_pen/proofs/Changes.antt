-- What checkpoints show, and which of them show a change.
use Rattle.std.proofs.Common.{◌≡◌, ℕ, Bor, Bool, true, false, cond, ◌||◌, List, [], ◌∷◌, Option, Some, None, refl, sym, ap, ◌∙◌, subst, is_some, true≢false, eq-eqb}
use Rattle.std.specs.Prelude.{◌==◌, option_and_then}
use Rattle.std.specs.Option.{option_copied}
use Rattle.std.proofs.lemmas.Option.{same_Some}
use Rattle.std.specs.FinMap.{find}
use Rattle.std.specs.Str.{bytes_eq}
use Rattle.std.proofs.lemmas.Slice.Eq.{bytes_eq-Decides}
use Rattle.nl_types.specs.Plain.Paths.{Path, path_cmp, same_path, is_within}
use Rattle.nl_types.specs.Plain.Trees.{Tree, IsTree}
use Rattle.nl_types.specs.Plain.Worlds.{World, Copy, IsWorld, copy_at}
use Rattle.nl_types.specs.Facts.Lookups.{apart_by, same_path-itself}
use Rattle.nl_folders.specs.Differences.{Differences, DifferencesAreExact, differences}
use Rattle.nl_manifests.specs.declared.attributes.Attributes.{Attributes}
use Rattle.nl_manifests.specs.declared.comparing.HostDifference.{HostDifference}
use Rattle.nl_manifests.specs.declared.host_tree.HostObject.TheVariants.{Directory, File, Link}
use Rattle.nl_manifests.specs.declared.host_tree.HostObject.{HostObject}
use Rattle.nl_manifests.specs.declared.host_tree.HostEntry.{HostEntry}
use Rattle.nl_manifests.specs.HostDifferences.{HostDifferences, HostDifferencesAreExact, are_alike, differences_by, have_other_bytes, host_difference_of, host_differences, object_difference, told_by}
use Rattle.nl_manifests.specs.HostTrees.{HostTree, Shows, shown_at}
use Rattle.nl_manifests.specs.Unread.{DifferencesNeedNoBytes, unread}
use Rattle.nl_keep_pen.specs.Compared.{DifferBy}
use Rattle.nl_keep_pen.specs.History.{AgreeBelow, IsChange, any_within, difference_in, shown_in}
use Rattle.nl_pins.specs.Trees.{without_pins}
use Rattle.nl_keep_pen.specs.Facts.UnreadTrees.{unread_is_tree}
use Rattle.nl_keep_pen.proofs.FilledTrees.{is_shown, whole_shown}
use Rattle.nl_keep_pen.proofs.PinlessTrees.{pinless_is_tree, sorted_pinless, told_pinless, unread_pinless}

-- ---- of one tree nothing differs

bytes_same : (bytes : List ℕ) → bytes_eq bytes bytes ≡ true
bytes_same bytes = (bytes_eq-Decides bytes bytes).1 refl

number_same : (n : ℕ) → (n == n) ≡ true
number_same n = eq-eqb n n refl

object_same : (object : HostObject) → object_difference (have_other_bytes object object) object object ≡ None
object_same Directory = refl
object_same (File bytes) = rw (bytes_same bytes) refl
object_same (Link target) = rw (bytes_same target) refl

alike : (a : Option Attributes) → are_alike a a ≡ true
alike None = refl
alike (Some a) = rw (number_same a.mode) (rw (number_same a.owner) (number_same a.group))

one_differs_not : (e : Option HostEntry) → host_difference_of e e ≡ None
one_differs_not None = refl
one_differs_not (Some e) = rw (object_same e.object) (rw (alike e.attributes) refl)

-- what a tree without pins shows is what the checkpoint does
shown_of : (w : World) (n : ℕ) (copy : Copy) (p : Path) → copy_at w n ≡ Some copy
    → shown_in w n p ≡ shown_at (without_pins copy.tree) p
shown_of w n copy p is =
    ap (λ (o : Option Copy). option_and_then (λ (c : Copy). shown_at (without_pins c.tree) p) o) is

pub same_agree : (w : World) (m n : ℕ) (top : Path) (one other : Copy) → copy_at w m ≡ Some one
    → copy_at w n ≡ Some other → one.tree ≡ other.tree → AgreeBelow w m n top
same_agree w m n top one other in_m in_n same path within =
    (λ i. host_difference_of (shown_of w m one path in_m i)
    ((shown_of w n other path in_n ∙ sym (ap (λ (t : Tree). shown_at (without_pins t) path) same)) i))
    ∙ one_differs_not (shown_at (without_pins one.tree) path)

-- ---- at and below a path

behind : (e : Path × HostDifference) (all : HostDifferences) (p : Path) (d : HostDifference)
    → find path_cmp p all ≡ Some d → (x : HostDifference) × (find path_cmp p (e ∷ all) ≡ Some x)
behind e all p d is =
    elim (same_path p e.0) as (λ t.
    (x : HostDifference) × (cond t (Some e.1) (find path_cmp p all) ≡ Some x)) [
      | true ↦ (e.1, refl)
      | false ↦ (d, is)
    ]

-- a difference is told there where any is
pub any_is : (top : Path) (all : HostDifferences) → any_within top all ≡ true
    → (p : Path) × (is_within top p ≡ true) × (d : HostDifference) × (find path_cmp p all ≡ Some d)
any_is top [] none = absurd (true≢false (sym none))
any_is top (e ∷ all) some =
    elim (is_within top e.0) as (λ t. is_within top e.0 ≡ t → (t || any_within top all) ≡ true
    → (p : Path) × (is_within top p ≡ true) × (d : HostDifference) × (find path_cmp p (e ∷ all) ≡ Some d)) [
      | true ↦ λ within _.
          (e.0, within, e.1, ap (λ t. cond t (Some e.1) (find path_cmp e.0 all)) (same_path-itself e.0))
      | false ↦ λ _ later.
          let found = any_is top all later in
          let more = behind e all found.0 found.2 found.3 in
          (found.0, found.1, more.0, more.1)
    ] refl some

-- and none where none is
pub none_is : (top : Path) (all : HostDifferences) → any_within top all ≡ false → (p : Path)
    → is_within top p ≡ true → find path_cmp p all ≡ None
none_is top [] none p within = refl
none_is top (e ∷ all) none p within =
    elim (is_within top e.0) as (λ t. is_within top e.0 ≡ t → (t || any_within top all) ≡ false
    → find path_cmp p (e ∷ all) ≡ None) [
      | true ↦ λ _ some. absurd (true≢false some)
      | false ↦ λ other later.
          ap (λ t. cond t (Some e.1) (find path_cmp p all)) (apart_by (is_within top) p e.0 within other)
          ∙ none_is top all later p within
    ] refl none

pub are_below : (w : World) (m n : ℕ) (top : Path) (all : HostDifferences) (any : Bool)
    → any ≡ any_within top all → ((p : Path) → find path_cmp p all ≡ difference_in w m n p)
    → IsChange w top (Some m) n any
are_below w m n top all true is exact =
    let found = any_is top all (sym is) in
    record {
      path = found.0;
      within = found.1;
      difference = found.2;
      differs = sym (exact found.0) ∙ found.3;
    }
are_below w m n top all false is exact =
    λ p within. sym (exact p) ∙ none_is top all (sym is) p within

-- ---- what two checkpoints show

pub is_some_copied : {X : Type 0} (o : Option (Bor X)) → is_some o ≡ is_some (option_copied o)
is_some_copied None = refl
is_some_copied (Some x) = refl

-- what is opened of an unread tree without its pins is what the tree without them shows, but for bytes
pub shows_pinless : (tree read rest : Tree) (shown : HostTree) → IsTree tree → read ≡ unread tree
    → rest ≡ without_pins read → (IsTree rest → Shows rest shown) → Shows (unread (without_pins tree)) shown
shows_pinless tree read rest shown is_tree is_read is_rest shows =
    let same : rest ≡ unread (without_pins tree) = is_rest ∙ ap without_pins is_read ∙ unread_pinless tree in
    subst (λ (t : Tree). Shows t shown) same
    (shows (subst IsTree (sym same) (unread_is_tree (without_pins tree) (pinless_is_tree tree is_tree))))

pub shows_anything : (w : World) (n : ℕ) (copy : Copy) (top : Path) (shown : HostTree) (is : Bool)
    → copy_at w n ≡ Some copy → Shows (unread (without_pins copy.tree)) shown
    → is ≡ is_some (find path_cmp top shown) → is_some (shown_in w n top) ≡ is
shows_anything w n copy top shown is kept shows told =
    ap is_some (shown_of w n copy top kept) ∙ sym (is_shown (without_pins copy.tree) top)
    ∙ sym (ap is_some (shows.each top)) ∙ sym told

-- What both trees show without bytes, and what differs between them beside their pins, tell all that differs between
-- what they show.
pub whole_told : DifferencesAreExact → DifferencesNeedNoBytes → (one other : Tree) → IsTree one → IsTree other
    → (of_objects : Differences) (before after : HostTree) (all : HostDifferences)
    → of_objects ≡ without_pins (differences one other)
    → Shows (unread (without_pins one)) before → Shows (unread (without_pins other)) after
    → all ≡ differences_by (told_by of_objects) before after
    → (x : HostTree) × Shows (without_pins one) x × (y : HostTree) × Shows (without_pins other) y
    × (all ≡ host_differences x y)
whole_told exact need_none one other first second of_objects before after all of is_before is_after told =
    let old = without_pins one in
    let new = without_pins other in
    let old_shown = whole_shown old before is_before in
    let new_shown = whole_shown new after is_after in (
      old_shown.0,
      old_shown.1,
      new_shown.0,
      new_shown.1,
      told
          ∙ (λ i. differences_by ((ap told_by of
          ∙ told_pinless exact one other first.ordered second.ordered) i) before after)
          ∙ need_none old new old_shown.0 new_shown.0 before after (sorted_pinless one first.ordered)
          (sorted_pinless other second.ordered) old_shown.1 new_shown.1 is_before is_after,
    )

module _ (exact : DifferencesAreExact) (need_none : DifferencesNeedNoBytes) (host_exact : HostDifferencesAreExact)
    (w : World) (m n : ℕ) where
  of_copies : (one other : Copy) → copy_at w m ≡ Some one → copy_at w n ≡ Some other → IsTree one.tree
      → IsTree other.tree
      → (of_objects : Differences) (before after : HostTree) (all : HostDifferences)
      → of_objects ≡ without_pins (differences one.tree other.tree)
      → Shows (unread (without_pins one.tree)) before → Shows (unread (without_pins other.tree)) after
      → all ≡ differences_by (told_by of_objects) before after
      → (p : Path) → find path_cmp p all ≡ difference_in w m n p
  of_copies one other in_m in_n first second of_objects before after all of is_before is_after told p =
      let d = whole_told exact need_none one.tree other.tree first second of_objects before after all of is_before
      is_after told in
      let shows_old : Shows (without_pins one.tree) d.0 = d.1 in
      let shows_new : Shows (without_pins other.tree) d.2 = d.3 in
      ap (λ (all : HostDifferences). find path_cmp p all) d.4
      ∙ host_exact d.0 d.2 shows_old.ordered shows_new.ordered p
      ∙ (λ i. host_difference_of ((shows_old.each p ∙ sym (shown_of w m one p in_m)) i)
      ((shows_new.each p ∙ sym (shown_of w n other p in_n)) i))

  -- and of two checkpoints that are kept
  pub trees_differ : (of_trees of_objects : Differences) (one other : Copy) → DifferBy m n of_trees w
      → copy_at w m ≡ Some one → copy_at w n ≡ Some other → of_objects ≡ without_pins of_trees
      → of_objects ≡ without_pins (differences one.tree other.tree)
  trees_differ of_trees of_objects one other differ in_m in_n of =
      let before = differ.keeps_before in
      let after = differ.keeps_after in
      let same_one : one.tree ≡ differ.before =
      ap (λ (c : Copy). c.tree) (same_Some one before.copy (sym in_m ∙ before.kept)) ∙ before.has in
      let same_other : other.tree ≡ differ.after =
      ap (λ (c : Copy). c.tree) (same_Some other after.copy (sym in_n ∙ after.kept)) ∙ after.has in
      of ∙ ap without_pins (differ.exact ∙ (λ i. differences (sym same_one i) (sym same_other i)))

  -- what differs between two checkpoints, without pins, and what both show without bytes, tell all
  pub shown_differ : IsWorld w → (of_trees of_objects : Differences) (before after : HostTree)
      (all : HostDifferences) → DifferBy m n of_trees w → of_objects ≡ without_pins of_trees
      → ((copy : Copy) → copy_at w m ≡ Some copy → Shows (unread (without_pins copy.tree)) before)
      → ((copy : Copy) → copy_at w n ≡ Some copy → Shows (unread (without_pins copy.tree)) after)
      → all ≡ differences_by (told_by of_objects) before after
      → (p : Path) → find path_cmp p all ≡ difference_in w m n p
  shown_differ world of_trees of_objects before after all differ of is_before is_after told =
      let one = differ.keeps_before in
      let other = differ.keeps_after in
      of_copies one.copy other.copy one.kept other.kept (world.trees m one.copy one.kept)
      (world.trees n other.copy other.kept) of_objects before after all
      (of ∙ ap without_pins (differ.exact ∙ (λ i. differences (sym one.has i) (sym other.has i))))
      (is_before one.copy one.kept) (is_after other.copy other.kept) told
