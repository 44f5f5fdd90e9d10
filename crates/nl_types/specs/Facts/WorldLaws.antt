-- A new volume is a world, and each event leaves one.
use Rattle.std.proofs.Common.{◌≡◌, ℕ, ◌+◌, ◌<◌, ◌≤◌, Bool, true, false, not, cond, ◌&&◌, List, [], ◌∷◌, ◌++◌, map, length, Option, Some, None, Ok, refl, sym, ap, ◌∙◌, subst, true≢false, arith, is_some, ltb, leb, ltb-true, lt-ltb, leb-true, le-leb, leb-false, eqb-true}
use Rattle.std.specs.Prelude.{◌==◌, IfOk}
use Rattle.std.specs.List.{filter, list_all}
use Rattle.std.specs.Option.{ForSome, option_map, option_map_or}
use Rattle.std.proofs.lemmas.Bool.{and_parts, and_from, or_parts}
use Rattle.std.proofs.lemmas.List.Folds.{list_all-map}
use Rattle.std.proofs.lemmas.Option.{same_Some}
use Rattle.std.specs.Ordering.{nat_cmp, eq_by_cmp}
use Rattle.std.specs.FinMap.{find, is_sorted}
use Rattle.std.specs.FinMap.Entries.{below_all}
use Rattle.nl_types.specs.declared.event.Change.{Change}
use Rattle.nl_types.specs.declared.event.Mode.{Mode}
use Rattle.nl_types.specs.declared.event.Mode.TheVariants.{Plain, Snapshot}
use Rattle.nl_types.specs.declared.reply.Answer.{Answer}
use Rattle.nl_types.specs.declared.reply.Object.TheVariants.{Dir, File}
use Rattle.nl_types.specs.Plain.Limits.{checkpoint_number_limit, mount_number_limit, file_limit}
use Rattle.nl_types.specs.Plain.Paths.{Path, Name, is_name}
use Rattle.nl_types.specs.Plain.Trees.{Tree, IsTree, lookup, root_alone}
use Rattle.nl_types.specs.Plain.Calls.{change, is_dirtying}
use Rattle.nl_types.specs.Plain.NumberLists.{is_one_of}
use Rattle.nl_types.specs.Plain.Rows.{is_snapshot}
use Rattle.nl_types.specs.Plain.Worlds.{World, Copy, IsWorld, Outcome, Reply, formatted, copy_at, latest, latest_stamp, greatest_stamp, are_stamps_rising, minor_copy, with_minor, moded, copies_with_mode, expiry_of, is_mounted, take_out}
use Rattle.nl_types.specs.Plain.Laws.{StepsKeepWorlds}
use Rattle.nl_types.specs.Facts.ChangeLaws.{change-IsTree, change-same}
use Rattle.nl_types.specs.Facts.NumberedLists.{AllBelow, AllBelow-top, list_all_weaken, list_all-push, option_map-find_stays, find-push_same, ForSome-find-push, is_sorted-push, top-push, find_top_later, find_top_one}
use Rattle.nl_types.specs.Facts.NumberedParts.{list_all-filter, find-kept, is_sorted-kept, find-valued, is_sorted-valued, top-valued}
use Rattle.nl_types.specs.Facts.ToldCopies.{MayBecome, range_of}
use Rattle.nl_types.specs.Facts.EventCases.{EachEvent, step_gives, after_change, new_copy, after_checkpoint, after_mode, after_mount, after_unmount}
use Rattle.nl_types.specs.Facts.Expiries.{expiry_may_go}
use Rattle.nl_types.specs.Facts.TakenOut.{AllMayGo, one_may_go, range_may_go, copy_at-take_out, latest-take_out, mounted_if_found}

-- ---- a new volume

-- the root alone is a tree
root_is_tree : IsTree root_alone
root_is_tree = record {
  ordered = refl;
  root = refl;
  parents = nothing_below;
  names = names;
  sizes = sizes;
  count = omega arith;
}
  where
    names : (path : Path) → is_some (lookup root_alone path) ≡ true → list_all is_name path ≡ true
    names [] there = refl
    names (n ∷ path) there = absurd (true≢false (sym there))

    sizes : (path : Path) (bytes : List ℕ) → lookup root_alone path ≡ Some (File bytes)
        → length bytes ≤ file_limit
    sizes [] bytes is = cc
    sizes (n ∷ path) bytes is = cc

    nothing_below : (path : Path) (name : Name) → is_some (lookup root_alone (path ++ name ∷ [])) ≡ true
        → lookup root_alone path ≡ Some Dir
    nothing_below [] name there = absurd (true≢false (sym there))
    nothing_below (n ∷ path) name there = absurd (true≢false (sym there))

-- the copy that a new volume has
abbrev first_copy : ℕ → Copy
first_copy now = record { tree = root_alone; mode = Plain; minor = false; stamp = now }

-- a new volume is a world
pub formatted_is_world : (now : ℕ) → IsWorld (formatted now)
formatted_is_world now = record {
  tree = root_is_tree;
  trees = λ n. first_tree (eq_by_cmp nat_cmp n 1);
  clean = λ _. refl;
  numbers_rise = refl;
  latest_kept = refl;
  numbers_fit = refl;
  stamps_rise = refl;
  mounts_rise = refl;
  mounts_given = refl;
  given_fits = refl;
  mounted = λ m n there. absurd (true≢false (sym (ap is_some there)));
}
  where
    first_tree : (b : Bool)
        → ForSome (cond b (Some (first_copy now)) None) (λ (copy : Copy). IsTree copy.tree)
    first_tree true = λ copy is.
        subst (λ (c : Copy). IsTree c.tree) (same_Some (first_copy now) copy is) root_is_tree
    first_tree false = λ copy is. absurd (true≢false (sym (ap is_some is)))

-- ---- worlds

-- where stamps rise, none is above that of the greatest number
stamps_below : (copies : List (ℕ × Copy)) → is_sorted nat_cmp copies ≡ true → are_stamps_rising copies ≡ true
    → list_all (λ c. leb c.1.stamp (greatest_stamp copies)) copies ≡ true
stamps_below [] sorted rising = refl
stamps_below (e ∷ []) sorted rising =
    let own : greatest_stamp (e ∷ []) ≡ e.1.stamp =
    ap (λ (o : Option Copy). option_map_or (λ (c : Copy). c.stamp) o 0) (find_top_one e) in
    and_from (leb e.1.stamp (greatest_stamp (e ∷ []))) true
    (le-leb e.1.stamp (greatest_stamp (e ∷ [])) (omega arith)) refl
stamps_below (e ∷ f ∷ copies) sorted rising =
    let later = f ∷ copies in
    let top = greatest_stamp later in
    let same : top ≡ greatest_stamp (e ∷ later) =
    ap (λ (o : Option Copy). option_map_or (λ (c : Copy). c.stamp) o 0)
    (sym (find_top_later e f copies sorted)) in
    let risen = and_parts (list_all (λ d. leb e.1.stamp d.1.stamp) later) (are_stamps_rising later) rising in
    let rest =
    stamps_below (f ∷ copies)
    (and_parts (below_all nat_cmp e.0 later) (is_sorted nat_cmp later) sorted).1 risen.1 in
    let next : e.1.stamp ≤ f.1.stamp =
    leb-true e.1.stamp f.1.stamp
    (and_parts (leb e.1.stamp f.1.stamp) (list_all (λ d. leb e.1.stamp d.1.stamp) copies) risen.0).0 in
    let last : f.1.stamp ≤ top =
    leb-true f.1.stamp top
    (and_parts (leb f.1.stamp top) (list_all (λ d. leb d.1.stamp top) copies) rest).0 in
    subst (λ n. list_all (λ c. leb c.1.stamp n) (e ∷ later) ≡ true) same
    (and_from (leb e.1.stamp top) (list_all (λ c. leb c.1.stamp top) later)
    (le-leb e.1.stamp top (omega arith)) rest)

-- where none is above a new stamp, they rise with it
stamps_rise-push : (copies : List (ℕ × Copy)) (c : ℕ × Copy)
    → list_all (λ d. leb d.1.stamp c.1.stamp) copies ≡ true → are_stamps_rising copies ≡ true
    → are_stamps_rising (copies ++ c ∷ []) ≡ true
stamps_rise-push [] c below rising = refl
stamps_rise-push (d ∷ copies) c below rising =
    let bounds = and_parts (leb d.1.stamp c.1.stamp) (list_all (λ e. leb e.1.stamp c.1.stamp) copies) below in
    let risen =
    and_parts (list_all (λ e. leb d.1.stamp e.1.stamp) copies) (are_stamps_rising copies) rising in
    and_from (list_all (λ e. leb d.1.stamp e.1.stamp) (copies ++ c ∷ []))
    (are_stamps_rising (copies ++ c ∷ []))
    (list_all-push (λ e. leb d.1.stamp e.1.stamp) copies c risen.0 bounds.0)
    (stamps_rise-push copies c bounds.1 risen.1)

-- those that stay rise too
stamps_rise-filter : (p : ℕ × Copy → Bool) (copies : List (ℕ × Copy)) → are_stamps_rising copies ≡ true
    → are_stamps_rising (filter p copies) ≡ true
stamps_rise-filter p [] rising = refl
stamps_rise-filter p (c ∷ copies) rising =
    let risen =
    and_parts (list_all (λ d. leb c.1.stamp d.1.stamp) copies) (are_stamps_rising copies) rising in
    let rest = stamps_rise-filter p copies risen.1 in
    elim (p c) as (λ b. are_stamps_rising (cond b (c ∷ filter p copies) (filter p copies)) ≡ true) [
      | true ↦
          and_from (list_all (λ d. leb c.1.stamp d.1.stamp) (filter p copies))
          (are_stamps_rising (filter p copies))
          (list_all-filter (λ d. leb c.1.stamp d.1.stamp) p copies risen.0) rest
      | false ↦ rest
    ]

abbrev stamps : List (ℕ × Copy) → List ℕ
stamps copies = map (λ c. c.1.stamp) copies

abbrev are_rising : List ℕ → Bool
are_rising [] = true
are_rising (n ∷ ns) = list_all (leb n) ns && are_rising ns

stamps_are : (copies : List (ℕ × Copy)) → are_stamps_rising copies ≡ are_rising (stamps copies)
stamps_are [] = refl
stamps_are (c ∷ copies) =
    let first = sym (list_all-map (leb c.1.stamp) (λ (d : ℕ × Copy). d.1.stamp) copies) in
    let rest = stamps_are copies in
    λ i. first i && rest i

-- copies with the same stamps rise alike
rising_by_stamps : (copies others : List (ℕ × Copy)) → stamps copies ≡ stamps others
    → are_stamps_rising copies ≡ true → are_stamps_rising others ≡ true
rising_by_stamps copies others same rising =
    stamps_are others ∙ ap are_rising (sym same) ∙ sym (stamps_are copies) ∙ rising

-- a change leaves a world
change_leaves_world : (w : World) → IsWorld w → (c : Change) (done : Answer × Tree)
    → change w.tree c ≡ Ok done → IsWorld (after_change w c done.1)
change_leaves_world w world c done is = record {
  tree = subst (λ r. IfOk r (λ d. IsTree d.1)) is (change-IsTree w.tree c world.tree);
  trees = world.trees;
  clean = λ clean.
      let parts = or_parts w.dirty (is_dirtying c) clean in
      let unchanged : done.1 ≡ w.tree =
      subst (λ r. IfOk r (λ d. d.1 ≡ w.tree)) is (change-same w.tree c parts.1) in
      world.clean parts.0 ∙ ap Some (sym unchanged);
  numbers_rise = world.numbers_rise;
  latest_kept = world.latest_kept;
  numbers_fit = world.numbers_fit;
  stamps_rise = world.stamps_rise;
  mounts_rise = world.mounts_rise;
  mounts_given = world.mounts_given;
  given_fits = world.given_fits;
  mounted = world.mounted;
}

-- one more copy, under the next number, leaves a world
abbrev pushed : World → Copy → (tree : Tree) (dirty : Bool) → World
pushed w copy tree dirty =
    record w { tree = tree; dirty = dirty; copies = w.copies ++ (latest w + 1, copy) ∷ [] }

copy_leaves_world : (w : World) → IsWorld w → (copy : Copy)
    → leb checkpoint_number_limit (latest w + 1) ≡ false
    → IsTree copy.tree → latest_stamp w ≤ copy.stamp → (tree : Tree) (dirty : Bool) → IsTree tree
    → (dirty ≡ false → copy.tree ≡ tree)
    → IsWorld (pushed w copy tree dirty)
copy_leaves_world w world copy fits sound later tree dirty current clean =
    let n = latest w + 1 in
    let new = pushed w copy tree dirty in
    let below = AllBelow-top w.copies n (omega arith) in
    let newest : copy_at new (latest new) ≡ Some copy =
    ap (copy_at new) (top-push w.copies n copy below) ∙ find-push_same w.copies n copy below in
    record {
      tree = current;
      trees = λ k. ForSome-find-push (λ c. IsTree c.tree) w.copies n copy k below (world.trees k) sound;
      clean = λ is. ap (option_map (λ c. c.tree)) newest ∙ ap Some (clean is);
      numbers_rise = is_sorted-push w.copies n copy below world.numbers_rise;
      latest_kept = ap is_some newest;
      numbers_fit =
          list_all-push (λ c. ltb 0 c.0 && ltb c.0 checkpoint_number_limit) w.copies
          (n, copy) world.numbers_fit
          (and_from (ltb 0 n) (ltb n checkpoint_number_limit) (lt-ltb 0 n (omega arith))
          (lt-ltb n checkpoint_number_limit (leb-false checkpoint_number_limit n fits)));
      stamps_rise = stamps_rise-push w.copies (n, copy)
          (list_all_weaken (λ d. leb d.1.stamp (latest_stamp w)) (λ d. leb d.1.stamp copy.stamp)
          (λ d lower.
          let le : d.1.stamp ≤ latest_stamp w = leb-true d.1.stamp (latest_stamp w) lower in
          le-leb d.1.stamp copy.stamp (omega arith))
          w.copies (stamps_below w.copies world.numbers_rise world.stamps_rise))
          world.stamps_rise;
      mounts_rise = world.mounts_rise;
      mounts_given = world.mounts_given;
      given_fits = world.given_fits;
      mounted = λ m k is.
          option_map-find_stays (λ c. c.mode) w.copies ((n, copy) ∷ []) k Snapshot (world.mounted m k is);
    }

-- a checkpoint leaves a world
checkpoint_leaves_world : (w : World) → IsWorld w → (mode : Mode) (now : ℕ)
    → leb checkpoint_number_limit (latest w + 1) ≡ false → IsWorld (after_checkpoint w (new_copy w mode now))
checkpoint_leaves_world w world mode now fits =
    copy_leaves_world w world (new_copy w mode now) fits world.tree (omega arith) w.tree false world.tree
    (λ _. refl)

-- a move that makes a copy by itself leaves a world
minor_leaves_world : (w : World) → IsWorld w → (now : ℕ) → leb checkpoint_number_limit (latest w + 1) ≡ false
    → IsWorld (with_minor w now)
minor_leaves_world w world now fits = by (copy_at w (latest w)) refl
  where
    from : Option Copy → World
    from o = record w {
      copies = w.copies ++ option_map_or (λ copy. (latest w + 1, minor_copy w now copy) ∷ []) o [];
    }

    by : (o : Option Copy) → copy_at w (latest w) ≡ o → IsWorld (from o)
    by None none = absurd (true≢false (sym world.latest_kept ∙ ap is_some none))
    by (Some copy) kept =
        copy_leaves_world w world (minor_copy w now copy) fits (world.trees (latest w) copy kept)
        (omega arith) w.tree w.dirty world.tree
        (λ clean.
        same_Some copy.tree w.tree (sym (ap (option_map (λ (c : Copy). c.tree)) kept) ∙ world.clean clean))

snapshot_is : (mode : Mode) → not (is_snapshot mode) ≡ false → mode ≡ Snapshot
snapshot_is Plain is = absurd (true≢false is)
snapshot_is Snapshot is = refl

-- a mount leaves a world
mount_leaves_world : (w : World) → IsWorld w → (n : ℕ) (copy : Copy) → copy_at w n ≡ Some copy
    → not (is_snapshot copy.mode) ≡ false → leb mount_number_limit (w.given + 1) ≡ false
    → IsWorld (after_mount w n)
mount_leaves_world w world n copy there snapshot fits =
    let m = w.given + 1 in
    record {
      tree = world.tree;
      trees = world.trees;
      clean = world.clean;
      numbers_rise = world.numbers_rise;
      latest_kept = world.latest_kept;
      numbers_fit = world.numbers_fit;
      stamps_rise = world.stamps_rise;
      mounts_rise = is_sorted-push w.mounts m n below world.mounts_rise;
      mounts_given = list_all-push (λ e. ltb 0 e.0 && leb e.0 m) w.mounts (m, n) still_given
          (and_from (ltb 0 m) (leb m m) (lt-ltb 0 m (omega arith)) (le-leb m m (omega arith)));
      given_fits = lt-ltb m mount_number_limit (leb-false mount_number_limit m fits);
      mounted = λ k.
          ForSome-find-push
          (λ number. option_map (λ c. c.mode) (copy_at w number) ≡ Some Snapshot) w.mounts m n k below
          (world.mounted k)
          (ap (option_map (λ c. c.mode)) there ∙ ap Some (snapshot_is copy.mode snapshot));
    }
  where
    was_given : (e : ℕ × ℕ) → (ltb 0 e.0 && leb e.0 w.given) ≡ true → (0 < e.0) × (e.0 ≤ w.given)
    was_given e given =
        let parts = and_parts (ltb 0 e.0) (leb e.0 w.given) given in
        (ltb-true 0 e.0 parts.0, leb-true e.0 w.given parts.1)

    below : AllBelow (w.given + 1) w.mounts
    below =
        list_all_weaken (λ e. ltb 0 e.0 && leb e.0 w.given) (λ e. ltb e.0 (w.given + 1))
        (λ e given. let bounds = was_given e given in lt-ltb e.0 (w.given + 1) (omega arith)) w.mounts
        world.mounts_given

    still_given : list_all (λ e. ltb 0 e.0 && leb e.0 (w.given + 1)) w.mounts ≡ true
    still_given =
        list_all_weaken (λ e. ltb 0 e.0 && leb e.0 w.given) (λ e. ltb 0 e.0 && leb e.0 (w.given + 1))
        (λ e given.
        let bounds = was_given e given in
        and_from (ltb 0 e.0) (leb e.0 (w.given + 1)) (lt-ltb 0 e.0 bounds.0)
        (le-leb e.0 (w.given + 1) (omega arith)))
        w.mounts world.mounts_given

-- ---- modes, removals, unmounts

-- the tree and the stamp of a copy that is given a mode
pub tree-moded : (n : ℕ) (mode : Mode) (k : ℕ) (copy : Copy) → (moded n mode k copy).tree ≡ copy.tree
tree-moded n mode k copy =
    elim (k == n) as (λ b. (let c : Copy = cond b (record copy { mode = mode }) copy in c.tree) ≡ copy.tree)
    [ true ↦ refl | false ↦ refl ]

pub stamp-moded : (n : ℕ) (mode : Mode) (k : ℕ) (copy : Copy) → (moded n mode k copy).stamp ≡ copy.stamp
stamp-moded n mode k copy =
    elim (k == n) as (λ b. (let c : Copy = cond b (record copy { mode = mode }) copy in c.stamp) ≡ copy.stamp)
    [ true ↦ refl | false ↦ refl ]

pub minor-moded : (n : ℕ) (mode : Mode) (k : ℕ) (copy : Copy) → (moded n mode k copy).minor ≡ copy.minor
minor-moded n mode k copy =
    elim (k == n) as (λ b. (let c : Copy = cond b (record copy { mode = mode }) copy in c.minor) ≡ copy.minor)
    [ true ↦ refl | false ↦ refl ]

unless_given_up : (old new mounted : Bool) → ((old && new) && mounted) ≡ false → old ≡ true → mounted ≡ true
    → new ≡ false
unless_given_up old false mounted is one other = refl
unless_given_up true true true is one other = is
unless_given_up true true false is one other = absurd (true≢false (sym other))
unless_given_up false true mounted is one other = absurd (true≢false (sym one))

-- a change of a mode leaves a world
mode_leaves_world : (w : World) → IsWorld w → (n : ℕ) (mode : Mode) → MayBecome w n mode
    → IsWorld (after_mode w n mode)
mode_leaves_world w world n mode may =
    let f = moded n mode in
    let new = after_mode w n mode in
    let found : (k : ℕ) → copy_at new k ≡ option_map (f k) (copy_at w k) = find-valued f w.copies in
    let newest : copy_at new (latest new) ≡ option_map (f (latest w)) (copy_at w (latest w)) =
    ap (copy_at new) (top-valued f w.copies) ∙ found (latest w) in
    record {
      tree = world.tree;
      trees = λ k copy is. still_tree k (copy_at w k) (world.trees k) copy (sym (found k) ∙ is);
      clean = λ clean.
          ap (option_map (λ (c : Copy). c.tree)) newest ∙ same_tree (latest w) (copy_at w (latest w))
          ∙ world.clean clean;
      numbers_rise = is_sorted-valued f w.copies ∙ world.numbers_rise;
      latest_kept = ap is_some newest ∙ still_some (f (latest w)) (copy_at w (latest w)) ∙ world.latest_kept;
      numbers_fit =
          list_all-map (λ (c : ℕ × Copy). ltb 0 c.0 && ltb c.0 checkpoint_number_limit)
          (λ (c : ℕ × Copy). (c.0, f c.0 c.1)) w.copies
          ∙ world.numbers_fit;
      stamps_rise =
          rising_by_stamps w.copies (copies_with_mode n mode w.copies)
          (sym (same_stamps w.copies)) world.stamps_rise;
      mounts_rise = world.mounts_rise;
      mounts_given = world.mounts_given;
      given_fits = world.given_fits;
      mounted = λ m k is.
          ap (option_map (λ (c : Copy). c.mode)) (found k)
          ∙ still_snapshot m k is (copy_at w k) refl (world.mounted m k is);
    }
  where
    still_tree : (k : ℕ) (o : Option Copy) → ForSome o (λ (c : Copy). IsTree c.tree) → (copy : Copy)
        → option_map (moded n mode k) o ≡ Some copy → IsTree copy.tree
    still_tree k None tree copy is = absurd (true≢false (sym (ap is_some is)))
    still_tree k (Some c) tree copy is =
        subst (λ (d : Copy). IsTree d.tree) (same_Some (moded n mode k c) copy is)
        (subst IsTree (sym (tree-moded n mode k c)) (tree c refl))

    same_tree : (k : ℕ) (o : Option Copy)
        → option_map (λ (c : Copy). c.tree) (option_map (moded n mode k) o)
        ≡ option_map (λ (c : Copy). c.tree) o
    same_tree k None = refl
    same_tree k (Some c) = ap Some (tree-moded n mode k c)

    still_some : {A B : Type 0} (f : A → B) (o : Option A) → is_some (option_map f o) ≡ is_some o
    still_some f None = refl
    still_some f (Some a) = refl

    same_stamps : (copies : List (ℕ × Copy)) → stamps (copies_with_mode n mode copies) ≡ stamps copies
    same_stamps [] = refl
    same_stamps (c ∷ copies) =
        let first = stamp-moded n mode c.0 c.1 in
        let rest = same_stamps copies in
        λ i. first i ∷ rest i

    -- the mounted copy that is given the mode was a snapshot, so it isn't given up
    snapshot_stays : (k : ℕ) (c : Copy) → copy_at w k ≡ Some c → c.mode ≡ Snapshot
        → is_mounted w.mounts k ≡ true → (moded n mode k c).mode ≡ Snapshot
    snapshot_stays k c kept snapshot shown =
        elim (k == n) as (λ b.
        (k == n) ≡ b → (let d : Copy = cond b (record c { mode = mode }) c in d.mode) ≡ Snapshot) [
          | true ↦ λ here.
              let same : k ≡ n = eqb-true k n here in
              let one : may.copy ≡ c =
              same_Some may.copy c (sym may.kept ∙ ap (copy_at w) (sym same) ∙ kept) in
              let was : is_snapshot may.copy.mode ≡ true =
              ap (λ (d : Copy). is_snapshot d.mode) one ∙ ap is_snapshot snapshot in
              let there : is_mounted w.mounts n ≡ true = ap (is_mounted w.mounts) (sym same) ∙ shown in
              snapshot_is mode
              (unless_given_up (is_snapshot may.copy.mode) (not (is_snapshot mode))
              (is_mounted w.mounts n) may.allowed was there)
          | false ↦ λ _. snapshot
        ] refl

    still_snapshot : (m k : ℕ) → find nat_cmp m w.mounts ≡ Some k → (o : Option Copy) → copy_at w k ≡ o
        → option_map (λ (c : Copy). c.mode) o ≡ Some Snapshot
        → option_map (λ (c : Copy). c.mode) (option_map (moded n mode k) o) ≡ Some Snapshot
    still_snapshot m k is None kept snapshot = absurd (true≢false (sym (ap is_some snapshot)))
    still_snapshot m k is (Some c) kept snapshot =
        ap Some
        (snapshot_stays k c kept (same_Some c.mode Snapshot snapshot) (mounted_if_found w.mounts m k is))

-- a removal leaves a world
take_out_leaves_world : (w : World) → IsWorld w → (gone : List ℕ) → AllMayGo w gone
    → IsWorld (take_out gone w)
take_out_leaves_world w world gone may =
    let stays : ℕ → Bool = λ k. not (is_one_of gone k) in
    let new = take_out gone w in
    let newest : copy_at new (latest new) ≡ copy_at w (latest w) =
    latest-take_out w gone world.latest_kept may in
    record {
      tree = world.tree;
      trees = λ k copy is. still_tree k (is_one_of gone k) copy (sym (copy_at-take_out w gone k) ∙ is);
      clean = λ clean. ap (option_map (λ (c : Copy). c.tree)) newest ∙ world.clean clean;
      numbers_rise = is_sorted-kept stays w.copies world.numbers_rise;
      latest_kept = ap is_some newest ∙ world.latest_kept;
      numbers_fit =
          list_all-filter (λ (c : ℕ × Copy). ltb 0 c.0 && ltb c.0 checkpoint_number_limit)
          (λ c. stays c.0) w.copies world.numbers_fit;
      stamps_rise = stamps_rise-filter (λ c. stays c.0) w.copies world.stamps_rise;
      mounts_rise = world.mounts_rise;
      mounts_given = world.mounts_given;
      given_fits = world.given_fits;
      mounted = λ m k is.
          ap (option_map (λ (c : Copy). c.mode)) (copy_at-take_out w gone k)
          ∙ still_snapshot k (world.mounted m k is);
    }
  where
    still_tree : (k : ℕ) (b : Bool) (copy : Copy) → cond b None (copy_at w k) ≡ Some copy → IsTree copy.tree
    still_tree k true copy is = absurd (true≢false (sym (ap is_some is)))
    still_tree k false copy is = world.trees k copy is

    -- a snapshot doesn't go
    still_snapshot : (k : ℕ) → option_map (λ (c : Copy). c.mode) (copy_at w k) ≡ Some Snapshot
        → option_map (λ (c : Copy). c.mode) (cond (is_one_of gone k) None (copy_at w k)) ≡ Some Snapshot
    still_snapshot k snapshot =
        elim (is_one_of gone k) as (λ b.
        is_one_of gone k ≡ b
        → option_map (λ (c : Copy). c.mode) (cond b None (copy_at w k)) ≡ Some Snapshot) [
          | true ↦ λ goes.
              let m = may k goes in
              let mode : m.copy.mode ≡ Snapshot =
              same_Some m.copy.mode Snapshot
              (sym (ap (option_map (λ (c : Copy). c.mode)) m.kept) ∙ snapshot) in
              absurd (true≢false (ap is_snapshot (sym mode) ∙ m.plain))
          | false ↦ λ _. snapshot
        ] refl

-- an unmount leaves a world
unmount_leaves_world : (w : World) → IsWorld w → (m : ℕ) → IsWorld (after_unmount w m)
unmount_leaves_world w world m =
    let stays : ℕ → Bool = λ k. not (k == m) in
    record {
      tree = world.tree;
      trees = world.trees;
      clean = world.clean;
      numbers_rise = world.numbers_rise;
      latest_kept = world.latest_kept;
      numbers_fit = world.numbers_fit;
      stamps_rise = world.stamps_rise;
      mounts_rise = is_sorted-kept stays w.mounts world.mounts_rise;
      mounts_given =
          list_all-filter (λ (e : ℕ × ℕ). ltb 0 e.0 && leb e.0 w.given)
          (λ e. stays e.0) w.mounts world.mounts_given;
      given_fits = world.given_fits;
      mounted = λ k n is.
          world.mounted k n
          (was_there (stays k) (find nat_cmp k w.mounts) n (sym (find-kept stays w.mounts k) ∙ is));
    }
  where
    was_there : (b : Bool) (o : Option ℕ) (n : ℕ) → cond b o None ≡ Some n → o ≡ Some n
    was_there true o n is = is
    was_there false o n is = absurd (true≢false (sym (ap is_some is)))

-- ---- every event

each_leaves_world : (cleaned : Reply) (w : World) → IsWorld w → EachEvent cleaned (λ _ done. IsWorld done.1) w
each_leaves_world cleaned w world = record {
  stays = λ _ _ _. world;
  cleans = λ _. world;
  changed = change_leaves_world w world;
  copied = checkpoint_leaves_world w world;
  minored = λ _ _ now fits. minor_leaves_world w world now fits;
  moded = mode_leaves_world w world;
  removed = λ n may. take_out_leaves_world w world (n ∷ []) (one_may_go w n may);
  ranged = λ first last.
      take_out_leaves_world w world (range_of w first last).removed
      (range_may_go w first last world.numbers_rise);
  expired = λ now period.
      take_out_leaves_world w world (expiry_of w now period)
      (expiry_may_go w now period world.numbers_fit world.numbers_rise);
  mounted = mount_leaves_world w world;
  unmounted = unmount_leaves_world w world;
}

-- each event leaves a world
pub steps_keep_worlds : StepsKeepWorlds
steps_keep_worlds cleaned reply old new event world is =
    subst (λ (done : Outcome). IsWorld done.1) is
    (step_gives cleaned (λ _ done. IsWorld done.1) old (each_leaves_world cleaned old world) event)
