-- Calls are judged by inodes as by the tree that they stand for.
use Rattle.std.proofs.Common.{◌≡◌, ℕ, Bool, true, false, cond, ◌&&◌, ◌||◌, [], ◌∷◌, ◌++◌, map, length, reverse, List, Option, Some, None, Result, Ok, Err, refl, sym, ◌∙◌, ap}
use Rattle.std.proofs.lemmas.List.{length-map, reverse-reverse}
use Rattle.std.specs.Prelude.{nat_lt}
use Rattle.std.specs.Option.{is_some, option_or}
use Rattle.nl_types.specs.declared.error.VolError.{VolError}
use Rattle.nl_types.specs.declared.error.VolError.TheVariants.{Exists, NotEmpty, BadPath, IntoItself, TooBig}
use Rattle.nl_types.specs.declared.reply.Answer.TheVariants as answer
use Rattle.nl_types.specs.declared.kind.Kind.{Kind}
use Rattle.nl_types.specs.declared.kind.Kind.TheVariants as kind
use Rattle.nl_types.specs.declared.reply.Named.{Named}
use Rattle.nl_types.specs.declared.reply.Object.{Object}
use Rattle.nl_types.specs.declared.reply.Object.TheVariants.{Dir, File}
use Rattle.nl_types.specs.declared.reply.Stat.TheVariants as status
use Rattle.nl_types.specs.Plain.Limits.{path_limit}
use Rattle.nl_types.specs.Plain.Paths.{Name, Path, same_path}
use Rattle.nl_types.specs.Plain.Trees as trees
use Rattle.nl_types.specs.Plain.Trees.{Tree, lookup, insert, remove, move_subtree, object_kind}
use Rattle.nl_types.specs.Plain.Calls.{Changed, and_then, refuse_if, ok_unless, stops_walk, stop_from, walk, object_at, file_at, dir_at, create, rmdir, has_names, is_root, is_dir, is_above, may_replace, rename, list, named, stat}
use Rattle.nl_types.specs.Inodes.{Link, Inodes, MeansTree}
use Rattle.nl_types.specs.Resolving.{record_in, resolve, as_dir}
use Rattle.nl_types.specs.Judging.{Listing, IsListing, bytes_in, has_any, is_dir_kind, may_take, judge_create, judge_rmdir, judge_rename, judge_list, shown, stat_in}
use Rattle.nl_types.specs.InodeLaws as laws
use Rattle.nl_types.specs.InodeCallLaws.{FilesAreJudged, CreatesAreJudged, RmdirsAreJudged, RenamesAreJudged, ListsAreJudged, StatsAreJudged}
use Rattle.nl_types.specs.Facts.Inodes.ChildRecords.{children_are_records}
use Rattle.nl_types.specs.Facts.Inodes.Resolving.{by_cases, inode, link_at, upward_at, child_record, link_is, no_link, inode_at, walk_snoc, has_records}

-- what both sides refuse alike
refuse_both : {A B : Type 0} (test : Bool) (e : VolError) (x : Result B VolError) (y : Result A VolError)
    (next : A → Result B VolError)
    → x ≡ and_then y next → refuse_if test e x ≡ and_then (refuse_if test e y) next
refuse_both true e x y next h = refl
refuse_both false e x y next h = h

pub files_are_judged : FilesAreJudged
files_are_judged inodes tree m path =
    by_cases inodes tree m (λ r. file_at tree path ≡ and_then r (bytes_in inodes)) path
    (λ x k. rw k refl)
    (λ k h. rw (k, h) refl)
    there
  where
    there : (i : ℕ) (object : Object) → stop_from tree [] path ≡ None → lookup tree path ≡ Some object
        → inode inodes tree m path ≡ Some i
        → file_at tree path ≡ and_then (Ok (i, object_kind object)) (bytes_in inodes)
    there i Dir k h e = rw (k, h) refl
    there i (File bytes) k h e =
        rw (k, h, m.pairs.file (reverse path) i bytes (upward_at inodes tree m path ∙ h) e) refl

-- ---- a name that is made

module _ (inodes : Inodes) (tree : Tree) (m : MeansTree inodes tree) where
  child_is : (dir : Path) (name : Name) (i : ℕ) → inode inodes tree m dir ≡ Some i
      → lookup tree dir ≡ Some Dir → (o : Option Object) → lookup tree (dir ++ name ∷ []) ≡ o
      → is_some o ≡ is_some (record_in (inodes i) name)
  child_is dir name i e d None h =
      sym (ap is_some
      (child_record inodes tree m dir name i e d ∙ no_link inodes tree m (dir ++ name ∷ []) h))
  child_is dir name i e d (Some object) h =
      let j = inode_at inodes tree m (dir ++ name ∷ []) object h in
      sym (ap is_some
      (child_record inodes tree m dir name i e d ∙ link_is inodes tree m (dir ++ name ∷ []) j.0 object j.1 h))

  created : (object : Object) (dir : Path) (name : Name)
      → create tree object (dir ++ name ∷ [])
      ≡ and_then (judge_create inodes (length tree) dir name)
      (λ _. Ok (answer.Done, insert tree (dir ++ name ∷ []) object))
  created object dir name =
      ap (λ r. and_then r (λ _. made)) (walk_snoc inodes tree m dir name)
      ∙ by_cases inodes tree m
      (λ r.
      and_then (ok_unless (option_or (stop_from tree [] dir) (stops_walk (lookup tree dir)))) (λ _. made)
      ≡ and_then (and_then r judged) (λ _. done))
      dir
      (λ x k. rw k refl)
      (λ k h. rw (k, h) refl)
      there
    where
      done : Changed
      done = Ok (answer.Done, insert tree (dir ++ name ∷ []) object)

      made : Changed
      made =
          refuse_if (is_some (lookup tree (dir ++ name ∷ []))) Exists
          (refuse_if (nat_lt path_limit (length tree)) TooBig done)

      judged : Link → Result ℕ VolError
      judged at =
          and_then (as_dir at)
          (λ _.
          refuse_if (is_some (record_in (inodes at.0) name)) Exists
          (refuse_if (nat_lt path_limit (length tree)) TooBig (Ok at.0)))

      there : (i : ℕ) (x : Object) → stop_from tree [] dir ≡ None → lookup tree dir ≡ Some x
          → inode inodes tree m dir ≡ Some i →
          and_then (ok_unless (option_or (stop_from tree [] dir) (stops_walk (lookup tree dir)))) (λ _. made)
          ≡ and_then (and_then (Ok (i, object_kind x)) judged) (λ _. done)
      there i (File bytes) k h e = rw (k, h) refl
      there i Dir k h e =
          ap (λ s. and_then (ok_unless (option_or s (stops_walk (lookup tree dir)))) (λ _. made)) k
          ∙ ap (λ o. and_then (ok_unless (stops_walk o)) (λ _. made)) h
          ∙ ap (λ b. refuse_if b Exists (refuse_if (nat_lt path_limit (length tree)) TooBig done))
          (child_is dir name i e h (lookup tree (dir ++ name ∷ [])) refl)
          ∙ refuse_both (is_some (record_in (inodes i) name)) Exists
          (refuse_if (nat_lt path_limit (length tree)) TooBig done)
          (refuse_if (nat_lt path_limit (length tree)) TooBig (Ok i)) (λ _. done)
          (refuse_both (nat_lt path_limit (length tree)) TooBig done (Ok i) (λ _. done) refl)

pub creates_are_judged : CreatesAreJudged
creates_are_judged inodes tree m object dir name = created inodes tree m object dir name

-- ---- directories

module _ (inodes : Inodes) (tree : Tree) (listing : Listing) (m : MeansTree inodes tree)
    (l : IsListing inodes listing) where
  listed : (p : Path) (i : ℕ) → inode inodes tree m p ≡ Some i → lookup tree p ≡ Some Dir
      → trees.children tree p ≡ map laws.with_kind (listing i)
  listed p i e d =
      let h = has_records inodes tree m p i e d in
      ap (trees.children tree) (sym (reverse-reverse p))
      ∙ children_are_records inodes tree (reverse p) (listing h.0.inode) m h.0
      (l h.0.inode h.0.records h.0.holds)
      ∙ ap (λ j. map laws.with_kind (listing j)) h.1

  counted : (p : Path) (i : ℕ) → inode inodes tree m p ≡ Some i → lookup tree p ≡ Some Dir
      → length (trees.children tree p) ≡ length (listing i)
  counted p i e d = ap length (listed p i e d) ∙ length-map (listing i) laws.with_kind

  emptied : (p : Path) (i : ℕ) → inode inodes tree m p ≡ Some i → lookup tree p ≡ Some Dir
      → has_names tree p ≡ has_any listing i
  emptied p i e d = ap (λ n. nat_lt 0 n) (counted p i e d)

  rmdirs : (path : Path)
      → rmdir tree path ≡ and_then (judge_rmdir inodes listing path) (λ _. Ok (answer.Done, remove tree path))
  rmdirs path =
      refuse_both (is_root path) BadPath (and_then (dir_at tree path) (λ _. made))
      (and_then (resolve inodes path) judged) (λ _. done)
      (by_cases inodes tree m
      (λ r. and_then (dir_at tree path) (λ _. made) ≡ and_then (and_then r judged) (λ _. done)) path
      (λ x k. rw k refl)
      (λ k h. rw (k, h) refl)
      there)
    where
      done : Changed
      done = Ok (answer.Done, remove tree path)

      made : Changed
      made = refuse_if (has_names tree path) NotEmpty done

      judged : Link → Result (Unit {0}) VolError
      judged at = and_then (as_dir at) (λ _. refuse_if (has_any listing at.0) NotEmpty (Ok tt))

      at_dir : stop_from tree [] path ≡ None → lookup tree path ≡ Some Dir → dir_at tree path ≡ Ok tt
      at_dir k h = rw (k, h) refl

      there : (i : ℕ) (x : Object) → stop_from tree [] path ≡ None → lookup tree path ≡ Some x
          → inode inodes tree m path ≡ Some i
          → and_then (dir_at tree path) (λ _. made)
          ≡ and_then (and_then (Ok (i, object_kind x)) judged) (λ _. done)
      there i (File bytes) k h e = rw (k, h) refl
      there i Dir k h e =
          ap (λ r. and_then r (λ _. made)) (at_dir k h)
          ∙ ap (λ b. refuse_if b NotEmpty done) (emptied path i e h)
          ∙ refuse_both (has_any listing i) NotEmpty done (Ok tt) (λ _. done) refl

  mapped_twice : (rs : List (Name × Link)) → map named (map laws.with_kind rs) ≡ map shown rs
  mapped_twice [] = refl
  mapped_twice (r ∷ rs) = ap (λ xs. shown r ∷ xs) (mapped_twice rs)

  list_judged : (path : Path) → list tree path ≡ judge_list inodes listing path
  list_judged path =
      by_cases inodes tree m
      (λ r. list tree path ≡ and_then r (λ at. and_then (as_dir at) (λ _. Ok (map shown (listing at.0)))))
      path
      (λ x k. rw k refl)
      (λ k h. rw (k, h) refl)
      there
    where
      there : (i : ℕ) (x : Object) → stop_from tree [] path ≡ None → lookup tree path ≡ Some x
          → inode inodes tree m path ≡ Some i
          → list tree path
          ≡ and_then (Ok (i, object_kind x)) (λ at. and_then (as_dir at) (λ _. Ok (map shown (listing at.0))))
      there i (File bytes) k h e = rw (k, h) refl
      there i Dir k h e =
          rw (k, h) (ap (λ xs. Ok (map named xs)) (listed path i e h)
          ∙ ap (λ (xs : List Named). Ok xs) (mapped_twice (listing i)))

  stat_judged : (path : Path)
      → stat tree path ≡ and_then (resolve inodes path) (λ at. Ok (stat_in inodes listing at))
  stat_judged path =
      by_cases inodes tree m (λ r. stat tree path ≡ and_then r (λ at. Ok (stat_in inodes listing at))) path
      (λ x k. rw k refl)
      (λ k h. rw (k, h) refl)
      there
    where
      there : (i : ℕ) (x : Object) → stop_from tree [] path ≡ None → lookup tree path ≡ Some x
          → inode inodes tree m path ≡ Some i
          → stat tree path ≡ and_then (Ok (i, object_kind x)) (λ at. Ok (stat_in inodes listing at))
      there i (File bytes) k h e =
          rw (k, h, m.pairs.file (reverse path) i bytes (upward_at inodes tree m path ∙ h) e) refl
      there i Dir k h e = rw (k, h) (ap (λ n. Ok (status.Dir n)) (counted path i e h))

  -- ---- a rename

  taken : (x : Object) (to : Path) (o : Option Object) → lookup tree to ≡ o
      → may_replace tree to x o ≡ may_take listing (object_kind x) (link_at inodes tree m to)
  taken x to None h = ap (may_take listing (object_kind x)) (sym (no_link inodes tree m to h))
  taken x to (Some y) h =
      let j = inode_at inodes tree m to y h in
      by x y h j.0 j.1 ∙ ap (may_take listing (object_kind x)) (sym (link_is inodes tree m to j.0 y j.1 h))
    where
      by : (x y : Object) → lookup tree to ≡ Some y → (i : ℕ) → inode inodes tree m to ≡ Some i
          → may_replace tree to x (Some y) ≡ may_take listing (object_kind x) (Some (i, object_kind y))
      by (File bytes) Dir h i e = refl
      by (File bytes) (File others) h i e = refl
      by Dir (File others) h i e = refl
      by Dir Dir h i e = ap (λ b. refuse_if b NotEmpty (Ok tt)) (emptied to i e h)

  module _ (from dir : Path) (name : Name) where
    abbrev to : Path
    to = dir ++ name ∷ []

    done : Bool → Changed
    done moves = Ok (answer.Done, cond moves (move_subtree tree from to) tree)

    replaced : Object → Changed
    replaced x =
        cond (same_path from to) (Ok (answer.Done, tree))
        (and_then (may_replace tree to x (lookup tree to))
        (λ _. Ok (answer.Done, move_subtree tree from to)))

    placed : Kind → Link → Result Bool VolError
    placed k into =
        and_then (as_dir into)
        (λ _.
        cond (same_path from to) (Ok false)
        (and_then (may_take listing k (record_in (inodes into.0) name)) (λ _. Ok true)))

    both_done : (r : Result (Unit {0}) VolError)
        → and_then r (λ _. done true) ≡ and_then (and_then r (λ _. Ok true)) done
    both_done (Ok u) = refl
    both_done (Err e) = refl

    choice : (b : Bool) (r : Result (Unit {0}) VolError)
        → cond b (done false) (and_then r (λ _. done true))
        ≡ and_then (cond b (Ok false) (and_then r (λ _. Ok true))) done
    choice true r = refl
    choice false r = both_done r

    placed_alike : (x : Object) (i : ℕ) → inode inodes tree m dir ≡ Some i → lookup tree dir ≡ Some Dir
        → replaced x ≡ and_then (placed (object_kind x) (i, kind.Directory)) done
    unfolding done replaced placed
    placed_alike x i e d =
        ap (λ r.
        cond (same_path from to) (Ok (answer.Done, tree))
        (and_then r (λ _. Ok (answer.Done, move_subtree tree from to))))
        (taken x to (lookup tree to) refl
        ∙ ap (may_take listing (object_kind x)) (sym (child_record inodes tree m dir name i e d)))
        ∙ choice (same_path from to) (may_take listing (object_kind x) (record_in (inodes i) name))

    into_alike : (x : Object)
        → and_then (walk tree to) (λ _. replaced x)
        ≡ and_then (and_then (resolve inodes dir) (placed (object_kind x))) done
    unfolding placed
    into_alike x =
        ap (λ r. and_then r (λ _. replaced x)) (walk_snoc inodes tree m dir name)
        ∙ by_cases inodes tree m
        (λ r.
        and_then (ok_unless (option_or (stop_from tree [] dir) (stops_walk (lookup tree dir))))
        (λ _. replaced x)
        ≡ and_then (and_then r (placed (object_kind x))) done)
        dir
        (λ y k. rw k refl)
        (λ k h. rw (k, h) refl)
        there
      where
        there : (i : ℕ) (y : Object) → stop_from tree [] dir ≡ None → lookup tree dir ≡ Some y
            → inode inodes tree m dir ≡ Some i →
            and_then (ok_unless (option_or (stop_from tree [] dir) (stops_walk (lookup tree dir))))
            (λ _. replaced x)
            ≡ and_then (and_then (Ok (i, object_kind y)) (placed (object_kind x))) done
        there i (File bytes) k h e = rw (k, h) refl
        there i Dir k h e =
            ap (λ s. and_then (ok_unless (option_or s (stops_walk (lookup tree dir)))) (λ _. replaced x)) k
            ∙ ap (λ o. and_then (ok_unless (stops_walk o)) (λ _. replaced x)) h
            ∙ placed_alike x i e h

    moved : Object → Changed
    moved x = refuse_if (is_dir x && is_above from to) IntoItself (and_then (walk tree to) (λ _. replaced x))

    judged : Link → Result Bool VolError
    judged at =
        refuse_if (is_dir_kind at.1 && is_above from to) IntoItself
        (and_then (resolve inodes dir) (placed at.1))

    same_kind : (x : Object) → is_dir x ≡ is_dir_kind (object_kind x)
    same_kind Dir = refl
    same_kind (File bytes) = refl

    moved_alike : (x : Object) (i : ℕ) → moved x ≡ and_then (judged (i, object_kind x)) done
    unfolding moved judged
    moved_alike x i =
        ap (λ b. refuse_if (b && is_above from to) IntoItself (and_then (walk tree to) (λ _. replaced x)))
        (same_kind x)
        ∙ refuse_both (is_dir_kind (object_kind x) && is_above from to) IntoItself
        (and_then (walk tree to) (λ _. replaced x))
        (and_then (resolve inodes dir) (placed (object_kind x))) done (into_alike x)

    moves_judged : rename tree from to ≡ and_then (judge_rename inodes listing from dir name) done
    unfolding moved judged replaced placed done
    moves_judged =
        refuse_both (is_root from || is_root to) BadPath (and_then (object_at tree from) moved)
        (and_then (resolve inodes from) judged) done
        (by_cases inodes tree m
        (λ r. and_then (object_at tree from) moved ≡ and_then (and_then r judged) done) from
        (λ x k. rw k refl)
        (λ k h. rw (k, h) refl)
        (λ i x k h e. rw (k, h) (moved_alike x i)))

pub rmdirs_are_judged : RmdirsAreJudged
rmdirs_are_judged inodes tree listing m l path = rmdirs inodes tree listing m l path

pub renames_are_judged : RenamesAreJudged
unfolding done
renames_are_judged inodes tree listing m l from dir name = moves_judged inodes tree listing m l from dir name

pub lists_are_judged : ListsAreJudged
lists_are_judged inodes tree listing m l path = list_judged inodes tree listing m l path

pub stats_are_judged : StatsAreJudged
stats_are_judged inodes tree listing m l path = stat_judged inodes tree listing m l path
