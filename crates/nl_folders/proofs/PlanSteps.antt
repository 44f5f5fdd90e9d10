-- The steps of a plan: what its calls do, and how far it has come with them.
use Rattle.std.proofs.Common.{◌≡◌, ℕ, ◌+◌, ◌≤◌, Bool, true, false, cond, ◌||◌, List, [], ◌∷◌, ◌++◌, length, take, drop, Option, Some, None, Ok, refl, sym, ap, ◌∙◌, subst, true≢false, is_some, arith, inl, inr, ne_eqb}
use Rattle.std.specs.Str.{bytes_eq}
use Rattle.std.specs.declared.cmp.Ordering.TheVariants.{Less}
use Rattle.std.specs.FinMap.{is_sorted}
use Rattle.std.specs.FinMap.Entries.{is_sorted-put, length-put}
use Rattle.std.proofs.lemmas.Option.{same_Some}
use Rattle.std.proofs.lemmas.Slice.Eq.{bytes_eq-Decides}
use Rattle.nl_types.specs.declared.event.Change.{Change}
use Rattle.nl_types.specs.declared.reply.Object.{Object}
use Rattle.nl_types.specs.declared.reply.Object.TheVariants.{Dir, File}
use Rattle.nl_types.specs.Plain.Limits.{path_limit}
use Rattle.nl_types.specs.Plain.Paths.{Name, Path, path_cmp, path_of, same_path}
use Rattle.nl_types.specs.Plain.Trees.{Tree, IsTree, lookup, insert}
use Rattle.nl_types.specs.Plain.Calls.{is_root, walk}
use Rattle.nl_types.specs.Facts.Booleans.{holds, is_true}
use Rattle.nl_types.specs.Facts.CallLookups.{same_lookups_are_one_tree}
use Rattle.nl_types.specs.Facts.TreeLaws.{path_total, same_path-equal, lookup-insert}
use Rattle.nl_folders.proofs.DoneCalls.{IsDoneAt, rmdir_done, unlink_done, walk_below, walk_there}
use Rattle.nl_folders.proofs.ObjectsPut.{MayStand, Puts, stands_at}
use Rattle.nl_folders.proofs.SortedTrees.{entry_found, found_behind, found_before, found_pushed, no_longer, not_before, not_behind}
use Rattle.nl_folders.proofs.TreePaths.{child_above, ending_of}
use Rattle.nl_folders.specs.declared.differences.Difference.{Difference}
use Rattle.nl_folders.specs.declared.differences.Difference.TheVariants.{Rewritten}
use Rattle.nl_folders.specs.Differences.{difference_of}
use Rattle.nl_folders.specs.Facts.Spellings.{path_of-nameable}
use Rattle.nl_folders.specs.Plans.{Progress, Reached, begun, left_of, standing_at}
use Rattle.nl_folders.specs.Private.Stages.{removal_of}
use Rattle.nl_folders.specs.Spelled.{spelling, IsNameable}

-- ---- objects

-- what is left of an object is the object
pub left_is : (object : Object) (wanted : Option Object) → is_some (left_of (Some object) wanted) ≡ true
    → left_of (Some object) wanted ≡ Some object
left_is object None is = absurd (true≢false (sym is))
left_is Dir (Some Dir) is = refl
left_is Dir (Some (File bytes)) is = absurd (true≢false (sym is))
left_is (File bytes) (Some Dir) is = absurd (true≢false (sym is))
left_is (File bytes) (Some (File others)) is = refl

pub none_left : (o : Option Object) → is_some o ≡ false → o ≡ None
none_left None is = refl
none_left (Some object) is = absurd (true≢false is)

-- an object that goes differs from what is wanted
pub gone_differs : (object : Object) (wanted : Option Object) → left_of (Some object) wanted ≡ None
    → is_some (difference_of (Some object) wanted) ≡ true
gone_differs Dir None gone = refl
gone_differs (File bytes) None gone = refl
gone_differs Dir (Some Dir) gone = absurd (true≢false (ap is_some gone))
gone_differs Dir (Some (File bytes)) gone = refl
gone_differs (File bytes) (Some Dir) gone = refl
gone_differs (File bytes) (Some (File others)) gone = absurd (true≢false (ap is_some gone))

-- where nothing differs the wanted object stands
pub alike : (present : Option Object) (wanted : Object) → is_some (difference_of present (Some wanted)) ≡ false
    → present ≡ Some wanted
alike None wanted is = absurd (true≢false is)
alike (Some Dir) Dir is = refl
alike (Some Dir) (File bytes) is = absurd (true≢false is)
alike (Some (File bytes)) Dir is = absurd (true≢false is)
alike (Some (File old)) (File new) is =
    elim (bytes_eq old new) as (λ b.
    bytes_eq old new ≡ b → is_some {T = Difference} (cond b None (Some Rewritten)) ≡ false
    → Some (File old) ≡ Some (File new)) [
      | true ↦ λ same _. ap (λ (b : List ℕ). Some (File b)) ((bytes_eq-Decides old new).0 same)
      | false ↦ λ _ told. absurd (true≢false told)
    ] refl is

pub left_itself : (object : Object) → left_of (Some object) (Some object) ≡ Some object
left_itself Dir = refl
left_itself (File bytes) = refl

-- of what isn't there nothing is left, and of what is not wanted
nothing_left : (o : Option Object) → left_of o None ≡ None
nothing_left None = refl
nothing_left (Some object) = refl

-- what is left is of a path that is wanted
left_wanted : (o wanted : Option Object) → is_some (left_of o wanted) ≡ true → is_some wanted ≡ true
left_wanted None wanted is = absurd (true≢false (sym is))
left_wanted (Some object) None is = absurd (true≢false (sym is))
left_wanted (Some object) (Some wanted) is = refl

or_false : (b : Bool) → (b || false) ≡ b
or_false true = refl
or_false false = refl

or_true : (b : Bool) → (b || true) ≡ true
or_true true = refl
or_true false = refl

-- What has moved stands where it is wanted, so only the paths of the tree that is there are to be judged.
pub record IsJudgedBy (present moved wanted : Tree) : Type 0 where
  pub root : lookup moved [] ≡ Some Dir
  pub others : (q : Path) → lookup present q ≡ None
      → left_of (lookup moved q) (lookup wanted q) ≡ lookup moved q

-- what is left of an object, or the object, where these are one
judged_by : (there present wanted : Option Object) → (there ≡ None → left_of present wanted ≡ present)
    → cond (is_some there) (left_of present wanted) present ≡ left_of present wanted
judged_by None present wanted same = sym (same refl)
judged_by (Some object) present wanted same = refl

module _ (present moved wanted : Tree) (j : IsJudgedBy present moved wanted) where
  abbrev pub clearing : Tree → Progress
  clearing judged = record {
    present = present;
    wanted = wanted;
    moved = Some moved;
    judged = judged;
    made = [];
  }

  abbrev pub making : Tree → Progress
  making made = record {
    present = present;
    wanted = wanted;
    moved = Some moved;
    judged = present;
    made = made;
  }

  -- ---- clearing

  -- an entry more is judged, and what isn't wanted of it is gone
  judged_on : (rest tree next : Tree) (e : Path × Object) → Reached (clearing rest) tree → IsTree next
      → ((q : Path)
      → lookup next q
      ≡ cond (same_path q e.0) (left_of (lookup moved e.0) (lookup wanted e.0)) (lookup tree q))
      → Reached (clearing (e ∷ rest)) next
  judged_on rest tree next e r t objects = record {
    present_tree = r.present_tree;
    wanted_tree = r.wanted_tree;
    is_tree = t;
    objects = λ q. objects q ∙ without q;
  }
    where
      without : (q : Path)
          → cond (same_path q e.0) (left_of (lookup moved e.0) (lookup wanted e.0)) (lookup tree q)
          ≡ standing_at (clearing (e ∷ rest)) q
      without q =
          elim (same_path q e.0) as (λ b.
          same_path q e.0 ≡ b
          → cond b (left_of (lookup moved e.0) (lookup wanted e.0)) (lookup tree q)
          ≡ cond (is_some (cond b (Some e.1) (lookup rest q))) (left_of (lookup moved q) (lookup wanted q))
          (lookup moved q)) [
            | true ↦ λ same.
                sym (ap (λ (p : Path). left_of (lookup moved p) (lookup wanted p))
                (same_path-equal q e.0 same))
            | false ↦ λ _. r.objects q
          ] refl

  module _ (rest tree : Tree) (e : Path × Object) (k : ℕ) (r : Reached (clearing rest) tree)
      (place : drop k present ≡ e ∷ rest) where
    -- until it is judged, what is there stands
    stands : lookup tree e.0 ≡ lookup moved e.0
    stands =
        r.objects e.0
        ∙ ap (λ (o : Option Object).
        cond (is_some o) (left_of (lookup moved e.0) (lookup wanted e.0)) (lookup moved e.0))
        (not_behind present rest e k r.present_tree.is_tree.ordered place)

    -- no call is needed for what stays, nor where nothing is
    pub kept_on : left_of (lookup moved e.0) (lookup wanted e.0) ≡ lookup moved e.0
        → Reached (clearing (e ∷ rest)) tree
    kept_on stays =
        judged_on rest tree tree e r r.is_tree
        (stands_at tree e.0 (left_of (lookup moved e.0) (lookup wanted e.0)) (stands ∙ sym stays))

    module _ (there : lookup moved e.0 ≡ Some e.1)
        (gone : left_of (Some e.1) (lookup wanted e.0) ≡ None) where
      named : path_of (spelling e.0) ≡ Ok e.0
      named =
          path_of-nameable present e.0 r.present_tree
          (ap is_some (entry_found present rest e k r.present_tree.is_tree.ordered place))

      -- a directory that is wanted stays
      not_wanted : e.1 ≡ Dir → lookup wanted e.0 ≡ Some Dir → ⊥
      not_wanted dir above =
          let kept : left_of (Some e.1) (lookup wanted e.0) ≡ Some Dir =
          ap (λ (n : Object). left_of (Some n) (lookup wanted e.0)) dir ∙ ap (left_of (Some Dir)) above in
          true≢false (sym (ap is_some kept) ∙ ap is_some gone)

      -- nothing is wanted in a directory that goes
      unwanted : e.1 ≡ Dir → (name : Name) (o : Option Object) → lookup wanted (e.0 ++ name ∷ []) ≡ o → o ≡ None
      unwanted dir name None is = refl
      unwanted dir name (Some object) is =
          absurd (not_wanted dir (r.wanted_tree.is_tree.parents e.0 name (ap is_some is)))

      -- so what is in it has gone before
      emptied : e.1 ≡ Dir → (name : Name) → lookup tree (e.0 ++ name ∷ []) ≡ None
      emptied dir name =
          let child = e.0 ++ name ∷ [] in
          let behind = found_behind present rest e k child r.present_tree.is_tree.ordered place (child_above e.0 name) in
          r.objects child
          ∙ judged_by (lookup rest child) (lookup moved child) (lookup wanted child)
          (λ none. j.others child (behind ∙ none))
          ∙ ap (left_of (lookup moved child)) (unwanted dir name (lookup wanted child) refl)
          ∙ nothing_left (lookup moved child)

      below_root : is_root e.0 ≡ false
      below_root = by e.0 refl
        where
          by : (p : Path) → e.0 ≡ p → is_root p ≡ false
          by [] is =
              let dir : Some e.1 ≡ Some Dir =
              sym there ∙ ap (lookup moved) is ∙ j.root in
              absurd (not_wanted (same_Some e.1 Dir dir) (ap (lookup wanted) is ∙ r.wanted_tree.is_tree.root))
          by (n ∷ p) is = ne_eqb (length (n ∷ p)) 0 (λ none. omega arith)

      removed : (object : Object) → e.1 ≡ object → IsDoneAt tree (removal_of e.0 object) e.0 None
      removed Dir is =
          rmdir_done tree (spelling e.0) e.0 r.is_tree
          named below_root
          (stands ∙ there ∙ ap (λ (n : Object). Some n) is) (emptied is)
      removed (File bytes) is =
          unlink_done tree (spelling e.0) e.0 bytes r.is_tree
          named
          (stands ∙ there ∙ ap (λ (n : Object). Some n) is)

      -- what isn't wanted can be removed
      pub removal_done : IsDoneAt tree (removal_of e.0 e.1) e.0 None
      removal_done = removed e.1 refl

      pub gone_on : Reached (clearing (e ∷ rest)) removal_done.next
      gone_on =
          let left : left_of (lookup moved e.0) (lookup wanted e.0) ≡ None =
          ap (λ (o : Option Object). left_of o (lookup wanted e.0)) there ∙ gone in
          judged_on rest tree removal_done.next e r removal_done.is_tree
          (λ q.
          removal_done.objects q
          ∙ ap (λ (o : Option Object). cond (same_path q e.0) o (lookup tree q)) (sym left))

  -- ---- making

  -- what stands at a path that is not yet made
  abbrev unmade : Path → Option Object
  unmade q = cond (is_some (lookup present q)) (left_of (lookup moved q) (lookup wanted q)) (lookup moved q)

  unmade_is : (q : Path) → unmade q ≡ left_of (lookup moved q) (lookup wanted q)
  unmade_is q = judged_by (lookup present q) (lookup moved q) (lookup wanted q) (j.others q)

  -- an entry more is made
  made_on : (made tree next : Tree) (f : Path × Object) → lookup wanted f.0 ≡ Some f.1
      → Reached (making made) tree → IsTree next
      → ((q : Path) → lookup next q ≡ cond (same_path q f.0) (Some f.1) (lookup tree q))
      → Reached (making (made ++ f ∷ [])) next
  made_on made tree next f found r t objects = record {
    present_tree = r.present_tree;
    wanted_tree = r.wanted_tree;
    is_tree = t;
    objects = λ q.
        objects q ∙ with_made q
        ∙ sym (ap (λ b. cond b (lookup wanted q) (unmade q)) (found_pushed made f q));
  }
    where
      with_made : (q : Path)
          → cond (same_path q f.0) (Some f.1) (lookup tree q)
          ≡ cond (is_some (lookup made q) || same_path q f.0) (lookup wanted q) (unmade q)
      with_made q =
          let m = is_some (lookup made q) in
          elim (same_path q f.0) as (λ b.
          same_path q f.0 ≡ b
          → cond b (Some f.1) (lookup tree q) ≡ cond (m || b) (lookup wanted q) (unmade q)) [
            | true ↦ λ same.
                sym (ap (λ b. cond b (lookup wanted q) (unmade q)) (or_true m)
                ∙ ap (lookup wanted) (same_path-equal q f.0 same)
                ∙ found)
            | false ↦ λ _.
                r.objects q ∙ sym (ap (λ b. cond b (lookup wanted q) (unmade q)) (or_false m))
          ] refl

  module _ (tree rest : Tree) (f : Path × Object) (k : ℕ) (r : Reached (making (take k wanted)) tree)
      (place : drop k wanted ≡ f ∷ rest) where
    in_order : is_sorted path_cmp wanted ≡ true
    in_order = r.wanted_tree.is_tree.ordered

    sought : lookup wanted f.0 ≡ Some f.1
    sought = entry_found wanted rest f k in_order place

    -- until it is made, what is left of what was there stands
    stands_left : lookup tree f.0 ≡ left_of (lookup moved f.0) (Some f.1)
    stands_left =
        r.objects f.0
        ∙ ap (λ (o : Option Object). cond (is_some o) (lookup wanted f.0) (unmade f.0))
        (not_before wanted rest f k in_order place)
        ∙ unmade_is f.0
        ∙ ap (left_of (lookup moved f.0)) sought

    -- no call is needed where it stands already
    pub alike_on : lookup moved f.0 ≡ Some f.1 → Reached (making (take k wanted ++ f ∷ [])) tree
    alike_on is =
        made_on (take k wanted) tree tree f sought r r.is_tree
        (stands_at tree f.0 (Some f.1)
        (stands_left ∙ ap (λ (o : Option Object). left_of o (Some f.1)) is ∙ left_itself f.1))

    -- its directory is made before it
    walked_new : lookup tree f.0 ≡ None → walk tree f.0 ≡ Ok tt
    walked_new free = elim (ending_of f.0) [
      | inl root ↦
          absurd (true≢false
          (sym (ap is_some (ap (lookup tree) root ∙ r.is_tree.root)) ∙ ap is_some free))
      | inr ending ↦
          let dir = ending.0 in
          let name = ending.1 in
          let there : lookup wanted (dir ++ name ∷ []) ≡ Some f.1 = ap (lookup wanted) (sym ending.2) ∙ sought in
          let above : lookup wanted dir ≡ Some Dir =
          r.wanted_tree.is_tree.parents dir name (ap is_some there) in
          let less : path_cmp dir f.0 ≡ Less = ap (path_cmp dir) ending.2 ∙ child_above dir name in
          let made : lookup (take k wanted) dir ≡ Some Dir =
          found_before wanted rest f k dir in_order place less ∙ above in
          let stands : lookup tree dir ≡ Some Dir =
          r.objects dir
          ∙ ap (λ (o : Option Object). cond (is_some o) (lookup wanted dir) (unmade dir)) made
          ∙ above in
          ap (walk tree) ending.2 ∙ walk_below tree dir name r.is_tree stands
    ]

    walked : (o : Option Object) → lookup tree f.0 ≡ o → walk tree f.0 ≡ Ok tt
    walked None is = walked_new is
    walked (Some object) is = walk_there tree f.0 r.is_tree (ap is_some is)

    -- all that stands is wanted
    only_wanted : (q : Path) → is_some (lookup tree q) ≡ true → is_some (lookup wanted q) ≡ true
    only_wanted q there =
        by (lookup (take k wanted) q)
        (sym (ap (λ (o : Option Object). is_some (cond (is_some (lookup (take k wanted) q)) (lookup wanted q) o))
        (unmade_is q))
        ∙ sym (ap is_some (r.objects q)) ∙ there)
      where
        by : (made : Option Object)
            → is_some (cond (is_some made) (lookup wanted q) (left_of (lookup moved q) (lookup wanted q)))
            ≡ true
            → is_some (lookup wanted q) ≡ true
        by (Some object) is = is
        by None is = left_wanted (lookup moved q) (lookup wanted q) is

    -- so there is room for one more
    roomy : lookup tree f.0 ≡ None → length tree ≤ path_limit
    roomy free =
        let next = insert tree f.0 f.1 in
        let t = holds _ r.is_tree.ordered in
        let put = length-put path_cmp path_total f.0 f.1 tree t in
        let one_more : length next ≡ length tree + 1 =
        subst (λ (o : Option Object). length next ≡ cond (is_some o) (length tree) (length tree + 1)) free put in
        let fewer =
        no_longer next wanted (is_true _ (is_sorted-put path_cmp path_total f.0 f.1 tree t)) in_order among in
        omega (arith, one_more, fewer, r.wanted_tree.is_tree.count)
      where
        among : (q : Path) → is_some (lookup (insert tree f.0 f.1) q) ≡ true → is_some (lookup wanted q) ≡ true
        among q there =
            elim (same_path q f.0) as (λ b.
            same_path q f.0 ≡ b → is_some (cond b (Some f.1) (lookup tree q)) ≡ true
            → is_some (lookup wanted q) ≡ true) [
              | true ↦ λ same _. ap is_some (ap (lookup wanted) (same_path-equal q f.0 same) ∙ sought)
              | false ↦ λ _ is. only_wanted q is
            ] refl (sym (ap is_some (lookup-insert tree f.0 f.1 q)) ∙ there)

    pub may_stand : MayStand tree f.0 (lookup moved f.0) f.1
    may_stand = record {
      is_tree = r.is_tree;
      named = path_of-nameable wanted f.0 r.wanted_tree (ap is_some sought);
      stands = stands_left;
      walked = walked (lookup tree f.0) refl;
      small = λ bytes is. r.wanted_tree.is_tree.sizes f.0 bytes (sought ∙ ap (λ (n : Object). Some n) is);
      room = roomy;
    }

    pub put_on : (calls : List Change) (p : Puts tree f.0 f.1 calls)
        → Reached (making (take k wanted ++ f ∷ [])) p.next
    put_on calls p = made_on (take k wanted) tree p.next f sought r p.is_tree p.objects

  -- ---- the end

  pub reached_last : (tree : Tree) → Reached (making wanted) tree → tree ≡ wanted
  reached_last tree r =
      same_lookups_are_one_tree tree wanted r.is_tree r.wanted_tree.is_tree
      (λ q.
      r.objects q
      ∙ ap (cond (is_some (lookup wanted q)) (lookup wanted q)) (unmade_is q)
      ∙ by (lookup wanted q) (lookup moved q))
    where
      by : (w o : Option Object) → cond (is_some w) w (left_of o w) ≡ w
      by (Some object) o = refl
      by None o = nothing_left o

-- ---- the beginning

pub reached_first : (present wanted : Tree) → IsNameable present → IsNameable wanted
    → Reached (begun present wanted) present
reached_first present wanted p w = record {
  present_tree = p;
  wanted_tree = w;
  is_tree = p.is_tree;
  objects = λ q. refl;
}
