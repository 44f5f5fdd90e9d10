-- What a plan hands out leads on.
use Rattle.std.proofs.Common.{◌≡◌, ℕ, ◌+◌, ◌-◌, ◌<◌, ◌≤◌, Bool, true, false, cond, not, ◌&&◌, List, [], ◌∷◌, ◌++◌, length, drop, get_or, slice_index_or, Option, MatchOption, Some, None, Result, Ok, Err, IfOk, refl, sym, ap, ◌∙◌, subst, is_some, IsTrue, arith, take_all}
use Rattle.std.specs.declared.alloc.AllocError.{AllocError}
use Rattle.std.specs.FinMap.{is_sorted}
use Rattle.nl_types.specs.declared.event.Change.{Change}
use Rattle.nl_types.specs.declared.reply.Object.{Object}
use Rattle.nl_types.specs.Plain.Paths.{Path, path_cmp, same_path, is_within}
use Rattle.nl_types.specs.Plain.Trees.{Tree, lookup}
use Rattle.nl_types.specs.Facts.CallLookups.{same_lookups_are_one_tree}
use Rattle.nl_types.specs.Facts.Lookups.{is_within-append}
use Rattle.nl_types.specs.declared.error.VolError.{VolError}
use Rattle.std.specs.Result.{result_unwrap_or}
use Rattle.std.proofs.lemmas.Bool.{and_parts, not-false, not-true, or_left, or_right}
use Rattle.std.proofs.lemmas.List.{drop_all, nil_from_length}
use Rattle.nl_folders.proofs.ObjectsPut.{object_put}
use Rattle.nl_folders.proofs.NeededCalls.{kept_behind, needed_keep, needed_there, object_needed, object_some, removal_needed}
use Rattle.nl_folders.proofs.PlanSteps.{IsJudgedBy, alike, alike_on, gone_differs, gone_on, kept_on, left_is, left_itself, may_stand, none_left, put_on, reached_last, removal_done}
use Rattle.nl_folders.proofs.SortedTrees.{entry_found, path_read, place_is, taken_is}
use Rattle.nl_folders.proofs.StepsDone.{not_come_there, not_gone}
use Rattle.nl_folders.specs.declared.sides.Step.{Step}
use Rattle.nl_folders.specs.declared.sides.Step.TheVariants.{Make, Relocate}
use Rattle.nl_folders.specs.declared.plans.Handed.{Handed}
use Rattle.nl_folders.specs.declared.plans.Place.{Place}
use Rattle.nl_folders.specs.declared.plans.Stage.{Stage}
use Rattle.nl_folders.specs.declared.plans.Stage.TheVariants.{Clearing, Making, Moving}
use Rattle.nl_folders.specs.Differences.{difference_of}
use Rattle.nl_folders.specs.Facts.CallLists.{after_both, after_one}
use Rattle.nl_folders.specs.Plans.{AreWhereTheyDiffer, GoesOn, KeepMoved, KeepMovedBy, LeadOn, Progress, Reached, StaysMoved, begun, left_of, tree_after_all}
use Rattle.nl_folders.specs.Private.Rewriting.{PutsObject}
use Rattle.nl_folders.specs.Private.Sides.{AreChosen, AreMatched, AreSteps, TwoSides, calls_of, has_come, has_gone, object_after, path_at}
use Rattle.nl_folders.specs.Private.Stages.{AreNeededAt, BeginsOtherwise, BeginsUnwanted, HandsOut, IsStage, IsToMakeAt, IsUnwantedAt, NeedsNoCall, moved_of, progress_by, progress_of, removal_of, steps_from}
use Rattle.nl_folders.specs.Spelled.{IsNameable}

-- ---- what has moved

module _ (s : TwoSides) (p : IsNameable s.present) (w : IsNameable s.wanted) (c : AreChosen s) where
  -- only paths of the tree that is there are to be judged
  judged_alone : IsJudgedBy s.present (moved_of s) s.wanted
  judged_alone = record {
    root = c.done.is_tree.root;
    others = λ q none.
        ap (λ (o : Option Object). left_of o (lookup s.wanted q)) (c.done.objects q)
        ∙ left_alike (has_come s.wanted s.steps q) (has_gone s.present s.steps q) (lookup s.wanted q)
        (lookup s.present q) none
        ∙ sym (c.done.objects q);
  }
    where
      itself : (o : Option Object) → left_of o o ≡ o
      itself None = refl
      itself (Some object) = left_itself object

      left_alike : (come gone : Bool) (wanted present : Option Object) → present ≡ None
          → left_of (cond come wanted (cond gone None present)) wanted ≡ cond come wanted (cond gone None present)
      left_alike true gone wanted present none = itself wanted
      left_alike false true wanted present none = refl
      left_alike false false wanted present none =
          ap (λ (o : Option Object). left_of o wanted) none ∙ sym none

  -- an entry that has gone stands no more, and another one stands
  stands_if : (k : ℕ) (e : Path × Object) → k < length s.present → e ≡ get_or s.present k e
      → lookup (moved_of s) e.0 ≡ cond (slice_index_or s.gone k false) None (Some e.1)
  stands_if k e within is =
      let path = path_read s.present k e within ∙ ap (λ (x : Path × Object). x.0) (sym is) in
      let there : lookup s.present e.0 ≡ Some e.1 =
      entry_found s.present (drop (k + 1) s.present) e k p.is_tree.ordered (place_is s.present k e within is) in
      let flag : has_gone s.present s.steps e.0 ≡ slice_index_or s.gone k false =
      ap (has_gone s.present s.steps) (sym path) ∙ sym (c.gone k within) in
      c.done.objects e.0
      ∙ ap (λ b.
      cond b (lookup s.wanted e.0) (cond (has_gone s.present s.steps e.0) None (lookup s.present e.0)))
      (not_come_there s.present s.wanted p w s.steps e.0 c.steps_are (ap is_some there))
      ∙ ap (λ b. cond b None (lookup s.present e.0)) flag
      ∙ ap (cond (slice_index_or s.gone k false) None) there

  -- one that has come stands as it is wanted, and where another one is wanted nothing has moved
  comes_if : (k : ℕ) (f : Path × Object) → k < length s.wanted → f ≡ get_or s.wanted k f
      → lookup (moved_of s) f.0 ≡ cond (slice_index_or s.come k false) (Some f.1) (lookup s.present f.0)
  comes_if k f within is =
      let path = path_read s.wanted k f within ∙ ap (λ (x : Path × Object). x.0) (sym is) in
      let there : lookup s.wanted f.0 ≡ Some f.1 =
      entry_found s.wanted (drop (k + 1) s.wanted) f k w.is_tree.ordered (place_is s.wanted k f within is) in
      let flag : has_come s.wanted s.steps f.0 ≡ slice_index_or s.come k false =
      ap (has_come s.wanted s.steps) (sym path) ∙ sym (c.come k within) in
      c.done.objects f.0
      ∙ ap (λ b.
      cond (has_come s.wanted s.steps f.0) (lookup s.wanted f.0) (cond b None (lookup s.present f.0)))
      (not_gone s.present s.wanted p w s.steps f.0 c.steps_are (ap is_some there))
      ∙ ap (λ b. cond b (lookup s.wanted f.0) (lookup s.present f.0)) flag
      ∙ ap (λ (o : Option Object). cond (slice_index_or s.come k false) o (lookup s.present f.0)) there

-- ---- moving

differs_if_new : (wanted : Option Object) → is_some wanted ≡ true → is_some (difference_of None wanted) ≡ true
differs_if_new None there = there
differs_if_new (Some object) there = refl

-- each step is to a path that the tree has not
steps_differ : (present wanted : Tree) (steps : List Step) → AreSteps present wanted steps
    → AreWhereTheyDiffer present wanted (calls_of present wanted steps)
steps_differ present wanted [] are = tt
steps_differ present wanted (Make k ∷ steps) are = (
  (path_at wanted k, (refl, new (path_at wanted k) are.0.1 (ap is_some are.0.0), tt)),
  steps_differ present wanted steps are.1,
)
  where
    new : (path : Path) → lookup present path ≡ None → is_some (lookup wanted path) ≡ true
        → is_some (difference_of (lookup present path) (lookup wanted path)) ≡ true
    new path lacks there =
        ap (λ (o : Option Object). is_some (difference_of o (lookup wanted path))) lacks
        ∙ differs_if_new (lookup wanted path) there
steps_differ present wanted (Relocate m ∷ steps) are = (
  (path_at wanted m.to, (refl, new (path_at wanted m.to) are.0.1.lacks are.0.1.there, tt)),
  steps_differ present wanted steps are.1,
)
  where
    new : (path : Path) → lookup present path ≡ None → is_some (lookup wanted path) ≡ true
        → is_some (difference_of (lookup present path) (lookup wanted path)) ≡ true
    new path lacks there =
        ap (λ (o : Option Object). is_some (difference_of o (lookup wanted path))) lacks
        ∙ differs_if_new (lookup wanted path) there

-- before anything moves the tree is the one that is there
unmoved : (s : TwoSides) (tree : Tree) → Reached (progress_of s Moving) tree → tree ≡ s.present
unmoved s tree r = same_lookups_are_one_tree tree s.present r.is_tree r.present_tree.is_tree r.objects

-- what a step renames stands as it is wanted
steps_kept : (present wanted moved : Tree) (steps part : List Step)
    → ((q : Path) → lookup moved q ≡ object_after present wanted steps q) → AreSteps present wanted part
    → ((q : Path) → has_come wanted part q ≡ true → has_come wanted steps q ≡ true)
    → KeepMoved moved wanted (calls_of present wanted part)
steps_kept present wanted moved steps [] objects are among = tt
steps_kept present wanted moved steps (Make k ∷ part) objects are among = (
  tt,
  steps_kept present wanted moved steps part objects are.1 (λ q has.
      among q (or_right (same_path q (path_at wanted k)) (has_come wanted part q) has)),
)
steps_kept present wanted moved steps (Relocate m ∷ part) objects are among = (
  (path_at wanted m.to, refl, are.0.1.there, stands),
  steps_kept present wanted moved steps part objects are.1 (λ q has.
      among q (or_right (is_within (path_at wanted m.to) q) (has_come wanted part q) has)),
)
  where
    stands : (rest : Path)
        → lookup moved (path_at wanted m.to ++ rest) ≡ lookup wanted (path_at wanted m.to ++ rest)
    stands rest =
        let q = path_at wanted m.to ++ rest in
        objects q
        ∙ ap (λ b. cond b (lookup wanted q) (cond (has_gone present steps q) None (lookup present q)))
        (among q (or_left (is_within (path_at wanted m.to) q) (has_come wanted part q)
        (is_within-append (path_at wanted m.to) rest)))

moved_reached : (s : TwoSides) (left : ℕ) (judged : Tree) → AreMatched s → IsNameable s.present
    → IsNameable s.wanted → judged ≡ [] → Reached (progress_by s (Some (moved_of s)) judged []) (moved_of s)
moved_reached s left judged m p w none =
    subst (λ (j : Tree). Reached (progress_by s (Some (moved_of s)) j []) (moved_of s)) (sym none) (record {
      present_tree = p;
      wanted_tree = w;
      is_tree = (m.chosen p w).done.is_tree;
      objects = λ q. refl;
    })

pub steps_handed : (s : TwoSides) (handed : Handed) → AreMatched s
    → handed.calls ≡ calls_of s.present s.wanted s.steps → 0 < length handed.calls
    → handed.stage ≡ Clearing (length s.present) → HandsOut s Moving handed
steps_handed s handed m calls_are some stage_is = record {
  leads = goes;
  is_stage = subst (IsStage s) (sym stage_is) (omega arith);
  shorter = subst (λ (t : Stage). steps_from s t < steps_from s Moving) (sym stage_is) (omega arith);
}
  where
    goes : (tree : Tree) → Reached (progress_of s Moving) tree
        → LeadOn tree (progress_of s Moving) (progress_of s handed.stage) handed.calls
    goes tree r =
        let c = m.chosen r.present_tree r.wanted_tree in
        let none : drop (length s.present) s.present ≡ [] = drop_all (length s.present) s.present (omega arith) in
        record {
          some = some;
          next = moved_of s;
          done =
              ap (λ (t : Tree). tree_after_all t handed.calls) (unmoved s tree r)
              ∙ ap (tree_after_all s.present) calls_are
              ∙ c.done.done;
          reached =
              subst (λ (t : Stage). Reached (progress_of s t) (moved_of s)) (sym stage_is)
              (moved_reached s (length s.present) (drop (length s.present) s.present) m r.present_tree
              r.wanted_tree none);
          differ =
              subst (AreWhereTheyDiffer s.present s.wanted) (sym calls_are)
              (steps_differ s.present s.wanted s.steps c.steps_are);
          stays = tt;
          kept =
              subst (λ (t : Stage). KeepMovedBy (progress_of s t).moved s.wanted handed.calls) (sym stage_is) (
                c.done.is_tree,
                subst (KeepMoved (moved_of s) s.wanted) (sym calls_are)
                    (steps_kept s.present s.wanted (moved_of s) s.steps s.steps c.done.objects c.steps_are
                    (λ _ has. has)),
              );
        }

-- where no step was chosen, nothing has moved
pub none_moved : (s : TwoSides) (calls : List Change) → AreMatched s
    → calls ≡ calls_of s.present s.wanted s.steps → length calls ≡ 0
    → NeedsNoCall s Moving (Clearing (length s.present))
none_moved s calls m calls_are none tree r =
    let c = m.chosen r.present_tree r.wanted_tree in
    let no_calls : calls_of s.present s.wanted s.steps ≡ [] =
    nil_from_length (calls_of s.present s.wanted s.steps) (ap length (sym calls_are) ∙ none) in
    let is : ◌≡◌ {A = Result Tree VolError} (Ok s.present) (Ok (moved_of s)) =
    sym (ap (tree_after_all s.present) no_calls) ∙ c.done.done in
    let same : s.present ≡ moved_of s = ap (λ (x : Result Tree VolError). result_unwrap_or x s.present) is in
    let no_more : drop (length s.present) s.present ≡ [] =
    drop_all (length s.present) s.present (omega arith) in
    subst (λ (t : Tree). Reached (progress_of s (Clearing (length s.present))) t)
    (sym (unmoved s tree r ∙ same))
    (moved_reached s (length s.present) (drop (length s.present) s.present) m r.present_tree r.wanted_tree no_more)

-- ---- clearing

-- an entry whose object stays, or has gone, is passed over
pub kept_passed : (s : TwoSides) (first left : ℕ) (e : Path × Object) → AreMatched s
    → NeedsNoCall s (Clearing first) (Clearing left) → 0 < left → left ≤ length s.present
    → e ≡ get_or s.present (left - 1) e
    → (IsTrue (is_sorted path_cmp s.wanted)
    → (not (slice_index_or s.gone (left - 1) false) && not (is_some (left_of (Some e.1) (lookup s.wanted e.0))))
    ≡ false)
    → NeedsNoCall s (Clearing first) (Clearing (left - 1))
kept_passed s first left e m so_far some within is stays tree reached =
    let k = left - 1 in
    let inside : k < length s.present = omega (arith, some, within) in
    let next : left ≡ k + 1 = omega (arith, some) in
    let place = place_is s.present k e inside is in
    let r : Reached (progress_of s (Clearing (k + 1))) tree =
    subst (λ (n : ℕ). Reached (progress_of s (Clearing n)) tree) next (so_far tree reached) in
    let p = r.present_tree in
    let w = r.wanted_tree in
    let c = m.chosen p w in
    subst (λ (judged : Tree). Reached (progress_by s (Some (moved_of s)) judged []) tree) (sym place)
    (kept_on s.present (moved_of s) s.wanted (judged_alone s p w c) (drop (k + 1) s.present) tree e k r place
    (by (slice_index_or s.gone k false) (lookup (moved_of s) e.0) (stands_if s p w c k e inside is)
    (stays w.is_tree.ordered)))
  where
    by : (gone : Bool) (o : Option Object) → o ≡ cond gone None (Some e.1)
        → (not gone && not (is_some (left_of (Some e.1) (lookup s.wanted e.0)))) ≡ false
        → left_of o (lookup s.wanted e.0) ≡ o
    by true o is_it kept = ap (λ (x : Option Object). left_of x (lookup s.wanted e.0)) is_it ∙ sym is_it
    by false o is_it kept =
        ap (λ (x : Option Object). left_of x (lookup s.wanted e.0)) is_it
        ∙ left_is e.1 (lookup s.wanted e.0)
        (not-false (is_some (left_of (Some e.1) (lookup s.wanted e.0))) kept)
        ∙ sym is_it

-- and the first one whose object has to go is found
pub unwanted_found : (s : TwoSides) (first left near : ℕ) (e : Path × Object)
    → NeedsNoCall s (Clearing first) (Clearing left) → 0 < left → left ≤ first → left ≤ length s.present
    → e ≡ get_or s.present (left - 1) e
    → (IsTrue (is_sorted path_cmp s.wanted)
    → (not (slice_index_or s.gone (left - 1) false) && not (is_some (left_of (Some e.1) (lookup s.wanted e.0))))
    ≡ true)
    → IsUnwantedAt s first (record { index = left - 1; near = near })
unwanted_found s first left near e so_far some below within is goes =
    let k = left - 1 in
    let next : left ≡ k + 1 = omega (arith, some) in
    record {
      before = omega (arith, some, below);
      kept = subst (λ (n : ℕ). NeedsNoCall s (Clearing first) (Clearing n)) next so_far;
      unwanted =
          subst (BeginsUnwanted s.wanted) (sym (place_is s.present k e (omega (arith, some, within)) is))
          (λ sorted.
          none_left (left_of (Some e.1) (lookup s.wanted e.0))
          (not-true (is_some (left_of (Some e.1) (lookup s.wanted e.0)))
          (and_parts (not (slice_index_or s.gone k false))
          (not (is_some (left_of (Some e.1) (lookup s.wanted e.0)))) (goes sorted)).1));
      stays = λ sorted.
          not-true (slice_index_or s.gone k false)
          (and_parts (not (slice_index_or s.gone k false))
          (not (is_some (left_of (Some e.1) (lookup s.wanted e.0)))) (goes sorted)).0;
    }

pub removal_handed : (s : TwoSides) (left : ℕ) (place : Place) (e : Path × Object) (handed : Handed)
    → AreMatched s → left ≤ length s.present → IsUnwantedAt s left place → e ≡ get_or s.present place.index e
    → handed.calls ≡ removal_of e.0 e.1 ∷ [] → handed.stage ≡ Clearing place.index
    → HandsOut s (Clearing left) handed
removal_handed s left place e handed m within u is calls_are stage_is = record {
  leads = goes;
  is_stage = subst (IsStage s) (sym stage_is) (omega (arith, within, u.before));
  shorter =
      subst (λ (t : Stage). steps_from s t < steps_from s (Clearing left)) (sym stage_is)
      (omega (arith, u.before));
}
  where
    goes : (tree : Tree) → Reached (progress_of s (Clearing left)) tree
        → LeadOn tree (progress_of s (Clearing left)) (progress_of s handed.stage) handed.calls
    goes tree reached =
        let k = place.index in
        let inside : k < length s.present = omega (arith, within, u.before) in
        let at_place = place_is s.present k e inside is in
        let rest = drop (k + 1) s.present in
        let r = u.kept tree reached in
        let p = r.present_tree in
        let w = r.wanted_tree in
        let c = m.chosen p w in
        let j = judged_alone s p w c in
        let gone : left_of (Some e.1) (lookup s.wanted e.0) ≡ None =
        subst (BeginsUnwanted s.wanted) at_place u.unwanted w.is_tree.ordered in
        let there : lookup (moved_of s) e.0 ≡ Some e.1 =
        stands_if s p w c k e inside is ∙ ap (λ b. cond b None (Some e.1)) (u.stays w.is_tree.ordered) in
        let found = entry_found s.present rest e k p.is_tree.ordered at_place in
        let d = removal_done s.present (moved_of s) s.wanted j rest tree e k r at_place there gone in
        let next : Reached (progress_of s (Clearing k)) d.next =
        subst (λ (judged : Tree). Reached (progress_by s (Some (moved_of s)) judged []) d.next) (sym at_place)
        (gone_on s.present (moved_of s) s.wanted j rest tree e k r at_place there gone) in
        let needed_with : (o : Option Object) → o ≡ Some e.1
        → AreNeededAt e.0 o (lookup s.wanted e.0) (removal_of e.0 e.1 ∷ []) =
        λ o is_it.
        subst (λ (x : Option Object). AreNeededAt e.0 x (lookup s.wanted e.0) (removal_of e.0 e.1 ∷ [])) (sym is_it)
        (removal_needed e.0 e.1 (lookup s.wanted e.0) (gone_differs e.1 (lookup s.wanted e.0) gone)) in
        let needed = needed_with (lookup s.present e.0) found in
        record {
          some = subst (λ (x : List Change). 0 < length x) (sym calls_are) (omega arith);
          next = d.next;
          done =
              ap (tree_after_all tree) calls_are
              ∙ after_one tree d.next (removal_of e.0 e.1) d.given d.done;
          reached = subst (λ (t : Stage). Reached (progress_of s t) d.next) (sym stage_is) next;
          differ =
              subst (AreWhereTheyDiffer s.present s.wanted) (sym calls_are)
              (needed_there s.present s.wanted e.0 (removal_of e.0 e.1 ∷ []) needed);
          stays =
              subst (λ (t : Stage). (progress_of s t).moved ≡ Some (moved_of s)) (sym stage_is) refl;
          kept =
              subst (λ (t : Stage). KeepMovedBy (progress_of s t).moved s.wanted handed.calls) (sym stage_is) (
                c.done.is_tree,
                subst (KeepMoved (moved_of s) s.wanted) (sym calls_are)
                    (needed_keep (moved_of s) s.wanted e.0 (removal_of e.0 e.1 ∷ []) (needed_with (lookup (moved_of s) e.0) there)),
              );
        }

-- ---- making

-- an entry that stands already is passed over
pub alike_passed : (s : TwoSides) (first k : ℕ) (f : Path × Object) → AreMatched s
    → NeedsNoCall s (Making first) (Making k) → k < length s.wanted → f ≡ get_or s.wanted k f
    → (IsTrue (is_sorted path_cmp s.present)
    → (not (slice_index_or s.come k false) && is_some (difference_of (lookup s.present f.0) (Some f.1)))
    ≡ false)
    → NeedsNoCall s (Making first) (Making (k + 1))
alike_passed s first k f m so_far within is same tree reached =
    let place = place_is s.wanted k f within is in
    let r = so_far tree reached in
    let p = r.present_tree in
    let w = r.wanted_tree in
    let c = m.chosen p w in
    let stands : lookup (moved_of s) f.0 ≡ Some f.1 =
    comes_if s p w c k f within is
    ∙ by (slice_index_or s.come k false) (lookup s.present f.0) (same p.is_tree.ordered) in
    subst (λ (made : Tree). Reached (progress_by s (Some (moved_of s)) s.present made) tree)
    (sym (taken_is s.wanted k f within is))
    (alike_on s.present (moved_of s) s.wanted (judged_alone s p w c) tree (drop (k + 1) s.wanted) f k r place
    stands)
  where
    by : (come : Bool) (o : Option Object) → (not come && is_some (difference_of o (Some f.1))) ≡ false
        → cond come (Some f.1) o ≡ Some f.1
    by true o alike_is = refl
    by false o alike_is = alike o f.1 alike_is

-- and the first one that doesn't is found
pub to_make_found : (s : TwoSides) (first k near : ℕ) (f : Path × Object)
    → NeedsNoCall s (Making first) (Making k) → first ≤ k → k < length s.wanted → f ≡ get_or s.wanted k f
    → (IsTrue (is_sorted path_cmp s.present)
    → (not (slice_index_or s.come k false) && is_some (difference_of (lookup s.present f.0) (Some f.1)))
    ≡ true)
    → IsToMakeAt s first (record { index = k; near = near })
to_make_found s first k near f so_far behind within is lacks = record {
  behind = behind;
  before = within;
  kept = so_far;
  lacks = λ sorted.
      not-true (slice_index_or s.come k false)
      (and_parts (not (slice_index_or s.come k false))
      (is_some (difference_of (lookup s.present f.0) (Some f.1))) (lacks sorted)).0;
  otherwise =
      subst (BeginsOtherwise s.present) (sym (place_is s.wanted k f within is))
      (λ sorted.
      (and_parts (not (slice_index_or s.come k false))
      (is_some (difference_of (lookup s.present f.0) (Some f.1))) (lacks sorted)).1);
}

pub addition_handed : (s : TwoSides) (done : ℕ) (place : Place) (f : Path × Object) (o : Option Object)
    (handed : Handed) → AreMatched s → IsToMakeAt s done place → f ≡ get_or s.wanted place.index f
    → (IsTrue (is_sorted path_cmp s.present) → o ≡ lookup s.present f.0) → PutsObject f.0 o f.1 handed.calls
    → handed.stage ≡ Making (place.index + 1) → HandsOut s (Making done) handed
addition_handed s done place f o handed m t is found puts stage_is = record {
  leads = goes;
  is_stage = subst (IsStage s) (sym stage_is) (omega (arith, t.before));
  shorter =
      subst (λ (x : Stage). steps_from s x < steps_from s (Making done)) (sym stage_is)
      (omega (arith, t.before, t.behind));
}
  where
    goes : (tree : Tree) → Reached (progress_of s (Making done)) tree
        → LeadOn tree (progress_of s (Making done)) (progress_of s handed.stage) handed.calls
    goes tree reached =
        let k = place.index in
        let at_place = place_is s.wanted k f t.before is in
        let rest = drop (k + 1) s.wanted in
        let r = t.kept tree reached in
        let p = r.present_tree in
        let w = r.wanted_tree in
        let c = m.chosen p w in
        let j = judged_alone s p w c in
        let sorted = p.is_tree.ordered in
        let sought = entry_found s.wanted rest f k w.is_tree.ordered at_place in
        let same_there : lookup (moved_of s) f.0 ≡ lookup s.present f.0 =
        comes_if s p w c k f t.before is
        ∙ ap (λ b. cond b (Some f.1) (lookup s.present f.0)) (t.lacks sorted) in
        let put_here : PutsObject f.0 (lookup s.present f.0) f.1 handed.calls =
        subst (λ (x : Option Object). PutsObject f.0 x f.1 handed.calls) (found sorted) puts in
        let put_there : PutsObject f.0 (lookup (moved_of s) f.0) f.1 handed.calls =
        subst (λ (x : Option Object). PutsObject f.0 x f.1 handed.calls) (sym same_there) put_here in
        let d =
        object_put tree f.0 (lookup (moved_of s) f.0) f.1 handed.calls
        (may_stand s.present (moved_of s) s.wanted j tree rest f k r at_place) put_there in
        let next : Reached (progress_of s (Making (k + 1))) d.next =
        subst (λ (made : Tree). Reached (progress_by s (Some (moved_of s)) s.present made) d.next)
        (sym (taken_is s.wanted k f t.before is))
        (put_on s.present (moved_of s) s.wanted j tree rest f k r at_place handed.calls d) in
        let otherwise : is_some (difference_of (lookup s.present f.0) (Some f.1)) ≡ true =
        subst (BeginsOtherwise s.present) at_place t.otherwise sorted in
        let needed : AreNeededAt f.0 (lookup s.present f.0) (lookup s.wanted f.0) handed.calls =
        subst (λ (x : Option Object). AreNeededAt f.0 (lookup s.present f.0) x handed.calls) (sym sought)
        (object_needed f.0 (lookup s.present f.0) f.1 handed.calls otherwise put_here) in
        record {
          some = object_some f.0 (lookup s.present f.0) f.1 handed.calls otherwise put_here;
          next = d.next;
          done = d.done;
          reached = subst (λ (x : Stage). Reached (progress_of s x) d.next) (sym stage_is) next;
          differ = needed_there s.present s.wanted f.0 handed.calls needed;
          stays =
              subst (λ (x : Stage). (progress_of s x).moved ≡ Some (moved_of s)) (sym stage_is) refl;
          kept =
              subst (λ (x : Stage). KeepMovedBy (progress_of s x).moved s.wanted handed.calls) (sym stage_is) (
                c.done.is_tree,
                needed_keep (moved_of s) s.wanted f.0 handed.calls
                    (subst (λ (x : Option Object). AreNeededAt f.0 x (lookup s.wanted f.0) handed.calls) (sym same_there)
                    needed),
              );
        }

-- ---- one stage behind another

present_of : (s : TwoSides) (stage : Stage) → (progress_of s stage).present ≡ s.present
present_of s Moving = refl
present_of s (Clearing left) = refl
present_of s (Making done) = refl

wanted_of : (s : TwoSides) (stage : Stage) → (progress_of s stage).wanted ≡ s.wanted
wanted_of s Moving = refl
wanted_of s (Clearing left) = refl
wanted_of s (Making done) = refl

-- what has moved stays so
moved_stays : (s : TwoSides) (stage next : Stage) (wanted : Tree) (calls : List Change) → 0 < length calls
    → KeepMovedBy (progress_of s next).moved wanted calls
    → StaysMoved (progress_of s stage).moved (progress_of s next).moved
moved_stays s Moving next wanted calls some kept = tt
moved_stays s (Clearing left) Moving wanted calls some none = absurd (omega (arith, some, ap length none))
moved_stays s (Clearing left) (Clearing to) wanted calls some kept = refl
moved_stays s (Clearing left) (Making to) wanted calls some kept = refl
moved_stays s (Making done) Moving wanted calls some none = absurd (omega (arith, some, ap length none))
moved_stays s (Making done) (Clearing to) wanted calls some kept = refl
moved_stays s (Making done) (Making to) wanted calls some kept = refl

-- a stage behind which no call is needed hands out what the next one does
handed_behind : (s : TwoSides) (stage next : Stage) (handed : Handed) → NeedsNoCall s stage next
    → HandsOut s next handed → steps_from s next ≤ steps_from s stage → HandsOut s stage handed
handed_behind s stage next handed no_call h less = record {
  leads = λ tree reached.
      let l = h.leads tree (no_call tree reached) in
      record {
        some = l.some;
        next = l.next;
        done = l.done;
        reached = l.reached;
        differ = differs l.differ;
        stays = moved_stays s stage handed.stage (progress_of s next).wanted handed.calls l.some l.kept;
        kept =
            subst (λ (t : Tree). KeepMovedBy (progress_of s handed.stage).moved t handed.calls)
            (wanted_of s next ∙ sym (wanted_of s stage)) l.kept;
      };
  is_stage = h.is_stage;
  shorter = omega (arith, h.shorter, less);
}
  where
    differs : AreWhereTheyDiffer (progress_of s next).present (progress_of s next).wanted handed.calls
        → AreWhereTheyDiffer (progress_of s stage).present (progress_of s stage).wanted handed.calls
    differs are =
        subst (λ (t : Tree). AreWhereTheyDiffer t (progress_of s stage).wanted handed.calls)
        (present_of s next ∙ sym (present_of s stage))
        (subst (λ (t : Tree). AreWhereTheyDiffer (progress_of s next).present t handed.calls)
        (wanted_of s next ∙ sym (wanted_of s stage)) are)

-- what a stage hands out, or the last one
abbrev pub GivesAll : TwoSides → Stage → Option Handed → Type 0
GivesAll s stage handed =
    MatchOption handed (NeedsNoCall s stage (Making (length s.wanted))) (HandsOut s stage)

pub gives_behind : (s : TwoSides) (stage next : Stage) (result : Result (Option Handed) AllocError)
    → NeedsNoCall s stage next → steps_from s next ≤ steps_from s stage → IfOk result (GivesAll s next)
    → IfOk result (GivesAll s stage)
gives_behind s stage next (Err e) no_call less goes = tt
gives_behind s stage next (Ok None) no_call less goes = λ tree reached. goes tree (no_call tree reached)
gives_behind s stage next (Ok (Some handed)) no_call less goes =
    handed_behind s stage next handed no_call goes less

-- ---- the plan

-- where a plan hands out nothing more, the tree that it has come to is the wanted one
pub plan_ended : (s : TwoSides) (stage : Stage) (progress : Progress) → AreMatched s
    → progress_of s stage ≡ progress → NeedsNoCall s stage (Making (length s.wanted)) → (tree : Tree)
    → Reached progress tree → tree ≡ progress.wanted
plan_ended s stage progress m is no_call tree reached =
    let r = no_call tree (subst (λ (p : Progress). Reached p tree) (sym is) reached) in
    let p = r.present_tree in
    let w = r.wanted_tree in
    reached_last s.present (moved_of s) s.wanted (judged_alone s p w (m.chosen p w)) tree
    (subst (λ (made : Tree). Reached (progress_by s (Some (moved_of s)) s.present made) tree)
    (take_all (length s.wanted) s.wanted (omega arith)) r)
    ∙ sym (wanted_of s stage)
    ∙ ap (λ (x : Progress). x.wanted) is

-- the calls so far have led to a tree that the plan has come to, and each was where the two trees differ
pub record HaveLed (present wanted : Tree) (all : List Change) (progress : Progress) : Type 0 where
  pub tree : Tree
  pub done : tree_after_all present all ≡ Ok tree
  pub reached : Reached progress tree
  pub differ : AreWhereTheyDiffer present wanted all
  pub kept : KeepMovedBy progress.moved wanted all

AreWhereTheyDiffer-append : (one other : Tree) (calls more : List Change) → AreWhereTheyDiffer one other calls
    → AreWhereTheyDiffer one other more → AreWhereTheyDiffer one other (calls ++ more)
AreWhereTheyDiffer-append one other [] more first second = second
AreWhereTheyDiffer-append one other (call ∷ calls) more first second =
    (first.0, AreWhereTheyDiffer-append one other calls more first.1 second)

-- at first there are none
pub led_first : (present wanted : Tree) (progress : Progress) (all : List Change)
    → progress ≡ begun present wanted → (IsNameable present → IsNameable wanted → Reached progress present)
    → all ≡ [] → IsNameable present → IsNameable wanted → HaveLed present wanted all progress
led_first present wanted progress all begins reached none p w = record {
  tree = present;
  done = ap (tree_after_all present) none;
  reached = reached p w;
  differ = subst (AreWhereTheyDiffer present wanted) (sym none) tt;
  kept =
      subst (λ (x : Progress). KeepMovedBy x.moved wanted all) (sym begins) none;
}

-- and so do those that are handed out next
pub led_on : (present wanted : Tree) (old new : Progress) (all more next : List Change)
    → old.present ≡ present → old.wanted ≡ wanted → HaveLed present wanted all old → GoesOn old new (Some more)
    → next ≡ all ++ more → HaveLed present wanted next new
led_on present wanted old new all more next there sought led goes is =
    let lead = goes led.tree led.reached in
    let differ : AreWhereTheyDiffer present wanted more =
    subst (λ (t : Tree). AreWhereTheyDiffer t wanted more) there
    (subst (λ (t : Tree). AreWhereTheyDiffer old.present t more) sought lead.differ) in
    record {
      tree = lead.next;
      done =
          ap (tree_after_all present) is
          ∙ after_both present led.tree lead.next all more led.done lead.done;
      reached = lead.reached;
      differ =
          subst (AreWhereTheyDiffer present wanted) (sym is)
          (AreWhereTheyDiffer-append present wanted all more led.differ differ);
      kept =
          subst (KeepMovedBy new.moved wanted) (sym is)
          (kept_behind old.moved new.moved wanted all more lead.stays led.kept
          (subst (λ (t : Tree). KeepMovedBy new.moved t more) sought lead.kept));
    }
