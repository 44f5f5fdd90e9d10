-- Steps are done, one after another, and what stands then.
use Rattle.std.proofs.Common.{◌≡◌, ℕ, ◌+◌, ◌<◌, ◌≤◌, Bool, true, false, cond, ◌||◌, List, [], ◌∷◌, ◌++◌, length, drop, get_or, Some, None, Result, Ok, refl, sym, ap, ◌∙◌, subst, true≢false, is_some, arith, inl, inr, append_assoc, append-nil}
use Rattle.std.specs.Result.{result_unwrap_or}
use Rattle.std.proofs.lemmas.Bool.{cases_Bool, cases_lt, or_cases, or_from, or_left, or_right}
use Rattle.std.proofs.lemmas.List.{length_push, map_push}
use Rattle.nl_types.specs.declared.error.VolError.{VolError}
use Rattle.nl_types.specs.declared.reply.Answer.{Answer}
use Rattle.nl_types.specs.declared.reply.Object.TheVariants.{Dir}
use Rattle.nl_types.specs.Plain.Paths.{Name, Path, same_path, is_within}
use Rattle.nl_types.specs.Plain.Trees.{Tree, IsTree, lookup}
use Rattle.nl_types.specs.Plain.Calls.{change, walk}
use Rattle.nl_types.specs.Facts.Booleans.{not_true}
use Rattle.nl_types.specs.Facts.Lookups.{is_within-append, same_path-itself, within_both, within_is}
use Rattle.nl_types.specs.Facts.TreeLaws.{same_path-equal}
use Rattle.nl_folders.proofs.DoneCalls.{IsDoneAt, mkdir_done, walk_below}
use Rattle.nl_folders.proofs.Renames.{IsRenamed, object_renamed, not_root, rename_done}
use Rattle.nl_folders.proofs.SortedTrees.{found_at_place}
use Rattle.nl_folders.proofs.TreePaths.{above_is, ending_of}
use Rattle.nl_folders.specs.declared.sides.Relocation.{Relocation}
use Rattle.nl_folders.specs.declared.sides.Step.{Step}
use Rattle.nl_folders.specs.declared.sides.Step.TheVariants.{Make, Relocate}
use Rattle.nl_folders.specs.Facts.CallLists.{after_both, after_one}
use Rattle.nl_folders.specs.Facts.Spellings.{path_of-nameable}
use Rattle.nl_folders.specs.Plans.{tree_after_all}
use Rattle.nl_folders.specs.Private.Sides.{AreChosen, AreDone, ArePlaced, AreSteps, HasDirectoryAbove, IsAlone, IsPart, MayMake, MayMove, TwoSides, call_of, calls_of, comes_by, goes_by, has_come, has_gone, path_at, tree_after_steps}
use Rattle.nl_folders.specs.Spelled.{spelling, IsNameable}

-- ---- paths

or_assoc : (a b c : Bool) → (a || (b || c)) ≡ ((a || b) || c)
or_assoc true b c = refl
or_assoc false b c = refl

pub or_false : (b : Bool) → (b || false) ≡ b
or_false true = refl
or_false false = refl

pub or_true : (b : Bool) → (b || true) ≡ true
or_true true = refl
or_true false = refl

pub within_itself : (path : Path) → is_within path path ≡ true
within_itself path = subst (λ (p : Path). is_within path p ≡ true) (append-nil path) (is_within-append path [])

within_more : (top path more : Path) → is_within top path ≡ true → is_within top (path ++ more) ≡ true
within_more top path more inside =
    let whole : path ++ more ≡ top ++ (drop (length top) path ++ more) =
    ap (λ (p : Path). p ++ more) (within_is top path inside)
    ∙ append_assoc top (drop (length top) path) more in
    subst (λ (p : Path). is_within top p ≡ true) (sym whole) (is_within-append top (drop (length top) path ++ more))

-- what a path begins with is in each tree that the path is in
within_there : (tree : Tree) (top path : Path) → IsTree tree → is_within top path ≡ true
    → is_some (lookup tree path) ≡ true → is_some (lookup tree top) ≡ true
within_there tree top path t inside there =
    above_is tree t (drop (length top) path) top
    (ap (λ (p : Path). is_some (lookup tree p)) (sym (within_is top path inside)) ∙ there)

-- what comes by a step, if a path does, all that lies below comes too, or it is a directory that is made
pub has_come-push : (wanted : Tree) (steps : List Step) (step : Step) (q : Path)
    → has_come wanted (steps ++ step ∷ []) q ≡ (has_come wanted steps q || comes_by wanted step q)
has_come-push wanted [] step q = or_false (comes_by wanted step q)
has_come-push wanted (first ∷ steps) step q =
    ap (λ b. comes_by wanted first q || b) (has_come-push wanted steps step q)
    ∙ or_assoc (comes_by wanted first q) (has_come wanted steps q) (comes_by wanted step q)

pub has_gone-push : (present : Tree) (steps : List Step) (step : Step) (q : Path)
    → has_gone present (steps ++ step ∷ []) q ≡ (has_gone present steps q || goes_by present step q)
has_gone-push present [] step q = or_false (goes_by present step q)
has_gone-push present (first ∷ steps) step q =
    ap (λ b. goes_by present first q || b) (has_gone-push present steps step q)
    ∙ or_assoc (goes_by present first q) (has_gone present steps q) (goes_by present step q)

-- what lies below a path that has gone has gone too
goes_more : (present : Tree) (step : Step) (path more : Path) → goes_by present step path ≡ true
    → goes_by present step (path ++ more) ≡ true
goes_more present (Make k) path more is = is
goes_more present (Relocate m) path more is = within_more (path_at present m.from) path more is

gone_more : (present : Tree) (steps : List Step) (path more : Path) → has_gone present steps path ≡ true
    → has_gone present steps (path ++ more) ≡ true
gone_more present [] path more is = is
gone_more present (step ∷ steps) path more is =
    elim (or_cases (goes_by present step path) (has_gone present steps path) is) [
      | inl here ↦
          or_left (goes_by present step (path ++ more)) (has_gone present steps (path ++ more))
          (goes_more present step path more here)
      | inr behind ↦
          or_right (goes_by present step (path ++ more)) (has_gone present steps (path ++ more))
          (gone_more present steps path more behind)
    ]

-- ---- apart

module _ (present wanted : Tree) (p : IsNameable present) (w : IsNameable wanted) where
  -- what is wanted doesn't go
  pub not_gone : (steps : List Step) (q : Path) → AreSteps present wanted steps
      → is_some (lookup wanted q) ≡ true → has_gone present steps q ≡ false
  not_gone [] q are there = refl
  not_gone (Make k ∷ steps) q are there = not_gone steps q are.1 there
  not_gone (Relocate m ∷ steps) q are there =
      or_from (is_within (path_at present m.from) q) (has_gone present steps q)
      (not_true (is_within (path_at present m.from) q) (λ inside.
      true≢false
      (sym (within_there wanted (path_at present m.from) q w.is_tree inside there) ∙ ap is_some are.0.0.lacks)))
      (not_gone steps q are.1 there)

  -- nothing comes to a path that is there
  pub not_come_there : (steps : List Step) (q : Path) → AreSteps present wanted steps
      → is_some (lookup present q) ≡ true → has_come wanted steps q ≡ false
  not_come_there [] q are there = refl
  not_come_there (Make k ∷ steps) q are there =
      or_from (same_path q (path_at wanted k)) (has_come wanted steps q)
      (not_true (same_path q (path_at wanted k)) (λ same.
      true≢false
      (sym there
      ∙ ap (λ (x : Path). is_some (lookup present x)) (same_path-equal q (path_at wanted k) same)
      ∙ ap is_some are.0.1)))
      (not_come_there steps q are.1 there)
  not_come_there (Relocate m ∷ steps) q are there =
      or_from (is_within (path_at wanted m.to) q) (has_come wanted steps q)
      (not_true (is_within (path_at wanted m.to) q) (λ inside.
      true≢false
      (sym (within_there present (path_at wanted m.to) q p.is_tree inside there) ∙ ap is_some are.0.1.lacks)))
      (not_come_there steps q are.1 there)

  -- no path lies both where a part stands that isn't wanted there and where one comes that isn't there yet
  never_both : (from to q : Path) → IsAlone present wanted from → IsAlone wanted present to
      → is_within from q ≡ true → is_within to q ≡ true → ⊥
  never_both from to q goes comes out into = elim (cases_Bool (is_within from to)) [
    | inl above ↦
        true≢false (sym (within_there wanted from to w.is_tree above comes.there) ∙ ap is_some goes.lacks)
    | inr beside ↦
        true≢false
        (sym (within_there present to from p.is_tree (within_both from to q out into beside) goes.there)
        ∙ ap is_some comes.lacks)
  ]

  -- nothing comes where a part stands that isn't wanted there
  not_come : (from : Path) (steps : List Step) (q : Path) → IsAlone present wanted from
      → AreSteps present wanted steps → is_within from q ≡ true → has_come wanted steps q ≡ false
  not_come from [] q goes are out = refl
  not_come from (Make k ∷ steps) q goes are out =
      or_from (same_path q (path_at wanted k)) (has_come wanted steps q)
      (not_true (same_path q (path_at wanted k)) (λ same.
      let inside : is_within from (path_at wanted k) ≡ true =
      ap (is_within from) (sym (same_path-equal q (path_at wanted k) same)) ∙ out in
      true≢false
      (sym (within_there wanted from (path_at wanted k) w.is_tree inside (ap is_some are.0.0))
      ∙ ap is_some goes.lacks)))
      (not_come from steps q goes are.1 out)
  not_come from (Relocate n ∷ steps) q goes are out =
      or_from (is_within (path_at wanted n.to) q) (has_come wanted steps q)
      (not_true (is_within (path_at wanted n.to) q) (λ into. never_both from (path_at wanted n.to) q goes are.0.1 out into))
      (not_come from steps q goes are.1 out)

  -- and nothing goes from where one comes
  not_gone_from : (to : Path) (steps : List Step) (q : Path) → IsAlone wanted present to
      → AreSteps present wanted steps → is_within to q ≡ true → has_gone present steps q ≡ false
  not_gone_from to [] q comes are into = refl
  not_gone_from to (Make k ∷ steps) q comes are into = not_gone_from to steps q comes are.1 into
  not_gone_from to (Relocate n ∷ steps) q comes are into =
      or_from (is_within (path_at present n.from) q) (has_gone present steps q)
      (not_true (is_within (path_at present n.from) q) (λ out. never_both (path_at present n.from) to q are.0.0 comes out into))
      (not_gone_from to steps q comes are.1 into)

-- ---- parts

-- an entry of a part is at a place of it
part_place : (entries : Tree) (start end k : ℕ) → IsPart entries start end → k < length entries
    → is_within (path_at entries start) (path_at entries k) ≡ true → (start ≤ k) × (k < end)
part_place entries start end k part within inside = elim (cases_lt k start) [
  | inl earlier ↦ absurd (true≢false (sym inside ∙ part.before k earlier))
  | inr behind ↦ elim (cases_lt k end) [
    | inl below ↦ (behind, below)
    | inr past ↦ absurd (true≢false (sym inside ∙ part.behind k past within))
  ]
]

module _ (s : TwoSides) (p : IsNameable s.present) (w : IsNameable s.wanted) (c : AreChosen s)
    (placed : ArePlaced s.present s.wanted s.steps) where
  abbrev after : Tree
  after = tree_after_steps s.present s.wanted s.steps

  -- what stands at a path that no step is at
  untouched : (q : Path) → has_come s.wanted s.steps q ≡ false → has_gone s.present s.steps q ≡ false
      → lookup after q ≡ lookup s.present q
  untouched q not_in not_out =
      c.done.objects q
      ∙ ap (λ b.
      cond b (lookup s.wanted q) (cond (has_gone s.present s.steps q) None (lookup s.present q))) not_in
      ∙ ap (λ b. cond b None (lookup s.present q)) not_out

  -- a wanted directory above something stands, if it stood or has come
  above_stands : (path : Path) → is_some (lookup s.wanted path) ≡ true → HasDirectoryAbove s path
      → (dir : Path) (name : Name) → dir ++ name ∷ [] ≡ path → lookup after dir ≡ Some Dir
  above_stands path there above dir name is =
      c.done.objects dir
      ∙ by (has_come s.wanted s.steps dir) refl
    where
      wanted_dir : lookup s.wanted dir ≡ Some Dir
      wanted_dir =
          w.is_tree.parents dir name (ap (λ (q : Path). is_some (lookup s.wanted q)) is ∙ there)

      stood : has_come s.wanted s.steps dir ≡ false → lookup s.present dir ≡ Some Dir
      stood lacks = elim (above dir name is) [
        | inl stands ↦ stands
        | inr comes ↦
            absurd (true≢false
            (sym comes.3 ∙ c.come comes.0 comes.1 ∙ ap (has_come s.wanted s.steps) comes.2 ∙ lacks))
      ]

      by : (b : Bool) → has_come s.wanted s.steps dir ≡ b
          → cond (has_come s.wanted s.steps dir) (lookup s.wanted dir)
          (cond (has_gone s.present s.steps dir) None (lookup s.present dir))
          ≡ Some Dir
      by true is =
          ap (λ b. cond b (lookup s.wanted dir)
          (cond (has_gone s.present s.steps dir) None (lookup s.present dir))) is
          ∙ wanted_dir
      by false is =
          ap (λ b. cond b (lookup s.wanted dir)
          (cond (has_gone s.present s.steps dir) None (lookup s.present dir))) is
          ∙ ap (λ b. cond b None (lookup s.present dir))
          (not_gone s.present s.wanted p w s.steps dir c.steps_are (ap is_some wanted_dir))
          ∙ stood is

  -- so a walk comes to the path
  walk_above : (path : Path) → is_some (lookup s.wanted path) ≡ true → lookup s.present path ≡ None
      → HasDirectoryAbove s path → walk after path ≡ Ok tt
  walk_above path there new above = elim (ending_of path) [
    | inl root ↦
        absurd (true≢false (sym (ap is_some (ap (lookup s.present) root ∙ p.is_tree.root)) ∙ ap is_some new))
    | inr ending ↦
        ap (walk after) ending.2
        ∙ walk_below after ending.0 ending.1 c.done.is_tree
        (above_stands path there above ending.0 ending.1 (sym ending.2))
  ]

  -- one call more, by what it leaves
  push_done : (step : Step) (given : Answer) (next : Tree)
      → change after (call_of s.present s.wanted step) ≡ Ok (given, next) → IsTree next
      → length next ≤ length after + 1
      → ((q : Path)
      → lookup next q
      ≡ cond (has_come s.wanted s.steps q || comes_by s.wanted step q) (lookup s.wanted q)
      (cond (has_gone s.present s.steps q || goes_by s.present step q) None (lookup s.present q)))
      → AreDone s.present s.wanted (s.steps ++ step ∷ [])
  push_done step given next done t size objects =
      let all : tree_after_all s.present (calls_of s.present s.wanted (s.steps ++ step ∷ [])) ≡ Ok next =
      ap (tree_after_all s.present) (map_push (call_of s.present s.wanted) s.steps step)
      ∙ after_both s.present after next (calls_of s.present s.wanted s.steps)
      (call_of s.present s.wanted step ∷ []) c.done.done
      (after_one after next (call_of s.present s.wanted step) given done) in
      let is : tree_after_steps s.present s.wanted (s.steps ++ step ∷ []) ≡ next =
      ap (λ (r : Result Tree VolError). result_unwrap_or r s.present) all in
      record {
        done = all ∙ ap (λ (x : Tree). Ok x) (sym is);
        is_tree = subst IsTree (sym is) t;
        objects = λ q.
            ap (λ (x : Tree). lookup x q) is
            ∙ objects q
            ∙ sym (ap (λ b.
            cond b (lookup s.wanted q)
            (cond (has_gone s.present s.steps q || goes_by s.present step q) None (lookup s.present q)))
            (has_come-push s.wanted s.steps step q))
            ∙ sym (ap (λ b.
            cond (has_come s.wanted (s.steps ++ step ∷ []) q) (lookup s.wanted q)
            (cond b None (lookup s.present q)))
            (has_gone-push s.present s.steps step q));
        size =
            subst (λ (x : Tree). length x ≤ length s.present + length (s.steps ++ step ∷ [])) (sym is)
            (omega (arith, size, c.done.size, length_push s.steps step));
      }

  -- ---- a directory

  module _ (k : ℕ) (within : k < length s.wanted) (may : MayMake s k) where
    make_done : IsDoneAt after (call_of s.present s.wanted (Make k)) (path_at s.wanted k) (Some Dir)
    make_done =
        let path = path_at s.wanted k in
        let there = ap is_some may.is_step.0 in
        let lacks : has_come s.wanted s.steps path ≡ false = sym (c.come k within) ∙ may.free in
        mkdir_done after (spelling path) path c.done.is_tree (path_of-nameable s.wanted path w there)
        (walk_above path there may.is_step.1 may.above)
        (untouched path lacks (not_gone s.present s.wanted p w s.steps path c.steps_are there)
        ∙ may.is_step.1)
        (omega (arith, c.done.size, may.room))

    pub made_done : AreDone s.present s.wanted (s.steps ++ Make k ∷ [])
    made_done =
        push_done (Make k) make_done.given make_done.next make_done.done make_done.is_tree make_done.size
        (λ q. make_done.objects q ∙ by q)
      where
        by : (q : Path)
            → cond (same_path q (path_at s.wanted k)) (Some Dir) (lookup after q)
            ≡ cond (has_come s.wanted s.steps q || same_path q (path_at s.wanted k)) (lookup s.wanted q)
            (cond (has_gone s.present s.steps q || false) None (lookup s.present q))
        by q =
            let in_it = has_come s.wanted s.steps q in
            let out_of = has_gone s.present s.steps q in
            elim (same_path q (path_at s.wanted k)) as (λ b.
            same_path q (path_at s.wanted k) ≡ b
            → cond b (Some Dir) (lookup after q)
            ≡ cond (in_it || b) (lookup s.wanted q) (cond (out_of || false) None (lookup s.present q))) [
              | true ↦ λ same.
                  sym (ap (λ b.
                  cond b (lookup s.wanted q) (cond (out_of || false) None (lookup s.present q))) (or_true in_it)
                  ∙ ap (lookup s.wanted) (same_path-equal q (path_at s.wanted k) same)
                  ∙ may.is_step.0)
              | false ↦ λ _.
                  c.done.objects q
                  ∙ sym (ap (λ b.
                  cond b (lookup s.wanted q) (cond (out_of || false) None (lookup s.present q))) (or_false in_it)
                  ∙ ap (λ b. cond in_it (lookup s.wanted q) (cond b None (lookup s.present q)))
                  (or_false out_of))
            ] refl

  -- ---- a part

  module _ (m : Relocation) (from_in : m.from < length s.present) (to_in : m.to < length s.wanted) (some : 0 < m.count)
      (may : MayMove s m) where
    -- nothing has gone from where it stands
    own_stays : has_gone s.present s.steps (path_at s.present m.from) ≡ false
    own_stays =
        sym (c.gone m.from from_in) ∙ may.free_gone m.from (omega arith) (omega (arith, some))

    own_comes : has_come s.wanted s.steps (path_at s.wanted m.to) ≡ false
    own_comes = sym (c.come m.to to_in) ∙ may.free_come m.to (omega arith) (omega (arith, some))

    gone_placed : (k : ℕ) → k < length s.present → has_gone s.present s.steps (path_at s.present k) ≡ true
        → is_within (path_at s.present m.from) (path_at s.present k) ≡ true → ⊥
    gone_placed k within has inside =
        let place = part_place s.present m.from (m.from + m.count) k may.movable.part_gone within inside in
        true≢false (sym has ∙ sym (c.gone k within) ∙ may.free_gone k place.0 place.1)

    come_placed : (k : ℕ) → k < length s.wanted → has_come s.wanted s.steps (path_at s.wanted k) ≡ true
        → is_within (path_at s.wanted m.to) (path_at s.wanted k) ≡ true → ⊥
    come_placed k within has inside =
        let place = part_place s.wanted m.to (m.to + m.count) k may.movable.part_come within inside in
        true≢false (sym has ∙ sym (c.come k within) ∙ may.free_come k place.0 place.1)

    part_stays : (part : List Step) (q : Path) → ArePlaced s.present s.wanted part
        → ((x : Path) → has_gone s.present part x ≡ true → has_gone s.present s.steps x ≡ true)
        → is_within (path_at s.present m.from) q ≡ true → has_gone s.present part q ≡ false
    part_stays [] q at among inside = refl
    part_stays (Make k ∷ part) q at among inside = part_stays part q at.1 among inside
    part_stays (Relocate n ∷ part) q at among inside =
        let own = path_at s.present m.from in
        let other = path_at s.present n.from in
        or_from (is_within other q) (has_gone s.present part q)
        (not_true (is_within other q) (λ also. elim (cases_Bool (is_within own other)) [
          | inl above ↦
              gone_placed n.from at.0.0
              (among other (or_left (is_within other other) (has_gone s.present part other) (within_itself other)))
              above
          | inr beside ↦
              true≢false
              (sym (among own (or_left (is_within other own) (has_gone s.present part own)
              (within_both own other q inside also beside)))
              ∙ own_stays)
        ]))
        (part_stays part q at.1
        (λ x has. among x (or_right (is_within other x) (has_gone s.present part x) has)) inside)

    part_comes : (part : List Step) (q : Path) → ArePlaced s.present s.wanted part
        → ((x : Path) → has_come s.wanted part x ≡ true → has_come s.wanted s.steps x ≡ true)
        → is_within (path_at s.wanted m.to) q ≡ true → has_come s.wanted part q ≡ false
    part_comes [] q at among inside = refl
    part_comes (Make k ∷ part) q at among inside =
        let other = path_at s.wanted k in
        or_from (same_path q other) (has_come s.wanted part q)
        (not_true (same_path q other) (λ same.
        come_placed k at.0
        (among other (or_left (same_path other other) (has_come s.wanted part other) (same_path-itself other)))
        (ap (is_within (path_at s.wanted m.to)) (sym (same_path-equal q other same)) ∙ inside)))
        (part_comes part q at.1
        (λ x has. among x (or_right (same_path x other) (has_come s.wanted part x) has)) inside)
    part_comes (Relocate n ∷ part) q at among inside =
        let own = path_at s.wanted m.to in
        let other = path_at s.wanted n.to in
        or_from (is_within other q) (has_come s.wanted part q)
        (not_true (is_within other q) (λ also. elim (cases_Bool (is_within own other)) [
          | inl above ↦
              come_placed n.to at.0.1
              (among other (or_left (is_within other other) (has_come s.wanted part other) (within_itself other)))
              above
          | inr beside ↦
              true≢false
              (sym (among own (or_left (is_within other own) (has_come s.wanted part own)
              (within_both own other q inside also beside)))
              ∙ own_comes)
        ]))
        (part_comes part q at.1
        (λ x has. among x (or_right (is_within other x) (has_come s.wanted part x) has)) inside)

    goes : IsAlone s.present s.wanted (path_at s.present m.from)
    goes = may.movable.is_step.0

    comes : IsAlone s.wanted s.present (path_at s.wanted m.to)
    comes = may.movable.is_step.1

    -- what stands in the part
    in_part : (q : Path) → is_within (path_at s.present m.from) q ≡ true → lookup after q ≡ lookup s.present q
    in_part q inside =
        untouched q
        (not_come s.present s.wanted p w (path_at s.present m.from) s.steps q goes c.steps_are inside)
        (part_stays s.steps q placed (λ _ has. has) inside)

    free : lookup after (path_at s.wanted m.to) ≡ None
    free =
        let to = path_at s.wanted m.to in
        untouched to own_comes
        (not_gone_from s.present s.wanted p w to s.steps to comes c.steps_are (within_itself to))
        ∙ comes.lacks

    outside : is_within (path_at s.present m.from) (path_at s.wanted m.to) ≡ false
    outside = not_true (is_within (path_at s.present m.from) (path_at s.wanted m.to)) (λ inside.
        let to = path_at s.wanted m.to in
        never_both s.present s.wanted p w (path_at s.present m.from) to to goes comes inside (within_itself to))

    apart : same_path (path_at s.present m.from) (path_at s.wanted m.to) ≡ false
    apart = not_true (same_path (path_at s.present m.from) (path_at s.wanted m.to)) (λ same.
        let from = path_at s.present m.from in
        true≢false
        (sym (within_itself from)
        ∙ ap (is_within from) (same_path-equal from (path_at s.wanted m.to) same)
        ∙ outside))

    part_done : IsRenamed after (spelling (path_at s.present m.from)) (spelling (path_at s.wanted m.to))
        (path_at s.present m.from) (path_at s.wanted m.to)
    part_done =
        let from = path_at s.present m.from in
        let to = path_at s.wanted m.to in
        rename_done after (spelling from) (spelling to) from to (get_or s.present m.from ([], Dir)).1 c.done.is_tree
        (path_of-nameable s.present from p goes.there) (path_of-nameable s.wanted to w comes.there)
        (not_root s.wanted from w.is_tree goes.lacks) (not_root s.present to p.is_tree comes.lacks)
        (in_part from (within_itself from) ∙ found_at_place s.present m.from from_in p.is_tree.ordered) free
        (walk_above to comes.there comes.lacks may.above) outside apart

    pub relocated_done : AreDone s.present s.wanted (s.steps ++ Relocate m ∷ [])
    relocated_done =
        push_done (Relocate m) part_done.given part_done.next part_done.done part_done.is_tree
        (omega (arith, part_done.size)) (λ q. part_done.objects q ∙ into q)
      where
        -- outside its new place
        beside : (q : Path) → is_within (path_at s.wanted m.to) q ≡ false
            → cond (is_within (path_at s.present m.from) q) None (lookup after q)
            ≡ cond (has_come s.wanted s.steps q) (lookup s.wanted q)
            (cond (has_gone s.present s.steps q || is_within (path_at s.present m.from) q) None
            (lookup s.present q))
        beside q away =
            let in_it = has_come s.wanted s.steps q in
            let out_of = has_gone s.present s.steps q in
            elim (is_within (path_at s.present m.from) q) as (λ b.
            is_within (path_at s.present m.from) q ≡ b
            → cond b None (lookup after q)
            ≡ cond in_it (lookup s.wanted q) (cond (out_of || b) None (lookup s.present q))) [
              | true ↦ λ out.
                  sym (ap (λ b. cond b (lookup s.wanted q) (cond (out_of || true) None (lookup s.present q)))
                  (not_come s.present s.wanted p w (path_at s.present m.from) s.steps q goes c.steps_are out)
                  ∙ ap (λ b. cond b None (lookup s.present q)) (or_true out_of))
              | false ↦ λ _.
                  c.done.objects q
                  ∙ sym (ap (λ b. cond in_it (lookup s.wanted q) (cond b None (lookup s.present q)))
                  (or_false out_of))
            ] refl

        into : (q : Path)
            → object_renamed after (path_at s.present m.from) (path_at s.wanted m.to) q
            ≡ cond (has_come s.wanted s.steps q || is_within (path_at s.wanted m.to) q) (lookup s.wanted q)
            (cond (has_gone s.present s.steps q || is_within (path_at s.present m.from) q) None
            (lookup s.present q))
        into q =
            let from = path_at s.present m.from in
            let to = path_at s.wanted m.to in
            let in_it = has_come s.wanted s.steps q in
            let rest = cond (has_gone s.present s.steps q || is_within from q) None (lookup s.present q) in
            elim (is_within to q) as (λ b.
            is_within to q ≡ b
            → cond b (lookup after (from ++ drop (length to) q)) (cond (is_within from q) None (lookup after q))
            ≡ cond (in_it || b) (lookup s.wanted q) rest) [
              | true ↦ λ inside.
                  in_part (from ++ drop (length to) q) (is_within-append from (drop (length to) q))
                  ∙ may.movable.alike (drop (length to) q)
                  ∙ ap (lookup s.wanted) (sym (within_is to q inside))
                  ∙ sym (ap (λ b. cond b (lookup s.wanted q) rest) (or_true in_it))
              | false ↦ λ away.
                  beside q away ∙ sym (ap (λ b. cond b (lookup s.wanted q) rest) (or_false in_it))
            ] refl
