-- When a tree isn't stored.
use Rattle.std.proofs.Common.{◌≡◌, ◌⊎◌, ℕ, ◌+◌, ◌-◌, ◌<◌, Bool, true, false, cond, ◌&&◌, List, [], ◌∷◌, ◌++◌, length, Some, None, Ok, Err, refl, sym, ap, ◌∙◌, subst, inl, inr, is_some, true≢false, arith, leb-false, leb-true, ltb-false, ltb-true, length-append}
use Rattle.std.specs.Prelude.{◌==◌, nat_le, nat_lt}
use Rattle.std.specs.declared.cmp.Ordering.TheVariants.{Less, Equal, Greater}
use Rattle.std.specs.Cmp.{tied_itself}
use Rattle.std.specs.Cmp.Lexicographic.{nat_list_cmp_total}
use Rattle.std.specs.FinMap.{is_sorted}
use Rattle.std.specs.FinMap.Entries.{below_all}
use Rattle.std.specs.Ordering.{is_eq, is_lt, ordering_then}
use Rattle.std.proofs.lemmas.Bool.{and_from, and_parts}
use Rattle.std.proofs.lemmas.Option.{same_Some}
use Rattle.nl_types.specs.declared.error.VolError.{VolError}
use Rattle.nl_types.specs.declared.error.VolError.TheVariants as error
use Rattle.nl_types.specs.declared.event.Change.{Change}
use Rattle.nl_types.specs.declared.event.Event.{Event}
use Rattle.nl_types.specs.declared.event.Event.TheVariants as event
use Rattle.nl_types.specs.declared.event.Mode.TheVariants.{Snapshot}
use Rattle.nl_types.specs.declared.reply.Answer.{Answer}
use Rattle.nl_types.specs.declared.reply.Answer.TheVariants as answer
use Rattle.nl_types.specs.declared.reply.Object.{Object}
use Rattle.nl_types.specs.declared.reply.Object.TheVariants.{Dir, File}
use Rattle.nl_types.specs.Plain.Limits.{checkpoint_number_limit, file_limit, path_length_limit}
use Rattle.nl_types.specs.Plain.Paths.{Name, Path, name_cmp, path_cmp, same_name, same_path}
use Rattle.nl_types.specs.Plain.Trees.{Tree, IsTree, lookup}
use Rattle.nl_types.specs.Plain.Calls.{Changed, and_then, change, is_dir}
use Rattle.nl_types.specs.Plain.Runs.{IsRefused, Writes}
use Rattle.nl_types.specs.Plain.Worlds.{World, Copy, Outcome, Reply, either, greatest, latest, numbers, refused_if}
use Rattle.nl_types.specs.Facts.Booleans.{not_true}
use Rattle.nl_types.specs.Facts.EventCases.{after_change, after_checkpoint, new_copy}
use Rattle.nl_types.specs.Facts.Lookups.{names_equal, same_path-itself}
use Rattle.nl_types.specs.Facts.TreeLaws.{path_total, same_path-equal}
use Rattle.nl_folders.specs.Plans.{GoesOn, Progress, tree_after_all}
use Rattle.nl_folders.specs.Refusals.{IsTooLong}
use Rattle.nl_folders.specs.Spelled.{joined}
use Rattle.nl_keep.specs.declared.making.Cost.{Cost}
use Rattle.nl_keep.specs.declared.storing.KeepError.{KeepError}
use Rattle.nl_keep.specs.declared.storing.KeepError.TheVariants.{Refused}
use Rattle.nl_keep.specs.Private.Costs.{IsMade, IsMadeSoFar}
use Rattle.nl_keep.specs.Private.Judged.{all_follow, follows, is_rooted, is_small, is_spelled}
use Rattle.nl_keep.specs.Private.Refused.{RefusesCalls}
use Rattle.nl_keep.specs.Refusals.{RefusesSnapshot, RefusesStore}
use Rattle.nl_keep.specs.Volumes.{Follows, LeadsTo, Meaning, volume_refusals}
use Rattle.nl_keep.proofs.Calls.{GoOn}
use Rattle.nl_keep.proofs.Judgements.{absent, below_more, less_is}
use Rattle.nl_keep.proofs.ReadRefusals.{memory_alone}

-- ---- an entry by itself

spelled_long : (room : ℕ) (path : Path) → is_spelled room path ≡ false → room < length (joined path)
spelled_long room [] is = absurd (true≢false is)
spelled_long room (name ∷ names) is =
    elim (nat_lt (length name) room) as (λ b.
    nat_lt (length name) room ≡ b → (b && is_spelled (room - length name - 1) names) ≡ false
    → room < length (joined (name ∷ names))) [
      | true ↦ λ fits long.
          let rest = spelled_long (room - length name - 1) names long in
          let some = ltb-true (length name) room fits in
          omega (arith, rest, some, length-append name (joined names))
      | false ↦ λ short _.
          let few = ltb-false (length name) room short in
          omega (arith, few, length-append name (joined names))
    ] refl is

pub too_long : (path : Path) → is_spelled path_length_limit path ≡ false → IsTooLong path
too_long [] is = absurd (true≢false is)
too_long (name ∷ names) is = spelled_long path_length_limit (name ∷ names) is

pub too_big : (object : Object) → is_small object ≡ false
    → (bytes : List ℕ) × (object ≡ File bytes) × (file_limit < length bytes)
too_big Dir is = absurd (true≢false is)
too_big (File bytes) is = (bytes, refl, leb-false (length bytes) file_limit is)

-- ---- one entry behind another

-- a path is the root or ends in a name
ending_of : (path : Path) → (path ≡ []) ⊎ ((dir : Path) × (name : Name) × (path ≡ dir ++ name ∷ []))
ending_of [] = inl refl
ending_of (n ∷ rest) = longer (ending_of rest)
  where
    longer : (rest ≡ []) ⊎ ((dir : Path) × (name : Name) × (rest ≡ dir ++ name ∷ []))
        → (n ∷ rest ≡ []) ⊎ ((dir : Path) × (name : Name) × (n ∷ rest ≡ dir ++ name ∷ []))
    longer (inl none) = inr ([], n, ap (λ (r : Path). n ∷ r) none)
    longer (inr some) = inr (n ∷ some.0, some.1, ap (λ (r : Path). n ∷ r) some.2)

not_above_root : (p : Path) → path_cmp p [] ≡ Less → ⊥
not_above_root [] less = cc
not_above_root (n ∷ p) less = cc

child_behind : (dir : Path) (name : Name) → path_cmp dir (dir ++ name ∷ []) ≡ Less
child_behind [] name = refl
child_behind (n ∷ dir) name =
    ap (λ o. ordering_then o (path_cmp dir (dir ++ name ∷ []))) (tied_itself nat_list_cmp_total n)
    ∙ child_behind dir name

abbrev IsInside : Bool → (a x : Name) → (dir e : Path) → Name → Type 0
IsInside d a x dir e name = (name_cmp a x ≡ Equal) × (follows d e (dir ++ name ∷ []) ≡ true)

deeper : (d : Bool) (a x : Name) (dir e : Path) (name : Name) → IsInside d a x dir e name
    → follows d (a ∷ e) (x ∷ (dir ++ name ∷ [])) ≡ true
deeper d a x [] e name inside =
    and_from (same_name a x) (follows d e (name ∷ [])) (ap is_eq inside.0) inside.1
deeper d a x (y ∷ dir) e name inside =
    and_from (same_name a x) (follows d e (y ∷ (dir ++ name ∷ []))) (ap is_eq inside.0) inside.1

-- a name in a directory follows a path between the two, if that is one where it is the directory
name_follows : (d : Bool) (dir e : Path) (name : Name) → is_lt (path_cmp e dir) ≡ false
    → path_cmp e (dir ++ name ∷ []) ≡ Less → (e ≡ dir → d ≡ true) → follows d e (dir ++ name ∷ []) ≡ true
name_follows d [] [] name from to same = same refl
name_follows d [] (a ∷ e) name from to same =
    elim (name_cmp a name) as (λ o. ordering_then o (path_cmp e []) ≡ Less → is_lt o ≡ true) [
      | Less ↦ λ _. refl
      | Equal ↦ λ less. absurd (not_above_root e less)
      | Greater ↦ λ less. cc
    ] to
name_follows d (x ∷ dir) [] name from to same = absurd (true≢false from)
name_follows d (x ∷ dir) (a ∷ e) name from to same =
    deeper d a x dir e name
    (elim (name_cmp a x) as (λ o.
    name_cmp a x ≡ o → is_lt (ordering_then o (path_cmp e dir)) ≡ false
    → ordering_then o (path_cmp e (dir ++ name ∷ [])) ≡ Less → IsInside d a x dir e name) [
      | Less ↦ λ _ before _. absurd (true≢false before)
      | Equal ↦ λ is after before. (
        is,
        name_follows d dir e name after before (λ rest.
            same (ap (λ (r : Path). a ∷ r) rest ∙ ap (λ (n : Name). n ∷ dir) (names_equal a x is))),
      )
      | Greater ↦ λ _ _ behind. cc
    ] refl from to)

-- ---- entries of a tree

-- each path of the tree is at the entry or before it, or is found among those behind it
abbrev ComesTo : Tree → Path × Object → Tree → Type 0
ComesTo tree e entries =
    (q : Path) (n : Object) → lookup tree q ≡ Some n
    → (is_lt (path_cmp e.0 q) ≡ false) ⊎ (lookup entries q ≡ Some n)

here : (e : Path × Object) (entries : Tree) → lookup (e ∷ entries) e.0 ≡ Some e.1
here e entries = ap (λ b. cond b (Some e.1) (lookup entries e.0)) (same_path-itself e.0)

not_behind_itself : (p q : Path) → same_path q p ≡ true → is_lt (path_cmp p q) ≡ false
not_behind_itself p q same =
    ap (λ (r : Path). is_lt (path_cmp p r)) (same_path-equal q p same) ∙ ap is_lt (tied_itself path_total p)

-- what is found behind an entry has another path
found_behind : (e : Path × Object) (entries : Tree) (q : Path) (n : Object) → below_all path_cmp e.0 entries ≡ true
    → lookup entries q ≡ Some n → lookup (e ∷ entries) q ≡ Some n
found_behind e entries q n below is =
    ap (λ b. cond b (Some e.1) (lookup entries q)) (not_true (same_path q e.0) (λ same.
    let no : None ≡ Some n =
    sym (absent e.0 entries below) ∙ ap (lookup entries) (sym (same_path-equal q e.0 same)) ∙ is in cc))
    ∙ is

-- one entry behind another follows it
next_follows : (tree : Tree) (e f : Path × Object) (entries : Tree) → IsTree tree → ComesTo tree e (f ∷ entries)
    → path_cmp e.0 f.0 ≡ Less → below_all path_cmp f.0 entries ≡ true → lookup tree e.0 ≡ Some e.1
    → lookup tree f.0 ≡ Some f.1 → follows (is_dir e.1) e.0 f.0 ≡ true
next_follows tree e f entries t comes less below first second = by (ending_of f.0)
  where
    under : (dir : Path) (name : Name) → f.0 ≡ dir ++ name ∷ [] → follows (is_dir e.1) e.0 f.0 ≡ true
    under dir name is =
        let above : lookup tree dir ≡ Some Dir =
        t.parents dir name (ap (λ p. is_some (lookup tree p)) (sym is) ∙ ap is_some second) in
        let before : path_cmp dir f.0 ≡ Less = ap (path_cmp dir) is ∙ child_behind dir name in
        let at_or_before : is_lt (path_cmp e.0 dir) ≡ false =
        elim (comes dir Dir above) [
          | inl from ↦ from
          | inr later ↦
              let none : lookup (f ∷ entries) dir ≡ None =
              absent dir (f ∷ entries)
              (and_from (is_lt (path_cmp dir f.0)) (below_all path_cmp dir entries) (ap is_lt before)
              (below_more dir f.0 entries before below)) in
              let no : Some Dir ≡ None = sym later ∙ none in cc
        ] in
        ap (follows (is_dir e.1) e.0) is
        ∙ name_follows (is_dir e.1) dir e.0 name at_or_before (ap (path_cmp e.0) (sym is) ∙ less)
        (λ same. ap is_dir (same_Some e.1 Dir (sym first ∙ ap (lookup tree) same ∙ above)))

    by : (f.0 ≡ []) ⊎ ((dir : Path) × (name : Name) × (f.0 ≡ dir ++ name ∷ []))
        → follows (is_dir e.1) e.0 f.0 ≡ true
    by (inl root) = absurd (not_above_root e.0 (ap (path_cmp e.0) (sym root) ∙ less))
    by (inr some) = under some.0 some.1 some.2

tree_follows : (tree : Tree) (e : Path × Object) (entries : Tree) → IsTree tree
    → is_sorted path_cmp (e ∷ entries) ≡ true
    → ((q : Path) (n : Object) → lookup (e ∷ entries) q ≡ Some n → lookup tree q ≡ Some n)
    → ComesTo tree e entries → all_follow e entries ≡ true
tree_follows tree e [] t sorted among comes = refl
tree_follows tree e (f ∷ entries) t sorted among comes =
    let parts = and_parts (below_all path_cmp e.0 (f ∷ entries)) (is_sorted path_cmp (f ∷ entries)) sorted in
    let rest = and_parts (below_all path_cmp f.0 entries) (is_sorted path_cmp entries) parts.1 in
    let less : path_cmp e.0 f.0 ≡ Less =
    less_is (path_cmp e.0 f.0)
    (and_parts (is_lt (path_cmp e.0 f.0)) (below_all path_cmp e.0 entries) parts.0).0 in
    let later : (q : Path) (n : Object) → lookup (f ∷ entries) q ≡ Some n → lookup tree q ≡ Some n =
    λ q n is. among q n (found_behind e (f ∷ entries) q n parts.0 is) in
    and_from (follows (is_dir e.1) e.0 f.0) (all_follow f entries)
    (next_follows tree e f entries t comes less rest.0 (among e.0 e.1 (here e (f ∷ entries)))
    (later f.0 f.1 (here f entries)))
    (tree_follows tree f entries t parts.1 later (λ q n at.
    elim (comes q n at) [
      | inl from ↦
          inl (not_true (is_lt (path_cmp f.0 q)) (λ behind.
          true≢false
          (sym (ap is_lt (path_total.trans e.0 f.0 q less (less_is (path_cmp f.0 q) behind))) ∙ from)))
      | inr found ↦
          elim (same_path q f.0) as (λ b.
          same_path q f.0 ≡ b → cond b (Some f.1) (lookup entries q) ≡ Some n
          → (is_lt (path_cmp f.0 q) ≡ false) ⊎ (lookup entries q ≡ Some n)) [
            | true ↦ λ same _. inl (not_behind_itself f.0 q same)
            | false ↦ λ _ is. inr is
          ] refl found
    ]))

root_first : (p : Path) (object : Object) (entries : Tree) → below_all path_cmp p entries ≡ true
    → lookup ((p, object) ∷ entries) [] ≡ Some Dir → (p ≡ []) × (object ≡ Dir)
root_first [] object entries below is = (refl, same_Some object Dir is)
root_first (n ∷ p) object entries below is =
    let no : None ≡ Some Dir = sym (absent [] entries (below_more [] (n ∷ p) entries refl below)) ∙ is in cc

-- the entries of a tree begin with the root, and each follows the one before it
pub rooted : (entries : Tree) → IsTree entries → is_rooted entries ≡ true
rooted [] t = let no : None ≡ Some Dir = t.root in cc
rooted (e ∷ entries) t =
    let parts = and_parts (below_all path_cmp e.0 entries) (is_sorted path_cmp entries) t.ordered in
    let root = root_first e.0 e.1 entries parts.0 t.root in
    and_from (length e.0 == 0 && is_dir e.1) (all_follow e entries)
    (and_from (length e.0 == 0) (is_dir e.1) (ap (λ (p : Path). length p == 0) root.0) (ap is_dir root.1))
    (tree_follows (e ∷ entries) e entries t t.ordered (λ q n at. at) (λ q n at.
    elim (same_path q e.0) as (λ b.
    same_path q e.0 ≡ b → cond b (Some e.1) (lookup entries q) ≡ Some n
    → (is_lt (path_cmp e.0 q) ≡ false) ⊎ (lookup entries q ≡ Some n)) [
      | true ↦ λ same _. inl (not_behind_itself e.0 q same)
      | false ↦ λ _ is. inr is
    ] refl at))

-- ---- calls

-- an event that doesn't write is refused so for want of memory alone
pub refused_memory : (asked : Event) (w new : World) (reply : Reply) (e : VolError) → (Writes asked → ⊥)
    → IsRefused volume_refusals w asked reply new → reply ≡ Err e → e ≡ error.Memory
refused_memory asked w new reply e reads r is =
    let both : Err e ≡ Err r.error = sym is ∙ r.reply_is in
    let same : e ≡ r.error = cc in
    same ∙ memory_alone asked reads r.error r.may_be

pub call_refused : (w : World) (c : Change) (reply : Reply) (e : VolError) (Old New : Meaning)
    → LeadsTo (Follows (event.Apply c) reply) Old New → reply ≡ Err e → Old w → RefusesCalls (c ∷ []) w e
call_refused w c reply e Old New does is means =
    let d = does w means in
    elim d.2.1 [
      | inl s ↦ inr (changed (change w.tree c) (ap (λ (o : Outcome). o.0) s ∙ is))
      | inr r ↦ inl (refused_memory (event.Apply c) w d.0 reply e (λ no. no) r is)
    ]
  where
    changed : (r : Changed)
        → (either w r (λ done. (Ok done.0, after_change w c done.1))).0 ≡ Err e
        → and_then r (λ done. tree_after_all done.1 []) ≡ Err e
    changed (Ok done) told = cc
    changed (Err x) told = let same : x ≡ e = cc in ap (λ (y : VolError). Err y) same

-- what refuses one call refuses all that it is the next of
pub calls_refused : (all rest : List Change) (call : Change) (e : VolError) (Old Mid : Meaning)
    → LeadsTo (GoOn all (call ∷ rest)) Old Mid → ((w : World) → Mid w → RefusesCalls (call ∷ []) w e)
    → (w : World) → Old w → RefusesCalls all w e
calls_refused all rest call e Old Mid so_far refused w means =
    let a = so_far w means in
    elim (refused a.0 a.1) [
      | inl memory ↦ inl memory
      | inr stops ↦ inr (a.2.same ∙ stopped (change a.0.tree call) stops)
    ]
  where
    stopped : (r : Changed) → and_then r (λ done. tree_after_all done.1 []) ≡ Err e
        → and_then r (λ done. tree_after_all done.1 rest) ≡ Err e
    stopped (Ok done) is = cc
    stopped (Err x) is = is

-- a plan's calls are refused for want of memory alone
pub plan_refused : (present wanted : Tree) (plan next : Progress) (cost : Cost) (more : List Change)
    (e : VolError) (Old Mid : Meaning) → IsMadeSoFar present wanted plan cost Old Mid
    → GoesOn plan next (Some more) → ((w : World) → Mid w → RefusesCalls more w e)
    → (w : World) → Old w → w.tree ≡ present → e ≡ error.Memory
plan_refused present wanted plan next cost more e Old Mid so_far goes_on refused w means before =
    let led = goes_on so_far.tree so_far.reached in
    let a = so_far.leads w means in
    let both : Ok a.0.tree ≡ Ok so_far.tree =
    sym a.2.done ∙ ap (λ (t : Tree). tree_after_all t so_far.calls) before ∙ so_far.make in
    let tree : a.0.tree ≡ so_far.tree = cc in
    elim (refused a.0 a.1) [
      | inl memory ↦ memory
      | inr stops ↦
          let no : Err e ≡ Ok led.next =
          sym stops ∙ ap (λ (t : Tree). tree_after_all t more) tree ∙ led.done in cc
    ]

-- ---- a snapshot

snapshot_allowed : (moment n : ℕ) (e : VolError) → volume_refusals (event.Checkpoint Snapshot moment) e
    → RefusesSnapshot n (Refused e)
snapshot_allowed moment n error.NoSpace may = tt
snapshot_allowed moment n error.Fault may = tt
snapshot_allowed moment n error.Memory may = tt
snapshot_allowed moment n _ may = absurd may

pub snapshot_refused : (moment : ℕ) (reply : Reply) (e : VolError) (w : World) (Old New : Meaning)
    → LeadsTo (Follows (event.Checkpoint Snapshot moment) reply) Old New → reply ≡ Err e → Old w
    → RefusesSnapshot (latest w) (Refused e)
snapshot_refused moment reply e w Old New does is means =
    let d = does w means in
    elim d.2.1 [
      | inl s ↦ by (nat_le checkpoint_number_limit (latest w + 1)) refl (ap (λ (o : Outcome). o.0) s ∙ is)
      | inr r ↦
          let both : Err e ≡ Err r.error = sym is ∙ r.reply_is in
          let same : r.error ≡ e = cc in
          subst (λ (x : VolError). RefusesSnapshot (latest w) (Refused x)) same
          (snapshot_allowed moment (latest w) r.error r.may_be)
    ]
  where
    by : (b : Bool) → nat_le checkpoint_number_limit (latest w + 1) ≡ b
        → (refused_if b error.NumbersSpent w
        (Ok (answer.Checkpoint (latest w + 1)), after_checkpoint w (new_copy w Snapshot moment))).0 ≡ Err e
        → RefusesSnapshot (latest w) (Refused e)
    by true spent told =
        let same : error.NumbersSpent ≡ e = cc in
        subst (λ (x : VolError). RefusesSnapshot (latest w) (Refused x)) same
        (leb-true checkpoint_number_limit (latest w + 1) spent)
    by false spent told = cc

-- one that is taken is answered by its number
pub snapshot_answers : (moment : ℕ) (reply : Reply) (given : Answer) (w : World) (Old New : Meaning)
    → LeadsTo (Follows (event.Checkpoint Snapshot moment) reply) Old New → reply ≡ Ok given → Old w
    → (n : ℕ) × (given ≡ answer.Checkpoint n)
snapshot_answers moment reply given w Old New does is means =
    let d = does w means in
    elim d.2.1 [
      | inl s ↦ by (nat_le checkpoint_number_limit (latest w + 1)) (ap (λ (o : Outcome). o.0) s ∙ is)
      | inr r ↦ let no : Ok given ≡ Err r.error = sym is ∙ r.reply_is in cc
    ]
  where
    by : (b : Bool)
        → (refused_if b error.NumbersSpent w
        (Ok (answer.Checkpoint (latest w + 1)), after_checkpoint w (new_copy w Snapshot moment))).0 ≡ Ok given
        → (n : ℕ) × (given ≡ answer.Checkpoint n)
    by true told = cc
    by false told = let same : given ≡ answer.Checkpoint (latest w + 1) = cc in (latest w + 1, same)

-- ---- a tree, stored

pub made_refused : (present wanted : Tree) (w : World) (e : VolError) (told : KeepError) → e ≡ error.Memory
    → told ≡ Refused e → RefusesStore wanted w told
made_refused present wanted w e told memory is =
    inr (inr (subst (RefusesSnapshot (latest w)) (sym (is ∙ ap (λ (x : VolError). Refused x) memory)) tt))

-- the numbers are those of the world before the calls
pub last_refused : (earlier wanted : Tree) (cost : Cost) (e : KeepError) (Old Mid : Meaning)
    → IsMade earlier wanted cost Old Mid → ((w : World) → Mid w → RefusesSnapshot (latest w) e)
    → (w : World) → Old w → RefusesStore wanted w e
last_refused earlier wanted cost e Old Mid made refused w means =
    let a = made.leads w means in
    inr (inr (subst (λ (cs : List (ℕ × Copy)). RefusesSnapshot (greatest (numbers cs)) e) a.2.alone.copies
    (refused a.0 a.1)))
