-- What stays in the states of a history.
use Rattle.std.proofs.Common.{◌≡◌, ℕ, ◌<◌, ◌≤◌, ◌==◌, Bool, true, false, not, List, [], ◌∷◌, ◌++◌, map, fold, length, refl, ap, sym, ◌∙◌, subst, arith, Option, None, Some, cond, true≢false}
use Rattle.std.proofs.lemmas.Bool.{eq-eqb, eqb-true, ne_eqb}
use Rattle.std.specs.Cmp.{unsigned_tied}
use Rattle.std.specs.List.{filter}
use Rattle.std.specs.Ordering.{nat_cmp}
use Rattle.std.specs.FinMap.{find}
use mathlib.Core.List.{IsPrefix}
use Rattle.nl_types.specs.Plain.Trees.{Tree}
use Rattle.nl_cpfile.specs.Tables.{kept_at}
use Rattle.nl_cpfile.specs.declared.checkpoint.Checkpoint.{Checkpoint}
use Rattle.nl_commit.specs.Commits.{AllNext, IsHistory, IsShownState, IsNext, IsNew, applied, shown_after}
use Rattle.nl_commit.specs.Shown.{Shown, mounted_on, whole_of, nothing}
use Rattle.nl_commit.specs.Volume.{is_other_mount, mount_of}
use Rattle.nl_commit.specs.declared.commit.Commit.{Commit}
use Rattle.nl_commit.specs.declared.commit.Commit.TheVariants as commit
use Rattle.nl_commit.specs.declared.mounts.Mounted.{Mounted}
use Rattle.nl_publish.specs.Histories.{IsBegun}
use Rattle.nl_publish.specs.Mounts.{Claim, IsClaim}
use Rattle.nl_publish.specs.Told.{MountsBegin, ShowsTold, TreeOn}
use Rattle.nl_publish.specs.Facts.Growing.{begun_more, fold-grows, history_start}

-- ---- states

all_states : (x : Shown) (log : List Commit) → IsShownState x → AllNext x log → IsShownState (fold applied x log)
all_states x [] h next = h
all_states x (c ∷ log) h next = all_states (applied x c) log next.0.state next.1

pub history_state : (log : List Commit) → IsHistory log → IsShownState (shown_after log)
history_state [] h = absurd h
history_state (commit.Whole w ∷ log) h = all_states (whole_of w) log h.0 h.1
history_state (commit.Written w ∷ log) h = absurd h
history_state (commit.ModeSet n m ∷ log) h = absurd h
history_state (commit.Removed n ∷ log) h = absurd h
history_state (commit.RangeRemoved n m ∷ log) h = absurd h
history_state (commit.Mounted m ∷ log) h = absurd h
history_state (commit.GivenBack m ∷ log) h = absurd h
history_state (commit.Freed w ∷ log) h = absurd h
history_state (commit.Resized segments blocks ∷ log) h = absurd h

-- ---- lists of mounts

abbrev pub found : ℕ → List Mounted → Option ℕ
found m mounts = find nat_cmp m (map mount_of mounts)

found_cons : (m : ℕ) (j : Mounted) (mounts : List Mounted)
    → found m (j ∷ mounts) ≡ cond (m == j.number) (Some j.checkpoint) (found m mounts)
found_cons m j mounts = ap (λ b. cond b (Some j.checkpoint) (found m mounts)) (unsigned_tied m j.number)

found_here : (m : ℕ) (j : Mounted) (mounts : List Mounted) → (m == j.number) ≡ true
    → found m (j ∷ mounts) ≡ Some j.checkpoint
found_here m j mounts at =
    found_cons m j mounts ∙ ap (λ b. cond b (Some j.checkpoint) (found m mounts)) at

found_later : (m : ℕ) (j : Mounted) (mounts : List Mounted) → (m == j.number) ≡ false
    → found m (j ∷ mounts) ≡ found m mounts
found_later m j mounts at =
    found_cons m j mounts ∙ ap (λ b. cond b (Some j.checkpoint) (found m mounts)) at

same_number : (m : ℕ) → (m == m) ≡ true
same_number m = eq-eqb m m refl

-- a mount that another one is put behind is found as before
before_step : (b : Bool) (m n : ℕ) (j : Mounted) (mounts : List Mounted) (k : Mounted)
    → (m == j.number) ≡ b
    → found m (j ∷ mounts ++ k ∷ []) ≡ Some n
    → (found m (mounts ++ k ∷ []) ≡ Some n → found m mounts ≡ Some n) → found m (j ∷ mounts) ≡ Some n
before_step true m n j mounts k at is rest =
    found_here m j mounts at ∙ (sym (found_here m j (mounts ++ k ∷ []) at) ∙ is)
before_step false m n j mounts k at is rest =
    found_later m j mounts at ∙ rest (sym (found_later m j (mounts ++ k ∷ []) at) ∙ is)

found_before : (m n : ℕ) (mounts : List Mounted) (k : Mounted) → (m == k.number) ≡ false
    → found m (mounts ++ k ∷ []) ≡ Some n → found m mounts ≡ Some n
found_before m n [] k other is = absurd (cc (is, found_later m k [] other))
found_before m n (j ∷ mounts) k other is =
    before_step (m == j.number) m n j mounts k refl is (found_before m n mounts k other)

-- where there was none, the one that is put behind is found
behind_step : (b : Bool) (m c n : ℕ) (j : Mounted) (mounts : List Mounted) → (m == j.number) ≡ b
    → ((n : ℕ) → found m (j ∷ mounts) ≡ Some n → ⊥)
    → found m (j ∷ mounts ++ record { number = m; checkpoint = c } ∷ []) ≡ Some n
    → (((n : ℕ) → found m mounts ≡ Some n → ⊥)
    → found m (mounts ++ record { number = m; checkpoint = c } ∷ []) ≡ Some n → n ≡ c)
    → n ≡ c
behind_step true m c n j mounts at none is rest = absurd (none j.checkpoint (found_here m j mounts at))
behind_step false m c n j mounts at none is rest =
    rest (λ i e. none i (found_later m j mounts at ∙ e))
    (sym (found_later m j (mounts ++ record { number = m; checkpoint = c } ∷ []) at) ∙ is)

found_behind : (m c n : ℕ) (mounts : List Mounted) → ((n : ℕ) → found m mounts ≡ Some n → ⊥)
    → found m (mounts ++ record { number = m; checkpoint = c } ∷ []) ≡ Some n → n ≡ c
found_behind m c n [] none is =
    let here : found m (record { number = m; checkpoint = c } ∷ []) ≡ Some c =
    found_here m (record { number = m; checkpoint = c }) [] (same_number m) in
    cc (is, here)
found_behind m c n (j ∷ mounts) none is =
    behind_step (m == j.number) m c n j mounts refl none is (found_behind m c n mounts)

pushed_step : (b : Bool) (m c : ℕ) (j : Mounted) (mounts : List Mounted) → (m == j.number) ≡ b
    → ((n : ℕ) → found m (j ∷ mounts) ≡ Some n → ⊥)
    → (((n : ℕ) → found m mounts ≡ Some n → ⊥)
    → found m (mounts ++ record { number = m; checkpoint = c } ∷ []) ≡ Some c)
    → found m (j ∷ mounts ++ record { number = m; checkpoint = c } ∷ []) ≡ Some c
pushed_step true m c j mounts at none rest = absurd (none j.checkpoint (found_here m j mounts at))
pushed_step false m c j mounts at none rest =
    found_later m j (mounts ++ record { number = m; checkpoint = c } ∷ []) at
    ∙ rest (λ i e. none i (found_later m j mounts at ∙ e))

pub found_pushed : (m c : ℕ) (mounts : List Mounted) → ((n : ℕ) → found m mounts ≡ Some n → ⊥)
    → found m (mounts ++ record { number = m; checkpoint = c } ∷ []) ≡ Some c
found_pushed m c [] none = found_here m (record { number = m; checkpoint = c }) [] (same_number m)
found_pushed m c (j ∷ mounts) none =
    pushed_step (m == j.number) m c j mounts refl none (found_pushed m c mounts)

-- a mount that is left was there
abbrev left : ℕ → List Mounted → List Mounted
left gone mounts = filter (is_other_mount gone) mounts

left_out : (gone : ℕ) (j : Mounted) (mounts : List Mounted) → (j.number == gone) ≡ true
    → left gone (j ∷ mounts) ≡ left gone mounts
left_out gone j mounts at = ap (λ b. cond (not b) (j ∷ left gone mounts) (left gone mounts)) at

left_in : (gone : ℕ) (j : Mounted) (mounts : List Mounted) → (j.number == gone) ≡ false
    → left gone (j ∷ mounts) ≡ j ∷ left gone mounts
left_in gone j mounts at = ap (λ b. cond (not b) (j ∷ left gone mounts) (left gone mounts)) at

left_step : (b d : Bool) (m n gone : ℕ) (j : Mounted) (mounts : List Mounted) → (j.number == gone) ≡ b
    → (m == j.number) ≡ d
    → found m (left gone (j ∷ mounts)) ≡ Some n
    → (found m (left gone mounts) ≡ Some n → (found m mounts ≡ Some n) × ((m == gone) ≡ false))
    → (found m (j ∷ mounts) ≡ Some n) × ((m == gone) ≡ false)
left_step true true m n gone j mounts out here is rest =
    let more = rest (ap (found m) (sym (left_out gone j mounts out)) ∙ is) in
    absurd (true≢false
    (sym (eq-eqb m gone (eqb-true m j.number here ∙ eqb-true j.number gone out)) ∙ more.1))
left_step true false m n gone j mounts out here is rest =
    let more = rest (ap (found m) (sym (left_out gone j mounts out)) ∙ is) in
    (found_later m j mounts here ∙ more.0, more.1)
left_step false true m n gone j mounts out here is rest =
    let one : found m (j ∷ left gone mounts) ≡ Some n =
    ap (found m) (sym (left_in gone j mounts out)) ∙ is in (
      found_here m j mounts here ∙ (sym (found_here m j (left gone mounts) here) ∙ one),
      ap (λ k. k == gone) (eqb-true m j.number here) ∙ out,
    )
left_step false false m n gone j mounts out here is rest =
    let one : found m (j ∷ left gone mounts) ≡ Some n =
    ap (found m) (sym (left_in gone j mounts out)) ∙ is in
    let more = rest (sym (found_later m j (left gone mounts) here) ∙ one) in
    (found_later m j mounts here ∙ more.0, more.1)

found_left : (m n gone : ℕ) (mounts : List Mounted) → found m (left gone mounts) ≡ Some n
    → (found m mounts ≡ Some n) × ((m == gone) ≡ false)
found_left m n gone [] is = absurd (cc (is))
found_left m n gone (j ∷ mounts) is =
    left_step (j.number == gone) (m == j.number) m n gone j mounts refl refl is
    (found_left m n gone mounts)

-- ---- one commit

-- a mount that is found after a commit, and is no later one, was found before
mounted_before : (x : Shown) (c : Commit) (m n : ℕ) → IsNew x c → m ≤ x.given
    → mounted_on (applied x c) m ≡ Some n → mounted_on x m ≡ Some n
mounted_before x (commit.Whole w) m n new low is = absurd new
mounted_before x (commit.Written w) m n new low is = is
mounted_before x (commit.ModeSet k mode) m n new low is = is
mounted_before x (commit.Removed k) m n new low is = is
mounted_before x (commit.RangeRemoved k l) m n new low is = is
mounted_before x (commit.Mounted mount) m n new low is = found_before m n x.mounts mount
    (ne_eqb m mount.number (λ same. absurd (omega (arith, new, low, same)))) is
mounted_before x (commit.GivenBack k) m n new low is = (found_left m n k x.mounts is).0
mounted_before x (commit.Freed gone) m n new low is = is
mounted_before x (commit.Resized segments blocks) m n new low is = is

given_on : (x : Shown) (c : Commit) (m : ℕ) → IsNew x c → m ≤ x.given → m ≤ (applied x c).given
given_on x (commit.Whole w) m new low = absurd new
given_on x (commit.Written w) m new low = low
given_on x (commit.ModeSet k mode) m new low = low
given_on x (commit.Removed k) m new low = low
given_on x (commit.RangeRemoved k l) m new low = low
given_on x (commit.Mounted mount) m new low = omega arith
given_on x (commit.GivenBack k) m new low = low
given_on x (commit.Freed gone) m new low = low
given_on x (commit.Resized segments blocks) m new low = low

-- a mount that is found shows the checkpoint that it named, with the trees that this had
record ShowsStill (first : Shown) (m k : ℕ) (x : Shown) : Type 0 where
  given : m ≤ x.given
  shows : (n : ℕ) → mounted_on x m ≡ Some n → (n ≡ k) × ((t : Tree) → TreeOn first k t → TreeOn x n t)

pub tree_on : (x : Shown) (c : Commit) (n : ℕ) (d : Checkpoint) (t : Tree) → IsNext x c
    → kept_at n (applied x c).table ≡ Some d → TreeOn x n t → TreeOn (applied x c) n t
tree_on x c n d t next kept tree =
    let stays = next.keeps n tree.checkpoint d tree.kept kept in
    record {
      checkpoint = d;
      kept = kept;
      means = stays.trees t tree.means;
    }

shows_on : (first : Shown) (m k : ℕ) (x : Shown) (c : Commit) → IsNext x c → ShowsStill first m k x
    → ShowsStill first m k (applied x c)
shows_on first m k x c next still = record {
  given = given_on x c m next.new still.given;
  shows = λ n is.
      let was = still.shows n (mounted_before x c m n next.new still.given is) in
      let d = next.state.mounted m n is in
      (was.0, λ t tree. tree_on x c n d.0 t next d.1 (was.1 t tree));
}

shows_all : (first : Shown) (m k : ℕ) (x : Shown) (log : List Commit) → AllNext x log
    → ShowsStill first m k x
    → ShowsStill first m k (fold applied x log)
shows_all first m k x [] next still = still
shows_all first m k x (c ∷ log) next still =
    shows_all first m k (applied x c) log next.1 (shows_on first m k x c next.0 still)

-- a mount that is found later too shows the checkpoint that it showed
pub mount_is_same : (x : Shown) (log : List Commit) (m n k : ℕ) → IsShownState x → AllNext x log
    → mounted_on x m ≡ Some n → mounted_on (fold applied x log) m ≡ Some k → k ≡ n
mount_is_same x log m n k state next was is =
    let first : ShowsStill x m n x = record {
      given = state.given m n was;
      shows = λ j found. let same : j ≡ n = cc (found, was) in
          (same, λ t tree. subst (λ (i : ℕ). TreeOn x i t) (sym same) tree);
    } in
    ((shows_all x m n x log next first).shows k is).0

-- ---- parts of a history

all_rest : (x : Shown) (xs ys : List Commit) → AllNext x (xs ++ ys) → AllNext (fold applied x xs) ys
all_rest x [] ys h = h
all_rest x (c ∷ xs) ys h = all_rest (applied x c) xs ys h.1

pub rest_of : (log more : List Commit) → IsHistory (log ++ more) → IsHistory log
    → AllNext (shown_after log) more
rest_of [] more h begun = absurd begun
rest_of (commit.Whole w ∷ log) more h begun = all_rest (whole_of w) log more h.1
rest_of (commit.Written w ∷ log) more h begun = absurd h
rest_of (commit.ModeSet n m ∷ log) more h begun = absurd h
rest_of (commit.Removed n ∷ log) more h begun = absurd h
rest_of (commit.RangeRemoved n m ∷ log) more h begun = absurd h
rest_of (commit.Mounted m ∷ log) more h begun = absurd h
rest_of (commit.GivenBack m ∷ log) more h begun = absurd h
rest_of (commit.Freed w ∷ log) more h begun = absurd h
rest_of (commit.Resized segments blocks ∷ log) more h begun = absurd h

begun_is : (log : List Commit) (c : Commit) (mount : Mounted) → c ≡ commit.Mounted mount
    → IsHistory (log ++ c ∷ []) → IsBegun log → IsHistory log
begun_is [] c mount is h begun = absurd (subst (λ (d : Commit). IsHistory (d ∷ [])) is h)
begun_is (x ∷ log) c mount is h begun = begun

-- ---- the law

-- the commit of a mount comes behind a history that has none of its number
pub record IsNewMount (before : List Commit) (m k : ℕ) : Type 0 where
  pub next : IsNext (shown_after before) (commit.Mounted (record { number = m; checkpoint = k }))
  pub none : (n : ℕ) → mounted_on (shown_after before) m ≡ Some n → ⊥
  pub grown : shown_after (before ++ commit.Mounted (record { number = m; checkpoint = k }) ∷ [])
      ≡ applied (shown_after before) (commit.Mounted (record { number = m; checkpoint = k }))

pub new_mount : (before : List Commit) (m k : ℕ)
    → IsHistory (before ++ commit.Mounted (record { number = m; checkpoint = k }) ∷ [])
    → IsNewMount before m k
new_mount before m k h =
    let c : Commit = commit.Mounted (record { number = m; checkpoint = k }) in
    let begun : IsHistory before =
    begun_is before c (record { number = m; checkpoint = k }) refl h
    (history_start before (c ∷ []) h) in
    let next : IsNext (shown_after before) c = (rest_of before (c ∷ []) h begun).0 in
    record {
      next = next;
      none = λ n is. absurd (omega (arith, (history_state before begun).given m n is, next.new));
      grown = fold-grows nothing before (c ∷ []);
    }

shows_first : (before : List Commit) (m k : ℕ)
    → IsHistory (before ++ commit.Mounted (record { number = m; checkpoint = k }) ∷ [])
    → ShowsStill (shown_after (before ++ commit.Mounted (record { number = m; checkpoint = k }) ∷ [])) m k
    (shown_after (before ++ commit.Mounted (record { number = m; checkpoint = k }) ∷ []))
shows_first before m k h =
    let c : Commit = commit.Mounted (record { number = m; checkpoint = k }) in
    let x : Shown = shown_after before in
    let new = new_mount before m k h in
    subst (λ (y : Shown). ShowsStill y m k y) (sym new.grown) (record {
      given = omega arith;
      shows = λ n is. let same : n ≡ k = found_behind m k n x.mounts new.none is in
          (same, λ t tree. subst (λ (j : ℕ). TreeOn (applied x c) j t) (sym same) tree);
    })

pub mount_stays : (m : Claim) (log : List Commit) (n : ℕ) → IsClaim m → IsHistory log
    → IsPrefix m.told.commits log → mounted_on (shown_after log) m.number ≡ Some n → ShowsTold m log n
mount_stays m log n claim history prefix is =
    let told = m.told.commits in
    let c : Commit = commit.Mounted (record { number = m.number; checkpoint = m.checkpoint }) in
    let whole : IsHistory (told ++ prefix.0) = subst IsHistory (sym prefix.1) history in
    let ends : IsHistory ((claim.0 ++ c ∷ []) ++ prefix.0) =
    subst (λ (l : List Commit). IsHistory (l ++ prefix.0)) claim.1 whole in
    let begun : IsHistory (claim.0 ++ c ∷ []) =
    begun_more claim.0 c (history_start (claim.0 ++ c ∷ []) prefix.0 ends) in
    let first =
    subst (λ (l : List Commit). ShowsStill (shown_after l) m.number m.checkpoint (shown_after l))
    (sym claim.1)
    (shows_first claim.0 m.number m.checkpoint begun) in
    let next : AllNext (shown_after told) prefix.0 =
    rest_of told prefix.0 whole (subst IsHistory (sym claim.1) begun) in
    let all = shows_all (shown_after told) m.number m.checkpoint (shown_after told) prefix.0 next first in
    let at : fold applied (shown_after told) prefix.0 ≡ shown_after log =
    sym (fold-grows nothing told prefix.0) ∙ ap shown_after prefix.1 in
    let still = subst (λ (y : Shown). ShowsStill (shown_after told) m.number m.checkpoint y) at all in
    let shows = still.shows n is in
    record { checkpoint = shows.0; trees = shows.1 }

-- ---- before a mount's own commit

prefix_before : {A : Type 0} (xs ys : List A) (y : A) → IsPrefix xs (ys ++ y ∷ [])
    → length xs < length (ys ++ y ∷ []) → IsPrefix xs ys
prefix_before [] ys y p less = (ys, refl)
prefix_before (x ∷ xs) [] y p less = absurd (omega arith)
prefix_before (x ∷ xs) (z ∷ ys) y p less =
    let heads : x ≡ z = cc (p.1) in
    let rest = prefix_before xs ys y (p.0, cc (p.1)) (omega arith) in
    (rest.0, cc (heads, rest.1))

given_all : (x : Shown) (log : List Commit) (m : ℕ) → AllNext x log → m ≤ x.given
    → m ≤ (fold applied x log).given
given_all x [] m next low = low
given_all x (c ∷ log) m next low = given_all (applied x c) log m next.1 (given_on x c m next.0.new low)

not_some : (o : Option ℕ) → ((n : ℕ) → o ≡ Some n → ⊥) → o ≡ None
not_some None none = refl
not_some (Some n) none = absurd (none n refl)

pub mount_begins : MountsBegin
mount_begins m log claim begun history prefix less =
    let c : Commit = commit.Mounted (record { number = m.number; checkpoint = m.checkpoint }) in
    let before = claim.0 in
    let whole : IsHistory (before ++ c ∷ []) = begun_more before c (subst IsBegun claim.1 begun) in
    let new = new_mount before m.number m.checkpoint whole in
    let was : IsHistory before =
    begun_is before c (record { number = m.number; checkpoint = m.checkpoint }) refl whole
    (history_start before (c ∷ []) whole) in
    let first : IsPrefix log before =
    prefix_before log before c (subst (λ (l : List Commit). IsPrefix log l) claim.1 prefix)
    (subst (λ (l : List Commit). length log < length l) claim.1 less) in
    let next : AllNext (shown_after log) first.0 =
    rest_of log first.0 (subst IsHistory (sym first.1) was) history in
    let at : fold applied (shown_after log) first.0 ≡ shown_after before =
    sym (fold-grows nothing log first.0) ∙ ap shown_after first.1 in
    let up : (shown_after log).given ≤ (shown_after before).given =
    subst (λ (y : Shown). (shown_after log).given ≤ y.given) at
    (given_all (shown_after log) first.0 (shown_after log).given next (omega arith)) in
    not_some (mounted_on (shown_after log) m.number)
    (λ n is.
    let low = (history_state log history).given m.number n is in
    let above = new.next.new in
    absurd (omega (arith, low, up, above)))
