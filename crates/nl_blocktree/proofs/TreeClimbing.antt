-- A climb, from one level to the next and to the top.
use Rattle.std.proofs.Common.{◌≡◌, ℕ, zero, suc, ◌+◌, ◌*◌, ◌-◌, ◌^◌, ◌<◌, ◌≤◌, ◌==◌, ◌&&◌, not, nat_lt, Bool, true, false, List, [], ◌∷◌, length, get_or, Option, Some, None, refl, ap, sym, subst, ◌∙◌, arith, inl, inr}
use Rattle.std.specs.List.{All, AllPairs, Contains}
use Rattle.std.proofs.Math.Nat.{one-le-pow, pow-suc}
use Rattle.std.proofs.lemmas.Bool.{both_ways, cases_eq, eq-eqb, eqb-true, ltb-true, lt-ltb}
use Rattle.nl_types.specs.Facts.Births.{uncons}
use Rattle.nl_types.specs.Blocks.Entries.{Birth, Content}
use Rattle.nl_types.specs.Blocks.RootChanges.{IsSound, with_births}
use Rattle.nl_types.specs.Blocks.Roots.{Chain, Empty, Pages, Root, Tree, numbered, pages_of, place_at}
use Rattle.nl_blocktree.specs.Private.Edits.{ComesBefore, IsEdited, AreToldByEdits, begins_low, edit_alone, top_edits, with_front}
use Rattle.nl_blocktree.specs.Private.Renewing.{Climbs, IsClimbed}
use Rattle.nl_blocktree.specs.Private.TreeLevels.{kept_levels, tree_height}
use Rattle.nl_blocktree.specs.Private.Writing.{PutsLevel}
use Rattle.nl_blocktree.specs.declared.tree.Edit.{Edit}
use Rattle.nl_blocktree.proofs.TreeClimbs.{climbed, climbed_places, climbs_more, climbs_told, spine_same}
use Rattle.nl_blocktree.proofs.TreeEnds.{full_places}
use Rattle.nl_blocktree.proofs.TreeKept.{kept_old, none_over, one_top}
use Rattle.nl_blocktree.proofs.TreeSteps.{any_default}
use Rattle.nl_blocktree.specs.Facts.TreeLevels.{only_zero, pow_rises, tree_above, tree_top}

-- ---- edits

none_in : (e : Edit) → Contains [] e → ⊥
none_in e c = let l = c.1 in omega arith

front : (ups : List Edit) → begins_low ups ≡ false → AllPairs ComesBefore ups → (e : Edit) → Contains ups e
    → e.offset ≡ 0 → ⊥
front [] b a e c z = none_in e c
front (u ∷ ups) b a e c z = elim (uncons u ups e c) [
  | inl q ↦ both_ways (u.offset == 0) b (eq-eqb u.offset 0 (ap (λ (x : Edit). x.offset) q ∙ z))
  | inr q ↦
      let p : (get_or (u ∷ ups) 0 e).offset < (get_or (u ∷ ups) (suc q.0) e).offset =
      a 0 (suc q.0) e (omega arith) (let l = q.1 in omega arith) in
      let r = ap (λ (x : Edit). x.offset) q.2 in
      omega (arith, p, r, z)
]

low_front : (ups : List Edit) → begins_low ups ≡ true → IsEdited ups 0
low_front [] b = cc
low_front (u ∷ ups) b = (u, (0, omega arith, refl), eqb-true u.offset 0 b)

in_tail : (x : Edit) (xs : List Edit) (y : Edit) → Contains xs y → Contains (x ∷ xs) y
in_tail x xs y c = (suc c.0, (let l = c.1 in omega arith), c.2)

-- ---- the top of a tree that grows, in front of the edits

front_test : (old level height : ℕ) (ups : List Edit)
    → ((old == level) && (nat_lt level height && not (begins_low ups))) ≡ true
    → (old ≡ level) × (level < height) × (begins_low ups ≡ false)
front_test old level height ups e = by (old == level) (nat_lt level height) (begins_low ups) refl refl refl e
  where
    by : (a b c : Bool) → a ≡ (old == level) → b ≡ nat_lt level height → c ≡ begins_low ups
        → (a && (b && not c)) ≡ true → (old ≡ level) × (level < height) × (begins_low ups ≡ false)
    by true true false p q r t = (eqb-true old level (sym p), ltb-true level height (sym q), sym r)
    by true true true p q r t = cc
    by true false c p q r t = cc
    by false b c p q r t = cc

other_test : (old level height : ℕ) (ups : List Edit)
    → ((old == level) && (nat_lt level height && not (begins_low ups))) ≡ false → old ≡ level → level < height
    → begins_low ups ≡ true
other_test old level height ups e o l =
    by (begins_low ups) refl (rw (eq-eqb old level o, lt-ltb level height l) at e)
  where
    by : (c : Bool) → c ≡ begins_low ups → not c ≡ false → begins_low ups ≡ true
    by true r t = sym r
    by false r t = cc

-- with the top in front, or without it
pub front_cases : (old level height top : ℕ) (ups : List Edit) (P : List Edit → Type 0) →
    (old ≡ level → level < height → begins_low ups ≡ false → P (edit_alone 0 top ∷ ups)) →
    ((old ≡ level → level < height → begins_low ups ≡ true) → P ups)
    → P (top_edits (Tree old top) level height ups)
front_cases old level height top ups P given without =
    by ((old == level) && (nat_lt level height && not (begins_low ups))) refl
  where
    by : (b : Bool) → b ≡ ((old == level) && (nat_lt level height && not (begins_low ups)))
        → P (with_front b top ups)
    by true e = let t = front_test old level height ups (sym e) in given t.0 t.1 t.2
    by false e = without (other_test old level height ups (sym e))

pub top_some : (root : Root) (level height : ℕ) (ups : List Edit) → 0 < length ups
    → 0 < length (top_edits root level height ups)
top_some Empty level height ups s = s
top_some (Chain top) level height ups s = s
top_some (Tree old top) level height ups s =
    front_cases old level height top ups (λ (es : List Edit). 0 < length es) (λ o l b. omega arith) (λ n. s)

pub top_ascends : (root : Root) (level height : ℕ) (ups : List Edit) → AllPairs ComesBefore ups
    → AllPairs ComesBefore (top_edits root level height ups)
top_ascends Empty level height ups a = a
top_ascends (Chain top) level height ups a = a
top_ascends (Tree old top) level height ups a =
    front_cases old level height top ups (λ (es : List Edit). AllPairs ComesBefore es) (λ o l b. with b)
    (λ n. a)
  where
    with : begins_low ups ≡ false → AllPairs ComesBefore (edit_alone 0 top ∷ ups)
    with b zero zero d l m = absurd (omega arith)
    with b zero (suc j) d l m =
        let there : Contains ups (get_or ups j d) =
        (j, omega arith, any_default ups j (get_or ups j d) d (omega arith)) in
        let n = front ups b a (get_or ups j d) there in
        pos (get_or ups j d).offset n
      where
        pos : (n : ℕ) → (n ≡ 0 → ⊥) → 0 < n
        pos zero h = absurd (h refl)
        pos (suc n) h = omega arith
    with b (suc i) zero d l m = absurd (omega arith)
    with b (suc i) (suc j) d l m = a i j d (omega arith) (omega arith)

pub top_narrow : (root : Root) (level height n : ℕ) (ups : List Edit) → 0 < n
    → All (λ (e : Edit). e.offset < n) ups
    → All (λ (e : Edit). e.offset < n) (top_edits root level height ups)
top_narrow Empty level height n ups p a = a
top_narrow (Chain top) level height n ups p a = a
top_narrow (Tree old top) level height n ups p a =
    front_cases old level height top ups (λ (es : List Edit). All (λ (e : Edit). e.offset < n) es)
    (λ o l b. with) (λ k. a)
  where
    with : All (λ (e : Edit). e.offset < n) (edit_alone 0 top ∷ ups)
    with zero d l = p
    with (suc i) d l = a i d (omega arith)

pub top_told : (pages : Pages) (root : Root) (level height : ℕ) (ups : List Edit) → 1 ≤ level
    → AreToldByEdits pages root level height (top_edits root level height ups)
top_told pages Empty level height ups one low l i v e =
    let no : None ≡ Some v = sym (none_over pages Empty level i (omega arith)) ∙ e in cc
top_told pages (Chain top) level height ups one low l i v e =
    let no : None ≡ Some v = sym (none_over pages (Chain top) level i (omega arith)) ∙ e in cc
top_told pages (Tree old top) level height ups one low l i v e = elim (cases_eq old level) [
  | inr n ↦ let no : None ≡ Some v = sym (tree_above pages old top level i (omega (arith, n))) ∙ e in cc
  | inl o ↦
      let z : i ≡ 0 =
      only_zero top i v
      (sym (tree_top pages old top i) ∙ (ap (λ (k : ℕ). place_at pages (Tree old top) k i) o ∙ e)) in
      subst (λ (k : ℕ). IsEdited (top_edits (Tree old top) level height ups) k) (sym z)
      (front_cases old level height top ups (λ (es : List Edit). IsEdited es 0)
      (λ a b c. (edit_alone 0 top, (0, omega arith, refl), refl))
      (λ n. low_front ups (n o l)))
]

-- ---- the way up

pub ups_some : {content : Content} {inode level : ℕ} {above below : ℕ → Option ℕ} {edits ups : List Edit}
    {births births' : List Birth} {ends ends' : List ℕ}
    →
    PutsLevel content inode level above below edits ups births births' ends ends' → 0 < length edits
    → 0 < length ups
ups_some {edits = []} h s = absurd (omega arith)
ups_some {edits = e ∷ edits} h s =
    let u = h.up_of e (0, omega arith, refl) in let c = u.1 in let l = c.1 in omega arith

pub ups_narrow : {content : Content} {inode level : ℕ} {above below : ℕ → Option ℕ} {edits ups : List Edit}
    {births births' : List Birth} {ends ends' : List ℕ} (n : ℕ)
    →
    PutsLevel content inode level above below edits ups births births' ends ends'
    → ((e : Edit) → Contains edits e → e.offset < 128 * n) → (u : Edit) → Contains ups u → u.offset < n
ups_narrow n h near u k = let e = h.edit_of u k in let l = near e.0 e.1 in let q = e.2 in omega (arith, l, q)

-- the top in front changes nothing
front_on : {content : Content} {inode : ℕ} (root : Root) (below height : ℕ) {ups : List Edit}
    {mid : List Birth} {ys : List ℕ} {asked : List Edit} {first : List Birth} {qs : List ℕ}
    → AllPairs ComesBefore ups →
    Climbs content inode (kept_levels (pages_of content) root) asked (suc below) ups first mid qs ys
    → Climbs content inode (kept_levels (pages_of content) root) asked (suc below)
    (top_edits root (suc below) height ups) first mid qs ys
front_on {content} {inode} root below height {ups} {mid} {ys} {asked} {first} {qs} a h = at root refl
  where
    at : (r : Root) → r ≡ root
        → Climbs content inode (kept_levels (pages_of content) root) asked (suc below)
        (top_edits r (suc below) height ups) first mid qs ys
    at Empty e = h
    at (Chain top) e = h
    at (Tree old top) e =
        front_cases old (suc below) height top ups
        (λ (es : List Edit).
        Climbs content inode (kept_levels (pages_of content) root) asked (suc below) es first mid qs ys)
        (λ o l b.
        climbs_told (edit_alone 0 top ∷ ups) h
        (λ offset.
        none_over (pages_of content) root (suc (suc below)) offset
        (let t = ap tree_height e in omega (arith, t, o)))
        (spine_same (kept_levels (pages_of content) root (suc below)) ups top
        (ap (λ (r : Root). kept_levels (pages_of content) r (suc below) 0) (sym e)
        ∙ subst (λ (k : ℕ). place_at (pages_of content) (Tree old top) k 0 ≡ numbered top) o
        (tree_top (pages_of content) old top 0))
        (front ups b a))
        (λ x k. (x, in_tail (edit_alone 0 top) ups x k, refl)))
        (λ n. h)

-- one level up
pub climb_more : {content : Content} {inode : ℕ} {root : Root} (below height top : ℕ) {edits ups : List Edit}
    {births mid new : List Birth} {zs ys ends : List ℕ}
    → IsSound (pages_of content) root → below < height →
    AreToldByEdits (pages_of content) root below height edits →
    PutsLevel content inode (suc below) (kept_levels (pages_of content) root (suc below))
    (kept_levels (pages_of content) root below) edits ups births mid zs ys
    →
    IsClimbed content inode root (suc below)
    (top_edits root (suc below) height ups) height top mid new ys ends
    → IsClimbed content inode root below edits height top births new zs ends
climb_more {content} {inode} {root} below height top sound low told n on asked first qs fresh h =
    on asked first qs fresh
    (front_on root below height n.ascending
    (climbs_more (kept_old content root sound) fresh h n (λ t offset v e. told t low offset v e)))

-- and the top
pub climb_done : {content : Content} {inode : ℕ} {root : Root} {height top : ℕ} {edits : List Edit}
    {births : List Birth} {zs : List ℕ}
    → IsSound (pages_of content) root → 1 ≤ height → tree_height root ≤ height →
    AllPairs ComesBefore edits → (first : Edit) → Contains edits first → first.number ≡ top
    → ((e : Edit) → Contains edits e → e.offset ≡ 0)
    → IsClimbed content inode root height edits height top births births zs zs
climb_done {content} {inode} {root} {height} {top} {edits}
    {births} sound one whole ascend front there is alone asked first qs fresh h = (
      climbed h ascend front there (alone front there) is alone
          (λ offset z. one_top (pages_of content) root height offset one whole z)
          (λ l offset far. none_over (pages_of content) root l offset (omega arith)),
      full_places (with_births births (pages_of content)) height top h.levels
          (climbed_places h ascend front there (alone front there) is alone
          (λ offset z. one_top (pages_of content) root height offset one whole z))
          h.full,
    )

-- ---- as the function climbs

pub at_top : {content : Content} {inode : ℕ} {root : Root} (below height : ℕ) {edits : List Edit} (d : Edit)
    {births : List Birth} {zs : List ℕ}
    → IsSound (pages_of content) root → 1 ≤ height → tree_height root ≤ height → below ≡ height →
    0 < length edits → AllPairs ComesBefore edits
    → All (λ (e : Edit). e.offset < 128 ^ (height - below)) edits
    → IsClimbed content inode root below edits height (get_or edits 0 d).number births births zs zs
at_top {content} {inode} {root} below height {edits} d {births} {zs} sound one whole is some ascend narrow =
    subst
    (λ (b : ℕ). IsClimbed content inode root b edits height (get_or edits 0 d).number births births zs zs)
    (sym is)
    (climb_done sound one whole ascend (get_or edits 0 d) (0, some, again) refl alone)
  where
    zero_at : (k : ℕ) (e : Edit) → k < length edits → (get_or edits k e).offset ≡ 0
    zero_at k e l =
        let n : height - below ≡ 0 = omega (arith, is) in
        let r : (get_or edits k e).offset < 128 ^ 0 =
        subst (λ (m : ℕ). (get_or edits k e).offset < 128 ^ m) n (narrow k e l) in
        omega (arith, r)

    again : get_or edits 0 (get_or edits 0 d) ≡ get_or edits 0 d
    again = any_default edits 0 (get_or edits 0 d) d some

    alone : (e : Edit) → Contains edits e → e.offset ≡ 0
    alone e c = sym (ap (λ (x : Edit). x.offset) c.2) ∙ zero_at c.0 e c.1

pub climb_up : {content : Content} {inode : ℕ} {root : Root} (below height top : ℕ) {edits ups : List Edit}
    (told : List Edit) {births mid new : List Birth} {zs ys ends : List ℕ}
    → IsSound (pages_of content) root → below < height →
    AreToldByEdits (pages_of content) root below height edits →
    PutsLevel content inode (suc below) (kept_levels (pages_of content) root (suc below))
    (kept_levels (pages_of content) root below) edits ups births mid zs ys
    →
    told ≡ top_edits root (below + 1) height ups →
    IsClimbed content inode root (below + 1) told height top mid new ys ends
    → IsClimbed content inode root below edits height top births new zs ends
climb_up {content} {inode} {root} below height top {edits} {ups} told {births} {mid} {new} {zs} {ys}
    {ends} sound low all n is on =
    let e : below + 1 ≡ suc below = omega arith in
    climb_more below height top sound low all n
    (subst
    (λ (l : ℕ). IsClimbed content inode root l (top_edits root l height ups) height top mid new ys ends) e
    (subst
    (λ (es : List Edit). IsClimbed content inode root (below + 1) es height top mid new ys ends) is on))

pub small_of : (below height : ℕ) (edits : List Edit) → height ≤ 3
    → All (λ (e : Edit). e.offset < 128 ^ (height - below)) edits
    → All (λ (e : Edit). e.offset < 2097152) edits
small_of below height edits most narrow k d l =
    let r = narrow k d l in
    let p = pow_rises (height - below) 3 (omega arith) in
    omega (arith, r, p)

pub told_some : {content : Content} {inode level : ℕ} {above below : ℕ → Option ℕ} {edits ups : List Edit}
    {births births' : List Birth} {ends ends' : List ℕ} (root : Root) (l height : ℕ) (told : List Edit)
    →
    PutsLevel content inode level above below edits ups births births' ends ends' → 0 < length edits
    → told ≡ top_edits root l height ups → 0 < length told
told_some {ups = ups} root l height told h s is =
    subst (λ (es : List Edit). 0 < length es) (sym is) (top_some root l height ups (ups_some h s))

pub told_ascends : {content : Content} {inode level : ℕ} {above below : ℕ → Option ℕ} {edits ups : List Edit}
    {births births' : List Birth} {ends ends' : List ℕ} (root : Root) (l height : ℕ) (told : List Edit)
    →
    PutsLevel content inode level above below edits ups births births' ends ends'
    → told ≡ top_edits root l height ups → AllPairs ComesBefore told
told_ascends {ups = ups} root l height told h is =
    subst (λ (es : List Edit). AllPairs ComesBefore es) (sym is) (top_ascends root l height ups h.ascending)

pub told_narrow : {content : Content} {inode level : ℕ} {above under : ℕ → Option ℕ} {edits ups : List Edit}
    {births births' : List Birth} {ends ends' : List ℕ} (root : Root) (below height : ℕ) (told : List Edit)
    →
    PutsLevel content inode level above under edits ups births births' ends ends' → below < height
    → All (λ (e : Edit). e.offset < 128 ^ (height - below)) edits
    → told ≡ top_edits root (below + 1) height ups →
    All (λ (e : Edit). e.offset < 128 ^ (height - (below + 1))) told
told_narrow {edits = edits} {ups = ups} root below height told h low narrow is =
    subst (λ (es : List Edit). All (λ (e : Edit). e.offset < 128 ^ (height - (below + 1))) es) (sym is)
    (top_narrow root (below + 1) height (128 ^ (height - (below + 1))) ups
    (one-le-pow (height - (below + 1)) 128 (omega arith)) each)
  where
    size : 128 ^ (height - below) ≡ 128 * 128 ^ (height - (below + 1))
    size =
        let k : height - below ≡ suc (height - (below + 1)) = omega arith in
        let p = pow-suc 128 (height - (below + 1)) in
        ap (λ (n : ℕ). 128 ^ n) k ∙ (let q = 128 ^ (height - (below + 1)) in omega (arith, p))

    near : (e : Edit) → Contains edits e → e.offset < 128 * 128 ^ (height - (below + 1))
    near e c =
        let r = narrow c.0 e c.1 in
        let x = ap (λ (y : Edit). y.offset) c.2 in
        let s = size in
        omega (arith, r, x, s)

    each : All (λ (e : Edit). e.offset < 128 ^ (height - (below + 1))) ups
    each k d l =
        ups_narrow (128 ^ (height - (below + 1))) h near (get_or ups k d)
        (k, l, any_default ups k (get_or ups k d) d l)

pub told_told : (pages : Pages) (root : Root) (below height : ℕ) (ups told : List Edit)
    → told ≡ top_edits root (below + 1) height ups → AreToldByEdits pages root (below + 1) height told
told_told pages root below height ups told is =
    subst (λ (es : List Edit). AreToldByEdits pages root (below + 1) height es) (sym is)
    (top_told pages root (below + 1) height ups (omega arith))
