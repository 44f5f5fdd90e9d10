-- Paths that begin with others, and the names of a path up to the first one that may not stand on the host.
use Rattle.std.proofs.Common.{◌≡◌, ℕ, ◌+◌, ◌-◌, ◌≤◌, suc, zero, Bool, true, false, cond, ◌&&◌, [], ◌∷◌, ◌++◌, length, take, drop, refl, sym, ap, subst, ◌∙◌, append_assoc, append-nil, length-append, arith, true≢false}
use Rattle.std.specs.Prelude.{nat_lt}
use Rattle.std.specs.List.{list_all}
use Rattle.std.proofs.lemmas.Bool.{and_from, and_parts, ltb-false, ltb-true}
use Rattle.std.proofs.lemmas.List.{take_all, take_at}
use Rattle.nl_types.specs.Plain.Paths.{Name, Path, is_within, same_name}
use Rattle.nl_types.specs.Facts.Lookups.{is_within-append, same_name-itself, within_is}
use Rattle.nl_host.specs.HostPaths.{is_host_name}
use Rattle.nl_host.specs.Standing.{host_front, is_above}
use Rattle.nl_host.specs.Trails.{but_last}

-- ---- paths that begin with others

pub within_itself : (p : Path) → is_within p p ≡ true
within_itself p = subst (λ (q : Path). is_within p q ≡ true) (append-nil p) (is_within-append p [])

pub within_trans : (a b c : Path) → is_within a b ≡ true → is_within b c ≡ true → is_within a c ≡ true
within_trans a b c first second =
    let s = drop (length b) c in
    let r = drop (length a) b in
    let whole : c ≡ a ++ (r ++ s) =
    within_is b c second ∙ ap (λ (p : Path). p ++ s) (within_is a b first) ∙ append_assoc a r s in
    subst (λ (q : Path). is_within a q ≡ true) (sym whole) (is_within-append a (r ++ s))

pub within_longer : (a b : Path) → is_within a b ≡ true → length a ≤ length b
within_longer a b first =
    let sizes : length b ≡ length a + length (drop (length a) b) =
    ap length (within_is a b first) ∙ length-append a (drop (length a) b) in
    omega arith

within_take : (a b : Path) (k : ℕ) → is_within a b ≡ true → length a ≤ k → is_within a (take k b) ≡ true
within_take [] b k first short = refl
within_take (n ∷ a) [] k first short = absurd (true≢false (sym first))
within_take (n ∷ a) (m ∷ b) zero first short = absurd (omega arith)
within_take (n ∷ a) (m ∷ b) (suc k) first short =
    let parts = and_parts (same_name n m) (is_within a b) first in
    and_from (same_name n m) (is_within a (take k b)) parts.0 (within_take a b k parts.1 (omega arith))

within_equal : (a b : Path) → is_within a b ≡ true → length a ≡ length b → b ≡ a
within_equal a b first same =
    sym (take_all (length a) b (omega arith)) ∙ ap (λ (p : Path). take (length a) p) (within_is a b first)
    ∙ take_at a (drop (length a) b) (length a) refl

-- what our folder lies in lies above it too, unless our folder is above the path
pub front_kept : (front here path : Path) → is_within front here ≡ true → is_above here path ≡ false
    → is_above front path ≡ true → is_within front (but_last here) ≡ true
front_kept front here path first not_above above = by (nat_lt (length front) (length here)) refl
  where
    by : (b : Bool) → nat_lt (length front) (length here) ≡ b → is_within front (but_last here) ≡ true
    by true lt =
        let shorter = ltb-true (length front) (length here) lt in
        within_take front here (length here - 1) first (omega arith)
    by false ge =
        let longer = within_longer front here first in
        let not_shorter = ltb-false (length front) (length here) ge in
        let same = within_equal front here first (omega arith) in
        absurd (true≢false (sym above ∙ ap (λ (p : Path). is_above p path) (sym same) ∙ not_above))

pub but_last-push : (path : Path) (name : Name) → but_last (path ++ name ∷ []) ≡ path
but_last-push path name =
    let sizes = length-append path (name ∷ []) in
    take_at path (name ∷ []) (length (path ++ name ∷ []) - 1) (omega arith)

-- ---- names that may stand on the host

pub hosts-front : (p : Path) → list_all is_host_name (host_front p) ≡ true
hosts-front [] = refl
hosts-front (n ∷ p) = by (is_host_name n) refl (hosts-front p)
  where
    by : (b : Bool) → is_host_name n ≡ b → list_all is_host_name (host_front p) ≡ true
        → list_all is_host_name (cond b (n ∷ host_front p) []) ≡ true
    by true is rest = and_from (is_host_name n) (list_all is_host_name (host_front p)) is rest
    by false is rest = refl

pub front_append : (a r : Path) → list_all is_host_name a ≡ true → host_front (a ++ r) ≡ a ++ host_front r
front_append [] r all = refl
front_append (n ∷ a) r all =
    let parts = and_parts (is_host_name n) (list_all is_host_name a) all in
    ap (λ b. cond b (n ∷ host_front (a ++ r)) []) parts.0
    ∙ ap (λ (rest : Path). n ∷ rest) (front_append a r parts.1)

pub front_whole : (a : Path) → list_all is_host_name a ≡ true → host_front a ≡ a
front_whole a all =
    ap host_front (sym (append-nil a)) ∙ front_append a [] all ∙ append-nil a

-- where a name may not stand there, no more names count
pub front_stops : (a r : Path) → list_all is_host_name a ≡ false → host_front (a ++ r) ≡ host_front a
front_stops [] r odd = absurd (true≢false odd)
front_stops (n ∷ a) r odd = by (is_host_name n) odd (front_stops a r)
  where
    by : (b : Bool) → (b && list_all is_host_name a) ≡ false
        → (list_all is_host_name a ≡ false → host_front (a ++ r) ≡ host_front a)
        → cond b (n ∷ host_front (a ++ r)) [] ≡ cond b (n ∷ host_front a) []
    by true other rest = ap (λ (p : Path). n ∷ p) (rest other)
    by false other rest = refl

pub front_itself : (p : Path) → is_within (host_front p) p ≡ true
front_itself [] = refl
front_itself (n ∷ p) = by (is_host_name n) (front_itself p)
  where
    by : (b : Bool) → is_within (host_front p) p ≡ true → is_within (cond b (n ∷ host_front p) []) (n ∷ p) ≡ true
    by true rest = and_from (same_name n n) (is_within (host_front p) p) (same_name-itself n) rest
    by false rest = refl

-- a path of such names with which another one begins
pub within_front : (a w : Path) → is_within a w ≡ true → list_all is_host_name a ≡ true
    → is_within a (host_front w) ≡ true
within_front a w first all =
    let whole : host_front w ≡ a ++ host_front (drop (length a) w) =
    ap host_front (within_is a w first) ∙ front_append a (drop (length a) w) all in
    subst (λ (q : Path). is_within a q ≡ true) (sym whole) (is_within-append a (host_front (drop (length a) w)))
