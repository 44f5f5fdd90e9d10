-- Copies that may be taken out, and what is found once they are.
use Rattle.std.proofs.Common.{◌≡◌, ℕ, Bool, true, false, cond, ◌&&◌, ◌||◌, not, List, [], ◌∷◌, map, Option, Some, None, refl, sym, ap, ◌∙◌, subst, true≢false, is_some, eqb-true, eq-eqb}
use Rattle.std.specs.Prelude.{◌==◌, nat_le}
use Rattle.std.specs.List.{filter}
use Rattle.std.specs.Option.{is_none, option_map_or}
use Rattle.std.proofs.lemmas.Bool.{and_parts, or_parts, not-true}
use Rattle.std.proofs.lemmas.Option.{same_Some}
use Rattle.std.specs.Ordering.{nat_cmp, eq_by_cmp}
use Rattle.std.specs.FinMap.{find, is_sorted}
use Rattle.nl_types.specs.declared.error.VolError.TheVariants as error
use Rattle.nl_types.specs.Plain.NumberLists.{is_one_of}
use Rattle.nl_types.specs.Plain.Rows.{is_snapshot, number_of, may_go, is_between, rows_between, removable}
use Rattle.nl_types.specs.Plain.Worlds.{World, Copy, copy_at, latest, copy_row, is_mounted, take_out}
use Rattle.nl_types.specs.Plain.CheckpointLaws.{where_passes, is_removable}
use Rattle.nl_types.specs.Facts.Booleans.{not_true, or_right}
use Rattle.nl_types.specs.Facts.NumberedParts.{is_one_of-find, find-kept, find-filter, top-kept}
use Rattle.nl_types.specs.Facts.ToldCopies.{MayGo, range_of}

pub turned : {A : Type 0} (b : Bool) (x y : A) → cond (not b) x y ≡ cond b y x
turned true x y = refl
turned false x y = refl

-- what is found once copies are taken out
pub copy_at-take_out : (w : World) (gone : List ℕ) (n : ℕ)
    → copy_at (take_out gone w) n ≡ cond (is_one_of gone n) None (copy_at w n)
copy_at-take_out w gone n =
    find-kept (λ k. not (is_one_of gone k)) w.copies n ∙ turned (is_one_of gone n) (copy_at w n) None

-- ---- which may be

abbrev pub AllMayGo : World → List ℕ → Type 0
AllMayGo w gone = (n : ℕ) → is_one_of gone n ≡ true → MayGo w n

pub among_one : (n m : ℕ) → is_one_of (n ∷ []) m ≡ true → n ≡ m
among_one n m among = elim (m == n) as (λ b. (m == n) ≡ b → (b || false) ≡ true → n ≡ m) [
  | true ↦ λ same _. sym (eqb-true m n same)
  | false ↦ λ _ none. absurd (true≢false (sym none))
] refl among

pub one_may_go : (w : World) (n : ℕ) → MayGo w n → AllMayGo w (n ∷ [])
one_may_go w n may m among = subst (MayGo w) (among_one n m among) may

-- then the latest copy stays the latest
pub latest_stays : (w : World) (gone : List ℕ) → AllMayGo w gone → is_one_of gone (latest w) ≡ false
latest_stays w gone may =
    not_true (is_one_of gone (latest w))
    (λ among. true≢false (sym (eq-eqb (latest w) (latest w) refl) ∙ (may (latest w) among).earlier))

pub same_latest : (w : World) (gone : List ℕ) → is_some (copy_at w (latest w)) ≡ true → AllMayGo w gone
    → latest (take_out gone w) ≡ latest w
same_latest w gone kept may =
    top-kept (λ k. not (is_one_of gone k)) w.copies kept (ap not (latest_stays w gone may))

pub latest-take_out : (w : World) (gone : List ℕ) → is_some (copy_at w (latest w)) ≡ true → AllMayGo w gone
    → copy_at (take_out gone w) (latest (take_out gone w)) ≡ copy_at w (latest w)
latest-take_out w gone kept may =
    ap (copy_at (take_out gone w)) (same_latest w gone kept may) ∙ copy_at-take_out w gone (latest w)
    ∙ ap (λ b. cond b None (copy_at w (latest w))) (latest_stays w gone may)

-- ---- a range

-- whether the judgement lets a copy go
abbrev pub goes : (latest first last n : ℕ) → Copy → Bool
goes latest first last n copy =
    is_between first last (copy_row (n, copy)) && may_go latest (copy_row (n, copy))

pub removable-goes : (latest first last : ℕ) (copies : List (ℕ × Copy))
    → removable latest (rows_between first last (map copy_row copies))
    ≡ map (λ c. c.0) (filter (λ c. goes latest first last c.0 c.1) copies)
removable-goes latest first last [] = refl
removable-goes latest first last (c ∷ copies) =
    let rest = removable-goes latest first last copies in
    let found = rows_between first last (map copy_row copies) in
    let left = filter (λ (d : ℕ × Copy). goes latest first last d.0 d.1) copies in
    elim (is_between first last (copy_row c)) as (λ b.
    removable latest (cond b (copy_row c ∷ found) found)
    ≡ map (λ d. d.0) (cond (b && may_go latest (copy_row c)) (c ∷ left) left)) [
      | true ↦
          elim (may_go latest (copy_row c)) as (λ b.
          map number_of (cond b (copy_row c ∷ filter (may_go latest) found) (filter (may_go latest) found))
          ≡ map (λ d. d.0) (cond b (c ∷ left) left)) [
            | true ↦ ap (λ ns. c.0 ∷ ns) rest
            | false ↦ rest
          ]
      | false ↦ rest
    ]

goes-removable : (w : World) (first last n : ℕ) (copy : Copy)
    → goes (latest w) first last n copy ≡ is_removable w first last n copy
goes-removable w first last n copy =
    ap (λ b. (nat_le first n && nat_le n last) && b) (by (is_snapshot copy.mode) (n == latest w))
  where
    by : (s e : Bool)
        → is_none (cond s (Some error.IsSnapshot) (cond e (Some error.Latest) None)) ≡ not (s || e)
    by true e = refl
    by false true = refl
    by false false = refl

-- what is answered is what may go
pub among-range : (w : World) (first last n : ℕ) → is_sorted nat_cmp w.copies ≡ true
    → is_one_of (range_of w first last).removed n
    ≡ option_map_or (is_removable w first last n) (copy_at w n) false
among-range w first last n sorted =
    ap (λ ns. is_one_of ns n) (removable-goes (latest w) first last w.copies)
    ∙ is_one_of-find (filter (λ c. goes (latest w) first last c.0 c.1) w.copies) n
    ∙ ap is_some (find-filter (goes (latest w) first last) w.copies n sorted)
    ∙ by (copy_at w n)
  where
    by : (o : Option Copy)
        → is_some (where_passes (goes (latest w) first last n) o)
        ≡ option_map_or (is_removable w first last n) o false
    by None = refl
    by (Some copy) =
        elim (goes (latest w) first last n copy) as (λ b. is_some (cond b (Some copy) None) ≡ b)
        [ true ↦ refl | false ↦ refl ]
        ∙ goes-removable w first last n copy

pub range_may_go : (w : World) (first last : ℕ) → is_sorted nat_cmp w.copies ≡ true
    → AllMayGo w (range_of w first last).removed
range_may_go w first last sorted n among =
    by (copy_at w n) refl (sym (among-range w first last n sorted) ∙ among)
  where
    by : (o : Option Copy) → copy_at w n ≡ o → option_map_or (is_removable w first last n) o false ≡ true
        → MayGo w n
    by None kept none = absurd (true≢false (sym none))
    by (Some copy) kept passes =
        let parts =
        and_parts (nat_le first n && nat_le n last)
        (not (is_snapshot copy.mode || n == latest w)) passes in
        let neither =
        or_parts (is_snapshot copy.mode) (n == latest w)
        (not-true (is_snapshot copy.mode || n == latest w) parts.1) in
        record { copy = copy; kept = kept; plain = neither.0; earlier = neither.1 }

-- ---- mounts

-- a checkpoint that a mount shows is mounted
pub mounted_if_found : (mounts : List (ℕ × ℕ)) (m n : ℕ) → find nat_cmp m mounts ≡ Some n
    → is_mounted mounts n ≡ true
mounted_if_found [] m n is = absurd (true≢false (sym (ap is_some is)))
mounted_if_found (e ∷ mounts) m n is =
    elim (eq_by_cmp nat_cmp m e.0) as (λ b.
    cond b (Some e.1) (find nat_cmp m mounts) ≡ Some n → is_mounted (e ∷ mounts) n ≡ true) [
      | true ↦ λ here. ap (λ b. b || is_mounted mounts n) (eq-eqb e.1 n (same_Some e.1 n here))
      | false ↦ λ later. or_right (e.1 == n) (mounted_if_found mounts m n later)
    ] is
