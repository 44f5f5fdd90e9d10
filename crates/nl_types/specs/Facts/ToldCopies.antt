-- What is told of a copy, and what a judgement of its row says of the copy.
use Rattle.std.proofs.Common.{◌≡◌, ℕ, true, false, cond, ◌&&◌, not, List, [], ◌∷◌, map, Option, Some, None, Result, Ok, Err, refl, sym, ap, ◌∙◌, subst, eqb-true}
use Rattle.std.specs.Prelude.{◌==◌, IfOk}
use Rattle.std.specs.List.{list_any}
use Rattle.std.specs.Option.{ok_or, option_map}
use Rattle.std.proofs.lemmas.Bool.{eqb-false}
use Rattle.std.specs.Ordering.{nat_cmp}
use Rattle.std.specs.FinMap.{find}
use Rattle.nl_types.specs.declared.error.VolError.{VolError}
use Rattle.nl_types.specs.declared.error.VolError.TheVariants as error
use Rattle.nl_types.specs.declared.event.Mode.{Mode}
use Rattle.nl_types.specs.declared.row.Range.{Range}
use Rattle.nl_types.specs.declared.row.Row.{Row}
use Rattle.nl_types.specs.Plain.Calls.{and_then, ok_unless}
use Rattle.nl_types.specs.Plain.Rows.{is_snapshot, find_row, kept_row, reason_to_stay, removal, is_between, rows_between, judged_range, is_no_range, range_removal}
use Rattle.nl_types.specs.Plain.Worlds.{World, Copy, copy_at, latest, copy_row, rows, is_given_up, is_mounted}
use Rattle.nl_types.specs.Facts.Judgements.{and_then_holds}
use Rattle.nl_types.specs.Facts.NumberedLists.{tied-false}
use Rattle.nl_types.specs.Facts.NumberedParts.{tied-true}

-- the row of a number is that of its copy
pub find_row-copies : (copies : List (ℕ × Copy)) (n : ℕ)
    → find_row n (map copy_row copies) ≡ option_map (λ copy. copy_row (n, copy)) (find nat_cmp n copies)
find_row-copies [] n = refl
find_row-copies (c ∷ copies) n =
    let told : Option Copy → Option Row = option_map (λ (copy : Copy). copy_row (n, copy)) in
    elim (c.0 == n) as (λ b.
    (c.0 == n) ≡ b
    → cond b (Some (copy_row c)) (find_row n (map copy_row copies)) ≡ told (find nat_cmp n (c ∷ copies))) [
      | true ↦ λ here.
          let same : c.0 ≡ n = eqb-true c.0 n here in
          ap (λ k. Some (copy_row (k, c.1))) same
          ∙ sym (ap (λ b. told (cond b (Some c.1) (find nat_cmp n copies))) (tied-true n c.0 (sym same)))
      | false ↦ λ other.
          find_row-copies copies n
          ∙ sym (ap (λ b. told (cond b (Some c.1) (find nat_cmp n copies)))
          (tied-false n c.0 (λ same. eqb-false c.0 n other (sym same))))
    ] refl

-- ---- what a judgement says of a copy

-- the row is that of a kept copy
pub record IsTold (w : World) (n : ℕ) (row : Row) : Type 0 where
  pub copy : Copy
  pub kept : copy_at w n ≡ Some copy
  pub row_is : row ≡ copy_row (n, copy)

pub kept_row-told : (w : World) (n : ℕ) → IfOk (kept_row n (rows w)) (IsTold w n)
kept_row-told w n =
    subst (λ o. IfOk (ok_or o error.NoCheckpoint) (IsTold w n)) (sym (find_row-copies w.copies n))
    (by (copy_at w n) refl)
  where
    by : (o : Option Copy) → copy_at w n ≡ o
        → IfOk (ok_or (option_map (λ copy. copy_row (n, copy)) o) error.NoCheckpoint) (IsTold w n)
    by None is = tt
    by (Some copy) is = record { copy = copy; kept = is; row_is = refl }

-- the copy may be given the mode
pub record MayBecome (w : World) (n : ℕ) (mode : Mode) : Type 0 where
  pub copy : Copy
  pub kept : copy_at w n ≡ Some copy
  pub allowed : (is_given_up copy.mode mode && is_mounted w.mounts n) ≡ false

-- the copy may be taken out
pub record MayGo (w : World) (n : ℕ) : Type 0 where
  pub copy : Copy
  pub kept : copy_at w n ≡ Some copy
  pub plain : is_snapshot copy.mode ≡ false
  pub earlier : (n == latest w) ≡ false

pub removal-may_go : (w : World) (n : ℕ) → IfOk (removal n (latest w) (rows w)) (λ _. MayGo w n)
removal-may_go w n =
    and_then_holds (IsTold w n) (λ _. MayGo w n) (kept_row n (rows w)) _ (kept_row-told w n) goes
  where
    by : (copy : Copy) → copy_at w n ≡ Some copy
        → IfOk (ok_unless (reason_to_stay (latest w) (copy_row (n, copy)))) (λ _. MayGo w n)
    by copy kept =
        elim (is_snapshot copy.mode) as (λ s.
        is_snapshot copy.mode ≡ s
        → IfOk (ok_unless (cond s (Some error.IsSnapshot) (cond (n == latest w) (Some error.Latest) None)))
        (λ _. MayGo w n)) [
          | true ↦ λ _. tt
          | false ↦
              λ plain.
              elim (n == latest w) as (λ t.
              (n == latest w) ≡ t → IfOk (ok_unless (cond t (Some error.Latest) None)) (λ _. MayGo w n)) [
                | true ↦ λ _. tt
                | false ↦ λ earlier. record { copy = copy; kept = kept; plain = plain; earlier = earlier }
              ] refl
        ] refl

    goes : (row : Row) → IsTold w n row → IfOk (ok_unless (reason_to_stay (latest w) row)) (λ _. MayGo w n)
    goes row told =
        subst (λ (r : Row). IfOk (ok_unless (reason_to_stay (latest w) r)) (λ _. MayGo w n)) (sym told.row_is)
        (by told.copy told.kept)

-- and such a copy is judged so
pub may_go-removal : (w : World) (n : ℕ) → MayGo w n → removal n (latest w) (rows w) ≡ Ok tt
may_go-removal w n may =
    ap (λ o. and_then (ok_or o error.NoCheckpoint) (λ row. ok_unless (reason_to_stay (latest w) row)))
    (find_row-copies w.copies n ∙ ap (option_map (λ copy. copy_row (n, copy))) may.kept)
    ∙ ap (λ s. ok_unless (cond s (Some error.IsSnapshot) (cond (n == latest w) (Some error.Latest) None)))
    may.plain
    ∙ ap (λ t. ok_unless (cond t (Some error.Latest) None)) may.earlier

-- what becomes of a range that is not refused
abbrev pub range_of : World → (first last : ℕ) → Range
range_of w first last = judged_range (latest w) (rows_between first last (rows w))

pub range_removal-is : (w : World) (first last : ℕ)
    → IfOk (range_removal first last (latest w) (rows w)) (λ range. range ≡ range_of w first last)
range_removal-is w first last =
    let answer : Result Range VolError = Ok (range_of w first last) in
    let none = not (list_any (is_between first last) (rows w)) in
    elim (is_no_range first last) as (λ b.
    IfOk (cond b (Err error.BadRange) (cond none (Err error.NoCheckpoint) answer))
    (λ range. range ≡ range_of w first last)) [
      | true ↦ tt
      | false ↦
          elim none as (λ b.
          IfOk (cond b (Err error.NoCheckpoint) answer) (λ range. range ≡ range_of w first last)) [
            | true ↦ tt
            | false ↦ refl
          ]
    ]
