-- What is told of a checkpoint that is looked up.
use Rattle.std.proofs.Common.{◌≡◌, ◌≢◌, ◌<◌, ℕ, Bool, eqb, cond, true, false, List, [], ◌∷◌, ◌++◌, Option, None, Some, refl, sym, ap, ◌∙◌, arith}
use Rattle.std.specs.Prelude.{Ok, Err}
use Rattle.std.specs.Option.{ok_or, option_map}
use Rattle.std.proofs.lemmas.Bool.{eqb-false, eqb-true, ne_eqb}
use Rattle.nl_types.specs.Plain.Calls.{and_then, ok_unless}
use Rattle.nl_types.specs.Plain.Rows.{is_snapshot}
use Rattle.nl_types.specs.declared.error.VolError.{VolError}
use Rattle.nl_types.specs.declared.error.VolError.TheVariants.{IsSnapshot, Latest, NoCheckpoint}
use Rattle.nl_cpfile.specs.declared.checkpoint.Checkpoint.{Checkpoint}
use Rattle.nl_types.specs.Plain.Rows.{find_row, kept_row, mode_change, reason_to_stay, removal}
use Rattle.nl_cpfile.specs.Tables.{IsRising, IsTable, Precedes, Table, all, kept_at, checkpoint_row, rows, rows_of}
use Rattle.nl_cpfile.specs.Facts.Found.{found, found-here, found-later, eq_by_cmp-nat_cmp}
use Rattle.nl_cpfile.specs.Facts.Rising.{All-last}

-- the row of a number is that of its checkpoint
pub find_row-found : (n : ℕ) (kept : List Checkpoint)
    → find_row n (rows_of kept) ≡ option_map checkpoint_row (found n kept)
find_row-found n [] = refl
find_row-found n (c ∷ kept) =
    elim (eqb c.number n) as (λ b.
    eqb c.number n ≡ b
    → cond b (Some (checkpoint_row c)) (find_row n (rows_of kept))
    ≡ option_map checkpoint_row (found n (c ∷ kept))) [
      | true ↦
          λ e.
          sym (ap (λ b. option_map checkpoint_row (cond b (Some c) (found n kept)))
          (eq_by_cmp-nat_cmp n c.number ∙ e))
      | false ↦
          λ e.
          find_row-found n kept
          ∙ sym (ap (λ b. option_map checkpoint_row (cond b (Some c) (found n kept)))
          (eq_by_cmp-nat_cmp n c.number ∙ e))
    ] refl

pub kept_row-kept : (n : ℕ) (t : Table) (o : Option Checkpoint) → kept_at n t ≡ o
    → kept_row n (rows t) ≡ ok_or (option_map checkpoint_row o) NoCheckpoint
kept_row-kept n t o is =
    ap (λ r. ok_or r NoCheckpoint) (find_row-found n (all t) ∙ ap (option_map checkpoint_row) is)

pub mode_change-kept : (n : ℕ) (t : Table) (c : Checkpoint) → kept_at n t ≡ Some c
    → Ok tt ≡ mode_change n (rows t)
mode_change-kept n t c is = sym (ap (λ r. and_then r (λ _. Ok tt)) (kept_row-kept n t (Some c) is))

pub mode_change-none : (n : ℕ) (t : Table) → kept_at n t ≡ None → Err NoCheckpoint ≡ mode_change n (rows t)
mode_change-none n t is = sym (ap (λ r. and_then r (λ _. Ok tt)) (kept_row-kept n t None is))

pub removal-kept : (n : ℕ) (t : Table) (c : Checkpoint) (reason : Option VolError) → kept_at n t ≡ Some c
    → reason_to_stay t.latest.number (checkpoint_row c) ≡ reason
    → ok_unless reason ≡ removal n t.latest.number (rows t)
removal-kept n t c reason is why =
    sym (ap (λ r. and_then r (λ row. ok_unless (reason_to_stay t.latest.number row)))
    (kept_row-kept n t (Some c) is)
    ∙ ap ok_unless why)

pub removal-none : (n : ℕ) (t : Table) → kept_at n t ≡ None
    → Err NoCheckpoint ≡ removal n t.latest.number (rows t)
removal-none n t is =
    sym (ap (λ r. and_then r (λ row. ok_unless (reason_to_stay t.latest.number row)))
    (kept_row-kept n t None is))

-- ---- why a checkpoint stays

pub reason-is : (t : Table) (latest c : Checkpoint) (reason : Option VolError) → latest ≡ t.latest
    → reason ≡ reason_to_stay latest.number (checkpoint_row c)
    → reason_to_stay t.latest.number (checkpoint_row c) ≡ reason
reason-is t latest c reason same is =
    sym (is ∙ ap (λ (x : Checkpoint). reason_to_stay x.number (checkpoint_row c)) same)

-- ---- a checkpoint that may go

-- what is found has the number
found-number : (n : ℕ) (kept : List Checkpoint) (c : Checkpoint) → found n kept ≡ Some c → c.number ≡ n
found-number n [] c at = cc
found-number n (x ∷ kept) c at = by (eqb x.number n) refl (found-number n kept c)
  where
    by : (b : Bool) → eqb x.number n ≡ b → (found n kept ≡ Some c → c.number ≡ n) → c.number ≡ n
    by true here rest =
        let number = eqb-true x.number n here in
        let one : Some x ≡ Some c = sym (found-here n x kept number) ∙ at in
        cc
    by false apart rest = rest (sym (found-later n x kept (eqb-false x.number n apart)) ∙ at)

-- and lies below the last one, where that has another
found-low : (n : ℕ) (earlier : List Checkpoint) (latest c : Checkpoint) → IsRising (earlier ++ latest ∷ [])
    → found n (earlier ++ latest ∷ []) ≡ Some c → latest.number ≢ n
    → n < latest.number
found-low n [] latest c rising at other =
    let none : None ≡ Some c = sym (found-later n latest [] other) ∙ at in
    cc
found-low n (x ∷ earlier) latest c rising at other =
    by (eqb x.number n) refl (λ later. found-low n earlier latest c rising.1 later other)
  where
    by : (b : Bool) → eqb x.number n ≡ b → (found n (earlier ++ latest ∷ []) ≡ Some c → n < latest.number)
        → n < latest.number
    by true here rest =
        let number = eqb-true x.number n here in
        let up = (All-last (Precedes x) earlier latest rising.0).number in
        omega (arith, number, up)
    by false apart rest =
        rest (sym (found-later n x (earlier ++ latest ∷ []) (eqb-false x.number n apart)) ∙ at)

no_latest : (s b : Bool) → cond s (Some IsSnapshot) (cond b (Some Latest) None) ≡ None → b ≡ false
no_latest true b none = cc
no_latest false true none = cc
no_latest false false none = refl

-- the latest one stays
module _ (t : Table) (is : IsTable t) (n : ℕ) (c : Checkpoint) (at : kept_at n t ≡ Some c)
    (goes : reason_to_stay t.latest.number (checkpoint_row c) ≡ None) where
  not-latest : t.latest.number ≢ n
  not-latest same =
      let other = no_latest (is_snapshot c.mode) (eqb c.number t.latest.number) goes in
      eqb-false c.number t.latest.number other (found-number n (all t) c at ∙ sym same)

  pub going-apart : eqb t.latest.number n ≡ false
  going-apart = ne_eqb t.latest.number n not-latest

  pub going-low : n < t.latest.number
  going-low = found-low n t.earlier t.latest c is.rising at not-latest
