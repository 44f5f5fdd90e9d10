-- What a commit that may come next has, and the modes that a refused change leaves.
use Rattle.std.proofs.Common.{◌≡◌, ℕ, ◌==◌, Bool, true, false, cond, List, [], ◌∷◌, ◌++◌, map, Option, None, Some, refl, ap, sym, ◌∙◌}
use Rattle.std.specs.Prelude.{Result, Ok, Err, OnOk, OnErr}
use Rattle.std.specs.Option.{ok_or}
use Rattle.nl_types.specs.Plain.Calls.{and_then}
use Rattle.nl_types.specs.Plain.Rows.{find_row, mode_change}
use Rattle.nl_types.specs.declared.error.VolError.{VolError}
use Rattle.nl_types.specs.declared.error.VolError.TheVariants.{NoCheckpoint}
use Rattle.nl_types.specs.declared.event.Mode.{Mode}
use Rattle.nl_types.specs.declared.row.Row.{Row}
use Rattle.nl_cpfile.specs.Tables.{ComesNext, IsRising, Precedes, RoomyTable, Table, moded, checkpoint_row, rows, rows_of, with_mode}
use Rattle.nl_cpfile.specs.declared.checkpoint.Checkpoint.{Checkpoint}
use Rattle.nl_commit.specs.Commits.{IsNext}
use Rattle.nl_commit.specs.Shown.{Shown}
use Rattle.nl_commit.specs.declared.commit.Commit.TheVariants.{Written}
use Rattle.nl_commit.specs.declared.commit.Written.{Written as NewCheckpoint}

-- ---- checkpoints that come next

-- of a list that rises the last two rise
last_precedes : (earlier : List Checkpoint) (a b : Checkpoint) → IsRising ((earlier ++ a ∷ []) ++ b ∷ [])
    → Precedes a b
last_precedes [] a b rising = rising.0.0
last_precedes (c ∷ earlier) a b rising = last_precedes earlier a b rising.1

-- the checkpoint of a commit that may come next can be kept behind the others
pub written-comes_next : (x : Shown) (w : NewCheckpoint) → IsNext x (Written w)
    → ComesNext w.checkpoint x.table
written-comes_next x w next = record {
  follows = last_precedes x.table.earlier x.table.latest w.checkpoint next.state.table.rising;
  limit = next.state.table.limit;
}

-- ---- modes

moded-other : (n : ℕ) (mode : Mode) (c : Checkpoint) → (c.number == n) ≡ false → moded n mode c ≡ c
moded-other n mode c other = ap (λ b. (let d : Checkpoint = cond b (record c { mode = mode }) c in d)) other

-- nothing is found, so not at the head and not behind it
none_found : {A : Type 0} (here : Bool) (x : A) (later : Option A) → cond here (Some x) later ≡ None
    → (here ≡ false) × (later ≡ None)
none_found true x later none = absurd (cc none)
none_found false x later none = (refl, none)

same_items : {A : Type 0} {x y : A} {xs ys : List A} → x ≡ y → xs ≡ ys → x ∷ xs ≡ y ∷ ys
same_items p q = cc

-- none of the checkpoints has the number
same_modes : (n : ℕ) (mode : Mode) (earlier : List Checkpoint) (latest : Checkpoint)
    → find_row n (rows_of (earlier ++ latest ∷ [])) ≡ None
    → (map (moded n mode) earlier ≡ earlier) × (moded n mode latest ≡ latest)
same_modes n mode [] latest none =
    (refl, moded-other n mode latest (none_found (latest.number == n) (checkpoint_row latest) None none).0)
same_modes n mode (c ∷ earlier) latest none =
    let head =
    none_found (c.number == n) (checkpoint_row c) (find_row n (rows_of (earlier ++ latest ∷ []))) none in
    let rest = same_modes n mode earlier latest head.1 in
    (same_items (moded-other n mode c head.0) rest.0, rest.1)

no_row : (row : Option Row) (e : VolError)
    → and_then {B = Unit {0}} (ok_or row NoCheckpoint) (λ _. Ok tt) ≡ Err e → row ≡ None
no_row None e refused = refl
no_row (Some row) e refused = absurd (cc refused)

-- the mode of a checkpoint that isn't kept changes nothing
with_mode-refused : (n : ℕ) (mode : Mode) (t : Table) (e : VolError) → mode_change n (rows t) ≡ Err e
    → with_mode n mode t ≡ t
with_mode-refused n mode t e refused =
    let same = same_modes n mode t.earlier t.latest (no_row (find_row n (rows t)) e refused) in
    rw (same.0, same.1) refl

-- so a mode is set, whatever is answered
pub with_mode-answered : (answer : Result (Unit {0}) VolError) (n : ℕ) (mode : Mode) (old new : RoomyTable)
    → answer ≡ mode_change n (rows old.table)
    → OnOk answer (new.table ≡ with_mode n mode old.table) → OnErr answer (new ≡ old)
    → new.table ≡ with_mode n mode old.table
with_mode-answered (Ok done) n mode old new judged changed same = changed
with_mode-answered (Err e) n mode old new judged changed same =
    ap (λ (r : RoomyTable). r.table) same ∙ sym (with_mode-refused n mode old.table e (sym judged))
