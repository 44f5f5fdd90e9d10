-- How many records bytes hold.
use Rattle.std.proofs.Common.{◌≡◌, ℕ, ◌+◌, ◌≤◌, List, [], ◌∷◌, length, ap, subst, arith}
use Rattle.nl_dirs.specs.declared.record.Record.{Record}
use Rattle.nl_dirs.specs.Records.{AreBytes, Begins, BeginsNone, HoldsList}
use Rattle.nl_dirs.proofs.Holding.{HoldsList-more, HoldsList-none, length-Begins, small_behind}

-- so many records of the page stand before the rest, and each takes a byte or more
pub record IsCounted (page : List ℕ) (count : ℕ) (rest : List ℕ) : Type 0 where
  pub small : AreBytes rest
  pub room : count + length rest ≤ length page
  pub leads : (records : List Record) → HoldsList rest records
      → (all : List Record) × HoldsList page all × (length all ≡ count + length records)

pub counted_none : (page rest : List ℕ) → AreBytes rest → rest ≡ page → IsCounted page 0 rest
counted_none page rest small e = record {
  small = small;
  room = omega (arith, ap length e);
  leads = λ records holds.
      (records, subst (λ (bytes : List ℕ). HoldsList bytes records) e holds, omega arith);
}

pub counted_more : (page rest behind : List ℕ) (count : ℕ) (r : Record) → IsCounted page count rest
    → Begins rest r behind → IsCounted page (count + 1) behind
counted_more page rest behind count r earlier begins = record {
  small = small_behind rest behind r begins earlier.small;
  room = let room = earlier.room in omega (arith, room, length-Begins rest behind r begins);
  leads = λ records holds.
      let found = earlier.leads (r ∷ records) (HoldsList-more rest behind r records begins holds) in
      let count_is : length found.0 ≡ count + 1 + length records = let e = found.2 in omega (arith, e) in
      (found.0, found.1, count_is);
}

pub all_counted : (page rest : List ℕ) (count : ℕ) → IsCounted page count rest → BeginsNone rest
    → (records : List Record) × HoldsList page records × (count ≡ length records)
all_counted page rest count earlier none =
    let found = earlier.leads [] (HoldsList-none rest none) in
    (found.0, found.1, (let e = found.2 in omega (arith, e)))
