-- A first checkpoint has space: in clean segments its blocks fit one log.
use Rattle.std.proofs.Common.{◌≡◌, ℕ, zero, suc, ◌-◌, ◌≤◌, List, [], ◌∷◌, length, take, replicate, Option, None, refl, ap, sym, subst, arith}
use Rattle.std.specs.Prelude.{true}
use Rattle.nl_types.specs.declared.geometry.Geometry.{Geometry}
use Rattle.nl_types.specs.declared.segment.Log.{Log}
use Rattle.nl_types.specs.declared.segment.Position.{Position}
use Rattle.nl_types.specs.declared.segment.SegmentInfo.{SegmentInfo}
use Rattle.nl_types.specs.Blocks.Placing.{GoOn, LogsFit}
use Rattle.nl_types.specs.Blocks.Segments.{active_from, clean_from, clean_info, free_segments}
use Rattle.nl_sufile.specs.Table.{all_clean}

-- what is known of so many segments that are clean
abbrev clean : ℕ → List SegmentInfo
clean count = replicate count clean_info

none-active : (count i : ℕ) → active_from i (clean count) ≡ None
none-active zero i = refl
none-active (suc count) i = none-active count (suc i)

count-clean : (count i : ℕ) → length (clean_from i (clean count)) ≡ count
count-clean zero i = refl
count-clean (suc count) i = ap (λ n. suc n) (count-clean count (suc i))

-- segment 0 may be taken where two other clean ones are left
first-free : (count : ℕ) → 3 ≤ count
    → (free : List ℕ)
    × (take (length (clean_from 0 (clean count)) - 2) (clean_from 0 (clean count)) ≡ 0 ∷ free)
first-free zero low = absurd (omega (arith, low))
first-free (suc count) low =
    let left : suc (length (clean_from 1 (clean count))) - 2 ≡ suc (count - 2) =
    omega (arith, low, count-clean count 1) in
    (take (count - 2) (clean_from 1 (clean count)), ap (λ n. take n (0 ∷ clean_from 1 (clean count))) left)

-- no block takes no log, and one or two take one
one-log : (blocks : ℕ) (free : List ℕ) (n : ℕ) → 4 ≤ blocks → n ≤ 2
    → (logs : List Log) × GoOn blocks None (0 ∷ free) n logs
one-log blocks free zero room few =
    ([], record { each = tt; total = refl; filled = tt; in_row = tt; taken = tt })
one-log blocks free (suc n) room few =
    let log : Log = record { segment = 0; first = 0; count = suc n } in (
      log ∷ [],
      record {
        each =
            (record { some = omega arith; most = omega (arith, few); inside = omega (arith, room, few) }, tt);
        total = omega arith;
        filled = tt;
        in_row = (refl, tt);
        taken = (refl, tt);
      },
    )

pub first_logs : (g : Geometry) (n : ℕ) → n ≤ 2 → (logs : List Log) × LogsFit (all_clean g) true n logs
first_logs g n few =
    let enough = g.least_segments in
    let free = first-free g.segments (omega (arith, enough)) in
    let one = one-log g.blocks free.0 n g.least_blocks few in (
      one.0,
      subst (λ (left : Option Position). GoOn g.blocks left (free_segments true (all_clean g)) n one.0)
          (sym (none-active g.segments 0))
          (subst (λ (segments : List ℕ). GoOn g.blocks None segments n one.0) (sym free.1) one.1),
    )
