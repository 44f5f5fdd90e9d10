-- How many payload blocks logs take: log by log, what they take is what there is room for.
use Rattle.std.proofs.Common.{◌≡◌, ℕ, zero, suc, ◌+◌, ◌-◌, ◌*◌, ◌<◌, ◌≤◌, ◌⊎◌, min, Bool, true, false, List, [], ◌∷◌, length, Option, None, Some, refl, ap, sym, arith, inl, inr, subst}
use Rattle.std.proofs.lemmas.Bool.{cases_lt, leb-false}
use Rattle.std.proofs.Math.Nat.{suc-mul}
use Rattle.nl_types.specs.declared.segment.Log.{Log}
use Rattle.nl_types.specs.declared.segment.Position.{Position}
use Rattle.nl_types.specs.Blocks.Placing.{GoOn, has_room, place_behind}
use Rattle.nl_types.specs.Facts.GoingOn.{fill, log_at}
use Rattle.nl_sufile.specs.Private.NextPlace.{IsNextPlace, IsNowhere}
use Rattle.nl_sufile.specs.Private.Room.{payload_in, payload_left, room_in}
use Rattle.nl_sufile.specs.Room.{HasRoomOn}
use Rattle.nl_sufile.proofs.NextLog.{go_next, go_on_nil, next_fits, next_step, nowhere_on}

-- a log takes 30 payload blocks or what is left of its segment, and the rest go behind it
pub payload_by_log : (blocks : ℕ) → 2 ≤ blocks
    → payload_in blocks ≡ min 30 (blocks - 1) + payload_in (blocks - 1 - min 30 (blocks - 1))
payload_by_log blocks two = omega arith

pub payload_few : (blocks : ℕ) → payload_in blocks ≤ blocks
payload_few blocks = omega arith

-- no log goes into fewer than two blocks
pub payload_none : (blocks : ℕ) → blocks < 2 → payload_in blocks ≡ 0
payload_none blocks few = omega arith

-- ---- the next place

-- the place behind the log that takes so many payload blocks, or all that go there
abbrev pub place_after : ℕ → Position → ℕ → Position
place_after blocks place n = place_behind (log_at place (fill blocks place n))

-- where the next log begins
pub record NextPlace (blocks : ℕ) (left : Option Position) (free : List ℕ) : Type 0 where
  pub place : Position
  pub others : List ℕ
  pub is_next : IsNextPlace (has_room blocks left) blocks left free place others

next_or_none : (b : Bool) (blocks : ℕ) (left : Option Position) (free : List ℕ) → has_room blocks left ≡ b
    → NextPlace blocks left free ⊎ IsNowhere blocks left free
next_or_none true blocks None free room = absurd (cc)
next_or_none true blocks (Some place) free room = inl (record {
  place = place;
  others = free;
  is_next =
      subst (λ (b : Bool). IsNextPlace b blocks (Some place) free place free) (sym room)
      (record { room = room; there = refl; same = refl });
})
next_or_none false blocks left [] room = inr (record { room = room; none_free = refl })
next_or_none false blocks left (segment ∷ free) room = inl (record {
  place = record { segment = segment; block = 0 };
  others = free;
  is_next =
      subst
      (λ (b : Bool).
      IsNextPlace b blocks left (segment ∷ free) (record { segment = segment; block = 0 }) free)
      (sym room)
      (record { room = room; segment = refl; block = refl });
})

pub find_next : (blocks : ℕ) (left : Option Position) (free : List ℕ)
    → NextPlace blocks left free ⊎ IsNowhere blocks left free
find_next blocks left free = next_or_none (has_room blocks left) blocks left free refl

-- ---- what there is room for

-- a place without room has no payload blocks behind it
left_none : (blocks : ℕ) (left : Option Position) → has_room blocks left ≡ false → payload_left blocks left ≡ 0
left_none blocks None room = refl
left_none blocks (Some place) room =
    payload_none (blocks - place.block) (let short = leb-false (place.block + 2) blocks room in omega (arith, short))

nowhere_none : (blocks : ℕ) (left : Option Position) (free : List ℕ) → IsNowhere blocks left free
    → room_in blocks left free ≡ 0
nowhere_none blocks left free nowhere = rw (left_none blocks left nowhere.room, nowhere.none_free) (omega arith)

-- from the place on, and then in the other free segments
abbrev room_at : ℕ → Position → List ℕ → ℕ
room_at blocks place others = payload_in (blocks - place.block) + length others * payload_in blocks

room_from_next : (b : Bool) (blocks : ℕ) (left : Option Position) (free : List ℕ) (place : Position)
    (others : List ℕ)
    → has_room blocks left ≡ b → IsNextPlace b blocks left free place others
    → room_in blocks left free ≡ room_at blocks place others
room_from_next true blocks left free place others room next = rw (next.there, next.same) refl
room_from_next false blocks left free place others room next =
    rw (left_none blocks left room, next.segment, next.block)
    (omega (arith, suc-mul (length others) (payload_in blocks)))

-- ---- log by log

-- how many payload blocks the longest log at a place has
abbrev longest : ℕ → Position → ℕ
longest blocks place = min 30 (blocks - place.block - 1)

room_after_longest : (blocks : ℕ) (place : Position) (others : List ℕ) (n : ℕ) → place.block + 2 ≤ blocks
    → longest blocks place ≤ n
    → room_at blocks place others
    ≡ longest blocks place + room_in blocks (Some (place_after blocks place n)) others
room_after_longest blocks place others n fits most =
    let whole = payload_by_log (blocks - place.block) (omega arith) in
    let behind : blocks - place.block - 1 - min 30 (blocks - place.block - 1)
    ≡ blocks - (place.block + 1 + fill blocks place n)
    = omega (arith, most) in
    let same : payload_in (blocks - place.block - 1 - min 30 (blocks - place.block - 1))
    ≡ payload_in (blocks - (place.block + 1 + fill blocks place n))
    = ap payload_in behind in
    omega (arith, whole, same)

longest_fits : (blocks : ℕ) (place : Position) (others : List ℕ) → place.block + 2 ≤ blocks
    → longest blocks place ≤ room_at blocks place others
longest_fits blocks place others fits =
    omega (arith, payload_by_log (blocks - place.block) (omega arith))

-- where there is room for all, there is room for the rest behind the next log
rest_fits : (blocks : ℕ) (place : Position) (others : List ℕ) (n : ℕ) → place.block + 2 ≤ blocks
    → n ≤ room_at blocks place others
    → n - fill blocks place n ≤ room_in blocks (Some (place_after blocks place n)) others
rest_fits blocks place others n fits enough = elim (cases_lt n (longest blocks place)) [
  | inl short ↦ omega (arith, short)
  | inr long ↦ omega (arith, long, room_after_longest blocks place others n fits (omega (arith, long)))
]

-- and the other way round
rest_tells : (blocks : ℕ) (place : Position) (others : List ℕ) (n : ℕ) → place.block + 2 ≤ blocks
    → n - fill blocks place n ≤ room_in blocks (Some (place_after blocks place n)) others
    → n ≤ room_at blocks place others
rest_tells blocks place others n fits enough = elim (cases_lt n (longest blocks place)) [
  | inl short ↦ omega (arith, short, longest_fits blocks place others fits)
  | inr long ↦ omega (arith, long, room_after_longest blocks place others n fits (omega (arith, long)))
]

-- ---- all logs

-- what goes on behind the next log is fewer, and the place behind it is in its segment
record Fewer (blocks : ℕ) (place : Position) (n : ℕ) : Type 0 where
  fewer : n - fill blocks place n < n
  inside : place.block + 1 + fill blocks place n ≤ blocks

goes_fewer : (blocks : ℕ) (place : Position) (n : ℕ) → place.block + 2 ≤ blocks → 0 < n → Fewer blocks place n
goes_fewer blocks place n fits some = record { fewer = omega arith; inside = omega arith }

logs_fit : (fuel blocks : ℕ) (left : Option Position) (free : List ℕ) (n : ℕ) → n ≤ fuel → 2 ≤ blocks
    → n ≤ room_in blocks left free → (logs : List Log) × GoOn blocks left free n logs
logs_fit zero blocks left free n few two enough =
    ([], go_on_nil blocks left free n (omega (arith, few)))
logs_fit (suc fuel) blocks left free n few two enough = elim (cases_lt 0 n) [
  | inl some ↦ elim (find_next blocks left free) [
    | inl next ↦
        let fits = next_fits _ blocks left free next.place next.others refl next.is_next two in
        let room = room_from_next _ blocks left free next.place next.others refl next.is_next in
        let less = goes_fewer blocks next.place n fits some in
        let rest =
        logs_fit fuel blocks
        (Some (place_after blocks next.place n)) next.others (n - fill blocks next.place n)
        (omega (arith, few, less.fewer)) two
        (rest_fits blocks next.place next.others n fits (omega (arith, enough, room))) in (
          log_at next.place (fill blocks next.place n) ∷ rest.0,
          go_next _ blocks left free next.place next.others n rest.0 refl next.is_next some two rest.1,
        )
    | inr nowhere ↦ absurd (omega (arith, some, enough, nowhere_none blocks left free nowhere))
  ]
  | inr none ↦ ([], go_on_nil blocks left free n (omega (arith, none)))
]

room_enough : (fuel blocks : ℕ) (left : Option Position) (free : List ℕ) (n : ℕ) (logs : List Log) → n ≤ fuel
    → 2 ≤ blocks
    → GoOn blocks left free n logs → n ≤ room_in blocks left free
room_enough zero blocks left free n logs few two goes = omega (arith, few)
room_enough (suc fuel) blocks left free n logs few two goes = elim (cases_lt 0 n) [
  | inl some ↦ elim (find_next blocks left free) [
    | inl next ↦
        let fits = next_fits _ blocks left free next.place next.others refl next.is_next two in
        let room = room_from_next _ blocks left free next.place next.others refl next.is_next in
        let less = goes_fewer blocks next.place n fits some in
        let step = next_step _ blocks left free next.place next.others n logs refl next.is_next some goes in
        let rest =
        room_enough fuel blocks
        (Some (place_after blocks next.place n)) next.others (n - fill blocks next.place n) step.rest
        (omega (arith, few, less.fewer)) two step.goes_on in
        omega (arith, rest_tells blocks next.place next.others n fits rest, room)
    | inr nowhere ↦ absurd (nowhere_on blocks left free n logs nowhere some goes)
  ]
  | inr none ↦ omega (arith, none)
]

pub has-room-on : (blocks : ℕ) (left : Option Position) (free : List ℕ) (most : ℕ) → 2 ≤ blocks
    → most ≡ room_in blocks left free → HasRoomOn blocks left free most
has-room-on blocks left free most two is = record {
  fits = λ n enough. logs_fit n blocks left free n (omega arith) two (omega (arith, enough, is));
  lacks = λ n over logs goes.
      let enough = room_enough n blocks left free n logs (omega arith) two goes in omega (arith, over, enough, is);
}
