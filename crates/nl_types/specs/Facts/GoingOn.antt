-- The first log of a list is determined, and the rest goes on from it: so at most one list fits.
use Rattle.std.proofs.Common.{◌≡◌, ℕ, ◌+◌, ◌-◌, ◌<◌, ◌≤◌, ◌⊎◌, min, Bool, true, false, MatchBool, List, [], ◌∷◌, Option, None, Some, refl, ap, sym, ◌∙◌, arith, inl, inr, subst}
use Rattle.std.specs.List.{AllByRecursion}
use Rattle.std.proofs.lemmas.Bool.{cases_lt}
use Rattle.nl_types.specs.declared.segment.Log.{Log}
use Rattle.nl_types.specs.declared.segment.Position.{Position}
use Rattle.nl_types.specs.Blocks.Placing.{start_of, place_behind, payload_count, IsLog, AreFilled, has_room, AreInRow, taken_segments, IsFront, GoOn}

-- the log of so many payload blocks at a place
abbrev pub log_at : Position → ℕ → Log
log_at place count = record { segment = place.segment; first = place.block; count = count }

-- how many of n payload blocks a log at a place takes
abbrev pub fill : ℕ → Position → ℕ → ℕ
fill blocks place n = min n (min 30 (blocks - place.block - 1))

-- all is a log at a place, and the rest, which goes on from it
pub record Step (blocks : ℕ) (place : Position) (free : List ℕ) (n : ℕ) (all : List Log) : Type 0 where
  pub rest : List Log
  pub same : all ≡ log_at place (fill blocks place n) ∷ rest
  pub goes_on : GoOn blocks (Some (place_behind (log_at place (fill blocks place n)))) free
      (n - fill blocks place n) rest

-- nothing is left only where there is no log
pub none_left : (blocks : ℕ) (left : Option Position) (free : List ℕ) (all : List Log)
    → GoOn blocks left free 0 all → all ≡ []
none_left blocks left free [] h = refl
none_left blocks left free (log ∷ logs) h = let e = h.each.0.some in absurd (omega (arith, h.total))

-- the rest of a filled list is filled
filled_rest : (blocks : ℕ) (log : Log) (logs : List Log) → AreFilled blocks (log ∷ logs)
    → AreFilled blocks logs
filled_rest blocks log [] h = tt
filled_rest blocks log (next ∷ logs) h = h.1

-- how long the first log is
count_of_first : (blocks n : ℕ) (log : Log) (logs : List Log) → AllByRecursion (IsLog blocks) (log ∷ logs)
    → payload_count (log ∷ logs) ≡ n → AreFilled blocks (log ∷ logs)
    → log.count ≡ min n (min 30 (blocks - log.first - 1))
count_of_first blocks n log [] each total filled =
    let a = each.0 in omega (arith, a.some, a.most, a.inside, total)
count_of_first blocks n log (next ∷ logs) each total filled =
    let a = each.0 in let b = each.1.0 in
    elim (filled.0) [
      | inl e ↦ omega (arith, a.some, a.most, a.inside, b.some, total, e)
      | inr e ↦ omega (arith, a.some, a.most, a.inside, b.some, total, e)
    ]

-- a log by its fields
same_log : (log : Log) (place : Position) (count : ℕ) → log.segment ≡ place.segment → log.first ≡ place.block
    → log.count ≡ count → log ≡ log_at place count
same_log log place count a b c = rw (← a, ← b, ← c) refl

pub match_true : (b : Bool) (P Q : Type 0) → b ≡ true → MatchBool b P Q → P
match_true true P Q e h = h
match_true false P Q e h = absurd (cc)

pub match_false : (b : Bool) (P Q : Type 0) → b ≡ false → MatchBool b P Q → Q
match_false true P Q e h = absurd (cc)
match_false false P Q e h = h

-- what goes on behind the first log, once it is known
step_from : (blocks : ℕ) (place : Position) (free : List ℕ) (n : ℕ) (log : Log) (logs : List Log)
    → AllByRecursion (IsLog blocks) (log ∷ logs) → payload_count (log ∷ logs) ≡ n
    → AreFilled blocks (log ∷ logs)
    → AreInRow blocks (Some (place_behind log)) logs
    → IsFront (taken_segments blocks (Some (place_behind log)) logs) free
    → log.segment ≡ place.segment → log.first ≡ place.block → Step blocks place free n (log ∷ logs)
step_from blocks place free n log logs each total filled in_row taken s f =
    let count : log.count ≡ fill blocks place n =
    rw (← f) (count_of_first blocks n log logs each total filled) in
    let e : log ≡ log_at place (fill blocks place n) = same_log log place _ s f count in
    record {
      rest = logs;
      same = ap (λ x. x ∷ logs) e;
      goes_on = record {
        each = each.1;
        total = omega (arith, count, total);
        filled = filled_rest blocks log logs filled;
        in_row = subst (λ (x : Log). AreInRow blocks (Some (place_behind x)) logs) e in_row;
        taken =
            subst (λ (x : Log). IsFront (taken_segments blocks (Some (place_behind x)) logs) free) e taken;
      };
    }

-- a list that goes on from a place with room begins there
pub step_with_room : (blocks : ℕ) (place : Position) (free : List ℕ) (n : ℕ) (all : List Log)
    → has_room blocks (Some place) ≡ true → 0 < n
    → GoOn blocks (Some place) free n all → Step blocks place free n all
step_with_room blocks place free n [] room some h = absurd (omega (arith, h.total))
step_with_room blocks place free n (log ∷ logs) room some h =
    let there : Some place ≡ Some (start_of log) = match_true _ _ _ room h.in_row.0 in
    let same : place ≡ start_of log = cc in
    step_from blocks place free n log logs h.each h.total h.filled h.in_row.1 (rw room at h.taken)
    (ap (λ p. p.segment) (sym same)) (ap (λ p. p.block) (sym same))

-- a list that goes on with no room takes the first free segment
pub step_without_room : (blocks : ℕ) (left : Option Position) (segment : ℕ) (free : List ℕ) (n : ℕ)
    (all : List Log)
    → has_room blocks left ≡ false → 0 < n
    → GoOn blocks left (segment ∷ free) n all
    → Step blocks (record { segment = segment; block = 0 }) free n all
step_without_room blocks left segment free n [] room some h = absurd (omega (arith, h.total))
step_without_room blocks left segment free n (log ∷ logs) room some h =
    let first : log.first ≡ 0 = match_false _ _ _ room h.in_row.0 in
    let taken = rw room at h.taken in
    step_from blocks
    (record { segment = segment; block = 0 }) free n log logs h.each h.total h.filled h.in_row.1 taken.1
    taken.0 first

-- with no room and no free segment nothing goes on
pub no_step : (blocks : ℕ) (left : Option Position) (n : ℕ) (all : List Log) → has_room blocks left ≡ false
    → 0 < n → GoOn blocks left [] n all → ⊥
no_step blocks left n [] room some h = omega (arith, h.total)
no_step blocks left n (log ∷ logs) room some h = rw room at h.taken

filled_on : (blocks : ℕ) (log : Log) (n : ℕ) (rest : List Log)
    → log.count ≡ min n (min 30 (blocks - log.first - 1)) → log.first + 2 ≤ blocks
    → AllByRecursion (IsLog blocks) rest → payload_count rest ≡ n - log.count → AreFilled blocks rest
    → AreFilled blocks (log ∷ rest)
filled_on blocks log n [] c room each total filled = tt
filled_on blocks log n (next ∷ rest) c room each total filled =
    let some = each.0.some in
    let full : (log.count ≡ 30) ⊎ (log.first + 1 + log.count ≡ blocks) =
    elim (cases_lt (blocks - log.first - 1) 30) [
      | inl short ↦ inr (omega (arith, short, some, c, room, total))
      | inr long ↦ inl (omega (arith, long, some, c, room, total))
    ] in
    (full, filled)

is_log : (blocks : ℕ) (place : Position) (n : ℕ) → place.block + 2 ≤ blocks → 0 < n
    → IsLog blocks (log_at place (fill blocks place n))
is_log blocks place n room some = record { some = omega arith; most = omega arith; inside = omega arith }

-- and the other way round
pub go_on_with_room : (blocks : ℕ) (place : Position) (free : List ℕ) (n : ℕ) (rest : List Log)
    → has_room blocks (Some place) ≡ true → place.block + 2 ≤ blocks → 0 < n
    → GoOn blocks (Some (place_behind (log_at place (fill blocks place n)))) free
    (n - fill blocks place n) rest
    → GoOn blocks (Some place) free n (log_at place (fill blocks place n) ∷ rest)
go_on_with_room blocks place free n rest room fits some h = record {
  each = (is_log blocks place n fits some, h.each);
  total = omega (arith, h.total);
  filled = filled_on blocks (log_at place (fill blocks place n)) n rest refl fits h.each h.total h.filled;
  in_row = (rw room refl, h.in_row);
  taken = rw room h.taken;
}

pub go_on_without_room : (blocks : ℕ) (left : Option Position) (segment : ℕ) (free : List ℕ) (n : ℕ)
    (rest : List Log)
    → has_room blocks left ≡ false → 2 ≤ blocks → 0 < n
    → (let place : Position = record { segment = segment; block = 0 } in
    GoOn blocks (Some (place_behind (log_at place (fill blocks place n)))) free
    (n - fill blocks place n) rest)
    → (let place : Position = record { segment = segment; block = 0 } in
    GoOn blocks left (segment ∷ free) n (log_at place (fill blocks place n) ∷ rest))
go_on_without_room blocks left segment free n rest room fits some h = record {
  each = (is_log blocks (record { segment = segment; block = 0 }) n fits some, h.each);
  total = omega (arith, h.total);
  filled =
      filled_on blocks
      (log_at (record { segment = segment; block = 0 })
      (fill blocks (record { segment = segment; block = 0 }) n))
      n rest refl fits h.each h.total h.filled;
  in_row = (rw room refl, h.in_row);
  taken = rw room (refl, h.taken);
}

-- two lists that begin with the same log, and go on from it, are one
both : (a : List Log) (blocks : ℕ) (place : Position) (free : List ℕ) (n : ℕ) (x : Log) (b : List Log)
    → ((blocks : ℕ) (left : Option Position) (free : List ℕ) (n : ℕ) (b : List Log)
    → GoOn blocks left free n a → GoOn blocks left free n b → a ≡ b)
    → Step blocks place free n (x ∷ a) → Step blocks place free n b → x ∷ a ≡ b
both a blocks place free n x b more s t =
    let e : a ≡ s.rest = cc (s.same) in
    let h : GoOn blocks (Some (place_behind (log_at place (fill blocks place n)))) free
    (n - fill blocks place n) a =
    rw e s.goes_on in
    s.same
    ∙ ap (λ (l : List Log). log_at place (fill blocks place n) ∷ l) (sym e ∙ more _ _ _ _ t.rest h t.goes_on)
    ∙ sym t.same

pub test_cases : (b : Bool) → (b ≡ true) ⊎ (b ≡ false)
test_cases true = inl refl
test_cases false = inr refl

-- at most one list goes on
pub at_most_one : (a : List Log) (blocks : ℕ) (left : Option Position) (free : List ℕ) (n : ℕ) (b : List Log)
    → GoOn blocks left free n a → GoOn blocks left free n b → a ≡ b
at_most_one [] blocks left free n b g h = sym (none_left blocks left free b (rw (← g.total) at h))
at_most_one (x ∷ a) blocks None [] n b g h =
    absurd (no_step blocks None n (x ∷ a) refl (let e = g.each.0.some in omega (arith, g.total)) g)
at_most_one (x ∷ a) blocks None (segment ∷ free) n b g h =
    let some : 0 < n = (let e = g.each.0.some in omega (arith, g.total)) in
    both a blocks (record { segment = segment; block = 0 }) free n x b (at_most_one a)
    (step_without_room blocks None segment free n (x ∷ a) refl some g)
    (step_without_room blocks None segment free n b refl some h)
at_most_one (x ∷ a) blocks (Some place) [] n b g h =
    let some : 0 < n = (let e = g.each.0.some in omega (arith, g.total)) in
    elim (test_cases (has_room blocks (Some place))) [
      | inl room ↦
          both a blocks place [] n x b (at_most_one a) (step_with_room blocks place [] n (x ∷ a) room some g)
          (step_with_room blocks place [] n b room some h)
      | inr room ↦ absurd (no_step blocks (Some place) n (x ∷ a) room some g)
    ]
at_most_one (x ∷ a) blocks (Some place) (segment ∷ free) n b g h =
    let some : 0 < n = (let e = g.each.0.some in omega (arith, g.total)) in
    elim (test_cases (has_room blocks (Some place))) [
      | inl room ↦
          both a blocks place (segment ∷ free) n x b (at_most_one a)
          (step_with_room blocks place (segment ∷ free) n (x ∷ a) room some g)
          (step_with_room blocks place (segment ∷ free) n b room some h)
      | inr room ↦ both a blocks (record { segment = segment; block = 0 }) free n x b (at_most_one a)
          (step_without_room blocks (Some place) segment free n (x ∷ a) room some g)
          (step_without_room blocks (Some place) segment free n b room some h)
    ]
