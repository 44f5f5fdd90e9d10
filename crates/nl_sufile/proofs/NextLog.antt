-- One log more: what goes on behind it is what goes on before it.
use Rattle.std.proofs.Common.{◌≡◌, ℕ, ◌+◌, ◌-◌, ◌<◌, ◌≤◌, Bool, true, false, List, [], ◌∷◌, ◌++◌, Option, Some, refl, ap, sym, ◌∙◌, arith, subst, append_assoc}
use borrow.Author.Tests.{leb-true}
use Rattle.nl_types.specs.declared.segment.Log.{Log}
use Rattle.nl_types.specs.declared.segment.Position.{Position}
use Rattle.nl_types.specs.Blocks.Placing.{place_behind, has_room, GoOn}
use Rattle.nl_types.specs.Facts.GoingOn.{log_at, fill, Step, step_with_room, step_without_room, go_on_with_room, go_on_without_room, no_step}
use Rattle.nl_sufile.specs.Private.NextPlace.{IsNextPlace, IsNowhere}

-- the first log of a list that goes on is at the next place
pub next_step : (b : Bool) (blocks : ℕ) (left : Option Position) (free : List ℕ) (place : Position)
    (others : List ℕ) (n : ℕ) (all : List Log)
    → has_room blocks left ≡ b → IsNextPlace b blocks left free place others → 0 < n → GoOn blocks left free n all
    → Step blocks place others n all
next_step true blocks left free place others n all room h some g =
    let r : has_room blocks (Some place) ≡ true =
    subst (λ (l : Option Position). has_room blocks l ≡ true) h.there h.room in
    let f : GoOn blocks left others n all = rw h.same g in
    step_with_room blocks place others n all r some
    (subst (λ (l : Option Position). GoOn blocks l others n all) h.there f)
next_step false blocks left free place others n all room h some g =
    let e : record { segment = place.segment; block = 0 } ≡ place =
    ap (λ (b : ℕ). let p : Position = record { segment = place.segment; block = b } in p) (sym h.block) in
    subst (λ (p : Position). Step blocks p others n all) e
    (step_without_room blocks left place.segment others n all h.room some (rw h.segment at g))

-- and what goes on behind that log goes on from here
pub go_next : (b : Bool) (blocks : ℕ) (left : Option Position) (free : List ℕ) (place : Position)
    (others : List ℕ) (n : ℕ) (tail : List Log)
    → has_room blocks left ≡ b → IsNextPlace b blocks left free place others → 0 < n → 2 ≤ blocks
    → GoOn blocks (Some (place_behind (log_at place (fill blocks place n)))) others
    (n - fill blocks place n) tail
    → GoOn blocks left free n (log_at place (fill blocks place n) ∷ tail)
go_next true blocks left free place others n tail room h some two g =
    let r : has_room blocks (Some place) ≡ true =
    subst (λ (l : Option Position). has_room blocks l ≡ true) h.there h.room in
    let all : GoOn blocks (Some place) others n (log_at place (fill blocks place n) ∷ tail) =
    go_on_with_room blocks place others n tail r (leb-true _ _ r) some g in
    rw (← h.same) (subst
    (λ (l : Option Position). GoOn blocks l others n (log_at place (fill blocks place n) ∷ tail))
    (sym h.there) all)
go_next false blocks left free place others n tail room h some two g =
    let e : record { segment = place.segment; block = 0 } ≡ place =
    ap (λ (b : ℕ). let p : Position = record { segment = place.segment; block = b } in p) (sym h.block) in
    rw h.segment (subst
    (λ (p : Position).
    GoOn blocks (Some (place_behind (log_at p (fill blocks p n)))) others (n - fill blocks p n) tail
    → GoOn blocks left (p.segment ∷ others) n (log_at p (fill blocks p n) ∷ tail))
    e
    (go_on_without_room blocks left place.segment others n tail h.room two some) g)

-- there is nowhere to go on
pub nowhere_on : (blocks : ℕ) (left : Option Position) (free : List ℕ) (n : ℕ) (all : List Log)
    → IsNowhere blocks left free → 0 < n → GoOn blocks left free n all → ⊥
nowhere_on blocks left free n all h some g = no_step blocks left n all h.room some (rw h.none_free at g)

-- what is kept of the logs so far, once there is one more
pub onward_more : (blocks : ℕ) (left0 : Option Position) (free0 : List ℕ) (n : ℕ) (left : Option Position)
    (free : List ℕ) (rest : ℕ) (place : Position) (others : List ℕ) (logs more : List Log) (count : ℕ)
    → count ≡ fill blocks place rest → more ≡ logs ++ log_at place count ∷ []
    → IsNextPlace (has_room blocks left) blocks left free place others → 0 < rest → 2 ≤ blocks
    → ((tail : List Log) → GoOn blocks left free rest tail → GoOn blocks left0 free0 n (logs ++ tail))
    → (tail : List Log) → GoOn blocks (Some (place_behind (log_at place count))) others (rest - count) tail
    → GoOn blocks left0 free0 n (more ++ tail)
onward_more blocks left0 free0 n left free rest place others logs more count e pushed next some two kept tail
    g =
    let h : GoOn blocks (Some (place_behind (log_at place (fill blocks place rest)))) others
    (rest - fill blocks place rest) tail
    = subst (λ (k : ℕ). GoOn blocks (Some (place_behind (log_at place k))) others (rest - k) tail) e g in
    let all =
    kept (log_at place (fill blocks place rest) ∷ tail)
    (go_next _ blocks left free place others rest tail refl next some two h) in
    let same : logs ++ (log_at place (fill blocks place rest) ∷ tail) ≡ more ++ tail =
    rw pushed (rw append_assoc (ap (λ (k : ℕ). logs ++ (log_at place k ∷ tail)) (sym e))) in
    subst (λ (l : List Log). GoOn blocks left0 free0 n l) same all

pub only_more : (blocks : ℕ) (left0 : Option Position) (free0 : List ℕ) (n : ℕ) (left : Option Position)
    (free : List ℕ) (rest : ℕ) (place : Position) (others : List ℕ) (logs more : List Log) (count : ℕ)
    → count ≡ fill blocks place rest → more ≡ logs ++ log_at place count ∷ []
    → IsNextPlace (has_room blocks left) blocks left free place others → 0 < rest
    → ((all : List Log) → GoOn blocks left0 free0 n all
    → (tail : List Log) × (all ≡ logs ++ tail) × GoOn blocks left free rest tail)
    → (all : List Log) → GoOn blocks left0 free0 n all
    → (tail : List Log) × (all ≡ more ++ tail)
    × GoOn blocks (Some (place_behind (log_at place count))) others (rest - count) tail
only_more blocks left0 free0 n left free rest place others logs more count e pushed next some kept all g =
    let k = kept all g in
    let s = next_step _ blocks left free place others rest k.0 refl next some k.2 in
    let same : logs ++ (log_at place (fill blocks place rest) ∷ s.rest) ≡ more ++ s.rest =
    rw pushed (rw append_assoc (ap (λ (k : ℕ). logs ++ (log_at place k ∷ s.rest)) (sym e))) in (
      s.rest,
      k.1 ∙ ap (λ (l : List Log). logs ++ l) s.same ∙ same,
      subst (λ (k : ℕ). GoOn blocks (Some (place_behind (log_at place k))) others (rest - k) s.rest)
          (sym e) s.goes_on,
    )

-- nothing goes on where nothing is left
pub go_on_nil : (blocks : ℕ) (left : Option Position) (free : List ℕ) (rest : ℕ) → rest ≤ 0
    → GoOn blocks left free rest []
go_on_nil blocks left free rest none =
    record { each = tt; total = omega arith; filled = tt; in_row = tt; taken = tt }

-- the next place has room
pub next_fits : (b : Bool) (blocks : ℕ) (left : Option Position) (free : List ℕ) (place : Position)
    (others : List ℕ)
    → has_room blocks left ≡ b → IsNextPlace b blocks left free place others → 2 ≤ blocks
    → place.block + 2 ≤ blocks
next_fits true blocks left free place others room h two =
    let r : has_room blocks (Some place) ≡ true =
    subst (λ (l : Option Position). has_room blocks l ≡ true) h.there h.room in
    leb-true _ _ r
next_fits false blocks left free place others room h two = omega (arith, h.block)
