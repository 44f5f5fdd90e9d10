-- That a table and a store are sound has one proof at most, as a ghost field asks.
use Rattle.std.specs.Prelude.{◌≡◌, ℕ, ◌+◌, ◌*◌, ◌<◌, ◌≤◌, List, Option}
use Rattle.std.proofs.Common.{inl, inr, ap, subst, arith}
use Rattle.std.proofs.Props.{props}
use Rattle.std.proofs.Math.Nat.{mul-le-mul_right}
use Rattle.std.proofs.lemmas.Bool.{cases_lt}
use Rattle.nl_types.specs.declared.segment.Position.{Position}
use Rattle.nl_types.specs.Blocks.Segments.{Segments, AreTidy, IsUsed, block_at, info_of}
use Rattle.nl_types.specs.Facts.SegmentChanges.{room_of}
use Rattle.nl_vstore.specs.Content.{SpaceContent}
use Rattle.nl_dat.specs.declared.entries.DatEntry.{DatEntry}
use Rattle.nl_vstore.specs.Stores.{Store, IsStore}
use Rattle.nl_dat.specs.Inside.{IsDatTable}

-- two proofs of one fact
same_fact : {A : Type 0} → (x y : A) → IsProp A → x ≡ y
same_fact x y one = one x y

-- a block stands at one place
same_place : (blocks : ℕ) (p q : Position) → p.block < blocks → q.block < blocks
    → block_at blocks p ≡ block_at blocks q → p ≡ q
same_place blocks p q low_p low_q at = λ i. record { segment = segment i; block = block i }
  where
    segment : p.segment ≡ q.segment
    segment = elim (cases_lt p.segment q.segment) [
      | inl h ↦ absurd
          (let m : (p.segment + 1) * blocks ≤ q.segment * blocks = mul-le-mul_right blocks (omega arith)
          in omega (arith, m, at, low_p, low_q))
      | inr low ↦ elim (cases_lt q.segment p.segment) [
        | inl h ↦ absurd
            (let m : (q.segment + 1) * blocks ≤ p.segment * blocks = mul-le-mul_right blocks (omega arith)
            in omega (arith, m, at, low_p, low_q))
        | inr high ↦ omega (arith, low, high)
      ]
    ]

    block : p.block ≡ q.block
    block = let m : p.segment * blocks ≡ q.segment * blocks = ap (λ k. k * blocks) segment
        in omega (arith, m, at)

-- so it is used in one way
IsUsed-prop : (s : Segments) (b : ℕ) → AreTidy s → IsProp (IsUsed s b)
IsUsed-prop s b tidy (p, at_p, low_p) (q, at_q, low_q) =
    subst (λ (z : Position). (at : b ≡ block_at s.blocks z) (low : z.block < (info_of s.each z.segment).used)
    → ◌≡◌ {A = IsUsed s b} (p, at_p, low_p) (z, at, low))
    (let room_p = room_of s.blocks s.each tidy.each p.segment in
    let room_q = room_of s.blocks s.each tidy.each q.segment in
    same_place s.blocks p q (omega (arith, low_p, room_p)) (omega (arith, low_q, room_q))
    (omega (arith, at_p, at_q)))
    (λ at low i. (
      p,
      same_fact at_p at (Prim.hlevel props) i,
      same_fact low_p low
          (Prim.hlevel props) i,
    )) at_q low_q

-- a store is sound in one way
pub IsStore-prop : {s : Store} → IsProp (IsStore s)
IsStore-prop {s} x y = λ i. record {
  full = same_fact x.full y.full (Prim.hlevel props) i;
  numbers = same_fact x.numbers y.numbers (Prim.hlevel props) i;
  used = λ v b at. IsUsed-prop s.segments b x.limits.tidy (x.used v b at) (y.used v b at) i;
  apart = same_fact x.apart y.apart (Prim.hlevel props) i;
  on_device = same_fact x.on_device y.on_device (Prim.hlevel props) i;
  own_payload = same_fact x.own_payload y.own_payload (Prim.hlevel props) i;
  whole_logs = same_fact x.whole_logs y.whole_logs (Prim.hlevel props) i;
  only_used = same_fact x.only_used y.only_used (Prim.hlevel props) i;
  have_logs = same_fact x.have_logs y.have_logs (Prim.hlevel props) i;
  limits = same_fact x.limits y.limits (Prim.hlevel props) i;
  adds_up = same_fact x.adds_up y.adds_up (Prim.hlevel props) i;
}

-- and so is a table over tidy segments
pub IsDatTable-prop : {table : List (Option DatEntry)} {lowest : ℕ} {space : SpaceContent}
    → AreTidy space.segments → IsProp (IsDatTable table lowest space)
IsDatTable-prop {table} {lowest} {space} tidy x y = λ i. record {
  full = same_fact x.full y.full (Prim.hlevel props) i;
  zero_unused = same_fact x.zero_unused y.zero_unused (Prim.hlevel props) i;
  sound = same_fact x.sound y.sound (Prim.hlevel props) i;
  used = λ v b at. IsUsed-prop space.segments b tidy (x.used v b at) (y.used v b at) i;
  stored = same_fact x.stored y.stored (Prim.hlevel props) i;
  positive = same_fact x.positive y.positive (Prim.hlevel props) i;
  within = same_fact x.within y.within (Prim.hlevel props) i;
  below_lowest = same_fact x.below_lowest y.below_lowest (Prim.hlevel props) i;
}
