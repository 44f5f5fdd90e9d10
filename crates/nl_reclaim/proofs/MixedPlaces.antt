-- Counts while numbers get their blocks, one after another.
use Rattle.std.proofs.Common.{◌≡◌, ◌≢◌, ℕ, zero, suc, ◌+◌, ◌<◌, ◌≤◌, Bool, true, false, cond, eqb, get_or, take, List, [], ◌∷◌, ◌++◌, length, Option, Some, None, inl, inr, sym, refl, ap, subst, ◌∙◌, arith}
use Rattle.std.specs.Prelude.{◌||◌}
use Rattle.std.proofs.lemmas.Bool.{cases_Bool, eqb-true, eq-eqb, or_left, or_right}
use Rattle.std.proofs.lemmas.List.{take_all, take_more}
use Rattle.nl_types.specs.Plain.NumberLists.{NoneTwice, is_one_of}
use Rattle.nl_types.specs.Blocks.PartialMaps.{Partial}
use Rattle.nl_sufile.specs.BySegment.{HasBlock, one_less}
use Rattle.nl_vstore.specs.Counts.{IsSegmentOf}
use Rattle.nl_vstore.specs.Stores.{IsStore, Store, address_in, is_inside}
use Rattle.nl_reclaim.specs.PrivateCounts.Adding.{GetBlocks, HaveBlocks, LeaveSegment, mixed}
use Rattle.nl_reclaim.specs.PrivateCounts.Places.{AreCountsIn, HasOneMore, HaveRoom, with_one}
use Rattle.nl_reclaim.proofs.EndPlaces.{no-number}
use Rattle.nl_reclaim.proofs.SegmentsOf.{Follow, have-room, one-added, one-taken, some-counted}

-- ---- lists of numbers

or-none : (a : Bool) → (a || (false || false)) ≡ a
or-none true = refl
or-none false = refl

differ : (w v : ℕ) → w ≢ v → eqb w v ≡ false
differ w v other = elim (cases_Bool (eqb w v)) [ inl same ↦ absurd (other (eqb-true w v same)) | inr is ↦ is ]

now-done : (done : List ℕ) (v : ℕ) → is_one_of (done ++ v ∷ []) v ≡ true
now-done [] v = or_left (eqb v v) false (eq-eqb v v refl)
now-done (c ∷ done) v = or_right (eqb v c) (is_one_of (done ++ v ∷ []) v) (now-done done v)

not-now : (done : List ℕ) (v w : ℕ) → w ≢ v → is_one_of (done ++ v ∷ []) w ≡ is_one_of done w
not-now [] v w other = ap (λ b. b || false) (differ w v other)
not-now (c ∷ done) v w other = ap (λ b. eqb w c || b) (not-now done v w other)

-- what stands at an index is one of them
pub at-among : (numbers : List ℕ) (i : ℕ) → i < length numbers → is_one_of numbers (get_or numbers i 0) ≡ true
at-among [] i low = absurd (omega arith)
at-among (k ∷ numbers) zero low = or_left (eqb k k) (is_one_of numbers k) (eq-eqb k k refl)
at-among (k ∷ numbers) (suc i) low =
    or_right (eqb (get_or numbers i 0) k) (is_one_of numbers (get_or numbers i 0))
    (at-among numbers i (omega arith))

-- and none of those before it
not-before : (numbers : List ℕ) (i : ℕ) → NoneTwice numbers → i < length numbers
    → is_one_of (take i numbers) (get_or numbers i 0) ≡ false
not-before [] i once low = absurd (omega arith)
not-before (k ∷ numbers) zero once low = refl
not-before (k ∷ numbers) (suc i) once low = elim (cases_Bool (eqb (get_or numbers i 0) k)) [
  | inl same ↦
      let among : is_one_of numbers k ≡ true =
      sym (ap (is_one_of numbers) (eqb-true (get_or numbers i 0) k same))
      ∙ at-among numbers i (omega arith) in
      absurd (let wrong : false ≡ true = sym once.0 ∙ among in cc)
  | inr other ↦
      ap (λ b. b || is_one_of (take i numbers) (get_or numbers i 0)) other
      ∙ not-before numbers i once.1 (omega arith)
]

-- ---- one number

-- a number without its block
abbrev lost : ℕ → Partial ℕ → Partial ℕ
lost v at w = cond {A = Option ℕ} (eqb w v) None (at w)

lost-there : (v : ℕ) (at : Partial ℕ) → lost v at v ≡ None
lost-there v at = ap (λ t. cond {A = Option ℕ} t None (at v)) (eq-eqb v v refl)

lost-other : (v w : ℕ) (at : Partial ℕ) → w ≢ v → lost v at w ≡ at w
lost-other v w at other = ap (λ t. cond {A = Option ℕ} t None (at w)) (differ w v other)

module _ (done : List ℕ) (old new : Partial ℕ) (v : ℕ) where
  is-new : mixed (done ++ v ∷ []) new old v ≡ new v
  is-new = ap (λ t. cond {A = Option ℕ} t (new v) (old v)) (now-done done v)

  was-old : is_one_of done v ≡ false → mixed done new old v ≡ old v
  was-old out = ap (λ t. cond {A = Option ℕ} t (new v) (old v)) out

  others-stay : (w : ℕ) → w ≢ v → mixed (done ++ v ∷ []) new old w ≡ mixed done new old w
  others-stay w other = ap (λ t. cond {A = Option ℕ} t (new w) (old w)) (not-now done v w other)

module _ (follow : Follow) (s : Store) (store : IsStore s) where
  -- one more is counted where a number got its block
  pub added-there : (v b : ℕ) (old new : Partial ℕ) (counts after : List ℕ) → address_in s v ≡ Some b
      → HasBlock v b old new
      → HasOneMore s v counts after → AreCountsIn s old counts → AreCountsIn s new after
  added-there v b old new counts after stands has one are = by one.found one.is one.counted
    where
      by : (found : Option ℕ) → IsSegmentOf s v found → after ≡ with_one found counts
          → AreCountsIn s new after
      by None none is = no-number b (sym none ∙ stands)
      by (Some segment) some is =
          rw is (one-added follow s store v b segment old new counts (store.numbers v b stands) has
          (ap (is_inside s.segments segment) (sym stands) ∙ some.1) some.0 are)

  module _ (numbers : List ℕ) (have : HaveBlocks s numbers) (i : ℕ) (low : i < length numbers)
      (old : Partial ℕ) where
    abbrev done : List ℕ
    done = take i numbers

    abbrev number : ℕ
    number = get_or numbers i 0

    stands : (b : ℕ) × (address_in s number ≡ Some b)
    stands = have.now number (at-among numbers i low)

    out : is_one_of done number ≡ false
    out = not-before numbers i have.once low

    abbrev before : Partial ℕ
    before = mixed done (address_in s) old

    pub born : old number ≡ None → (counts after : List ℕ) → AreCountsIn s before counts
        → HasOneMore s number counts after
        → AreCountsIn s (mixed (take (i + 1) numbers) (address_in s) old) after
    born none counts after are one =
        subst (λ (xs : List ℕ). AreCountsIn s (mixed xs (address_in s) old) after)
        (sym (take_more numbers i 0 low))
        (added-there number stands.0 before
        (mixed (done ++ number ∷ []) (address_in s) old) counts after stands.1 (record {
          before = was-old done old (address_in s) number out ∙ none;
          now = is-new done old (address_in s) number ∙ stands.1;
          others = others-stay done old (address_in s) number;
        }) one are)

    module _ (a segment : ℕ) (was : old number ≡ Some a)
        (inside : is_inside s.segments segment (Some a) ≡ true) (there : segment < length s.segments.each)
        (counts : List ℕ) (are : AreCountsIn s before counts) where
      still : before number ≡ Some a
      still = was-old done old (address_in s) number out ∙ was

      pub some : 0 < get_or counts segment 0
      some =
          some-counted follow s store number a segment before counts
          (store.numbers number stands.0 stands.1) still inside there are

      pub leaving : AreCountsIn s (lost number before) (one_less segment counts)
      leaving =
          one-taken follow s store number a segment before (lost number before) counts
          (store.numbers number stands.0 stands.1) (record {
            before = lost-there number before;
            now = still;
            others = λ w other. sym (lost-other number w before other);
          }) inside there are

      pub moved : (after : List ℕ) → HasOneMore s number (one_less segment counts) after
          → AreCountsIn s (mixed (take (i + 1) numbers) (address_in s) old) after
      moved after one =
          subst (λ (xs : List ℕ). AreCountsIn s (mixed xs (address_in s) old) after)
          (sym (take_more numbers i 0 low))
          (added-there number stands.0 (lost number before) (mixed (done ++ number ∷ []) (address_in s) old)
          (one_less segment counts) after stands.1 (record {
            before = lost-there number before;
            now = is-new done old (address_in s) number ∙ stands.1;
            others = λ w other.
                others-stay done old (address_in s) number w other ∙ sym (lost-other number w before other);
          }) one leaving)

-- ---- the numbers at an index

abbrev pub BlockIn : Store → ℕ → Option ℕ → Type 0
BlockIn s segment o = (a : ℕ) × (o ≡ Some a) × (is_inside s.segments segment (Some a) ≡ true)

pub block-inside : (s : Store) (segment : ℕ) (o : Option ℕ) → is_inside s.segments segment o ≡ true
    → BlockIn s segment o
block-inside s segment None inside = cc
block-inside s segment (Some a) inside = (a, refl, inside)

-- ---- loops

module _ (follow : Follow) (s : Store) (store : IsStore s) (numbers : List ℕ) where
  abbrev done-to : ℕ → Partial ℕ → Partial ℕ
  done-to i old = mixed (take i numbers) (address_in s) old

  -- what births need of the counts, and leave
  pub births-room : (old : Partial ℕ) → (i : ℕ) (counts : List ℕ) → AreCountsIn s (done-to i old) counts
      → HaveRoom s counts
  births-room old i counts are = have-room follow s store (done-to i old) counts are

  pub one-born : (old : Partial ℕ) → GetBlocks s numbers old → (i v : ℕ) → i < length numbers
      → v ≡ get_or numbers i 0 → (counts after : List ℕ)
      → AreCountsIn s (done-to i old) counts → HasOneMore s v counts after
      → AreCountsIn s (done-to (i + 1) old) after
  one-born old get i v low is counts after are one =
      born follow s store numbers get.have i low old
      (get.before (get_or numbers i 0) (at-among numbers i low)) counts after are
      (subst (λ (n : ℕ). HasOneMore s n counts after) is one)

  -- and moves
  module _ (segment : ℕ) (old : Partial ℕ) (leave : LeaveSegment s segment numbers old) (i v : ℕ)
      (low : i < length numbers) (is : v ≡ get_or numbers i 0)
      (counts : List ℕ) (are : AreCountsIn s (done-to i old) counts) where
    was : BlockIn s segment (old (get_or numbers i 0))
    was =
        block-inside s segment (old (get_or numbers i 0))
        (leave.before (get_or numbers i 0) (at-among numbers i low))

    pub moves-some : 0 < get_or counts segment 0
    moves-some =
        some follow s store numbers leave.have i low old was.0 segment was.1 was.2 leave.there counts are

    pub moves-there : segment < length counts
    moves-there = omega (arith, are.size, leave.there)

    pub one-moved : (after : List ℕ) → HasOneMore s v (one_less segment counts) after
        → AreCountsIn s (done-to (i + 1) old) after
    one-moved after one =
        moved follow s store numbers leave.have i low old was.0 segment was.1 was.2 leave.there counts are
        after
        (subst (λ (n : ℕ). HasOneMore s n (one_less segment counts) after) is one)

  pub all-done : (old : Partial ℕ) (i : ℕ) (counts : List ℕ) → length numbers ≤ i
      → AreCountsIn s (done-to i old) counts
      → AreCountsIn s (mixed numbers (address_in s) old) counts
  all-done old i counts past are =
      subst (λ (xs : List ℕ). AreCountsIn s (mixed xs (address_in s) old) counts)
      (take_all i numbers past) are
