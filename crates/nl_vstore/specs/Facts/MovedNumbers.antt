-- What a move does to the numbers of each segment that takes no more logs.
use Rattle.std.proofs.Common.{◌≡◌, ◌≢◌, ℕ, zero, suc, ◌+◌, ◌*◌, ◌<◌, ◌≤◌, Bool, true, false, cond, eqb, List, [], ◌∷◌, Some, None, Option, inl, inr, sym, refl, ap, subst, ◌∙◌, map, length, take, drop, arith}
use Rattle.std.specs.Prelude.{◌||◌}
use Rattle.std.specs.List.{AllByRecursion}
use Rattle.std.proofs.Math.Nat.{mul-le-mul_right}
use Rattle.std.proofs.lemmas.Bool.{cases_Bool, cases_eq, cases_lt, both_ways}
use Rattle.nl_types.specs.declared.segment.Log.{Log}
use Rattle.std.proofs.lemmas.List.{length-map}
use Rattle.nl_types.specs.Blocks.Segments.{Segments, AreTidy, IsClosed}
use Rattle.nl_types.specs.Blocks.Placing.{blocks_from, with_log, with_logs}
use Rattle.nl_types.specs.Blocks.Entries.{Content, Entry}
use Rattle.nl_types.specs.Plain.NumberLists.{is_one_of}
use Rattle.nl_types.specs.Blocks.PartialMaps.{Partial, adjust, adjust_each}
use Rattle.nl_types.specs.Facts.UsedParts.{length-addresses}
use Rattle.nl_vstore.specs.Stores.{Store, IsStore, IsMoved, payload_under, address_in, content_in, is_inside, moved_to}
use Rattle.nl_vstore.specs.Located.{number_at, pick, picked, if_needed, entry_needed, needs, needed_at, needed_in}
use Rattle.nl_vstore.specs.Facts.ClosedSegments.{fits-outside}
use Rattle.nl_vstore.specs.Facts.MovedBlocks.{moved-in, is_some-inside}
use Rattle.nl_vstore.specs.Facts.MovedOut.{unless, without, moved_out}
use Rattle.nl_vstore.specs.Facts.NumberAt.{number_at-some, number_at-none, number_at-is, needed_at-some, inside-low, inside-high, inside-of, needed-inside, needed-once}

-- ---- lists

adjust_each-others : {A X : Type 0} (f : A → X → X) (ks : List ℕ) (xs : List A) (m : Partial X) (v : ℕ)
    → is_one_of ks v ≡ false → adjust_each f ks xs m v ≡ m v
adjust_each-others f [] xs m v none = refl
adjust_each-others f (k ∷ ks) [] m v none = refl
adjust_each-others f (k ∷ ks) (x ∷ xs) m v none = elim (cases_Bool (eqb v k)) [
  | inl e ↦ absurd (both_ways true (sym (ap (λ t. t || is_one_of ks v) e) ∙ none) refl)
  | inr e ↦
      adjust_each-others f ks xs (adjust (f x) m k) v (sym (ap (λ t. t || is_one_of ks v) e) ∙ none)
      ∙ rw e refl
]

picked-without : (gone : List ℕ) (f g : ℕ → Option ℕ) (b n : ℕ)
    → ((c : ℕ) → b ≤ c → c < b + n → g c ≡ unless gone (f c))
    → picked g b n ≡ pick (without gone (map f (blocks_from b n)))
picked-without gone f g b n each = ap pick (rows b n each)
  where
    rows : (b n : ℕ) → ((c : ℕ) → b ≤ c → c < b + n → g c ≡ unless gone (f c))
        → map g (blocks_from b n) ≡ without gone (map f (blocks_from b n))
    rows b zero each = refl
    rows b (suc n) each =
        ap (λ o. o ∷ map g (blocks_from (suc b) n)) (each b (omega arith) (omega arith))
        ∙ ap (λ os. unless gone (f b) ∷ os)
        (rows (suc b) n (λ c low high. each c (omega (arith, low)) (omega (arith, high))))

picked-same : (f g : ℕ → Option ℕ) (b n : ℕ) → ((c : ℕ) → b ≤ c → c < b + n → g c ≡ f c)
    → picked g b n ≡ picked f b n
picked-same f g b n each = ap pick (rows b n each)
  where
    rows : (b n : ℕ) → ((c : ℕ) → b ≤ c → c < b + n → g c ≡ f c)
        → map g (blocks_from b n) ≡ map f (blocks_from b n)
    rows b zero each = refl
    rows b (suc n) each =
        ap (λ o. o ∷ map g (blocks_from (suc b) n)) (each b (omega arith) (omega arith))
        ∙ ap (λ os. f b ∷ os)
        (rows (suc b) n (λ c low high. each c (omega (arith, low)) (omega (arith, high))))

pub among-front : (n : ℕ) (xs : List ℕ) (v : ℕ) → is_one_of (take n xs) v ≡ true → is_one_of xs v ≡ true
among-front zero [] v h = cc
among-front zero (x ∷ xs) v h = cc
among-front (suc n) [] v h = cc
among-front (suc n) (x ∷ xs) v h = either (eqb v x) h (among-front n xs v)
  where
    either : (a : Bool) → (a || is_one_of (take n xs) v) ≡ true
        → (is_one_of (take n xs) v ≡ true → is_one_of xs v ≡ true) → (a || is_one_of xs v) ≡ true
    either true h more = refl
    either false h more = more h

pub blocks-with_logs : (logs : List Log) (s : Segments) (stamp : ℕ)
    → (with_logs s logs stamp).blocks ≡ s.blocks
blocks-with_logs [] s stamp = refl
blocks-with_logs (log ∷ logs) s stamp = blocks-with_logs logs (with_log s log stamp) stamp

-- a block lies in one segment
pub inside-one : (s : Segments) (i j b : ℕ) → is_inside s i (Some b) ≡ true → is_inside s j (Some b) ≡ true
    → i ≡ j
inside-one s i j b in_i in_j = elim (cases_eq i j) [
  | inl e ↦ e
  | inr other ↦ absurd (apart other)
]
  where
    apart : i ≢ j → ⊥
    apart other = elim (cases_lt i j) [
      | inl h ↦
          let m : (i + 1) * s.blocks ≤ j * s.blocks = mul-le-mul_right s.blocks (omega (arith, h)) in
          omega (arith, m, inside-high s i b in_i, inside-low s j b in_j)
      | inr h ↦
          let m : (j + 1) * s.blocks ≤ i * s.blocks = mul-le-mul_right s.blocks (omega (arith, h, other)) in
          omega (arith, m, inside-high s j b in_j, inside-low s i b in_i)
    ]

-- ---- numbers that are moved

module _ (segment checkpoint stamp : ℕ) (numbers : List ℕ) (old new : Store) (is_old : IsStore old)
    (is_new : IsStore new) (tidy : AreTidy old.segments)
    (moved : IsMoved segment checkpoint stamp numbers old new)
    (inside : (v : ℕ) → is_one_of numbers v ≡ true
    → is_inside old.segments segment (address_in old v) ≡ true) where
  count : length numbers ≡ length moved.payload
  count =
      sym (length-map numbers (payload_under old)) ∙ ap length moved.theirs ∙ length-map moved.payload Some

  lengths : length numbers ≡ length moved.at
  lengths =
      count ∙ sym moved.appended.fits.total ∙ sym (length-addresses old.segments.blocks moved.appended.logs)
      ∙ ap length (sym moved.appended.at)

  pub blocks-moved : new.segments.blocks ≡ old.segments.blocks
  blocks-moved =
      ap (λ (s : Segments). s.blocks) moved.appended.segments
      ∙ blocks-with_logs moved.appended.logs old.segments stamp

  -- none of them comes into a closed segment
  out-of : (j : ℕ) → IsClosed old.segments j → (v : ℕ) → is_one_of numbers v ≡ true
      → is_inside old.segments j (address_in new v) ≡ false
  out-of j closed v h =
      let outside : AllByRecursion (λ b. is_inside old.segments j (Some b) ≡ false) moved.at =
      subst (AllByRecursion (λ b. is_inside old.segments j (Some b) ≡ false)) (sym moved.appended.at)
      (fits-outside old.segments false
      (length moved.payload) j moved.appended.logs tidy closed moved.appended.fits) in
      let there =
      moved-in (λ b. is_inside old.segments j (Some b) ≡ false) numbers moved.at
      (address_in old) v lengths outside h
      (is_some-inside old.segments segment (address_in old v) (inside v h)) in
      ap (λ (m : Partial ℕ). is_inside old.segments j (m v)) moved.address
      ∙ ap (is_inside old.segments j) there.1 ∙ there.2

  -- the others stay
  pub stays : (v : ℕ) → is_one_of numbers v ≡ false → address_in new v ≡ address_in old v
  stays v none =
      ap (λ (m : Partial ℕ). m v) moved.address
      ∙ adjust_each-others moved_to numbers moved.at (address_in old) v none

  pub number_at-moved : (j b : ℕ) → IsClosed old.segments j → is_inside old.segments j (Some b) ≡ true
      → number_at new b ≡ unless numbers (number_at old b)
  number_at-moved j b closed within = by_new (number_at new b) refl
    where
      by_old : (o : Option ℕ) → number_at old b ≡ o → number_at new b ≡ None → None ≡ unless numbers o
      by_old None at none = refl
      by_old (Some v) at none = elim (cases_Bool (is_one_of numbers v)) [
        | inl e ↦ sym (ap (λ t. cond {A = Option ℕ} t None (Some v)) e)
        | inr e ↦ absurd (number_at-none new v b none (stays v e ∙ number_at-some old v b at))
      ]

      by_new : (o : Option ℕ) → number_at new b ≡ o → number_at new b ≡ unless numbers (number_at old b)
      by_new None is = is ∙ by_old (number_at old b) refl is
      by_new (Some w) is = elim (cases_Bool (is_one_of numbers w)) [
        | inl e ↦
            absurd (both_ways (is_inside old.segments j (Some b))
            (ap (is_inside old.segments j) (sym (number_at-some new w b is)) ∙ out-of j closed w e) within)
        | inr e ↦
            is ∙ sym (ap (λ t. cond {A = Option ℕ} t None (Some w)) e)
            ∙ ap (unless numbers)
            (sym (number_at-is old w b is_old (sym (stays w e) ∙ number_at-some new w b is)))
      ]

  module _ (needed needed' : Entry → Bool)
      (keeps : (v : ℕ) (e : Entry) → content_in old v ≡ Some e → needed' e ≡ needed e) where
    pub needs-moved : (v : ℕ) → needs needed' (content_in new) v ≡ needs needed (content_in old) v
    needs-moved v =
        ap (λ (c : Content). entry_needed needed' (c v)) moved.content ∙ by_entry (content_in old v) refl
      where
        by_entry : (o : Option Entry) → content_in old v ≡ o → entry_needed needed' o ≡ entry_needed needed o
        by_entry None is = refl
        by_entry (Some e) is = keeps v e is

    needed_at-moved : (j b : ℕ) → IsClosed old.segments j → is_inside old.segments j (Some b) ≡ true
        → needed_at new needed' b ≡ unless numbers (needed_at old needed b)
    needed_at-moved j b closed within =
        ap (if_needed (needs needed' (content_in new))) (number_at-moved j b closed within)
        ∙ by_number (number_at old b)
      where
        swap : (v : ℕ) (gone test : Bool) → is_one_of numbers v ≡ gone
            → if_needed (needs needed' (content_in new)) (cond gone None (Some v))
            ≡ cond gone None (cond (needs needed' (content_in new) v) (Some v) None)
        swap v true test e = refl
        swap v false test e = refl

        after : (v : ℕ) (test : Bool)
            → cond {A = Option ℕ} (is_one_of numbers v) None (cond test (Some v) None)
            ≡ unless numbers (cond test (Some v) None)
        after v true = refl
        after v false = none (is_one_of numbers v)
          where
            none : (t : Bool) → cond {A = Option ℕ} t None None ≡ None
            none true = refl
            none false = refl

        by_number : (o : Option ℕ)
            → if_needed (needs needed' (content_in new)) (unless numbers o)
            ≡ unless numbers (if_needed (needs needed (content_in old)) o)
        by_number None = refl
        by_number (Some v) =
            swap v (is_one_of numbers v) true refl
            ∙ ap (λ t. cond {A = Option ℕ} (is_one_of numbers v) None (cond t (Some v) None)) (needs-moved v)
            ∙ after v (needs needed (content_in old) v)

    row-moved : (j : ℕ) → IsClosed old.segments j
        → needed_in new needed' j
        ≡ pick (without numbers
        (map (needed_at old needed) (blocks_from (j * old.segments.blocks) old.segments.blocks)))
    row-moved j closed =
        ap (λ (n : ℕ). picked (needed_at new needed') (j * n) n) blocks-moved
        ∙ picked-without numbers (needed_at old needed) (needed_at new needed')
        (j * old.segments.blocks) old.segments.blocks
        (λ c low high. needed_at-moved j c closed (inside-of old.segments j c low high))

    -- every other closed segment has what it had
    pub others-stay : (j : ℕ) → IsClosed old.segments j → j ≢ segment
        → needed_in new needed' j ≡ needed_in old needed j
    others-stay j closed other =
        ap (λ (n : ℕ). picked (needed_at new needed') (j * n) n) blocks-moved
        ∙ picked-same (needed_at old needed) (needed_at new needed')
        (j * old.segments.blocks) old.segments.blocks
        (λ c low high.
        let within = inside-of old.segments j c low high in
        needed_at-moved j c closed within ∙ still c within (needed_at old needed c) refl)
      where
        still : (c : ℕ) → is_inside old.segments j (Some c) ≡ true → (o : Option ℕ)
            → needed_at old needed c ≡ o → unless numbers (needed_at old needed c) ≡ needed_at old needed c
        still c within None is = ap (unless numbers) is ∙ sym is
        still c within (Some v) is = elim (cases_Bool (is_one_of numbers v)) [
          | inl e ↦
              absurd (other (inside-one old.segments j segment c within
              (ap (is_inside old.segments segment)
              (sym (number_at-some old v c (needed_at-some old needed c v is).there))
              ∙ inside v e)))
          | inr e ↦ ap (unless numbers) is ∙ ap (λ t. cond {A = Option ℕ} t None (Some v)) e ∙ sym is
        ]

-- the first needed ones are moved, and the rest is left
pub first-moved : (segment checkpoint stamp m : ℕ) (old new : Store) (needed needed' : Entry → Bool)
    → IsStore old → IsStore new → AreTidy old.segments → IsClosed old.segments segment
    → ((v : ℕ) (e : Entry) → content_in old v ≡ Some e → needed' e ≡ needed e)
    → IsMoved segment checkpoint stamp (take m (needed_in old needed segment)) old new
    → needed_in new needed' segment ≡ drop m (needed_in old needed segment)
first-moved segment checkpoint stamp m old new needed needed' is_old is_new tidy closed keeps moved =
    row-moved segment checkpoint stamp
    (take m (needed_in old needed segment)) old new is_old is_new tidy moved
    (λ v h. needed-inside old needed segment v (among-front m (needed_in old needed segment) v h)) needed
    needed' keeps segment closed
    ∙ moved_out
    (map (needed_at old needed) (blocks_from (segment * old.segments.blocks) old.segments.blocks)) m
    (needed-once old needed segment)

pub others-kept : (segment checkpoint stamp m : ℕ) (old new : Store) (needed needed' : Entry → Bool)
    → IsStore old → IsStore new → AreTidy old.segments
    → ((v : ℕ) (e : Entry) → content_in old v ≡ Some e → needed' e ≡ needed e)
    → IsMoved segment checkpoint stamp (take m (needed_in old needed segment)) old new
    → (j : ℕ) → IsClosed old.segments j → j ≢ segment → needed_in new needed' j ≡ needed_in old needed j
others-kept segment checkpoint stamp m old new needed needed' is_old is_new tidy keeps moved =
    others-stay segment checkpoint stamp
    (take m (needed_in old needed segment)) old new is_old is_new tidy moved
    (λ v h. needed-inside old needed segment v (among-front m (needed_in old needed segment) v h)) needed
    needed' keeps
