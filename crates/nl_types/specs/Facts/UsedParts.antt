-- The used parts of the segments, after a log or without a segment.
use Rattle.std.proofs.Common.{◌≡◌, ◌≢◌, false, ◌||◌, ℕ, zero, suc, ◌+◌, ◌*◌, ◌<◌, ◌≤◌, ◌⊎◌, inl, inr, List, [], ◌∷◌, ◌++◌, length, refl, ap, sym, ◌∙◌, arith, subst, set, length-append}
use Rattle.std.proofs.Math.Nat.{mul-le-mul_right}
use Rattle.std.proofs.lemmas.Bool.{cases_eq, cases_lt, ne_eqb}
use Rattle.std.proofs.lemmas.List.{get_or-set_same, get_or-set_other, get_or_past}
use Rattle.std.specs.List.{AllByRecursion}
use Rattle.nl_types.specs.declared.segment.Log.{Log}
use Rattle.nl_types.specs.declared.segment.SegmentInfo.{SegmentInfo}
use Rattle.nl_types.specs.declared.segment.SegmentState.TheVariants.{Active, Error}
use Rattle.nl_types.specs.Blocks.Segments.{Segments, none_active, info_of, clean_info, with_error, with_clean, AreTidy, IsUsed, StaysUsed, total_blocks}
use Rattle.nl_types.specs.Blocks.Placing.{IsNextLog, AreNextLogs, with_log, with_logs, end_of, first_block, blocks_from, addresses, payload_count}
use Rattle.nl_types.specs.Plain.NumberLists.{NoneTwice, is_one_of}
use Rattle.nl_types.specs.Blocks.PlacingLaws.{AreUnused}
use Rattle.nl_types.specs.Facts.SegmentChanges.{used_same, used_other, room_of}
use Rattle.nl_types.specs.Facts.NextLogs.{tidy_with_log, length-with_log}

-- after a change that doesn't lower the used blocks of a segment, all that was used is used
stays_changed : (s : Segments) (i : ℕ) (info : SegmentInfo) → i < length s.each
    → (info_of s.each i).used ≤ info.used → StaysUsed s (record s { each = set (none_active s.each) i info })
stays_changed s i info within more b (place, at, used) =
    elim (cases_eq place.segment i) [
      | inl e ↦ (
        place,
        at,
        (let n = used_same s.each i info within in
            let u : place.block < (info_of s.each i).used =
            subst (λ (k : ℕ). place.block < (info_of s.each k).used) e used in
            subst (λ (k : ℕ). place.block < (info_of (set (none_active s.each) i info) k).used) (sym e)
            (omega (arith, n, more, u))),
      )
      | inr e ↦ (
        place,
        at,
        subst (λ (k : ℕ). place.block < k) (sym (used_other s.each i place.segment info e)) used,
      )
    ]

pub stays_with_log : (s : Segments) (log : Log) (stamp : ℕ) → IsNextLog s log
    → StaysUsed s (with_log s log stamp)
stays_with_log s log stamp next =
    stays_changed s log.segment (record { state = Active; stamp = stamp; used = end_of log }) next.segment
    (omega (arith, next.behind_used))

pub stays_with_error : (s : Segments) (segment : ℕ) → segment < length s.each
    → StaysUsed s (with_error s segment)
stays_with_error s segment within =
    stays_changed s segment (record (info_of s.each segment) { state = Error }) within (omega arith)

-- a used block lies outside the row of the next log
pub outside_row : (s : Segments) (log : Log) (b : ℕ) → AreTidy s → IsNextLog s log → IsUsed s b
    → (b < first_block s.blocks log) ⊎ (first_block s.blocks log + (log.count + 1) ≤ b)
outside_row s log b tidy next (place, at, used) =
    by_segment (cases_eq place.segment log.segment) (cases_lt place.segment log.segment)
  where
    full : place.block < s.blocks
    full = let f = room_of s.blocks s.each tidy.each place.segment in omega (arith, f, used)

    by_segment : (place.segment ≡ log.segment) ⊎ (place.segment ≡ log.segment → ⊥)
        → (place.segment < log.segment) ⊎ (log.segment ≤ place.segment)
        → (b < first_block s.blocks log) ⊎ (first_block s.blocks log + (log.count + 1) ≤ b)
    by_segment (inl h) _ =
        let u : place.block < (info_of s.each log.segment).used =
        subst (λ (k : ℕ). place.block < (info_of s.each k).used) h used in
        let m : place.segment * s.blocks ≡ log.segment * s.blocks = ap (λ (k : ℕ). k * s.blocks) h in
        inl (omega (arith, m, at, u, next.behind_used))
    by_segment (inr n) (inl h) =
        let m : (place.segment + 1) * s.blocks ≤ log.segment * s.blocks =
        mul-le-mul_right s.blocks (omega arith) in
        inl (omega (arith, m, at, full))
    by_segment (inr n) (inr h) =
        let m : (log.segment + 1) * s.blocks ≤ place.segment * s.blocks =
        mul-le-mul_right s.blocks (omega arith) in
        inr (omega (arith, m, at, next.is_log.inside))

-- its own blocks are used then
pub used_row : (s : Segments) (log : Log) (stamp k : ℕ) → IsNextLog s log → k < log.count + 1
    → IsUsed (with_log s log stamp) (first_block s.blocks log + k)
used_row s log stamp k next h =
    let u =
    used_same s.each log.segment
    (record { state = Active; stamp = stamp; used = end_of log }) next.segment in
    (record { segment = log.segment; block = log.first + k }, omega arith, rw u (omega arith))

-- what is used once a segment is clean lies outside it
pub outside_segment : (s : Segments) (segment b : ℕ) → AreTidy s → segment < length s.each
    → IsUsed (with_clean s segment) b → (b < segment * s.blocks) ⊎ (segment * s.blocks + s.blocks ≤ b)
outside_segment s segment b tidy within (place, at, used) =
    by_segment (cases_eq place.segment segment) (cases_lt place.segment segment)
  where
    by_segment : (place.segment ≡ segment) ⊎ (place.segment ≡ segment → ⊥)
        → (place.segment < segment) ⊎ (segment ≤ place.segment)
        → (b < segment * s.blocks) ⊎ (segment * s.blocks + s.blocks ≤ b)
    by_segment (inl h) _ =
        let none : place.block < 0 =
        subst (λ (i : SegmentInfo). place.block < i.used)
        (get_or-set_same s.each segment clean_info clean_info within)
        (subst (λ (k : ℕ). place.block < (info_of (set s.each segment clean_info) k).used) h used) in
        absurd (omega (arith, none))
    by_segment (inr n) (inl h) =
        let f = room_of s.blocks s.each tidy.each place.segment in
        let u : place.block < (info_of s.each place.segment).used =
        subst (λ (i : SegmentInfo). place.block < i.used)
        (get_or-set_other s.each segment place.segment clean_info clean_info n) used in
        let m : (place.segment + 1) * s.blocks ≤ segment * s.blocks =
        mul-le-mul_right s.blocks (omega arith) in
        inl (omega (arith, m, at, f, u))
    by_segment (inr n) (inr h) =
        let m : (segment + 1) * s.blocks ≤ place.segment * s.blocks =
        mul-le-mul_right s.blocks (omega arith) in
        inr (omega (arith, m, at))

-- used blocks are blocks of the device
pub used_inside : (s : Segments) (b : ℕ) → AreTidy s → IsUsed s b → b < total_blocks s
used_inside s b tidy (place, at, used) =
    let f = room_of s.blocks s.each tidy.each place.segment in
    let within : place.segment < length s.each = elim (cases_lt place.segment (length s.each)) [
      | inl h ↦ h
      | inr h ↦
          (let none : place.block
          < 0 =
          subst (λ (i : SegmentInfo). place.block < i.used)
          (get_or_past s.each place.segment clean_info h) used in
          absurd (omega (arith, none)))
    ] in
    let m : (place.segment + 1) * s.blocks ≤ length s.each * s.blocks =
    mul-le-mul_right s.blocks (omega arith) in
    omega (arith, m, at, f, used)

-- ---- the numbers of the payload blocks of logs

pub length-row_of : (b n : ℕ) → length (blocks_from b n) ≡ n
length-row_of b zero = refl
length-row_of b (suc n) = ap suc (length-row_of (suc b) n)

pub length-addresses : (blocks : ℕ) (logs : List Log) → length (addresses blocks logs) ≡ payload_count logs
length-addresses blocks [] = refl
length-addresses blocks (log ∷ logs) =
    let here = length-row_of (first_block blocks log + 1) log.count in
    let rest = length-addresses blocks logs in
    length-append (blocks_from (first_block blocks log + 1) log.count) (addresses blocks logs)
    ∙ omega (arith, here, rest)

-- what holds of each number of a row
pub all_in_row : (P : ℕ → Type 0) (b n : ℕ) → ((k : ℕ) → k < n → P (b + k))
    → AllByRecursion P (blocks_from b n)
all_in_row P b zero h = tt
all_in_row P b (suc n) h = (
  subst P (let e : b + 0 ≡ b = omega arith in e) (h 0 (omega arith)),
  all_in_row P (suc b) n
      (λ k l. subst P (let e : b + suc k ≡ suc b + k = omega arith in e) (h (suc k) (omega arith))),
)

pub all-append : (P : ℕ → Type 0) (xs ys : List ℕ) → AllByRecursion P xs → AllByRecursion P ys
    → AllByRecursion P (xs ++ ys)
all-append P [] ys h k = k
all-append P (x ∷ xs) ys h k = (h.0, all-append P xs ys h.1 k)

all-weaken : (P Q : ℕ → Type 0) (xs : List ℕ) → ((x : ℕ) → P x → Q x) → AllByRecursion P xs
    → AllByRecursion Q xs
all-weaken P Q [] f h = tt
all-weaken P Q (x ∷ xs) f h = (f x h.0, all-weaken P Q xs f h.1)

-- each payload block is used, once the logs are written
pub payload_used : (logs : List Log) (s : Segments) (stamp : ℕ) → AreTidy s → AreNextLogs s stamp logs
    → StaysUsed s (with_logs s logs stamp)
    × AllByRecursion (IsUsed (with_logs s logs stamp)) (addresses s.blocks logs)
payload_used [] s stamp tidy next = ((λ b u. u), tt)
payload_used (log ∷ logs) s stamp tidy next =
    let rest =
    payload_used logs (with_log s log stamp) stamp
    (tidy_with_log s log stamp tidy next.0.is_log.inside) next.1 in (
      (λ b u. rest.0 b (stays_with_log s log stamp next.0 b u)),
      all-append _ (blocks_from (first_block s.blocks log + 1) log.count) (addresses s.blocks logs)
          (all_in_row _ (first_block s.blocks log + 1) log.count (λ k l.
          let e : first_block s.blocks log + suc k ≡ first_block s.blocks log + 1 + k = omega arith in
          rest.0 _
          (subst (IsUsed (with_log s log stamp)) e (used_row s log stamp (suc k) next.0 (omega arith)))))
          rest.1,
    )

-- and none was used before
pub payload_unused : (logs : List Log) (s : Segments) (stamp : ℕ) → AreTidy s → AreNextLogs s stamp logs
    → AllByRecursion (λ b. IsUsed s b → ⊥) (addresses s.blocks logs)
payload_unused [] s stamp tidy next = tt
payload_unused (log ∷ logs) s stamp tidy next =
    all-append _ (blocks_from (first_block s.blocks log + 1) log.count) (addresses s.blocks logs)
    (all_in_row _ (first_block s.blocks log + 1) log.count
    (λ k l u. elim (outside_row s log _ tidy next.0 u) [ inl h ↦ omega arith | inr h ↦ omega arith ]))
    (all-weaken _ _ (addresses s.blocks logs) (λ b none u. none (stays_with_log s log stamp next.0 b u))
    (payload_unused logs (with_log s log stamp) stamp
    (tidy_with_log s log stamp tidy next.0.is_log.inside) next.1))

payload_inside : (logs : List Log) (s : Segments) (stamp : ℕ) → AreTidy s → AreNextLogs s stamp logs
    → AllByRecursion (λ b. b < total_blocks s) (addresses s.blocks logs)
payload_inside [] s stamp tidy next = tt
payload_inside (log ∷ logs) s stamp tidy next =
    let after = tidy_with_log s log stamp tidy next.0.is_log.inside in
    let size : total_blocks (with_log s log stamp) ≡ total_blocks s =
    ap (λ (n : ℕ). n * s.blocks) (length-with_log s log stamp) in
    all-append _ (blocks_from (first_block s.blocks log + 1) log.count) (addresses s.blocks logs)
    (all_in_row _ (first_block s.blocks log + 1) log.count (λ k l.
    let e : first_block s.blocks log + suc k ≡ first_block s.blocks log + 1 + k = omega arith in
    let used = subst (IsUsed (with_log s log stamp)) e (used_row s log stamp (suc k) next.0 (omega arith)) in
    subst (λ (n : ℕ). first_block s.blocks log + 1 + k < n) size
    (used_inside (with_log s log stamp) _ after used)))
    (subst (λ (n : ℕ). AllByRecursion (λ b. b < n) (addresses s.blocks logs)) size
    (payload_inside logs (with_log s log stamp) stamp after next.1))

-- a number that differs from all of them is none of them
none_equal : (b : ℕ) (bs : List ℕ) → AllByRecursion (λ c. b ≢ c) bs → is_one_of bs b ≡ false
none_equal b [] others = refl
none_equal b (c ∷ bs) others = ap (λ t. t || is_one_of bs b) (ne_eqb b c others.0) ∙ none_equal b bs others.1

-- numbers of a row differ from one another, and from numbers that lack what the row has
distinct_row : (P : ℕ → Type 0) (b n : ℕ) (more : List ℕ) → ((k : ℕ) → k < n → P (b + k))
    → AllByRecursion (λ c. P c → ⊥) more → NoneTwice more → NoneTwice (blocks_from b n ++ more)
distinct_row P b zero more has none distinct = distinct
distinct_row P b (suc n) more has none distinct = (
  none_equal b (blocks_from (suc b) n ++ more)
      (all-append (λ c. b ≢ c) (blocks_from (suc b) n) more
      (all_in_row (λ c. b ≢ c) (suc b) n (λ k l e. omega (arith, e)))
      (all-weaken _ _ more
      (λ c lacks same. lacks (subst P (let e : b + 0 ≡ c = omega (arith, same) in e) (has 0 (omega arith))))
      none)),
  distinct_row P (suc b) n more
      (λ k l. subst P (let e : b + suc k ≡ suc b + k = omega arith in e) (has (suc k) (omega arith))) none
      distinct,
)

payload_distinct : (logs : List Log) (s : Segments) (stamp : ℕ) → AreTidy s → AreNextLogs s stamp logs
    → NoneTwice (addresses s.blocks logs)
payload_distinct [] s stamp tidy next = tt
payload_distinct (log ∷ logs) s stamp tidy next =
    let after = tidy_with_log s log stamp tidy next.0.is_log.inside in
    distinct_row (IsUsed (with_log s log stamp)) (first_block s.blocks log + 1) log.count
    (addresses s.blocks logs)
    (λ k l.
    let e : first_block s.blocks log + suc k ≡ first_block s.blocks log + 1 + k = omega arith in
    subst (IsUsed (with_log s log stamp)) e (used_row s log stamp (suc k) next.0 (omega arith)))
    (payload_unused logs (with_log s log stamp) stamp after next.1)
    (payload_distinct logs (with_log s log stamp) stamp after next.1)

pub are_unused : (n : ℕ) (logs : List Log) (s : Segments) (stamp : ℕ) → AreTidy s → AreNextLogs s stamp logs
    → payload_count logs ≡ n → AreUnused s n (addresses s.blocks logs)
are_unused n logs s stamp tidy next total = record {
  count = length-addresses s.blocks logs ∙ total;
  inside = payload_inside logs s stamp tidy next;
  unused = payload_unused logs s stamp tidy next;
  distinct = payload_distinct logs s stamp tidy next;
}
