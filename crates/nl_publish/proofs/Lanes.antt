-- What lanes keep while they read, and what is gathered of them.
use Rattle.std.proofs.Common.{◌≡◌, ℕ, zero, suc, ◌+◌, ◌⊎◌, ◌<◌, arith, length, inl, inr, List, [], ◌∷◌, ◌++◌, refl, sym, ◌∙◌, subst, Some, Err, ap, slice_index_or}
use Rattle.std.specs.Prelude.{All, map, slice_get, slice_set, take}
use Rattle.std.specs.List.{AllZip}
use Rattle.std.proofs.lemmas.List.Elements.{All-nil}
use Rattle.nl_types.specs.declared.error.VolError.TheVariants.{BadMount, Memory}
use Rattle.nl_publish.specs.Histories.{Known}
use Rattle.nl_publish.specs.Mounts.{Claim}
use Rattle.nl_publish.specs.declared.many.ReadJob.{ReadJob}
use Rattle.nl_publish.specs.Jobs.{AreAnswers, AreLanesOver, AreLaterReaders, ArePlaced, HasRunBy, HaveLearned, IsAnswerTo, IsLaneOver, IsLaterReader, IsPlaced, JobAnswer, LaneView, ReaderLaws, all_back, idle, no_memory, with_back}
use Rattle.nl_publish.specs.Reading.{HasLearned, IsBytesOf, IsLater, Told}
use Rattle.nl_publish.specs.FactsOfLanes.Later.{later_on, later_self}

-- an answer of a reader is that of its job
pub placed : (m : Claim) (jobs : List ReadJob) (index : ℕ) (job : ReadJob) (answer : JobAnswer)
    → slice_get jobs index ≡ Some job
    → Told m (answer ≡ Err BadMount) (λ t. IsBytesOf t job.path job.offset job.len answer)
    → IsPlaced m jobs (index, answer)
placed m jobs index job answer at told other there t tree =
    let same : job ≡ other = cc (at, there) in
    subst (λ (k : ReadJob). (answer ≡ Err BadMount) ⊎ IsBytesOf t k.path k.offset k.len answer) same
    (told t tree)

-- ---- lists that go together

zip_set : {A B : Type 0} (R : A → B → Type 0) (xs : List A) (ys : List B) (i : ℕ) (y : B) → AllZip R xs ys
    → ((x : A) → slice_get xs i ≡ Some x → R x y) → AllZip R xs (slice_set ys i y)
zip_set R [] [] i y z h = z
zip_set R (x ∷ xs) (v ∷ ys) zero y z h = (h x refl, z.1)
zip_set R (x ∷ xs) (v ∷ ys) (suc i) y z h = (z.0, zip_set R xs ys i y z.1 h)
zip_set R [] (v ∷ ys) i y z h = absurd z
zip_set R (x ∷ xs) [] i y z h = absurd z

pub zip_all : {A : Type 0} (R : A → A → Type 0) (xs ys : List A) → length ys ≡ length xs
    → ((i : ℕ) (d : A) → i < length xs → R (slice_index_or xs i d) (slice_index_or ys i d)) → AllZip R xs ys
zip_all R [] [] same h = tt
zip_all R (x ∷ xs) (y ∷ ys) same h =
    (h zero x (omega arith), zip_all R xs ys (omega arith) (λ i d less. h (suc i) d (omega arith)))
zip_all R [] (y ∷ ys) same h = absurd (omega arith)
zip_all R (x ∷ xs) [] same h = absurd (omega arith)

-- ---- answers at their places

pub answers_set : (m : Claim) (jobs : List ReadJob) (answers : List JobAnswer) (i : ℕ) (answer : JobAnswer)
    → AreAnswers m jobs answers → IsPlaced m jobs (i, answer) → AreAnswers m jobs (slice_set answers i answer)
answers_set m jobs answers i answer all is = zip_set (IsAnswerTo m) jobs answers i answer all is

no_answer : (m : Claim) (job : ReadJob) → IsAnswerTo m job (Err Memory)
no_answer m job t tree = inr (λ other. absurd (other refl))

pub none_answered : (m : Claim) (jobs : List ReadJob) → AreAnswers m jobs (map no_memory jobs)
none_answered m [] = tt
none_answered m (job ∷ jobs) = (no_answer m job, none_answered m jobs)

-- ---- one more answer

placed_snoc : (m : Claim) (jobs : List ReadJob) (answers : List (ℕ × JobAnswer)) (a : ℕ × JobAnswer)
    → ArePlaced m jobs answers → IsPlaced m jobs a → ArePlaced m jobs (answers ++ a ∷ [])
placed_snoc m jobs [] a all is = (is, tt)
placed_snoc m jobs (x ∷ answers) a all is = (all.0, placed_snoc m jobs answers a all.1 is)

pub placed_more : (m : Claim) (jobs : List ReadJob) (was now : List (ℕ × JobAnswer)) (a : ℕ × JobAnswer)
    → ArePlaced m jobs was → IsPlaced m jobs a → (now ≡ was) ⊎ (now ≡ was ++ a ∷ []) → ArePlaced m jobs now
placed_more m jobs was now a all is (inl same) = subst (ArePlaced m jobs) (sym same) all
placed_more m jobs was now a all is (inr grown) =
    subst (ArePlaced m jobs) (sym grown) (placed_snoc m jobs was a all is)

-- ---- lists that change from the front on

-- the first so many are changed
abbrev pub first_of : {A : Type 0} → (f : A → A) → ℕ → List A → List A
first_of f zero xs = xs
first_of f (suc n) [] = []
first_of f (suc n) (x ∷ xs) = f x ∷ first_of f n xs

pub first_next : {A : Type 0} (f : A → A) (xs : List A) (i : ℕ) (d : A) → i < length xs
    → slice_set (first_of f i xs) i (f (slice_index_or (first_of f i xs) i d)) ≡ first_of f (suc i) xs
first_next f [] i d less = absurd (omega arith)
first_next f (x ∷ xs) zero d less = refl
first_next f (x ∷ xs) (suc i) d less = ap (λ ys. f x ∷ ys) (first_next f xs i d (omega arith))

pub first_all : {A : Type 0} (f : A → A) (xs : List A) → first_of f (length xs) xs ≡ map f xs
first_all f [] = refl
first_all f (x ∷ xs) = ap (λ ys. f x ∷ ys) (first_all f xs)

-- the next one is as it was
pub first_at : {A : Type 0} (f : A → A) (xs : List A) (i : ℕ) (d : A)
    → slice_index_or (first_of f i xs) i d ≡ slice_index_or xs i d
first_at f xs zero d = refl
first_at f [] (suc i) d = refl
first_at f (x ∷ xs) (suc i) d = first_at f xs i d

pub map_next : {A B : Type 0} (f : A → B) (xs : List A) (i : ℕ) (d : A) → i < length xs
    → map f (take i xs) ++ f (slice_index_or xs i d) ∷ [] ≡ map f (take (suc i) xs)
map_next f [] i d less = absurd (omega arith)
map_next f (x ∷ xs) zero d less = refl
map_next f (x ∷ xs) (suc i) d less = ap (λ ys. f x ∷ ys) (map_next f xs i d (omega arith))

-- by the steps of a loop
pub first_on : {A : Type 0} (f : A → A) (xs ys : List A) (i : ℕ) (d y : A) → ys ≡ first_of f i xs
    → i < length xs → y ≡ f (slice_index_or ys i d) → slice_set ys i y ≡ first_of f (i + 1) xs
first_on {A} f xs ys i d y is less made =
    let next : suc i ≡ i + 1 = omega arith in
    ap (slice_set ys i) made
    ∙ (subst (λ (zs : List A). slice_set zs i (f (slice_index_or zs i d)) ≡ first_of f (suc i) xs) (sym is)
    (first_next f xs i d less) ∙ ap (λ n. first_of f n xs) next)

pub map_on : {A B : Type 0} (f : A → B) (xs : List A) (ys : List B) (i : ℕ) (d : A) (y : B)
    → ys ≡ map f (take i xs) → i < length xs → y ≡ f (slice_index_or xs i d)
    → ys ++ y ∷ [] ≡ map f (take (i + 1) xs)
map_on f xs ys i d y is less made =
    let next : suc i ≡ i + 1 = omega arith in
    rw (is, made) (map_next f xs i d less ∙ ap (λ n. map f (take n xs)) next)

-- the item that is changed next is as it was
pub first_same : {A : Type 0} (f : A → A) (xs ys : List A) (i : ℕ) (d : A) → ys ≡ first_of f i xs
    → slice_index_or ys i d ≡ slice_index_or xs i d
first_same {A} f xs ys i d is = ap (λ (zs : List A). slice_index_or zs i d) is ∙ first_at f xs i d

-- ---- the first readers are back

module _ {P : Type 0} (joined : P → P → P) (taken left : P → P) where
  -- a lane whose reader is back
  abbrev pub emptied : LaneView P → LaneView P
  emptied l = record { reader = left l.reader; answers = [] }

  abbrev pub first_back : ℕ → List P → List (LaneView P) → List P
  first_back zero places lanes = places
  first_back (suc n) [] lanes = []
  first_back (suc n) (p ∷ places) [] = p ∷ places
  first_back (suc n) (p ∷ places) (l ∷ lanes) =
      with_back joined taken p l ∷ first_back n places lanes

  pub back_next : (places : List P) (lanes : List (LaneView P)) (i : ℕ) (d : P) (e : LaneView P)
      → i < length places → length lanes ≡ length places
      → slice_set (first_back i places lanes) i
      (with_back joined taken (slice_index_or (first_back i places lanes) i d) (slice_index_or lanes i e))
      ≡ first_back (suc i) places lanes
  back_next [] lanes i d e less same = absurd (omega arith)
  back_next (p ∷ places) [] i d e less same = absurd (omega arith)
  back_next (p ∷ places) (l ∷ lanes) zero d e less same = refl
  back_next (p ∷ places) (l ∷ lanes) (suc i) d e less same =
      ap (λ ps. with_back joined taken p l ∷ ps)
      (back_next places lanes i d e (omega arith) (omega arith))

  pub back_all : (places : List P) (lanes : List (LaneView P)) → length lanes ≡ length places
      → first_back (length places) places lanes ≡ all_back joined taken places lanes
  back_all [] lanes same = refl
  back_all (p ∷ places) [] same = absurd (omega arith)
  back_all (p ∷ places) (l ∷ lanes) same =
      ap (λ ps. with_back joined taken p l ∷ ps) (back_all places lanes (omega arith))

  back_at : (places : List P) (lanes : List (LaneView P)) (i : ℕ) (d : P)
      → slice_index_or (first_back i places lanes) i d ≡ slice_index_or places i d
  back_at places lanes zero d = refl
  back_at [] lanes (suc i) d = refl
  back_at (p ∷ places) [] (suc i) d = refl
  back_at (p ∷ places) (l ∷ lanes) (suc i) d = back_at places lanes i d

  -- by the steps of a loop
  pub back_on : (places readers : List P) (old lanes : List (LaneView P)) (i : ℕ) (d q : P) (e : LaneView P)
      → readers ≡ first_back i places old → lanes ≡ first_of emptied i old
      → i < length places → length old ≡ length places
      → q ≡ with_back joined taken (slice_index_or readers i d) (slice_index_or lanes i e)
      → slice_set readers i q ≡ first_back (i + 1) places old
  back_on places readers old lanes i d q e is are less same made =
      let next : suc i ≡ i + 1 = omega arith in
      let item : q ≡ with_back joined taken (slice_index_or readers i d) (slice_index_or old i e) =
      made ∙ ap (with_back joined taken (slice_index_or readers i d)) (first_same emptied old lanes i e are) in
      ap (slice_set readers i) item
      ∙ (subst (λ (zs : List P).
      slice_set zs i (with_back joined taken (slice_index_or zs i d) (slice_index_or old i e))
      ≡ first_back (suc i) places old)
      (sym is) (back_next places old i d e less same)
      ∙ ap (λ n. first_back n places old) next)

  pub back_same : (places readers : List P) (old : List (LaneView P)) (i : ℕ) (d : P)
      → readers ≡ first_back i places old → slice_index_or readers i d ≡ slice_index_or places i d
  back_same places readers old i d is =
      ap (λ (zs : List P). slice_index_or zs i d) is ∙ back_at places old i d

-- ---- lanes that have run

-- what is known of the lane at a place
pub lane_over : {P : Type 0} (known : P → Known) (m : Claim) (jobs : List ReadJob) (places : List P)
    (lanes : List (LaneView P)) (i : ℕ) (d : P) (e : LaneView P)
    → i < length places → AreLanesOver known m jobs places lanes
    → IsLaneOver known m jobs (slice_index_or places i d) (slice_index_or lanes i e)
lane_over known m jobs [] lanes i d e less all = absurd (omega arith)
lane_over known m jobs (p ∷ places) [] i d e less all = absurd all
lane_over known m jobs (p ∷ places) (l ∷ lanes) zero d e less all = all.0
lane_over known m jobs (p ∷ places) (l ∷ lanes) (suc i) d e less all =
    lane_over known m jobs places lanes i d e (omega arith) all.1

-- so it is in a loop that changes those before it
pub lane_now : {P : Type 0} (known : P → Known) (m : Claim) (jobs : List ReadJob) (p q : P) (l k : LaneView P)
    → q ≡ p → k ≡ l → IsLaneOver known m jobs p l → IsLaneOver known m jobs q k
lane_now {P} known m jobs p q l k same is over =
    subst (λ (r : P). IsLaneOver known m jobs r k) (sym same)
    (subst (λ (n : LaneView P). IsLaneOver known m jobs p n) (sym is) over)

all_cons : {A : Type 0} (P : A → Type 0) (x : A) (xs : List A) → P x → All P xs → All P (x ∷ xs)
all_cons P x xs here rest zero d less = here
all_cons P x xs here rest (suc k) d less = rest k d (omega arith)

module _ {P : Type 0} (known : P → Known) (with_known : P → Known → P) (taken left : P → P)
    (joined : P → P → P) (laws : ReaderLaws known with_known taken left joined) where
  pub later_reader : (r : P) → IsLaterReader known with_known r r
  later_reader r = record { later = later_self (known r); kept = sym (laws.same_known r) }

  pub reader_on : (a b c : P) → IsLaterReader known with_known a b → IsLaterReader known with_known b c
      → IsLaterReader known with_known a c
  reader_on a b c p q = record {
    later = later_on (known a) (known b) (known c) p.later q.later;
    kept =
        q.kept ∙ (ap (λ r. with_known r (known c)) p.kept ∙ laws.with_more a (known b) (known c));
  }

  pub all_later : (readers : List P) → AreLaterReaders known with_known readers readers
  all_later [] = tt
  all_later (r ∷ readers) = (later_reader r, all_later readers)

  module _ (m : Claim) (jobs : List ReadJob) where
    -- a lane that ran for a reader is over the place that it left
    pub lanes_over : (readers : List P) (lanes : List (LaneView P))
        → AllZip (HasRunBy known with_known m jobs) (map (idle taken) readers) lanes
        → AreLanesOver known m jobs (map left readers) lanes
    lanes_over [] [] run = run
    lanes_over [] (l ∷ lanes) run = absurd run
    lanes_over (r ∷ readers) [] run = absurd run
    lanes_over (r ∷ readers) (l ∷ lanes) run = (
      record {
        later =
            subst (λ (k : Known). IsLater k (known l.reader)) (laws.known_taken r ∙ sym (laws.known_left r))
            run.0.later.later;
        answers = run.0.answers;
      },
      lanes_over readers lanes run.1,
    )

    -- the reader that comes back is the one that was taken, but for what it has seen
    back_is : (r : P) (l : LaneView P) → HasRunBy known with_known m jobs (idle taken r) l
        → with_back joined taken (left r) l ≡ with_known r (known l.reader)
    back_is r l run =
        ap (λ q. joined (left r) (taken q)) run.later.kept ∙ laws.joined_again r (known l.reader)

    pub back_later : (readers : List P) (lanes : List (LaneView P))
        → AllZip (HasRunBy known with_known m jobs) (map (idle taken) readers) lanes
        → AreLaterReaders known with_known readers (all_back joined taken (map left readers) lanes)
    back_later [] [] run = tt
    back_later [] (l ∷ lanes) run = absurd run
    back_later (r ∷ readers) [] run = absurd run
    back_later (r ∷ readers) (l ∷ lanes) run =
        let now = with_back joined taken (left r) l in
        let seen : known now ≡ known l.reader =
        ap known (back_is r l run.0) ∙ laws.known_with r (known l.reader) in (
          record {
            later =
                subst (λ (k : Known). IsLater (known r) k) (sym seen)
                (subst (λ (k : Known). IsLater k (known l.reader)) (laws.known_taken r) run.0.later.later);
            kept = back_is r l run.0 ∙ ap (with_known r) (sym seen);
          },
          back_later readers lanes run.1,
        )

    pub back_learned : (readers : List P) (lanes : List (LaneView P))
        → AllZip (HasRunBy known with_known m jobs) (map (idle taken) readers) lanes
        → HaveLearned known m (all_back joined taken (map left readers) lanes)
    back_learned [] [] run = All-nil (λ r. HasLearned m (known r))
    back_learned [] (l ∷ lanes) run = absurd run
    back_learned (r ∷ readers) [] run = absurd run
    back_learned (r ∷ readers) (l ∷ lanes) run =
        all_cons (λ q. HasLearned m (known q)) (with_back joined taken (left r) l)
        (all_back joined taken (map left readers) lanes)
        (subst (HasLearned m) (sym (ap known (back_is r l run.0) ∙ laws.known_with r (known l.reader)))
        run.0.learned)
        (back_learned readers lanes run.1)
