-- The active segment of a table.
use Rattle.std.proofs.Common.{◌≡◌, ℕ, zero, suc, ◌+◌, ◌<◌, ◌≤◌, inl, inr, Bool, true, false, List, [], ◌∷◌, ◌++◌, ◌-◌, length, set, Option, Some, None, refl, ap, sym, ◌∙◌, arith, subst, length-set}
use Rattle.std.proofs.lemmas.Bool.{cases_eq}
use Rattle.std.proofs.lemmas.List.{get_or-set_same, get_or-set_other}
use Rattle.nl_types.specs.declared.segment.Position.{Position}
use Rattle.nl_types.specs.declared.segment.SegmentInfo.{SegmentInfo}
use Rattle.nl_types.specs.declared.segment.SegmentState.TheVariants.{Dirty, Active, Error}
use Rattle.nl_types.specs.Blocks.GrowingLaws.{InfosStay, TidyStays}
use Rattle.nl_types.specs.Plain.Limits.{IsGeometry}
use Rattle.nl_types.specs.Blocks.Segments.{Segments, is_active, clean_from, info_of, clean_info, none_active, active_from, active_place, with_active, with_error, with_clean, grown_to, IsTidy}
use Rattle.nl_types.specs.Facts.SegmentChanges.{length-none_active, info_same, active_alone, tidy_changed, tidy_cleaned, tidy_at, lowest_is_clean}
use Rattle.nl_types.specs.Facts.NextLogs.{has_active}
use Rattle.std.proofs.Math.ListN.{replicate}
use Rattle.std.proofs.lemmas.List.{length-append, length-replicate}
use Rattle.std.specs.List.{AllByRecursion}
use Rattle.std.specs.Option.{IfSome}
use Rattle.std.specs.Prelude.{slice_get}
use Rattle.nl_types.specs.declared.geometry.Geometry.{Geometry}
use Rattle.nl_sufile.specs.Table.{IsSegTable, IsActiveIn}

-- a test that isn't true is false
not_true : (b : Bool) → (b ≡ true → ⊥) → b ≡ false
not_true true h = absurd (h refl)
not_true false h = refl

-- where none is active, all are at rest
none_rests : (infos : List SegmentInfo) → ((i : ℕ) → is_active (info_of infos i).state ≡ true → ⊥)
    → none_active infos ≡ infos
none_rests [] none = refl
none_rests (info ∷ infos) none =
    let here : is_active info.state ≡ false = not_true (is_active info.state) (none 0) in
    rw here (ap (λ (rest : List SegmentInfo). info ∷ rest) (none_rests infos (λ i. none (suc i))))

-- where one is, it alone changes as all are put to rest
one_rests : (infos : List SegmentInfo) (a : ℕ) → a < length infos → is_active (info_of infos a).state ≡ true
    → ((i : ℕ) → is_active (info_of infos i).state ≡ true → i ≡ a)
    → none_active infos ≡ set infos a (record (info_of infos a) { state = Dirty })
one_rests [] a within active only = absurd (omega (arith, within))
one_rests (info ∷ infos) zero within active only =
    rw active (ap (λ (rest : List SegmentInfo). record info { state = Dirty } ∷ rest)
    (none_rests infos (λ i there. let e = only (suc i) there in omega (arith, e))))
one_rests (info ∷ infos) (suc a) within active only =
    let here : is_active info.state ≡ false =
    not_true (is_active info.state) (λ there. let e = only 0 there in omega (arith, e)) in
    rw here (ap (λ (rest : List SegmentInfo). info ∷ rest)
    (one_rests infos a (omega (arith, within)) active
    (λ i there. let e = only (suc i) there in omega (arith, e))))

pub rests_none : (each : List SegmentInfo) → IsActiveIn each None → each ≡ none_active each
rests_none each h = sym (none_rests each (λ i there. let e = h.only i there in cc))

pub rests_one : (each : List SegmentInfo) (a : ℕ) → IsActiveIn each (Some a)
    → none_active each ≡ set each a (record (info_of each a) { state = Dirty })
rests_one each a h =
    let t = h.there a refl in one_rests each a t.0 t.1 (λ i there. let e = h.only i there in cc)

-- the place where the active segment goes on
nowhere_active : (i : ℕ) (infos : List SegmentInfo) → ((j : ℕ) → is_active (info_of infos j).state ≡ true → ⊥)
    → active_from i infos ≡ None
nowhere_active i [] none = refl
nowhere_active i (info ∷ infos) none =
    let here : is_active info.state ≡ false = not_true (is_active info.state) (none 0) in
    rw here (nowhere_active (suc i) infos (λ j. none (suc j)))

active_found : (i : ℕ) (infos : List SegmentInfo) (a : ℕ) → a < length infos
    → is_active (info_of infos a).state ≡ true → ((j : ℕ) → is_active (info_of infos j).state ≡ true → j ≡ a)
    → active_from i infos ≡ Some (record { segment = i + a; block = (info_of infos a).used })
active_found i [] a within active only = absurd (omega (arith, within))
active_found i (info ∷ infos) zero within active only =
    let at : i ≡ i + 0 = omega arith in
    rw active (ap (λ (n : ℕ). let p : Position = record { segment = n; block = info.used } in Some p) at)
active_found i (info ∷ infos) (suc a) within active only =
    let here : is_active info.state ≡ false =
    not_true (is_active info.state) (λ there. let e = only 0 there in omega (arith, e)) in
    let at : suc i + a ≡ i + suc a = omega arith in
    rw here (active_found (suc i) infos a (omega (arith, within)) active
    (λ j there. let e = only (suc j) there in omega (arith, e))
    ∙ ap (λ (n : ℕ). let p : Position = record { segment = n; block = (info_of infos a).used } in Some p) at)

pub active_nowhere : (each : List SegmentInfo) → IsActiveIn each None → active_from 0 each ≡ None
active_nowhere each h = nowhere_active 0 each (λ i there. let e = h.only i there in cc)

pub active_here : (each : List SegmentInfo) (a : ℕ) → IsActiveIn each (Some a)
    → active_from 0 each ≡ Some (record { segment = a; block = (info_of each a).used })
active_here each a h =
    let t = h.there a refl in
    let at : 0 + a ≡ a = omega arith in
    active_found 0 each a t.0 t.1 (λ i there. let e = h.only i there in cc)
    ∙ ap (λ (n : ℕ). let p : Position = record { segment = n; block = (info_of each a).used } in Some p) at

-- ---- what a change keeps

is_table : (s : Segments) (i : ℕ) (info : SegmentInfo) → IsSegTable s → IsTidy s.blocks info
    → IsSegTable (record s { each = set (none_active s.each) i info })
is_table s i info h tidy = record {
  geometry = simp (length-set) (rw length-none_active h.geometry);
  tidy = tidy_changed s i info h.tidy tidy;
}

pub table_active : (s : Segments) (i stamp used : ℕ) → IsSegTable s → i < length s.each → used ≤ s.blocks
    → IsSegTable (with_active s i stamp used) × IsActiveIn (with_active s i stamp used).each (Some i)
table_active s i stamp used h within room =
    let info : SegmentInfo = record { state = Active; stamp = stamp; used = used } in (
      is_table s i info h (record { room = room; clean = λ e. absurd (cc) }),
      record {
        there = λ a e.
            let same : i ≡ a = cc in
            subst (λ (k : ℕ).
            (k < length (set (none_active s.each) i info))
            × (is_active (info_of (set (none_active s.each) i info) k).state ≡ true))
            same (
              simp (length-set) (rw length-none_active within),
              ap (λ (x : SegmentInfo). is_active x.state) (info_same s.each i info within),
            );
        only = λ j there.
            let e : j ≡ i = active_alone s.each i info j there in ap (λ (k : ℕ). Some k) (sym e);
      },
    )

pub table_error : (s : Segments) (i : ℕ) → IsSegTable s → i < length s.each
    → IsSegTable (with_error s i) × IsActiveIn (with_error s i).each None
table_error s i h within =
    let info : SegmentInfo = record (info_of s.each i) { state = Error } in (
      is_table s i info h
          (record { room = (tidy_at s.blocks s.each h.tidy.each i).room; clean = λ e. absurd (cc) }),
      record {
        there = λ a e. absurd (cc);
        only = λ j there.
            let e : j ≡ i = active_alone s.each i info j there in
            let here : is_active (info_of (set (none_active s.each) i info) i).state ≡ true =
            subst
            (λ (k : ℕ). is_active (info_of (set (none_active s.each) i info) k).state ≡ true) e there in
            let same = info_same s.each i info within in
            let in_error : is_active info.state ≡ true =
            ap (λ (x : SegmentInfo). is_active x.state) (sym same) ∙ here in
            absurd (cc);
      },
    )

clean_table : (s : Segments) (i : ℕ) → IsSegTable s → IsSegTable (with_clean s i)
clean_table s i h = record {
  geometry = simp (length-set) h.geometry;
  tidy = tidy_cleaned s i h.tidy;
}

-- the active one was emptied
pub table_clean_active : (s : Segments) (i : ℕ) → IsSegTable s → IsActiveIn s.each (Some i)
    → IsSegTable (with_clean s i) × IsActiveIn (with_clean s i).each None
table_clean_active s i h active = (
  clean_table s i h,
  record {
    there = λ a e. absurd (cc);
    only = λ j there. elim (cases_eq j i) [
      | inl e ↦ (let within : i < length s.each = (active.there i refl).0 in
          let same = get_or-set_same s.each i clean_info clean_info within in
          let here : is_active (info_of (set s.each i clean_info) i).state ≡ true =
          subst (λ (k : ℕ). is_active (info_of (set s.each i clean_info) k).state ≡ true) e there in
          let clean : is_active clean_info.state ≡ true =
          ap (λ (x : SegmentInfo). is_active x.state) (sym same) ∙ here in
          absurd (cc))
      | inr apart ↦ (let same = get_or-set_other s.each i j clean_info clean_info apart in
          let before : is_active (info_of s.each j).state ≡ true =
          ap (λ (x : SegmentInfo). is_active x.state) (sym same) ∙ there in
          let e : Some i ≡ Some j = active.only j before in
          let eq : i ≡ j = cc in
          absurd (apart (sym eq)))
    ];
  },
)

-- another one was emptied
pub table_clean_other : (s : Segments) (i : ℕ) (active : Option ℕ) → IsSegTable s → i < length s.each
    → IsActiveIn s.each active → (active ≡ Some i → ⊥)
    → IsSegTable (with_clean s i) × IsActiveIn (with_clean s i).each active
table_clean_other s i active h within is other = (
  clean_table s i h,
  record {
    there = λ a e.
        let t = is.there a e in
        elim (cases_eq a i) [
          | inl same ↦ absurd (other (e ∙ ap (λ (k : ℕ). Some k) same))
          | inr apart ↦ (
            simp (length-set) t.0,
            ap (λ (x : SegmentInfo). is_active x.state)
                (get_or-set_other s.each i a clean_info clean_info apart)
                ∙ t.1,
          )
        ];
    only = λ j there. elim (cases_eq j i) [
      | inl e ↦ (let same = get_or-set_same s.each i clean_info clean_info within in
          let here : is_active (info_of (set s.each i clean_info) i).state ≡ true =
          subst (λ (k : ℕ). is_active (info_of (set s.each i clean_info) k).state ≡ true) e there in
          let clean : is_active clean_info.state ≡ true =
          ap (λ (x : SegmentInfo). is_active x.state) (sym same) ∙ here in
          absurd (cc))
      | inr apart ↦
          is.only j (ap (λ (x : SegmentInfo). is_active x.state)
          (sym (get_or-set_other s.each i j clean_info clean_info apart))
          ∙ there)
    ];
  },
)

-- the active segment is used no further than it goes
pub active_inside : (s : Segments) → IsSegTable s → IfSome (active_place s) (λ place. place.block ≤ s.blocks)
active_inside s h = inside (active_place s) refl
  where
    inside : (left : Option Position) → active_place s ≡ left → IfSome left (λ place. place.block ≤ s.blocks)
    inside None e = tt
    inside (Some place) e =
        let at = has_active s place e in
        let room = (tidy_at s.blocks s.each h.tidy.each place.segment).room in
        let used = at.used in
        omega (arith, room, used)

-- a new table
all_clean : (blocks n : ℕ) → AllByRecursion (IsTidy blocks) (replicate n clean_info)
all_clean blocks zero = tt
all_clean blocks (suc n) = (record { room = omega arith; clean = λ e. refl }, all_clean blocks n)

none_new : (n i : ℕ) → is_active (info_of (replicate n clean_info) i).state ≡ false
none_new zero i = refl
none_new (suc n) zero = refl
none_new (suc n) (suc i) = none_new n i

pub table_new : (g : Geometry)
    → (let s : Segments = record { blocks = g.blocks; each = replicate g.segments clean_info } in
    IsSegTable s × IsActiveIn s.each None)
table_new g = (
  record {
    geometry =
        subst (λ (n : ℕ). IsGeometry n g.blocks) (sym (length-replicate g.segments clean_info)) (record {
          least_segments = g.least_segments;
          most_segments = g.most_segments;
          least_blocks = g.least_blocks;
          most_blocks = g.most_blocks;
          most = g.most;
        });
    tidy = record {
      each = all_clean g.blocks g.segments;
      one_active = λ i j a b. let none = none_new g.segments i in absurd (cc);
    };
  },
  record { there = λ a e. absurd (cc); only = λ i a. let none = none_new g.segments i in absurd (cc) },
)

-- the lowest clean segment is one of the table's
pub lowest_within : (each : List SegmentInfo) (clean : List ℕ) (segment : ℕ) → clean_from 0 each ≡ clean
    → slice_get clean 0 ≡ Some segment → segment < length each
lowest_within each [] segment e there = absurd (cc)
lowest_within each (j ∷ rest) segment e there =
    let at = lowest_is_clean 0 each j rest e in
    let same : j ≡ segment = cc in
    omega (arith, at.at, at.within, same)

-- more segments come behind the others
pub table_grown : InfosStay → TidyStays → (s : Segments) (n : ℕ) (active : Option ℕ) → IsSegTable s
    → IsActiveIn s.each active → length s.each ≤ n → IsGeometry n s.blocks
    → IsSegTable (grown_to n s) × IsActiveIn (s.each ++ replicate (n - length s.each) clean_info) active
table_grown infos tidy s n active is_table known more limits = (
  record {
    geometry = subst (λ k. IsGeometry k s.blocks) (sym size) limits;
    tidy = tidy n s is_table.tidy;
  },
  record {
    there = λ a is.
        let at = known.there a is in
        (omega (arith, at.0, size, more), ap (λ (x : SegmentInfo). is_active x.state) (infos n a s) ∙ at.1);
    only = λ i there. known.only i (sym (ap (λ (x : SegmentInfo). is_active x.state) (infos n i s)) ∙ there);
  },
)
  where
    size : length (grown_to n s).each ≡ n
    size = rw (length-append, length-replicate) (omega (arith, more))
