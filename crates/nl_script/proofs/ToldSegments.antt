-- What is told of segments, one after another.
use Rattle.std.proofs.Common.{◌≡◌, ◌∙◌, ◌+◌, ◌≤◌, ◌++◌, ap, List, ◌∷◌, [], ℕ, zero, suc, Bool, Result, Ok, Err, OnErr, length, map, arith}
use Rattle.std.proofs.lemmas.List.FromFn.{length-map-range_with_len}
use Rattle.std.specs.List.{range_with_len}
use Rattle.std.specs.Option.{ok_or}
use Rattle.std.specs.Prelude.{slice_get}
use Rattle.nl_types.specs.declared.error.VolError.{VolError}
use Rattle.nl_types.specs.declared.error.VolError.TheVariants.{BadRange}
use Rattle.nl_types.specs.declared.segment.SegmentInfo.{SegmentInfo}
use Rattle.nl_script.specs.declared.texts.segments.SegmentRow.{SegmentRow}
use Rattle.nl_vstore.specs.Located.{needed_count}
use Rattle.nl_commit.specs.CleanerViews.{needed_told}
use Rattle.nl_commit.specs.CleaningEvents.{needed_by}
use Rattle.nl_commit.specs.Layout.{Layout}
use Rattle.nl_script.specs.Lines.{row_of, rows_from}

-- where a result is an error this is so, since it is so anyway
pub on_err : {A E : Type 0} (r : Result A E) (P : Type 0) → P → OnErr r P
on_err (Ok a) P p = tt
on_err (Err e) P p = p

-- what is refused isn't there
pub missing : {A : Type 0} (told : List A) (n : ℕ) (error : VolError)
    → Err error ≡ ok_or (slice_get told n) BadRange → length told ≤ n
missing [] n error refused = omega arith
missing (x ∷ told) zero error refused = absurd (cc)
missing (x ∷ told) (suc n) error refused = let rest = missing told n error refused in omega (arith, rest)

there : (f : ℕ → ℕ) (first count n m : ℕ)
    → Ok m ≡ ok_or (slice_get (map f (range_with_len first count)) n) BadRange → m ≡ f (first + n)
there f first zero n m told = absurd (cc)
there f first (suc count) zero m told =
    let is : m ≡ f first = cc in
    let same : first ≡ first + 0 = omega arith in
    is ∙ ap f same
there f first (suc count) (suc n) m told =
    let same : (first + 1) + n ≡ first + suc n = omega arith in
    there f (first + 1) count n m told ∙ ap f same

-- how many needed blocks a segment has
pub needed-there : (l : Layout) (segment count : ℕ) → Ok count ≡ needed_told l segment
    → count ≡ needed_count l.store (needed_by l.lists) segment
needed-there l segment count told =
    let same : 0 + segment ≡ segment = omega arith in
    there (needed_count l.store (needed_by l.lists)) 0 (length l.store.segments.each) segment count told
    ∙ ap (needed_count l.store (needed_by l.lists)) same

pub needed-missing : (l : Layout) (segment : ℕ) (error : VolError) → Err error ≡ needed_told l segment
    → length l.store.segments.each ≤ segment
needed-missing l segment error refused =
    let each = l.store.segments.each in
    let count = length-map-range_with_len (needed_count l.store (needed_by l.lists)) 0 (length each) in
    let all = missing _ segment error refused in
    omega (arith, count, all)

-- one more row
pub rows-more : (long : Bool) (l : Layout) (first n : ℕ) (infos : List SegmentInfo) (info : SegmentInfo)
    → first + length infos ≡ n
    → rows_from long l first (infos ++ info ∷ []) ≡ rows_from long l first infos ++ row_of long l n info ∷ []
rows-more long l first n [] info at =
    let here : first ≡ n = omega (arith, at) in
    ap (λ (k : ℕ). row_of long l k info ∷ []) here
rows-more long l first n (x ∷ infos) info at =
    let behind : (first + 1) + length infos ≡ n = omega (arith, at) in
    ap (λ (rows : List SegmentRow). row_of long l first x ∷ rows)
    (rows-more long l (first + 1) n infos info behind)
