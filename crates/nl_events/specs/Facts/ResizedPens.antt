-- What a resize does to a pen, as an event.
use Rattle.std.proofs.Common.{◌≡◌, ℕ, zero, suc, ◌+◌, ◌-◌, ◌*◌, ◌<◌, ◌≤◌, Bool, true, false, cond, List, [], ◌∷◌, ◌++◌, length, Option, None, refl, sym, ap, ◌∙◌, inl, inr, arith, true≢false}
use Rattle.std.specs.Prelude.{is_ok, nat_lt, replicate, slice_index_or, Ok, Err}
use Rattle.std.specs.Option.{option_map}
use Rattle.std.proofs.Math.Nat.{mul-le-mul_right}
use Rattle.std.proofs.Math.ListN.{get_or-map}
use Rattle.std.proofs.lemmas.Bool.{ltb-false, ltb-true}
use Rattle.std.proofs.lemmas.List.{append-nil, ext_get_or, length-append, length-map, length-replicate}
use Rattle.std.proofs.lemmas.List.FromFn.{length-map-range_with_len}
use Rattle.nl_types.specs.declared.error.VolError.{VolError}
use Rattle.nl_types.specs.declared.error.VolError.TheVariants as error
use Rattle.nl_types.specs.declared.event.Event.TheVariants.{Resize}
use Rattle.nl_types.specs.declared.reply.Answer.{Answer}
use Rattle.nl_types.specs.declared.reply.Answer.TheVariants as answer
use Rattle.nl_types.specs.Blocks.Entries.{is_needed}
use Rattle.nl_types.specs.Plain.Limits.{is_geometry}
use Rattle.nl_types.specs.Blocks.Segments.{Segments, clean_info}
use Rattle.nl_types.specs.declared.segment.SegmentInfo.{SegmentInfo}
use Rattle.nl_types.specs.Plain.Runs.{Step}
use Rattle.nl_types.specs.Plain.Worlds.{Reply, World}
use Rattle.nl_vstore.specs.Located.{needed_count}
use Rattle.nl_vstore.specs.Stores.{HasGrown, IsGrowthRefused, IsStore, Store, capacity, content_in, entry_now}
use Rattle.nl_reclaim.specs.Counted.{Counted}
use Rattle.nl_events.specs.CleanedPens.{StaysPen}
use Rattle.nl_commit.specs.CleaningEvents.{HasResized, HasResizedNone, kept_numbers, resized_by}
use Rattle.nl_commit.specs.Commits.{with_room}
use Rattle.nl_commit.specs.Layout.{Does, HasRefused, IsPen, Layout, layout_of, ledger_of, unshared}
use Rattle.nl_events.specs.NeededBlocks.{AreNeededCounts}
use Rattle.nl_commit.specs.Notes.{shown_of, shown_page}
use Rattle.nl_commit.specs.Volume.{Lists}
use Rattle.nl_commit.specs.declared.commit.ShownPage.{ShownPage}
use Rattle.nl_events.specs.Facts.CleanedPens.{content-of, same-content}

-- ---- what numbers stand for stays

content-grown : (segments : ℕ) (old new : Store) → HasGrown segments old new → content_in new ≡ content_in old
content-grown segments old new grown = λ i v. option_map entry_now (grown.numbers v i)

pub unresized-numbers : (segments : ℕ) (e : VolError) (old new : Store) → HasResizedNone segments old new e
    → new.numbers ≡ old.numbers
unresized-numbers segments error.Fault old new refused = refused.1.2.numbers
unresized-numbers segments error.Memory old new refused = ap (λ (s : Store). s.numbers) refused.1
unresized-numbers segments _ old new refused = ap (λ (s : Store). s.numbers) refused.0

module _ (old new : Layout) (pen : IsPen old) (lists : new.lists ≡ old.lists)
    (store : IsStore new.store) where
  grown-stays : (segments : ℕ) → HasGrown segments old.store new.store → StaysPen old new
  grown-stays segments grown =
      same-content old new pen lists store (content-grown segments old.store new.store grown)

  unresized-stays : (segments : ℕ) (e : VolError) → HasResizedNone segments old.store new.store e
      → StaysPen old new
  unresized-stays segments e refused =
      same-content old new pen lists store
      (content-of old.store new.store (unresized-numbers segments e old.store new.store refused))

pub resized-ledger : (old new : Layout) → IsPen old → new.lists ≡ old.lists → IsStore new.store
    → {segments : ℕ} → HasGrown segments old.store new.store
    → ledger_of new ≡ ledger_of old
resized-ledger old new pen lists store {segments} grown =
    let stays = grown-stays old new pen lists store segments grown in stays.ledger

pub unresized-ledger : (old new : Layout) (segments : ℕ) (e : VolError) → IsPen old
    → HasRefused (Resize segments) e old new → IsStore new.store
    → ledger_of new ≡ ledger_of old
unresized-ledger old new segments e pen refused store =
    let stays = unresized-stays old new pen refused.0 store segments e refused.1 in stays.ledger

-- ---- the event

module _ (l : Lists) (old new : Store) (segments : ℕ) (pen : IsPen (layout_of l old)) (store : IsStore new)
    (counted : old.failures ≤ new.failures) where
  pub does-resized : HasResized segments answer.Done old new
      → Does unshared (layout_of l old) (Resize segments) (Ok answer.Done) (layout_of l new)
  does-resized resized =
      let stays : StaysPen (layout_of l old) (layout_of l new) =
      grown-stays (layout_of l old) (layout_of l new) pen refl store segments resized.grown in
      record {
        follows = λ w m. record {
          after = w;
          means = stays.means w m;
          step = inl (ap (λ (r : Reply). (r, w)) resized.judged);
        };
        becomes = (refl, resized);
        numbers = stays.numbers;
        pen = stays.pen;
        failures = counted;
      }

  pub does-not-resized : (e : VolError) → HasResizedNone segments old new e
      → Does unshared (layout_of l old) (Resize segments) (Err e) (layout_of l new)
  does-not-resized e refused = record {
    follows = λ w m. record { after = w; means = stays.means w m; step = step e w refused };
    becomes = (refl, refused);
    numbers = stays.numbers;
    pen = stays.pen;
    failures = counted;
  }
    where
      stays : StaysPen (layout_of l old) (layout_of l new)
      stays = unresized-stays (layout_of l old) (layout_of l new) pen refl store segments e refused

      step : (e : VolError) (w : World) → HasResizedNone segments old new e
          → Step (unshared (layout_of l old) (layout_of l new)) (resized_by old segments) w (Resize segments)
          (Err e) w
      step error.Fault w none =
          inr (record {
            error = error.Fault;
            reply_is = refl;
            may_be = (tt, (λ lacks. lacks, none.1.0, none.1.1));
            unchanged = refl;
          })
      step error.Memory w none =
          inr (record { error = error.Memory; reply_is = refl; may_be = tt; unchanged = refl })
      step _ w none = inl (ap (λ (r : Reply). (r, w)) none.1)

-- ---- segments that are added, or refused

-- a store that refuses to grow has not been resized
pub not-grown : (segments : ℕ) (e : VolError) (old new : Store) → resized_by old segments ≡ Ok answer.Done
    → IsGrowthRefused old new e
    → HasResizedNone segments old new e
not-grown segments error.Fault old new judged refused = (judged, refused)
not-grown segments error.Memory old new judged refused = (judged, refused)
not-grown segments _ old new judged refused = absurd refused

-- nor has one of which what is asked for is refused
pub not-asked : (segments : ℕ) (e : VolError) (s : Store) → resized_by s segments ≡ Err e
    → HasResizedNone segments s s e
not-asked segments error.Fault s is =
    absurd (by (nat_lt segments (length s.segments.each)) (is_geometry segments s.segments.blocks) is)
  where
    by : (few fits : Bool)
        → ◌≡◌ {A = Reply}
        (cond few (Err error.BadRange) (cond fits (Ok answer.Done) (Err error.BadGeometry)))
        (Err error.Fault)
        → ⊥
    by true fits wrong = cc
    by false true wrong = cc
    by false false wrong = cc
not-asked segments error.Memory s is =
    absurd (by (nat_lt segments (length s.segments.each)) (is_geometry segments s.segments.blocks) is)
  where
    by : (few fits : Bool)
        → ◌≡◌ {A = Reply}
        (cond few (Err error.BadRange) (cond fits (Ok answer.Done) (Err error.BadGeometry)))
        (Err error.Memory)
        → ⊥
    by true fits wrong = cc
    by false true wrong = cc
    by false false wrong = cc
not-asked segments _ s is = (refl, is)

pub has-resized : (segments : ℕ) (old new : Store) → nat_lt (length old.segments.each) segments ≡ true
    → resized_by old segments ≡ Ok answer.Done → HasGrown segments old new
    → HasResized segments answer.Done old new
has-resized segments old new more judged grown = record {
  answer_is = refl;
  judged = judged;
  grown = grown;
  same = λ as-many.
      let low = ltb-true (length old.segments.each) segments more in absurd (omega (arith, as-many, low));
}

-- a table tells whether segments are added
pub is-more : (s table : Segments) (segments : ℕ) (adds is_adding : Bool) → table ≡ s
    → adds ≡ nat_lt (length table.each) segments → adds ≡ is_adding
    → nat_lt (length s.each) segments ≡ is_adding
is-more s table segments adds is_adding same is adding =
    ap (λ (t : Segments). nat_lt (length t.each) segments) (sym same) ∙ sym is ∙ adding

-- there is a count for each segment
pub counts-are-as-many : (l : Lists) (s : Store) (c : Counted) → AreNeededCounts (layout_of l s) c
    → length c.counts ≡ length s.segments.each
counts-are-as-many l s c counted =
    ap (λ (counts : List ℕ). length counts) counted.counts
    ∙ length-map-range_with_len (needed_count s (is_needed (kept_numbers l))) 0 (length s.segments.each)

-- ---- what a resize judges

-- what is done has no fewer segments than before
at-least : (s : Store) (segments : ℕ) → resized_by s segments ≡ Ok answer.Done
    → nat_lt segments (length s.segments.each) ≡ false
at-least s segments judged = by (nat_lt segments (length s.segments.each)) refl judged
  where
    by : (b : Bool) → nat_lt segments (length s.segments.each) ≡ b
        → ◌≡◌ {A = Reply}
        (cond b (Err error.BadRange)
        (cond (is_geometry segments s.segments.blocks) (Ok answer.Done) (Err error.BadGeometry)))
        (Ok answer.Done)
        → nat_lt segments (length s.segments.each) ≡ false
    by true is wrong = absurd (true≢false (sym (ap is_ok wrong)))
    by false is done = is

pub resized-as-many : (s : Store) (segments : ℕ) → resized_by s segments ≡ Ok answer.Done
    → nat_lt (length s.segments.each) segments ≡ false
    → segments ≡ length s.segments.each
resized-as-many s segments judged fewer =
    omega (
      arith,
      ltb-false segments (length s.segments.each) (at-least s segments judged),
      ltb-false (length s.segments.each) segments fewer,
    )

-- where there are as many, nothing is added
pub has-as-many : (segments : ℕ) (s : Store) → resized_by s segments ≡ Ok answer.Done
    → nat_lt (length s.segments.each) segments ≡ false
    → HasResized segments answer.Done s s
has-as-many segments s judged fewer = record {
  answer_is = refl;
  judged = judged;
  grown = record {
    segments = sym (ap (λ (infos : List SegmentInfo). record s.segments { each = infos })
        (ap (λ (k : ℕ). s.segments.each ++ replicate k clean_info) none ∙ append-nil s.segments.each));
    numbers = λ v. refl;
    payload = λ b. refl;
    device = λ b used. refl;
    unfailed = refl;
  };
  same = λ as-many. refl;
}
  where
    none : segments - length s.segments.each ≡ 0
    none = let many = resized-as-many s segments judged fewer in omega (arith, many)

-- ---- what readers see

places-behind : (numbers : List (Option ShownPage)) (k v : ℕ)
    → slice_index_or (numbers ++ replicate k None) v None ≡ slice_index_or numbers v None
places-behind [] zero v = refl
places-behind [] (suc k) zero = refl
places-behind [] (suc k) (suc v) = places-behind [] k v
places-behind (p ∷ numbers) k zero = refl
places-behind (p ∷ numbers) k (suc v) = places-behind numbers k v

shown-count : (l : Layout) → IsStore l.store → length (shown_of l).numbers ≡ capacity l.store + 1
shown-count l store = length-map l.store.numbers (option_map shown_page) ∙ store.full

pub room-resized : (old : Layout) (segments : ℕ) → IsStore old.store
    → resized_by old.store segments ≡ Ok answer.Done
    → length (shown_of old).numbers ≤ segments * old.store.segments.blocks + 1
room-resized old segments store judged =
    let least = ltb-false segments (length old.store.segments.each) (at-least old.store segments judged) in
    let most : capacity old.store ≤ segments * old.store.segments.blocks =
    mul-le-mul_right old.store.segments.blocks (omega (arith, least)) in
    omega (arith, shown-count old store, most)

pub numbers-resized : (old new : Layout) (segments : ℕ) {a : Answer} → IsStore old.store → IsStore new.store
    → HasResized segments a old.store new.store
    → (shown_of new).numbers ≡ with_room segments old.store.segments.blocks (shown_of old).numbers
numbers-resized old new segments old-store new-store resized = ext_get_or None _ _ sizes each
  where
    blocks : ℕ
    blocks = old.store.segments.blocks

    was : List (Option ShownPage)
    was = (shown_of old).numbers

    least : length old.store.segments.each ≤ segments
    least =
        let h =
        ltb-false segments (length old.store.segments.each)
        (at-least old.store segments resized.judged) in
        omega (arith, h)

    count : length new.store.segments.each ≡ segments
    count =
        ap (λ (s : Segments). length s.each) resized.grown.segments
        ∙ rw (length-append, length-replicate) (omega (arith, least))

    total : capacity new.store ≡ segments * blocks
    total =
        ap (λ n. n * new.store.segments.blocks) count
        ∙ ap (λ (s : Segments). segments * s.blocks) resized.grown.segments

    room : length was ≤ segments * blocks + 1
    room = room-resized old segments old-store resized.judged

    sizes : length (shown_of new).numbers ≡ length (with_room segments blocks was)
    sizes = shown-count new new-store ∙ rw (length-append, length-replicate) (omega (arith, total, room))

    each : (v : ℕ) → v < length (shown_of new).numbers
        → slice_index_or (shown_of new).numbers v None ≡ slice_index_or (with_room segments blocks was) v None
    each v low =
        get_or-map (option_map shown_page) new.store.numbers v None
        ∙ ap (option_map shown_page) (resized.grown.numbers v)
        ∙ sym (get_or-map (option_map shown_page) old.store.numbers v None)
        ∙ sym (places-behind was (segments * blocks + 1 - length was) v)
