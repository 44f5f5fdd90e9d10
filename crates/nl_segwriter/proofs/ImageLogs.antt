-- The logs of an image, read one after another.
use Rattle.std.proofs.Common.{◌≡◌, ◌≢◌, ℕ, zero, suc, ◌+◌, ◌<◌, ◌≤◌, List, [], ◌∷◌, ◌++◌, length, get_or, map, set, take, true, Option, None, Some, is_some, refl, ap, sym, ◌∙◌, subst, arith, inl, inr, length-append}
use Rattle.std.specs.Prelude.{slice_get}
use Rattle.std.proofs.lemmas.Bool.{cases_lt}
use Rattle.std.proofs.lemmas.List.{get_or-set_same, get_or-set_other, length-map, length-take-le, map-append, take_more}
use Rattle.std.proofs.lemmas.Option.{slice_get-get_or}
use Rattle.nl_device.specs.Pages.{DevicePages}
use Rattle.nl_layout.specs.declared.tag.Tag.{Tag}
use Rattle.nl_layout.specs.Summary.{Contents, SummaryHasSpelling, summary_bytes}
use Rattle.nl_types.specs.Blocks.Segments.{Segments}
use Rattle.nl_vstore.specs.Content.{HeldPayload, Payload, SpaceContent, StandInRow, payload_page, payload_tag}
use Rattle.nl_vstore.specs.Logs.{FillDevice, FillUpTo, IsOnDevice, WholeLog, contents_of}
use Rattle.nl_vstore.specs.FactsOfSpace.KeptLogs.{fill_kept}
use Rattle.nl_segwriter.specs.Images.{IsFreeBetween, IsLogHeld, IsRowHeld, SameAround}
use Rattle.nl_segwriter.specs.Writing.{held_in}
use Rattle.nl_segwriter.specs.Facts.WholeLogs.{fill_push}

-- ---- a row of pages

slice_get_front : {A : Type 0} (xs : List A) (x : A) (j : ℕ) → j < length xs
    → slice_get (xs ++ x ∷ []) j ≡ slice_get xs j
slice_get_front [] x j low = absurd (omega arith)
slice_get_front (y ∷ xs) x zero low = refl
slice_get_front (y ∷ xs) x (suc j) low = slice_get_front xs x j (omega arith)

slice_get_last : {A : Type 0} (xs : List A) (x : A) → slice_get (xs ++ x ∷ []) (length xs) ≡ Some x
slice_get_last [] x = refl
slice_get_last (y ∷ xs) x = slice_get_last xs x

-- one value more stands behind a row
stand_more : {V : Type 0} (first k : ℕ) (values : List V) (value : V) (old new : ℕ → Option V)
    → length values ≡ k → StandInRow first values old
    → ((b : ℕ) → b ≢ first + k → new b ≡ old b) → new (first + k) ≡ Some value
    → StandInRow first (values ++ value ∷ []) new
stand_more first k values value old new count stand others there j within = elim (cases_lt j k) [
  | inl h ↦
      others (first + j) (omega (arith, h))
      ∙ (stand j (omega (arith, h, count)) ∙ sym (slice_get_front values value j (omega (arith, h, count))))
  | inr h ↦
      let same : length values ≡ j = omega (arith, h, within, count, length-append values (value ∷ [])) in
      let at : first + k ≡ first + j = omega (arith, same, count) in
      ap new (sym at)
      ∙ (there ∙ (sym (slice_get_last values value) ∙ ap (slice_get (values ++ value ∷ [])) same))
]

pub no_row : (first : ℕ) (held : HeldPayload) (device : DevicePages) → IsRowHeld first [] held device
no_row first held device = record {
  items = [];
  tags_are = refl;
  payload = λ j low. absurd (omega arith);
  pages = λ j low. absurd (omega arith);
}

pub more_row : (first k : ℕ) (tags : List Tag) (tag : Tag) (page : List ℕ) (table : List (Option Payload))
    (device : DevicePages)
    → k < length tags → tag ≡ get_or tags k tag → first + k < length table
    → device (first + k) ≡ Some page → IsRowHeld first (take k tags) (held_in table) device
    → IsRowHeld first (take (k + 1) tags) (held_in (set table (first + k) (Some (tag, page)))) device
more_row first k tags tag page table device within is inside there row =
    let items : List Payload = row.items in
    let item : Payload = (tag, page) in
    let count : length items ≡ k =
    sym (length-map items payload_tag) ∙ (ap length row.tags_are ∙ length-take-le k tags (omega arith)) in
    let pages_count : length (map payload_page items) ≡ k = length-map items payload_page ∙ count in
    record {
      items = items ++ item ∷ [];
      tags_are =
          map-append payload_tag items (item ∷ [])
          ∙ (ap (λ (ts : List Tag). ts ++ tag ∷ []) row.tags_are
          ∙ (ap (λ (t : Tag). take k tags ++ t ∷ []) is ∙ sym (take_more tags k tag within)));
      payload =
          stand_more first k items item (held_in table)
          (held_in (set table (first + k) (Some item))) count row.payload
          (λ b apart. get_or-set_other table (first + k) b (Some item) None apart)
          (get_or-set_same table (first + k) (Some item) None inside);
      pages =
          subst (λ (ps : List (List ℕ)). StandInRow first ps device)
          (sym (map-append payload_page items (item ∷ [])))
          (stand_more first k (map payload_page items) page device device pages_count row.pages
          (λ b apart. refl) there);
    }

pub same_one_more : (first k : ℕ) (old : HeldPayload) (table : List (Option Payload)) (value : Option Payload)
    → SameAround first (first + k) old (held_in table)
    → SameAround first (first + (k + 1)) old (held_in (set table (first + k) value))
same_one_more first k old table value same = record {
  below = λ b low. get_or-set_other table (first + k) b value None (omega (arith, low)) ∙ same.below b low;
  above = λ b high.
      get_or-set_other table (first + k) b value None (omega (arith, high))
      ∙ same.above b (omega (arith, high));
}

-- ---- one log

-- behind its summary a row is held: that is the log
log_held : (at end : ℕ) (s : Contents) (old new : HeldPayload) (device : DevicePages) → SummaryHasSpelling s
    → device at ≡ Some (summary_bytes s) → old at ≡ None
    → IsRowHeld (at + 1) s.tags new device → SameAround (at + 1) (at + 1 + length s.tags) old new
    → at + 1 + length s.tags ≤ end → IsLogHeld at (at + 1 + length s.tags) end new device
log_held at end s old new device fits summary free row same inside = record {
  log = log;
  stands = record {
    fits = subst SummaryHasSpelling (sym told) fits;
    summary = summary ∙ ap (λ (c : Contents). Some (summary_bytes c)) (sym told);
    no_payload = same.below at (omega arith) ∙ free;
    payload = row.payload;
    pages = row.pages;
  };
  behind = ap (λ (n : ℕ). at + 1 + n) (sym count);
  inside = inside;
}
  where
    log : WholeLog
    log = record { stamp = s.stamp; checkpoint = s.checkpoint; payload = row.items }

    told : contents_of log ≡ s
    told = ap (λ (tags : List Tag). let c : Contents = record s { tags = tags } in c) row.tags_are

    count : length row.items ≡ length s.tags
    count = sym (length-map row.items payload_tag) ∙ ap length row.tags_are

pub log_held_with : (at end : ℕ) (s : Contents) (tags : List Tag) (old new : HeldPayload)
    (device : DevicePages)
    → tags ≡ s.tags → SummaryHasSpelling s → device at ≡ Some (summary_bytes s) → old at ≡ None
    → IsRowHeld (at + 1) tags new device → SameAround (at + 1) (at + 1 + length tags) old new
    → at + 1 + length tags ≤ end → IsLogHeld at (at + 1 + length tags) end new device
log_held_with at end s tags old new device is fits summary free row same inside =
    subst (λ (ts : List Tag). IsLogHeld at (at + 1 + length ts) end new device) (sym is)
    (log_held at end s old new device fits summary free
    (subst (λ (ts : List Tag). IsRowHeld (at + 1) ts new device) is row)
    (subst (λ (ts : List Tag). SameAround (at + 1) (at + 1 + length ts) old new) is same)
    (subst (λ (ts : List Tag). at + 1 + length ts ≤ end) is inside))

-- a log's summary has a tag for each of its payload
pub tags_told : (log : WholeLog) (s : Contents) (tags : List Tag) → tags ≡ s.tags
    → Some s ≡ Some (contents_of log) → length tags ≡ length log.payload
tags_told log s tags is same =
    ap length is ∙ (ap (λ (c : Contents). length c.tags) (some_is same) ∙ length-map log.payload payload_tag)
  where
    some_is : {A : Type 0} {a b : A} → Some a ≡ Some b → a ≡ b
    some_is e = cc

-- the pages of a log on the device are there
pub pages_there : (at : ℕ) (log : WholeLog) (device : DevicePages) → IsOnDevice at log device → (k : ℕ)
    → k < length log.payload → is_some (device (at + 1 + k)) ≡ true
pages_there at log device is k within =
    let inside : k < length (map payload_page log.payload) =
    omega (arith, within, length-map log.payload payload_page) in
    ap is_some (is.pages k inside ∙ slice_get-get_or (map payload_page log.payload) k [] inside)

-- ---- the logs between two blocks

-- those up to a block are held, and the others go on from there
pub record AreRead (first at end : ℕ) (old now : HeldPayload) (device : DevicePages) : Type 0 where
  pub low : first ≤ at
  pub high : at ≤ end
  pub logs : List WholeLog
  pub filled : FillUpTo first at logs now device
  pub others : SameAround first at old now
  pub only : (all : List WholeLog) → FillDevice first end all device
      → (rest : List WholeLog) × FillDevice at end rest device

pub none_read : (first end : ℕ) (old : HeldPayload) (device : DevicePages) → first ≤ end
    → AreRead first first end old old device
none_read first end old device order = record {
  low = omega arith;
  high = order;
  logs = [];
  filled = refl;
  others = record { below = λ b low. refl; above = λ b high. refl };
  only = λ all fill. (all, fill);
}

pub fill_device_up : (b end : ℕ) (logs : List WholeLog) (device : DevicePages) → FillDevice b end logs device
    → b ≤ end
fill_device_up b end [] device fill = omega (arith, fill)
fill_device_up b end (log ∷ logs) device fill =
    let rest = fill_device_up (b + 1 + length log.payload) end logs device fill.1 in omega (arith, rest)

-- the next log, where logs go on from a block before the end
pub next_log : (at end : ℕ) (rest : List WholeLog) (device : DevicePages) → at < end
    → FillDevice at end rest device
    → (log : WholeLog) × IsOnDevice at log device × (at + 1 + length log.payload ≤ end)
    × ((more : List WholeLog) × FillDevice (at + 1 + length log.payload) end more device)
next_log at end [] device low fill = absurd (omega (arith, fill))
next_log at end (log ∷ more) device low fill =
    (log, fill.0, fill_device_up (at + 1 + length log.payload) end more device fill.1, (more, fill.1))

pub still_free : (first at end : ℕ) (old now : HeldPayload) (device : DevicePages)
    → IsFreeBetween first end old → AreRead first at end old now device → IsFreeBetween at end now
still_free first at end old now device free are b low high =
    are.others.above b low ∙ free b (omega (arith, are.low, low)) high

pub more_read : (first at next end : ℕ) (s : Segments) (old now new : HeldPayload) (device : DevicePages)
    → AreRead first at end old now device → IsLogHeld at next end new device → SameAround at next now new
    → ((log : WholeLog) → IsOnDevice at log device → at + 1 + length log.payload ≤ end
    → next ≡ at + 1 + length log.payload)
    → at < end → AreRead first next end old new device
more_read first at next end s old now new device are is same only before = record {
  low = omega (arith, are.low, is.behind);
  high = is.inside;
  logs = are.logs ++ is.log ∷ [];
  filled = subst (λ (n : ℕ). FillUpTo first n (are.logs ++ is.log ∷ []) new device) (sym is.behind)
      (fill_push first at are.logs is.log new device
      (fill_kept first at are.logs (content now) (content new)
      (λ c low high. (same.below c high, refl)) are.filled)
      is.stands);
  others = record {
    below = λ b low. same.below b (omega (arith, low, are.low)) ∙ are.others.below b low;
    above = λ b high. same.above b high ∙ are.others.above b (omega (arith, high, is.behind));
  };
  only = λ all fill.
      let rest = are.only all fill in
      let n = next_log at end rest.0 device before rest.1 in
      let at_next : next ≡ at + 1 + length n.0.payload = only n.0 n.1 n.2 in
      (n.3.0, subst (λ (k : ℕ). FillDevice k end n.3.0 device) (sym at_next) n.3.1);
}
  where
    content : HeldPayload → SpaceContent
    content held = record { segments = s; held = held; stored = device }
