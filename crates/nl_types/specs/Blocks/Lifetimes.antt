-- Checkpoints and the virtual block numbers that they reach, from one event to the next.
use Rattle.std.specs.Prelude.{◌≡◌, ◌≢◌, ◌⊎◌, ℕ, ◌+◌, ◌<◌, ◌≤◌, ◌==◌, ◌&&◌, Bool, true, false, if◌then◌else◌, List, [], ◌∷◌, Option, None, Some}
use Rattle.std.specs.Option.{option_and_then, unwrap_or}
use Rattle.nl_types.specs.Plain.NumberLists.{is_one_of}
use Rattle.nl_types.specs.Blocks.Entries.{Place, Birth, Entry, Content, covers, written, written_at, birth_of, GivenOnce}

-- the number at each place that a checkpoint has
abbrev pub Numbers : Type 0
Numbers = Place → Option ℕ

-- what is in use, and what each kept checkpoint reaches
pub record Ledger : Type 0 where
  pub content : Content
  pub latest : ℕ
  pub kept : ℕ → Option Numbers

-- the numbers of a checkpoint, none where it isn't kept
abbrev pub numbers_at : Ledger → ℕ → Numbers
numbers_at ledger c = unwrap_or (ledger.kept c) (λ _. None)

-- ---- events

-- a checkpoint is made by births and ends; a checkpoint is removed; numbers are taken out of use
pub data LedgerEvent : Type 0 where
  Makes : List Birth → List ℕ → LedgerEvent
  Forgets : ℕ → LedgerEvent
  Frees : (ℕ → Bool) → LedgerEvent

abbrev pub is_same_place : Place → Place → Bool
is_same_place p q = (p.inode == q.inode) && ((p.level == q.level) && (p.offset == q.offset))

-- the birth at a place
abbrev pub birth_at : List Birth → Place → Option Birth
birth_at [] q = None
birth_at (p ∷ ps) q = if is_same_place q p.place then Some p else birth_at ps q

abbrev pub unless_ended : List ℕ → ℕ → Option ℕ
unless_ended ends v = if is_one_of ends v then None else Some v

abbrev pub born_or_left : List ℕ → Option Birth → Option ℕ → Option ℕ
born_or_left ends (Some p) old = Some p.number
born_or_left ends None old = option_and_then (unless_ended ends) old

-- a written place has its birth's number; every other place keeps its number unless that ends
abbrev pub numbers_after : List Birth → List ℕ → Numbers → Numbers
numbers_after births ends old q = born_or_left ends (birth_at births q) (old q)

abbrev pub ledger_after : LedgerEvent → Ledger → Ledger
ledger_after (Makes births ends) ledger = record {
  content = written births ends (ledger.latest + 1) ledger.content;
  latest = ledger.latest + 1;
  kept = λ c.
      if c == ledger.latest + 1 then Some (numbers_after births ends (numbers_at ledger ledger.latest))
      else ledger.kept c;
}
ledger_after (Forgets c) ledger = record ledger { kept = λ d. if d == c then None else ledger.kept d }
ledger_after (Frees gone) ledger = record ledger { content = λ v. if gone v then None else ledger.content v }

-- ---- which events there may be

-- births have numbers that are not in use, each its own number and place; what a birth replaces ends
pub record IsBatch (content : Content) (old : Numbers) (births : List Birth) (ends : List ℕ) : Type 0 where
  pub once : GivenOnce births
  pub placed_once : (v : ℕ) (p : Birth) → birth_of births v ≡ Some p → birth_at births p.place ≡ Some p
  pub numbered : (q : Place) (p : Birth) → birth_at births q ≡ Some p → birth_of births p.number ≡ Some p
  pub unused : (v : ℕ) (p : Birth) → birth_of births v ≡ Some p → content v ≡ None
  pub replaced : (q : Place) (p : Birth) (v : ℕ)
      → birth_at births q ≡ Some p → old q ≡ Some v → is_one_of ends v ≡ true
  pub live : (v : ℕ) (e : Entry) → is_one_of ends v ≡ true → content v ≡ Some e → e.end ≡ None

-- the latest checkpoint stays, and a number is taken out only where no kept checkpoint needs it
abbrev pub Allowed : LedgerEvent → Ledger → Type 0
Allowed (Makes births ends) ledger = IsBatch ledger.content (numbers_at ledger ledger.latest) births ends
Allowed (Forgets c) ledger = c ≢ ledger.latest
Allowed (Frees gone) ledger =
    (v : ℕ) (e : Entry) (c : ℕ) (numbers : Numbers)
    → gone v ≡ true → ledger.content v ≡ Some e → ledger.kept c ≡ Some numbers → covers c e ≡ false

abbrev pub ledger_after_all : List LedgerEvent → Ledger → Ledger
ledger_after_all [] ledger = ledger
ledger_after_all (event ∷ events) ledger = ledger_after_all events (ledger_after event ledger)

abbrev pub EachAllowed : List LedgerEvent → Ledger → Type 0
EachAllowed [] ledger = Unit {0}
EachAllowed (event ∷ events) ledger = Allowed event ledger × EachAllowed events (ledger_after event ledger)

-- where all begins, before a volume is formatted: no number is in use, and checkpoint 0 has no place
abbrev pub blank : Ledger
blank = record { content = λ _. None; latest = 0; kept = λ c. if c == 0 then Some (λ _. None) else None }

-- ---- exact lifetimes

-- what a checkpoint reaches is what covers it, each number at one place
pub record IsExact (content : Content) (c : ℕ) (numbers : Numbers) : Type 0 where
  -- a number that is reached is in use and covers the checkpoint
  pub reached : (q : Place) (v : ℕ) → numbers q ≡ Some v
      → (e : Entry) × (content v ≡ Some e) × (covers c e ≡ true)
  -- no number has two places
  pub once : (p q : Place) (v : ℕ) → numbers p ≡ Some v → numbers q ≡ Some v → p ≡ q
  -- a number that covers the checkpoint is reached
  pub covering : (v : ℕ) (e : Entry)
      → content v ≡ Some e → covers c e ≡ true → (q : Place) × (numbers q ≡ Some v)

abbrev pub HasExactLifetimes : Ledger → Type 0
HasExactLifetimes ledger =
    (c : ℕ) (numbers : Numbers) → ledger.kept c ≡ Some numbers → IsExact ledger.content c numbers

-- a period begins at a checkpoint, ends behind its start if it has ended, and doesn't reach past the latest
-- checkpoint
pub record IsBounded (content : Content) (latest : ℕ) : Type 0 where
  pub begins : (v : ℕ) (e : Entry) → content v ≡ Some e → 1 ≤ e.start
  pub starts : (v : ℕ) (e : Entry) → content v ≡ Some e → e.start ≤ latest
  pub lasts : (v : ℕ) (e : Entry) (c : ℕ) → content v ≡ Some e → e.end ≡ Some c → e.start < c
  pub ends : (v : ℕ) (e : Entry) (c : ℕ) → content v ≡ Some e → e.end ≡ Some c → c ≤ latest

-- what is true of every ledger
pub record IsLedger (ledger : Ledger) : Type 0 where
  pub exact : HasExactLifetimes ledger
  pub bounded : IsBounded ledger.content ledger.latest
  pub latest_kept : ledger.kept ledger.latest ≡ Some (numbers_at ledger ledger.latest)
  pub below : (c : ℕ) (numbers : Numbers) → ledger.kept c ≡ Some numbers → c ≤ ledger.latest

-- ---- what an event leaves as it was

-- the number covers checkpoint c and stands for the page of an entry, at its place and from its start
pub record StillCovers (content : Content) (c v : ℕ) (e : Entry) : Type 0 where
  pub entry : Entry
  pub in_use : content v ≡ Some entry
  pub place : entry.place ≡ e.place
  pub page : entry.page ≡ e.page
  pub start : entry.start ≡ e.start
  pub covering : covers c entry ≡ true

-- so does each number that covers a checkpoint kept before and after
abbrev pub KeepsCovered : Ledger → Ledger → Type 0
KeepsCovered old new =
    (c : ℕ) (before now : Numbers) (v : ℕ) (e : Entry) → old.kept c ≡ Some before → new.kept c ≡ Some now
    → old.content v ≡ Some e → covers c e ≡ true → StillCovers new.content c v e

-- the end of a number in use before and after is as it was, or was none and is the latest checkpoint now
abbrev pub EndsOnce : Ledger → Ledger → Type 0
EndsOnce old new =
    (v : ℕ) (e f : Entry) → old.content v ≡ Some e → new.content v ≡ Some f
    → (f.end ≡ e.end) ⊎ ((e.end ≡ None) × (f.end ≡ Some new.latest))

-- a number has ended at a checkpoint that was made since
pub record EndsSince (old new : Ledger) (e : Entry) : Type 0 where
  pub checkpoint : ℕ
  pub is : e.end ≡ Some checkpoint
  pub made : old.latest < checkpoint
  pub there : checkpoint ≤ new.latest

-- However many events lie between: the end of a number is as it was, or was none and is a checkpoint's that
-- was made since. A number that was taken out and given again is told by its start.
abbrev pub EndsOnceSince : Ledger → Ledger → Type 0
EndsOnceSince old new =
    (v : ℕ) (e f : Entry) → old.content v ≡ Some e → new.content v ≡ Some f → f.start ≡ e.start
    → (f.end ≡ e.end) ⊎ ((e.end ≡ None) × EndsSince old new f)

-- ---- laws

-- after every list of events the numbers that a kept checkpoint reaches are exactly those in use that cover
-- it
abbrev pub LifetimesAreExact : Type 0
LifetimesAreExact =
    (events : List LedgerEvent) → EachAllowed events blank → HasExactLifetimes (ledger_after_all events blank)

-- each event keeps what is true of every ledger
abbrev pub EventsKeepLedgers : Type 0
EventsKeepLedgers =
    (event : LedgerEvent) (ledger : Ledger)
    → IsLedger ledger → Allowed event ledger → IsLedger (ledger_after event ledger)

-- however many events come, a number keeps its page, its place and its start while a kept checkpoint needs it
abbrev pub CoveredNumbersStay : Type 0
CoveredNumbersStay =
    (events : List LedgerEvent) (ledger : Ledger)
    → IsLedger ledger → EachAllowed events ledger → KeepsCovered ledger (ledger_after_all events ledger)

-- at each event the end of a number that stays in use changes once at most
abbrev pub EndsChangeOnce : Type 0
EndsChangeOnce =
    (event : LedgerEvent) (ledger : Ledger)
    → IsLedger ledger → Allowed event ledger → EndsOnce ledger (ledger_after event ledger)

-- so it does however many events come
abbrev pub NumbersEndOnce : Type 0
NumbersEndOnce =
    (events : List LedgerEvent) (ledger : Ledger)
    → IsLedger ledger → EachAllowed events ledger → EndsOnceSince ledger (ledger_after_all events ledger)

-- a batch does at each number what it does for that number alone
abbrev pub WritesAreByNumber : Type 0
WritesAreByNumber =
    (births : List Birth) (ends : List ℕ) (c v : ℕ) (content : Content) → GivenOnce births
    → written births ends c content v ≡ written_at (birth_of births v) (is_one_of ends v) c (content v)
