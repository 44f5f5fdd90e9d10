-- The logs that fit go, one after another, right behind what is used.
use Rattle.std.proofs.Common.{◌≡◌, ℕ, ◌+◌, ◌-◌, ◌*◌, ◌<◌, ◌≤◌, inl, inr, Bool, true, false, List, [], ◌∷◌, ◌++◌, length, drop, Option, Some, None, refl, ap, sym, ◌∙◌, arith, subst, length-set, append-nil}
use Rattle.std.proofs.lemmas.List.{take-append-drop, length-append, length-drop}
use Rattle.std.specs.List.{AllByRecursion}
use Rattle.std.specs.Option.{IfSome}
use Rattle.std.specs.Prelude.{slice_get}
use Rattle.nl_types.specs.declared.segment.Log.{Log}
use Rattle.nl_types.specs.declared.segment.Position.{Position}
use Rattle.nl_types.specs.declared.segment.SegmentInfo.{SegmentInfo}
use Rattle.nl_types.specs.declared.segment.SegmentState.TheVariants.{Active}
use Rattle.nl_types.specs.Blocks.Segments.{Segments, is_active, is_clean, info_of, clean_segments, active_place, AreTidy, used_blocks, total_blocks}
use Rattle.nl_types.specs.Blocks.Placing.{start_of, end_of, place_behind, payload_count, IsLog, has_room, AreInRow, taken_segments, IsFront, LogsFit, with_log, with_logs, IsNextLog, AreNextLogs}
use Rattle.nl_types.specs.Facts.GoingOn.{match_true, match_false, test_cases}
use Rattle.nl_types.specs.Facts.SegmentChanges.{length-none_active, tidy_changed, tidy_at, clean_changed, clean_taken, CleanAt, lowest_is_clean, ActiveAt, active_at, active_changed, not_both, used_in-changed, used_in-most}

-- what is known of a segment that just got a log
abbrev logged : Log → ℕ → SegmentInfo
logged log stamp = record { state = Active; stamp = stamp; used = end_of log }

pub tidy_with_log : (s : Segments) (log : Log) (stamp : ℕ) → AreTidy s → end_of log ≤ s.blocks
    → AreTidy (with_log s log stamp)
tidy_with_log s log stamp tidy inside =
    tidy_changed s log.segment (logged log stamp) tidy (record { room = inside; clean = λ e. absurd (cc) })

pub length-with_log : (s : Segments) (log : Log) (stamp : ℕ)
    → length (with_log s log stamp).each ≡ length s.each
length-with_log s log stamp = rw (length-set, length-none_active) refl

-- the active segment of tidy segments
pub record HasActive (s : Segments) (place : Position) : Type 0 where
  pub within : place.segment < length s.each
  pub active : is_active (info_of s.each place.segment).state ≡ true
  pub used : (info_of s.each place.segment).used ≡ place.block

pub has_active : (s : Segments) (place : Position) → active_place s ≡ Some place → HasActive s place
has_active s place e =
    let at : ActiveAt 0 s.each place =
    subst (λ (o : Option Position). IfSome o (ActiveAt 0 s.each)) e (active_at 0 s.each) in
    let same : at.behind ≡ place.segment = (let a = at.at in omega (arith, a)) in
    record {
      within = subst (λ (k : ℕ). k < length s.each) same at.within;
      active = subst (λ (k : ℕ). is_active (info_of s.each k).state ≡ true) same at.active;
      used = subst (λ (k : ℕ). (info_of s.each k).used ≡ place.block) same at.used;
    }

-- the lowest clean segment of tidy segments
pub record HasLowest (s : Segments) (segment : ℕ) : Type 0 where
  pub within : segment < length s.each
  pub clean : is_clean (info_of s.each segment).state ≡ true
  pub unused : (info_of s.each segment).used ≡ 0

pub has_lowest : (s : Segments) (segment : ℕ) (rest : List ℕ) → AreTidy s → clean_segments s ≡ segment ∷ rest
    → HasLowest s segment
has_lowest s segment rest tidy e =
    let at : CleanAt 0 s.each segment = lowest_is_clean 0 s.each segment rest e in
    let same : at.behind ≡ segment = (let a = at.at in omega (arith, a)) in
    let clean = subst (λ (k : ℕ). is_clean (info_of s.each k).state ≡ true) same at.clean in
    record {
      within = subst (λ (k : ℕ). k < length s.each) same at.within;
      clean = clean;
      unused = ap (λ (x : SegmentInfo). x.used) ((tidy_at s.blocks s.each tidy.each segment).clean clean);
    }

-- what is known behind a log: the logs after it take from the free segments, and so many clean ones are kept
record Next (s : Segments) (stamp : ℕ) (log : Log) (logs : List Log) (kept : List ℕ) : Type 0 where
  pub new : IsNextLog s log
  pub free : List ℕ
  pub taken : IsFront (taken_segments s.blocks (Some (place_behind log)) logs) free
  pub clean : clean_segments (with_log s log stamp) ≡ free ++ kept

next_left : (s : Segments) (stamp : ℕ) (log : Log) (logs : List Log) (free kept : List ℕ) → IsLog s.blocks log
    → active_place s ≡ Some (start_of log)
    → IsFront (taken_segments s.blocks (Some (place_behind log)) logs) free → clean_segments s ≡ free ++ kept
    → Next s stamp log logs kept
next_left s stamp log logs free kept is there taken clean =
    let h = has_active s (start_of log) there in
    record {
      new = record { segment = h.within; behind_used = sym h.used; is_log = is; at = inl there };
      free = free;
      taken = taken;
      clean = clean_changed 0 s.each log.segment (logged log stamp) refl (not_both _ h.active) ∙ clean;
    }

next_taken : (s : Segments) (stamp : ℕ) (log : Log) (logs : List Log) (free kept : List ℕ) → AreTidy s
    → IsLog s.blocks log → log.first ≡ 0
    → IsFront (log.segment ∷ taken_segments s.blocks (Some (place_behind log)) logs) free
    → clean_segments s ≡ free ++ kept → Next s stamp log logs kept
next_taken s stamp log logs [] kept tidy is first taken clean = absurd taken
next_taken s stamp log logs (j ∷ js) kept tidy is first taken clean =
    let e : clean_segments s ≡ log.segment ∷ (js ++ kept) = rw taken.0 clean in
    let h = has_lowest s log.segment (js ++ kept) tidy e in
    record {
      new = record {
        segment = h.within;
        behind_used = first ∙ sym h.unused;
        is_log = is;
        at = inr (ap (λ (xs : List ℕ). slice_get xs 0) e);
      };
      free = js;
      taken = taken.1;
      clean =
          clean_taken 0 s.each log.segment (logged log stamp) log.segment (js ++ kept) refl (omega arith) e;
    }

next_log : (s : Segments) (stamp : ℕ) (log : Log) (logs : List Log) (left : Option Position)
    (free kept : List ℕ)
    → AreTidy s → active_place s ≡ left → IsLog s.blocks log
    → AreInRow s.blocks left (log ∷ logs) → IsFront (taken_segments s.blocks left (log ∷ logs)) free
    → clean_segments s ≡ free ++ kept → Next s stamp log logs kept
next_log s stamp log logs None free kept tidy at is row taken clean =
    next_taken s stamp log logs free kept tidy is row.0 taken clean
next_log s stamp log logs (Some place) free kept tidy at is row taken clean =
    elim (test_cases (has_room s.blocks (Some place))) [
      | inl room ↦
          next_left s stamp log logs free kept is (at ∙ match_true _ _ _ room row.0) (rw room at taken) clean
      | inr room ↦
          next_taken s stamp log logs free kept tidy is (match_false _ _ _ room row.0)
          (rw room at taken) clean
    ]

active_behind : (s : Segments) (stamp : ℕ) (log : Log) → log.segment < length s.each
    → active_place (with_log s log stamp) ≡ Some (place_behind log)
active_behind s stamp log within =
    let at : 0 + log.segment ≡ log.segment = omega arith in
    active_changed 0 s.each log.segment (logged log stamp) refl within
    ∙ ap (λ (n : ℕ). let p : Position = record { segment = n; block = end_of log } in Some p) at

-- each log is next, and the clean segments after all of them are what is left of the free ones, and those
-- kept
pub record Placed (s : Segments) (stamp : ℕ) (logs : List Log) (kept : List ℕ) : Type 0 where
  pub next : AreNextLogs s stamp logs
  pub free : List ℕ
  pub clean : clean_segments (with_logs s logs stamp) ≡ free ++ kept

placed_on : (logs : List Log) (s : Segments) (stamp : ℕ) (left : Option Position) (free kept : List ℕ)
    → AreTidy s → active_place s ≡ left → AllByRecursion (IsLog s.blocks) logs
    → AreInRow s.blocks left logs → IsFront (taken_segments s.blocks left logs) free
    → clean_segments s ≡ free ++ kept → Placed s stamp logs kept
placed_on [] s stamp left free kept tidy at each row taken clean =
    record { next = tt; free = free; clean = clean }
placed_on (log ∷ logs) s stamp left free kept tidy at each row taken clean =
    let n = next_log s stamp log logs left free kept tidy at each.0 row taken clean in
    let rest =
    placed_on logs (with_log s log stamp) stamp (Some (place_behind log)) n.free kept
    (tidy_with_log s log stamp tidy each.0.inside)
    (active_behind s stamp log n.new.segment) each.1 row.1 n.taken n.clean in
    record { next = (n.new, rest.next); free = rest.free; clean = rest.clean }

-- what a checkpoint has to leave, or a move
abbrev pub kept_segments : Bool → Segments → List ℕ
kept_segments true s = drop (length (clean_segments s) - 2) (clean_segments s)
kept_segments false s = []

pub placed : (s : Segments) (reserve : Bool) (n stamp : ℕ) (logs : List Log) → AreTidy s
    → LogsFit s reserve n logs → Placed s stamp logs (kept_segments reserve s)
placed s true n stamp logs tidy g =
    placed_on logs s stamp (active_place s) _ _ tidy refl g.each g.in_row g.taken
    (sym (take-append-drop (length (clean_segments s) - 2) (clean_segments s)))
placed s false n stamp logs tidy g =
    placed_on logs s stamp (active_place s) _ _ tidy refl g.each g.in_row g.taken
    (sym (append-nil (clean_segments s)))

-- ---- what follows for the whole list

pub tidy_with_logs : (logs : List Log) (s : Segments) (stamp : ℕ) → AreTidy s → AreNextLogs s stamp logs
    → AreTidy (with_logs s logs stamp)
tidy_with_logs [] s stamp tidy next = tidy
tidy_with_logs (log ∷ logs) s stamp tidy next =
    tidy_with_logs logs (with_log s log stamp) stamp
    (tidy_with_log s log stamp tidy next.0.is_log.inside) next.1

pub two_stay : (s : Segments) (n stamp : ℕ) (logs : List Log) → AreTidy s → LogsFit s true n logs
    → 2 ≤ length (clean_segments s) → 2 ≤ length (clean_segments (with_logs s logs stamp))
two_stay s n stamp logs tidy g two =
    let p = placed s true n stamp logs tidy g in
    let all : length (clean_segments (with_logs s logs stamp))
    ≡ length p.free + length (kept_segments true s) =
    ap length p.clean ∙ length-append p.free (kept_segments true s) in
    let kept : length (kept_segments true s) ≡ length (clean_segments s) - (length (clean_segments s) - 2) =
    length-drop (length (clean_segments s) - 2) (clean_segments s) in
    omega (arith, all, kept, two)

-- the payload fits beside what is used
pub room_for : (logs : List Log) (s : Segments) (stamp : ℕ) → AreTidy s → AreNextLogs s stamp logs
    → payload_count logs + used_blocks s ≤ total_blocks s
room_for [] s stamp tidy next = let most = used_in-most s.blocks s.each tidy.each in omega (arith, most)
room_for (log ∷ logs) s stamp tidy next =
    let rest =
    room_for logs (with_log s log stamp) stamp
    (tidy_with_log s log stamp tidy next.0.is_log.inside) next.1 in
    let size : total_blocks (with_log s log stamp) ≡ total_blocks s =
    ap (λ (n : ℕ). n * s.blocks) (length-with_log s log stamp) in
    let change = used_in-changed s.each log.segment (logged log stamp) next.0.segment in
    let at = next.0.behind_used in
    omega (arith, rest, size, change, at)
