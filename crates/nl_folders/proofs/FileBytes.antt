-- Runs of bytes that are written turn a file into another one.
use Rattle.std.proofs.Common.{◌≡◌, ◌≢◌, ℕ, zero, suc, ◌+◌, ◌-◌, ◌*◌, ◌/◌, ◌<◌, ◌≤◌, min, max, Bool, true, ◌&&◌, List, [], ◌∷◌, ◌++◌, length, take, drop, replicate, get_or, slice_range, refl, sym, ap, ◌∙◌, subst, arith, inl, inr, ext_get_or, length-append, length-take, length-drop, get_or-take, get_or-drop, take_at, drop_at, take-append-drop}
use Rattle.std.specs.Prelude.{◌==◌}
use Rattle.std.specs.List.{list_all}
use Rattle.std.specs.Str.{bytes_eq}
use Rattle.std.proofs.lemmas.Bool.{and_from, and_parts, cases_lt, cases_order, eqb-true}
use Rattle.std.proofs.lemmas.Bool.Decides.{same_from_decides}
use Rattle.std.proofs.lemmas.List.{length-replicate, get_or-replicate, get_or_append_left, get_or-append_right, get_or_past, drop_min, take_min, take_rest}
use Rattle.std.proofs.lemmas.Slice.Eq.{bytes_eq-Decides}
use Rattle.nl_types.specs.declared.event.Change.{Change}
use Rattle.nl_types.specs.declared.event.Change.TheVariants.{Truncate}
use Rattle.nl_types.specs.Plain.Calls.{overwritten, resized}
use Rattle.nl_types.specs.Facts.FileSizes.{written_sizes, truncated_sizes}
use Rattle.nl_types.specs.Plain.Paths.{Path}
use Rattle.nl_folders.specs.declared.rewriting.Run.{Run}
use Rattle.nl_folders.specs.Blocks.{IsOfOtherBlocks, block_of, block_stands, blocks_in}
use Rattle.nl_folders.specs.Private.Rewriting.{AreOfOtherBlocks, AreRewrites, BlocksStand, IsNextRun, IsRewrite, IsRewrittenTo, RewritesFile, SameBytes, content_after, content_with, place_of, write_of}
use Rattle.nl_folders.specs.Spelled.{spelling}

-- ---- bytes by their places

-- a front of a file with zeros behind its end has the file's bytes
front_byte : (bytes : List ℕ) (size i : ℕ) → i < size
    → get_or (take size bytes ++ replicate (size - length bytes) 0) i 0 ≡ get_or bytes i 0
front_byte bytes size i below =
    let front = take size bytes in
    let zeros : List ℕ = replicate (size - length bytes) 0 in
    elim (cases_lt i (length bytes)) [
      | inl within ↦
          get_or_append_left front zeros 0 i (omega (arith, length-take size bytes, within, below))
          ∙ get_or-take size bytes i 0 below
      | inr past ↦
          get_or-append_right front zeros (length front) i 0 refl (omega (arith, length-take size bytes, past))
          ∙ get_or-replicate (size - length bytes) (i - length front) 0 0
          (omega (arith, length-take size bytes, past, below))
          ∙ sym (get_or_past bytes i 0 past)
    ]

-- the front of a file that is written to
abbrev front_of : List ℕ → ℕ → List ℕ
front_of old offset = take offset old ++ replicate (offset - length old) 0

front_length : (old : List ℕ) (offset : ℕ) → length (front_of old offset) ≡ offset
front_length old offset =
    let zeros : List ℕ = replicate (offset - length old) 0 in
    omega (
      arith,
      length-append (take offset old) zeros,
      length-take offset old,
      length-replicate {A = ℕ} (offset - length old) 0,
    )

part_length : (old new : List ℕ) (offset : ℕ) → length (front_of old offset ++ new) ≡ offset + length new
part_length old new offset =
    omega (arith, length-append (front_of old offset) new, front_length old offset)

-- before what is written
byte_before : (old new : List ℕ) (offset i : ℕ) → i < offset
    → get_or (overwritten old offset new) i 0 ≡ get_or old i 0
byte_before old new offset i below =
    let rest = drop (offset + length new) old in
    get_or_append_left (front_of old offset ++ new) rest 0 i (omega (arith, part_length old new offset, below))
    ∙ get_or_append_left (front_of old offset) new 0 i (omega (arith, front_length old offset, below))
    ∙ front_byte old offset i below

-- in it
byte_in : (old new : List ℕ) (offset i : ℕ) → offset ≤ i → i < offset + length new
    → get_or (overwritten old offset new) i 0 ≡ get_or new (i - offset) 0
byte_in old new offset i behind below =
    let rest = drop (offset + length new) old in
    get_or_append_left (front_of old offset ++ new) rest 0 i (omega (arith, part_length old new offset, below))
    ∙ get_or-append_right (front_of old offset) new offset i 0 (front_length old offset) behind

-- and behind it
byte_behind : (old new : List ℕ) (offset i : ℕ) → offset + length new ≤ i
    → get_or (overwritten old offset new) i 0 ≡ get_or old i 0
byte_behind old new offset i behind =
    let end = offset + length new in
    get_or-append_right (front_of old offset ++ new) (drop end old) end i 0 (part_length old new offset) behind
    ∙ get_or-drop end old (i - end) 0
    ∙ ap (λ n. get_or old n 0) (omega (arith, behind))

-- ---- runs

range_length : (bytes : List ℕ) (start end : ℕ) → end ≤ length bytes
    → length (slice_range bytes start end) ≡ end - start
range_length bytes start end within =
    omega (arith, length-take (end - start) (drop start bytes), length-drop start bytes, within)

range_byte : (bytes : List ℕ) (start end i : ℕ) → start ≤ i → i < end
    → get_or (slice_range bytes start end) (i - start) 0 ≡ get_or bytes i 0
range_byte bytes start end i behind below =
    get_or-take (end - start) (drop start bytes) (i - start) 0 (omega (arith, behind, below))
    ∙ get_or-drop start bytes (i - start) 0
    ∙ ap (λ n. get_or bytes n 0) (omega (arith, behind))

rewritten_begun : (old new : List ℕ) (place : ℕ) → place ≡ 0 → IsRewrittenTo old new old place
rewritten_begun old new place none = record {
  front = λ i _ below. absurd (omega (arith, below, none));
  rest = λ i _. refl;
  size = omega (arith, none);
}

-- the bytes behind a place that stand already, and a run that is written behind them
rewritten_on : (old new content : List ℕ) (place start end : ℕ) → IsRewrittenTo old new content place
    → place ≤ start → start < end → end ≤ length new → SameBytes old new place start
    → IsRewrittenTo old new (overwritten content start (slice_range new start end)) end
rewritten_on old new content place start end r behind some within same =
    let run = slice_range new start end in
    let wide = range_length new start end within in
    record {
      front = λ i _ below. front i below;
      rest = λ i past.
          byte_behind content run start i (omega (arith, wide, past, some))
          ∙ r.rest i (omega (arith, behind, past, some));
      size = omega (arith, written_sizes content start run, wide, r.size, behind, some);
    }
  where
    before : (i : ℕ) → i < start → get_or content i 0 ≡ get_or new i 0
    before i below = elim (cases_lt i place) [
      | inl written ↦ r.front i (omega arith) written
      | inr past ↦ r.rest i past ∙ same i past below
    ]

    front : (i : ℕ) → i < end
        → get_or (overwritten content start (slice_range new start end)) i 0 ≡ get_or new i 0
    front i below = elim (cases_lt i start) [
      | inl earlier ↦ byte_before content (slice_range new start end) start i earlier ∙ before i earlier
      | inr later ↦
          byte_in content (slice_range new start end) start i later
          (omega (arith, range_length new start end within, later, below, some))
          ∙ range_byte new start end i later below
    ]

-- once all bytes stand
all_bytes : (old new content : List ℕ) (place : ℕ) → IsRewrittenTo old new content place
    → SameBytes old new place (length new) → (i : ℕ) → i < length new → get_or content i 0 ≡ get_or new i 0
all_bytes old new content place r same i below = elim (cases_lt i place) [
  | inl written ↦ r.front i (omega arith) written
  | inr past ↦ r.rest i past ∙ same i past below
]

-- the file is the new one, if it ends where that does
rewritten_whole : (old new content : List ℕ) (place : ℕ) → IsRewrittenTo old new content place
    → SameBytes old new place (length new) → max (length old) place ≡ length new → content ≡ new
rewritten_whole old new content place r same ends =
    let long : length content ≡ length new = r.size ∙ ends in
    ext_get_or 0 content new long
    (λ i within. all_bytes old new content place r same i (omega (arith, within, long)))

-- and else once its size is set
rewritten_resized : (old new content : List ℕ) (place : ℕ) → IsRewrittenTo old new content place
    → SameBytes old new place (length new) → resized content (length new) ≡ new
rewritten_resized old new content place r same =
    let long = truncated_sizes content (length new) in
    ext_get_or 0 (resized content (length new)) new long (λ i within.
    let below : i < length new = omega (arith, within, long) in
    front_byte content (length new) i below ∙ all_bytes old new content place r same i below)

-- ---- calls

-- one call more
content_after-push : (bytes : List ℕ) (calls : List Change) (call : Change)
    → content_after bytes (calls ++ call ∷ []) ≡ content_with (content_after bytes calls) call
content_after-push bytes [] call = refl
content_after-push bytes (first ∷ calls) call = content_after-push (content_with bytes first) calls call

AreRewrites-push : (path : Path) (limit : ℕ) (calls : List Change) (call : Change)
    → AreRewrites path limit calls → IsRewrite path limit call → AreRewrites path limit (calls ++ call ∷ [])
AreRewrites-push path limit [] call are is = (is, tt)
AreRewrites-push path limit (first ∷ calls) call are is =
    (are.0, AreRewrites-push path limit calls call are.1 is)

AreOfOtherBlocks-push : (old new : List ℕ) (calls : List Change) (call : Change)
    → AreOfOtherBlocks old new calls → IsOfOtherBlocks old new call
    → AreOfOtherBlocks old new (calls ++ call ∷ [])
AreOfOtherBlocks-push old new [] call are is = (is, tt)
AreOfOtherBlocks-push old new (first ∷ calls) call are is =
    (are.0, AreOfOtherBlocks-push old new calls call are.1 is)

-- ---- blocks

pub block_within : (size k : ℕ) → k < blocks_in size → 1024 * k < size
block_within size k within = omega (arith, within)

pub block_past : (size k : ℕ) → blocks_in size ≤ k → size ≤ 1024 * k
block_past size k past = omega (arith, past)

-- a block that stands has the new bytes
block_same : (old new : List ℕ) (k : ℕ) → block_stands old new k ≡ true
    → (i : ℕ) → 1024 * k ≤ i → i < 1024 * k + 1024 → i < length new → get_or old i 0 ≡ get_or new i 0
block_same old new k stands i behind below within =
    let start = 1024 * k in
    let j = i - start in
    let block = block_of new k in
    let equal : resized (drop start old) (length block) ≡ block =
    (bytes_eq-Decides (resized (drop start old) (length block)) block).0 stands in
    let inside : j < length block =
    omega (arith, length-take 1024 (drop start new), length-drop start new, behind, below, within) in
    let back : start + j ≡ i = omega (arith, behind) in
    sym (ap (λ n. get_or old n 0) back)
    ∙ sym (get_or-drop start old j 0)
    ∙ sym (front_byte (drop start old) (length block) j inside)
    ∙ ap (λ (b : List ℕ). get_or b j 0) equal
    ∙ get_or-take 1024 (drop start new) j 0 (omega (arith, behind, below))
    ∙ get_or-drop start new j 0
    ∙ ap (λ n. get_or new n 0) back

-- so blocks that stand have the bytes from one to the other
standing_same : (old new : List ℕ) (from to : ℕ) → BlocksStand true old new from to
    → SameBytes old new (place_of (length new) from) (place_of (length new) to)
standing_same old new from to stand i behind below =
    let k = i / 1024 in
    block_same old new k (stand k (omega (arith, behind, below)) (omega (arith, behind, below))) i
    (omega arith) (omega arith) (omega (arith, below))

-- ---- runs of blocks

-- the calls so far have written each block before one that didn't stand
pub record IsWritten (path : Path) (old new : List ℕ) (calls : List Change) (done : ℕ) : Type 0 where
  pub rewrites : AreRewrites path (length new) calls
  pub others : AreOfOtherBlocks old new calls
  pub content : IsRewrittenTo old new (content_after old calls) (place_of (length new) done)

pub written_none : (path : Path) (old new : List ℕ) → IsWritten path old new [] 0
written_none path old new = record {
  rewrites = tt;
  others = tt;
  content = rewritten_begun old new (place_of (length new) 0) (omega arith);
}

pub written_more : (path : Path) (old new : List ℕ) (calls : List Change) (done : ℕ) (run : Run)
    → IsWritten path old new calls done → IsNextRun old new done run
    → IsWritten path old new (calls ++ write_of path new run ∷ []) run.end
written_more path old new calls done run w next =
    let size = length new in
    let start = place_of size run.first in
    let end = place_of size run.end in
    let call = write_of path new run in
    let first_in : 1024 * run.first < size =
    block_within size run.first (omega (arith, next.some, next.within)) in
    let begins : start ≡ 1024 * run.first = omega (arith, first_in) in
    let some : start < end = omega (arith, first_in, next.some) in
    let within : end ≤ size = omega arith in
    let wide = range_length new start end within in
    record {
      rewrites =
          AreRewrites-push path size calls call w.rewrites
          (refl, omega (arith, wide, some), omega (arith, wide, some, within));
      others =
          AreOfOtherBlocks-push old new calls call w.others
          (run.first, begins, λ k behind below. next.others k behind (omega (arith, below, wide, some)));
      content =
          subst (λ (b : List ℕ). IsRewrittenTo old new b end) (sym (content_after-push old calls call))
          (rewritten_on old new (content_after old calls) (place_of size done) start end w.content
          (omega (arith, next.behind)) some within (standing_same old new done run.first next.standing));
    }

-- all blocks behind them stand
all_same : (old new : List ℕ) (done : ℕ) → BlocksStand true old new done (blocks_in (length new))
    → SameBytes old new (place_of (length new) done) (length new)
all_same old new done stand =
    subst (SameBytes old new (place_of (length new) done)) (ends (length new))
    (standing_same old new done (blocks_in (length new)) stand)
  where
    ends : (size : ℕ) → place_of size (blocks_in size) ≡ size
    ends size = omega (arith, block_past size (blocks_in size) (omega arith))

-- then the new file stands, if it ends where that does
pub written_whole : (path : Path) (old new : List ℕ) (calls : List Change) (done : ℕ)
    → IsWritten path old new calls done → BlocksStand true old new done (blocks_in (length new))
    → max (length old) (place_of (length new) done) ≡ length new → RewritesFile path old new calls
written_whole path old new calls done w stand ends = record {
  content =
      rewritten_whole old new (content_after old calls) (place_of (length new) done) w.content
      (all_same old new done stand) ends;
  rewrites = w.rewrites;
  others = w.others;
}

-- and else once its size is set
pub written_resized : (path : Path) (old new : List ℕ) (calls : List Change) (done : ℕ)
    → IsWritten path old new calls done → BlocksStand true old new done (blocks_in (length new))
    → max (length old) (place_of (length new) done) ≢ length new
    → RewritesFile path old new (calls ++ Truncate (spelling path) (length new) ∷ [])
written_resized path old new calls done w stand apart =
    let call = Truncate (spelling path) (length new) in
    record {
      content =
          content_after-push old calls call
          ∙ rewritten_resized old new (content_after old calls) (place_of (length new) done) w.content
          (all_same old new done stand);
      rewrites = AreRewrites-push path (length new) calls call w.rewrites (refl, omega arith);
      others =
          AreOfOtherBlocks-push old new calls call w.others (λ even. apart (omega (arith, even)));
    }

-- ---- a test of bytes

zeros_are : (bytes : List ℕ) → list_all (λ b. b == 0) bytes ≡ true → bytes ≡ replicate (length bytes) 0
zeros_are [] all = refl
zeros_are (b ∷ bytes) all =
    let parts = and_parts (b == 0) (list_all (λ x. x == 0) bytes) all in
    let first = eqb-true b 0 parts.0 in
    let rest = zeros_are bytes parts.1 in
    λ i. first i ∷ rest i

all_zeros : (count : ℕ) → list_all (λ b. b == 0) (replicate count 0) ≡ true
all_zeros zero = refl
all_zeros (suc count) = all_zeros count

-- the front that two lists share, and zeros behind it
resized_is : (rest : List ℕ) (size shared : ℕ) → shared ≡ min (length rest) size
    → resized rest size ≡ take shared rest ++ replicate (size - shared) 0
resized_is rest size shared is =
    let front : take size rest ≡ take shared rest =
    sym (take_min size rest) ∙ ap (λ n. take n rest) (omega arith) in
    let zeros : replicate {A = ℕ} (size - length rest) 0 ≡ replicate (size - shared) 0 =
    ap (λ (n : ℕ). replicate n 0) (omega arith) in
    λ i. front i ++ zeros i

abbrev pub tests_of : (rest bytes : List ℕ) (shared : ℕ) → Bool
tests_of rest bytes shared =
    bytes_eq (take shared rest) (take shared bytes) && list_all (λ b. b == 0) (drop shared bytes)

has_forth : (rest bytes : List ℕ) (shared : ℕ) → shared ≡ min (length rest) (length bytes)
    → tests_of rest bytes shared ≡ true → resized rest (length bytes) ≡ bytes
has_forth rest bytes shared short is =
    let tests = bytes_eq (take shared rest) (take shared bytes) in
    let parts = and_parts tests (list_all (λ b. b == 0) (drop shared bytes)) is in
    let front = (bytes_eq-Decides (take shared rest) (take shared bytes)).0 parts.0 in
    let zeros : replicate {A = ℕ} (length bytes - shared) 0 ≡ drop shared bytes =
    ap (λ (n : ℕ). replicate n 0) (sym (length-drop shared bytes))
    ∙ sym (zeros_are (drop shared bytes) parts.1) in
    resized_is rest (length bytes) shared short ∙ (λ i. front i ++ zeros i) ∙ take-append-drop shared bytes

has_back : (rest bytes : List ℕ) (shared : ℕ) → shared ≡ min (length rest) (length bytes)
    → resized rest (length bytes) ≡ bytes → tests_of rest bytes shared ≡ true
has_back rest bytes shared short is =
    let zeros : List ℕ = replicate (length bytes - shared) 0 in
    let long : length (take shared rest) ≡ shared = omega (arith, length-take shared rest, short) in
    let whole : take shared rest ++ zeros ≡ bytes = sym (resized_is rest (length bytes) shared short) ∙ is in
    let front : take shared rest ≡ take shared bytes =
    sym (take_at (take shared rest) zeros shared long) ∙ ap (take shared) whole in
    let behind : zeros ≡ drop shared bytes =
    sym (drop_at (take shared rest) zeros shared long) ∙ ap (drop shared) whole in
    and_from (bytes_eq (take shared rest) (take shared bytes)) (list_all (λ b. b == 0) (drop shared bytes))
    ((bytes_eq-Decides (take shared rest) (take shared bytes)).1 front)
    (ap (list_all (λ b. b == 0)) (sym behind) ∙ all_zeros (length bytes - shared))

pub has_bytes_is : (rest bytes : List ℕ) (shared : ℕ) → shared ≡ min (length rest) (length bytes)
    → tests_of rest bytes shared ≡ bytes_eq (resized rest (length bytes)) bytes
has_bytes_is rest bytes shared short =
    same_from_decides {P = resized rest (length bytes) ≡ bytes} (tests_of rest bytes shared)
    (bytes_eq (resized rest (length bytes)) bytes)
    (has_forth rest bytes shared short, has_back rest bytes shared short)
    (bytes_eq-Decides (resized rest (length bytes)) bytes)

-- the same by two tests, of which the second is of what is left of the bytes
pub has_bytes_by : (rest bytes : List ℕ) (shared : ℕ) (front zeros : Bool)
    → shared ≡ min (length rest) (length bytes) → front ≡ bytes_eq (take shared rest) (take shared bytes)
    → zeros ≡ list_all (λ b. b == 0) (take (length bytes - shared) (drop shared bytes))
    → (front && zeros) ≡ bytes_eq (resized rest (length bytes)) bytes
has_bytes_by rest bytes shared front zeros short first second =
    ap (λ b. b && zeros) first
    ∙ ap (λ b. bytes_eq (take shared rest) (take shared bytes) && b)
    (second ∙ ap (list_all (λ b. b == 0)) (take_rest bytes shared))
    ∙ has_bytes_is rest bytes shared short

-- a block by where it begins and ends
pub block_stands_by : (old new : List ℕ) (k start end : ℕ) → k < blocks_in (length new)
    → start ≡ min (1024 * k) (length old) → end ≡ place_of (length new) (k + 1)
    → bytes_eq (resized (take (length old - start) (drop start old))
    (length (take (end - 1024 * k) (drop (1024 * k) new)))) (take (end - 1024 * k) (drop (1024 * k) new))
    ≡ block_stands old new k
block_stands_by old new k start end within begins ends =
    let inside = block_within (length new) k within in
    let bytes = take (end - 1024 * k) (drop (1024 * k) new) in
    let rest : take (length old - start) (drop start old) ≡ drop (1024 * k) old =
    take_rest old start ∙ ap (λ n. drop n old) begins ∙ drop_min (1024 * k) old in
    let block : bytes ≡ block_of new k =
    ap (λ n. take n (drop (1024 * k) new)) (omega (arith, inside, ends, length-drop (1024 * k) new))
    ∙ take_min 1024 (drop (1024 * k) new) in
    ap (λ (r : List ℕ). bytes_eq (resized r (length bytes)) bytes) rest
    ∙ ap (λ (b : List ℕ). bytes_eq (resized (drop (1024 * k) old) (length b)) b) block

-- one block more
pub blocks_more : (test : Bool) (old new : List ℕ) (from block : ℕ) → BlocksStand test old new from block
    → block_stands old new block ≡ test → BlocksStand test old new from (block + 1)
blocks_more test old new from block stand here k behind below =
    elim (cases_order k block) [
      | inl same ↦ ap (block_stands old new) same ∙ here
      | inr apart ↦ elim apart [
        | inl earlier ↦ stand k behind earlier
        | inr later ↦ absurd (omega (arith, below, later))
      ]
    ]

-- and one block before others
pub blocks_before : (test : Bool) (old new : List ℕ) (block end : ℕ) → block_stands old new block ≡ test
    → BlocksStand test old new (block + 1) end → BlocksStand test old new block end
blocks_before test old new block end here stand k behind below =
    elim (cases_order k block) [
      | inl same ↦ ap (block_stands old new) same ∙ here
      | inr apart ↦ elim apart [
        | inl earlier ↦ absurd (omega (arith, behind, earlier))
        | inr later ↦ stand k (omega (arith, later)) below
      ]
    ]
