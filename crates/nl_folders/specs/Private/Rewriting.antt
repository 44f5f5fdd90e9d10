-- How calls turn a file's bytes into others.
use Rattle.std.specs.Prelude.{◌≡◌, ℕ, ◌+◌, ◌*◌, ◌<◌, ◌≤◌, min, max, Bool, true, false, List, [], ◌∷◌, length, slice_index, slice_range, Option, None, Some}
use Rattle.nl_types.specs.declared.event.Change.{Change}
use Rattle.nl_types.specs.declared.event.Change.TheVariants.{Create, Mkdir, Write, Truncate}
use Rattle.nl_types.specs.declared.reply.Object.{Object}
use Rattle.nl_types.specs.declared.reply.Object.TheVariants.{Dir, File}
use Rattle.nl_types.specs.Plain.Paths.{Path}
use Rattle.nl_types.specs.Plain.Calls.{overwritten, resized}
use Rattle.nl_folders.specs.declared.rewriting.Run.{Run}
use Rattle.nl_folders.specs.Blocks.{IsOfOtherBlocks, block_stands, blocks_in}
use Rattle.nl_folders.specs.Spelled.{spelling}

-- ---- calls on a file

-- what a call on a file makes of its bytes
abbrev pub content_with : List ℕ → Change → List ℕ
content_with bytes (Write path offset new) = overwritten bytes offset new
content_with bytes (Truncate path size) = resized bytes size
content_with bytes _ = bytes

-- what calls in order make of them
abbrev pub content_after : List ℕ → List Change → List ℕ
content_after bytes [] = bytes
content_after bytes (call ∷ calls) = content_after (content_with bytes call) calls

-- the call writes some bytes of the file, or sets its size, within so many bytes
abbrev pub IsRewrite : Path → (limit : ℕ) → Change → Type 0
IsRewrite path limit (Write named offset new) =
    (named ≡ spelling path) × (0 < length new) × (offset + length new ≤ limit)
IsRewrite path limit (Truncate named size) = (named ≡ spelling path) × (size ≤ limit)
IsRewrite path limit _ = ⊥

abbrev pub AreRewrites : Path → (limit : ℕ) → List Change → Type 0
AreRewrites path limit [] = Unit {0}
AreRewrites path limit (call ∷ calls) = IsRewrite path limit call × AreRewrites path limit calls

abbrev pub AreOfOtherBlocks : List ℕ → List ℕ → List Change → Type 0
AreOfOtherBlocks old new [] = Unit {0}
AreOfOtherBlocks old new (call ∷ calls) = IsOfOtherBlocks old new call × AreOfOtherBlocks old new calls

-- the calls make new bytes of old ones
pub record RewritesFile (path : Path) (old new : List ℕ) (calls : List Change) : Type 0 where
  pub content : content_after old calls ≡ new
  pub rewrites : AreRewrites path (length new) calls
  pub others : AreOfOtherBlocks old new calls

-- a file is made first
abbrev pub MakesFile : Path → List ℕ → List Change → Type 0
MakesFile path new [] = ⊥
MakesFile path new (call ∷ calls) = (call ≡ Create (spelling path)) × RewritesFile path [] new calls

-- the calls put an object where another one of its kind stands, or one of another kind stood
abbrev pub PutsObject : Path → Option Object → Object → List Change → Type 0
PutsObject path None Dir calls = calls ≡ Mkdir (spelling path) ∷ []
PutsObject path None (File new) calls = MakesFile path new calls
PutsObject path (Some Dir) Dir calls = calls ≡ []
PutsObject path (Some Dir) (File new) calls = MakesFile path new calls
PutsObject path (Some (File old)) Dir calls = calls ≡ Mkdir (spelling path) ∷ []
PutsObject path (Some (File old)) (File new) calls = RewritesFile path old new calls

-- ---- runs of blocks

-- two files have the same bytes from one place up to another, if zeros stand behind their ends
abbrev pub SameBytes : List ℕ → List ℕ → (from to : ℕ) → Type 0
SameBytes one other from to = (i : ℕ) → from ≤ i → i < to → slice_index one i ≡ slice_index other i

-- the new bytes stand up to a place, where a write has ended, and behind it what was there
pub record IsRewrittenTo (old new content : List ℕ) (place : ℕ) : Type 0 where
  pub front : SameBytes content new 0 place
  pub rest : (i : ℕ) → place ≤ i → slice_index content i ≡ slice_index old i
  pub size : length content ≡ max (length old) place

-- where a block begins, or else the end
abbrev pub place_of : (size block : ℕ) → ℕ
place_of size block = min (1024 * block) size

-- each block from one to another stands already, or none does
abbrev pub BlocksStand : Bool → List ℕ → List ℕ → (from to : ℕ) → Type 0
BlocksStand test old new from to = (k : ℕ) → from ≤ k → k < to → block_stands old new k ≡ test

-- behind blocks that stand already come some that don't
pub record IsNextRun (old new : List ℕ) (from : ℕ) (run : Run) : Type 0 where
  pub behind : from ≤ run.first
  pub some : run.first < run.end
  pub within : run.end ≤ blocks_in (length new)
  pub standing : BlocksStand true old new from run.first
  pub others : BlocksStand false old new run.first run.end

-- the call that writes a run
abbrev pub write_of : Path → List ℕ → Run → Change
write_of path new run =
    let start = place_of (length new) run.first in
    Write (spelling path) start (slice_range new start (place_of (length new) run.end))
