-- What reads tell.
use Rattle.std.specs.Prelude.{◌≡◌, ◌⊎◌, ℕ, ◌==◌, if◌then◌else◌, List, [], length, slice_get, Option, None, Some, Result, Ok, Err}
use Rattle.std.specs.Option.{option_map}
use Rattle.nl_types.specs.declared.event.Ask.{Ask}
use Rattle.nl_types.specs.declared.event.Ask.TheVariants as ask
use Rattle.nl_types.specs.declared.reply.Answer.{Answer}
use Rattle.nl_types.specs.declared.reply.Named.{Named}
use Rattle.nl_types.specs.Plain.Calls.{IsReadReply, reply_to}
use Rattle.nl_types.specs.Plain.Worlds.{Reply, World}
use Rattle.nl_commit.specs.Layout.{MeansWorld}
use Rattle.nl_commit.specs.Means.{copy_read}
use Rattle.nl_c.specs.Answers.{IsNameTold, bytes_in, names_in, object_in}
use Rattle.nl_c.specs.Copying.{filled, fitting}
use Rattle.nl_c.specs.Statuses.{closed, done, memory, told_of}
use Rattle.nl_c.specs.declared.held.Held.{Held}
use Rattle.nl_c.specs.declared.answers.Object.{Object}
use Rattle.nl_c.specs.declared.reading.PathAsk.{PathAsk}
use Rattle.nl_c.specs.declared.reading.PathAsk.TheVariants as path_ask

-- ---- questions

abbrev pub ask_at : PathAsk → List ℕ → Ask
ask_at (path_ask.Bytes offset len) path = ask.Bytes path offset len
ask_at path_ask.List path = ask.List path
ask_at path_ask.Stat path = ask.Stat path

-- what the current tree answers, or under a number the copy of a kept checkpoint
abbrev pub tree_reply : World → (at : ℕ) → Ask → Reply
tree_reply w at a = if at == 0 then reply_to w.tree a else copy_read w at a

-- A closed handle is told so. Else it is answered as in each world that the volume means, or memory lacks
-- where the read may take any.
abbrev pub Asks : Option Held → (at : ℕ) → Ask → Result Answer ℕ → Type 0
Asks None at a told = told ≡ Err closed
Asks (Some h) at a told =
    (reply : Reply) × (told ≡ told_of reply)
    × ((w : World) → MeansWorld h.pen w → IsReadReply a reply (tree_reply w at a))

-- or there was no memory for a copy of the path
abbrev pub AsksPath : Option Held → (at : ℕ) → Ask → Result Answer ℕ → Type 0
AsksPath was at a told = (told ≡ Err memory) ⊎ Asks was at a told

-- ---- answers

-- the array has the bytes, and the count is told; a refusal leaves both as they were
abbrev pub IsBytesTold : Result Answer ℕ → (array : List ℕ) → (count : ℕ) → (status : ℕ)
    → List ℕ → ℕ → Type 0
IsBytesTold (Ok a) array count status new_array new_count =
    (status ≡ done) × (new_array ≡ filled array (bytes_in a)) × (new_count ≡ fitting array (bytes_in a))
IsBytesTold (Err e) array count status new_array new_count =
    (status ≡ e) × (new_array ≡ array) × (new_count ≡ count)

abbrev pub IsObjectTold : Result Answer ℕ → Object → (status : ℕ) → Object → Type 0
IsObjectTold (Ok a) object status new_object = (status ≡ done) × (new_object ≡ object_in a)
IsObjectTold (Err e) object status new_object = (status ≡ e) × (new_object ≡ object)

-- ---- names

abbrev pub having_names : List Named → Held → Held
having_names names h = record h { names = names }

-- these are left to be copied out
abbrev pub with_names : List Named → Option Held → Option Held
with_names names = option_map (having_names names)

abbrev pub IsListed : Result Answer ℕ → Option Held → (count : ℕ) → (status : ℕ) → Option Held → ℕ → Type 0
IsListed (Ok a) was count status after new_count =
    (status ≡ done) × (after ≡ with_names (names_in a) was) × (new_count ≡ length (names_in a))
IsListed (Err e) was count status after new_count = (status ≡ e) × (after ≡ was) × (new_count ≡ count)

-- of the directory that was listed last
abbrev pub IsNameOf : Option Held → (index : ℕ) → (array : List ℕ) → Object → (status : ℕ)
    → List ℕ → Object → Type 0
IsNameOf None index array object status new_array new_object =
    (status ≡ closed) × (new_array ≡ array) × (new_object ≡ object)
IsNameOf (Some h) index array object status new_array new_object =
    IsNameTold (slice_get h.names index) array object status new_array new_object
