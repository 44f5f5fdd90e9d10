-- How entries are judged that calls are to make a tree of.
use Rattle.std.specs.Prelude.{ℕ, ◌-◌, ◌==◌, Bool, true, false, ◌&&◌, nat_le, nat_lt, [], ◌∷◌, length}
use Rattle.std.specs.List.{list_all}
use Rattle.std.specs.Ordering.{is_lt}
use Rattle.nl_types.specs.declared.reply.Object.{Object}
use Rattle.nl_types.specs.declared.reply.Object.TheVariants.{Dir, File}
use Rattle.nl_types.specs.Plain.Calls.{is_dir}
use Rattle.nl_types.specs.Plain.Limits.{file_limit, path_length_limit}
use Rattle.nl_types.specs.Plain.Paths.{Path, is_name, name_cmp, same_name}
use Rattle.nl_types.specs.Plain.Trees.{Tree}

-- ---- an entry

-- whether the names take at most so many bytes, each with a slash
abbrev pub is_spelled : (room : ℕ) → Path → Bool
is_spelled room [] = true
is_spelled room (name ∷ names) = nat_lt (length name) room && is_spelled (room - length name - 1) names

abbrev pub is_small : Object → Bool
is_small Dir = true
is_small (File bytes) = nat_le (length bytes) file_limit

abbrev pub is_entry : Path × Object → Bool
is_entry e = list_all is_name e.0 && is_spelled path_length_limit e.0 && is_small e.1

-- ---- one entry behind another

-- Whether the later path is that of a name in the earlier one, where a directory stands, or comes behind it in
-- a directory above it.
abbrev pub follows : (is_directory : Bool) → (earlier later : Path) → Bool
follows d earlier [] = false
follows d [] (n ∷ []) = d
follows d [] (n ∷ m ∷ later) = false
follows d (a ∷ earlier) (n ∷ []) = is_lt (name_cmp a n)
follows d (a ∷ earlier) (n ∷ m ∷ later) = same_name a n && follows d earlier (m ∷ later)

-- whether each entry follows the one before it
abbrev pub all_follow : Path × Object → Tree → Bool
all_follow e [] = true
all_follow e (f ∷ entries) = follows (is_dir e.1) e.0 f.0 && all_follow f entries

-- ---- all entries

-- whether the first one is the root, and a directory
abbrev pub is_rooted : Tree → Bool
is_rooted [] = false
is_rooted (e ∷ entries) = length e.0 == 0 && is_dir e.1 && all_follow e entries
