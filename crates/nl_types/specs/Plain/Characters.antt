-- The bytes that paths, lines and texts are parted by.
use Rattle.std.specs.Prelude.{ℕ, Bool, ◌==◌, ◌||◌}

abbrev pub slash : ℕ
slash = 47

abbrev pub dot : ℕ
dot = 46

abbrev pub hash_mark : ℕ
hash_mark = 35

abbrev pub quotation_mark : ℕ
quotation_mark = 34

abbrev pub blank_space : ℕ
blank_space = 32

abbrev pub tab : ℕ
tab = 9

abbrev pub line_feed : ℕ
line_feed = 10

-- a space or a tab, which part words
abbrev pub is_blank : ℕ → Bool
is_blank byte = (byte == blank_space) || (byte == tab)
