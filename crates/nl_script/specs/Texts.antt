-- Texts, and their places in columns.
use Rattle.nl_types.specs.Plain.Characters.{blank_space}
use Rattle.std.specs.Prelude.{ℕ, ◌-◌, List, ◌++◌, length, replicate}

-- bytes as they are printed
abbrev pub Text : Type 0
Text = List ℕ

-- so many blanks
abbrev pub blanks : ℕ → Text
blanks count = replicate count blank_space

-- the text with blanks before it up to a width; a longer one stays whole
abbrev pub right : (width : ℕ) → Text → Text
right width text = blanks (width - length text) ++ text

-- the text with blanks behind it up to a width; a longer one stays whole
abbrev pub left : (width : ℕ) → Text → Text
left width text = text ++ blanks (width - length text)
