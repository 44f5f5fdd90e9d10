-- What is printed of answers.
use Rattle.std.specs.Prelude.{ℕ, List, [], ◌∷◌, ◌++◌, codes}
use Rattle.std.specs.Fmt.{decimal}
use Rattle.std.specs.List.{flat_map}
use Rattle.nl_types.specs.Plain.Characters.{line_feed, slash}
use Rattle.nl_types.specs.declared.kind.Kind.{Kind}
use Rattle.nl_types.specs.declared.kind.Kind.TheVariants as kind
use Rattle.nl_types.specs.declared.reply.Named.{Named}
use Rattle.nl_types.specs.declared.reply.Stat.{Stat}
use Rattle.nl_types.specs.declared.reply.Stat.TheVariants.{File, Dir}
use Rattle.nl_script.specs.Texts.{Text}

abbrev pub number_text : ℕ → Text
number_text number = decimal number ++ (line_feed ∷ [])

abbrev pub content_text : List ℕ → Text
content_text bytes = bytes ++ (line_feed ∷ [])

abbrev pub stat_text : Stat → Text
stat_text (File size) = codes "file " ++ (decimal size ++ (line_feed ∷ []))
stat_text (Dir count) = codes "dir " ++ (decimal count ++ (line_feed ∷ []))

-- a round of cleaning: checkpoints, blocks and segments
abbrev pub clean_text : (expired moved freed : ℕ) → Text
clean_text expired moved freed =
    codes "expired " ++ (decimal expired ++ (codes " moved " ++ (decimal moved
    ++ (codes " freed " ++ (decimal freed ++ (line_feed ∷ []))))))

-- what follows a name: a directory's has a slash
abbrev pub name_end : Kind → Text
name_end kind.File = line_feed ∷ []
name_end kind.Directory = slash ∷ (line_feed ∷ [])

abbrev pub name_text : Named → Text
name_text named = named.name ++ name_end named.kind

abbrev pub name_texts : List Named → Text
name_texts names = flat_map name_text names
