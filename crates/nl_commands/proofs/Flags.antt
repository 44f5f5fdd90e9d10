use Rattle.std.proofs.Common.{◌≡◌, ◌∙◌, ap, refl, sym, option_map, Option, None, Some, find}
use Rattle.std.specs.Prelude.{option_and_then}
use Rattle.std.specs.Str.{bytes_eq}
use Rattle.clap.specs.Matches.{matched_of}
use Rattle.clap.specs.Walk.{Text, row_of, rows_of}
use Rattle.clap.specs.Facts.{Entry}
use Rattle.clap.specs.declared.parser.matches.Found.{Found}
use Rattle.clap.specs.declared.parser.matches.ValueSource.{ValueSource}
use Rattle.nl_commands.specs.Grammars.{is_from_words, is_used}
use Rattle.clap.proofs.WalkLemmas.{find_row}

source_at : (o : Option Entry)
    → option_and_then (λ a. a.source) (option_map (λ e. e.1) o)
    ≡ option_and_then (λ r. r.source) (option_map row_of o)
source_at None = refl
source_at (Some e) = refl

pub source_of : (f : Found) (id : Text)
    → option_and_then (λ a. a.source) (matched_of f id)
    ≡ option_and_then (λ r. r.source) (find (λ r. bytes_eq r.id id) (rows_of f))
source_of f id =
    source_at (find (λ e. bytes_eq e.0.now id) f.entries.items)
    ∙ ap (option_and_then (λ r. r.source)) (sym (find_row f.entries.items id))

pub used-is : (f : Found) (id : Text) (source : Option ValueSource)
    → source ≡ option_and_then (λ a. a.source) (matched_of f id)
    → is_from_words source ≡ is_used id (rows_of f)
used-is f id source is = ap is_from_words (is ∙ source_of f id)
