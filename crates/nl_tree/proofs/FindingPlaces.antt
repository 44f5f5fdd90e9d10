-- A walk by the bytes of a path comes to the directory of its last name.
use Rattle.std.proofs.Common.{◌≡◌, ℕ, List, [], ◌∷◌, ◌++◌, Option, Result, Ok, Err, refl, sym, ap, ◌∙◌, append_assoc, ◌<◌, length, arith}
use Rattle.nl_types.specs.declared.error.VolError.{VolError}
use Rattle.nl_types.specs.declared.kind.Kind.TheVariants as kind
use Rattle.nl_types.specs.Plain.Calls.{and_then}
use Rattle.nl_types.specs.Inodes.{Inodes, Link}
use Rattle.nl_types.specs.Plain.Paths.{Name, Path}
use Rattle.nl_types.specs.Resolving.{as_dir, resolve, resolve_from, step_to}
use Rattle.nl_tree.specs.Held.{Holding, held_record, inodes_of_holding}
use Rattle.nl_tree.specs.Naming.{IsPlaceOf, IsPlaceRefused}
use Rattle.nl_tree.specs.Private.PathParts.{DividesAtSlash, IsOnePart, parts_of}
use Rattle.nl_tree.specs.Reading.{as_directory}
use Rattle.nl_tree.proofs.AbovePaths.{some_part}
use Rattle.nl_tree.specs.Facts.HeldContents.{held_record-content}
use Rattle.nl_tree.proofs.PathParts.{parts_of-more, parts_of-one}

-- ---- steps

-- a walk by names and more is a walk by the names and one by the others
resolve_from-append : (inodes : Inodes) (at : Link) (names more : Path)
    → resolve_from inodes at (names ++ more)
    ≡ and_then (resolve_from inodes at names) (λ next. resolve_from inodes next more)
resolve_from-append inodes at [] more = refl
resolve_from-append inodes at (name ∷ names) more =
    by_step (step_to inodes at name) (λ next. resolve_from-append inodes next names more)
  where
    by_step : (r : Result Link VolError)
        → ((next : Link)
        → resolve_from inodes next (names ++ more)
        ≡ and_then (resolve_from inodes next names) (λ x. resolve_from inodes x more))
        → and_then r (λ next. resolve_from inodes next (names ++ more))
        ≡ and_then (and_then r (λ next. resolve_from inodes next names)) (λ x. resolve_from inodes x more)
    by_step (Ok next) rest = rest next
    by_step (Err e) rest = refl

-- what comes to a directory by one step
stepped : (found : Result Link VolError) (next : ℕ) → Ok next ≡ and_then found as_directory
    → found ≡ Ok (next, kind.Directory)
stepped (Ok (i, kind.Directory)) next e = cc
stepped (Ok (i, kind.File)) next e = absurd cc
stepped (Err x) next e = absurd cc

-- from a file no walk comes to a directory
refused_behind : (inodes : Inodes) (found : Result Link VolError) (names : Path) (x : VolError)
    → Err x ≡ and_then found as_directory
    → and_then (and_then found (λ next. resolve_from inodes next names)) as_dir ≡ Err x
refused_behind inodes (Err y) names x e = cc
refused_behind inodes (Ok (i, kind.Directory)) names x e = absurd cc
refused_behind inodes (Ok (i, kind.File)) [] x e = cc
refused_behind inodes (Ok (i, kind.File)) (name ∷ names) x e = cc

-- the last of the parts, and those before it
record EndsIn (path : Path) : Type 0 where
  pub dir : Path
  pub name : Name
  pub is : path ≡ dir ++ name ∷ []

last_of : (part : Name) (parts : Path) → EndsIn (part ∷ parts)
last_of part [] = record { dir = []; name = part; is = refl }
last_of part (next ∷ parts) =
    let ends = last_of next parts in
    record { dir = part ∷ ends.dir; name = ends.name; is = ap (λ (p : Path). part ∷ p) ends.is }

parts_end : (parts : Path) → 0 < length parts → EndsIn parts
parts_end [] some = absurd (omega arith)
parts_end (part ∷ parts) some = last_of part parts

-- ---- the walk so far

module _ (names rest : List ℕ) (walked : Path) (so_far : parts_of names ≡ walked ++ parts_of rest) where
  -- a step goes on
  pub parts_walked : (part behind : List ℕ) → DividesAtSlash rest part behind
      → parts_of names ≡ (walked ++ part ∷ []) ++ parts_of behind
  parts_walked part behind split =
      so_far
      ∙ (ap (λ (parts : Path). walked ++ parts) (parts_of-more rest part behind split)
      ∙ sym (append_assoc walked (part ∷ []) (parts_of behind)))

  pub directory_walked : (inodes : Inodes) (directory next : ℕ) (part : List ℕ)
      → resolve inodes walked ≡ Ok (directory, kind.Directory)
      → Ok next ≡ and_then (step_to inodes (directory, kind.Directory) part) as_directory
      → resolve inodes (walked ++ part ∷ []) ≡ Ok (next, kind.Directory)
  directory_walked inodes directory next part here step =
      resolve_from-append inodes (2, kind.Directory) walked (part ∷ [])
      ∙ (ap (λ (r : Result Link VolError). and_then r (λ at. resolve_from inodes at (part ∷ []))) here
      ∙ ap (λ (r : Result Link VolError). and_then r (λ at. Ok at))
      (stepped (step_to inodes (directory, kind.Directory) part) next step))

  -- a step is refused
  pub place_refused : (held : Holding) (directory : ℕ) (part behind : List ℕ) (x : VolError)
      → DividesAtSlash rest part behind
      → resolve (inodes_of_holding held) walked ≡ Ok (directory, kind.Directory)
      → Err x ≡ and_then (step_to (inodes_of_holding held) (directory, kind.Directory) part) as_directory
      → IsPlaceRefused held (parts_of names) x
  place_refused held directory part behind x split here step =
      let ends = parts_end (parts_of behind) (some_part behind) in
      let inodes : Inodes = inodes_of_holding held in
      record {
        dir = (walked ++ part ∷ []) ++ ends.dir;
        name = ends.name;
        is_path =
            parts_walked part behind split ∙ (ap (λ (parts : Path). (walked ++ part ∷ []) ++ parts) ends.is
            ∙ sym (append_assoc (walked ++ part ∷ []) ends.dir (ends.name ∷ [])));
        refused =
            ap (λ (p : Path). and_then (resolve inodes p) as_dir) (append_assoc walked (part ∷ []) ends.dir)
            ∙ (ap (λ (r : Result Link VolError). and_then r as_dir)
            (resolve_from-append inodes (2, kind.Directory) walked (part ∷ ends.dir))
            ∙ (ap (λ (r : Result Link VolError).
            and_then (and_then r (λ at. resolve_from inodes at (part ∷ ends.dir))) as_dir)
            here
            ∙ refused_behind inodes (step_to inodes (directory, kind.Directory) part) ends.dir x step));
      }

  -- the last part is the name
  pub place_found : (held : Holding) (directory : ℕ) (link : Option Link) → IsOnePart rest
      → resolve (inodes_of_holding held) walked ≡ Ok (directory, kind.Directory)
      → link ≡ held_record (held directory) rest
      → IsPlaceOf held (parts_of names) directory rest link
  place_found held directory link one here is = record {
    dir = walked;
    is_path = so_far ∙ ap (λ (parts : Path). walked ++ parts) (parts_of-one rest one);
    named = record { resolved = here; has = sym (is ∙ held_record-content (held directory) rest) };
  }
