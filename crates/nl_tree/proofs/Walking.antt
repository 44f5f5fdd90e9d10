-- A walk by the bytes of a path is the walk by its names.
use Rattle.std.proofs.Common.{◌≡◌, ℕ, List, [], Result, Ok, Err, refl, sym, ap, ◌∙◌}
use Rattle.nl_types.specs.declared.error.VolError.{VolError}
use Rattle.nl_types.specs.Plain.Calls.{and_then}
use Rattle.nl_types.specs.Inodes.{Inodes, Link}
use Rattle.nl_types.specs.Resolving.{resolve_from, step_to}
use Rattle.nl_tree.specs.Private.PathParts.{DividesAtSlash, IsOnePart, parts_of}
use Rattle.nl_tree.proofs.PathParts.{parts_of-more, parts_of-one}

module _ (inodes : Inodes) (from at : Link) (names rest : List ℕ)
    (so_far : resolve_from inodes from (parts_of names) ≡ resolve_from inodes at (parts_of rest)) where
  by_part : (part behind : List ℕ) (found : Result Link VolError) → DividesAtSlash rest part behind
      → found ≡ step_to inodes at part
      → resolve_from inodes from (parts_of names)
      ≡ and_then found (λ next. resolve_from inodes next (parts_of behind))
  by_part part behind found split e =
      so_far ∙ (ap (resolve_from inodes at) (parts_of-more rest part behind split)
      ∙ ap (λ (r : Result Link VolError). and_then r (λ next. resolve_from inodes next (parts_of behind)))
      (sym e))

  pub walk-more : (part behind : List ℕ) (next : Link) → DividesAtSlash rest part behind
      → Ok next ≡ step_to inodes at part
      → resolve_from inodes from (parts_of names) ≡ resolve_from inodes next (parts_of behind)
  walk-more part behind next split e = by_part part behind (Ok next) split e

  pub walk-refused : (part behind : List ℕ) (x : VolError) → DividesAtSlash rest part behind
      → Err x ≡ step_to inodes at part
      → Err x ≡ resolve_from inodes from (parts_of names)
  walk-refused part behind x split e = sym (by_part part behind (Err x) split e)

  pub walk-last : IsOnePart rest → step_to inodes at rest ≡ resolve_from inodes from (parts_of names)
  walk-last one =
      sym (so_far ∙ (ap (resolve_from inodes at) (parts_of-one rest one) ∙ no_more (step_to inodes at rest)))
    where
      no_more : (r : Result Link VolError) → and_then r (λ next. resolve_from inodes next []) ≡ r
      no_more (Ok next) = refl
      no_more (Err x) = refl
