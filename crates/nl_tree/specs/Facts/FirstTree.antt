-- What the inodes of a new volume's tree hold, and those of the checkpoint below it.
use Rattle.std.proofs.Common.{◌≡◌, ◌⊎◌, ◌≤◌, ℕ, List, [], Option, Some, None, ap, sym, subst, ◌∙◌, inl, inr, arith}
use Rattle.std.proofs.lemmas.Bool.{cases_eq}
use Rattle.std.specs.Prelude.{IsTrue, length}
use Rattle.std.specs.List.{All}
use Rattle.nl_types.specs.Plain.Paths.{is_name}
use Rattle.nl_types.specs.Blocks.Roots.{Blocks}
use Rattle.nl_dirs.specs.declared.record.Record.{Record}
use Rattle.nl_dirs.specs.Records.{NamesAscend}
use Rattle.nl_tree.specs.Became.{Became, BecameDirectory, over_if_became}
use Rattle.nl_tree.specs.FirstTree.{first_holding, nothing_held}
use Rattle.nl_tree.specs.Held.{Held, IsDirectoryHeld, IsHolding, Listed, MayHold}
use Rattle.nl_tree.specs.Facts.Rising.{find-here, find-there}

pub holds_nothing : IsHolding nothing_held
holds_nothing = record {
  inode_numbers = λ i held e. cc;
  each = λ i held e. cc;
}

pub absent-first : (i : ℕ) → (i ≡ 2 → ⊥) → first_holding i ≡ None
absent-first i n =
    ap (λ (o : Option Became). over_if_became o None) (find-there i (2, BecameDirectory []) [] n)

pub root-first : (i : ℕ) → i ≡ 2 → first_holding i ≡ Some (Listed [])
root-first i e = ap (λ (o : Option Became). over_if_became o None) (find-here i (2, BecameDirectory []) [] e)

-- no inode but the root's holds anything, and that has no names
root-alone : (i : ℕ) (held : Held) → first_holding i ≡ Some held → (i ≡ 2) × (held ≡ Listed [])
root-alone i held is = step (cases_eq i 2)
  where
    step : (i ≡ 2) ⊎ (i ≡ 2 → ⊥) → (i ≡ 2) × (held ≡ Listed [])
    step (inl e) = (e, let same : Some held ≡ Some (Listed []) = sym is ∙ root-first i e in cc)
    step (inr n) = absurd (let no : None ≡ Some held = sym (absent-first i n) ∙ is in cc)

no_names : IsDirectoryHeld []
no_names = record {
  ascending = λ i j d l m. absurd (omega arith);
  names = λ k d l. absurd (omega arith);
  count = omega arith;
}

pub holds_first : IsHolding first_holding
holds_first = record {
  inode_numbers = λ i held e. inl (root-alone i held e).0;
  each = λ i held e. subst (λ (h : Held). MayHold (Some h)) (sym (root-alone i held e).1) no_names;
}
