-- Steps keep what is true of every tree's inodes.
use Rattle.std.proofs.Common.{◌≡◌, ◌==◌, ◌≤◌, ◌+◌, ℕ, Bool, true, false, List, [], ◌∷◌, length, Option, Some, None, refl, sym, ◌∙◌, subst, inl, inr, arith}
use Rattle.std.specs.Prelude.{IsTrue}
use Rattle.std.specs.declared.cmp.Ordering.{Ordering}
use Rattle.std.specs.declared.cmp.Ordering.TheVariants.{Less, Equal, Greater}
use Rattle.std.proofs.lemmas.Bool.{cases_Bool, eqb-true}
use Rattle.nl_types.specs.Plain.Paths.{Name, is_name, name_cmp, same_name}
use Rattle.nl_types.specs.Blocks.Roots.{Blocks}
use Rattle.nl_types.specs.declared.kind.Kind.{Kind}
use Rattle.nl_types.specs.declared.kind.Kind.TheVariants as kind
use Rattle.nl_dirs.specs.declared.record.Record.{Record}
use Rattle.nl_tree.specs.Held.{Held, Holding, IsHolding, IsInodeNumber, Stored, Listed, new_held, IsFileHeld, IsDirectoryHeld, MayHold}
use Rattle.nl_tree.specs.Records.{with_record, without_record}
use Rattle.nl_tree.specs.Steps.{with_held, with_link, without_link, with_new_inode, without_inode}
use Rattle.nl_tree.proofs.RecordSteps.{all-with, all-without, ascend-with, ascend-without}
use Rattle.nl_tree.proofs.InodeSteps.{with_held-there, with_held-other}

-- ---- one inode holds something else

pub with_held-may : (i : ℕ) (held : Option Held) (holding : Holding) → IsHolding holding → IsInodeNumber i
    → MayHold held → IsHolding (with_held i held holding)
with_held-may i held holding may number here = record {
  inode_numbers = λ j x e. elim (cases_Bool (j == i)) [
    | inl t ↦ subst IsInodeNumber (sym (eqb-true j i t)) number
    | inr f ↦ may.inode_numbers j x (sym (with_held-other i j held holding f) ∙ e)
  ];
  each = λ j x e. elim (cases_Bool (j == i)) [
    | inl t ↦ subst MayHold (sym (with_held-there i j held holding t) ∙ e) here
    | inr f ↦ may.each j x (sym (with_held-other i j held holding f) ∙ e)
  ];
}

-- ---- what steps make

pub new-may : (k : Kind) → MayHold (Some (new_held k))
new-may kind.File =
    record { small = omega arith; none_past = λ b past. refl; zeros = λ k past. refl; whole = λ b page e. cc }
new-may kind.Directory = record {
  ascending = λ i j d lt l. absurd (omega (lt, l, arith));
  names = λ i d l. absurd (omega (l, arith));
  count = omega arith;
}

pub length-with : (r : Record) (records : List Record) → length (with_record r records) ≤ length records + 1
length-with r [] = omega arith
length-with r (x ∷ records) = choose (name_cmp r.name x.name) refl (length-with r records)
  where
    choose : (o : Ordering) → name_cmp r.name x.name ≡ o → length (with_record r records) ≤ length records + 1
        → length (with_record r (x ∷ records)) ≤ length (x ∷ records) + 1
    choose Less is rest = rw is (omega arith)
    choose Equal is rest = rw is (omega arith)
    choose Greater is rest = rw is (omega (arith, rest))

pub length-without : (name : Name) (records : List Record)
    → length (without_record name records) ≤ length records
length-without name [] = omega arith
length-without name (x ∷ records) = choose (same_name name x.name) refl (length-without name records)
  where
    choose : (b : Bool) → same_name name x.name ≡ b → length (without_record name records) ≤ length records
        → length (without_record name (x ∷ records)) ≤ length (x ∷ records)
    choose true e rest = rw e (omega arith)
    choose false e rest = rw e (omega (arith, rest))

-- a record that may stand in a directory
abbrev pub MayStand : Record → Type 0
MayStand r = IsTrue (is_name r.name) × IsInodeNumber r.inode

pub with-may : (r : Record) (records : List Record) → IsDirectoryHeld records → MayStand r
    → length (with_record r records) ≤ 524277 → IsDirectoryHeld (with_record r records)
with-may r records is may few = record {
  ascending = ascend-with r records is.ascending;
  names = all-with MayStand r records may is.names;
  count = few;
}

pub without-may : (name : Name) (records : List Record) → IsDirectoryHeld records
    → IsDirectoryHeld (without_record name records)
without-may name records is = record {
  ascending = ascend-without name records is.ascending;
  names = all-without MayStand name records is.names;
  count = omega (arith, length-without name records, is.count);
}

module _ (holding : Holding) (may : IsHolding holding) where
  directory-may : (i : ℕ) (records : List Record) → holding i ≡ Some (Listed records)
      → IsDirectoryHeld records
  directory-may i records e = may.each i (Listed records) e

  pub new_inode-may : (dir : ℕ) (records : List Record) (r : Record) → holding dir ≡ Some (Listed records)
      → MayStand r → length (with_record r records) ≤ 524277
      → IsHolding (with_new_inode dir records r.name r.kind r.inode holding)
  new_inode-may dir records r here stand few =
      with_held-may r.inode (Some (new_held r.kind)) _
      (with_held-may dir (Some (Listed (with_record r records))) holding may (may.inode_numbers dir _ here)
      (with-may r records (directory-may dir records here) stand few))
      stand.1
      (new-may r.kind)

  pub without_inode-may : (dir : ℕ) (records : List Record) (name : Name) (inode : ℕ)
      → holding dir ≡ Some (Listed records) → IsInodeNumber inode
      → IsHolding (without_inode dir records name inode holding)
  without_inode-may dir records name inode here number =
      with_held-may inode None _
      (with_held-may dir (Some (Listed (without_record name records))) holding may
      (may.inode_numbers dir _ here) (without-may name records (directory-may dir records here)))
      number tt

  pub with_blocks-may : (i size : ℕ) (blocks : Blocks) → IsInodeNumber i → IsFileHeld size blocks
      → IsHolding (with_held i (Some (Stored size blocks)) holding)
  with_blocks-may i size blocks number is = with_held-may i (Some (Stored size blocks)) holding may number is

  pub moved_link-may : (from : ℕ) (left : List Record) (name : Name) (to : ℕ) (records : List Record)
      (r : Record)
      → holding from ≡ Some (Listed left)
      → with_held from (Some (Listed (without_record name left))) holding to ≡ Some (Listed records)
      → MayStand r → length (with_record r records) ≤ 524277
      → IsHolding (with_link to records r (without_link from left name holding))
  moved_link-may from left name to records r here there stand few =
      let taken =
      with_held-may from (Some (Listed (without_record name left))) holding may
      (may.inode_numbers from _ here) (without-may name left (directory-may from left here)) in
      with_held-may to (Some (Listed (with_record r records))) _ taken (taken.inode_numbers to _ there)
      (with-may r records (taken.each to (Listed records) there) stand few)
