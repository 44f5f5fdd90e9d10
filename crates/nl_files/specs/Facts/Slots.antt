-- The live slots, one after another.
use Rattle.std.proofs.Common.{◌≡◌, ℕ, Bool, true, List, [], ◌∷◌, ◌++◌, Option, Some, None, refl, ap, sym, subst, ◌∙◌, arith, inl, inr}
use Rattle.std.specs.Prelude.{cond}
use Rattle.std.specs.List.{cons_option}
use Rattle.std.specs.Option.{option_map}
use Rattle.std.proofs.lemmas.Bool.{ne_eqb}
use Rattle.nl_types.specs.Blocks.Entries.{Content}
use Rattle.nl_types.specs.Blocks.Roots.{Root, page_at, pages_of}
use Rattle.nl_types.specs.Blocks.RootChanges.{IsSound}
use Rattle.nl_vstore.specs.Batches.{Changes}
use Rattle.nl_layout.specs.declared.inode.Inode.{Inode}
use Rattle.nl_ifile.specs.Inodes.{inode_at}
use Rattle.nl_ifile.specs.declared.change.InodeChange.{InodeChange}
use Rattle.nl_tree.specs.Became.{Became, EachMayBecome, over_became}
use Rattle.nl_tree.specs.Held.{Held, Holding, IsHolding, IsInodeNumber}
use Rattle.nl_tree.specs.Overlays.{became_of, slot_shows}
use Rattle.nl_tree.specs.Shown.{pair, shown_entries}
use Rattle.nl_tree.specs.declared.overlay.Slot.{Slot}
use Rattle.nl_files.specs.CheckpointRoots.{IsCheckpointRoot, StandsFor, Stores, inode_root, roots_at}
use Rattle.nl_files.specs.Private.Planned.{IsBase}
use Rattle.nl_files.specs.Settles.{IsInodeSettled, Settling}
use Rattle.nl_files.specs.Facts.Bases.{base-at}
use Rattle.nl_files.specs.Facts.Steps.{settling-push}

pub not_six : (i : ℕ) → IsInodeNumber i → i ≡ 6 → ⊥
not_six i (inl a) e = omega arith
not_six i (inr b) e = omega (arith, b.0)

pub root-there : (content : Content) (root : Root) (i : ℕ) → (i ≡ 6 → ⊥)
    → roots_at (pages_of content) root i ≡ inode_root (inode_at (pages_of content) root i)
root-there content root i n =
    ap (λ (b : Bool). cond b root (inode_root (inode_at (pages_of content) root i))) (ne_eqb i 6 n)

live-change : (s : Slot) → s.live ≡ true → slot_shows s ≡ Some (became_of s.what)
live-change s live = ap (λ (b : Bool). cond b (Some (became_of s.what)) None) live

pub live-shown : (i : ℕ) (s : Slot) → s.live ≡ true
    → shown_entries pair slot_shows ((i, s) ∷ []) ≡ (i, became_of s.what) ∷ []
live-shown i s live =
    ap (λ (o : Option Became). cons_option (option_map (λ (x : Became). (i, x)) o) []) (live-change s live)

changes-cons : (i : ℕ) (o : Option Became) (rest : List (ℕ × Became))
    → EachMayBecome (cons_option (option_map (λ (x : Became). (i, x)) o) rest)
    → EachMayBecome (cons_option (option_map (λ (x : Became). (i, x)) o) []) × EachMayBecome rest
changes-cons i None rest h = (tt, h)
changes-cons i (Some x) rest h = ((h.0, h.1, tt), h.2)

cons-split : (i : ℕ) (o : Option Became) (rest : List (ℕ × Became))
    → cons_option (option_map (λ (x : Became). (i, x)) o) rest
    ≡ cons_option (option_map (λ (x : Became). (i, x)) o) [] ++ rest
cons-split i None rest = refl
cons-split i (Some x) rest = refl

pub changes-first : (i : ℕ) (s : Slot) (rest : List (ℕ × Slot))
    → EachMayBecome (shown_entries pair slot_shows ((i, s) ∷ rest))
    → EachMayBecome (shown_entries pair slot_shows ((i, s) ∷ []))
changes-first i s rest h = (changes-cons i (slot_shows s) (shown_entries pair slot_shows rest) h).0

pub changes-rest : (i : ℕ) (s : Slot) (rest : List (ℕ × Slot))
    → EachMayBecome (shown_entries pair slot_shows ((i, s) ∷ rest))
    → EachMayBecome (shown_entries pair slot_shows rest)
changes-rest i s rest h = (changes-cons i (slot_shows s) (shown_entries pair slot_shows rest) h).1

pub shown-split : (i : ℕ) (s : Slot) (rest : List (ℕ × Slot))
    → shown_entries pair slot_shows ((i, s) ∷ rest)
    ≡ shown_entries pair slot_shows ((i, s) ∷ []) ++ shown_entries pair slot_shows rest
shown-split i s rest = cons-split i (slot_shows s) (shown_entries pair slot_shows rest)

pub slot-settled : (content : Content) (root : Root) (i n : ℕ) (old new : Option Inode) (s : Slot)
    (now later : Changes) (inodes given : List InodeChange)
    →
    IsCheckpointRoot content root → n ≡ i → old ≡ inode_at (pages_of content) root n → s.live ≡ true
    → EachMayBecome (shown_entries pair slot_shows ((i, s) ∷ [])) →
    ((base : Option Held) → IsBase (page_at (pages_of content) (inode_root old)) old base
    → IsInodeSettled content n (inode_root old) new (over_became (became_of s.what) base) now later)
    →
    given ≡ inodes ++ record { number = n; inode = new } ∷ [] →
    (base : Holding) (before : Changes) (left all : List (ℕ × Became)) → Stores (pages_of content) root base
    → IsHolding base →
    Settling content (roots_at (pages_of content) root) base before now inodes
    (shown_entries pair slot_shows ((i, s) ∷ []) ++ left) all
    →
    Settling content (roots_at (pages_of content) root) base before later given left all
slot-settled content root i n old new s now later inodes given checkpoint n_is old_is live changes settled
    given_is base before left all stores volume h =
    subst (λ (xs : List InodeChange).
    Settling content (roots_at (pages_of content) root) base before later xs left all)
    (sym (given_is ∙ ap (λ (k : ℕ). inodes ++ record { number = k; inode = new } ∷ []) n_is))
    (settling-push content (roots_at (pages_of content) root) base before now later inodes i new
    (became_of s.what) left all begun one)
  where
    begun : Settling content (roots_at (pages_of content) root) base before now inodes
        ((i, became_of s.what) ∷ left) all
    begun =
        subst (λ (xs : List (ℕ × Became)).
        Settling content (roots_at (pages_of content) root) base before now inodes (xs ++ left) all)
        (live-shown i s live) h

    here : old ≡ inode_at (pages_of content) root i
    here = old_is ∙ ap (inode_at (pages_of content) root) n_is

    number : IsInodeNumber i
    number = (subst (λ (xs : List (ℕ × Became)). EachMayBecome xs) (live-shown i s live) changes).0

    stands : StandsFor (pages_of content) old (base i)
    stands = subst (λ (o : Option Inode). StandsFor (pages_of content) o (base i)) (sym here) (stores i)

    is_base : IsBase (page_at (pages_of content) (inode_root old)) old (base i)
    is_base =
        base-at (pages_of content) old base i stands volume
        (subst (λ (o : Option Inode). IsSound (pages_of content) (inode_root o)) (sym here)
        (checkpoint.each i).sound)

    one : IsInodeSettled content i (roots_at (pages_of content) root i) new
        (over_became (became_of s.what) (base i)) now later
    one =
        subst
        (λ (r : Root). IsInodeSettled content i r new (over_became (became_of s.what) (base i)) now later)
        (ap inode_root here ∙ sym (root-there content root i (not_six i number)))
        (subst (λ (k : ℕ).
        IsInodeSettled content k (inode_root old) new (over_became (became_of s.what) (base i)) now later)
        n_is
        (settled (base i) is_base))
