-- Places of inodes.
use Rattle.std.proofs.Common.{◌≡◌, ◌⊎◌, inl, inr, ℕ, Bool, true, false, List, [], ◌∷◌, Option, Some, None, refl, sym, ap, subst, ◌∙◌, ◌==◌, true≢false, IsSome}
use Rattle.std.specs.Prelude.{cond}
use Rattle.std.specs.List.{cons_option}
use Rattle.std.specs.Option.{option_map}
use Rattle.std.specs.Ordering.{nat_cmp}
use Rattle.std.specs.Map.{lookup, set_value}
use Rattle.std.specs.BTreeMap as map
use Rattle.std.specs.BTreeMap.{BTreeMap, WritesThrough, is_at}
use Rattle.std.specs.Cmp.{both_ways, unsigned_tied}
use Rattle.std.specs.Option.{unwrap_or}
use Rattle.std.proofs.lemmas.Bool.{cases_eq, eqb-false, eqb-true, eq-eqb, ne_eqb}
use Rattle.nl_types.specs.Plain.Paths.{Name}
use Rattle.nl_dirs.specs.declared.record.Record.{Record}
use Rattle.nl_tree.specs.declared.overlay.Changed.{Changed}
use Rattle.nl_tree.specs.declared.overlay.Changed.TheVariants.{Gone, File, Dir}
use Rattle.nl_tree.specs.declared.listing.Listing.{Listing}
use Rattle.nl_tree.specs.declared.overlay.Slot.{Slot}
use Rattle.nl_tree.specs.declared.overlay.Overlay.{Overlay}
use Rattle.nl_tree.specs.Became.{Became}
use Rattle.nl_tree.specs.Held.{Held, Holding, Listed, Stored, new_held}
use Rattle.nl_tree.specs.Overlays.{HasListing, HasName, IsListed, became_of, is_shown, over_changed, over_if_slot, over_slot, slot_shows}
use Rattle.nl_tree.specs.Records.{records_of, with_record, without_record}
use Rattle.nl_tree.specs.Shown.{pair, shown_entries}
use Rattle.nl_types.specs.declared.kind.Kind.{Kind}

-- a place that shows records has them
pub live_listing : (place : Option Slot) (base : Option Held) (all : List Record) → is_shown place ≡ true
    → over_if_slot place base ≡ Some (Listed all) →
    (slot : Slot) × (place ≡ Some slot) × IsListed slot.what all
live_listing None base all live is = absurd (true≢false (sym live))
live_listing (Some slot) base all live is = (slot, refl, by_what slot.what slot.live live is)
  where
    all_of : Option Held → List Record
    all_of (Some (Listed rs)) = rs
    all_of (Some (Stored size blocks)) = []
    all_of None = []

    by_what : (what : Changed) (b : Bool) → b ≡ true
        → over_slot (record { live = b; what = what }) base ≡ Some (Listed all) →
        IsListed what all
    by_what what false b is' = absurd (true≢false (sym b))
    by_what Gone true b is' = let clash : ◌≡◌ {A = Option Held} None (Some (Listed all)) = is' in cc
    by_what (File file) true b is' = cc
    by_what (Dir listing) true b is' = (listing, refl, ap all_of is')

-- what is written to a place that shows the same shows the same
pub same_shown : {K V X R : Type 0} (made : K → X → R) (show : V → Option X) (test : K → Bool)
    (es : List (K × V)) (w : V)
    → ((old : V) → lookup test es ≡ Some old → show w ≡ show old) →
    shown_entries made show (set_value test es w) ≡ shown_entries made show es
same_shown made show test [] w h = refl
same_shown {K} {V} {X} {R} made show test (e ∷ es) w h =
    by_test (test e.0) refl (same_shown made show test es w)
  where
    by_test : (b : Bool) → test e.0 ≡ b
        → (((old : V) → lookup test es ≡ Some old → show w ≡ show old)
        → shown_entries made show (set_value test es w) ≡ shown_entries made show es)
        →
        shown_entries made show (set_value test (e ∷ es) w) ≡ shown_entries made show (e ∷ es)
    by_test true is rest =
        rw is (ap
        (λ (o : Option X). cons_option (option_map (λ (x : X). made e.0 x) o) (shown_entries made show es))
        (h e.1 (rw is refl)))
    by_test false is rest =
        rw is (ap (λ (xs : List R). cons_option (option_map (λ (x : X). made e.0 x) (show e.1)) xs)
        (rest (λ old g. h old (rw is g))))

pub tied : (j i : ℕ) → is_at (nat_cmp j) i ≡ (i == j)
tied j i =
    unsigned_tied j i
    ∙ both_ways (j == i) (i == j) (λ e. eq-eqb i j (sym (eqb-true j i e)))
    (λ e. eq-eqb j i (sym (eqb-true i j e)))

pub one_slot : (place : Option Slot) (slot other : Slot) → Some slot ≡ place → place ≡ Some other
    → slot ≡ other
one_slot place slot other a b = ap (λ (o : Option Slot). unwrap_or o slot) (a ∙ b)

pub listed_over : (what : Changed) (all : List Record) (base : Option Held) → IsListed what all
    → over_changed what base ≡ Some (Listed all)
listed_over what all base l =
    ap (λ (w : Changed). over_changed w base) l.1 ∙ ap (λ (rs : List Record). Some (Listed rs)) l.2

-- one place is written, and shows the same over any checkpoint
pub written_over : (m n : BTreeMap ℕ Slot) (j : ℕ) (w : Slot) (held : Option Held)
    → WritesThrough nat_cmp (nat_cmp j) m w n → IsSome (map.get nat_cmp m j)
    → ((base : Option Held) → over_slot w base ≡ held) →
    (b : Holding) (i : ℕ)
    → over_if_slot (map.get nat_cmp n i) (b i) ≡ cond (i == j) held (over_if_slot (map.get nat_cmp m i) (b i))
written_over m n j w held writes there shows b i =
    ap (λ (p : Option Slot). over_if_slot p (b i))
    ((writes.3 there).0 i ∙ ap (λ (t : Bool). cond t (Some w) (map.get nat_cmp m i)) (tied j i))
    ∙ pick (i == j) (map.get nat_cmp m i) (b i)
  where
    pick : (t : Bool) (p : Option Slot) (base : Option Held)
        → over_if_slot (cond t (Some w) p) base ≡ cond t held (over_if_slot p base)
    pick true p base = shows base
    pick false p base = refl

-- what a place shows as a change stays
pub kept_change : (es : List (ℕ × Slot)) (test : ℕ → Bool) (slot : Slot) (what : Changed)
    → Some slot ≡ lookup test es → became_of what ≡ became_of slot.what →
    shown_entries pair slot_shows (set_value test es (record { live = slot.live; what = what }))
    ≡ shown_entries pair slot_shows es
kept_change es test slot what there same =
    same_shown pair slot_shows test es (record { live = slot.live; what = what })
    (λ old is.
    ap (λ (c : Became). cond slot.live (Some c) None) same
    ∙ ap (λ (s : Slot). slot_shows s) (one_slot (lookup test es) slot old there is))

-- an entry is put into a directory, and its inode holds what is new
pub added : (v v1 v2 v3 changed : Holding) (dir inode key_alone : ℕ) (name : Name) (kind : Kind)
    (all : List Record)
    → ((i : ℕ) → v1 i ≡ v i) →
    ((i : ℕ)
    → v2 i
    ≡ cond (i == dir)
    (Some (Listed (with_record (record { name = name; inode = key_alone; kind = kind }) all))) (v1 i))
    → key_alone ≡ inode →
    ((i : ℕ) → v3 i ≡ cond (i == inode) (changed i) (v2 i)) → ((i : ℕ) → changed i ≡ Some (new_held kind)) →
    (i : ℕ)
    → v3 i
    ≡ cond (i == inode) (Some (new_held kind))
    (cond (i == dir) (Some (Listed (with_record (record { name = name; inode = inode; kind = kind }) all)))
    (v i))
added v v1 v2 v3 changed dir inode key_alone name kind all first second same third holds i =
    let linked : v2 i
    ≡ cond (i == dir) (Some (Listed (with_record (record { name = name; inode = inode; kind = kind }) all)))
    (v i) =
    second i
    ∙ (λ k.
    cond (i == dir) (Some (Listed (with_record (record { name = name; inode = same k; kind = kind }) all)))
    (first i k)) in
    third i ∙ (λ k. cond (i == inode) (holds i k) (linked k))

-- an entry is taken out of a directory, and its inode is gone
pub removed : (v v1 v2 v3 : Holding) (dir inode : ℕ) (name : Name) (all : List Record)
    → ((i : ℕ) → v1 i ≡ v i) →
    ((i : ℕ) → v2 i ≡ cond (i == dir) (Some (Listed (without_record name all))) (v1 i))
    → ((i : ℕ) → v3 i ≡ cond (i == inode) None (v2 i)) →
    (i : ℕ) → v3 i ≡ cond (i == inode) None (cond (i == dir) (Some (Listed (without_record name all))) (v i))
removed v v1 v2 v3 dir inode name all first second third i =
    let linked : v2 i ≡ cond (i == dir) (Some (Listed (without_record name all))) (v i) =
    second i ∙ (λ k. cond (i == dir) (Some (Listed (without_record name all))) (first i k)) in
    third i ∙ (λ k. cond (i == inode) None (linked k))

-- ---- one slot is written

pub slot_written : (m n : BTreeMap ℕ Slot) (j : ℕ) (w : Slot) → WritesThrough nat_cmp (nat_cmp j) m w n
    → IsSome (map.get nat_cmp m j) →
    map.get nat_cmp n j ≡ Some w
slot_written m n j w writes there = ((writes.3 there).1)

pub slot_kept : (m n : BTreeMap ℕ Slot) (j i : ℕ) (w : Slot) → WritesThrough nat_cmp (nat_cmp j) m w n
    → IsSome (map.get nat_cmp m j) →
    (i ≡ j → ⊥) → map.get nat_cmp n i ≡ map.get nat_cmp m i
slot_kept m n j i w writes there ne =
    (writes.3 there).0 i
    ∙ ap (λ (t : Bool). cond t (Some w) (map.get nat_cmp m i)) (tied j i ∙ ne_eqb i j ne)

-- what is true of a slot is true of it where the written slot keeps it
pub slot_still : (m n : BTreeMap ℕ Slot) (j : ℕ) (slot : Slot) (what : Changed) (P : Changed → Type 0) →
    WritesThrough nat_cmp (nat_cmp j) m (record { live = slot.live; what = what }) n
    → Some slot ≡ map.get nat_cmp m j →
    (P slot.what → P what) → (i : ℕ) → (s : Slot) × (map.get nat_cmp m i ≡ Some s) × P s.what →
    (s : Slot) × (map.get nat_cmp n i ≡ Some s) × P s.what
slot_still m n j slot what P writes there keeps i has = by_test (cases_eq i j)
  where
    written : Slot
    written = record { live = slot.live; what = what }

    some : IsSome (map.get nat_cmp m j)
    some = subst (λ (o : Option Slot). IsSome o) there refl

    by_test : (i ≡ j) ⊎ (i ≡ j → ⊥) → (s : Slot) × (map.get nat_cmp n i ≡ Some s) × P s.what
    by_test (inr ne) = (has.0, slot_kept m n j i written writes some ne ∙ has.1, has.2)
    by_test (inl e) =
        let same : slot ≡ has.0 =
        one_slot (map.get nat_cmp m j) slot has.0 there (ap (map.get nat_cmp m) (sym e) ∙ has.1) in (
          written,
          ap (map.get nat_cmp n) e ∙ slot_written m n j written writes some,
          keeps (subst (λ (s : Slot). P s.what) (sym same) has.2),
        )

-- ---- two directories, or one

-- a directory of an overlay has one list of records
pub one_listing : (o : Overlay) (i : ℕ) (all others : List Record) (n m : Name) → HasName o i all n
    → HasName o i others m → others ≡ all
one_listing o i all others n m has also =
    let same : also.0 ≡ has.0 = one_slot (map.get nat_cmp o.changed i) also.0 has.0 (sym also.1) has.1 in
    let dir : Dir also.2.0 ≡ Dir has.2.0 = sym also.2.1 ∙ ap (λ (s : Slot). s.what) same ∙ has.2.1 in
    let listing : also.2.0 ≡ has.2.0 = ap (λ (w : Changed). listing_of has.2.0 w) dir in
    sym also.2.2 ∙ ap records_of listing ∙ has.2.2
  where
    listing_of : Listing → Changed → Listing
    listing_of other Gone = other
    listing_of other (File file) = other
    listing_of other (Dir listing) = listing

-- a name of the one keeps its place where a record of the other is taken out
pub name_left : (o n : Overlay) (from to : ℕ) (all others : List Record) (from_name to_name : Name) →
    HasName o from all from_name → HasName o to others to_name →
    ((i : ℕ) (records : List Record) (other : Name) → (i ≡ from → ⊥) → HasName o i records other
    → HasName n i records other)
    →
    ((records : List Record) (other : Name) → HasName o from records from_name → HasName o from records other
    →
    HasName n from (without_record from_name records) other) →
    HasName n to (cond (to == from) (without_record from_name all) others) to_name
name_left o n from to all others from_name to_name has also apart here = by_test (to == from) refl
  where
    by_test : (t : Bool) → (to == from) ≡ t
        → HasName n to (cond t (without_record from_name all) others) to_name
    by_test false t = apart to others to_name (eqb-false to from t) also
    by_test true t =
        let e = eqb-true to from t in
        let there : HasName o from others to_name = subst (λ (i : ℕ). HasName o i others to_name) e also in
        let all_there : HasName o from all to_name =
        subst (λ (rs : List Record). HasName o from rs to_name)
        (one_listing o from all others from_name to_name has there) there in
        subst (λ (i : ℕ). HasName n i (without_record from_name all) to_name) (sym e)
        (here all to_name has all_there)

-- a directory stays open where it is the same that is opened again, or another
pub stays_open : (o : Overlay) (from to : ℕ) (all : List Record) → (from ≡ to → HasListing o to all) →
    ((from ≡ to → ⊥) → HasListing o from all) → HasListing o from all
stays_open o from to all same other = by_test (cases_eq from to)
  where
    by_test : (from ≡ to) ⊎ (from ≡ to → ⊥) → HasListing o from all
    by_test (inl e) = subst (λ (i : ℕ). HasListing o i all) (sym e) (same e)
    by_test (inr ne) = other ne
