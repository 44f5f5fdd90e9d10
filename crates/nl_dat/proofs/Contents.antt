-- What a change of the table and of what is stored does to the content.
use Rattle.std.proofs.Common.{◌≡◌, ℕ, true, eqb, map, List, [], ◌∷◌, Some, None, Option, inl, inr, sym, refl, ap, ◌∙◌}
use Rattle.std.specs.Option.{option_map, option_and_then}
use Rattle.std.proofs.lemmas.Bool.{cases_Bool, eqb-true}
use Rattle.nl_vstore.specs.Stores.{moved_to}
use Rattle.nl_types.specs.Blocks.PartialMaps.{Partial, put, put_all, put_each, adjust, adjust_all, adjust_each, Stands}
use Rattle.nl_types.specs.Blocks.Entries.{Birth, number_of, born_at, ended_at}
use Rattle.nl_types.specs.Facts.PartialMaps.{same_at_all, put-other}
use Rattle.nl_dat.specs.declared.entries.DatEntry.{DatEntry}
use Rattle.nl_dat.specs.Table.{block_of, addresses_of, meaning_of, meaning_at, content_of, HaveOwnPayload, new_entry, ended_entry, moved_entry, stored_at}

put-at : {X : Type 0} (m : Partial X) (k q : ℕ) (x : X) → eqb q k ≡ true → put m k x q ≡ Some x
put-at m k q x h = rw h refl

-- what stands at the blocks of numbers stands there later too
abbrev pub KeepsAt : Partial ℕ → Partial Birth → Partial Birth → Type 0
KeepsAt addresses stored later = (v b : ℕ) → addresses v ≡ Some b → later b ≡ stored b

pub content_of-KeepsAt : (entries : Partial DatEntry) (stored later : Partial Birth)
    → KeepsAt (addresses_of entries) stored later → content_of entries later ≡ content_of entries stored
content_of-KeepsAt entries stored later keeps = same_at_all _ _ (λ v.
    elim (entries v) as (λ o.
    entries v ≡ o → option_and_then (meaning_at later) o ≡ option_and_then (meaning_at stored) o) [
      | None ↦ λ is. refl
      | Some s ↦ λ is. ap (option_map (meaning_of s)) (keeps v s.block (ap (option_map block_of) is))
    ] refl)

pub HaveOwnPayload-KeepsAt : (addresses : Partial ℕ) (stored later : Partial Birth)
    → HaveOwnPayload addresses stored → KeepsAt addresses stored later → HaveOwnPayload addresses later
HaveOwnPayload-KeepsAt addresses stored later sound keeps v b is =
    ap (option_map number_of) (keeps v b is) ∙ sound v b is

content_of-put : (entries : Partial DatEntry) (stored : Partial Birth) (k : ℕ) (s : DatEntry) (p : Birth)
    → stored s.block ≡ Some p
    → content_of (put entries k s) stored ≡ put (content_of entries stored) k (meaning_of s p)
content_of-put entries stored k s p is = same_at_all _ _ (λ q. elim (cases_Bool (eqb q k)) [
  | inl e ↦ rw e (ap (option_map (meaning_of s)) is)
  | inr e ↦ rw e refl
])

addresses_of-put : (entries : Partial DatEntry) (k : ℕ) (s : DatEntry)
    → addresses_of (put entries k s) ≡ put (addresses_of entries) k s.block
addresses_of-put entries k s = same_at_all _ _ (λ q. elim (cases_Bool (eqb q k)) [
  | inl e ↦ rw e refl
  | inr e ↦ rw e refl
])

-- births stand for their pages
pub content_of-births : (c : ℕ) (births : List Birth) (blocks : List ℕ) (entries : Partial DatEntry)
    (stored : Partial Birth)
    → Stands stored blocks births
    → content_of (put_each number_of (new_entry c) births blocks entries) stored
    ≡ put_all number_of (born_at c) births (content_of entries stored)
content_of-births c [] blocks entries stored stands = refl
content_of-births c (p ∷ ps) [] entries stored stands = absurd stands
content_of-births c (p ∷ ps) (b ∷ bs) entries stored stands =
    content_of-births c ps bs (put entries (number_of p) (new_entry c b)) stored stands.1
    ∙ ap (put_all number_of (born_at c) ps)
    (content_of-put entries stored (number_of p) (new_entry c b) p stands.0)

pub addresses_of-births : (c : ℕ) (births : List Birth) (blocks : List ℕ) (entries : Partial DatEntry)
    → addresses_of (put_each number_of (new_entry c) births blocks entries)
    ≡ put_each number_of (λ b. b) births blocks (addresses_of entries)
addresses_of-births c [] blocks entries = refl
addresses_of-births c (p ∷ ps) [] entries = refl
addresses_of-births c (p ∷ ps) (b ∷ bs) entries =
    addresses_of-births c ps bs (put entries (number_of p) (new_entry c b))
    ∙ ap (put_each number_of (λ b. b) ps bs) (addresses_of-put entries (number_of p) (new_entry c b))

HaveOwnPayload-put : (addresses : Partial ℕ) (stored : Partial Birth) (k b : ℕ) (p : Birth)
    → HaveOwnPayload addresses stored → stored b ≡ Some p → number_of p ≡ k
    → HaveOwnPayload (put addresses k b) stored
HaveOwnPayload-put addresses stored k b p sound is named v a at = elim (cases_Bool (eqb v k)) [
  | inl e ↦
      let here : Some b ≡ Some a = sym (put-at addresses k v b e) ∙ at in
      let same : a ≡ b = cc in
      ap (λ x. option_map number_of (stored x)) same ∙ ap (option_map number_of) is
      ∙ ap Some (named ∙ sym (eqb-true v k e))
  | inr e ↦ sound v a (sym (put-other addresses k v b e) ∙ at)
]

pub HaveOwnPayload-births : (births : List Birth) (blocks : List ℕ) (addresses : Partial ℕ)
    (stored : Partial Birth)
    → Stands stored blocks births → HaveOwnPayload addresses stored
    → HaveOwnPayload (put_each number_of (λ b. b) births blocks addresses) stored
HaveOwnPayload-births [] blocks addresses stored stands sound = sound
HaveOwnPayload-births (p ∷ ps) [] addresses stored stands sound = absurd stands
HaveOwnPayload-births (p ∷ ps) (b ∷ bs) addresses stored stands sound =
    HaveOwnPayload-births ps bs (put addresses (number_of p) b) stored stands.1
    (HaveOwnPayload-put addresses stored (number_of p) b p sound stands.0 refl)

-- an end leaves the page and the block
content_of-end : (c k : ℕ) (entries : Partial DatEntry) (stored : Partial Birth)
    → content_of (adjust (ended_entry c) entries k) stored ≡ adjust (ended_at c) (content_of entries stored) k
content_of-end c k entries stored = same_at_all _ _ (λ q. elim (cases_Bool (eqb q k)) [
  | inl e ↦ rw e (of_slot (entries q))
  | inr e ↦ rw e refl
])
  where
    of_stored : (s : DatEntry) (o : Option Birth)
        → option_map (meaning_of (ended_entry c s)) o ≡ option_map (ended_at c) (option_map (meaning_of s) o)
    of_stored s None = refl
    of_stored s (Some p) = refl

    of_slot : (o : Option DatEntry)
        → option_and_then (meaning_at stored) (option_map (ended_entry c) o)
        ≡ option_map (ended_at c) (option_and_then (meaning_at stored) o)
    of_slot None = refl
    of_slot (Some s) = of_stored s (stored s.block)

addresses_of-end : (c k : ℕ) (entries : Partial DatEntry)
    → addresses_of (adjust (ended_entry c) entries k) ≡ addresses_of entries
addresses_of-end c k entries = same_at_all _ _ (λ q. elim (cases_Bool (eqb q k)) [
  | inl e ↦ rw e (of_slot (entries q))
  | inr e ↦ rw e refl
])
  where
    of_slot : (o : Option DatEntry)
        → option_map block_of (option_map (ended_entry c) o) ≡ option_map block_of o
    of_slot None = refl
    of_slot (Some s) = refl

pub content_of-ends : (c : ℕ) (ends : List ℕ) (entries : Partial DatEntry) (stored : Partial Birth)
    → content_of (adjust_all (ended_entry c) ends entries) stored
    ≡ adjust_all (ended_at c) ends (content_of entries stored)
content_of-ends c [] entries stored = refl
content_of-ends c (k ∷ ks) entries stored =
    content_of-ends c ks (adjust (ended_entry c) entries k) stored
    ∙ ap (adjust_all (ended_at c) ks) (content_of-end c k entries stored)

pub addresses_of-ends : (c : ℕ) (ends : List ℕ) (entries : Partial DatEntry)
    → addresses_of (adjust_all (ended_entry c) ends entries) ≡ addresses_of entries
addresses_of-ends c [] entries = refl
addresses_of-ends c (k ∷ ks) entries =
    addresses_of-ends c ks (adjust (ended_entry c) entries k) ∙ addresses_of-end c k entries

-- a move leaves what is stored for each number
stored_at-move : (entries : Partial DatEntry) (stored : Partial Birth) (k b : ℕ) (p : Birth)
    → stored b ≡ Some p → stored_at entries stored k ≡ Some p
    → stored_at (adjust (moved_entry b) entries k) stored ≡ stored_at entries stored
stored_at-move entries stored k b p there here = same_at_all _ _ (λ q. elim (cases_Bool (eqb q k)) [
  | inl e ↦ rw e (of_slot (entries q) (ap (stored_at entries stored) (eqb-true q k e) ∙ here))
  | inr e ↦ rw e refl
])
  where
    of_slot : (o : Option DatEntry) → option_and_then (λ s. stored s.block) o ≡ Some p
        → option_and_then (λ s. stored s.block) (option_map (moved_entry b) o)
        ≡ option_and_then (λ s. stored s.block) o
    of_slot None h = refl
    of_slot (Some s) h = there ∙ sym h

content_of-move : (entries : Partial DatEntry) (stored : Partial Birth) (k b : ℕ) (p : Birth)
    → stored b ≡ Some p → stored_at entries stored k ≡ Some p
    → content_of (adjust (moved_entry b) entries k) stored ≡ content_of entries stored
content_of-move entries stored k b p there here = same_at_all _ _ (λ q. elim (cases_Bool (eqb q k)) [
  | inl e ↦ rw e (of_slot (entries q) (ap (stored_at entries stored) (eqb-true q k e) ∙ here))
  | inr e ↦ rw e refl
])
  where
    of_slot : (o : Option DatEntry) → option_and_then (λ s. stored s.block) o ≡ Some p
        → option_and_then (meaning_at stored) (option_map (moved_entry b) o)
        ≡ option_and_then (meaning_at stored) o
    of_slot None h = refl
    of_slot (Some s) h = ap (option_map (meaning_of s)) (there ∙ sym h)

addresses_of-move : (entries : Partial DatEntry) (k b : ℕ)
    → addresses_of (adjust (moved_entry b) entries k) ≡ adjust (moved_to b) (addresses_of entries) k
addresses_of-move entries k b = same_at_all _ _ (λ q. elim (cases_Bool (eqb q k)) [
  | inl e ↦ rw e (of_slot (entries q))
  | inr e ↦ rw e refl
])
  where
    of_slot : (o : Option DatEntry)
        → option_map block_of (option_map (moved_entry b) o) ≡ option_map (moved_to b) (option_map block_of o)
    of_slot None = refl
    of_slot (Some s) = refl

pub addresses_of-moves : (ks bs : List ℕ) (entries : Partial DatEntry)
    → addresses_of (adjust_each moved_entry ks bs entries) ≡ adjust_each moved_to ks bs (addresses_of entries)
addresses_of-moves [] bs entries = refl
addresses_of-moves (k ∷ ks) [] entries = refl
addresses_of-moves (k ∷ ks) (b ∷ bs) entries =
    addresses_of-moves ks bs (adjust (moved_entry b) entries k)
    ∙ ap (adjust_each moved_to ks bs) (addresses_of-move entries k b)

-- numbers whose pages stand at other blocks too may be moved there
pub content_of-moves : (ks bs : List ℕ) (ps : List Birth) (entries : Partial DatEntry)
    (stored : Partial Birth)
    → Stands stored bs ps → map Some ps ≡ map (stored_at entries stored) ks
    → content_of (adjust_each moved_entry ks bs entries) stored ≡ content_of entries stored
content_of-moves [] bs ps entries stored stands same = refl
content_of-moves (k ∷ ks) [] ps entries stored stands same = refl
content_of-moves (k ∷ ks) (b ∷ bs) [] entries stored stands same = absurd stands
content_of-moves (k ∷ ks) (b ∷ bs) (p ∷ ps) entries stored stands same =
    let here : stored_at entries stored k ≡ Some p = cc in
    let rest : map Some ps ≡ map (stored_at entries stored) ks = cc in
    content_of-moves ks bs ps (adjust (moved_entry b) entries k) stored stands.1
    (rest ∙ ap (λ m. map m ks) (sym (stored_at-move entries stored k b p stands.0 here)))
    ∙ content_of-move entries stored k b p stands.0 here

HaveOwnPayload-move : (entries : Partial DatEntry) (stored : Partial Birth) (k b : ℕ) (p : Birth)
    → HaveOwnPayload (addresses_of entries) stored → stored b ≡ Some p → stored_at entries stored k ≡ Some p
    → HaveOwnPayload (addresses_of (adjust (moved_entry b) entries k)) stored
HaveOwnPayload-move entries stored k b p sound there here v a at = elim (cases_Bool (eqb v k)) [
  | inl e ↦
      let at_k : v ≡ k = eqb-true v k e in
      of_slot (entries v) refl (rw e at at) (ap (stored_at entries stored) at_k ∙ here)
  | inr e ↦ sound v a (rw e at at)
]
  where
    of_slot : (o : Option DatEntry) → entries v ≡ o
        → option_map block_of (option_map (moved_entry b) o) ≡ Some a
        → option_and_then (λ s. stored s.block) o ≡ Some p → option_map number_of (stored a) ≡ Some v
    of_slot None is h i = cc
    of_slot (Some s) is h i =
        let same : b ≡ a = cc in
        ap (λ x. option_map number_of (stored x)) (sym same) ∙ ap (option_map number_of) (there ∙ sym i)
        ∙ sound v s.block (ap (option_map block_of) is)

pub HaveOwnPayload-moves : (ks bs : List ℕ) (ps : List Birth) (entries : Partial DatEntry)
    (stored : Partial Birth)
    → Stands stored bs ps → map Some ps ≡ map (stored_at entries stored) ks
    → HaveOwnPayload (addresses_of entries) stored
    → HaveOwnPayload (addresses_of (adjust_each moved_entry ks bs entries)) stored
HaveOwnPayload-moves [] bs ps entries stored stands same sound = sound
HaveOwnPayload-moves (k ∷ ks) [] ps entries stored stands same sound = sound
HaveOwnPayload-moves (k ∷ ks) (b ∷ bs) [] entries stored stands same sound = absurd stands
HaveOwnPayload-moves (k ∷ ks) (b ∷ bs) (p ∷ ps) entries stored stands same sound =
    let here : stored_at entries stored k ≡ Some p = cc in
    let rest : map Some ps ≡ map (stored_at entries stored) ks = cc in
    HaveOwnPayload-moves ks bs ps (adjust (moved_entry b) entries k) stored stands.1
    (rest ∙ ap (λ m. map m ks) (sym (stored_at-move entries stored k b p stands.0 here)))
    (HaveOwnPayload-move entries stored k b p sound stands.0 here)
