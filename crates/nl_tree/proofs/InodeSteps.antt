-- Steps on what inodes hold, as steps on inodes.
use Rattle.std.proofs.Common.{◌≡◌, ◌==◌, ℕ, true, false, cond, List, Option, Some, None, refl, sym, ap, ◌∙◌, subst, inl, inr}
use Rattle.std.specs.Option.{option_map}
use Rattle.std.proofs.lemmas.Bool.{cases_Bool, eqb-true, eq-eqb, ne_eqb}
use Rattle.nl_types.specs.Plain.Paths.{Name, same_name}
use Rattle.nl_types.specs.Blocks.Roots.{Blocks}
use Rattle.nl_types.specs.declared.kind.Kind.{Kind}
use Rattle.nl_types.specs.declared.kind.Kind.TheVariants as kind
use Rattle.nl_types.specs.Plain.Trees.{object_kind}
use Rattle.nl_types.specs.Inodes.{Link, InodeContent}
use Rattle.nl_types.specs.InodeChanges.{HoldsChanged, put_record, move_record, fresh_content, Adds, Refills, Drops, Moves, MovesOnto}
use Rattle.nl_types.specs.Facts.Inodes.Recording.{put_record-there, put_record-name, holds_same, holds_both}
use Rattle.nl_types.specs.Facts.Inodes.Ways.{name_cases}
use Rattle.nl_dirs.specs.declared.record.Record.{Record}
use Rattle.nl_dirs.specs.Records.{NamesAscend, entry_of}
use Rattle.nl_tree.specs.Held.{Held, Holding, Stored, Listed, bytes_stored, inode_content, inodes_of_holding, new_held, new_object}
use Rattle.nl_tree.specs.Records.{with_record, without_record}
use Rattle.nl_tree.specs.Steps.{with_held, with_link, without_link, with_new_inode, without_inode}
use Rattle.nl_tree.proofs.RecordSteps.{said, entry_of-with, entry_of-without}

-- ---- one inode

same_inode : (i j : ℕ) → (i == j) ≡ true → i ≡ j
same_inode i j e = eqb-true i j e

pub with_held-there : (i j : ℕ) (held : Option Held) (holding : Holding) → (j == i) ≡ true
    → with_held i held holding j ≡ held
with_held-there i j held holding e = rw e refl

pub with_held-other : (i j : ℕ) (held : Option Held) (holding : Holding) → (j == i) ≡ false
    → with_held i held holding j ≡ holding j
with_held-other i j held holding e = rw e refl

-- ---- a directory whose records change

said-put : (dir : ℕ) (r : Record) (name : Name) (old : Option Link)
    → said r name old ≡ put_record dir r.name (Some (r.inode, r.kind)) dir name old
said-put dir r name old = elim (name_cases name r.name) [
  | inl t ↦ rw (t.0) (sym (put_record-there dir r.name (Some (r.inode, r.kind)) dir name old refl t.1))
  | inr f ↦ rw (f.0) (sym (put_record-name dir r.name (Some (r.inode, r.kind)) dir name old f.1))
]

taken-put : (dir : ℕ) (name n : Name) (old : Option Link)
    → cond (same_name n name) None old ≡ put_record dir name None dir n old
taken-put dir name n old = elim (name_cases n name) [
  | inl t ↦ rw (t.0) (sym (put_record-there dir name None dir n old refl t.1))
  | inr f ↦ rw (f.0) (sym (put_record-name dir name None dir n old f.1))
]

-- the directory with a record put
pub puts-record : (dir : ℕ) (records : List Record) (r : Record)
    → HoldsChanged (put_record dir r.name (Some (r.inode, r.kind)) dir)
    (Some (inode_content (Listed records))) (Some (inode_content (Listed (with_record r records))))
puts-record dir records r = (
  λ name. entry_of name (with_record r records),
  refl,
  λ name. entry_of-with r records name ∙ said-put dir r name (entry_of name records),
)

-- the directory with a record taken out
pub takes-record : (dir : ℕ) (records : List Record) (name : Name) → NamesAscend records
    → HoldsChanged (put_record dir name None dir) (Some (inode_content (Listed records)))
    (Some (inode_content (Listed (without_record name records))))
takes-record dir records name ascend = (
  λ n. entry_of n (without_record name records),
  refl,
  λ n. entry_of-without name records ascend n ∙ taken-put dir name n (entry_of n records),
)

-- an inode's content where one directory changed
module _ (dir : ℕ) (name : Name) (link : Option Link) (before after : Held) (holding : Holding)
    (here : holding dir ≡ Some before)
    (changes : HoldsChanged (put_record dir name link dir) (Some (inode_content before))
    (Some (inode_content after))) where
  pub one_changed : (i : ℕ)
      → HoldsChanged (put_record dir name link i) (inodes_of_holding holding i)
      (inodes_of_holding (with_held dir (Some after) holding) i)
  one_changed i = elim (cases_Bool (i == dir)) [
    | inl e ↦ there (same_inode i dir e)
    | inr e ↦ other e (λ same. differ same e)
  ]
    where
      differ : i ≡ dir → (i == dir) ≡ false → ⊥
      differ same e =
          let t : (i == dir) ≡ true = ap (λ (j : ℕ). j == dir) same ∙ itself dir in
          let clash : true ≡ false = sym t ∙ e in
          cc
        where
          itself : (n : ℕ) → (n == n) ≡ true
          itself n = eq-eqb n n refl

      there : i ≡ dir
          → HoldsChanged (put_record dir name link i) (inodes_of_holding holding i)
          (inodes_of_holding (with_held dir (Some after) holding) i)
      there same =
          subst (λ (j : ℕ).
          HoldsChanged (put_record dir name link j) (inodes_of_holding holding j)
          (inodes_of_holding (with_held dir (Some after) holding) j))
          (sym same)
          (subst (λ (o : Option InodeContent).
          HoldsChanged (put_record dir name link dir) o
          (inodes_of_holding (with_held dir (Some after) holding) dir))
          (sym (ap (option_map inode_content) here))
          (subst (λ (o : Option InodeContent).
          HoldsChanged (put_record dir name link dir) (Some (inode_content before)) o)
          (sym (ap (option_map inode_content)
          (with_held-there dir dir (Some after) holding (eq-eqb dir dir refl))))
          changes))

      other : (i == dir) ≡ false → (i ≡ dir → ⊥)
          → HoldsChanged (put_record dir name link i) (inodes_of_holding holding i)
          (inodes_of_holding (with_held dir (Some after) holding) i)
      other e ne =
          subst (λ (o : Option InodeContent).
          HoldsChanged (put_record dir name link i) (inodes_of_holding holding i) o)
          (sym (ap (option_map inode_content) (with_held-other dir i (Some after) holding e)))
          (holds_same dir name link i (inodes_of_holding holding i) ne)

-- what an inode other than the one of a step holds
pub held_behind : (inode i : ℕ) (held : Option Held) (holding : Holding) → (i ≡ inode → ⊥)
    → inodes_of_holding (with_held inode held holding) i ≡ inodes_of_holding holding i
held_behind inode i held holding ne =
    ap (option_map inode_content) (with_held-other inode i held holding (ne_eqb i inode ne))

pub held_here : (inode : ℕ) (held : Option Held) (holding : Holding)
    → inodes_of_holding (with_held inode held holding) inode ≡ option_map inode_content held
held_here inode held holding =
    ap (option_map inode_content) (with_held-there inode inode held holding (eq-eqb inode inode refl))

-- ---- the steps

fresh : (k : Kind) → inode_content (new_held k) ≡ fresh_content (new_object k)
fresh kind.File = refl
fresh kind.Directory = refl

object_is : (k : Kind) → object_kind (new_object k) ≡ k
object_is kind.File = refl
object_is kind.Directory = refl

module _ (holding : Holding) (dir : ℕ) (records : List Record)
    (here : holding dir ≡ Some (Listed records)) where
  pub adds : (r : Record) → holding r.inode ≡ None
      → Adds (inodes_of_holding holding)
      (inodes_of_holding (with_new_inode dir records r.name r.kind r.inode holding)) dir r.name
      (new_object r.kind) r.inode
  adds r free = record {
    free = ap (option_map inode_content) free;
    added =
        held_here r.inode (Some (new_held r.kind))
        (with_held dir (Some (Listed (with_record r records))) holding)
        ∙ ap Some (fresh r.kind);
    others = λ i ne.
        subst (λ (o : Option InodeContent).
        HoldsChanged (put_record dir r.name (Some (r.inode, object_kind (new_object r.kind))) i)
        (inodes_of_holding holding i) o)
        (sym (held_behind r.inode i (Some (new_held r.kind))
        (with_held dir (Some (Listed (with_record r records))) holding) ne))
        (subst (λ (k : Kind).
        HoldsChanged (put_record dir r.name (Some (r.inode, k)) i) (inodes_of_holding holding i)
        (inodes_of_holding (with_held dir (Some (Listed (with_record r records))) holding) i))
        (sym (object_is r.kind))
        (one_changed dir r.name (Some (r.inode, r.kind)) (Listed records)
        (Listed (with_record r records)) holding here (puts-record dir records r) i));
  }

  pub drops : (name : Name) (inode : ℕ) → NamesAscend records
      → Drops (inodes_of_holding holding)
      (inodes_of_holding (without_inode dir records name inode holding)) dir name inode
  drops name inode ascend = record {
    gone = held_here inode None (with_held dir (Some (Listed (without_record name records))) holding);
    others = λ i ne.
        subst (λ (o : Option InodeContent).
        HoldsChanged (put_record dir name None i) (inodes_of_holding holding i) o)
        (sym (held_behind inode i None
        (with_held dir (Some (Listed (without_record name records))) holding) ne))
        (one_changed dir name None (Listed records) (Listed (without_record name records)) holding here
        (takes-record dir records name ascend) i);
  }

-- a record is moved: what holds the records that it is put among is what is there once it is taken out
pub moves : (holding : Holding) (from : ℕ) (left : List Record) (name : Name) (to : ℕ) (records : List Record)
    (r : Record)
    → holding from ≡ Some (Listed left) → NamesAscend left
    → with_held from (Some (Listed (without_record name left))) holding to ≡ Some (Listed records)
    → Moves (inodes_of_holding holding)
    (inodes_of_holding (with_link to records r (without_link from left name holding))) from name to r.name
    (r.inode, r.kind)
moves holding from left name to records r here ascend there i =
    holds_both (put_record from name None i) (put_record to r.name (Some (r.inode, r.kind)) i)
    (inodes_of_holding holding i) (inodes_of_holding taken i)
    (inodes_of_holding (with_link to records r (without_link from left name holding)) i)
    (one_changed from name None (Listed left) (Listed (without_record name left)) holding here
    (takes-record from left name ascend) i)
    (one_changed to r.name (Some (r.inode, r.kind)) (Listed records)
    (Listed (with_record r records)) taken there (puts-record to records r) i)
  where
    taken : Holding
    taken = with_held from (Some (Listed (without_record name left))) holding

-- the same, where another inode goes
pub moves_onto : (holding : Holding) (from : ℕ) (left : List Record) (name : Name) (to : ℕ)
    (records : List Record) (r : Record) (target : ℕ)
    → holding from ≡ Some (Listed left) → NamesAscend left
    → with_held from (Some (Listed (without_record name left))) holding to ≡ Some (Listed records)
    → MovesOnto (inodes_of_holding holding)
    (inodes_of_holding
    (with_held target None (with_link to records r (without_link from left name holding))))
    from name to r.name
    (r.inode, r.kind) target
moves_onto holding from left name to records r target here ascend there = record {
  gone = held_here target None (with_link to records r (without_link from left name holding));
  others = λ i ne.
      subst (λ (o : Option InodeContent).
      HoldsChanged (move_record from name to r.name (Some (r.inode, r.kind)) i)
      (inodes_of_holding holding i) o)
      (sym (held_behind target i None (with_link to records r (without_link from left name holding)) ne))
      (moves holding from left name to records r here ascend there i);
}

pub refills : (holding : Holding) (i size : ℕ) (blocks : Blocks)
    → Refills (inodes_of_holding holding)
    (inodes_of_holding (with_held i (Some (Stored size blocks)) holding)) i (bytes_stored blocks size)
refills holding i size blocks = record {
  now = held_here i (Some (Stored size blocks)) holding;
  others = λ j ne. held_behind i j (Some (Stored size blocks)) holding ne;
}
