-- The whole of a renewed root: from a tree, from no blocks, and from a chain; and what stays where nothing
-- differs.
use Rattle.std.proofs.Common.{◌≡◌, ◌≢◌, ℕ, zero, suc, ◌/◌, ◌%◌, ◌<◌, List, [], ◌∷◌, ◌++◌, length, get_or, take, Option, Some, None, refl, ap, sym, subst, ◌∙◌, arith, inl, inr}
use Rattle.std.specs.Prelude.{slice_get}
use Rattle.std.specs.List.{All, AllPairs, Contains}
use Rattle.std.specs.Option.{option_and_then}
use Rattle.std.proofs.lemmas.Bool.{cases_lt}
use Rattle.std.proofs.lemmas.List.Elements.{Contains-append_right}
use Rattle.std.proofs.lemmas.Option.{slice_get-get_or, slice_get_past}
use Rattle.nl_types.specs.Blocks.Entries.{Birth, Content}
use Rattle.nl_types.specs.Blocks.RootChanges.{Includes, IsSound, KeepsFile, born, with_births}
use Rattle.nl_types.specs.Blocks.Roots.{Chain, Empty, NoBlocks, OfChain, OfTree, Pages, Root, Tree, chain_node, kind_of, numbered, pages_of, place_at, slot}
use Rattle.nl_vstore.specs.Batches.{Changes, CanBeTaken}
use Rattle.nl_blocktree.specs.Private.Chains.{ChainAsLists, raw}
use Rattle.nl_blocktree.specs.Changed.{indexes}
use Rattle.nl_blocktree.specs.Putting.{IsWrittenKind, PutsAll}
use Rattle.nl_blocktree.specs.declared.change.BlockChange.{BlockChange}
use Rattle.nl_blocktree.specs.declared.tree.Edit.{Edit}
use Rattle.nl_blocktree.specs.Private.Edits.{IsToldFrom, TellsAll}
use Rattle.nl_blocktree.specs.Private.Renewing.{AreOfData, HasBegun, IsChainRenewed, IsClimbed, IsFileRenewed, IsLowered, IsNewTree, IsRenewed, IsRootRenewed}
use Rattle.nl_blocktree.specs.Private.TreeLevels.{HasKept, data_alone, kept_levels}
use Rattle.nl_blocktree.specs.Private.Writing.{PutsData}
use Rattle.nl_blocktree.specs.Facts.Frames.{births-keep, keeps-file, more-keep, raw-numbered}
use Rattle.nl_blocktree.specs.Facts.Numbers.{born-append, unused_of_fits}
use Rattle.nl_blocktree.specs.Facts.Reading.{above}
use Rattle.nl_blocktree.specs.Facts.Staying.{unwritten}
use Rattle.nl_blocktree.proofs.TreeClimbs.{climbs_told}
use Rattle.nl_blocktree.proofs.TreeEnds.{renewed_empty}
use Rattle.nl_blocktree.proofs.TreeKept.{kept_data, kept_live, kept_once, kept_stored, none_over}
use Rattle.nl_blocktree.proofs.TreeKinds.{chain_renewed}
use Rattle.nl_blocktree.proofs.TreePuts.{climbs_start}
use Rattle.nl_blocktree.proofs.TreeSteps.{any_default}
use Rattle.nl_blocktree.proofs.TreeWhole.{new_empty, tree_of_chain, tree_of_tree}

-- ---- a tree

-- nothing is left
pub root_gone : {room : ℕ} {content : Content} {inode : ℕ} (root : Root) {edits : List Edit} (height top : ℕ)
    (before after : Changes)
    → top ≡ 0 → CanBeTaken room content after →
    IsClimbed content inode root 0 edits height top before.births after.births before.ends after.ends
    → IsRootRenewed room content inode root edits Empty before after
root_gone {room} {content} root height top before after z fits climbed asked first leaves zs begins began h =
    let r =
    climbed asked first zs (unused_of_fits room content (record { births = first; ends = zs }) began) h in (
      renewed_empty height top (ap numbered z) r.0,
      new_empty (with_births after.births (pages_of content)),
      fits,
    )

begun_here : (begun : ℕ) (first leaves births births' : List Birth) → begun ≡ length births
    → AreOfData first leaves births → take (length births) births' ≡ births
    → HasBegun begun first leaves births'
begun_here begun first leaves births births' n d t = record {
  count = n ∙ ap (λ (bs : List Birth). length bs) d.are;
  stand_first = ap (λ (k : ℕ). take k births') n ∙ (t ∙ d.are);
  of_data = d.of_data;
}

-- a tree is left, as low as can be
pub root_lowered : {room : ℕ} {content : Content} {inode : ℕ} (root : Root) {edits : List Edit} {new : Root}
    (begun height top : ℕ) (before mid after : Changes)
    → HasKept content root → begun ≡ length before.births →
    take (length before.births) mid.births ≡ before.births → CanBeTaken room content mid →
    IsClimbed content inode root 0 edits height top before.births mid.births before.ends mid.ends
    → IsLowered room content begun height top new mid after
    → IsRootRenewed room content inode root edits new before after
root_lowered {room} {content}
    {inode} root begun height top before mid after kept n t fits climbed lowered asked first leaves zs begins
    began h =
    let r =
    climbed asked first zs (unused_of_fits room content (record { births = first; ends = zs }) began) h in
    lowered inode (kept_levels (pages_of content) root)
    (kept_levels (pages_of content) root) asked first leaves zs
    (begun_here begun first leaves before.births mid.births n begins t) began
    (kept_stored content root kept.sound) (kept_live content root kept.live)
    (kept_once content root kept.sound) fits r.0 r.1

-- ---- a chain

in_list : (xs : List ℕ) (p v : ℕ) → slice_get xs p ≡ Some v → Contains xs v
in_list xs p v e = elim (cases_lt p (length xs)) [
  | inl l ↦
      let s : Some (get_or xs p v) ≡ Some v = sym (slice_get-get_or xs p v l) ∙ e in
      (p, l, cc)
  | inr l ↦ let no : None ≡ Some v = sym (slice_get_past xs p l) ∙ e in cc
]

module _ {room : ℕ} {content : Content} {inode : ℕ} (top : ℕ) {edits told : List Edit} {new : Root}
    (slots nodes : List ℕ) (before mid after : Changes)
    (kept : HasKept content (Chain top))
    (nodes_at : (p : ℕ) → place_at (pages_of content) (Chain top) 1 p ≡ slice_get nodes p)
    (slots_at : (i : ℕ) → place_at (pages_of content) (Chain top) 0 i ≡ numbered (get_or slots i 0))
    (tells : TellsAll slots edits told)
    (renewed : IsRootRenewed room content inode (Chain top) told new before mid)
    (births : after.births ≡ mid.births) (ends : after.ends ≡ mid.ends ++ nodes)
    (fits : CanBeTaken room content mid → CanBeTaken room content after) where
  listed : (l offset v : ℕ) → place_at (pages_of content) (Chain top) (suc l) offset ≡ Some v
      → Contains nodes v
  listed zero offset v e = in_list nodes offset v (sym (nodes_at offset) ∙ e)
  listed (suc l) offset v e =
      let no : None ≡ Some v = sym (above (pages_of content) (Chain top) l offset (λ k. cc)) ∙ e in cc

  placed : (v : ℕ) → Contains nodes v
      → (at : ℕ × ℕ) × (place_at (pages_of content) (Chain top) (suc at.0) at.1 ≡ Some v)
  placed v c = (
    (0, c.0),
    nodes_at c.0
        ∙ (slice_get-get_or nodes c.0 v c.1 ∙ ap (λ (n : ℕ). let o : Option ℕ = Some n in o) c.2),
  )

  nodes_once : AllPairs (λ (a : ℕ) (b : ℕ). a ≢ b) nodes
  nodes_once i j d l m e =
      let p = nodes_at i ∙ slice_get-get_or nodes i d (omega arith) in
      let q =
      nodes_at j
      ∙ (slice_get-get_or nodes j d m ∙ ap (λ (n : ℕ). let o : Option ℕ = Some n in o) (sym e)) in
      let same = kept.sound.once (1, i) (1, j) (get_or nodes i d) p q in
      let i_is = ap (λ (a : ℕ × ℕ). a.1) same in
      omega (arith, l, i_is)

  pub chain_whole : IsChainRenewed room content inode (Chain top) edits new before after
  chain_whole first leaves zs begins began h =
      let r = renewed edits first leaves zs begins began
      (climbs_told told h (λ offset. none_over (pages_of content) (Chain top) 1 offset (omega arith))
      (tells.same (place_at (pages_of content) (Chain top) 0) slots_at) tells.edits_told) in
      let moved : IsRenewed content inode (data_alone (place_at (pages_of content) (Chain top)))
      (data_alone (place_at (pages_of content) (Chain top)))
      (place_at (with_births after.births (pages_of content)) new) edits first after.births zs mid.ends =
      subst (λ (bs : List Birth).
      IsRenewed content inode (data_alone (place_at (pages_of content) (Chain top)))
      (data_alone (place_at (pages_of content) (Chain top)))
      (place_at (with_births bs (pages_of content)) new) edits first bs zs mid.ends)
      (sym births) r.0 in (
        mid.ends,
        moved,
        subst (λ (es : List ℕ).
            IsRenewed content inode (data_alone (place_at (pages_of content) (Chain top)))
            (place_at (pages_of content) (Chain top))
            (place_at (with_births after.births (pages_of content)) new) edits first after.births zs es)
            (sym ends)
            (chain_renewed nodes kept.sound.stored kept.sound.once listed placed nodes_once moved),
        subst (λ (bs : List Birth). IsNewTree (with_births bs (pages_of content)) new) (sym births) r.1,
        fits r.2,
      )

slot_again : (s : ℕ) (o : Option (List ℕ))
    → option_and_then (λ (page : List ℕ). slot s page) o
    ≡ numbered (raw (option_and_then (λ (page : List ℕ). slot s page) o))
slot_again s None = refl
slot_again s (Some page) = sym (raw-numbered _)

chain_slot : (pages : Pages) (top i : ℕ)
    → place_at pages (Chain top) 0 i ≡ numbered (raw (place_at pages (Chain top) 0 i))
unfolding place_at
chain_slot pages top i = slot_again (i % 127) (option_and_then pages (chain_node pages top (i / 127)))

empty_chain : NoBlocks ≡ OfChain → ⊥
empty_chain e = cc

tree_chain : OfTree ≡ OfChain → ⊥
tree_chain e = cc

chain_named_slots : (pages : Pages) (top : ℕ) (nodes slots : List ℕ)
    → ChainAsLists pages (Chain top) nodes slots → (i : ℕ)
    → place_at pages (Chain top) 0 i ≡ numbered (get_or slots i 0)
chain_named_slots pages top nodes slots lists i = chain_slot pages top i ∙ ap numbered (lists.slots_at i)

pub chain_root : {room : ℕ} {content : Content} {inode : ℕ} (root : Root) {edits told : List Edit}
    {new : Root} (slots nodes : List ℕ) (before mid after : Changes)
    → kind_of root ≡ OfChain → HasKept content root →
    ChainAsLists (pages_of content) root nodes slots → TellsAll slots edits told
    → IsRootRenewed room content inode root told new before mid → after.births ≡ mid.births
    → after.ends ≡ mid.ends ++ nodes → (CanBeTaken room content mid → CanBeTaken room content after) →
    IsChainRenewed room content inode root edits new before after
chain_root Empty slots nodes before mid after k kept lists tells renewed bs es fits = absurd (empty_chain k)
chain_root (Tree height top) slots nodes before mid after k kept lists tells renewed bs es fits =
    absurd (tree_chain k)
chain_root {room} {content} {inode} (Chain top) {edits} {told}
    {new} slots nodes before mid after k kept lists tells renewed bs es fits =
    chain_whole top slots nodes before mid after kept lists.nodes_at
    (chain_named_slots (pages_of content) top nodes slots lists) tells renewed bs es fits

child_named : (o : Option (List ℕ)) (s v : ℕ) → option_and_then (λ (page : List ℕ). slot s page) o ≡ Some v
    → v ≡ 0 → ⊥
child_named None s v e z = cc
child_named (Some page) s v e z = named _ v e z
  where
    named : (n w : ℕ) → numbered n ≡ Some w → w ≡ 0 → ⊥
    named zero w e z = cc
    named (suc n) w e z = let q : suc n ≡ w = cc in omega (arith, q, z)

pub chain_named : (pages : Pages) (root : Root) → kind_of root ≡ OfChain → (i v : ℕ)
    → place_at pages root 0 i ≡ Some v → v ≡ 0 → ⊥
unfolding place_at
chain_named pages Empty k i v e z = cc
chain_named pages (Tree height top) k i v e z = cc
chain_named pages (Chain top) k i v e z =
    child_named (option_and_then pages (chain_node pages top (i / 127))) (i % 127) v e z

-- what stands in a slot of a chain stands in the file
pub told_from : (pages : Pages) (root : Root) (nodes slots : List ℕ) (edits told : List Edit)
    → ChainAsLists pages root nodes slots → TellsAll slots edits told → kind_of root ≡ OfChain
    → IsToldFrom pages root told
told_from pages root nodes slots edits told lists tells k z i v e =
    let there : place_at pages root 0 i ≡ Some v = sym (kept_data pages root i) ∙ e in
    tells.slots_told i (λ n. chain_named pages root k i v there (sym (ap raw there) ∙ (lists.slots_at i ∙ n)))

-- ---- the file

-- later births keep the pages of earlier ones
later_keep : (room : ℕ) (content : Content) (before after : Changes)
    → take (length before.births) after.births ≡ before.births → CanBeTaken room content after
    → Includes (with_births before.births (pages_of content)) (with_births after.births (pages_of content))
later_keep room content before after t fits =
    subst (λ (bs : List Birth).
    Includes (with_births before.births (pages_of content)) (with_births bs (pages_of content)))
    (sym (split before.births after.births t))
    (more-keep content before.births (rest before.births after.births)
    (λ v c.
    unused_of_fits room content after fits v
    (subst (λ (bs : List Birth). Contains (born bs) v) (sym (split before.births after.births t))
    (later v c))))
  where
    rest : List Birth → List Birth → List Birth
    rest [] ys = ys
    rest (x ∷ xs) [] = []
    rest (x ∷ xs) (y ∷ ys) = rest xs ys

    split : (xs ys : List Birth) → take (length xs) ys ≡ xs → ys ≡ xs ++ rest xs ys
    split [] ys e = refl
    split (x ∷ xs) [] e = cc
    split (x ∷ xs) (y ∷ ys) e =
        let head : y ≡ x = cc in let tail : take (length xs) ys ≡ xs = cc in cons head (split xs ys tail)
      where
        cons : {a b : Birth} {us vs : List Birth} → a ≡ b → us ≡ vs → a ∷ us ≡ b ∷ vs
        cons p q = cc

    later : (v : ℕ) → Contains (born (rest before.births after.births)) v
        → Contains (born (before.births ++ rest before.births after.births)) v
    later v c =
        subst (λ (ns : List ℕ). Contains ns v)
        (sym (born-append before.births (rest before.births after.births)))
        (Contains-append_right (born before.births) (born (rest before.births after.births)) v c)

written_kind : (new : Root) → kind_of new ≢ OfChain → IsWrittenKind (kind_of new)
written_kind Empty n = tt
written_kind (Chain top) n = absurd (n refl)
written_kind (Tree height top) n = tt

of_start : {content : Content} {inode : ℕ} {changes : List BlockChange} {old : ℕ → Option ℕ}
    {asked : List Edit} {births mid : List Birth} {zs ys : List ℕ}
    (d : PutsData content inode changes old asked births mid zs ys)
    → AreOfData births d.added mid
of_start d = record { are = d.births_are; of_data = λ b c. (d.tags b c).1 }

module _ (room : ℕ) {content : Content} {inode : ℕ} {changes : List BlockChange} {asked : List Edit}
    {new : Root} (before mid after : Changes)
    (fits : CanBeTaken room content before) (range : (o : ℕ) → Contains (indexes changes) o → o < 262144)
    (first : (e : Edit) × Contains asked e)
    (t : take (length mid.births) after.births ≡ mid.births) where
  -- from no blocks, or a tree
  pub puts_on_tree : (root : Root) → kind_of root ≢ OfChain → HasKept content root
      → PutsData content inode changes
      (place_at (pages_of content) root 0) asked before.births mid.births before.ends mid.ends
      →
      IsRootRenewed room content inode root asked new mid after
      → PutsAll content inode root new changes before after
  puts_on_tree Empty n kept d renewed =
      let r =
      renewed asked before.births d.added before.ends (of_start d) fits
      (climbs_start (place_at (pages_of content) Empty)
      (λ offset v e. kept.sound.stored 0 offset v e) d) in
      tree_of_tree new n kept.sound (unused_of_fits room content before fits) range d first r.0
      (later_keep room content mid after t r.2) r.1 (written_kind new r.1.no_chain)
  puts_on_tree (Chain top) n kept d renewed = absurd (n refl)
  puts_on_tree (Tree height top) n kept d renewed =
      let r =
      renewed asked before.births d.added before.ends (of_start d) fits
      (climbs_start (place_at (pages_of content) (Tree height top))
      (λ offset v e. kept.sound.stored 0 offset v e) d) in
      tree_of_tree new n kept.sound (unused_of_fits room content before fits) range d first r.0
      (later_keep room content mid after t r.2) r.1 (written_kind new r.1.no_chain)

  -- from a chain
  pub puts_on_chain : (root : Root) → kind_of root ≡ OfChain → HasKept content root
      → PutsData content inode changes
      (place_at (pages_of content) root 0) asked before.births mid.births before.ends mid.ends
      →
      IsChainRenewed room content inode root asked new mid after
      → PutsAll content inode root new changes before after
  puts_on_chain Empty n kept d renewed = cc
  puts_on_chain (Tree height top) n kept d renewed = cc
  puts_on_chain (Chain top) n kept d renewed =
      let r =
      renewed before.births d.added before.ends (of_start d) fits
      (climbs_start (data_alone (place_at (pages_of content) (Chain top)))
      (λ offset v e. kept.sound.stored 0 offset v e) d) in
      tree_of_chain new n kept.sound (unused_of_fits room content before fits) range d first r.1 r.2
      (later_keep room content mid after t r.4) r.3 (written_kind new r.3.no_chain)

fits_after : (room : ℕ) {content : Content} {inode : ℕ} {changes : List BlockChange} {asked : List Edit}
    {new : Root} (before mid after : Changes)
    → CanBeTaken room content before → (root : Root) → HasKept content root →
    PutsData content inode changes
    (place_at (pages_of content) root 0) asked before.births mid.births before.ends mid.ends
    → IsFileRenewed room content inode root asked new mid after → CanBeTaken room content after
fits_after room {content} before mid after fits Empty kept d (inr r) =
    (r.1 _ before.births d.added before.ends (of_start d) fits
    (climbs_start (place_at (pages_of content) Empty) (λ offset v e. kept.sound.stored 0 offset v e) d)).2
fits_after room {content} before mid after fits (Tree height top) kept d (inr r) =
    (r.1 _ before.births d.added before.ends (of_start d) fits
    (climbs_start (place_at (pages_of content) (Tree height top))
    (λ offset v e. kept.sound.stored 0 offset v e) d)).2
fits_after room {content} before mid after fits (Chain top) kept d (inl r) =
    (r.1 before.births d.added before.ends (of_start d) fits
    (climbs_start (data_alone (place_at (pages_of content) (Chain top)))
    (λ offset v e. kept.sound.stored 0 offset v e) d)).4
fits_after room before mid after fits Empty kept d (inl r) = absurd (empty_chain r.0)
fits_after room before mid after fits (Tree height top) kept d (inl r) = absurd (tree_chain r.0)
fits_after room before mid after fits (Chain top) kept d (inr r) = absurd (r.0 refl)

pub puts_renewed : (room : ℕ) {content : Content} {inode : ℕ} {changes : List BlockChange} {asked : List Edit}
    {new : Root} (before mid after : Changes)
    → CanBeTaken room content before → ((o : ℕ) → Contains (indexes changes) o → o < 262144) →
    (e : Edit) × Contains asked e → take (length mid.births) after.births ≡ mid.births → (root : Root)
    → HasKept content root →
    PutsData content inode changes
    (place_at (pages_of content) root 0) asked before.births mid.births before.ends mid.ends
    → IsFileRenewed room content inode root asked new mid after →
    PutsAll content inode root new changes before after × CanBeTaken room content after
puts_renewed room before mid after fits range first t root kept d (inl r) = (
  puts_on_chain room before mid after fits range first t root r.0 kept d r.1,
  fits_after room before mid after fits root kept d (inl r),
)
puts_renewed room before mid after fits range first t root kept d (inr r) = (
  puts_on_tree room before mid after fits range first t root r.0 kept d r.1,
  fits_after room before mid after fits root kept d (inr r),
)

-- where no data differs
pub puts_same : (room : ℕ) {content : Content} {inode : ℕ} {root : Root} {changes : List BlockChange}
    (before after : Changes)
    → IsSound (pages_of content) root → CanBeTaken room content after →
    PutsData content inode changes (place_at (pages_of content) root 0)
    [] before.births after.births before.ends after.ends
    → PutsAll content inode root root changes before after
puts_same room {content} {inode} {root} {changes} before after sound fits d = record {
  births = [];
  ends = [];
  births_are =
      d.births_are
      ∙ ap (λ (bs : List Birth). before.births ++ bs)
      (no_births d.added (λ b c. none_in (d.born_asked b c).0 (d.born_asked b c).1));
  ends_are =
      d.ends_are
      ∙ ap (λ (es : List ℕ). before.ends ++ es)
      (no_ends d.gone (λ v c. none_in (d.gone_asked v c).0 (d.gone_asked v c).1));
  lowest_free = tt;
  unused = unused_of_fits room content after fits;
  rewrites = record {
    in_order = λ i j x l m. absurd (omega arith);
    of_inode = λ i x l. absurd (omega arith);
    born_placed = λ b c. absurd (let l = c.1 in omega arith);
    born_written = λ b c. absurd (let l = c.1 in omega arith);
    written_born = λ level offset w.
        absurd (unwritten (pages_of content)
        (with_births after.births (pages_of content)) root keeps.places keeps.blocks level offset w);
    born_or_kept = λ level offset v e. inr (sym (keeps.places level offset) ∙ e);
    ended_or_kept = λ level offset v e. inr ((level, offset), keeps.places level offset ∙ e);
    ended_once = λ i j x l m. absurd (omega arith);
    ended_placed = λ v c. absurd (let l = c.1 in omega arith);
    ended_lost = λ v c r. absurd (let l = c.1 in omega arith);
  };
  blocks = λ i. keeps.blocks i ∙ d.rest i (λ k. none_in k.0 k.1);
  sound = keeps.sound;
  same_root = λ h. refl;
  kind = inl refl;
}
  where
    keeps : KeepsFile (pages_of content) (with_births after.births (pages_of content)) root
    keeps =
        keeps-file (pages_of content) (with_births after.births (pages_of content)) root
        (births-keep content after.births (unused_of_fits room content after fits)) sound

    none_in : (e : Edit) → Contains [] e → ⊥
    none_in e c = let l = c.1 in omega arith

    no_births : (bs : List Birth) → ((b : Birth) → Contains bs b → ⊥) → bs ≡ []
    no_births [] h = refl
    no_births (b ∷ bs) h = absurd (h b (0, omega arith, refl))

    no_ends : (ns : List ℕ) → ((n : ℕ) → Contains ns n → ⊥) → ns ≡ []
    no_ends [] h = refl
    no_ends (n ∷ ns) h = absurd (h n (0, omega arith, refl))

pub puts_nothing : (room : ℕ) {content : Content} {inode : ℕ} {root : Root} {changes : List BlockChange}
    (edits : List Edit) (before after : Changes)
    → length edits ≡ 0 → IsSound (pages_of content) root → CanBeTaken room content after →
    PutsData content inode changes
    (place_at (pages_of content) root 0) edits before.births after.births before.ends after.ends
    → PutsAll content inode root root changes before after
puts_nothing room [] before after z sound fits d = puts_same room before after sound fits d
puts_nothing room (e ∷ edits) before after z sound fits d = absurd (omega (arith, z))

-- ---- what is asked of changed data

pub some_first : (edits : List Edit) → 0 < length edits → (e : Edit) × Contains edits e
some_first [] l = absurd (omega arith)
some_first (e ∷ edits) l = (e, (0, omega arith, refl))

pub asked_small : {content : Content} {inode : ℕ} {changes : List BlockChange} {old : ℕ → Option ℕ}
    {asked : List Edit} {births mid : List Birth} {zs ys : List ℕ}
    → PutsData content inode changes old asked births mid zs ys →
    ((o : ℕ) → Contains (indexes changes) o → o < 262144) → All (λ (e : Edit). e.offset < 262144) asked
asked_small {asked = asked} d range k e l =
    range (get_or asked k e).offset
    (d.in_changes (get_or asked k e) (k, l, any_default asked k (get_or asked k e) e l))

no_place : (pages : Pages) (i : ℕ) → place_at pages Empty 0 i ≡ None
unfolding place_at
no_place pages i = refl

pub told_tree : (pages : Pages) (root : Root) (edits : List Edit) → kind_of root ≢ OfChain
    → IsSound pages root → IsToldFrom pages root edits
told_tree pages Empty edits n sound z i v e = let no : None ≡ Some v = sym (no_place pages i) ∙ e in cc
told_tree pages (Chain top) edits n sound z i v e = absurd (n refl)
told_tree pages (Tree height top) edits n sound z i v e =
    absurd (let l = (sound.tree_shape refl).low in omega (arith, z, l))
