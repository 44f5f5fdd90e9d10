-- Why exact lifetimes follow root by root.
use Rattle.std.proofs.Common.{◌≡◌, ◌≢◌, ◌⊎◌, ℕ, zero, suc, get_or, ◌+◌, Bool, true, false, eqb, List, [], ◌∷◌, ◌++◌, Option, Some, None, refl, ap, sym, subst, ◌∙◌, arith, inl, inr, append_assoc, is_none}
use Rattle.std.specs.Prelude.{◌||◌}
use Rattle.std.specs.List.{All, AllPairs, Contains}
use Rattle.std.specs.Option.{IsSome, option_and_then, option_map}
use Rattle.std.proofs.lemmas.Bool.{cases_Bool, eqb-true, eq-eqb}
use Rattle.std.proofs.lemmas.List.{append-nil}
use Rattle.std.proofs.lemmas.List.Elements.{Contains-append_cases, Contains-append_left, Contains-append_right, Contains-get_or}
use Rattle.nl_types.specs.Facts.Births.{one_of-is, is-one_of, found, not_found, given, given_in, pages-written}
use Rattle.nl_types.specs.Facts.ExactLifetimes.{ledger_after-IsLedger}
use Rattle.nl_types.specs.Blocks.Entries.{Birth, Content, Entry, GivenOnce, Place, birth_of}
use Rattle.nl_types.specs.Blocks.Lifetimes.{Allowed, IsBatch, IsExact, IsLedger, Ledger, Numbers, birth_at, born_or_left, numbers_after, numbers_at}
use Rattle.nl_types.specs.Plain.NumberLists.{NoneTwice, is_one_of}
use Rattle.nl_types.specs.Blocks.RootChanges.{IsAt, IsSound, IsWrittenPlace, KeepsFile, NodeWritten, Reaches, born, new_kind, of_chain, of_tree, places, was_absent, with_births}
use Rattle.nl_types.specs.Blocks.Roots.{Pages, Root, page_at, pages_of, place_at}
use Rattle.nl_vstore.specs.Batches.{Changes, is_live}
use Rattle.nl_blocktree.specs.Checkpoints.{ArePut, AreRenewed, ComesBefore, ComesFirst, FileChange, ReachesNewRoots, WritesWhatDiffers, batch_after, batch_of, checkpoint_of, inodes_of, no_changes, numbers_of, roots_after, checkpoint_event}
use Rattle.nl_blocktree.specs.Numbering.{IsUnused}
use Rattle.nl_blocktree.specs.Putting.{PutsAll}
use Rattle.nl_blocktree.specs.declared.change.BlockChange.{BlockChange}
use Rattle.nl_blocktree.specs.Facts.Frames.{births-keep, block-kept, cases-Option, keeps-file, more-keep, places-kept}
use Rattle.nl_blocktree.specs.Facts.Staying.{some-is, unwritten}
use Rattle.nl_blocktree.specs.Facts.Pairwise.{pairs-append, pairs-head, pairs-tail}
use Rattle.nl_blocktree.specs.Facts.Numbers.{born-append, born_in, unused_of_fits}

-- ---- members

all_of : {X : Type 0} (P : X → Type 0) (xs : List X) (x : X) → All P xs → Contains xs x → P x
all_of P xs x all c = subst P c.2 (all c.0 x c.1)

-- ---- one file

-- what a change of one file says over the pages with all births
record FileRenewed (pages final : Pages) (inode : ℕ) (old new : Root) (births : List Birth)
    (ends : List ℕ) : Type 0 where
  pub of_inode : (b : Birth) → Contains births b → b.place.inode ≡ inode
  pub born_placed : (b : Birth) → Contains births b
      → place_at final new b.place.level b.place.offset ≡ Some b.number
  pub born_or_kept : (level offset v : ℕ) → place_at final new level offset ≡ Some v
      → ((b : Birth) × Contains births b × IsAt b level offset) ⊎ (place_at pages old level offset ≡ Some v)
  pub ended_or_kept : (level offset v : ℕ) → place_at pages old level offset ≡ Some v
      → Contains ends v ⊎ Reaches (places final new) v
  pub ended_placed : (v : ℕ) → Contains ends v → Reaches (places pages old) v
  pub ended_lost : (v : ℕ) → Contains ends v → Reaches (places final new) v → ⊥
  pub born_written : (b : Birth) → Contains births b
      → IsWrittenPlace pages final old new b.place.level b.place.offset
  pub written_born : (level offset : ℕ) → IsWrittenPlace pages final old new level offset
      → (b : Birth) × Contains births b × IsAt b level offset

-- what is written is told by the places and the data
written-frame : (pages one other : Pages) (old new : Root)
    → ((level offset : ℕ) → place_at one new level offset ≡ place_at other new level offset)
    → ((i : ℕ) → page_at one new i ≡ page_at other new i) →
    (level offset : ℕ) → IsWrittenPlace pages one old new level offset
    → IsWrittenPlace pages other old new level offset
written-frame pages one other old new places blocks zero offset w =
    (subst (λ (o : Option ℕ). IsSome o) (places 0 offset) w.0, λ e. w.1 (e ∙ sym (blocks offset)))
written-frame pages one other old new places blocks (suc level) offset w =
    (subst (λ (o : Option ℕ). IsSome o) (places (suc level) offset) w.0, node w.1)
  where
    node : NodeWritten pages one old new (suc level) offset
        → NodeWritten pages other old new (suc level) offset
    node (was_absent e) = was_absent e
    node (new_kind e) = new_kind e
    node (of_chain k i e) = of_chain k i (λ x. e (x ∙ sym (blocks i)))
    node (of_tree k i at e) = of_tree k i at (λ x. e (x ∙ sym (blocks i)))

put_renewed : (content : Content) (inode : ℕ) (old new : Root) (changes : List BlockChange)
    (before after : Changes) (p : PutsAll content inode old new changes before after) (more : List Birth)
    → IsUnused content more →
    FileRenewed (pages_of content)
    (with_births (after.births ++ more) (pages_of content)) inode old new p.births p.ends
put_renewed content inode old new changes before after p more u = record {
  of_inode = λ b k. all_of (λ (x : Birth). x.place.inode ≡ inode) p.births b p.rewrites.of_inode k;
  born_placed = λ b k. frame b.place.level b.place.offset ∙ p.rewrites.born_placed b k;
  born_or_kept = λ level offset v e. p.rewrites.born_or_kept level offset v (sym (frame level offset) ∙ e);
  ended_or_kept = λ level offset v e. elim (p.rewrites.ended_or_kept level offset v e) [
    | inl k ↦ inl k
    | inr r ↦ inr (r.0, frame r.0.0 r.0.1 ∙ r.1)
  ];
  ended_placed = p.rewrites.ended_placed;
  ended_lost = λ v k r. p.rewrites.ended_lost v k (r.0, sym (frame r.0.0 r.0.1) ∙ r.1);
  born_written = λ b k.
      written-frame _ _ _ old new (λ l o. sym (frame l o))
      (λ i. sym (kept.blocks i)) b.place.level b.place.offset (p.rewrites.born_written b k);
  written_born = λ level offset w.
      p.rewrites.written_born level offset (written-frame _ _ _ old new frame kept.blocks level offset w);
}
  where
    kept : KeepsFile (with_births after.births (pages_of content))
        (with_births (after.births ++ more) (pages_of content)) new
    kept = keeps-file _ _ new (more-keep content after.births more u) p.sound

    frame : (level offset : ℕ)
        → place_at (with_births (after.births ++ more) (pages_of content)) new level offset
        ≡ place_at (with_births after.births (pages_of content)) new level offset
    frame = kept.places

births_added : (content : Content) (roots : ℕ → Root) (batch : Changes) (files : List FileChange)
    → ArePut content roots batch files → List Birth
births_added content roots batch [] put = []
births_added content roots batch (file ∷ files) put =
    put.0.births ++ births_added content roots file.batch files put.1

ends_added : (content : Content) (roots : ℕ → Root) (batch : Changes) (files : List FileChange)
    → ArePut content roots batch files → List ℕ
ends_added content roots batch [] put = []
ends_added content roots batch (file ∷ files) put =
    put.0.ends ++ ends_added content roots file.batch files put.1

births_after : (content : Content) (roots : ℕ → Root) (batch : Changes) (files : List FileChange)
    (put : ArePut content roots batch files)
    → (batch_after files batch).births ≡ batch.births ++ births_added content roots batch files put
unfolding births_added
births_after content roots batch [] put = sym (append-nil batch.births)
births_after content roots batch (file ∷ files) put =
    births_after content roots file.batch files put.1
    ∙ (ap (λ (bs : List Birth). bs ++ births_added content roots file.batch files put.1) put.0.births_are
    ∙ append_assoc batch.births put.0.births _)

ends_after : (content : Content) (roots : ℕ → Root) (batch : Changes) (files : List FileChange)
    (put : ArePut content roots batch files)
    → (batch_after files batch).ends ≡ batch.ends ++ ends_added content roots batch files put
unfolding ends_added
ends_after content roots batch [] put = sym (append-nil batch.ends)
ends_after content roots batch (file ∷ files) put =
    ends_after content roots file.batch files put.1
    ∙ (ap (λ (ns : List ℕ). ns ++ ends_added content roots file.batch files put.1) put.0.ends_are
    ∙ append_assoc batch.ends put.0.ends _)

or_right : (a : Bool) {b : Bool} → b ≡ true → (a || b) ≡ true
or_right true h = refl
or_right false h = h

abbrev place : ℕ → ℕ × ℕ → Place
place i at = record { inode = i; level = at.0; offset = at.1 }

module _ (content : Content) (roots : ℕ → Root) (c : ℕ)
    (exact : IsExact content c (numbers_of (pages_of content) roots)) where
  -- a number has one place
  one_place : (p q : Place) (v : ℕ) → numbers_of (pages_of content) roots p ≡ Some v
      → numbers_of (pages_of content) roots q ≡ Some v → p ≡ q
  one_place = exact.once

  in_use : (q : Place) (v : ℕ) → numbers_of (pages_of content) roots q ≡ Some v → content v ≡ None → ⊥
  in_use q v h none = let a = exact.reached q v h in let no : None ≡ Some a.0 = sym none ∙ a.1 in cc

  stored : (i level offset v : ℕ) → place_at (pages_of content) (roots i) level offset ≡ Some v
      → IsSome (pages_of content v)
  stored i level offset v h =
      let a = exact.reached (record { inode = i; level = level; offset = offset }) v h in
      some-is (pages_of content v) a.0.page (ap (option_map (λ (x : Entry). x.page)) a.1)

  -- a file that is not changed
  old_kept : (births : List Birth) (i : ℕ) → IsUnused content births
      → FileRenewed (pages_of content) (with_births births (pages_of content)) i (roots i) (roots i) [] []
  old_kept births i u = record {
    of_inode = λ b k. absurd (let l = k.1 in omega arith);
    born_placed = λ b k. absurd (let l = k.1 in omega arith);
    born_or_kept = λ level offset v e. inr (sym (frame level offset) ∙ e);
    ended_or_kept = λ level offset v e. inr ((level, offset), frame level offset ∙ e);
    ended_placed = λ v k. absurd (let l = k.1 in omega arith);
    ended_lost = λ v k r. absurd (let l = k.1 in omega arith);
    born_written = λ b k. absurd (let l = k.1 in omega arith);
    written_born = λ level offset w.
        absurd (unwritten (pages_of content) (with_births births (pages_of content)) (roots i) frame
        (λ j.
        ap (option_and_then (with_births births (pages_of content))) (frame 0 j)
        ∙ block-kept (pages_of content) _ (place_at (pages_of content) (roots i) 0 j)
        (births-keep content births u) (stored i 0 j))
        level offset w);
  }
    where
      frame : (level offset : ℕ)
          → place_at (with_births births (pages_of content)) (roots i) level offset
          ≡ place_at (pages_of content) (roots i) level offset
      frame =
          places-kept (pages_of content) (with_births births (pages_of content)) (roots i)
          (births-keep content births u) (stored i)

  born_inode : (batch : Changes) (files : List FileChange) (put : ArePut content roots batch files)
      (b : Birth)
      → Contains (births_added content roots batch files put) b
      → is_one_of (inodes_of files) b.place.inode ≡ true
  unfolding births_added
  born_inode batch [] put b k = absurd (let l = k.1 in omega arith)
  born_inode batch (file ∷ files) put b k =
      elim (Contains-append_cases put.0.births (births_added content roots file.batch files put.1) b k) [
        | inl x ↦
            ap (λ t. t || is_one_of (inodes_of files) b.place.inode)
            (eq-eqb b.place.inode file.inode
            (all_of (λ (y : Birth). y.place.inode ≡ file.inode) put.0.births b put.0.rewrites.of_inode x))
        | inr x ↦ or_right (eqb b.place.inode file.inode) (born_inode file.batch files put.1 b x)
      ]

  ended_at_place : (batch : Changes) (files : List FileChange) (put : ArePut content roots batch files)
      (v : ℕ)
      → Contains (ends_added content roots batch files put) v →
      (q : Place) × (numbers_of (pages_of content) roots q ≡ Some v)
      × (is_one_of (inodes_of files) q.inode ≡ true)
  unfolding ends_added
  ended_at_place batch [] put v k = absurd (let l = k.1 in omega arith)
  ended_at_place batch (file ∷ files) put v k =
      elim (Contains-append_cases put.0.ends (ends_added content roots file.batch files put.1) v k) [
        | inl x ↦
            let at = put.0.rewrites.ended_placed v x in (
              place file.inode at.0,
              at.1,
              ap (λ t. t || is_one_of (inodes_of files) file.inode) (eq-eqb file.inode file.inode refl),
            )
        | inr x ↦
            let r = ended_at_place file.batch files put.1 v x in
            (r.0, r.1, or_right (eqb r.0.inode file.inode) r.2)
      ]

  -- what all births and ends are for one file
  record View (all births : List Birth) (ends : List ℕ) (i : ℕ) (new : Root) : Type 0 where
    pub mine : List Birth
    pub lost : List ℕ
    pub renewed : FileRenewed (pages_of content) (with_births all (pages_of content)) i
        (roots i) new mine lost
    pub mine_in : (b : Birth) → Contains mine b → Contains births b
    pub all_mine : (b : Birth) → Contains births b → b.place.inode ≡ i → Contains mine b
    pub lost_in : (v : ℕ) → Contains lost v → Contains ends v
    pub all_lost : (q : Place) (v : ℕ) → Contains ends v → q.inode ≡ i
        → numbers_of (pages_of content) roots q ≡ Some v → Contains lost v

  view_of : (all : List Birth) → IsUnused content all
      → (batch : Changes) (files : List FileChange) (put : ArePut content roots batch files)
      → NoneTwice (inodes_of files) →
      all ≡ batch.births ++ births_added content roots batch files put →
      (i : ℕ)
      → View all (births_added content roots batch files put) (ends_added content roots batch files put) i
      (roots_after files roots i)
  unfolding births_added ends_added
  view_of all unused batch [] put once is i = record {
    mine = [];
    lost = [];
    renewed = old_kept all i unused;
    mine_in = λ b k. k;
    all_mine = λ b k e. k;
    lost_in = λ v k. k;
    all_lost = λ q v k e h. k;
  }
  view_of all unused batch (file ∷ files) put once is i =
      step (cases_Bool (eqb i file.inode)) (view_of all unused file.batch files put.1 once.1 is_more i)
    where
      is_more : all ≡ file.batch.births ++ births_added content roots file.batch files put.1
      is_more =
          is
          ∙ (sym (append_assoc batch.births put.0.births _)
          ∙ ap (λ (bs : List Birth). bs ++ births_added content roots file.batch files put.1)
          (sym put.0.births_are))

      later_unused : IsUnused content (births_added content roots file.batch files put.1)
      later_unused v k = unused v (subst (λ (bs : List Birth). Contains (born bs) v) (sym is_more)
          (subst (λ (ns : List ℕ). Contains ns v)
          (sym (born-append file.batch.births (births_added content roots file.batch files put.1)))
          (Contains-append_right (born file.batch.births)
          (born (births_added content roots file.batch files put.1)) v k)))

      here : FileRenewed (pages_of content) (with_births all (pages_of content)) file.inode
          (roots file.inode) file.root put.0.births put.0.ends
      here =
          subst (λ (bs : List Birth).
          FileRenewed (pages_of content) (with_births bs (pages_of content)) file.inode
          (roots file.inode) file.root put.0.births put.0.ends)
          (sym is_more)
          (put_renewed content file.inode (roots file.inode) file.root file.changes batch file.batch put.0
          (births_added content roots file.batch files put.1) later_unused)

      not_later : is_one_of (inodes_of files) file.inode ≡ true → ⊥
      not_later h = let no : true ≡ false = sym h ∙ once.0 in cc

      of_file : View all (put.0.births ++ births_added content roots file.batch files put.1)
          (put.0.ends ++ ends_added content roots file.batch files put.1) file.inode file.root
      of_file = record {
        mine = put.0.births;
        lost = put.0.ends;
        renewed = here;
        mine_in = λ b k.
            Contains-append_left put.0.births (births_added content roots file.batch files put.1) b k;
        all_mine = λ b k e.
            elim (Contains-append_cases put.0.births
            (births_added content roots file.batch files put.1) b k) [
              | inl x ↦ x
              | inr x ↦
                  absurd (not_later
                  (subst (λ (n : ℕ). is_one_of (inodes_of files) n ≡ true) e
                  (born_inode file.batch files put.1 b x)))
            ];
        lost_in = λ v k.
            Contains-append_left put.0.ends (ends_added content roots file.batch files put.1) v k;
        all_lost = λ q v k e h.
            elim (Contains-append_cases put.0.ends (ends_added content roots file.batch files put.1) v k) [
              | inl x ↦ x
              | inr x ↦
                  let r = ended_at_place file.batch files put.1 v x in
                  absurd (not_later
                  (subst (λ (n : ℕ). is_one_of (inodes_of files) n ≡ true)
                  (ap (λ (p : Place). p.inode) (one_place r.0 q v r.1 h) ∙ e) r.2))
            ];
      }

      of_other : (j : ℕ) (new : Root) → (j ≡ file.inode → ⊥)
          → View all (births_added content roots file.batch files put.1)
          (ends_added content roots file.batch files put.1) j new
          →
          View all (put.0.births ++ births_added content roots file.batch files put.1)
          (put.0.ends ++ ends_added content roots file.batch files put.1) j new
      of_other j new other w = record {
        mine = w.mine;
        lost = w.lost;
        renewed = w.renewed;
        mine_in = λ b k.
            Contains-append_right put.0.births (births_added content roots file.batch files put.1) b
            (w.mine_in b k);
        all_mine = λ b k e.
            elim (Contains-append_cases put.0.births
            (births_added content roots file.batch files put.1) b k) [
              | inl x ↦
                  absurd (other (sym e
                  ∙ all_of
                  (λ (y : Birth). y.place.inode ≡ file.inode) put.0.births b put.0.rewrites.of_inode x))
              | inr x ↦ w.all_mine b x e
            ];
        lost_in = λ v k.
            Contains-append_right put.0.ends (ends_added content roots file.batch files put.1) v
            (w.lost_in v k);
        all_lost = λ q v k e h.
            elim (Contains-append_cases put.0.ends (ends_added content roots file.batch files put.1) v k) [
              | inl x ↦
                  let at = put.0.rewrites.ended_placed v x in
                  absurd
                  (other (sym e ∙ ap (λ (p : Place). p.inode) (one_place q (place file.inode at.0) v h at.1)))
              | inr x ↦ w.all_lost q v x e h
            ];
      }

      step : (eqb i file.inode ≡ true) ⊎ (eqb i file.inode ≡ false)
          → View all (births_added content roots file.batch files put.1)
          (ends_added content roots file.batch files put.1) i (roots_after files roots i)
          →
          View all (put.0.births ++ births_added content roots file.batch files put.1)
          (put.0.ends ++ ends_added content roots file.batch files put.1) i
          (roots_after (file ∷ files) roots i)
      step (inl t) w =
          rw t (subst (λ (j : ℕ).
          View all (put.0.births ++ births_added content roots file.batch files put.1)
          (put.0.ends ++ ends_added content roots file.batch files put.1) j file.root)
          (sym (eqb-true i file.inode t)) of_file)
      step (inr t) w =
          rw t (of_other i (roots_after files roots i)
          (λ e. let no : true ≡ false = sym (eq-eqb i file.inode e) ∙ t in cc) w)

  -- ---- all files

  module _ (births : List Birth) (ends : List ℕ) (new : ℕ → Root) (unused : IsUnused content births)
      (once : GivenOnce births)
      (live : (v : ℕ) → is_one_of ends v ≡ true → is_live (content v) ≡ true)
      (view : (i : ℕ) → View births births ends i (new i)) where
    -- a birth stands at its place
    born_there : (p : Birth) (q : Place) → Contains births p → p.place ≡ q
        → numbers_of (with_births births (pages_of content)) new q ≡ Some p.number
    born_there p q k e =
        subst (λ (x : Place). numbers_of (with_births births (pages_of content)) new x ≡ Some p.number) e
        ((view p.place.inode).renewed.born_placed p ((view p.place.inode).all_mine p k refl))

    not_in_use : (p : Birth) (q : Place) (v : ℕ) → Contains births p
        → numbers_of (pages_of content) roots q ≡ Some v → p.number ≡ v → ⊥
    not_in_use p q v k h e =
        in_use q v h (unused v (subst (λ (n : ℕ). Contains (born births) n) e (born_in births p k)))

    same_number : {v w : ℕ} (o : Option ℕ) → o ≡ Some v → o ≡ Some w → v ≡ w
    same_number {v = v} {w = w} o p q = let e : Some v ≡ Some w = sym p ∙ q in cc

    -- what stands at a place is born there, or stood there
    born_or_old : (q : Place) (v : ℕ) → numbers_of (with_births births (pages_of content)) new q ≡ Some v
        → ((p : Birth) × Contains births p × (p.place ≡ q)) ⊎ (numbers_of (pages_of content) roots q ≡ Some v)
    born_or_old q v h = elim ((view q.inode).renewed.born_or_kept q.level q.offset v h) [
      | inl b ↦
          inl (
            b.0,
            (view q.inode).mine_in b.0 b.1,
            at_place b.0.place q ((view q.inode).renewed.of_inode b.0 b.1) b.2.0 b.2.1,
          )
      | inr k ↦ inr k
    ]
      where
        at_place : (a b : Place) → a.inode ≡ b.inode → a.level ≡ b.level → a.offset ≡ b.offset → a ≡ b
        at_place a b i l o = parts i l o
          where
            parts : {i i' l l' o o' : ℕ} → i ≡ i' → l ≡ l' → o ≡ o'
                → (let p : Place = record { inode = i; level = l; offset = o } in p)
                ≡ record { inode = i'; level = l'; offset = o' }
            parts x y z = cc

    -- a number that stood somewhere ends, or stands there still
    ended_or_there : (q : Place) (v : ℕ) → numbers_of (pages_of content) roots q ≡ Some v
        → Contains ends v ⊎ (numbers_of (with_births births (pages_of content)) new q ≡ Some v)
    ended_or_there q v h = elim ((view q.inode).renewed.ended_or_kept q.level q.offset v h) [
      | inl k ↦ inl ((view q.inode).lost_in v k)
      | inr r ↦ elim (born_or_old (place q.inode r.0) v r.1) [
        | inl b ↦
            absurd (not_in_use b.0 q v b.1 h (same_number _ (born_there b.0 (place q.inode r.0) b.1 b.2) r.1))
        | inr k ↦
            inr (subst (λ (x : Place). numbers_of (with_births births (pages_of content)) new x ≡ Some v)
            (one_place (place q.inode r.0) q v k h) r.1)
      ]
    ]

    batch_is : IsBatch content (numbers_of (pages_of content) roots) births ends
    batch_is = record {
      once = once;
      placed_once = λ v p h. alone p (given_in births v p h).0 (birth_at births p.place) refl;
      numbered = λ q p h. given births p once (found births q p h).0;
      unused = λ v p h.
          let r = given_in births v p h in
          unused v (subst (λ (n : ℕ). Contains (born births) n) r.1 (born_in births p r.0));
      replaced = λ q p v h old. let r = found births q p h in elim (ended_or_there q v old) [
        | inl k ↦ one_of-is ends v k
        | inr k ↦ absurd (not_in_use p q v r.0 old (same_number _ (born_there p q r.0 r.1) k))
      ];
      live = λ v e k h. no_end e (subst (λ (o : Option Entry). is_live o ≡ true) h (live v k));
    }
      where
        no_end : (e : Entry) → is_live (Some e) ≡ true → e.end ≡ None
        no_end e h = none e.end h
          where
            none : (o : Option ℕ) → is_none o ≡ true → o ≡ None
            none None h = refl
            none (Some x) h = cc

        alone : (p : Birth) → Contains births p → (o : Option Birth) → birth_at births p.place ≡ o
            → birth_at births p.place ≡ Some p
        alone p k None h = absurd (not_found births p.place p h k refl)
        alone p k (Some b) h =
            let r = found births p.place b h in
            let number : b.number ≡ p.number =
            same_number _ (born_there b p.place r.0 r.1) (born_there p p.place k refl) in
            let one : Some b ≡ Some p =
            sym (given births b once r.0) ∙ (ap (birth_of births) number ∙ given births p once k) in
            h ∙ one

    numbers_are : numbers_of (with_births births (pages_of content)) new
        ≡ numbers_after births ends (numbers_of (pages_of content) roots)
    numbers_are = λ i. λ q. each q i
      where
        none_there : (q : Place) → birth_at births q ≡ None
            → ((v : ℕ) → numbers_of (pages_of content) roots q ≡ Some v → Contains ends v)
            → numbers_of (with_births births (pages_of content)) new q ≡ None
        none_there q none gone =
            elim (cases-Option (numbers_of (with_births births (pages_of content)) new q)) [
              | inl e ↦ e
              | inr x ↦ elim (born_or_old q x.0 x.1) [
                | inl b ↦ absurd (not_found births q b.0 none b.1 b.2)
                | inr k ↦
                    absurd ((view q.inode).renewed.ended_lost x.0
                    ((view q.inode).all_lost q x.0 (gone x.0 k) refl k) ((q.level, q.offset), x.1))
              ]
            ]

        unborn : (q : Place) → birth_at births q ≡ None → (o : Option ℕ)
            → numbers_of (pages_of content) roots q ≡ o
            → numbers_of (with_births births (pages_of content)) new q ≡ born_or_left ends None o
        unborn q none None h = none_there q none (λ v e. let no : None ≡ Some v = sym h ∙ e in cc)
        unborn q none (Some v) h = elim (cases_Bool (is_one_of ends v)) [
          | inl t ↦
              none_there q none
              (λ w e. subst (λ (n : ℕ). Contains ends n) (same_number _ h e) (is-one_of ends v t))
              ∙ rw t refl
          | inr t ↦ elim (ended_or_there q v h) [
            | inl k ↦ let no : true ≡ false = sym (one_of-is ends v k) ∙ t in cc
            | inr k ↦ k ∙ rw t refl
          ]
        ]

        each : (q : Place)
            → numbers_of (with_births births (pages_of content)) new q
            ≡ born_or_left ends (birth_at births q) (numbers_of (pages_of content) roots q)
        each q =
            elim (birth_at births q) as (λ o.
            birth_at births q ≡ o
            → numbers_of (with_births births (pages_of content)) new q
            ≡ born_or_left ends o (numbers_of (pages_of content) roots q)) [
              | None ↦ λ h. unborn q h (numbers_of (pages_of content) roots q) refl
              | Some p ↦ λ h. let r = found births q p h in born_there p q r.0 r.1
            ] refl

-- ---- what is true of the roots

sound_more : (content : Content) (roots : ℕ → Root) (all : List Birth) → IsUnused content all
    → ((i : ℕ) → IsSound (pages_of content) (roots i)) →
    (batch : Changes) (files : List FileChange) (put : ArePut content roots batch files)
    → all ≡ batch.births ++ births_added content roots batch files put →
    (i : ℕ) → IsSound (with_births all (pages_of content)) (roots_after files roots i)
unfolding births_added
sound_more content roots all unused sound batch [] put is i =
    (keeps-file (pages_of content) (with_births all (pages_of content)) (roots i)
    (births-keep content all unused) (sound i)).sound
sound_more content roots all unused sound batch (file ∷ files) put is i =
    elim (cases_Bool (eqb i file.inode)) [
      | inl t ↦ rw t here
      | inr t ↦ rw t (sound_more content roots all unused sound file.batch files put.1 is_more i)
    ]
  where
    is_more : all ≡ file.batch.births ++ births_added content roots file.batch files put.1
    is_more =
        is
        ∙ (sym (append_assoc batch.births put.0.births _)
        ∙ ap (λ (bs : List Birth). bs ++ births_added content roots file.batch files put.1)
        (sym put.0.births_are))

    later_unused : IsUnused content (births_added content roots file.batch files put.1)
    later_unused v k = unused v (subst (λ (bs : List Birth). Contains (born bs) v) (sym is_more)
        (subst (λ (ns : List ℕ). Contains ns v)
        (sym (born-append file.batch.births (births_added content roots file.batch files put.1)))
        (Contains-append_right (born file.batch.births)
        (born (births_added content roots file.batch files put.1)) v k)))

    here : IsSound (with_births all (pages_of content)) file.root
    here = subst (λ (bs : List Birth). IsSound (with_births bs (pages_of content)) file.root) (sym is_more)
        (keeps-file (with_births file.batch.births (pages_of content))
        (with_births (file.batch.births ++ births_added content roots file.batch files put.1)
        (pages_of content))
        file.root
        (more-keep content file.batch.births (births_added content roots file.batch files put.1) later_unused)
        put.0.sound).sound

-- ---- a checkpoint

module _ (room : ℕ) (ledger : Ledger) (roots : ℕ → Root) (files : List FileChange) (is : IsLedger ledger)
    (r : AreRenewed room ledger roots files) where
  exact : IsExact ledger.content ledger.latest (numbers_of (pages_of ledger.content) roots)
  exact =
      subst (λ (numbers : Numbers). IsExact ledger.content ledger.latest numbers) r.latest
      (is.exact ledger.latest (numbers_at ledger ledger.latest) is.latest_kept)

  births_are : (batch_of files).births ≡ births_added ledger.content roots no_changes files r.put
  births_are = births_after ledger.content roots no_changes files r.put

  ends_are : (batch_of files).ends ≡ ends_added ledger.content roots no_changes files r.put
  ends_are = ends_after ledger.content roots no_changes files r.put

  unused : IsUnused ledger.content (batch_of files).births
  unused = unused_of_fits room ledger.content (batch_of files) r.fits

  view : (i : ℕ)
      → View ledger.content roots ledger.latest exact (batch_of files).births (batch_of files).births
      (batch_of files).ends i (roots_after files roots i)
  view i =
      subst (λ (bs : List Birth).
      View ledger.content roots ledger.latest exact (batch_of files).births bs (batch_of files).ends i
      (roots_after files roots i))
      (sym births_are)
      (subst (λ (ns : List ℕ).
      View ledger.content roots ledger.latest exact (batch_of files).births
      (births_added ledger.content roots no_changes files r.put) ns i (roots_after files roots i))
      (sym ends_are)
      (view_of ledger.content roots ledger.latest exact
      (batch_of files).births unused no_changes files r.put r.each_once births_are i))

  whole : IsBatch ledger.content (numbers_of (pages_of ledger.content) roots) (batch_of files).births
      (batch_of files).ends
  whole =
      batch_is ledger.content roots ledger.latest exact (batch_of files).births (batch_of files).ends
      (roots_after files roots) unused r.fits.once r.fits.live view

  numbers : numbers_of (with_births (batch_of files).births (pages_of ledger.content))
      (roots_after files roots)
      ≡ numbers_after (batch_of files).births (batch_of files).ends
      (numbers_of (pages_of ledger.content) roots)
  numbers =
      numbers_are ledger.content roots ledger.latest exact (batch_of files).births (batch_of files).ends
      (roots_after files roots) unused r.fits.once r.fits.live view

  kept_now : numbers_at (checkpoint_of files ledger) (ledger.latest + 1)
      ≡ numbers_after (batch_of files).births (batch_of files).ends (numbers_at ledger ledger.latest)
  kept_now = rw (eq-eqb (ledger.latest + 1) (ledger.latest + 1) refl) refl

  pub allowed : Allowed (checkpoint_event files) ledger
  allowed =
      subst
      (λ (numbers : Numbers). IsBatch ledger.content numbers (batch_of files).births (batch_of files).ends)
      (sym r.latest) whole

  pages_now : pages_of (checkpoint_of files ledger).content
      ≡ with_births (batch_of files).births (pages_of ledger.content)
  pages_now =
      pages-written (batch_of files).births (batch_of files).ends
      (ledger.latest + 1) ledger.content r.fits.once

  pub checkpoints-follow : ReachesNewRoots ledger roots files
  checkpoints-follow = record {
    allowed = allowed;
    reaches =
        kept_now
        ∙ (ap (numbers_after (batch_of files).births (batch_of files).ends) r.latest
        ∙ (sym numbers ∙ ap (λ (pages : Pages). numbers_of pages (roots_after files roots)) (sym pages_now)));
    is_ledger = ledger_after-IsLedger (checkpoint_event files) ledger is allowed;
  }

  -- ---- what is written

  at_place : (a b : Place) → a.inode ≡ b.inode → a.level ≡ b.level → a.offset ≡ b.offset → a ≡ b
  at_place a b i l o = parts i l o
    where
      parts : {i i' l l' o o' : ℕ} → i ≡ i' → l ≡ l' → o ≡ o'
          → (let p : Place = record { inode = i; level = l; offset = o } in p)
          ≡ record { inode = i'; level = l'; offset = o' }
      parts x y z = cc

  stands_or_stood : (q : Place) (v : ℕ)
      → numbers_of (with_births (batch_of files).births (pages_of ledger.content)) (roots_after files roots) q
      ≡ Some v
      →
      ((p : Birth) × Contains (batch_of files).births p × (p.place ≡ q))
      ⊎ (numbers_of (pages_of ledger.content) roots q ≡ Some v)
  stands_or_stood =
      born_or_old ledger.content roots ledger.latest exact (batch_of files).births (batch_of files).ends
      (roots_after files roots) unused r.fits.once r.fits.live view

  ended_place : (v : ℕ) → Contains (batch_of files).ends v
      → (q : Place) × (numbers_of (pages_of ledger.content) roots q ≡ Some v)
  ended_place v k =
      let at =
      ended_at_place ledger.content roots ledger.latest exact no_changes files r.put v
      (subst (λ (ns : List ℕ). Contains ns v) ends_are k) in
      (at.0, at.1)

  number_used : (p : Birth) (q : Place) (v : ℕ) → Contains (batch_of files).births p
      → numbers_of (pages_of ledger.content) roots q ≡ Some v → p.number ≡ v → ⊥
  number_used =
      not_in_use ledger.content roots ledger.latest exact (batch_of files).births (batch_of files).ends
      (roots_after files roots) unused r.fits.once r.fits.live view

  born_at_place : (p : Birth) (q : Place) → Contains (batch_of files).births p → p.place ≡ q
      → numbers_of (with_births (batch_of files).births (pages_of ledger.content)) (roots_after files roots) q
      ≡ Some p.number
  born_at_place =
      born_there ledger.content roots ledger.latest exact (batch_of files).births (batch_of files).ends
      (roots_after files roots) unused r.fits.once r.fits.live view

  one_number : {v w : ℕ} (o : Option ℕ) → o ≡ Some v → o ≡ Some w → v ≡ w
  one_number {v = v} {w = w} o p q = let e : Some v ≡ Some w = sym p ∙ q in cc

  lost : (v : ℕ) → Contains (batch_of files).ends v → (q : Place)
      → numbers_of (with_births (batch_of files).births (pages_of ledger.content)) (roots_after files roots) q
      ≡ Some v
      → ⊥
  lost v k q h = elim (stands_or_stood q v h) [
    | inl b ↦
        let at = ended_place v k in
        number_used b.0 at.0 v b.1 at.1 (one_number _ (born_at_place b.0 q b.1 b.2) h)
    | inr old ↦
        (view q.inode).renewed.ended_lost v ((view q.inode).all_lost q v k refl old) ((q.level, q.offset), h)
  ]

  in_order : (last : ℕ) (batch : Changes) (more : List FileChange)
      (put : ArePut ledger.content roots batch more)
      → AllPairs (ComesBefore last) (inodes_of more)
      → AllPairs (ComesFirst last) (births_added ledger.content roots batch more put)
  unfolding births_added
  in_order last batch [] put a = λ i j d l m. absurd (omega (arith, m))
  in_order last batch (file ∷ more) put a =
      pairs-append (ComesFirst last) put.0.births
      (births_added ledger.content roots file.batch more put.1) one
      (in_order last file.batch more put.1 (pairs-tail (ComesBefore last) file.inode (inodes_of more) a))
      later
    where
      inode_is : (b : Birth) → Contains put.0.births b → b.place.inode ≡ file.inode
      inode_is b k =
          all_of (λ (x : Birth). x.place.inode ≡ file.inode) put.0.births b put.0.rewrites.of_inode k

      one : AllPairs (ComesFirst last) put.0.births
      one i j d l m = inr (
        inode_is (get_or put.0.births i d) (Contains-get_or put.0.births i d (omega arith))
            ∙ sym (inode_is (get_or put.0.births j d) (Contains-get_or put.0.births j d m)),
        put.0.rewrites.in_order i j d l m,
      )

      later : (x y : Birth) → Contains put.0.births x
          → Contains (births_added ledger.content roots file.batch more put.1) y → ComesFirst last x y
      later x y cx cy = inl (subst (λ (n : ℕ). ComesBefore last n y.place.inode) (sym (inode_is x cx))
          (pairs-head (ComesBefore last) file.inode (inodes_of more) a y.place.inode
          (is-one_of (inodes_of more) y.place.inode
          (born_inode ledger.content roots ledger.latest exact file.batch more put.1 y cy))))

  ended_once : (batch : Changes) (more : List FileChange) (put : ArePut ledger.content roots batch more)
      → NoneTwice (inodes_of more)
      → AllPairs (λ (a b : ℕ). a ≢ b) (ends_added ledger.content roots batch more put)
  unfolding ends_added
  ended_once batch [] put once = λ i j d l m. absurd (omega (arith, m))
  ended_once batch (file ∷ more) put once =
      pairs-append (λ (a b : ℕ). a ≢ b) put.0.ends
      (ends_added ledger.content roots file.batch more put.1) put.0.rewrites.ended_once
      (ended_once file.batch more put.1 once.1) (λ x y cx cy same.
      let here = put.0.rewrites.ended_placed x cx in
      let there = ended_at_place ledger.content roots ledger.latest exact file.batch more put.1 y cy in
      let at : there.0 ≡ place file.inode here.0 =
      one_place ledger.content roots ledger.latest exact there.0 (place file.inode here.0) y there.1
      (here.1 ∙ ap Some same) in
      let no : true ≡ false =
      sym there.2 ∙ (ap (λ (q : Place). is_one_of (inodes_of more) q.inode) at ∙ once.0) in
      cc)

  writes_final : (last : ℕ) → AllPairs (ComesBefore last) (inodes_of files)
      → WritesWhatDiffers (pages_of ledger.content)
      (with_births (batch_of files).births (pages_of ledger.content)) roots (roots_after files roots) last
      (batch_of files).births (batch_of files).ends
  writes_final last ascending = record {
    in_order =
        subst (λ (bs : List Birth). AllPairs (ComesFirst last) bs) (sym births_are)
        (in_order last no_changes files r.put ascending);
    born_placed = λ b k. born_at_place b b.place k refl;
    born_written = λ b k.
        (view b.place.inode).renewed.born_written b ((view b.place.inode).all_mine b k refl);
    written_born = λ q w.
        let b = (view q.inode).renewed.written_born q.level q.offset w in (
          b.0,
          (view q.inode).mine_in b.0 b.1,
          at_place b.0.place q ((view q.inode).renewed.of_inode b.0 b.1) b.2.0 b.2.1,
        );
    born_or_kept = stands_or_stood;
    ended_or_kept =
        ended_or_there ledger.content roots ledger.latest exact (batch_of files).births (batch_of files).ends
        (roots_after files roots) unused r.fits.once r.fits.live view;
    ended_once =
        subst (λ (ns : List ℕ). AllPairs (λ (a b : ℕ). a ≢ b) ns) (sym ends_are)
        (ended_once no_changes files r.put r.each_once);
    ended_placed = ended_place;
    ended_lost = lost;
  }

  pub writes-what-differs : (last : ℕ) → AllPairs (ComesBefore last) (inodes_of files)
      → WritesWhatDiffers (pages_of ledger.content) (pages_of (checkpoint_of files ledger).content) roots
      (roots_after files roots) last (batch_of files).births (batch_of files).ends
  writes-what-differs last ascending =
      subst (λ (pages : Pages).
      WritesWhatDiffers (pages_of ledger.content) pages roots (roots_after files roots) last
      (batch_of files).births (batch_of files).ends)
      (sym pages_now) (writes_final last ascending)

  pub roots-sound : ((i : ℕ) → IsSound (pages_of ledger.content) (roots i)) → (i : ℕ)
      → IsSound (pages_of (checkpoint_of files ledger).content) (roots_after files roots i)
  roots-sound sound i =
      subst (λ (pages : Pages). IsSound pages (roots_after files roots i)) (sym pages_now)
      (sound_more ledger.content roots
      (batch_of files).births unused sound no_changes files r.put births_are i)
