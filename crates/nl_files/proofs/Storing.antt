-- What the new checkpoint's root stands for.
use Rattle.std.proofs.Common.{◌≡◌, ◌⊎◌, ℕ, zero, suc, ◌<◌, ◌≤◌, ◌+◌, ◌==◌, Bool, false, arith, List, [], ◌∷◌, ◌++◌, length, get_or, Option, Some, None, refl, ap, sym, subst, ◌∙◌, inl, inr, append_assoc}
use Rattle.std.specs.Prelude.{◌||◌, cond, map}
use Rattle.std.specs.List.{AllPairs, Contains}
use Rattle.std.specs.Ordering.{nat_cmp}
use Rattle.std.specs.FinMap.{find}
use Rattle.std.proofs.lemmas.Bool.{cases_eq, eq-eqb, ne_eqb}
use Rattle.std.proofs.lemmas.List.{append-nil}
use Rattle.std.proofs.lemmas.List.Elements.{Contains-append_right}
use Rattle.nl_types.specs.Blocks.Entries.{Birth, Content}
use Rattle.nl_types.specs.Plain.NumberLists.{NoneTwice, is_one_of}
use Rattle.nl_types.specs.Blocks.Roots.{Pages, Root, page_at, pages_of}
use Rattle.nl_types.specs.Blocks.RootChanges.{IsSound, KeepsFile, born, with_births}
use Rattle.nl_vstore.specs.Batches.{Changes, CanBeTaken}
use Rattle.nl_layout.specs.Root.{root_of}
use Rattle.nl_layout.specs.declared.inode.Inode.{Inode}
use Rattle.nl_blocktree.specs.Checkpoints.{ComesBefore, FileChange, batch_after, inodes_of, no_changes, roots_after}
use Rattle.nl_blocktree.specs.Numbering.{IsUnused}
use Rattle.nl_blocktree.specs.Putting.{PutsAll, pages_after}
use Rattle.nl_blocktree.specs.Facts.Frames.{births-keep, keeps-file, more-keep}
use Rattle.nl_blocktree.specs.Facts.Numbers.{born-append, unused_of_fits}
use Rattle.nl_ifile.specs.declared.change.InodeChange.{InodeChange}
use Rattle.nl_ifile.specs.Inodes.{inode_at}
use Rattle.nl_ifile.specs.Changing.{NumbersAscend, NumbersAreInRange, PutsInodes, inodes_with}
use Rattle.nl_tree.specs.Became.{Became, EachMayBecome, Rises, over_if_became, over_became}
use Rattle.nl_tree.specs.Held.{Held, Holding}
use Rattle.nl_tree.specs.Facts.Rising.{find-here, find-there, rises-below, rises-map, rises-pairs}
use Rattle.nl_files.specs.Settles.{IsCurrent, AreSettlements, IsSettlement, Settlement, Settles, Settling, settled_became, settled_files, settled_inode}
use Rattle.nl_files.specs.CheckpointRoots.{IsCheckpointRoot, StandsAs, StandsFor, Stores, inode_root, roots_at}
use Rattle.nl_files.specs.Facts.Slots.{not_six, root-there}
use Rattle.nl_files.specs.Facts.Steps.{ArePut-push, births-added, steps-put}

-- ---- over more pages

stands-over : (pages more : Pages) (n : Option Inode) (held : Option Held)
    → KeepsFile pages more (inode_root n) → StandsFor pages n held → StandsFor more n held
stands-over pages more None held k stands = stands
stands-over pages more (Some n) held k stands =
    let same : page_at pages (root_of n.root) ≡ page_at more (root_of n.root) = λ j.
    λ b. sym (k.blocks b) j in
    subst (λ (blocks : Pages). StandsAs blocks n.kind n.size held) same stands

-- what a step leaves, over the pages at the end
record Left (pages : Pages) (base : Holding) (s : Settlement) : Type 0 where
  pub is_root : inode_root s.inode ≡ s.file.root
  pub sound : IsSound pages (inode_root s.inode)
  pub stands : StandsFor pages s.inode (over_became s.became (base s.file.inode))

unused-right : (content : Content) (births more : List Birth) → IsUnused content (births ++ more)
    → IsUnused content more
unused-right content births more u v c =
    u v (subst (λ (ns : List ℕ). Contains ns v) (sym (born-append births more))
    (Contains-append_right (born births) (born more) v c))

step-left : (content : Content) (roots : ℕ → Root) (base : Holding) (before final : Changes) (s : Settlement)
    (more : List Birth)
    → IsSettlement content roots base before s →
    final.births ≡ s.file.batch.births ++ more → IsUnused content final.births
    → Left (pages_after content final) base s
step-left content roots base before final s more is births unused =
    subst (λ (bs : List Birth). Left (with_births bs (pages_of content)) base s) (sym births) (record {
      is_root = is.is_root;
      sound = (keep (inode_root s.inode) is.sound).sound;
      stands =
          stands-over (pages_after content s.file.batch) later s.inode
          (over_became s.became (base s.file.inode)) (keep (inode_root s.inode) is.sound) is.stands;
    })
  where
    later : Pages
    later = with_births (s.file.batch.births ++ more) (pages_of content)

    keep : (root : Root) → IsSound (pages_after content s.file.batch) root
        → KeepsFile (pages_after content s.file.batch) later root
    keep root sound = keeps-file (pages_after content s.file.batch) later root
        (more-keep content s.file.batch.births more
        (unused-right content s.file.batch.births more
        (subst (λ (bs : List Birth). IsUnused content bs) births unused)))
        sound

-- ---- one inode of them all

-- a step of the inode is among the steps, or none is
record Has (pages : Pages) (base : Holding) (steps : List Settlement) (i : ℕ) (s : Settlement) : Type 0 where
  pub inode : i ≡ s.file.inode
  pub told : (f : ℕ → Option Inode) → inodes_with (map settled_inode steps) f i ≡ s.inode
  pub changes : find nat_cmp i (map settled_became steps) ≡ Some s.became
  pub root : (roots : ℕ → Root) → roots_after (settled_files steps) roots i ≡ s.file.root
  pub left : Left pages base s

record HasNot (steps : List Settlement) (i : ℕ) : Type 0 where
  pub told : (f : ℕ → Option Inode) → inodes_with (map settled_inode steps) f i ≡ f i
  pub changes : find nat_cmp i (map settled_became steps) ≡ None
  pub root : (roots : ℕ → Root) → roots_after (settled_files steps) roots i ≡ roots i

look : (content : Content) (roots : ℕ → Root) (base : Holding) (before final : Changes)
    (steps : List Settlement) (more : List Birth) (i : ℕ)
    → AreSettlements content roots base before steps →
    final.births ≡ (batch_after (settled_files steps) before).births ++ more → IsUnused content final.births →
    ((s : Settlement) × Has (pages_after content final) base steps i s) ⊎ HasNot steps i
look content roots base before final [] more i are births unused =
    inr (record { told = λ f. refl; changes = refl; root = λ r. refl })
look content roots base before final (s ∷ steps) more i are births unused =
    step (cases_eq i s.file.inode)
    (look content roots base s.file.batch final steps more i are.1 births unused)
  where
    added : (bs : List Birth)
        × ((batch_after (settled_files steps) s.file.batch).births ≡ s.file.batch.births ++ bs)
    added =
        births-added content roots s.file.batch (settled_files steps)
        (steps-put content roots base s.file.batch steps are.1)

    all_births : final.births ≡ s.file.batch.births ++ (added.0 ++ more)
    all_births =
        births
        ∙ (ap (λ (bs : List Birth). bs ++ more) added.1 ∙ append_assoc s.file.batch.births added.0 more)

    step : (i ≡ s.file.inode) ⊎ (i ≡ s.file.inode → ⊥)
        → ((t : Settlement) × Has (pages_after content final) base steps i t) ⊎ HasNot steps i →
        ((t : Settlement) × Has (pages_after content final) base (s ∷ steps) i t) ⊎ HasNot (s ∷ steps) i
    step (inl e) h = inl (
      s,
      record {
        inode = e;
        told = λ f.
            ap (λ (b : Bool). cond b s.inode (inodes_with (map settled_inode steps) f i))
            (eq-eqb i s.file.inode e);
        changes = find-here i (settled_became s) (map settled_became steps) e;
        root = λ r.
            ap (λ (b : Bool). cond b s.file.root (roots_after (settled_files steps) r i))
            (eq-eqb i s.file.inode e);
        left = step-left content roots base before final s (added.0 ++ more) are.0 all_births unused;
      },
    )
    step (inr n) (inl h) = inl (
      h.0,
      record {
        inode = h.1.inode;
        told = λ f.
            ap (λ (b : Bool). cond b s.inode (inodes_with (map settled_inode steps) f i))
            (ne_eqb i s.file.inode n)
            ∙ h.1.told f;
        changes = find-there i (settled_became s) (map settled_became steps) n ∙ h.1.changes;
        root = λ r.
            ap (λ (b : Bool). cond b s.file.root (roots_after (settled_files steps) r i))
            (ne_eqb i s.file.inode n)
            ∙ h.1.root r;
        left = h.1.left;
      },
    )
    step (inr n) (inr h) = inr (record {
      told = λ f.
          ap (λ (b : Bool). cond b s.inode (inodes_with (map settled_inode steps) f i))
          (ne_eqb i s.file.inode n)
          ∙ h.told f;
      changes = find-there i (settled_became s) (map settled_became steps) n ∙ h.changes;
      root = λ r.
          ap (λ (b : Bool). cond b s.file.root (roots_after (settled_files steps) r i))
          (ne_eqb i s.file.inode n)
          ∙ h.root r;
    })

-- ---- the end

-- 6 is no inode of the tree
no_six : (changes : List (ℕ × Became)) → EachMayBecome changes → find nat_cmp 6 changes ≡ None
no_six [] are = refl
no_six (e ∷ es) are = find-there 6 e es (λ is. not_six e.0 are.0 (sym is)) ∙ no_six es are.2

roots_after-append : (xs ys : List FileChange) (roots : ℕ → Root) (i : ℕ)
    → roots_after (xs ++ ys) roots i ≡ roots_after xs (roots_after ys roots) i
roots_after-append [] ys roots i = refl
roots_after-append (x ∷ xs) ys roots i =
    ap (λ (r : Root). cond (i == x.inode) x.root r) (roots_after-append xs ys roots i)

module _ (room : ℕ) (content : Content) (root new : Root) (base v : Holding) (all : List (ℕ × Became))
    (inodes : List InodeChange) (before after : Changes)
    (checkpoint : IsCheckpointRoot content root) (current : IsCurrent content root all base v)
    (rises : Rises (λ (e : ℕ × Became). e.0) 0 524288 all) (may : EachMayBecome all)
    (done : Settling content (roots_at (pages_of content) root) base no_changes before inodes [] all) where
  all_are : map settled_became done.steps ≡ all
  all_are = sym (append-nil (map settled_became done.steps)) ∙ done.all_are

  steps-rise : Rises (λ (e : ℕ × Became). e.0) 0 524288 (map settled_became done.steps)
  unfolding all_are
  steps-rise =
      subst (λ (es : List (ℕ × Became)). Rises (λ (e : ℕ × Became). e.0) 0 524288 es) (sym all_are) rises

  inodes-rise : Rises (λ (c : InodeChange). c.number) 0 524288 inodes
  inodes-rise =
      subst (λ (cs : List InodeChange). Rises (λ (c : InodeChange). c.number) 0 524288 cs)
      (sym done.inodes_are)
      (rises-map settled_became settled_inode (λ (e : ℕ × Became). e.0)
      (λ (c : InodeChange). c.number) 0 524288 done.steps (λ s. refl) steps-rise)

  pub inodes-ascend : NumbersAscend inodes
  inodes-ascend = rises-pairs (λ (c : InodeChange). c.number) 0 524288 inodes inodes-rise

  pub inodes-within : NumbersAreInRange inodes
  inodes-within = rises-below (λ (c : InodeChange). c.number) 0 524288 inodes inodes-rise

  module _ (puts : PutsInodes content root new inodes before after)
      (fits : CanBeTaken room content after) where
    final : Pages
    final = pages_after content after

    unused : IsUnused content after.births
    unused = unused_of_fits room content after fits

    births_are : after.births ≡ (batch_after (settled_files done.steps) no_changes).births ++ puts.puts.births
    births_are = puts.puts.births_are ∙ ap (λ (b : Changes). b.births ++ puts.puts.births) done.now_is

    at : (i : ℕ)
        → ((s : Settlement) × Has (pages_after content after) base done.steps i s) ⊎ HasNot done.steps i
    at i =
        look content (roots_at (pages_of content) root) base no_changes after done.steps puts.puts.births i
        done.are births_are unused

    inode_is : (i : ℕ)
        → inode_at (pages_after content after) new i
        ≡ inodes_with (map settled_inode done.steps) (inode_at (pages_of content) root) i
    inode_is i =
        puts.inodes i
        ∙ ap (λ (cs : List InodeChange). inodes_with cs (inode_at (pages_of content) root) i) done.inodes_are

    held_is : (i : ℕ) (o : Option Became) → find nat_cmp i (map settled_became done.steps) ≡ o
        → v i ≡ over_if_became o (base i)
    held_is i o e =
        ap (λ (w : Holding). w i) current.holds
        ∙ ap (λ (x : Option Became). over_if_became x (base i)) (ap (find nat_cmp i) (sym all_are) ∙ e)

    stores : Stores (pages_after content after) new v
    stores i = elim (at i) [
      | inl h ↦
          let s = h.0 in
          let has = h.1 in
          let inode : inode_at (pages_after content after) new i ≡ s.inode =
          inode_is i ∙ has.told (inode_at (pages_of content) root) in
          let held : v i ≡ over_became s.became (base s.file.inode) =
          held_is i (Some s.became) has.changes
          ∙ ap (λ (k : ℕ). over_became s.became (base k)) has.inode in
          subst (λ (n : Option Inode). StandsFor (pages_after content after) n (v i)) (sym inode)
          (subst (λ (x : Option Held). StandsFor (pages_after content after) s.inode x)
          (sym held) has.left.stands)
      | inr has ↦
          let inode : inode_at (pages_after content after) new i ≡ inode_at (pages_of content) root i =
          inode_is i ∙ has.told (inode_at (pages_of content) root) in
          let held : v i ≡ base i = held_is i None has.changes in
          subst (λ (n : Option Inode). StandsFor (pages_after content after) n (v i)) (sym inode)
          (subst (λ (x : Option Held).
          StandsFor (pages_after content after) (inode_at (pages_of content) root i) x)
          (sym held)
          (stands-over (pages_of content) (pages_after content after) (inode_at (pages_of content) root i)
          (base i)
          (keeps-file (pages_of content) (pages_after content after)
          (inode_root (inode_at (pages_of content) root i)) (births-keep content after.births unused)
          (checkpoint.each i).sound)
          (current.base_is i)))
    ]

    inode_file : FileChange
    inode_file = record { inode = 6; changes = puts.blocks; root = new; batch = after }

    with_inode_file : (i : ℕ) → (i ≡ 6 → ⊥)
        → roots_after (inode_file ∷ []) (roots_at (pages_of content) root) i
        ≡ inode_root (inode_at (pages_of content) root i)
    unfolding inode_file
    with_inode_file i n =
        ap (λ (b : Bool). cond b new (roots_at (pages_of content) root i)) (ne_eqb i 6 n)
        ∙ root-there content root i n

    of_inode_file : roots_after (inode_file ∷ []) (roots_at (pages_of content) root) 6 ≡ new
    unfolding inode_file
    of_inode_file = refl

    new-there : (i : ℕ) → (i ≡ 6 → ⊥)
        → roots_at (pages_after content after) new i ≡ inode_root (inode_at (pages_after content after) new i)
    new-there i n =
        ap (λ (b : Bool). cond b new (inode_root (inode_at (pages_after content after) new i))) (ne_eqb i 6 n)

    new-six : (i : ℕ) → i ≡ 6 → roots_at (pages_after content after) new i ≡ new
    new-six i e =
        ap (λ (b : Bool). cond b new (inode_root (inode_at (pages_after content after) new i))) (eq-eqb i 6 e)

    six-none : (i : ℕ) → i ≡ 6 → find nat_cmp i (map settled_became done.steps) ≡ None
    six-none i e =
        ap (λ (k : ℕ). find nat_cmp k (map settled_became done.steps)) e
        ∙ (ap (find nat_cmp 6) all_are ∙ no_six all may)

    last : ℕ → Root
    last = roots_after (inode_file ∷ []) (roots_at (pages_of content) root)

    roots : (i : ℕ)
        → roots_after (settled_files done.steps ++ inode_file ∷ []) (roots_at (pages_of content) root) i
        ≡ roots_at (pages_after content after) new i
    unfolding last
    roots i = by (cases_eq i 6) (at i)
      where
        split : roots_after (settled_files done.steps ++ inode_file ∷ []) (roots_at (pages_of content) root) i
            ≡ roots_after (settled_files done.steps) last i
        split =
            roots_after-append (settled_files done.steps) (inode_file ∷ [])
            (roots_at (pages_of content) root) i

        by : (i ≡ 6) ⊎ (i ≡ 6 → ⊥)
            → ((s : Settlement) × Has (pages_after content after) base done.steps i s) ⊎ HasNot done.steps i →
            roots_after (settled_files done.steps ++ inode_file ∷ []) (roots_at (pages_of content) root) i
            ≡ roots_at (pages_after content after) new i
        by (inl six) (inl h) =
            absurd (let no : None ≡ Some h.0.became = sym (six-none i six) ∙ h.1.changes in cc)
        by (inl six) (inr h) = split ∙ (h.root last ∙ (ap last six ∙ (of_inode_file ∙ sym (new-six i six))))
        by (inr n) (inl h) =
            let inode : inode_at (pages_after content after) new i ≡ h.0.inode =
            inode_is i ∙ h.1.told (inode_at (pages_of content) root) in
            split ∙ (h.1.root last ∙ (sym h.1.left.is_root ∙ sym (new-there i n ∙ ap inode_root inode)))
        by (inr n) (inr h) =
            let inode : inode_at (pages_after content after) new i ≡ inode_at (pages_of content) root i =
            inode_is i ∙ h.told (inode_at (pages_of content) root) in
            split ∙ (h.root last ∙ (with_inode_file i n ∙ sym (new-there i n ∙ ap inode_root inode)))

    old-file : (i : ℕ)
        → KeepsFile (pages_of content) (pages_after content after)
        (inode_root (inode_at (pages_of content) root i))
    old-file i =
        keeps-file (pages_of content) (pages_after content after)
        (inode_root (inode_at (pages_of content) root i)) (births-keep content after.births unused)
        (checkpoint.each i).sound

    each-sound : (i : ℕ)
        → IsSound (pages_after content after) (inode_root (inode_at (pages_after content after) new i))
    each-sound i = elim (at i) [
      | inl h ↦
          subst (λ (n : Option Inode). IsSound (pages_after content after) (inode_root n))
          (sym (inode_is i ∙ h.1.told (inode_at (pages_of content) root))) h.1.left.sound
      | inr h ↦
          subst (λ (n : Option Inode). IsSound (pages_after content after) (inode_root n))
          (sym (inode_is i ∙ h.told (inode_at (pages_of content) root))) (old-file i).sound
    ]

    absent : (k low : ℕ) (steps : List Settlement) → k < low
        → Rises (λ (e : ℕ × Became). e.0) low 524288 (map settled_became steps) → (k ≡ 6 → ⊥)
        → is_one_of (inodes_of (settled_files steps ++ inode_file ∷ [])) k ≡ false
    unfolding inode_file
    absent k low [] l r n = ap (λ b. b || false) (ne_eqb k 6 n)
    absent k low (s ∷ steps) l r n =
        ap (λ b. b || is_one_of (inodes_of (settled_files steps ++ inode_file ∷ [])) k)
        (ne_eqb k s.file.inode (λ e. let a = r.0 in omega (arith, a, l, e)))
        ∙ absent k (s.file.inode + 1) steps (let a = r.0 in omega (arith, a, l)) r.2 n

    once : (low : ℕ) (steps : List Settlement)
        → Rises (λ (e : ℕ × Became). e.0) low 524288 (map settled_became steps)
        → EachMayBecome (map settled_became steps)
        → NoneTwice (inodes_of (settled_files steps ++ inode_file ∷ []))
    unfolding inode_file
    once low [] r are = (refl, tt)
    once low (s ∷ steps) r are = (
      absent s.file.inode (s.file.inode + 1) steps (omega arith) r.2 (not_six s.file.inode are.0),
      once (s.file.inode + 1) steps r.2 are.2,
    )

    inodes-files : (steps : List Settlement)
        → inodes_of (settled_files steps) ≡ map (λ (e : ℕ × Became). e.0) (map settled_became steps)
    inodes-files [] = refl
    inodes-files (s ∷ steps) = ap (λ (ns : List ℕ). s.file.inode ∷ ns) (inodes-files steps)

    -- the files ascend, and the file of inodes comes last
    later : (low : ℕ) (steps : List Settlement)
        → Rises (λ (e : ℕ × Became). e.0) low 524288 (map settled_became steps) →
        (k d : ℕ) → k < length (inodes_of (settled_files steps ++ inode_file ∷ [])) →
        (get_or (inodes_of (settled_files steps ++ inode_file ∷ [])) k d ≡ 6)
        ⊎ (low ≤ get_or (inodes_of (settled_files steps ++ inode_file ∷ [])) k d)
    unfolding inode_file
    later low [] r zero d l = inl refl
    later low [] r (suc k) d l = absurd (omega arith)
    later low (s ∷ steps) r zero d l = inr r.0
    later low (s ∷ steps) r (suc k) d l = further (later (s.file.inode + 1) steps r.2 k d (omega arith))
      where
        further : (get_or (inodes_of (settled_files steps ++ inode_file ∷ [])) k d ≡ 6)
            ⊎ (s.file.inode + 1 ≤ get_or (inodes_of (settled_files steps ++ inode_file ∷ [])) k d)
            →
            (get_or (inodes_of (settled_files steps ++ inode_file ∷ [])) k d ≡ 6)
            ⊎ (low ≤ get_or (inodes_of (settled_files steps ++ inode_file ∷ [])) k d)
        further (inl e) = inl e
        further (inr m) = inr (omega (arith, m, r.0))

    in_order : (low : ℕ) (steps : List Settlement)
        → Rises (λ (e : ℕ × Became). e.0) low 524288 (map settled_became steps) →
        EachMayBecome (map settled_became steps)
        → AllPairs (ComesBefore 6) (inodes_of (settled_files steps ++ inode_file ∷ []))
    unfolding inode_file
    in_order low [] r are i zero d lt l = absurd (omega arith)
    in_order low [] r are i (suc j) d lt l = absurd (omega arith)
    in_order low (s ∷ steps) r are i zero d lt l = absurd (omega arith)
    in_order low (s ∷ steps) r are (suc i) (suc j) d lt l =
        in_order (s.file.inode + 1) steps r.2 are.2 i j d (omega arith) (omega arith)
    in_order low (s ∷ steps) r are zero (suc j) d lt l =
        (not_six s.file.inode are.0, further (later (s.file.inode + 1) steps r.2 j d (omega arith)))
      where
        further : (get_or (inodes_of (settled_files steps ++ inode_file ∷ [])) j d ≡ 6)
            ⊎ (s.file.inode + 1 ≤ get_or (inodes_of (settled_files steps ++ inode_file ∷ [])) j d)
            →
            (get_or (inodes_of (settled_files steps ++ inode_file ∷ [])) j d ≡ 6)
            ⊎ (s.file.inode < get_or (inodes_of (settled_files steps ++ inode_file ∷ [])) j d)
        further (inl e) = inl e
        further (inr m) = inr (omega (arith, m))

    each : EachMayBecome (map settled_became done.steps)
    each = subst (λ (es : List (ℕ × Became)). EachMayBecome es) (sym all_are) may

    pub settles : Settles content root new all v after
    unfolding inode_file
    settles = record {
      files = settled_files done.steps;
      inode_file = inode_file;
      is_inode_file = refl;
      in_order = in_order 0 done.steps steps-rise each;
      became_are = inodes-files done.steps ∙ ap (map (λ (e : ℕ × Became). e.0)) all_are;
      put =
          ArePut-push content (roots_at (pages_of content) root) no_changes
          (settled_files done.steps) inode_file
          (steps-put content (roots_at (pages_of content) root) base no_changes done.steps done.are)
          (subst (λ (b : Changes). PutsAll content 6 root new puts.blocks b after) done.now_is puts.puts);
      batch_is = refl;
      root_is = refl;
      once = once 0 done.steps steps-rise each;
      roots = roots;
      sound = record { inode_file = puts.puts.sound; inodes = puts.file; each = each-sound };
      stores = stores;
    }
