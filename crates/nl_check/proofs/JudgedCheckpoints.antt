-- What is judged of each checkpoint, and of all.
use Rattle.std.proofs.Common.{◌≡◌, ℕ, zero, suc, ◌+◌, ◌*◌, ◌/◌, ◌<◌, ◌≤◌, Bool, IsTrue, true, false, cond, List, [], ◌∷◌, length, Option, Some, None, refl, ap, sym, subst, ◌∙◌, inl, inr, arith}
use Rattle.std.specs.Prelude.{map}
use Rattle.std.specs.List.{All, slice_get}
use Rattle.std.specs.Option.{is_some, option_and_then, option_map}
use Rattle.std.proofs.lemmas.Bool.{cases_Bool, cases_lt}
use Rattle.std.proofs.lemmas.List.{get_or_past}
use Rattle.std.proofs.lemmas.List.Elements.{All-cons, All-head, All-nil, All-tail}
use Rattle.nl_types.specs.declared.kind.Kind.{Kind}
use Rattle.nl_types.specs.Inodes.{Inodes}
use Rattle.nl_types.specs.Blocks.Roots.{Pages, Root, page_at, place_at}
use Rattle.nl_layout.specs.Root.{root_of, root_told}
use Rattle.nl_layout.specs.declared.checkpoint_entry.CheckpointEntry.{CheckpointEntry}
use Rattle.nl_layout.specs.declared.inode.Inode.{Inode}
use Rattle.nl_layout.specs.declared.inode.InodeKind.{InodeKind}
use Rattle.nl_layout.specs.declared.inode.InodeKind.TheVariants.{File, Directory, InodeFile}
use Rattle.nl_layout.specs.declared.root.Root.{Root as CodeRoot}
use Rattle.nl_layout.specs.declared.root.RootFields.{RootFields}
use Rattle.nl_vstore.specs.Periods.{Periods}
use Rattle.nl_files.specs.CheckpointRoots.{StandsAs, StandsFor, Stores}
use Rattle.nl_files.specs.CheckpointTrees.{HoldsTree}
use Rattle.nl_ifile.specs.Inodes.{inode_at}
use Rattle.nl_tree.specs.Held.{Held, Holding, IsHolding, inode_content, inodes_of_holding}
use Rattle.nl_check.specs.Conditions.{AreExact, AreShaped, AreTrees, FirstFault, HasExactPeriods, IsSoundShape, IsSoundTree, MeetsItsNumbers, Told, all_met, periods_fail, shapes_fail, trees_fail}
use Rattle.nl_check.specs.InodeTrees.{FormTree, used_below}
use Rattle.nl_check.specs.ImageConditions.{number_of}
use Rattle.nl_check.specs.declared.conditions.ImageCondition.TheVariants as condition
use Rattle.nl_check.specs.Judging.{IsAlike, IsJudged, IsLast, TellsTree, fault_told, told}
use Rattle.nl_check.specs.Private.Naming.{HasKindsOf, TellsKinds, awaited_count, kind_held}
use Rattle.nl_check.specs.Periods.{AreOfPeriods}
use Rattle.nl_check.specs.Shapes.{Itself}
use Rattle.nl_blocktree.specs.FileShapes.{HasShape, IsSizeOf}
use Rattle.nl_check.specs.Private.SoundInodes.{TellsAll, kind_for, kind_in, kind_told}
use Rattle.nl_check.specs.Trees.{IsTreeOf}
use Rattle.nl_check.specs.Private.Walks.{AreSoundAt, IsGood, IsMetWholeAt, IsWalk}
use Rattle.nl_check.specs.Verdicts.{IsVerdict}
use Rattle.nl_check.specs.Verdicts as verdicts
use Rattle.nl_check.specs.declared.checks.Judged.{Judged}
use Rattle.nl_check.specs.declared.checks.Verdict.{Verdict}
use Rattle.nl_check.specs.declared.shape.Walk.{Walk}
use Rattle.nl_check.specs.Facts.Below.{both, not-none, some-by}
use Rattle.nl_check.proofs.MetNumbers.{tell-periods}
use Rattle.nl_check.proofs.WalkedFiles.{none-in}

-- ---- how many are in use

used-first : (inodes : Inodes) (n : ℕ)
    → used_below inodes (suc n) ≡ cond (is_some (inodes 0)) 1 0 + used_below (λ i. inodes (suc i)) n
used-first inodes zero = refl
used-first inodes (suc n) = let rest = used-first inodes n in omega (arith, rest)

count-used : (kinds : List (Option Kind)) (inodes : Inodes)
    → ((i : ℕ) → i < length kinds → is_some (kind_in kinds i) ≡ is_some (inodes i))
    → awaited_count kinds ≡ used_below inodes (length kinds)
count-used [] inodes same = refl
count-used (k ∷ kinds) inodes same =
    let rest = count-used kinds (λ i. inodes (suc i)) (λ i low. same (suc i) (omega (arith, low))) in
    let first : ◌≡◌ {A = ℕ} (cond (is_some k) 1 0) (cond (is_some (inodes 0)) 1 0) =
    ap (λ (b : Bool). cond b 1 0) (same 0 (omega arith)) in
    let all = used-first inodes (length kinds) in
    omega (arith, rest, first, all)

-- where none from a number on is
used-past : (inodes : Inodes) (n k : ℕ) → n ≤ k → ((i : ℕ) → n ≤ i → i < k → is_some (inodes i) ≡ false)
    → used_below inodes k ≡ used_below inodes n
used-past inodes n zero le none = let e : ◌≡◌ {A = ℕ} 0 n = omega (arith, le) in ap (used_below inodes) e
used-past inodes n (suc k) le none = elim (cases_lt k n) [
  | inl less ↦ (let e : suc k ≡ n = omega (arith, le, less) in ap (used_below inodes) e)
  | inr high ↦ (let rest = used-past inodes n k high (λ i low less. none i low (omega (arith, less))) in
      let not_here : ◌≡◌ {A = ℕ} (cond (is_some (inodes k)) 1 0) 0 =
      ap (λ (b : Bool). cond b 1 0) (none k high (omega arith)) in
      omega (arith, rest, not_here))
]

-- ---- a file's size is one

not-less : (pages : Pages) (root : Root) (a b : ℕ) → HasShape pages root → (s : IsSizeOf pages root a)
    → (t : IsSizeOf pages root b) → s.count < t.count → ⊥
not-less pages root a b shape s t less = elim t.last [
  | inl none ↦ omega (arith, none, less)
  | inr (i, is, has) ↦ (let v = some-by (place_at pages root 0 i) has in
      let p = some-by (pages v.0) (shape.stored 0 i v.0 v.1) in
      not-none (page_at pages root i) p.0 (s.none_past i (omega (arith, is, less)))
      (ap (option_and_then pages) v.1 ∙ p.1))
]

one-size : (pages : Pages) (root : Root) (a b : ℕ) → HasShape pages root → IsSizeOf pages root a
    → IsSizeOf pages root b → a ≡ b
one-size pages root a b shape s t = elim (cases_lt s.count t.count) [
  | inl less ↦ absurd (not-less pages root a b shape s t less)
  | inr high ↦ elim (cases_lt t.count s.count) [
    | inl less ↦ absurd (not-less pages root b a shape t s less)
    | inr same ↦ (let x = s.is in let y = t.is in omega (arith, high, same, x, y))
  ]
]

-- ---- the tree of a checkpoint

stands-kind : (pages : Pages) (o : Option Inode) (held : Option Held) → StandsFor pages o held
    → kind_told o ≡ kind_held held
stands-kind pages None held is = sym (ap kind_held is)
stands-kind pages (Some inode) held is = by inode.kind refl is
  where
    by : (k : InodeKind) → inode.kind ≡ k → StandsAs (page_at pages (root_of inode.root)) k inode.size held
        → kind_told (Some inode) ≡ kind_held held
    by File e s = ap kind_for e ∙ sym (ap kind_held s)
    by Directory e (records, holds, s) = ap kind_for e ∙ sym (ap kind_held s)
    by InodeFile e s = absurd s

module _ (pages : Pages) (root : Root) (numbers : List Bool) (kinds : List (Option Kind)) (walk : Walk)
    (w : IsWalk pages root numbers kinds walk) where
  kinds-held : (held : Holding) → Stores pages root held → (i : ℕ) → i < 524288
      → kind_in kinds i ≡ kind_held (held i)
  kinds-held held stores i low =
      w.told.told i low ∙ stands-kind pages (inode_at pages root i) (held i) (stores i)

  -- no block behind the last one has inodes
  none-held : (held : Holding) → Stores pages root held → (i : ℕ) → 8 * walk.count ≤ i
      → kind_held (held i) ≡ None
  none-held held stores i past =
      sym (stands-kind pages (inode_at pages root i) (held i) (stores i))
      ∙ ap kind_told
      (none-in pages root (i / 8) i
      (w.sized.none_past (i / 8) (let same = w.sized.is in omega (arith, past, same))) refl)

  pub tells-kinds : (held : Holding) → Stores pages root held → (part : List (Option Kind))
      → HasKindsOf walk.count kinds part → TellsKinds held part
  tells-kinds held stores part of = record {
    few = let c = w.told.count in let f = of.few in omega (arith, c, f);
    told = λ i low. elim (of.each i) [
      | inl same ↦ same ∙ kinds-held held stores i low
      | inr (past, none) ↦ none ∙ sym (none-held held stores i past)
    ];
  }

  counted : (held : Holding) → Stores pages root held → (part : List (Option Kind))
      → HasKindsOf walk.count kinds part → awaited_count part ≡ used_below (inodes_of_holding held) 524288
  counted held stores part of =
      let few = (tells-kinds held stores part of).few in
      count-used part (inodes_of_holding held) (λ i low. same i (omega (arith, low, few)))
      ∙ sym (used-past (inodes_of_holding held) (length part) 524288 few
      (λ i past low. sym (same i low) ∙ ap is_some (get_or_past part i None past)))
    where
      some-held : (o : Option Held) → is_some (kind_held o) ≡ is_some (option_map inode_content o)
      some-held None = refl
      some-held (Some x) = refl

      same : (i : ℕ) → i < 524288 → is_some (kind_in part i) ≡ is_some (inodes_of_holding held i)
      same i low = ap is_some ((tells-kinds held stores part of).told i low) ∙ some-held (held i)

  module _ (sound : walk.sound ≡ true) where
    pub holding-of : Holding
    holding-of i = (w.told.all sound i).holding i

    pub stores-of : Stores pages root holding-of
    unfolding holding-of
    stores-of i = (w.told.all sound i).stands

    pub limits-of : IsHolding holding-of
    unfolding holding-of
    limits-of = record {
      inode_numbers = λ i held is. (w.told.all sound i).limits.inode_numbers i held is;
      each = λ i held is. (w.told.all sound i).limits.each i held is;
    }

    pub holds-of : HoldsTree pages root holding-of
    holds-of = record { stores = stores-of; sound = limits-of }

  -- the tree that is told, and formed
  pub tree-of : (entry : CheckpointEntry) (part : List (Option Kind)) → HasKindsOf walk.count kinds part
      → (t : TellsTree part walk entry)
      → FormTree (inodes_of_holding (holding-of t.sound)) → IsTreeOf pages root entry.size entry.inodes
  tree-of entry part of t forms = record {
    holding = holding-of t.sound;
    stores = stores-of t.sound;
    limits = limits-of t.sound;
    forms = forms;
    counted = t.inodes ∙ counted (holding-of t.sound) (stores-of t.sound) part of;
    sized = subst (IsSizeOf pages root) (sym t.size) w.sized;
  }

  -- the inodes of a tree are sound
  pub sound-told : (size inodes : ℕ) → IsTreeOf pages root size inodes → walk.sound ≡ true
  sound-told size inodes t = by walk.sound refl
    where
      by : (b : Bool) → walk.sound ≡ b → walk.sound ≡ true
      by true e = e
      by false e =
          let u = w.told.some_not e in
          absurd (u.1 (record { holding = t.holding; stands = t.stores u.0; limits = t.limits }))

  -- what is a tree is told
  pub tree-told : (entry : CheckpointEntry) (part : List (Option Kind)) → HasKindsOf walk.count kinds part
      → IsTreeOf pages root entry.size entry.inodes → TellsTree part walk entry
  tree-told entry part of t = record {
    sound = sound-told entry.size entry.inodes t;
    size = one-size pages root entry.size (1024 * walk.count) (w.known.shaped.files Itself) t.sized w.sized;
    inodes = t.counted ∙ sym (counted t.holding t.stores part of);
  }

  pub tree-holds : (size inodes : ℕ) (t : IsTreeOf pages root size inodes) → HoldsTree pages root t.holding
  tree-holds size inodes t = record { stores = t.stores; sound = t.limits }

-- ---- one checkpoint

module _ (pages : Pages) (entry : CheckpointEntry) (root : CodeRoot)
    (root_is : Some root ≡ root_told entry.root) where
  told-root : (told entry).root ≡ Some (root_of root)
  told-root = ap (option_map root_of) (sym root_is)

  pub met-whole : (numbers : List Bool) (kinds : List (Option Kind)) (walk : Walk)
      → IsWalk pages (root_of root) numbers kinds walk → IsMetWholeAt pages (told entry) numbers
  met-whole numbers kinds walk w = (root_of root, told-root, w.known)

  pub sound-at : (numbers : List Bool) (kinds : List (Option Kind)) (walk : Walk)
      → IsWalk pages (root_of root) numbers kinds walk
      → IsTreeOf pages (root_of root) entry.size entry.inodes → AreSoundAt pages (told entry) kinds
  sound-at numbers kinds walk w t = (
    root_of root,
    told-root,
    subst (TellsAll pages (root_of root) kinds)
        (sound-told pages (root_of root) numbers kinds walk w entry.size entry.inodes t) w.told,
  )

  pub sound-tree : IsTreeOf pages (root_of root) entry.size entry.inodes → IsSoundTree pages (told entry)
  sound-tree t = (root_of root, told-root, t)

  pub tree-there : IsSoundTree pages (told entry) → IsTreeOf pages (root_of root) entry.size entry.inodes
  tree-there (r, is, t) =
      let one : Some r ≡ Some (root_of root) = sym is ∙ told-root in
      let same : r ≡ root_of root = cc in
      subst (λ (x : Root). IsTreeOf pages x entry.size entry.inodes) same t

-- what is judged of it, where it is met
module _ (pages : Pages) (periods : Periods) (entry : CheckpointEntry) (numbers : List Bool)
    (before now : Judged) (known : IsMetWholeAt pages (told entry) numbers)
    (holds : now.trees ≡ true → (before.trees ≡ true) × IsSoundTree pages (told entry))
    (are : now.periods ≡ true → (before.periods ≡ true) × AreOfPeriods periods entry.number numbers) where
  exact-here : AreOfPeriods periods entry.number numbers → HasExactPeriods pages periods (told entry)
  exact-here of = (
    known.0,
    known.1,
    tell-periods.yes pages periods entry.number known.0 numbers known.2.met_in of,
  )

  of-periods-here : HasExactPeriods pages periods (told entry) → AreOfPeriods periods entry.number numbers
  of-periods-here (r, is, meets) =
      let one : Some r ≡ Some known.0 = sym is ∙ known.1 in
      let same : r ≡ known.0 = cc in
      tell-periods.no pages periods entry.number known.0 numbers known.2.met_in
      (subst (MeetsItsNumbers pages periods entry.number) same meets)

  pub judged : (now.trees ≡ false → before.trees ≡ true → IsSoundTree pages (told entry) → ⊥)
      → ((before.periods ≡ true) × AreOfPeriods periods entry.number numbers → now.periods ≡ true)
      → IsJudged pages periods (told entry) before now
  judged unless of = record {
    shape = (known.0, known.1, known.2.shaped);
    trees = holds;
    no_tree = unless;
    exact = λ e. let a = are e in (a.0, exact-here a.1);
    not_exact = λ e was exact. both now.periods (of (was, of-periods-here exact)) e;
  }

  pub last-judged : (kinds : List (Option Kind)) → (now.trees ≡ true → AreSoundAt pages (told entry) kinds)
      → IsLast pages periods numbers kinds now (record { entry = entry })
  last-judged kinds sound =
      record {
        good = record { known = known; sound = sound; tree = λ e. (holds e).1 };
        exact = λ e. (are e).1;
      }

-- ---- a checkpoint with the file of inodes of the last one

module _ (pages : Pages) (one other : CheckpointEntry) (alike : IsAlike one other) where
  one-root : (told one).root ≡ (told other).root
  one-root = ap (λ (fields : RootFields). option_map root_of (root_told fields)) alike.root

  pub good-alike : (numbers : List Bool) (kinds : List (Option Kind)) (asked : Bool)
      → IsGood pages (told one) numbers kinds asked → IsGood pages (told other) numbers kinds asked
  good-alike numbers kinds asked g = record {
    known = (g.known.0, sym one-root ∙ g.known.1, g.known.2);
    sound = λ is. let s = g.sound is in (s.0, sym one-root ∙ s.1, s.2);
    tree = λ is. tree-alike (g.tree is);
  }
    where
      tree-alike : IsSoundTree pages (told one) → IsSoundTree pages (told other)
      tree-alike (root, is, t) = (
        root,
        sym one-root ∙ is,
        subst (λ (n : ℕ). IsTreeOf pages root other.size n) alike.inodes
            (subst (λ (n : ℕ). IsTreeOf pages root n one.inodes) alike.size t),
      )

-- ---- all of them

all-from : {A B : Type 0} (P : B → Type 0) (f : A → B) (xs : List A)
    → ((k : ℕ) (x : A) → slice_get xs k ≡ Some x → P (f x)) → All P (map f xs)
all-from P f [] h = All-nil P
all-from P f (x ∷ xs) h =
    All-cons P (f x) (map f xs) (h 0 x refl) (all-from P f xs (λ k y at. h (suc k) y at))

all-at : {A B : Type 0} (P : B → Type 0) (f : A → B) (xs : List A) (k : ℕ) (x : A) → All P (map f xs)
    → slice_get xs k ≡ Some x → P (f x)
all-at P f [] k x h at = cc
all-at {A} {B} P f (y ∷ xs) zero x h at =
    let e : y ≡ x = cc in subst (λ (z : A). P (f z)) e (All-head P (f y) (map f xs) h)
all-at P f (y ∷ xs) (suc k) x h at = all-at P f xs k x (All-tail P (f y) (map f xs) h) at

-- the checkpoints so far have their shape, and it is known whether all of them meet the other conditions
pub record AreJudged (pages : Pages) (periods : Periods) (kept : List CheckpointEntry) (n : ℕ)
    (trees exact : Bool) : Type 0 where
  pub shapes : (k : ℕ) (e : CheckpointEntry) → k < n → slice_get kept k ≡ Some e → IsSoundShape pages (told e)
  pub all_trees : trees ≡ true → (k : ℕ) (e : CheckpointEntry) → k < n → slice_get kept k ≡ Some e
      → IsSoundTree pages (told e)
  pub no_tree : trees ≡ false → AreTrees pages (map told kept) → ⊥
  pub all_exact : exact ≡ true → (k : ℕ) (e : CheckpointEntry) → k < n → slice_get kept k ≡ Some e
      → HasExactPeriods pages periods (told e)
  pub not_exact : exact ≡ false → AreExact pages periods (map told kept) → ⊥

module _ (pages : Pages) (periods : Periods) (kept : List CheckpointEntry) where
  pub judged-none : AreJudged pages periods kept 0 true true
  judged-none = record {
    shapes = λ k e low at. absurd (omega (arith, low));
    all_trees = λ t k e low at. absurd (omega (arith, low));
    no_tree = λ f all. cc;
    all_exact = λ t k e low at. absurd (omega (arith, low));
    not_exact = λ f all. cc;
  }

  pub judged-more : (n : ℕ) (entry : CheckpointEntry) (before now : Judged)
      → AreJudged pages periods kept n before.trees before.periods → slice_get kept n ≡ Some entry
      → IsJudged pages periods (told entry) before now
      → AreJudged pages periods kept (n + 1) now.trees now.periods
  judged-more n entry before now so_far here is = record {
    shapes = λ k e low at. elim (cases_lt k n) [
      | inl less ↦ so_far.shapes k e less at
      | inr high ↦
          subst (λ (x : CheckpointEntry). IsSoundShape pages (told x)) (same k e low high at) is.shape
    ];
    all_trees = λ t k e low at.
        let b = is.trees t in
        elim (cases_lt k n) [
          | inl less ↦ so_far.all_trees b.0 k e less at
          | inr high ↦
              subst (λ (x : CheckpointEntry). IsSoundTree pages (told x)) (same k e low high at) b.1
        ];
    no_tree = λ f all. elim (cases_Bool before.trees) [
      | inl held ↦ is.no_tree f held (all-at (IsSoundTree pages) told kept n entry all here)
      | inr failed ↦ so_far.no_tree failed all
    ];
    all_exact = λ t k e low at.
        let b = is.exact t in
        elim (cases_lt k n) [
          | inl less ↦ so_far.all_exact b.0 k e less at
          | inr high ↦
              subst (λ (x : CheckpointEntry). HasExactPeriods pages periods (told x)) (same k e low high at)
              b.1
        ];
    not_exact = λ f all. elim (cases_Bool before.periods) [
      | inl held ↦ is.not_exact f held (all-at (HasExactPeriods pages periods) told kept n entry all here)
      | inr failed ↦ so_far.not_exact failed all
    ];
  }
    where
      same : (k : ℕ) (e : CheckpointEntry) → k < n + 1 → n ≤ k → slice_get kept k ≡ Some e → entry ≡ e
      same k e low high at =
          let now : n ≡ k = omega (arith, low, high) in
          let both : Some entry ≡ Some e = sym here ∙ (ap (slice_get kept) now ∙ at) in cc

  -- a shape that fails
  pub shape-fails : (n : ℕ) (entry : CheckpointEntry) → slice_get kept n ≡ Some entry
      → (IsSoundShape pages (told entry) → ⊥) → IsVerdict pages periods (map told kept) None
  shape-fails n entry here never =
      verdicts.shapes_fail (λ all. never (all-at (IsSoundShape pages) told kept n entry all here))

  -- all are judged
  pub judged-all : (n : ℕ) (verdict : Verdict) → length kept ≤ n
      → AreJudged pages periods kept n verdict.trees verdict.periods
      → IsVerdict pages periods (map told kept) (Some verdict)
  judged-all n verdict past j =
      verdicts.shaped verdict shaped (are_trees, trees_hold) (are_exact, exact_hold)
    where
      inside : (k : ℕ) (e : CheckpointEntry) → slice_get kept k ≡ Some e → k < n
      inside k e at = let low = within kept k e at in omega (arith, low, past)
        where
          within : (xs : List CheckpointEntry) (k : ℕ) (e : CheckpointEntry) → slice_get xs k ≡ Some e
              → k < length xs
          within [] k e at = cc
          within (x ∷ xs) zero e at = omega arith
          within (x ∷ xs) (suc k) e at = let low = within xs k e at in omega (arith, low)

      shaped : AreShaped pages (map told kept)
      shaped = all-from (IsSoundShape pages) told kept (λ k e at. j.shapes k e (inside k e at) at)

      are_trees : IsTrue verdict.trees → AreTrees pages (map told kept)
      are_trees t = all-from (IsSoundTree pages) told kept (λ k e at. j.all_trees t k e (inside k e at) at)

      are_exact : IsTrue verdict.periods → AreExact pages periods (map told kept)
      are_exact t =
          all-from (HasExactPeriods pages periods) told kept (λ k e at. j.all_exact t k e (inside k e at) at)

      trees_hold : AreTrees pages (map told kept) → IsTrue verdict.trees
      trees_hold all = elim (cases_Bool verdict.trees) [ inl held ↦ held | inr failed ↦ absurd (j.no_tree failed all) ]

      exact_hold : AreExact pages periods (map told kept) → IsTrue verdict.periods
      exact_hold all =
          elim (cases_Bool verdict.periods) [ inl held ↦ held | inr failed ↦ absurd (j.not_exact failed all) ]

-- the first condition that fails
module _ (pages : Pages) (periods : Periods) (kept : List Told) where
  pub first_of : (found : Option Verdict) → IsVerdict pages periods kept found
      → FirstFault pages periods kept (option_map number_of (fault_told found))
  first_of None (verdicts.shapes_fail never) = shapes_fail never
  first_of (Some verdict) (verdicts.shaped v shaped trees exact) = by v.trees v.periods refl refl
    where
      false_not_true : false ≡ true → ⊥
      false_not_true e = cc

      by : (a b : Bool) → v.trees ≡ a → v.periods ≡ b
          → FirstFault pages periods kept (option_map number_of (cond a (cond b None (Some condition.Periods)) (Some condition.Trees)))
      by false b p q = trees_fail shaped (λ all. false_not_true (sym p ∙ trees.1 all))
      by true false p q = periods_fail shaped (trees.0 p) (λ all. false_not_true (sym q ∙ exact.1 all))
      by true true p q = all_met shaped (trees.0 p) (exact.0 q)
