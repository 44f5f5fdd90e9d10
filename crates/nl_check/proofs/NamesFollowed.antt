-- Names of a tree that are followed one after another.
use Rattle.std.proofs.Common.{get_or-set_other, get_or-set_same, length-append, ◌≡◌, ◌≢◌, ◌⊎◌, ℕ, zero, suc, ◌+◌, ◌<◌, ◌≤◌, cond, List, [], ◌∷◌, ◌++◌, length, Option, Some, None, refl, ap, sym, subst, ◌∙◌, inl, inr, arith}
use Rattle.std.specs.List.{slice_get}
use Rattle.std.specs.Option.{is_some, option_map}
use Rattle.std.proofs.lemmas.Bool.{cases_eq, cases_lt}
use Rattle.std.proofs.lemmas.Option.{slice_get_within}
use Rattle.std.proofs.Math.ListN.{length-set, set}
use Rattle.nl_types.specs.declared.kind.Kind.{Kind}
use Rattle.nl_types.specs.declared.kind.Kind.TheVariants as kind
use Rattle.nl_types.specs.Inodes.{Records, object_of, reached}
use Rattle.nl_types.specs.Plain.Trees.{object_kind}
use Rattle.nl_types.specs.Plain.Paths.{Path}
use Rattle.nl_dirs.specs.declared.record.Record.{Record}
use Rattle.nl_dirs.specs.Records.{entry_of}
use Rattle.nl_tree.specs.Held.{Held, Holding, IsHolding, Listed, Stored, inode_content, inodes_of_holding}
use Rattle.nl_check.specs.InodeTrees.{FormTree}
use Rattle.nl_check.specs.Private.Naming.{IsFollowed, IsNamed, IsNaming, IsQueued, IsTaken, TellsKinds, awaited_count, kind_held, record_at, records_in}
use Rattle.nl_check.specs.Private.SoundInodes.{kind_in}
use Rattle.nl_check.specs.Facts.Below.{not-none}
use Rattle.nl_check.proofs.RecordNames.{at-root, kind-there, kind-used, last-step, listed-there, names-record, one-position, record-names, used-as, used-below, walk-on}

-- ---- the table

in-table : (awaited : List (Option Kind)) (i : ℕ) (k : Kind) → kind_in awaited i ≡ Some k → i < length awaited
in-table [] i k is = cc
in-table (x ∷ awaited) zero k is = omega arith
in-table (x ∷ awaited) (suc i) k is = let low = in-table awaited i k is in omega (arith, low)

taken-count : (awaited : List (Option Kind)) (i : ℕ) (k : Kind) → kind_in awaited i ≡ Some k
    → awaited_count (set awaited i None) + 1 ≡ awaited_count awaited
taken-count [] i k is = cc
taken-count (x ∷ awaited) zero k is = by x is
  where
    by : (o : Option Kind) → o ≡ Some k
        → 0 + awaited_count awaited + 1 ≡ cond (is_some o) 1 0 + awaited_count awaited
    by None e = cc
    by (Some y) e = omega arith
taken-count (x ∷ awaited) (suc i) k is = let rest = taken-count awaited i k is in omega (arith, rest)

pub taken-fewer : (number : ℕ) (k : Kind) (old new : List (Option Kind)) → IsTaken number k old new
    → awaited_count new + 1 ≡ awaited_count old
taken-fewer number k old new t =
    ap (λ (a : List (Option Kind)). awaited_count a + 1) t.now ∙ taken-count old number k t.was

module _ (number : ℕ) (k : Kind) (old new : List (Option Kind)) (t : IsTaken number k old new) where
  taken-here : kind_in new number ≡ None
  taken-here =
      ap (λ (a : List (Option Kind)). kind_in a number) t.now
      ∙ get_or-set_same old number None None (in-table old number k t.was)

  taken-other : (i : ℕ) → (i ≡ number → ⊥) → kind_in new i ≡ kind_in old i
  taken-other i other =
      ap (λ (a : List (Option Kind)). kind_in a i) t.now ∙ get_or-set_other old number i None None other

  taken-still : (i : ℕ) → kind_in old i ≡ None → kind_in new i ≡ None
  taken-still i none = elim (cases_eq i number) [
    | inl e ↦ ap (kind_in new) e ∙ taken-here
    | inr other ↦ taken-other i other ∙ none
  ]

  taken-length : length new ≡ length old
  taken-length = ap length t.now ∙ length-set old number None

-- past the table nothing is awaited
pub none-past : (awaited : List (Option Kind)) (i : ℕ) → length awaited ≤ i → kind_in awaited i ≡ None
none-past [] i past = refl
none-past (x ∷ awaited) zero past = absurd (omega (arith, past))
none-past (x ∷ awaited) (suc i) past = none-past awaited i (omega (arith, past))

-- ---- the queue

queue-before : (queue : List ℕ) (x turn i : ℕ) → slice_get queue turn ≡ Some i
    → slice_get (queue ++ x ∷ []) turn ≡ Some i
queue-before [] x turn i at = cc
queue-before (y ∷ queue) x zero i at = at
queue-before (y ∷ queue) x (suc turn) i at = queue-before queue x turn i at

queue-here : (queue : List ℕ) (x : ℕ) → slice_get (queue ++ x ∷ []) (length queue) ≡ Some x
queue-here [] x = refl
queue-here (y ∷ queue) x = queue-here queue x

queue-cases : (queue : List ℕ) (x turn i : ℕ) → slice_get (queue ++ x ∷ []) turn ≡ Some i
    → (slice_get queue turn ≡ Some i) ⊎ ((turn ≡ length queue) × (i ≡ x))
queue-cases [] x zero i at = inr (refl, cc)
queue-cases [] x (suc turn) i at = cc
queue-cases (y ∷ queue) x zero i at = inl at
queue-cases (y ∷ queue) x (suc turn) i at =
    elim (queue-cases queue x turn i at) [ inl before ↦ inl before | inr here ↦ inr (ap suc here.0, here.1) ]

module _ (number : ℕ) (k : Kind) (old new : List ℕ) (q : IsQueued number k old new) where
  kept-turn : (turn i : ℕ) → slice_get old turn ≡ Some i → slice_get new turn ≡ Some i
  kept-turn turn i at = by k q
    where
      by : (k : Kind) → IsQueued number k old new → slice_get new turn ≡ Some i
      by kind.File same = ap (λ (xs : List ℕ). slice_get xs turn) same ∙ at
      by kind.Directory more =
          ap (λ (xs : List ℕ). slice_get xs turn) more ∙ queue-before old number turn i at

  turn-cases : (turn i : ℕ) → slice_get new turn ≡ Some i
      → (slice_get old turn ≡ Some i) ⊎ ((turn ≡ length old) × ((i ≡ number) × (k ≡ kind.Directory)))
  turn-cases turn i at = by k q refl
    where
      by : (j : Kind) → IsQueued number j old new → k ≡ j
          → (slice_get old turn ≡ Some i) ⊎ ((turn ≡ length old) × ((i ≡ number) × (k ≡ kind.Directory)))
      by kind.File same e = inl (sym (ap (λ (xs : List ℕ). slice_get xs turn) same) ∙ at)
      by kind.Directory more e =
          elim (queue-cases old number turn i (sym (ap (λ (xs : List ℕ). slice_get xs turn) more) ∙ at)) [
            | inl before ↦ inl before
            | inr here ↦ inr (here.0, (here.1, e))
          ]

  new-turn : k ≡ kind.Directory → (turn : ℕ) × (slice_get new turn ≡ Some number)
  new-turn directory = by (subst (λ (j : Kind). IsQueued number j old new) directory q)
    where
      by : IsQueued number kind.Directory old new → (turn : ℕ) × (slice_get new turn ≡ Some number)
      by more = (length old, ap (λ (xs : List ℕ). slice_get xs (length old)) more ∙ queue-here old number)

  pub queue-length : length new ≤ length old + 1
  queue-length = by k q
    where
      by : (j : Kind) → IsQueued number j old new → length new ≤ length old + 1
      by kind.File same = let e = ap length same in omega (arith, e)
      by kind.Directory more = let e = ap length more in omega (arith, e, length-append old (number ∷ []))

  pub queue-grows : length old ≤ length new
  queue-grows = by k q
    where
      by : (j : Kind) → IsQueued number j old new → length old ≤ length new
      by kind.File same = let e = ap length same in omega (arith, e)
      by kind.Directory more = let e = ap length more in omega (arith, e, length-append old (number ∷ []))

  pub next-turn : (turn i : ℕ) → slice_get old turn ≡ Some i → slice_get new turn ≡ Some i
  next-turn = kept-turn

-- ---- one record more

module _ (held : Holding) (limits : IsHolding held) where
  module _ (queue next : List ℕ) (done j d : ℕ) (r : Record) (old new : List (Option Kind))
      (n : IsNaming held queue done j old)
      (turn : slice_get queue done ≡ Some d) (at : record_at held d j ≡ Some r)
      (t : IsTaken r.inode r.kind old new) (q : IsQueued r.inode r.kind queue next) where
    number : ℕ
    number = r.inode

    awaited-here : (i : ℕ) → i ≡ r.inode → kind_in old i ≡ Some r.kind
    awaited-here i e = ap (kind_in old) e ∙ t.was

    inside : r.inode < 524288
    inside = let low = in-table old r.inode r.kind t.was in let c = n.few in omega (arith, low, c)

    kind-here : kind_held (held r.inode) ≡ Some r.kind
    kind-here = elim (n.awaits r.inode inside) [
      | inl same ↦ sym same ∙ t.was
      | inr none ↦ absurd (not-none (kind_in old r.inode) r.kind none t.was)
    ]

    -- what was named isn't the number
    apart : (i : ℕ) → kind_in old i ≡ None → i ≡ r.inode → ⊥
    apart i none e = not-none (kind_in old i) r.kind none (awaited-here i e)

    still : (i : ℕ) → kind_in old i ≡ None → kind_in new i ≡ None
    still = taken-still r.inode r.kind old new t

    named-before : (i : ℕ) → (i ≡ r.inode → ⊥) → IsNamed held new i → IsNamed held old i
    named-before i other m = record {
      kind = m.kind;
      used = m.used;
      taken = sym (taken-other r.inode r.kind old new t i other) ∙ m.taken;
    }

    low-turn : done < length queue
    low-turn = slice_get_within queue done d turn

    turn-before : (s e : ℕ) → s ≤ done → slice_get next s ≡ Some e → slice_get queue s ≡ Some e
    turn-before s e low is = elim (turn-cases r.inode r.kind queue next q s e is) [
      | inl before ↦ before
      | inr here ↦ absurd (let end = here.0 in omega (arith, low, end, low-turn))
    ]

    split : (e m : ℕ) → IsFollowed next done (j + 1) e m → IsFollowed queue done j e m ⊎ ((e ≡ d) × (m ≡ j))
    split e m f = elim f.before [
      | inl less ↦
          inl
          (record { turn = f.turn; is = turn-before f.turn e (omega (arith, less)) f.is; before = inl less })
      | inr here ↦ elim (cases_lt m j) [
        | inl low ↦
            inl (record {
              turn = f.turn;
              is = turn-before f.turn e (let s = here.0 in omega (arith, s)) f.is;
              before = inr (here.0, low);
            })
        | inr high ↦
            (let there : slice_get queue f.turn
            ≡ Some e = turn-before f.turn e (let s = here.0 in omega (arith, s)) f.is in
            let same : Some e ≡ Some d = sym there ∙ (ap (slice_get queue) here.0 ∙ turn) in
            inr (cc, let low = here.1 in omega (arith, low, high)))
      ]
    ]

    more : (e m : ℕ) → IsFollowed queue done j e m → IsFollowed next done (j + 1) e m
    more e m f = record {
      turn = f.turn;
      is = kept-turn r.inode r.kind queue next q f.turn e f.is;
      before =
          elim f.before
          [ inl less ↦ inl less | inr here ↦ inr (here.0, let low = here.1 in omega (arith, low)) ];
    }

    same-record : (e m : ℕ) (s : Record) → record_at held e m ≡ Some s → (e ≡ d) × (m ≡ j) → s ≡ r
    same-record e m s there (de, mj) =
        let both : Some s ≡ Some r =
        sym there ∙ (ap (λ (x : ℕ). record_at held x m) de ∙ (ap (record_at held d) mj ∙ at)) in
        cc

    pub naming-step : IsNaming held next done (j + 1) new
    naming-step = record {
      few =
          let same = taken-length r.inode r.kind old new t in let c = n.few in omega (arith, same, c);
      awaits = λ i low. elim (cases_eq i r.inode) [
        | inl e ↦ inr (ap (kind_in new) e ∙ taken-here r.inode r.kind old new t)
        | inr other ↦ elim (n.awaits i low) [
          | inl same ↦ inl (taken-other r.inode r.kind old new t i other ∙ same)
          | inr none ↦ inr (still i none)
        ]
      ];
      root = (n.root.0, still 2 n.root.1);
      queued = λ i directory none. elim (cases_eq i r.inode) [
        | inl e ↦
            (let kinds : Some r.kind ≡ Some kind.Directory = sym kind-here
            ∙ (ap (λ (x : ℕ). kind_held (held x)) (sym e) ∙ directory) in
            let is_directory : r.kind ≡ kind.Directory = cc in
            let there = new-turn r.inode r.kind queue next q is_directory in
            (there.0, there.1 ∙ ap (λ (x : ℕ). Some x) (sym e)))
        | inr other ↦
            (let there = n.queued i directory (sym (taken-other r.inode r.kind old new t i other) ∙ none) in
            (there.0, kept-turn r.inode r.kind queue next q there.0 i there.1))
      ];
      directories = λ s i is. elim (turn-cases r.inode r.kind queue next q s i is) [
        | inl before ↦ (let a = n.directories s i before in (a.0, still i a.1))
        | inr here ↦ (let e : i ≡ r.inode = here.1.0 in (
          ap (λ (x : ℕ). kind_held (held x)) e ∙ (kind-here ∙ ap (λ (x : Kind). Some x) here.1.1),
          ap (kind_in new) e ∙ taken-here r.inode r.kind old new t,
        ))
      ];
      each_once = λ s u i a b. elim (turn-cases r.inode r.kind queue next q s i a) [
        | inl first ↦ elim (turn-cases r.inode r.kind queue next q u i b) [
          | inl second ↦ n.each_once s u i first second
          | inr here ↦ absurd (apart i (n.directories s i first).1 here.1.0)
        ]
        | inr here ↦ elim (turn-cases r.inode r.kind queue next q u i b) [
          | inl second ↦ absurd (apart i (n.directories u i second).1 here.1.0)
          | inr also ↦ here.0 ∙ sym also.0
        ]
      ];
      reaches = λ i m. elim (cases_eq i r.inode) [
        | inl e ↦ (let a = n.directories done d turn in
            let p = n.reaches d (record { kind = kind.Directory; used = a.0; taken = a.1 }) in (
              r.name ∷ p.0,
              walk-on held limits r.name p.0 d (r.inode, r.kind) p.1 (record-names held limits d j r at)
                  ∙ ap (λ (x : ℕ). Some x) (sym e),
            ))
        | inr other ↦ n.reaches i (named-before i other m)
      ];
      names = λ e m s f there. elim (split e m f) [
        | inl before ↦ (let a = n.names e m s before there in (a.0, still s.inode a.1, a.2))
        | inr here ↦ (let same : s ≡ r = same-record e m s there here in
            subst (λ (x : Record).
            (kind_held (held x.inode) ≡ Some x.kind) × (kind_in new x.inode ≡ None) × (x.inode ≢ 2))
            (sym same)
            (kind-here, taken-here r.inode r.kind old new t, λ two. apart 2 n.root.1 (sym two)))
      ];
      once = λ e m f k s u fs fu there also same. elim (split e m fs) [
        | inl before ↦ elim (split f k fu) [
          | inl second ↦ n.once e m f k s u before second there also same
          | inr here ↦
              absurd (apart s.inode (n.names e m s before there).1
              (same ∙ ap (λ (x : Record). x.inode) (same-record f k u also here)))
        ]
        | inr here ↦ elim (split f k fu) [
          | inl second ↦
              absurd (apart u.inode (n.names f k u second also).1
              (sym same ∙ ap (λ (x : Record). x.inode) (same-record e m s there here)))
          | inr both ↦ (here.0 ∙ sym both.0, here.1 ∙ sym both.1)
        ]
      ];
      only = λ i m. elim (cases_eq i r.inode) [
        | inl e ↦ inr (record {
          directory = d;
          position = j;
          record_there = r;
          followed = record {
            turn = done;
            is = kept-turn r.inode r.kind queue next q done d turn;
            before = inr (refl, omega arith);
          };
          at = at;
          names = sym e;
        })
        | inr other ↦ elim (n.only i (named-before i other m)) [
          | inl two ↦ inl two
          | inr by ↦
              inr (record {
                directory = by.directory;
                position = by.position;
                record_there = by.record_there;
                followed = more by.directory by.position by.followed;
                at = by.at;
                names = by.names;
              })
        ]
      ];
    }

  -- a record that names no awaited number breaks the tree
  pub naming-refused : (queue : List ℕ) (done j d : ℕ) (r : Record) (old : List (Option Kind))
      → IsNaming held queue done j old → slice_get queue done ≡ Some d → record_at held d j ≡ Some r
      → (kind_in old r.inode ≡ Some r.kind → ⊥) → FormTree (inodes_of_holding held) → ⊥
  naming-refused queue done j d r old n turn at not_awaited f =
      let names = record-names held limits d j r at in
      let is : kind_held (held r.inode) ≡ Some r.kind =
      kind-used held limits r.inode r.kind (f.used d r.name (r.inode, r.kind) names) in
      elim (n.awaits r.inode (used-below held limits r.inode r.kind is)) [
        | inl same ↦ not_awaited (same ∙ is)
        | inr none ↦ elim (n.only r.inode (record { kind = r.kind; used = is; taken = none })) [
          | inl two ↦ f.not_root d r.name (r.inode, r.kind) names two
          | inr by ↦
              let other = record-names held limits by.directory by.position by.record_there by.at in
              let same =
              f.once d by.directory r.name by.record_there.name (r.inode, r.kind)
              (by.record_there.inode, by.record_there.kind) names other (sym by.names) in
              let there : record_at held d by.position ≡ Some by.record_there =
              ap (λ (x : ℕ). record_at held x by.position) same.0 ∙ by.at in
              let place : j ≡ by.position =
              one-position held limits d j by.position r by.record_there at there same.1 in
              let again : slice_get queue by.followed.turn ≡ Some d =
              by.followed.is ∙ ap (λ (x : ℕ). Some x) (sym same.0) in
              let first : by.followed.turn ≡ done = n.each_once by.followed.turn done d again turn in
              elim by.followed.before [
                | inl less ↦ omega (arith, first, less)
                | inr here ↦ let low = here.1 in omega (arith, place, low)
              ]
        ]
      ]

  -- all records of a directory are followed
  pub naming-next : (queue : List ℕ) (done d : ℕ) (old : List (Option Kind)) (end : ℕ)
      → slice_get queue done ≡ Some d → end ≡ length (records_in (held d)) → IsNaming held queue done end old
      → IsNaming held queue (done + 1) 0 old
  naming-next queue done d old end turn is n = record {
    few = n.few;
    awaits = n.awaits;
    root = n.root;
    queued = n.queued;
    directories = n.directories;
    each_once = n.each_once;
    reaches = n.reaches;
    names = λ e m r f there. n.names e m r (back e m r f there) there;
    once = λ e m f k r s a b there also same.
        n.once e m f k r s (back e m r a there) (back f k s b also) there also same;
    only = λ i m. elim (n.only i m) [
      | inl two ↦ inl two
      | inr by ↦
          inr (record {
            directory = by.directory;
            position = by.position;
            record_there = by.record_there;
            followed = on by.directory by.position by.followed;
            at = by.at;
            names = by.names;
          })
    ];
  }
    where
      back : (e m : ℕ) (r : Record) → IsFollowed queue (done + 1) 0 e m → record_at held e m ≡ Some r
          → IsFollowed queue done end e m
      back e m r f there = elim f.before [
        | inl less ↦ elim (cases_lt f.turn done) [
          | inl before ↦ record { turn = f.turn; is = f.is; before = inl before }
          | inr high ↦ (let now : f.turn ≡ done = omega (arith, less, high) in
              let same : Some e ≡ Some d = sym f.is ∙ (ap (slice_get queue) now ∙ turn) in
              let directory : e ≡ d = cc in
              let within = slice_get_within (records_in (held e)) m r there in
              let len : length (records_in (held e)) ≡ end =
              ap (λ (x : ℕ). length (records_in (held x))) directory ∙ sym is in
              record { turn = f.turn; is = f.is; before = inr (now, omega (arith, within, len)) })
        ]
        | inr here ↦ absurd (let low = here.1 in omega (arith, low))
      ]

      on : (e m : ℕ) → IsFollowed queue done end e m → IsFollowed queue (done + 1) 0 e m
      on e m f = record {
        turn = f.turn;
        is = f.is;
        before =
            elim f.before [
              | inl less ↦ inl (omega (arith, less))
              | inr here ↦ inl (let now = here.0 in omega (arith, now))
            ];
      }

  -- the records that a tree tells of the next directory are its own
  pub next-records : (queue : List ℕ) (done d : ℕ) (awaited : List (Option Kind)) (all : List Record)
      → IsNaming held queue done 0 awaited → slice_get queue done ≡ Some d
      → ((records : List Record) → held d ≡ Some (Listed records) → all ≡ records) → records_in (held d) ≡ all
  next-records queue done d awaited all n turn told =
      let l = listed-there held limits d (n.directories done d turn).0 in
      ap records_in l.1 ∙ sym (told l.0 l.1)

  -- ---- the first one

  pub naming-first : (old new : List (Option Kind)) → TellsKinds held old → IsTaken 2 kind.Directory old new
      → IsNaming held (2 ∷ []) 0 0 new
  naming-first old new told t = record {
    few =
        let same = taken-length 2 kind.Directory old new t in let c = told.few in omega (arith, same, c);
    awaits = λ i low. elim (cases_eq i 2) [
      | inl e ↦ inr (ap (kind_in new) e ∙ taken-here 2 kind.Directory old new t)
      | inr other ↦ inl (taken-other 2 kind.Directory old new t i other ∙ told.told i low)
    ];
    root = (root_kind, taken-here 2 kind.Directory old new t);
    queued = λ i directory none. (
      0,
      ap (λ (x : ℕ). Some x)
          (sym (is-root i (record { kind = kind.Directory; used = directory; taken = none }))),
    );
    directories = λ turn i at. let e = first turn i at in (
      ap (λ (x : ℕ). kind_held (held x)) e ∙ root_kind,
      ap (kind_in new) e ∙ taken-here 2 kind.Directory old new t,
    );
    each_once = λ s u i a b. zero-turn s i a ∙ sym (zero-turn u i b);
    reaches = λ i m. ([], at-root held limits ∙ ap (λ (x : ℕ). Some x) (sym (is-root i m)));
    names = λ e m r f there. absurd (none-followed e m f);
    once = λ e m f k r s a b there also same. absurd (none-followed e m a);
    only = λ i m. inl (is-root i m);
  }
    where
      root_kind : kind_held (held 2) ≡ Some kind.Directory
      root_kind = sym (told.told 2 (omega arith)) ∙ t.was

      is-root : (i : ℕ) → IsNamed held new i → i ≡ 2
      is-root i m = elim (cases_eq i 2) [
        | inl e ↦ e
        | inr other ↦
            absurd (not-none (kind_in new i) m.kind m.taken
            (taken-other 2 kind.Directory old new t i other
            ∙ (told.told i (used-below held limits i m.kind m.used) ∙ m.used)))
      ]

      zero-turn : (turn i : ℕ) → slice_get (2 ∷ []) turn ≡ Some i → turn ≡ 0
      zero-turn zero i at = refl
      zero-turn (suc turn) i at = cc

      first : (turn i : ℕ) → slice_get (2 ∷ []) turn ≡ Some i → i ≡ 2
      first zero i at = cc
      first (suc turn) i at = cc

      none-followed : (e m : ℕ) → IsFollowed (2 ∷ []) 0 0 e m → ⊥
      none-followed e m f =
          elim f.before [ inl less ↦ omega (arith, less) | inr here ↦ let low = here.1 in omega (arith, low) ]

  -- ---- the last one

  module _ (queue : List ℕ) (now : List (Option Kind)) (n : IsNaming held queue (length queue) 0 now) where
    -- all records of a named directory were followed
    followed-all : (d j : ℕ) → kind_held (held d) ≡ Some kind.Directory → kind_in now d ≡ None
        → IsFollowed queue (length queue) 0 d j
    followed-all d j directory none = let there = n.queued d directory none in record {
      turn = there.0;
      is = there.1;
      before = inl (slice_get_within queue there.0 d there.1);
    }

    pub forms : ((i : ℕ) → kind_in now i ≡ None) → FormTree (inodes_of_holding held)
    forms none = record {
      root =
          let l = listed-there held limits 2 n.root.0 in
          ((λ name. entry_of name l.0), ap (option_map inode_content) l.1);
      used = λ d name link names.
          let m = names-record held limits d name link names in
          let a = n.names d m.position m.there (followed-all d m.position m.directory (none d)) m.at in
          used-as held limits link.0 link.1
          (sym (ap (λ (x : ℕ). kind_held (held x)) m.inode_is)
          ∙ (a.0 ∙ ap (λ (x : Kind). Some x) m.kind_is));
      not_root = λ d name link names two.
          let m = names-record held limits d name link names in
          let a = n.names d m.position m.there (followed-all d m.position m.directory (none d)) m.at in
          a.2 (m.inode_is ∙ two);
      once = λ d e name other one two names also same.
          let m = names-record held limits d name one names in
          let k = names-record held limits e other two also in
          let places =
          n.once d m.position e k.position m.there k.there
          (followed-all d m.position m.directory (none d))
          (followed-all e k.position k.directory (none e)) m.at k.at
          (m.inode_is ∙ (same ∙ sym k.inode_is)) in
          let records : Some m.there ≡ Some k.there =
          sym m.at
          ∙ (ap (λ (x : ℕ). record_at held x m.position) places.0
          ∙ (ap (record_at held e) places.1 ∙ k.at)) in
          let record_same : m.there ≡ k.there = cc in
          (places.0, sym m.name_is ∙ (ap (λ (x : Record). x.name) record_same ∙ k.name_is));
      found = λ i content is.
          n.reaches i (record {
            kind = object_kind (object_of content);
            used = kind-there held limits i content is;
            taken = none i;
          });
    }

    -- what a walk comes to is named
    reached-named : (p : Path) (i : ℕ) → reached (inodes_of_holding held) p ≡ Some i → kind_in now i ≡ None
    reached-named [] i walk =
        let same : Some 2 ≡ Some i = sym (at-root held limits) ∙ walk in
        let two : i ≡ 2 = cc in
        ap (kind_in now) two ∙ n.root.1
    reached-named (name ∷ p) i walk =
        let s = last-step held limits name p i walk in
        let none = reached-named p s.directory s.walk in
        let m = names-record held limits s.directory name s.link s.names in
        let a =
        n.names s.directory m.position m.there
        (followed-all s.directory m.position m.directory none) m.at in
        sym (ap (kind_in now) (m.inode_is ∙ s.is)) ∙ a.1

    -- a tree has no number that is awaited in the end
    pub none-awaited : FormTree (inodes_of_holding held) → (i : ℕ) → kind_in now i ≡ None
    none-awaited f i = by (kind_in now i) refl
      where
        by : (o : Option Kind) → kind_in now i ≡ o → kind_in now i ≡ None
        by None e = e
        by (Some k) e =
            absurd
            (elim (n.awaits i (let low = in-table now i k e in let c = n.few in omega (arith, low, c))) [
              | inl same ↦ (let u = used-as held limits i k (sym same ∙ e) in
                  let p = f.found i u.content u.used in
                  not-none (kind_in now i) k (reached-named p.0 i p.1) e)
              | inr none ↦ not-none (kind_in now i) k none e
            ])

-- a tree's root is awaited as a directory
pub root-awaited : (held : Holding) (kinds : List (Option Kind)) → TellsKinds held kinds
    → FormTree (inodes_of_holding held) → kind_in kinds 2 ≡ Some kind.Directory
root-awaited held kinds t f = t.told 2 (omega arith) ∙ by (held 2) f.root.1
  where
    by : (o : Option Held) → option_map inode_content o ≡ Some (Records f.root.0)
        → kind_held o ≡ Some kind.Directory
    by None e = cc
    by (Some (Stored size blocks)) e = cc
    by (Some (Listed records)) e = refl
