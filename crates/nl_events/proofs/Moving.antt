-- From what an event that writes nothing does to the tables to what it does to the pen.
use Rattle.std.proofs.Common.{◌≡◌, ℕ, Bool, List, [], ◌∷◌, refl, sym, ap, subst, inl, inr, arith}
use Rattle.std.specs.Prelude.{◌||◌, Ok, Err, IfOk, OnErr}
use Rattle.nl_types.specs.declared.error.VolError.{VolError}
use Rattle.nl_types.specs.declared.error.VolError.TheVariants as error
use Rattle.nl_types.specs.declared.event.Event.{Event}
use Rattle.nl_types.specs.declared.event.Event.TheVariants.{Apply, Read, ChangeMode, Expire, Remove, RemoveRange, Mount, Unmount, MountRead, Listing}
use Rattle.nl_types.specs.declared.event.Change.{Change}
use Rattle.nl_types.specs.declared.event.Mode.{Mode}
use Rattle.nl_types.specs.declared.reply.Answer.{Answer}
use Rattle.nl_types.specs.declared.reply.Answer.TheVariants as answer
use Rattle.nl_types.specs.declared.row.ListOptions.{ListOptions}
use Rattle.nl_types.specs.declared.event.Ask.{Ask}
use Rattle.nl_types.specs.Plain.Calls.{is_dirtying}
use Rattle.nl_types.specs.Blocks.Roots.{Pages, pages_of}
use Rattle.nl_types.specs.Plain.Worlds.{World, Reply}
use Rattle.nl_types.specs.Plain.Runs.{Step, memory_alone}
use Rattle.nl_vstore.specs.Stores.{Store, content_in}
use Rattle.nl_tree.specs.Became.{Current}
use Rattle.nl_commit.specs.Changes.{HasChanged}
use Rattle.nl_commit.specs.Means.{StepsWorldsOver}
use Rattle.nl_commit.specs.Volume.{IsExpired, IsTakenOut, IsTakenOutRange, Lists, with_change, with_checkpoint_mode, with_mount, without_mount}
use Rattle.nl_commit.specs.Layout.{Does, StepsWorlds, HasDone, IsPen, IsSoundPen, KeepsNumbers, Becomes, cleaned, layout_of, unshared}
use Rattle.nl_commit.specs.declared.mounts.Mounted.{Mounted}
use Rattle.nl_events.specs.Facts.Ledgers.{same-numbers}
use Rattle.nl_events.specs.Facts.ModeChanges.{numbers-moded, sound-moded}
use Rattle.nl_events.specs.Facts.Removals.{numbers-left, sound-left}

-- ---- steps

abbrev pub pages_under : Store → Pages
pages_under store = pages_of (content_in store)

-- an event that memory alone may be refused to may be refused for more
follows-more : (l new : Lists) (store : Store) (event : Event) (reply : Reply)
    → StepsWorldsOver (pages_under store) l event reply new
    → StepsWorlds unshared (layout_of l store) event reply (layout_of new store)
follows-more l new store event reply follows = λ w m.
    let next = follows (cleaned (layout_of l store) event) w m in
    record { after = next.after; means = next.means; step = step-more next.after next.step }
  where
    more : (e : VolError) → memory_alone event e → unshared (layout_of l store) (layout_of new store) event e
    more error.NoSpace may = absurd may.1
    more error.Fault may = absurd may.1
    more error.Memory may = may
    more _ may = absurd may

    step-more : {w : World} (after : World)
        → Step memory_alone (cleaned (layout_of l store) event) w event reply after
        → Step (unshared (layout_of l store) (layout_of new store))
        (cleaned (layout_of l store) event) w event reply after
    step-more after step = elim step [
      | inl is ↦ inl is
      | inr refused ↦
          inr (record {
            error = refused.error;
            reply_is = refused.reply_is;
            may_be = more refused.error refused.may_be;
            unchanged = refused.unchanged;
          })
    ]

-- the store stays, and what is true of the pen but for its world is shown
does-kept : (l new : Lists) (store : Store) (event : Event) (reply : Reply) → IsPen (layout_of l store)
    → StepsWorldsOver (pages_under store) l event reply new
    → Becomes (layout_of l store) event reply (layout_of new store)
    → IsSoundPen (layout_of new store) → KeepsNumbers (layout_of l store) (layout_of new store)
    → Does unshared (layout_of l store) event reply (layout_of new store)
does-kept l new store event reply pen follows becomes sound numbers =
    let next = follows (cleaned (layout_of l store) event) pen.world.0 pen.world.1 in
    record {
      follows = follows-more l new store event reply follows;
      becomes = becomes;
      numbers = numbers;
      pen = record { world = (next.after, next.means); sound = sound };
      failures = omega arith;
    }

-- ---- events that keep the checkpoints

module _ (l : Lists) (store : Store) (pen : IsPen (layout_of l store)) (current : Current) (dirty : Bool)
    (mounts : List Mounted) (given : ℕ) where
  -- the lists with another current tree and other mounts
  abbrev moved : Lists
  moved = record l { current = current; dirty = dirty; mounts = mounts; given = given }

  -- the checkpoints and the blocks stay, and so does what is true of them
  sound-moved : IsSoundPen (layout_of moved store)
  sound-moved = record {
    ledger = pen.sound.ledger;
    trees_sound = pen.sound.trees_sound;
    latest = pen.sound.latest;
    last = pen.sound.last;
    store = pen.sound.store;
  }

  does-moved : (event : Event) (reply : Reply) → StepsWorldsOver (pages_under store) l event reply moved
      → Becomes (layout_of l store) event reply (layout_of moved store)
      → Does unshared (layout_of l store) event reply (layout_of moved store)
  does-moved event reply follows becomes =
      does-kept l moved store event reply pen follows becomes sound-moved
      (same-numbers (layout_of l store) (layout_of moved store) refl)

-- an event that leaves all as it was
does-nothing : (l : Lists) (store : Store) (event : Event) (reply : Reply) → IsPen (layout_of l store)
    → StepsWorldsOver (pages_under store) l event reply l
    → Becomes (layout_of l store) event reply (layout_of l store)
    → Does unshared (layout_of l store) event reply (layout_of l store)
does-nothing l store event reply pen follows becomes =
    does-moved l store pen l.current l.dirty l.mounts l.given event reply follows becomes

-- a refused event leaves all as it was
does-refused : (l new : Lists) (store : Store) (event : Event) (e : VolError) → IsPen (layout_of l store)
    → StepsWorldsOver (pages_under store) l event (Err e) new
    → Becomes (layout_of l store) event (Err e) (layout_of l store) → new ≡ l
    → Does unshared (layout_of l store) event (Err e) (layout_of new store)
does-refused l new store event e pen follows becomes same =
    subst (λ lists. Does unshared (layout_of l store) event (Err e) (layout_of lists store)) (sym same)
    (does-nothing l store event (Err e) pen
    (subst (λ lists. StepsWorldsOver (pages_under store) l event (Err e) lists) same follows) becomes)

-- some checkpoints are gone
does-taken_out : (l new : Lists) (store : Store) (event : Event) (a : Answer) (gone : List ℕ)
    → IsPen (layout_of l store)
    → StepsWorldsOver (pages_under store) l event (Ok a) new → IsTakenOut gone l new
    → HasDone (layout_of l store) event a (layout_of new store)
    → Does unshared (layout_of l store) event (Ok a) (layout_of new store)
does-taken_out l new store event a gone pen follows taken done =
    does-kept l new store event (Ok a) pen follows done
    (subst (λ lists. IsSoundPen (layout_of lists store)) (sym taken.lists)
    (sound-left (layout_of l store) gone taken.stays pen.sound))
    (subst (λ lists. KeepsNumbers (layout_of l store) (layout_of lists store)) (sym taken.lists)
    (numbers-left (layout_of l store) gone taken.stays pen.sound))

-- ---- each event

-- a change
pub does-Apply : (l new : Lists) (store : Store) (c : Change) (reply : Reply) → IsPen (layout_of l store)
    → StepsWorldsOver (pages_under store) l (Apply c) reply new
    → IfOk reply (λ _. new ≡ with_change c new.current l)
    → IfOk reply (λ _. HasChanged (pages_under store) c l new)
    → OnErr reply (new ≡ l)
    → Does unshared (layout_of l store) (Apply c) reply (layout_of new store)
does-Apply l new store c (Ok a) pen follows is changed same =
    subst (λ lists. Does unshared (layout_of l store) (Apply c) (Ok a) (layout_of lists store)) (sym is)
    (does-moved l store pen new.current (l.dirty || is_dirtying c) l.mounts l.given (Apply c) (Ok a)
    (subst (λ lists. StepsWorldsOver (pages_under store) l (Apply c) (Ok a) lists) is follows)
    (refl, subst (λ lists. HasChanged (pages_under store) c l lists) is changed))
does-Apply l new store c (Err e) pen follows is changed same =
    does-refused l new store (Apply c) e pen follows refl same

-- a mount
pub does-Mount : (l new : Lists) (store : Store) (n : ℕ) (reply : Reply) → IsPen (layout_of l store)
    → StepsWorldsOver (pages_under store) l (Mount n) reply new
    → IfOk reply (λ _. new ≡ with_mount n l)
    → OnErr reply (new ≡ l)
    → Does unshared (layout_of l store) (Mount n) reply (layout_of new store)
does-Mount l new store n (Ok a) pen follows is same =
    let next = with_mount n l in
    subst (λ lists. Does unshared (layout_of l store) (Mount n) (Ok a) (layout_of lists store)) (sym is)
    (does-moved l store pen l.current l.dirty next.mounts next.given (Mount n) (Ok a)
    (subst (λ lists. StepsWorldsOver (pages_under store) l (Mount n) (Ok a) lists) is follows) refl)
does-Mount l new store n (Err e) pen follows is same =
    does-refused l new store (Mount n) e pen follows refl same

-- an unmount
pub does-Unmount : (l new : Lists) (store : Store) (m : ℕ) (reply : Reply) → IsPen (layout_of l store)
    → StepsWorldsOver (pages_under store) l (Unmount m) reply new
    → IfOk reply (λ _. new ≡ without_mount m l)
    → OnErr reply (new ≡ l)
    → Does unshared (layout_of l store) (Unmount m) reply (layout_of new store)
does-Unmount l new store m (Ok a) pen follows is same =
    let next = without_mount m l in
    subst (λ lists. Does unshared (layout_of l store) (Unmount m) (Ok a) (layout_of lists store)) (sym is)
    (does-moved l store pen l.current l.dirty next.mounts l.given (Unmount m) (Ok a)
    (subst (λ lists. StepsWorldsOver (pages_under store) l (Unmount m) (Ok a) lists) is follows) refl)
does-Unmount l new store m (Err e) pen follows is same =
    does-refused l new store (Unmount m) e pen follows refl same

-- a change of a mode
pub does-ChangeMode : (l new : Lists) (store : Store) (n : ℕ) (mode : Mode) (reply : Reply)
    → IsPen (layout_of l store)
    → StepsWorldsOver (pages_under store) l (ChangeMode n mode) reply new
    → IfOk reply (λ _. new ≡ with_checkpoint_mode n mode l)
    → OnErr reply (new ≡ l)
    → Does unshared (layout_of l store) (ChangeMode n mode) reply (layout_of new store)
does-ChangeMode l new store n mode (Ok a) pen follows is same =
    does-kept l new store (ChangeMode n mode) (Ok a) pen follows (ap (λ lists. layout_of lists store) is)
    (subst (λ lists. IsSoundPen (layout_of lists store)) (sym is)
    (sound-moded (layout_of l store) n mode pen.sound))
    (subst (λ lists. KeepsNumbers (layout_of l store) (layout_of lists store)) (sym is)
    (numbers-moded (layout_of l store) n mode))
does-ChangeMode l new store n mode (Err e) pen follows is same =
    does-refused l new store (ChangeMode n mode) e pen follows refl same

-- a removal
pub does-Remove : (l new : Lists) (store : Store) (n : ℕ) (reply : Reply) → IsPen (layout_of l store)
    → StepsWorldsOver (pages_under store) l (Remove n) reply new
    → IfOk reply (λ _. IsTakenOut (n ∷ []) l new)
    → OnErr reply (new ≡ l)
    → Does unshared (layout_of l store) (Remove n) reply (layout_of new store)
does-Remove l new store n (Ok a) pen follows taken same =
    does-taken_out l new store (Remove n) a (n ∷ []) pen follows taken (taken, refl)
does-Remove l new store n (Err e) pen follows taken same =
    does-refused l new store (Remove n) e pen follows refl same

-- a removal of a range
pub does-RemoveRange : (l new : Lists) (store : Store) (first last : ℕ) (reply : Reply)
    → IsPen (layout_of l store)
    → StepsWorldsOver (pages_under store) l (RemoveRange first last) reply new
    → IfOk reply (λ a. IsTakenOutRange first last a l new)
    → OnErr reply (new ≡ l)
    → Does unshared (layout_of l store) (RemoveRange first last) reply (layout_of new store)
does-RemoveRange l new store first last (Ok (answer.Removed range)) pen follows taken same =
    does-taken_out l new store (RemoveRange first last)
    (answer.Removed range) range.removed pen follows taken.taken (taken, refl)
does-RemoveRange l new store first last (Ok _) pen follows taken same = absurd taken
does-RemoveRange l new store first last (Err e) pen follows taken same =
    does-refused l new store (RemoveRange first last) e pen follows refl same

-- an expiry
pub does-Expire : (l new : Lists) (store : Store) (now period : ℕ) (reply : Reply) → IsPen (layout_of l store)
    → StepsWorldsOver (pages_under store) l (Expire now period) reply new
    → IfOk reply (λ a. IsExpired now period a l new)
    → OnErr reply (new ≡ l)
    → Does unshared (layout_of l store) (Expire now period) reply (layout_of new store)
does-Expire l new store now period (Ok (answer.Expired gone)) pen follows expired same =
    does-taken_out l new store (Expire now period) (answer.Expired gone) gone pen follows expired.taken
    (expired, refl)
does-Expire l new store now period (Ok _) pen follows expired same = absurd expired
does-Expire l new store now period (Err e) pen follows expired same =
    does-refused l new store (Expire now period) e pen follows refl same

-- a listing
pub does-Listing : (l : Lists) (store : Store) (options : ListOptions) (reply : Reply)
    → IsPen (layout_of l store)
    → StepsWorldsOver (pages_under store) l (Listing options) reply l
    → Does unshared (layout_of l store) (Listing options) reply (layout_of l store)
does-Listing l store options (Ok a) pen follows =
    does-nothing l store (Listing options) (Ok a) pen follows refl
does-Listing l store options (Err e) pen follows =
    does-nothing l store (Listing options) (Err e) pen follows refl

-- a read of the current tree
pub does-Read : (l : Lists) (store : Store) (a : Ask) (reply : Reply) → IsPen (layout_of l store)
    → StepsWorldsOver (pages_under store) l (Read a) reply l
    → Does unshared (layout_of l store) (Read a) reply (layout_of l store)
does-Read l store a (Ok answer) pen follows = does-nothing l store (Read a) (Ok answer) pen follows refl
does-Read l store a (Err e) pen follows = does-nothing l store (Read a) (Err e) pen follows refl

-- a read of a mount
pub does-MountRead : (l : Lists) (store : Store) (mount : ℕ) (a : Ask) (reply : Reply)
    → IsPen (layout_of l store)
    → StepsWorldsOver (pages_under store) l (MountRead mount a) reply l
    → Does unshared (layout_of l store) (MountRead mount a) reply (layout_of l store)
does-MountRead l store mount a (Ok answer) pen follows =
    does-nothing l store (MountRead mount a) (Ok answer) pen follows refl
does-MountRead l store mount a (Err e) pen follows =
    does-nothing l store (MountRead mount a) (Err e) pen follows refl
