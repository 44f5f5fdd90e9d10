-- Events, beside readers or not, with the commits that they note.
use Rattle.std.proofs.Common.{◌≡◌, ℕ, ◌<◌, ◌≤◌, List, [], ◌∷◌, ◌++◌, length, refl, ap, sym, subst, ◌∙◌, inl, inr, arith}
use Rattle.std.specs.Prelude.{Bool, Option, None, nat_lt, true, false, Ok, Err}
use Rattle.std.proofs.lemmas.List.{append-nil}
use Rattle.nl_types.specs.declared.error.VolError.{VolError}
use Rattle.nl_types.specs.declared.error.VolError.TheVariants as error
use Rattle.nl_types.specs.declared.event.Event.{Event}
use Rattle.nl_types.specs.declared.event.Event.TheVariants as event
use Rattle.nl_types.specs.declared.event.Mode.{Mode}
use Rattle.nl_types.specs.declared.reply.Answer.{Answer}
use Rattle.nl_types.specs.declared.reply.Answer.TheVariants as answer
use Rattle.nl_types.specs.Plain.Runs.{Step}
use Rattle.nl_types.specs.Plain.Worlds.{Reply, World}
use Rattle.nl_vstore.specs.Batches.{Changes}
use Rattle.nl_vstore.specs.Located.{numbers_in}
use Rattle.nl_vstore.specs.Stores.{IsStore}
use Rattle.nl_cpfile.specs.declared.checkpoint.Checkpoint.{Checkpoint}
use Rattle.nl_reclaim.specs.declared.moving.MoveCount.{MoveCount}
use Rattle.nl_commit.specs.CleaningEvents.{moved_answer, needed_by}
use Rattle.nl_commit.specs.Layout.{Becomes, Does, HasRefused, IsPen, Layout, LeavesStore, cleaned, unshared}
use Rattle.nl_commit.specs.Notes.{AreCommitsOf, DoesTelling, HasNoted, allowed_where, freed_in, known_commit, made, made_where, new_checkpoint, noted_by, shared, told_where, where_any, where_true, without_changes}
use Rattle.nl_commit.specs.declared.commit.Commit.{Commit}
use Rattle.nl_commit.specs.declared.commit.Commit.TheVariants.{Freed, Resized, Written}
use Rattle.nl_events.specs.NeededBlocks.{HasWrittenBatch}
use Rattle.nl_events.specs.Facts.Checkpointing.{does-written}
use Rattle.nl_events.specs.Facts.CleaningEvents.{some-moving}
use Rattle.nl_events.specs.Facts.Ledgers.{same-numbers}
use Rattle.nl_events.specs.Facts.Outside.{retired-inside}
use Rattle.nl_events.specs.Facts.Telling.{commits_tell_all}

-- ---- refusals

-- what may be refused to a pen alone may be refused beside readers
shared-more : (old new : Layout) (event : Event) (e : VolError) → unshared old new event e
    → shared old new event e
shared-more old new event error.Memory may = tt
shared-more old new event e may = may

does-shared : (old new : Layout) (event : Event) (reply : Reply) → Does unshared old event reply new
    → Does shared old event reply new
does-shared old new event reply does = record {
  follows = λ w m. let next = does.follows w m in record {
    after = next.after;
    means = next.means;
    step = more w next.after next.step;
  };
  becomes = does.becomes;
  numbers = does.numbers;
  pen = does.pen;
  failures = does.failures;
}
  where
    more : (w after : World) → Step (unshared old new) (cleaned old event) w event reply after
        → Step (shared old new) (cleaned old event) w event reply after
    more w after step = elim step [
      | inl is ↦ inl is
      | inr refused ↦ inr (record {
        error = refused.error;
        reply_is = refused.reply_is;
        may_be = shared-more old new event refused.error refused.may_be;
        unchanged = refused.unchanged;
      })
    ]

-- so it may whoever is told
does-where : (told : Bool) (old new : Layout) (event : Event) (reply : Reply)
    → Does unshared old event reply new → Does (allowed_where told) old event reply new
does-where true old new event reply does = does-shared old new event reply does
does-where false old new event reply does = does

-- memory is refused before anything changes
no-memory : (l : Layout) (event : Event) → IsPen l → Becomes l event (Err error.Memory) l
    → Does shared l event (Err error.Memory) l
no-memory l event pen becomes = record {
  follows = λ w m. record {
    after = w;
    means = m;
    step = inr (record { error = error.Memory; reply_is = refl; may_be = tt; unchanged = refl });
  };
  becomes = becomes;
  numbers = same-numbers l l refl;
  pen = pen;
  failures = omega arith;
}

-- ---- with commits

-- where no commit comes, none is noted
pub told-none : (told : Bool) (before : List Commit) → before ≡ before ++ told_where told []
told-none true before = sym (append-nil before)
told-none false before = sym (append-nil before)

-- a commit that was made where readers are told is the one that is told
pub told-made : (told : Bool) (c : Commit) (before after : List Commit)
    → after ≡ before ++ told_where told (made (made_where told c)) → after ≡ before ++ told_where told (c ∷ [])
told-made true c before after behind = behind
told-made false c before after behind = behind

module _ (told : Bool) (old : Layout) (event : Event) (new : Layout) (before after : List Commit)
    (pen : IsPen old) where
  tells : (reply : Reply) (more : List Commit) → Does (allowed_where told) old event reply new
      → after ≡ before ++ told_where told more → AreCommitsOf old event reply new more
      → DoesTelling told old event reply new before after
  tells reply more does behind commits = record {
    does = does;
    more = more;
    behind = behind;
    noted = commits_tell_all (allowed_where told) old new event reply more pen does commits;
  }

  pub telling : (reply : Reply) (more : List Commit) → Does unshared old event reply new
      → after ≡ before ++ told_where told more → AreCommitsOf old event reply new more
      → DoesTelling told old event reply new before after
  telling reply more does behind commits =
      tells reply more (does-where told old new event reply does) behind commits

  -- a refused event has no commit
  pub telling-refused : (e : VolError) → Does unshared old event (Err e) new → after ≡ before
      → DoesTelling told old event (Err e) new before after
  telling-refused e does same = telling (Err e) [] does (same ∙ told-none told before) refl

-- where readers are told, memory may be refused before anything changes
pub telling-memory : (told : Bool) (l : Layout) (event : Event) (before after : List Commit)
    → told ≡ true → IsPen l → HasRefused event error.Memory l l → after ≡ before
    → DoesTelling told l event (Err error.Memory) l before after
telling-memory told l event before after is pen refused same =
    subst (λ (t : Bool). DoesTelling t l event (Err error.Memory) l before after) (sym is)
    (tells true l event l before after pen (Err error.Memory) [] (no-memory l event pen refused)
    (same ∙ told-none true before) refl)

-- ---- events that leave the store

-- a refused one leaves all
pub left-lists : (l : Layout) (event : Event) → LeavesStore event → HasRefused event error.Memory l l
left-lists l (event.Checkpoint mode moment) leaves = absurd leaves
left-lists l (event.Move segment limit moment) leaves = absurd leaves
left-lists l (event.Retire segment) leaves = absurd leaves
left-lists l (event.Resize segments) leaves = absurd leaves
left-lists l event leaves = refl

-- the commit of one is known before it
pub noted-before : (old new : Layout) (event : Event) (a : Answer) (known : Option Commit) → LeavesStore event
    → known_commit old.lists event ≡ known → HasNoted old event a new (noted_by a known)
noted-before old new (event.Checkpoint mode moment) a known leaves is = absurd leaves
noted-before old new (event.Move segment limit moment) a known leaves is = absurd leaves
noted-before old new (event.Retire segment) a known leaves is = absurd leaves
noted-before old new (event.Resize segments) a known leaves is = absurd leaves
noted-before old new event a known leaves is = ap (noted_by a) (sym is)

-- it may have none
pub telling-none : (told : Bool) (old new : Layout) (event : Event) (reply : Reply) (before : List Commit)
    → IsPen old → LeavesStore event → known_commit old.lists event ≡ None → Does unshared old event reply new
    → DoesTelling told old event reply new before before
telling-none told old new event (Ok a) before pen leaves none does =
    telling told old event new before before pen (Ok a) [] does (told-none told before)
    (noted-before old new event a None leaves none)
telling-none told old new event (Err e) before pen leaves none does =
    telling-refused told old event new before before pen e does refl

-- the other events are those that write blocks
pub leaves-store : (e : Event) → ((mode : Mode) (moment : ℕ) → e ≡ event.Checkpoint mode moment → ⊥)
    → ((segment limit moment : ℕ) → e ≡ event.Move segment limit moment → ⊥)
    → ((segment : ℕ) → e ≡ event.Retire segment → ⊥) → ((segments : ℕ) → e ≡ event.Resize segments → ⊥)
    → LeavesStore e
leaves-store (event.Checkpoint mode moment) checkpoint move retire resize = absurd (checkpoint mode moment refl)
leaves-store (event.Move segment limit moment) checkpoint move retire resize =
    absurd (move segment limit moment refl)
leaves-store (event.Retire segment) checkpoint move retire resize = absurd (retire segment refl)
leaves-store (event.Resize segments) checkpoint move retire resize = absurd (resize segments refl)
leaves-store e checkpoint move retire resize = tt

-- ---- events that write blocks

pub telling-retired : (told : Bool) (old new : Layout) (segment : ℕ) (a : Answer) (gone : List ℕ)
    (before after : List Commit)
    → IsPen old → Does unshared old (event.Retire segment) (Ok a) new
    → (told ≡ true → segment < length old.store.segments.each → gone ≡ numbers_in old.store segment)
    → after ≡ before ++ told_where told (where_any gone (Freed gone))
    → DoesTelling told old (event.Retire segment) (Ok a) new before after
telling-retired true old new segment a gone before after pen does are behind =
    let there =
    retired-inside old.store
    (needed_by old.lists) segment does.becomes.emptied.count does.becomes.emptied.judged in
    telling true old (event.Retire segment) new before after pen (Ok a) (where_any gone (Freed gone)) does behind
    (ap (λ (vs : List ℕ). where_any vs (Freed vs)) (are refl there))
telling-retired false old new segment a gone before after pen does are behind =
    telling false old (event.Retire segment) new before after pen (Ok a) (freed_in old.store segment)
    does behind refl

pub telling-written : (told : Bool) (old new : Layout) (mode : Mode) (moment : ℕ) (batch : Changes)
    (before after : List Commit)
    → IsPen old → HasWrittenBatch mode moment batch old new
    → after ≡ before ++ told_where told (Written (new_checkpoint batch new.lists.table.latest) ∷ [])
    → IsStore new.store → old.store.failures ≤ new.store.failures
    → DoesTelling told old (event.Checkpoint mode moment)
    (Ok (answer.Checkpoint new.lists.table.latest.number)) new before after
telling-written told old new mode moment batch before after pen has behind store counted =
    telling told old (event.Checkpoint mode moment) new before after pen
    (Ok (answer.Checkpoint new.lists.table.latest.number))
    (Written (new_checkpoint has.writes.settled.changes new.lists.table.latest) ∷ [])
    (does-written old new mode moment pen has.writes store counted)
    (behind
    ∙ ap (λ (b : Changes). before ++ told_where told (Written (new_checkpoint b new.lists.table.latest) ∷ []))
    (sym has.batch_is))
    (has.writes, refl)

-- what is noted of segments that are added is told of the store
pub telling-resized : (told : Bool) (old new : Layout) (segments blocks : ℕ) (adds : Bool) (a : Answer)
    (before after : List Commit)
    → IsPen old → Does unshared old (event.Resize segments) (Ok a) new
    → nat_lt (length old.store.segments.each) segments ≡ adds → blocks ≡ old.store.segments.blocks
    → after ≡ before ++ told_where told (where_true adds (Resized segments blocks))
    → DoesTelling told old (event.Resize segments) (Ok a) new before after
telling-resized told old new segments blocks adds a before after pen does adding size behind =
    telling told old (event.Resize segments) new before after pen (Ok a)
    (where_true adds (Resized segments blocks)) does behind
    (ap (λ (n : ℕ). where_true adds (Resized segments n)) size
    ∙ ap (λ (b : Bool). where_true b (Resized segments old.store.segments.blocks)) (sym adding))

-- the checkpoint of a move that moved blocks
pub telling-moved : (told : Bool) (old new : Layout) (segment limit moment : ℕ) (count : MoveCount)
    (minor : Checkpoint) (before after : List Commit)
    → IsPen old → Does unshared old (event.Move segment limit moment) (Ok (moved_answer count)) new
    → 0 < count.moved → new.lists.table.latest ≡ minor
    → after ≡ before ++ told_where told (without_changes minor ∷ [])
    → DoesTelling told old (event.Move segment limit moment) (Ok (moved_answer count)) new before after
telling-moved told old new segment limit moment count minor before after pen does some is behind =
    telling told old (event.Move segment limit moment) new before after pen (Ok (moved_answer count))
    (without_changes minor ∷ []) does behind
    (sym (ap (λ (moving : Bool). where_true moving (without_changes new.lists.table.latest))
    (some-moving count.moved some)
    ∙ ap (λ (k : Checkpoint). without_changes k ∷ []) is))
