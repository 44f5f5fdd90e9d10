-- Runs under the lock, beside worlds.
use Rattle.std.proofs.Common.{◌≡◌, ◌≢◌, ℕ, List, [], ◌∷◌, ◌++◌, map, Option, Some, None, Err, refl, sym, ap, subst, inl, inr}
use Rattle.std.specs.List.{AllByRecursion}
use Rattle.nl_types.specs.declared.event.Event.{Event}
use Rattle.nl_types.specs.declared.event.Event.TheVariants.{Unmount}
use Rattle.nl_types.specs.declared.reply.Answer.{Answer}
use Rattle.nl_types.specs.Plain.Laws.{GivesBack}
use Rattle.nl_types.specs.Plain.Worlds.{Reply, World}
use Rattle.nl_types.specs.Facts.Runs.{Run-more}
use Rattle.nl_commit.specs.Layout.{DoesIn, MeansWorld}
use Rattle.nl_commit.specs.Notes.{shared}
use Rattle.nl_publish.specs.Locks.{Goes, HeldPen, IsReady, IsStuck, as_replies, given_back, listed}
use Rattle.nl_publish.specs.Mounts.{Claim}
use Rattle.nlvol.specs.SessionLaws.{ComesTo, IsHeldBackTo, Leads, StaysTo, VolumeAndWorld, pen_and_world, with_world}
use Rattle.nlvol.specs.SharedLaws.{DifferAll, IsBeside, IsMountIn, number_of}
use Rattle.nlvol.specs.SharedVolumes.{Sharing}
use Rattle.nlvol.proofs.SharedWorlds.{Beside, Laws, all_hold}
use Rattle.nlvol.proofs.SharedWorldsMounts.{differ_none, differ_rest, each_so, none_is_lost}

-- a world that the volume is beside then, of which this is true
abbrev pub Reached : Sharing → (VolumeAndWorld → Type 0) → Type 0
Reached new IsSo = (after : World) × IsBeside after new × IsSo (with_world new after)

-- the last event of a run
split : (a c : Beside) (es : List Event) (e : Event) (rs : List Reply) (r : Reply)
    → Leads a (es ++ e ∷ []) (rs ++ r ∷ []) c
    → (b : Beside) × Leads a es rs b × DoesIn shared b e r c
split a c [] e [] r run = (a, refl, subst (λ (s : Beside). DoesIn shared a e r s) (sym run.2) run.1)
split a c (x ∷ es) e (y ∷ rs) r run =
    let rest = split run.0 c es e rs r run.2 in
    (rest.0, (run.0, run.1, rest.1), rest.2)
split a c [] e (y ∷ []) r run = absurd run.2
split a c [] e (y ∷ z ∷ rs) r run = absurd run.2
split a c (x ∷ []) e [] r run = absurd run.2
split a c (x ∷ z ∷ es) e [] r run = absurd run.2

-- ---- give-backs

-- the give-back of a lost mount leaves all that are held
back_holds : (laws : Laws) (lost : Option ℕ) (a b : Beside) (replies : List Reply) (claims : List Claim)
    → Leads a (given_back lost) replies b
    → DifferAll (listed lost ++ map number_of claims) → AllByRecursion (IsMountIn a.1) claims
    → AllByRecursion (IsMountIn b.1) claims
back_holds laws None a b [] claims run differ before =
    subst (λ (s : Beside). AllByRecursion (IsMountIn s.1) claims) (sym run) before
back_holds laws None a b (r ∷ rs) claims run differ before = absurd run
back_holds laws (Some n) a b [] claims run differ before = absurd run
back_holds laws (Some n) a b (r ∷ []) claims run differ before =
    let held = all_hold laws a run.0 (Unmount n) r claims run.1
    (each_so (λ (m : Claim). m.number ≢ n) (λ (m : Claim). GivesBack (Unmount n) m.number → ⊥)
    (λ m other same. other (sym same)) claims
    (none_is_lost (Some n) n claims refl differ)) before in
    subst (λ (s : Beside). AllByRecursion (IsMountIn s.1) claims) (sym run.2) held
back_holds laws (Some n) a b (r ∷ q ∷ rs) claims run differ before = absurd run.2

-- ---- an event behind a give-back

-- a run that gives a lost mount back, and then does an event
pub record IsBehind (w : World) (old : HeldPen) (event : Event) (reply : Reply) (new : HeldPen) : Type 0 where
  pub backs : List Answer
  pub middle : Beside
  pub after : World
  pub begins : Leads (old.layout, w) (given_back old.lost) (as_replies backs) middle
  pub does : DoesIn shared middle event reply (new.layout, after)
  -- the world before the event is one too
  pub means : MeansWorld middle.0 middle.1

back_means : (a b : Beside) (events : List Event) (replies : List Reply) → Leads a events replies b
    → MeansWorld a.0 a.1 → MeansWorld b.0 b.1
back_means a b [] [] run means = subst (λ (s : Beside). MeansWorld s.0 s.1) (sym run) means
back_means a b (e ∷ es) (r ∷ rs) run means = back_means run.0 b es rs run.2 run.1.means
back_means a b [] (r ∷ rs) run means = absurd run
back_means a b (e ∷ es) [] run means = absurd run

-- one run of both
pub behind_whole : (laws : Laws) (w : World) (old new : HeldPen) (event : Event) (reply : Reply)
    (backs : List Answer)
    → MeansWorld old.layout w
    → Goes old (given_back old.lost ++ event ∷ []) (as_replies backs ++ reply ∷ []) new
    → IsBehind w old event reply new
behind_whole laws w old new event reply backs means goes =
    let leads =
    laws.leads old new (given_back old.lost ++ event ∷ [])
    (as_replies backs ++ reply ∷ []) goes w means in
    let parts =
    split (old.layout, w) (new.layout, leads.after) (given_back old.lost) event
    (as_replies backs) reply leads.run in
    record {
      backs = backs;
      middle = parts.0;
      after = leads.after;
      begins = parts.1;
      does = parts.2;
      means = back_means (old.layout, w) parts.0 (given_back old.lost) (as_replies backs) parts.1 means;
    }

-- a run of each, of which the first leads to this pen
pub behind_ready : (laws : Laws) (w : World) (old clear new : HeldPen) (event : Event) (reply : Reply)
    → MeansWorld old.layout w → IsReady old clear
    → Goes clear (event ∷ []) (reply ∷ []) new
    → (behind : IsBehind w old event reply new) × (behind.middle.0 ≡ clear.layout)
behind_ready laws w old clear new event reply means ready goes =
    let first = laws.leads old clear (given_back old.lost) (as_replies ready.backs) ready.goes w means in
    let then = laws.leads clear new (event ∷ []) (reply ∷ []) goes first.after first.means in (
      record {
        backs = ready.backs;
        middle = (clear.layout, first.after);
        after = then.after;
        begins = first.run;
        does =
            subst (λ (s : Beside). DoesIn shared (clear.layout, first.after) event reply s)
            (sym then.run.2) then.run.1;
        means = first.means;
      },
      refl,
    )

module _ (laws : Laws) (w : World) (old new : Sharing) (event : Event) (reply : Reply)
    (before : IsBeside w old)
    (behind : IsBehind w old.held event reply new.held) where
  -- the mounts that were held are there before the event
  pub held_before : AllByRecursion (IsMountIn behind.middle.1) old.mounts
  held_before =
      back_holds laws old.held.lost (old.held.layout, w) behind.middle
      (as_replies behind.backs) old.mounts behind.begins before.numbers before.mounts

  -- so the event comes behind
  comes : IsBeside behind.after new → Reached new (ComesTo (with_world old w) event reply)
  comes beside = (
    behind.after,
    beside,
    (
      behind.backs,
      Run-more (DoesIn shared) (old.held.layout, w) behind.middle (new.held.layout, behind.after)
          (given_back old.held.lost)
          (as_replies behind.backs) event reply behind.begins behind.does,
    ),
  )

  -- where the mounts that are held then are there
  pub comes_behind : AllByRecursion (IsMountIn behind.after) new.mounts
      → DifferAll (listed new.held.lost ++ map number_of new.mounts)
      → Reached new (ComesTo (with_world old w) event reply)
  comes_behind mounts numbers =
      comes (record { means = behind.does.means; mounts = mounts; numbers = numbers })

  -- and nothing is lost then
  pub comes_clear : new.held.lost ≡ None → AllByRecursion (IsMountIn behind.after) new.mounts
      → DifferAll (map number_of new.mounts)
      → Reached new (ComesTo (with_world old w) event reply)
  comes_clear none mounts numbers =
      comes_behind mounts (differ_none new.held.lost (map number_of new.mounts) none numbers)

  -- or the event gives none of them back
  pub still_beside : new.held.lost ≡ None → new.mounts ≡ old.mounts
      → AllByRecursion (λ (m : Claim). GivesBack event m.number → ⊥) old.mounts
      → IsBeside behind.after new
  still_beside none same others = record {
    means = behind.does.means;
    mounts = subst (AllByRecursion (IsMountIn behind.after)) (sym same)
        (all_hold laws behind.middle
        (new.held.layout, behind.after) event reply old.mounts behind.does others held_before);
    numbers = differ_none new.held.lost (map number_of new.mounts) none
        (subst (λ (claims : List Claim). DifferAll (map number_of claims)) (sym same)
        (differ_rest old.held.lost (map number_of old.mounts) before.numbers));
  }

  pub comes_same : new.held.lost ≡ None → new.mounts ≡ old.mounts
      → AllByRecursion (λ (m : Claim). GivesBack event m.number → ⊥) old.mounts
      → Reached new (ComesTo (with_world old w) event reply)
  comes_same none same others = comes (still_beside none same others)

-- ---- runs without an event

module _ (laws : Laws) (w : World) (old new : Sharing) (before : IsBeside w old)
    (same : new.mounts ≡ old.mounts) where
  -- just a give-back
  leads_back : (replies : List Reply) → Goes old.held (given_back old.held.lost) replies new.held
      → DifferAll (listed new.held.lost ++ map number_of old.mounts)
      → Reached new (λ u. Leads (old.held.layout, w) (given_back old.held.lost) replies (pen_and_world u))
  leads_back replies goes numbers =
      let leads = laws.leads old.held new.held (given_back old.held.lost) replies goes w before.means in (
        leads.after,
        record {
          means = leads.means;
          mounts = subst (AllByRecursion (IsMountIn leads.after)) (sym same)
              (back_holds laws old.held.lost (old.held.layout, w)
              (new.held.layout, leads.after) replies old.mounts leads.run before.numbers before.mounts);
          numbers =
              subst (λ (claims : List Claim). DifferAll (listed new.held.lost ++ map number_of claims))
              (sym same) numbers;
        },
        leads.run,
      )

  -- the lost mount is back
  pub stays_ready : IsReady old.held new.held → Reached new (StaysTo (with_world old w))
  stays_ready ready =
      let back = leads_back (as_replies ready.backs) ready.goes
      (differ_none new.held.lost (map number_of old.mounts) ready.lost
      (differ_rest old.held.lost (map number_of old.mounts) before.numbers)) in
      (back.0, back.1, inr (ready.backs, back.2))

  -- its give-back was refused
  pub held_back : IsStuck old.held new.held → Reached new (IsHeldBackTo (with_world old w))
  held_back stuck =
      let back = leads_back (Err stuck.error ∷ [])
      (subst (λ (o : Option ℕ). Goes old.held (given_back o) (Err stuck.error ∷ []) new.held)
      (sym stuck.was) stuck.goes.0)
      (subst (λ (o : Option ℕ). DifferAll (listed o ++ map number_of old.mounts))
      (sym stuck.goes.1) before.numbers) in (
        back.0,
        back.1,
        record {
          number = stuck.number;
          error = stuck.error;
          was = stuck.was;
          leads =
              subst
              (λ (o : Option ℕ). Leads (old.held.layout, w) (given_back o) (Err stuck.error ∷ [])
              (new.held.layout, back.0)) stuck.was back.2;
        },
      )

-- nothing at all
pub stays_so : (w : World) (old new : Sharing) → IsBeside w old → new ≡ old
    → Reached new (StaysTo (with_world old w))
stays_so w old new before same =
    (w, subst (IsBeside w) (sym same) before, inl (ap (λ (s : Sharing). (s.held.layout, w)) same))
