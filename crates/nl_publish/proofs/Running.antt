-- Runs of the locked state, one after another.
use Rattle.std.proofs.Common.{ℕ, ◌≡◌, ◌≢◌, ◌+◌, ◌≤◌, Bool, true, false, List, [], ◌∷◌, ◌++◌, refl, subst, ap, sym, ◌∙◌, arith, inl, inr, MatchBool, MatchResult, None, Some, Result, Ok, Err}
use Rattle.nl_types.specs.declared.event.Event.{Event}
use Rattle.nl_types.specs.declared.event.Event.TheVariants.{Mount, Unmount}
use Rattle.nl_types.specs.declared.error.VolError.{VolError}
use Rattle.nl_types.specs.declared.reply.Answer.{Answer}
use Rattle.nl_types.specs.declared.reply.Answer.TheVariants as answer
use Rattle.nl_types.specs.Plain.Runs.{Run}
use Rattle.nl_types.specs.Plain.Worlds.{Reply}
use Rattle.nl_types.specs.Replies.{IsReplyWith}
use Rattle.nl_commit.specs.Layout.{Does, IsPen}
use Rattle.nl_commit.specs.Notes.{shared}
use Rattle.nl_commit.specs.declared.commit.Commit.{Commit}
use Rattle.nl_commit.specs.declared.commit.Commit.TheVariants as commit
use Rattle.nl_commit.specs.Facts.Leading.{runs_lead_on}
use Rattle.nl_commit.specs.Facts.MountEvents.{answers-mount}
use Rattle.nl_publish.specs.Histories.{EndsWith}
use Rattle.nl_publish.specs.Refusals.{HasRefused}
use Rattle.nl_publish.specs.Locks.{Begins, Done, Finished, Goes, GoesBy, HeldPen, IsClear, IsHeldBack, IsPending, IsReady, IsTried, StaysHeld, Lost, LostComesBack, MountGoes, MountRan, MountReply, Mounted, NotedStep, Pending, Ran, Refused, State, Stuck, as_replies, given_back, mount_reply, state_of}
use Rattle.nl_publish.specs.Told.{LockedRunsLeadOn}
use Rattle.nl_publish.proofs.Counting.{refused_on}
use Rattle.nl_publish.proofs.Fronts.{prefix_self, prefix_trans}

run_on : (a b c : State) (es fs : List Event) (rs qs : List Reply) → Run NotedStep a es rs b
    → Run NotedStep b fs qs c
    → Run NotedStep a (es ++ fs) (rs ++ qs) c
run_on a b c [] fs [] qs p q = subst (λ s. Run NotedStep s fs qs c) p q
run_on a b c (e ∷ es) fs (r ∷ rs) qs p q = (p.0, p.1, run_on p.0 b c es fs rs qs p.2 q)
run_on a b c [] fs (r ∷ rs) qs p q = absurd p
run_on a b c (e ∷ es) fs [] qs p q = absurd p

goes_on : (a b c : HeldPen) (es fs : List Event) (rs qs : List Reply) → Goes a es rs b → Goes b fs qs c
    → Goes a (es ++ fs) (rs ++ qs) c
goes_on a b c es fs rs qs p q = record {
  volume = q.volume ∙ p.volume;
  runs = run_on (state_of a) (state_of b) (state_of c) es fs rs qs p.runs q.runs;
  later = prefix_trans a.published b.published c.published p.later q.later;
  counts = omega (arith, p.counts, q.counts);
}

stays : (a : HeldPen) → Goes a [] [] a
stays a = record { volume = refl; runs = refl; later = prefix_self a.published; counts = omega arith }

-- nothing more ran
goes_still : (a b c : HeldPen) (es : List Event) (rs : List Reply) → Goes a es rs b → Goes b [] [] c
    → Goes a es rs c
goes_still a b c es rs p q = record {
  volume = q.volume ∙ p.volume;
  runs = subst (λ s. Run NotedStep (state_of a) es rs s) (sym q.runs) p.runs;
  later = prefix_trans a.published b.published c.published p.later q.later;
  counts = omega (arith, p.counts, q.counts);
}

-- nothing ran, twice
pub keeps_on : (a b c : HeldPen) → StaysHeld a b → StaysHeld b c → StaysHeld a c
keeps_on a b c p q = (goes_still a b c [] [] p.0 q.0, q.1 ∙ p.1)

pub keeps_same : (a b : HeldPen) → b ≡ a → StaysHeld a b
keeps_same a b same = subst (λ (h : HeldPen). StaysHeld h b) same (stays b, refl)

-- commits that waited are noted, or handed over
pub keeps_noted : (a : HeldPen) (volume : ℕ) (history : List Commit) (unsent refusals : ℕ)
    → volume ≡ a.volume → history ≡ a.history → a.refusals ≤ refusals
    → StaysHeld a (record {
      volume = volume;
      published = a.published;
      history = history;
      unsent = unsent;
      lost = a.lost;
      layout = a.layout;
      refusals = refusals;
    })
keeps_noted a volume history unsent refusals same all less = (
  record {
    volume = same;
    runs = ap (λ (log : List Commit). (let s : State = (a.layout, log) in s)) all;
    later = prefix_self a.published;
    counts = less;
  },
  refl,
)

pub goes_by_still : (a b c : HeldPen) (event : Event) (r : Reply) → GoesBy a event r b → StaysHeld b c
    → GoesBy a event r c
goes_by_still a b c event r p q = (goes_still a b c (event ∷ []) (r ∷ []) p.0 q.0, q.1 ∙ p.1)

-- ---- a give-back

-- nothing is lost
pub ready_none : (a : HeldPen) → a.lost ≡ None → IsReady a a
ready_none a none = record {
  backs = [];
  goes = subst (λ o. Goes a (given_back o) [] a) (sym none) (stays a);
  lost = none;
}

-- what was lost is back
pub gave : (a b : HeldPen) (m : ℕ) (x : Answer) → a.lost ≡ Some m → GoesBy a (Unmount m) (Ok x) b
    → IsReady a (record {
      volume = b.volume;
      published = b.published;
      history = b.history;
      unsent = b.unsent;
      lost = None;
      layout = b.layout;
      refusals = b.refusals;
    })
gave a b m x was g =
    let after : HeldPen = record {
      volume = b.volume;
      published = b.published;
      history = b.history;
      unsent = b.unsent;
      lost = None;
      layout = b.layout;
      refusals = b.refusals;
    } in
    let here : Goes a (Unmount m ∷ []) (Ok x ∷ []) after =
    record { volume = g.0.volume; runs = g.0.runs; later = g.0.later; counts = g.0.counts } in
    record {
      backs = x ∷ [];
      goes = subst (λ o. Goes a (given_back o) (Ok x ∷ []) after) (sym was) here;
      lost = refl;
    }

-- it is still lost
pub stuck : (a b : HeldPen) (m : ℕ) (e : VolError) → a.lost ≡ Some m → GoesBy a (Unmount m) (Err e) b
    → IsHeldBack a b
stuck a b m e was g = record { number = m; error = e; was = was; goes = g }

-- ---- publication

pub tried_on : (a b c : HeldPen) → a.refusals ≤ b.refusals → IsTried b c → IsTried a c
tried_on a b c less (inl all) = inl all
tried_on a b c less (inr refused) = inr (refused_on a.refusals b.refusals c.refusals less refused)

-- all that was handed over is shown, or that was refused
pub tried_shown : (a b c : HeldPen) (shown : Bool) → a.refusals ≤ b.refusals → b.unsent ≡ 0
    → MatchBool shown (b.unsent ≡ 0 → c.published ≡ c.history) (HasRefused b.refusals c.refusals)
    → IsTried a c
tried_shown a b c true less none is = inl (is none)
tried_shown a b c false less none is = inr (refused_on a.refusals b.refusals c.refusals less is)

pub is_pending : (a b : HeldPen) → IsTried a b → b.published ≢ b.history → IsPending a b
is_pending a b (inl all) apart = absurd (apart all)
is_pending a b (inr refused) apart = record { apart = apart; refused = refused }

pending_on : (a b c : HeldPen) → a.refusals ≤ b.refusals → IsPending b c → IsPending a c
pending_on a b c less pending = record {
  apart = pending.apart;
  refused = refused_on a.refusals b.refusals c.refusals less pending.refused;
}

-- a lost mount is back, and then all is published, or not
pub ready_still : (a b c : HeldPen) → IsReady a b → StaysHeld b c → IsReady a c
ready_still a b c begun more = record {
  backs = begun.backs;
  goes = goes_still a b c (given_back a.lost) (as_replies begun.backs) begun.goes more.0;
  lost = more.1 ∙ begun.lost;
}

pub begins_then : (a b c : HeldPen) (r : Result (Unit {0}) VolError) → LostComesBack a r b → StaysHeld b c
    → IsTried b c → Begins a r c
begins_then a b c (Ok u) back more tried = ready_still a b c back more
begins_then a b c (Err e) back more tried = (
  back.0,
  record {
    number = back.1.number;
    error = back.1.error;
    was = back.1.was;
    goes = goes_by_still a b c (Unmount back.1.number) (Err back.1.error) back.1.goes more;
    tried = tried_on a b c back.1.goes.0.counts tried;
  },
)

pub back_counts : (a b : HeldPen) (r : Result (Unit {0}) VolError) → LostComesBack a r b
    → a.refusals ≤ b.refusals
back_counts a b (Ok u) back = back.goes.counts
back_counts a b (Err e) back = back.1.goes.0.counts

-- ---- calls of the locked state

pub stepped_tried : (a b c d : HeldPen) (event : Event) (r : Reply) → IsReady a b → GoesBy b event r c
    → IsTried c d → IsTried a d
stepped_tried a b c d event r begun here tried =
    tried_on a c d (omega (arith, begun.goes.counts, here.0.counts)) tried

pub ran : (a b c d : HeldPen) (event : Event) (r : Reply) → IsReady a b → GoesBy b event r c → StaysHeld c d
    → IsTried c d → Ran a event r d
ran a b c d event r begun here more tried =
    let back = given_back a.lost in
    let backs = as_replies begun.backs in
    Done begun.backs
    (goes_still a c d (back ++ event ∷ []) (backs ++ r ∷ [])
    (goes_on a b c back (event ∷ []) backs (r ∷ []) begun.goes here.0) more.0)
    (record {
      lost = more.1 ∙ (here.1 ∙ begun.lost);
      tried = stepped_tried a b c d event r begun here tried;
    })

-- an event was done, without its answer, or refused
pub unmounted : (a b : HeldPen) (m : ℕ) (reply : Reply) (r : Result (Unit {0}) VolError)
    → GoesBy a (Unmount m) reply b
    → MatchResult r (λ _. (x : Answer) × (reply ≡ Ok x)) (λ e. reply ≡ Err e)
    → MatchResult r (λ _. (x : Answer) × GoesBy a (Unmount m) (Ok x) b) (λ e. GoesBy a (Unmount m) (Err e) b)
unmounted a b m reply (Ok u) goes is = (is.0, subst (λ (q : Reply). GoesBy a (Unmount m) q b) is.1 goes)
unmounted a b m reply (Err e) goes is = subst (λ (q : Reply). GoesBy a (Unmount m) q b) is goes

-- an unmount ran, and its answer is dropped
pub ran_unmounted : (a b : HeldPen) (m : ℕ) (reply : Reply) (r : Result (Unit {0}) VolError)
    → Ran a (Unmount m) reply b
    → MatchResult r (λ _. (x : Answer) × (reply ≡ Ok x)) (λ e. reply ≡ Err e)
    → MatchResult r (λ _. (x : Answer) × Ran a (Unmount m) (Ok x) b) (λ e. Ran a (Unmount m) (Err e) b)
ran_unmounted a b m reply (Ok u) ran is = (is.0, subst (λ (q : Reply). Ran a (Unmount m) q b) is.1 ran)
ran_unmounted a b m reply (Err e) ran is = subst (λ (q : Reply). Ran a (Unmount m) q b) is ran

-- ---- mounts

pub pending_still : (a b c : HeldPen) → IsReady a b → IsTried b c → c.published ≢ c.history → IsPending a c
pending_still a b c begun tried apart =
    pending_on a b c begun.goes.counts (is_pending b c tried apart)

pub clear : (a b c : HeldPen) → IsReady a b → StaysHeld b c → c.published ≡ c.history → IsClear a c
clear a b c begun more all = record { ready = ready_still a b c begun more; settled = all }

-- nothing is lost before the mount's own commit is published
pub none_lost : (a c d : HeldPen) (k : ℕ) → IsClear a c → (r : MountReply) → MountGoes c k r d → d.lost ≡ None
none_lost a c d k all (Ok m) here = here.1 ∙ all.ready.lost
none_lost a c d k all (Err e) here = here.1 ∙ all.ready.lost

pub mount_done : (a c d : HeldPen) (k : ℕ) → IsClear a c → (n : ℕ) (r : MountReply) (f : HeldPen)
    → GoesBy c (Mount k) (mount_reply n) d
    → Finished d n r f → MountRan a k r f
mount_done a c d k all n (Ok m) f here end =
    Mounted c n all (goes_still c d f (Mount k ∷ []) (mount_reply n ∷ []) here.0 end.1)
    (ap (λ (x : ℕ). Ok x) end.0) end.2 end.3
mount_done a c d k all n (Err e) f here end =
    Lost c n all (goes_still c d f (Mount k ∷ []) (mount_reply n ∷ []) here.0 end.1)
    (ap (λ (x : VolError). Err x) end.0)
    (pending_on a d f (omega (arith, all.ready.goes.counts, here.0.counts)) end.2) end.3

-- a mount's step adds the commit of the mount that it answers
mount_noted : (a b : State) (k m : ℕ) → NotedStep a (Mount k) (mount_reply m) b
    → b.1 ≡ a.1 ++ commit.Mounted (record { number = m; checkpoint = k }) ∷ []
mount_noted a b k m step = step.behind ∙ ap (λ l. a.1 ++ l) step.noted.commits

-- what a mount that isn't refused leaves
pub record HasMounted (b : HeldPen) (k n : ℕ) : Type 0 where
  pub all : b.published ≡ b.history
  pub ends : EndsWith b.published (commit.Mounted (record { number = n; checkpoint = k }))

pub has_mounted : (a b : HeldPen) (k n : ℕ) (r : MountReply) → r ≡ Ok n → MountRan a k r b → HasMounted b k n
has_mounted a b k n r is (Mounted clear m begun goes reply all none) =
    let same : m ≡ n = cc (is, reply) in
    let behind : b.history ≡ clear.history ++ commit.Mounted (record { number = m; checkpoint = k }) ∷ [] =
    ap (λ (s : State). s.1) goes.runs.2 ∙ mount_noted (state_of clear) goes.runs.0 k m goes.runs.1 in
    record {
      all = all;
      ends = (
        clear.history,
        all
            ∙ (behind
            ∙ ap (λ (j : ℕ). clear.history ++ commit.Mounted (record { number = j; checkpoint = k }) ∷ [])
            same),
      );
    }
has_mounted a b k n r is (Lost clear m begun goes reply apart lost) = absurd (cc (is, reply))
has_mounted a b k n r is (Refused clear e begun goes reply) = absurd (cc (is, reply))
has_mounted a b k n r is (Pending ready apart reply) = absurd (cc (is, reply))
has_mounted a b k n r is (Stuck stuck reply) = absurd (cc (is, reply))

-- a mount that is not refused answers a mount
pub is_mount_reply : (a b : HeldPen) (k : ℕ) (r : Reply) → IsPen a.layout → GoesBy a (Mount k) r b
    → IsReplyWith answer.Mount r
is_mount_reply a b k (Ok x) pen goes =
    (a.layout.lists.given + 1, answers-mount shared a.layout goes.0.runs.0.0 k x pen goes.0.runs.1.does)
is_mount_reply a b k (Err e) pen goes = tt

pub mount_goes : (a b : HeldPen) (k : ℕ) (reply : Reply) (r : MountReply) → GoesBy a (Mount k) reply b
    → MatchResult r (λ m. reply ≡ mount_reply m) (λ e. reply ≡ Err e) → MountGoes a k r b
mount_goes a b k reply (Ok m) goes is = subst (λ (q : Reply). GoesBy a (Mount k) q b) is goes
mount_goes a b k reply (Err e) goes is = subst (λ (q : Reply). GoesBy a (Mount k) q b) is goes

-- ---- worlds

layouts_run : (a b : State) (es : List Event) (rs : List Reply) → Run NotedStep a es rs b
    → Run (Does shared) a.0 es rs b.0
layouts_run a b [] [] run = ap (λ (s : State). s.0) run
layouts_run a b (e ∷ es) (r ∷ rs) run = (run.0.0, run.1.does, layouts_run run.0 b es rs run.2)
layouts_run a b [] (r ∷ rs) run = absurd run
layouts_run a b (e ∷ es) [] run = absurd run

pub locked_runs_lead_on : LockedRunsLeadOn
locked_runs_lead_on old new events replies goes =
    runs_lead_on shared old.layout new.layout events replies
    (layouts_run (state_of old) (state_of new) events replies goes.runs)
