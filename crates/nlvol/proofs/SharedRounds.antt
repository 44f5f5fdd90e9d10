-- Rounds on a shared volume end.
use Rattle.std.proofs.Common.{◌≡◌, ◌<◌, ℕ, refl, List, [], ◌∷◌, Option, Some, None, Ok, Err, sym, subst}
use Rattle.std.specs.Prelude.{OnSome}
use Rattle.nl_types.specs.declared.error.VolError.TheVariants.{Memory}
use Rattle.nl_types.specs.declared.event.Event.{Event}
use Rattle.nl_types.specs.declared.event.Event.TheVariants.{Unmount}
use Rattle.nl_types.specs.declared.reply.Answer.{Answer}
use Rattle.nl_types.specs.Plain.Runs.{Run}
use Rattle.nl_types.specs.Plain.Worlds.{Reply}
use Rattle.nl_commit.specs.Layout.{Does, IsPen, Layout}
use Rattle.nl_commit.specs.Notes.{shared}
use Rattle.nl_commit.specs.Rounds.{RoundHabits, RoundsEnd}
use Rattle.nl_publish.specs.Cleaning.{CleanRan, NotBegun, Over, Stepped}
use Rattle.nl_publish.specs.Locks.{GoesBy, HeldPen, NotedStep, State, as_replies, given_back, state_of}

-- behind a give-back a round has as many steps
record IsAsLong {J : Type 0} (rounds : RoundHabits J) (round : J) (old new : Layout) : Type 0 where
  pub pen : IsPen new
  pub same : rounds.left round new ≡ rounds.left round old

-- the event of a step, alone
does_one : (old new : HeldPen) (event : Event) (reply : Reply) → GoesBy old event reply new
    → Does shared old.layout event reply new.layout
does_one old new event reply goes =
    let run = goes.0.runs in
    subst (λ (s : State). Does shared old.layout event reply s.0) (sym run.2) run.1.does

module _ {J : Type 0} (rounds : RoundHabits J) (end : RoundsEnd rounds) where
  as_long : (round : J) (old new : State) (lost : Option ℕ) (backs : List Answer) → IsPen old.0
      → Run NotedStep old (given_back lost) (as_replies backs) new → IsAsLong rounds round old.0 new.0
  as_long round old new None [] pen run =
      subst (λ (s : State). IsAsLong rounds round old.0 s.0) (sym run) (record { pen = pen; same = refl })
  as_long round old new None (a ∷ backs) pen run = absurd run
  as_long round old new (Some m) [] pen run = absurd run
  as_long round old new (Some m) (a ∷ []) pen run =
      subst (λ (s : State). IsAsLong rounds round old.0 s.0) (sym run.2) (record {
        pen = run.1.does.pen;
        same = end.unmounts old.0 run.0.0 round m (Ok a) pen run.1.does;
      })
  as_long round old new (Some m) (a ∷ b ∷ backs) pen run = absurd run.2

  -- where a step was done or refused, fewer are left
  abbrev IsFewer : HeldPen → J → Option Reply → HeldPen → J → Type 0
  IsFewer old round reply new next =
      OnSome reply (rounds.left next new.layout < rounds.left round old.layout)

  pub fewer_left : (old new : HeldPen) (round next : J) (first : Event) (reply : Option Reply)
      → IsPen old.layout → rounds.next round old.layout ≡ Some first
      → CleanRan rounds old round reply new next → IsFewer old round reply new next
  fewer_left old new round next first reply pen there
      (Stepped begun event answer ready is_next goes replied noted_so tried) =
      let long = as_long round (state_of old) (state_of begun) old.lost ready.backs pen ready.goes.runs in
      let fewer : rounds.left (rounds.noted round answer) new.layout < rounds.left round begun.layout =
      end.steps begun.layout new.layout round event answer long.pen is_next
      (does_one begun new event answer goes) in
      subst (λ (r : Option Reply). IsFewer old round r new next) (sym replied)
      (subst (λ (n : ℕ). rounds.left next new.layout < n) long.same
      (subst (λ (j : J). rounds.left j new.layout < rounds.left round begun.layout) (sym noted_so) fewer))
  fewer_left old new round next first reply pen there (Over ready none replied same tried) =
      subst (λ (r : Option Reply). IsFewer old round r new next) (sym replied) tt
  fewer_left old new round next first reply pen there (NotBegun stuck replied noted_so) =
      let same = end.unmounts old.layout new.layout (rounds.noted round (Err Memory)) stuck.number
      (Err stuck.error) pen
      (does_one old new (Unmount stuck.number) (Err stuck.error) stuck.goes) in
      subst (λ (r : Option Reply). IsFewer old round r new next) (sym replied)
      (subst (λ (j : J). rounds.left j new.layout < rounds.left round old.layout) (sym noted_so)
      (subst (λ (n : ℕ). n < rounds.left round old.layout) (sym same)
      (end.refusals old.layout round first there)))
