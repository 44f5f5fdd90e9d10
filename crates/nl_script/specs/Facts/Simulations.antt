-- Lines on a volume, and on one that simulates it.
use Rattle.std.proofs.Common.{◌≡◌, ◌∙◌, ℕ, ◌+◌, List, [], ◌∷◌, Some, None, Ok, Err, ap, refl, sym, subst, inl, inr}
use Rattle.nl_types.specs.Plain.Runs.{Run}
use Rattle.nl_types.specs.Plain.Worlds.{Reply}
use Rattle.nl_types.specs.declared.event.Event.{Event}
use Rattle.nl_commands.specs.LineMeanings.{LineRead}
use Rattle.nl_commands.specs.declared.command.Command.{Command}
use Rattle.nl_commands.specs.declared.command.Command.TheVariants.{At, Catm, Clean, Lssu}
use Rattle.nl_commands.specs.declared.error.LineError.TheVariants.{Usage, Memory}
use Rattle.nl_protect.specs.declared.config.Config.{Config}
use Rattle.nl_commit.specs.Layout.{Layout}
use Rattle.nl_script.specs.Simulations.{IsSimulation, LinesAreSimulated}
use Rattle.nl_script.specs.Habits.{Habits}
use Rattle.nl_script.specs.Lines.{AreFilesTold, AreOutcomesTold, IsCommandDone, IsLatestFor, IsLineAnswered, IsReadDone, IsRoundDone, LacksMemory, LineEnd, listed}
use Rattle.nl_script.specs.Rounds.{AreSteps}
use Rattle.nl_script.specs.Scripts.{number_behind}

module _ {S T J : Type 0} (one : Habits S J) (other : Habits T J) (IsBeside : S → T → Type 0)
    (simulation : IsSimulation one other IsBeside) where
  -- a state of the other that is beside this one, and of which this is true
  abbrev Reached : (new : S) → (T → Type 0) → Type 0
  Reached new IsSo = (u : T) × IsBeside new u × IsSo u

  -- ---- events and steps

  run_simulated : (events : List Event) (replies : List Reply) (old new : S) (t : T) → IsBeside old t
      → Run one.does old events replies new → Reached new (Run other.does t events replies)
  run_simulated [] [] old new t beside run = (t, subst (λ (s : S). IsBeside s t) (sym run) beside, refl)
  run_simulated (e ∷ es) (r ∷ rs) old new t beside run =
      let next = simulation.does old run.0 t e r beside run.1 in
      let rest = run_simulated es rs run.0 new next.0 next.1 run.2 in
      (rest.0, rest.1, (next.0, next.2, rest.2))
  run_simulated [] (r ∷ rs) old new t beside run = absurd run
  run_simulated (e ∷ es) [] old new t beside run = absurd run

  steps_simulated : (replies : List Reply) (job later : J) (old new : S) (t : T) → IsBeside old t
      → AreSteps one.steps job old replies later new
      → Reached new (AreSteps other.steps job t replies later)
  steps_simulated [] job later old new t beside done =
      (t, subst (λ (s : S). IsBeside s t) (sym done.1) beside, (done.0, refl))
  steps_simulated (r ∷ rs) job later old new t beside done =
      let step = simulation.steps old done.0 t job done.1 (Some r) beside done.2 in
      let rest = steps_simulated rs done.1 later done.0 new step.0 step.1 done.3 in
      (rest.0, rest.1, (step.0, done.1, step.2, rest.2))

  round_simulated : (config : Config) (number moment : ℕ) (old new : S) (end : LineEnd) (t : T) → IsBeside old t
      → IsRoundDone one config number moment old new end
      → Reached new (λ u. IsRoundDone other config number moment t u end)
  round_simulated config number moment old new end t beside done =
      let over = done.over in
      let steps = steps_simulated over.replies done.job over.later old over.mid t beside over.done in
      let last = simulation.steps over.mid new steps.0 over.later over.last None steps.1 over.over in
      let planned =
      subst (λ (l : Layout). one.rounds.plans l config moment done.job) (simulation.views old t beside)
      done.planned in (
        last.0,
        last.1,
        record {
          job = done.job;
          planned = simulation.plans (other.view t) config moment done.job planned;
          sum = done.sum;
          over = record {
            replies = over.replies;
            later = over.later;
            mid = steps.0;
            done = steps.2;
            last = over.last;
            over = last.2;
            sum_is = over.sum_is;
          };
          end_is = done.end_is;
        },
      )

  files_simulated : (number moment mount : ℕ) (paths : List (List ℕ)) (old new : S) (end : LineEnd) (t : T)
      → IsBeside old t → AreFilesTold one.does number moment mount paths old new end
      → Reached new (λ u. AreFilesTold other.does number moment mount paths t u end)
  files_simulated number moment mount paths old new end t beside told =
      let run = run_simulated _ told.replies old new t beside told.run in
      (run.0, run.1, record { replies = told.replies; run = run.2; end_is = told.end_is })

  outcomes_simulated : (number moment : ℕ) (command : Command) (old new : S) (end : LineEnd) (t : T)
      → IsBeside old t → AreOutcomesTold one.does (one.view old) number moment command old new end
      → Reached new (λ u. AreOutcomesTold other.does (other.view t) number moment command t u end)
  outcomes_simulated number moment command old new end t beside told =
      let done = told.done in
      let run = run_simulated told.events told.replies old new t beside done.run in (
        run.0,
        run.1,
        record {
          events = told.events;
          replies = told.replies;
          done = record {
            latest = done.latest;
            latest_is = subst (λ (l : Layout). IsLatestFor l command done.latest)
                (simulation.views old t beside) done.latest_is;
            events_are = done.events_are;
            run = run.2;
          };
          end_is = told.end_is;
        },
      )

  -- ---- lines

  -- nothing is done
  same_simulated : (old new : S) (t : T) → IsBeside old t → new ≡ old → (IsSo : T → Type 0) → IsSo t
      → Reached new IsSo
  same_simulated old new t beside same IsSo so = (t, subst (λ (s : S). IsBeside s t) (sym same) beside, so)

  command_simulated : (config : Config) (number moment : ℕ) (command : Command) (old new : S) (end : LineEnd)
      (t : T) → IsBeside old t → IsCommandDone one config number moment command old new end
      → Reached new (λ u. IsCommandDone other config number moment command t u end)
  command_simulated config number moment (At later) old new end t beside done =
      same_simulated old new t beside done.0 _ (refl, done.1)
  command_simulated config number moment (Lssu all long) old new end t beside done =
      same_simulated old new t beside done.0 _
      (refl, done.1 ∙ ap (listed moment all long) (simulation.views old t beside))
  command_simulated config number moment (Catm mount paths) old new end t beside done =
      files_simulated number moment mount paths old new end t beside done
  command_simulated config number moment Clean old new end t beside done =
      round_simulated config number moment old new end t beside done
  command_simulated config number moment command old new end t beside done =
      outcomes_simulated number moment command old new end t beside done

  lacking_simulated : (number moment : ℕ) (old new : S) (end : LineEnd) (t : T) → IsBeside old t
      → LacksMemory number moment old new end → Reached new (λ u. LacksMemory number moment t u end)
  lacking_simulated number moment old new end t beside lacks =
      same_simulated old new t beside lacks.0 _ (refl, lacks.1)

  read_simulated : (config : Config) (number moment : ℕ) (read : LineRead) (old new : S) (end : LineEnd) (t : T)
      → IsBeside old t → IsReadDone one config number moment read old new end
      → Reached new (λ u. IsReadDone other config number moment read t u end)
  read_simulated config number moment (Err Usage) old new end t beside done =
      same_simulated old new t beside done.0 _ (refl, done.1)
  read_simulated config number moment (Err Memory) old new end t beside done =
      lacking_simulated number moment old new end t beside done
  read_simulated config number moment (Ok None) old new end t beside done =
      same_simulated old new t beside done.0 _ (refl, done.1)
  read_simulated config number moment (Ok (Some command)) old new end t beside done = elim done [
    | inl does ↦
        let so = command_simulated config number moment command old new end t beside does in
        (so.0, so.1, inl so.2)
    | inr lacks ↦
        let so = lacking_simulated number moment old new end t beside lacks in
        (so.0, so.1, inr so.2)
  ]

  line_simulated : (config : Config) (number moment : ℕ) (line : List ℕ) (old new : S) (end : LineEnd) (t : T)
      → IsBeside old t → IsLineAnswered one config number moment line old new end
      → Reached new (λ u. IsLineAnswered other config number moment line t u end)
  line_simulated config number moment line old new end t beside answered = elim answered [
    | inl done ↦
        let so = read_simulated config number moment done.read old new end t beside done.does in
        (so.0, so.1, inl (record { read = done.read; means = done.means; does = so.2 }))
    | inr lacks ↦
        let so = lacking_simulated number moment old new end t beside lacks in
        (so.0, so.1, inr so.2)
  ]

  pub lines_simulated : LinesAreSimulated one other IsBeside
  lines_simulated config count moment [] old new [] t beside done =
      same_simulated old new t beside done _ refl
  lines_simulated config count moment (line ∷ lines) old new (end ∷ ends) t beside done =
      let first = line_simulated config (number_behind count) moment line old done.0 end t beside done.1 in
      let rest = lines_simulated config (count + 1) end.moment lines done.0 new ends first.0 first.1 done.2 in
      (rest.0, rest.1, (first.0, first.2, rest.2))
  lines_simulated config count moment [] old new (end ∷ ends) t beside done = absurd done
  lines_simulated config count moment (line ∷ lines) old new [] t beside done = absurd done
