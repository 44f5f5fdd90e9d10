-- What a line comes to, by what its parts came to.
use Rattle.std.proofs.Common.{◌≡◌, ◌∙◌, ◌⊎◌, ap, sym, refl, subst, inl, inr, List, ℕ, Bool, Option, Result, OnOk}
use Rattle.std.specs.Io.KnownBytes.{Appends}
use Rattle.nl_types.specs.Plain.Worlds.{Reply}
use Rattle.nl_types.specs.declared.error.VolError.TheVariants as error
use Rattle.nl_types.specs.declared.event.Event.{Event}
use Rattle.nl_commands.specs.declared.command.Command.{Command}
use Rattle.nl_commands.specs.declared.command.Command.TheVariants.{Catm, Lssu}
use Rattle.nl_commit.specs.Layout.{Layout}
use Rattle.nl_script.specs.Facts.Appending.{OnOk-same}
use Rattle.nl_script.specs.Texts.{Text}
use Rattle.nl_script.specs.ExitStatus.{status_of}
use Rattle.nl_protect.specs.declared.config.Config.{Config}
use Rattle.nl_script.specs.Habits.{Habits}
use Rattle.nl_script.specs.Lines.{AreEventsDone, AreOutcomesTold, AreFilesTold, ComesTo, IsCommandDone, LacksMemory, LineEnd, line_end, listed, refused}
use Rattle.nl_script.specs.OutcomeTexts.{text_of}
use Rattle.nl_script.specs.Outcomes.{is_quiet}
use Rattle.nl_script.specs.declared.status.Status.{Status}

same : {A : Type 0} (f : Bool → List Event → List Reply → A) (b c : Bool) (es events : List Event)
    (rs replies : List Reply)
    → b ≡ c → es ≡ events → rs ≡ replies → f b es rs ≡ f c events replies
same f b c es events rs replies first second third =
    ap (λ (x : Bool). f x es rs) first
    ∙ (ap (λ (xs : List Event). f c xs rs) second ∙ ap (λ (ys : List Reply). f c events ys) third)

-- the events of a command are done and told
pub told_end : {S X E : Type 0} (does : S → Event → Reply → S → Type 0) (shown : Layout)
    (number moment : ℕ) (command : Command)
    (old new : S) (events es : List Event) (replies rs : List Reply) (quiet : Bool)
    (result : Status × Result X E) (before after : Option Text)
    → quiet ≡ is_quiet command → es ≡ events → rs ≡ replies
    → AreEventsDone does shown moment command events replies old new
    → result.0 ≡ status_of quiet es rs → OnOk result.1 (Appends before after (text_of number quiet es rs))
    → ComesTo (λ end.
    AreOutcomesTold does shown number moment command old new end ⊎ LacksMemory number moment old new end)
    moment result before after
told_end does shown number moment command old new events es replies rs quiet result before after quiet_is
    events_are replies_are done status_is written =
    let text : Text = text_of number (is_quiet command) events replies in
    let status =
    same status_of quiet (is_quiet command) es events rs replies quiet_is events_are replies_are in
    let texts =
    same (text_of number) quiet (is_quiet command) es events rs replies quiet_is events_are replies_are in
    record {
      text = text;
      does = inl (record {
        events = events;
        replies = replies;
        done = done;
        end_is = ap (λ (s : Status). line_end moment s text) (status_is ∙ status);
      });
      written = OnOk-same result.1 before after _ _ texts written;
    }

listing_cases : {S J : Type 0} (habits : Habits S J) (config : Config) (number moment : ℕ) (all long : Bool)
    (old : S) (end : LineEnd)
    → (end ≡ listed moment all long (habits.view old)) ⊎ (end ≡ refused number moment error.Memory)
    → IsCommandDone habits config number moment (Lssu all long) old old end
    ⊎ LacksMemory number moment old old end
listing_cases habits config number moment all long old end (inl told) = inl (refl, told)
listing_cases habits config number moment all long old end (inr lacks) = inr (refl, lacks)

-- segments are listed
pub listing_end : {S J X E : Type 0} (habits : Habits S J) (config : Config) (number moment : ℕ)
    (all long : Bool) (command : Command) (old : S) (shown : Layout)
    (result : Status × Result X E) (before after : Option Text) → command ≡ Lssu all long
    → shown ≡ habits.view old
    → ComesTo
    (λ end. (end ≡ listed moment all long shown) ⊎ (end ≡ refused number moment error.Memory))
    moment result before after
    → ComesTo (λ end.
    IsCommandDone habits config number moment command old old end ⊎ LacksMemory number moment old old end)
    moment result before after
listing_end habits config number moment all long command old shown result before after is view told =
    let end = line_end moment result.0 told.text in
    let does =
    subst
    (λ (l : Layout). (end ≡ listed moment all long l) ⊎ (end ≡ refused number moment error.Memory)) view
    told.does in
    record {
      text = told.text;
      does =
          subst (λ (c : Command).
          IsCommandDone habits config number moment c old old end ⊎ LacksMemory number moment old old end)
          (sym is) (listing_cases habits config number moment all long old end does);
      written = told.written;
    }

-- files are told of
pub files_told_end : {S J X E : Type 0} (habits : Habits S J) (config : Config) (number moment mount : ℕ)
    (given paths : List (List ℕ)) (command : Command) (old new : S)
    (result : Status × Result X E) (before after : Option Text) → command ≡ Catm mount paths → given ≡ paths
    → ComesTo (λ end.
    AreFilesTold habits.does number moment mount given old new end ⊎ LacksMemory number moment old new end)
    moment result before after
    → ComesTo (λ end.
    IsCommandDone habits config number moment command old new end ⊎ LacksMemory number moment old new end)
    moment result before after
files_told_end habits config number moment mount given paths command old new result before after is same
    told =
    let end = line_end moment result.0 told.text in
    let done =
    subst (λ (ps : List (List ℕ)).
    AreFilesTold habits.does number moment mount ps old new end ⊎ LacksMemory number moment old new end)
    same told.does in
    record {
      text = told.text;
      does =
          subst (λ (c : Command).
          IsCommandDone habits config number moment c old new end ⊎ LacksMemory number moment old new end)
          (sym is) done;
      written = told.written;
    }
