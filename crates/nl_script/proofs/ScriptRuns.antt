-- A script's lines so far, and what comes of it at its end.
use Rattle.std.proofs.Common.{◌≡◌, ◌∙◌, ◌+◌, ◌<◌, ◌⊎◌, ◌++◌, ap, sym, refl, subst, append-nil, inl, inr, List, ◌∷◌, [], ℕ, Bool, true, false, true≢false, cond, Option, None, Some, IfSome, length, arith}
use Rattle.std.proofs.KnownBytes.{Appends-trans, Appends-nil}
use Rattle.std.proofs.lemmas.Grind.{common_steps, flat_map-append}
use Rattle.std.proofs.lemmas.List.Folds.{list_any-append}
use Rattle.std.specs.Io.BufRead.{first_piece, drop_through, DropsThrough}
use Rattle.std.specs.Io.KnownBytes.{Appends, IsAtEnd}
use Rattle.std.specs.List.{list_any, flat_map}
use Rattle.std.specs.Prelude.{◌||◌, ◌-◌, ◌^◌}
use Rattle.nl_script.specs.Texts.{Text}
use Rattle.nl_script.specs.declared.texts.streams.StandardStream.{StandardStream}
use Rattle.nl_script.specs.declared.texts.streams.StandardStream.TheVariants as stream
use Rattle.nl_protect.specs.declared.config.Config.{Config}
use Rattle.nl_script.specs.Habits.{Habits}
use Rattle.nl_script.specs.Lines.{IsLineAnswered, LineEnd}
use Rattle.nl_script.specs.Scripts.{AreLinesDone, AreWritten, BeginsSo, BeginsWithLines, IsRunSoFar, IsScriptDone, ends_misread, ends_refused, last_moment, number_behind, text_of_line, texts_of}
use Rattle.nl_script.specs.Private.Turns.{HasDoneLine, HasNoLine, HasStopped, IsNextLine}
use Rattle.nl_script.specs.declared.texts.ends.Done.{Done}
use Rattle.nl_script.proofs.ScriptLines.{AreLinesDone-more, BeginsWithLines-more, last_moment-more}

or-false : (b : Bool) → (b || false) ≡ b
or-false true = refl
or-false false = refl

any-more : (p : LineEnd → Bool) (ends : List LineEnd) (end : LineEnd)
    → list_any p (ends ++ end ∷ []) ≡ (list_any p ends || p end)
any-more p ends end =
    list_any-append p ends (end ∷ []) ∙ ap (λ (b : Bool). list_any p ends || b) (or-false (p end))

texts-more : (ends : List LineEnd) (end : LineEnd) → texts_of ends ++ end.text ≡ texts_of (ends ++ end ∷ [])
texts-more ends end =
    sym (flat_map-append text_of_line ends (end ∷ [])
    ∙ ap (λ (t : Text). flat_map text_of_line ends ++ t) (append-nil end.text))

begins_at : (input : Option (List ℕ)) → BeginsSo input [] input
begins_at None = tt
begins_at (Some bytes) = (bytes, refl, refl)

begins-more : (input left behind : Option (List ℕ)) (lines : List (List ℕ)) (line : List ℕ)
    → BeginsSo input lines left
    → IsNextLine left behind line → BeginsSo input (lines ++ line ∷ []) behind
begins-more None left behind lines line begins next = tt
begins-more (Some bytes) left behind lines line begins next =
    let here =
    subst (λ (o : Option (List ℕ)). IfSome o (λ xs. (0 < length xs) × (line ≡ first_piece 10 xs)))
    begins.1 next.is_next in (
      drop_through 10 begins.0,
      subst (λ (o : Option (List ℕ)). DropsThrough o behind 10) begins.1 next.behind,
      BeginsWithLines-more bytes lines begins.0 line begins.2 here.0 here.1,
    )

-- how much of the input is read
abbrev pub IsReadUpTo : Option (List ℕ) → List (List ℕ) → Option StandardStream → Type 0
IsReadUpTo input lines failed =
    IfSome input (λ bytes. (rest : List ℕ) × BeginsWithLines bytes lines rest × (failed ≡ None → rest ≡ []))

some-none : (s : StandardStream) → Some s ≡ None → ⊥
some-none s h = cc

begun : (input left : Option (List ℕ)) (lines : List (List ℕ)) (failed : Option StandardStream)
    (s : StandardStream)
    → failed ≡ Some s
    → BeginsSo input lines left → IsReadUpTo input lines failed
begun None left lines failed s is begins = tt
begun (Some bytes) left lines failed s is begins =
    (begins.0, begins.2, λ fine. absurd (some-none s (sym is ∙ fine)))

read_whole : (input left : Option (List ℕ)) (lines : List (List ℕ)) (failed : Option StandardStream)
    → IsAtEnd left → BeginsSo input lines left
    → IsReadUpTo input lines failed
read_whole None left lines failed end begins = tt
read_whole (Some bytes) left lines failed end begins =
    (begins.0, begins.2, λ fine. subst (λ (o : Option (List ℕ)). IsAtEnd o) begins.1 end)

module _ {S J O : Type 0} (habits : Habits S J) (config : Config) (moment : ℕ) (old : S)
    (input : Option (List ℕ)) (contents : O → Option Text) (before : O) where
  abbrev SoFar : (now : S) → Done → (number : ℕ) → (left : Option (List ℕ)) → (written : O) → Type 0
  SoFar now done number left written =
      IsRunSoFar habits config moment old now done number input left (contents before) (contents written)

  abbrev Ends : (now : S) → Done → (after : O) → Type 0
  Ends now done after = IsScriptDone habits config moment old now done input contents before after

  -- no line is done
  pub run-start : (done : Done) → done.moment ≡ moment → done.misread ≡ false → done.refused ≡ false
      → SoFar old done 1 input before
  run-start done moment_is misread_is refused_is = record {
    lines = [];
    ends = [];
    are_done = refl;
    number_is = refl;
    moment_is = moment_is;
    misread_is = misread_is;
    refused_is = refused_is;
    written = Appends-nil (contents before);
    read = begins_at input;
  }

  module _ (mid : S) (done : Done) (number : ℕ) (left : Option (List ℕ)) (written : O)
      (so_far : SoFar mid done number left written) (fine : done.failed ≡ None) where
    -- the input can't be read
    pub ends-unread : (after : O) → contents after ≡ contents written
        → Ends mid (record done { failed = Some stream.Input }) after
    ends-unread after same = record {
      lines = so_far.lines;
      ends = so_far.ends;
      are_done = so_far.are_done;
      moment_is = so_far.moment_is;
      misread_is = so_far.misread_is;
      refused_is = so_far.refused_is;
      written =
          subst (λ (o : Option Text). Appends (contents before) o (texts_of so_far.ends))
          (sym same) so_far.written;
      read = begun input left so_far.lines (Some stream.Input) stream.Input refl so_far.read;
    }

    -- the input ends
    pub ends-whole : (after : O) → contents after ≡ contents written → IsAtEnd left → Ends mid done after
    ends-whole after same end = record {
      lines = so_far.lines;
      ends = so_far.ends;
      are_done = so_far.are_done;
      moment_is = so_far.moment_is;
      misread_is = so_far.misread_is;
      refused_is = so_far.refused_is;
      written =
          subst (λ (f : Option StandardStream). AreWritten f contents before after so_far.ends) (sym fine)
          (subst (λ (o : Option Text). Appends (contents before) o (texts_of so_far.ends))
          (sym same) so_far.written);
      read = read_whole input left so_far.lines done.failed end so_far.read;
    }

    module _ (new : S) (after_done : Done) (goes_on : Bool) (behind : Option (List ℕ)) (after : O) where
      -- there is no next line
      pub ends-stopped : HasStopped mid new done after_done goes_on left (contents written) (contents after)
          → Ends new after_done after
      ends-stopped stopped = subst (λ (s : S). Ends s after_done after) (sym stopped.same) (by stopped.why)
        where
          by : HasNoLine done after_done left → Ends mid after_done after
          by (inl (end, is)) =
              subst (λ (d : Done). Ends mid d after) (sym is) (ends-whole after stopped.unwritten end)
          by (inr is) = subst (λ (d : Done). Ends mid d after) (sym is) (ends-unread after stopped.unwritten)

      module _ (done_line : HasDoneLine habits config number mid new done after_done goes_on left behind
          (contents written) (contents after))
          (small : number < 2 ^ 64 - 1) where
        abbrev lines-now : List (List ℕ)
        lines-now = so_far.lines ++ done_line.line ∷ []

        abbrev ends-now : List LineEnd
        ends-now = so_far.ends ++ done_line.end ∷ []

        lines-more : AreLinesDone habits config 0 moment lines-now old new ends-now
        lines-more =
            let line = done_line.line in
            let end = done_line.end in
            let numbered : number ≡ number_behind (length so_far.lines) =
            grind (arith, so_far.number_is, small) in
            let does =
            subst (λ (m : ℕ). IsLineAnswered habits config number m line mid new end) so_far.moment_is
            done_line.does in
            let there =
            subst (λ (n : ℕ).
            IsLineAnswered habits config n (last_moment moment so_far.ends) line mid new end)
            numbered does in
            AreLinesDone-more habits config 0
            (length so_far.lines) moment old mid new so_far.lines so_far.ends line end
            (grind arith) so_far.are_done there

        moment-more : after_done.moment ≡ last_moment moment ends-now
        moment-more = done_line.counted.moment_is ∙ sym (last_moment-more moment so_far.ends done_line.end)

        misread-more : after_done.misread ≡ list_any ends_misread ends-now
        misread-more =
            done_line.counted.misread_is
            ∙ ap (λ (b : Bool). b || ends_misread done_line.end) so_far.misread_is
            ∙ sym (any-more ends_misread so_far.ends done_line.end)

        refused-more : after_done.refused ≡ list_any ends_refused ends-now
        refused-more =
            done_line.counted.refused_is
            ∙ ap (λ (b : Bool). b || ends_refused done_line.end) so_far.refused_is
            ∙ sym (any-more ends_refused so_far.ends done_line.end)

        read-more : BeginsSo input lines-now behind
        read-more = begins-more input left behind so_far.lines done_line.line so_far.read done_line.next

        -- the script goes on behind the line
        pub run-more : goes_on ≡ true
            → SoFar new after_done (number + 1) behind after × (after_done.failed ≡ None)
        run-more on = (
          record {
            lines = lines-now;
            ends = ends-now;
            are_done = lines-more;
            number_is = grind (arith, common_steps, so_far.number_is);
            moment_is = moment-more;
            misread_is = misread-more;
            refused_is = refused-more;
            written =
                subst (λ (t : Text). Appends (contents before) (contents after) t)
                (texts-more so_far.ends done_line.end)
                (Appends-trans (contents before) (contents written) (contents after) _ _ so_far.written
                (done_line.counted.written on));
            read = read-more;
          },
          done_line.counted.failed_is
              ∙ ap (λ (b : Bool). cond {A = Option StandardStream} b done.failed (Some stream.Output)) on
              ∙ fine,
        )

        -- the line can't be told of
        pub ends-untold : goes_on ≡ false → Ends new after_done after
        ends-untold off =
            let failed : after_done.failed ≡ Some stream.Output = done_line.counted.failed_is
            ∙ ap (λ (b : Bool). cond {A = Option StandardStream} b done.failed (Some stream.Output)) off in
            record {
              lines = lines-now;
              ends = ends-now;
              are_done = lines-more;
              moment_is = moment-more;
              misread_is = misread-more;
              refused_is = refused-more;
              written =
                  subst (λ (f : Option StandardStream). AreWritten f contents before after ends-now)
                  (sym failed)
                  (record {
                    written = so_far.ends;
                    last = done_line.end;
                    ends_are = refl;
                    mid = written;
                    got = so_far.written;
                  });
              read = begun input behind lines-now after_done.failed stream.Output failed read-more;
            }

      -- what one turn of the script came to, by a configuration
      abbrev IsTurn : Config → Type 0
      IsTurn by =
          HasDoneLine habits by number mid new done after_done goes_on left behind (contents written)
          (contents after)
          ⊎ HasStopped mid new done after_done goes_on left (contents written) (contents after)

      own-turn-ends : IsTurn config → number < 2 ^ 64 - 1 → goes_on ≡ false → Ends new after_done after
      own-turn-ends (inl done_line) small off = ends-untold done_line small off
      own-turn-ends (inr stopped) small off = ends-stopped stopped

      pub turn-ends : (by : Config) → by ≡ config → IsTurn by → number < 2 ^ 64 - 1 → goes_on ≡ false
          → Ends new after_done after
      turn-ends by same turn small off = own-turn-ends (subst IsTurn same turn) small off

      own-turn-goes-on : IsTurn config → number < 2 ^ 64 - 1 → goes_on ≡ true
          → SoFar new after_done (number + 1) behind after × (after_done.failed ≡ None)
      own-turn-goes-on (inl done_line) small on = run-more done_line small on
      own-turn-goes-on (inr stopped) small on = absurd (true≢false (sym on ∙ stopped.stops))

      pub turn-goes-on : (by : Config) → by ≡ config → IsTurn by → number < 2 ^ 64 - 1 → goes_on ≡ true
          → SoFar new after_done (number + 1) behind after × (after_done.failed ≡ None)
      turn-goes-on by same turn small on = own-turn-goes-on (subst IsTurn same turn) small on
