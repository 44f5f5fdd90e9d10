use Rattle.std.proofs.Common.{◌∙◌, List, [], Option, inl, inr, refl, subst, sym, ℕ}
use Rattle.std.proofs.KnownBytes.{Appends-trans}
use Rattle.nl_types.specs.declared.error.VolError.TheVariants.{Memory}
use Rattle.nl_script.specs.RefusalTexts.{start_text}
use Rattle.nl_script.specs.declared.texts.refusals.StartStep.TheVariants.{Start}
use Rattle.nlvol.specs.Beginnings.{place_path}
use Rattle.nlvol.specs.Endings.{Ends}
use Rattle.nlvol.specs.Telling.{IsNoticed, Tells, errors_of, notice}
use Rattle.nlvol.specs.declared.starting.StartFault.TheVariants.{Refused}
use Rattle.nlvol.proofs.Starts.{no_memory}
use Rattle.nlvol.proofs.sessions.run_with.Goals as goal

pub returns-in-Err : goal.returns-in-Err
returns-in-Err g c = inr (record {
  fault = c.in-Err.fault;
  is_fault = c.in-Err.ensures.refused;
  earlier = [];
  is_earlier = inl refl;
  refused = record { no_line = refl; status_is = refl; tells = c.tell_fault.ensures };
})

pub returns : goal.returns
returns g c =
    let asked = c.args.arguments.now in
    let noticed = c.tell_notice-noticed.new.errors in
    let before = g.E.Write.contents c.args.errors.now in
    let between = g.E.Write.contents noticed in
    let after = g.E.Write.contents c.run_begun.new.errors in
    let told =
    subst
    (λ (save : Option (List ℕ)). Tells (notice c.args.is_typed save)
    (errors_of g.E.Write.contents c.args.errors.now noticed) c.tell_notice-noticed.result)
    c.save_path.ensures c.tell_notice-noticed.ensures.told in
    elim c.run_begun.ensures [
      | inl is ↦ inl (record {
        pen = c.in-Ok.begun.1;
        begun = c.in-Ok.ensures.begun;
        left = is.left;
        done = is.done;
        runs = is.runs;
        noticed = noticed;
        is_noticed =
            subst (λ (save : Option (List ℕ)). IsNoticed c.args.is_typed save c.args.errors.now noticed)
            c.save_path.ensures c.tell_notice-noticed.ensures.silent;
        text = is.ends.text;
        ends =
            subst
            (λ (save : Option (List ℕ)). Ends save is.left is.done is.ends.text noticed
            c.run_begun.new.errors c.behind.result.status) c.in-Ok.ensures.place
            (subst
            (λ (status : ℕ). Ends (place_path c.in-Ok.begun.0) is.left is.done is.ends.text noticed
            c.run_begun.new.errors status)
            (sym c.behind.ensures.status) is.ends.ends);
        tells =
            λ all.
            let both = c.behind.ensures.told all in
            Appends-trans before between after (notice c.args.is_typed asked.save) is.ends.text (told both.0)
            (is.ends.tells both.1);
      })
      | inr none ↦ inr (record {
        fault = Refused Start Memory;
        is_fault = no_memory asked c.in-Ok.begun.1 Memory c.in-Ok.ensures.begun refl;
        earlier = notice c.args.is_typed asked.save;
        is_earlier = inr refl;
        refused = record {
          no_line = none.no_line;
          status_is = c.behind.ensures.status ∙ none.status_is;
          tells =
              λ all.
              let both = c.behind.ensures.told all in
              Appends-trans before between after (notice c.args.is_typed asked.save)
              (start_text Start Memory) (told both.0) (none.tells both.1);
        };
      })
    ]
