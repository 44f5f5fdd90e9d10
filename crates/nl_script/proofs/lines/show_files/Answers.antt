use Rattle.std.proofs.Common.{◌∙◌, ap, inl, subst, List}
use Rattle.nl_types.specs.Plain.Runs.{Run}
use Rattle.nl_types.specs.declared.event.Event.{Event}
use Rattle.nl_script.specs.Lines.{files_end}
use Rattle.nl_script.proofs.lines.show_files.Goals as goal

pub returns-in-Ok : goal.returns-in-Ok
returns-in-Ok g c moment =
    let told = c.tell_files.ensures moment in
    let replies = c.in-Ok.replies.items in
    let old = c.args.volume.now in
    let new = c.read_files.new.volume in
    let events = c.as_slice.ensures.value ∙ c.in-Ok.ensures.events in
    record {
      text = told.text;
      does = inl (record {
        replies = replies;
        run =
            subst (λ (es : List Event). Run g.V.Volume.habits.does old es replies new) c.in-Ok.ensures.events
            c.in-Ok.ensures.run;
        end_is =
            told.does
            ∙ ap (λ (es : List Event). files_end c.args.number moment es c.as_slice-in-Ok.result.now) events
            ∙ ap (files_end c.args.number moment _) c.as_slice-in-Ok.ensures.value;
      });
      written = told.written;
    }
