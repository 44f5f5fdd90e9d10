use Rattle.nlvol.proofs.sessions.run_script.Goals as goal

pub returns-in-Ok-clause-run : goal.returns-in-Ok-clause-run
returns-in-Ok-clause-run g c =
    let begun = c.in_ok-volume.ensures.begun in
    record {
      old = c.in_ok-volume.volume;
      unused = record { published = begun.held.published; lost = begun.held.lost; mounts = begun.mounts };
      of_pen = begun.held.layout;
      new = c.run_on-done.new.runner.volume;
      runs = c.in-Ok.ensures.run;
      left_is = c.end-pen.ensures;
    }
