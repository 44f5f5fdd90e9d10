use Rattle.nl_backups.proofs.checking.Verdict.is_sound.Goals as goal

pub returns-clause-sound : goal.returns-clause-sound
returns-clause-sound c is_all image file is =
    let told = c.finds_no_fault.ensures in
    (λ yes'. is.sound.0 (told.0 yes'), λ sound. told.1 (is.sound.1 sound))
