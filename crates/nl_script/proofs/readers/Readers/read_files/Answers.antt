use Rattle.std.proofs.Common.{◌∙◌, sym, subst, take, ap, List, ℕ}
use Rattle.std.specs.List.{position_or_len}
use Rattle.nl_types.specs.Plain.Worlds.{Reply}
use Rattle.nl_publish.specs.Jobs.{AreAnswers}
use Rattle.nl_publish.specs.declared.many.ReadJob.{ReadJob}
use Rattle.nl_script.specs.FileReads.{AreFirstFiles, is_bad_mount}
use Rattle.nl_script.proofs.FilesRead.{first_files}
use Rattle.nl_script.proofs.readers.Readers.read_files.Goals as goal

pub returns-clause-files : goal.returns-clause-files
returns-clause-files g c =
    let m = c.args.mount.now in
    let paths = c.args.paths.now in
    let answers = c.in_ok-answers.answers.items in
    let told =
    subst (λ (jobs : List ReadJob). AreAnswers m jobs answers)
    (c.as_slice.ensures.value ∙ c.in_ok-jobs.ensures) c.in_ok-answers.ensures.answers in
    let found = c.count_found-found.ensures ∙ ap (position_or_len is_bad_mount) c.as_slice-2.ensures.value in
    let kept = c.truncate.ensures.items ∙ ap (λ (n : ℕ). take n c.in_ok-replies.replies.items) found
    ∙ ap (λ (rs : List Reply). take (position_or_len is_bad_mount rs) rs) c.in_ok-replies.ensures in
    subst (AreFirstFiles m paths) (sym kept) (first_files m paths answers told)
