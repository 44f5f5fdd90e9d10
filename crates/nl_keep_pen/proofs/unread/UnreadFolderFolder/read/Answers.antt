use Rattle.std.proofs.Common.{◌∙◌, sym}
use Rattle.std.proofs.lemmas.Result.{IfErr-weaker, IfOk-weaker, err_from_is_err_and}
use Rattle.nl_keep_pen.proofs.UnreadAnswers.{empty_read, manifest_read, reading_refused, stays_unread}
use Rattle.nl_keep_pen.proofs.unread.UnreadFolderFolder.read.Goals as goal

pub returns-then-is_manifest_path-clause-read : goal.returns-then-is_manifest_path-clause-read
returns-then-is_manifest_path-clause-read g c =
    let folder = c.args.self.now.folder in
    IfOk-weaker c.read.result _ _ (λ bytes.
    manifest_read folder.number c.args.path.now (g.V.Volume.means folder.volume.now) bytes
    (sym c.is_manifest_path.ensures ∙ c.if-is_manifest_path.true))
    c.read.ensures.read

pub returns-then-is_manifest_path-clause-refused : goal.returns-then-is_manifest_path-clause-refused
returns-then-is_manifest_path-clause-refused g c =
    let folder = c.args.self.now.folder in
    IfErr-weaker c.read.result _ _
    (reading_refused folder.number c.args.path.now (g.V.Volume.means folder.volume.now))
    c.read.ensures.refused

pub returns-then-is_manifest_path-clause-stays : goal.returns-then-is_manifest_path-clause-stays
returns-then-is_manifest_path-clause-stays g c =
    let folder = c.args.self.now.folder in
    let left = c.read.new.self in
    stays_unread folder.number left.number (g.V.Volume.means folder.volume.now)
    (g.V.Volume.means left.volume.now) c.read.ensures.stays

pub returns-in_ok-judge_file-clause-read : goal.returns-in_ok-judge_file-clause-read
returns-in_ok-judge_file-clause-read g c tree shown =
    let folder = c.args.self.now.folder in
    rw c.new.ensures
    (empty_read folder.number c.args.path.now (g.V.Volume.means folder.volume.now)
    (sym c.is_manifest_path.ensures ∙ c.if-is_manifest_path.false) c.in_ok-judge_file.ensures.file tree shown)

pub returns-in_err-judge_file-clause-refused : goal.returns-in_err-judge_file-clause-refused
returns-in_err-judge_file-clause-refused g c =
    let folder = c.args.self.now.folder in
    let p = err_from_is_err_and c.from_residual.result c.from_residual.ensures.1 in
    rw (p.1, p.2)
    (reading_refused folder.number c.args.path.now (g.V.Volume.means folder.volume.now)
    c.in_err-judge_file.field-0.0 c.in_err-judge_file.ensures.refused)
