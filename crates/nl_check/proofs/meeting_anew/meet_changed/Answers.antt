use Rattle.std.proofs.Common.{◌≡◌, ℕ, Bool, List, ap, subst, sym}
use Rattle.std.specs.Option.{is_some}
use Rattle.std.specs.Prelude.{IsTrue}
use Rattle.nl_types.specs.Blocks.Roots.{Pages, Root}
use Rattle.nl_layout.specs.Root.{root_of}
use Rattle.nl_files.specs.CheckpointRoots.{inode_root}
use Rattle.nl_check.specs.Private.BesideTrees.{TellsOn}
use Rattle.nl_check.specs.Private.ChangedFiles.{AreMetAnew, IsFileMet, IsNewIn, IsSoundNow, IsWholeFile}
use Rattle.nl_check.specs.Private.SoundInodes.{IsSoundInode}
use Rattle.nl_check.specs.Facts.Below.{found-at, ok-map}
use Rattle.nl_check.proofs.FilesBeside.{file-measured}
use Rattle.nl_check.proofs.meeting_anew.meet_changed.Goals as goal

-- what is met, of the file's own roots
file-met : (pages : Pages) (before now x y : Root) (old new : List Bool) (count : ℕ) → before ≡ x → now ≡ y
    → IsFileMet pages before now old new count → IsFileMet pages x y old new count
file-met pages before now x y old new count p q m =
    subst (λ (r : Root). IsFileMet pages r y old new count) p
    (subst (λ (r : Root). IsFileMet pages before r old new count) q m)

pub meet_file-requires-clause-before : goal.meet_file-requires-clause-before
meet_file-requires-clause-before g c =
    subst (IsWholeFile (g.V.VRead.pages c.args.store.now)) (sym c.root_of_file-before.ensures) c.requires.before

pub is_sound_later-requires : goal.is_sound_later-requires
is_sound_later-requires g c =
    let pages : Pages = g.V.VRead.pages c.args.store.now in
    let m =
    file-met pages (root_of c.root_of_file-before.result) (root_of c.root_of_file-now.result)
    (inode_root c.args.file.now.earlier) (inode_root c.args.file.now.later) c.args.met.now
    c.meet_file.new.met c.in-Some.count c.root_of_file-before.ensures c.root_of_file-now.ensures
    (found-at (IsFileMet pages (root_of c.root_of_file-before.result) (root_of c.root_of_file-now.result)
    c.args.met.now c.meet_file.new.met) c.in_ok-count.field-0 c.in-Some.count c.in_ok-count.ensures.yes
    c.in-Some.is) in
    file-measured pages (inode_root c.args.file.now.later) c.in-Some.count m.file m.sized

pub returns-in-Some-clause-yes : goal.returns-in-Some-clause-yes
returns-in-Some-clause-yes g c =
    let pages : Pages = g.V.VRead.pages c.args.store.now in
    let m =
    file-met pages (root_of c.root_of_file-before.result) (root_of c.root_of_file-now.result)
    (inode_root c.args.file.now.earlier) (inode_root c.args.file.now.later) c.args.met.now
    c.meet_file.new.met c.in-Some.count c.root_of_file-before.ensures c.root_of_file-now.ensures
    (found-at (IsFileMet pages (root_of c.root_of_file-before.result) (root_of c.root_of_file-now.result)
    c.args.met.now c.meet_file.new.met) c.in_ok-count.field-0 c.in-Some.count c.in_ok-count.ensures.yes
    c.in-Some.is) in
    ok-map c.is_sound_later.result
    (λ (sound : Bool). IsTrue sound → IsSoundInode pages c.args.file.now.number c.args.file.now.later)
    (λ (sound : Bool). IsTrue sound → AreMetAnew (ℕ × ℕ)
    (IsNewIn pages (inode_root c.args.file.now.earlier) (inode_root c.args.file.now.later)) c.args.met.now
    c.meet_file.new.met)
    (λ sound is t. m.met) c.is_sound_later.ensures.yes

pub returns-in-Some-clause-sound : goal.returns-in-Some-clause-sound
returns-in-Some-clause-sound g c =
    let pages : Pages = g.V.VRead.pages c.args.store.now in
    let m =
    file-met pages (root_of c.root_of_file-before.result) (root_of c.root_of_file-now.result)
    (inode_root c.args.file.now.earlier) (inode_root c.args.file.now.later) c.args.met.now
    c.meet_file.new.met c.in-Some.count c.root_of_file-before.ensures c.root_of_file-now.ensures
    (found-at (IsFileMet pages (root_of c.root_of_file-before.result) (root_of c.root_of_file-now.result)
    c.args.met.now c.meet_file.new.met) c.in_ok-count.field-0 c.in-Some.count c.in_ok-count.ensures.yes
    c.in-Some.is) in
    ok-map c.is_sound_later.result
    (λ (sound : Bool). IsTrue sound → IsSoundInode pages c.args.file.now.number c.args.file.now.later)
    (λ (sound : Bool). IsTrue sound → IsSoundNow pages c.args.file.now)
    (λ sound is t. record { file = m.file; sound = is t }) c.is_sound_later.ensures.yes

pub returns-in-Some-clause-told : goal.returns-in-Some-clause-told
returns-in-Some-clause-told g c =
    let pages : Pages = g.V.VRead.pages c.args.store.now in
    ok-map c.is_sound_later.result
    (λ (sound : Bool). IsTrue sound → IsSoundInode pages c.args.file.now.number c.args.file.now.later)
    (λ (sound : Bool). IsTrue sound → TellsOn c.args.met.now c.args.changed.now.items c.meet_file.new.met
    c.meet_file.new.changed.items)
    (λ sound is t. c.in_ok-count.ensures.told (ap is_some c.in-Some.is)) c.is_sound_later.ensures.yes
