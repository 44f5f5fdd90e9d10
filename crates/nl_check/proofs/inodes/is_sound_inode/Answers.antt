use Rattle.std.proofs.Common.{◌≡◌, ◌↔◌, Bool, Some, false}
use Rattle.std.specs.Prelude.{IsTrue}
use Rattle.nl_types.specs.Blocks.Roots.{page_at}
use Rattle.nl_layout.specs.Root.{root_of}
use Rattle.nl_check.specs.Private.SoundFiles.{IsSoundDirectory}
use Rattle.nl_check.specs.Private.SoundInodes.{IsSoundInode}
use Rattle.nl_check.specs.Facts.Below.{both, ok-map}
use Rattle.nl_check.proofs.SoundOnes.{directory-sound, file-sound, sound-directory-of, sound-file-of}
use Rattle.nl_check.proofs.inodes.is_sound_inode.Goals as goal

pub returns-in-File-clause-yes : goal.returns-in-File-clause-yes
returns-in-File-clause-yes g c = λ t.
    file-sound (g.V.VRead.pages c.args.store.now) c.args.number c.args.inode.now c.args.count c.in-File.is
    (c.is_inode_number.ensures.0 c.if-not-is_inode_number.false) c.requires (c.is_sound_file.ensures.0 t)

pub returns-in-File-clause-no : goal.returns-in-File-clause-no
returns-in-File-clause-no g c = λ f s.
    both c.is_sound_file.result
    (c.is_sound_file.ensures.1
    (sound-file-of (g.V.VRead.pages c.args.store.now) c.args.number c.args.inode.now s c.in-File.is))
    f

pub returns-in-Directory-clause-yes : goal.returns-in-Directory-clause-yes
returns-in-Directory-clause-yes g c =
    let pages = g.V.VRead.pages c.args.store.now in
    ok-map c.is_sound_directory.result
    (λ (sound : Bool).
    IsTrue sound ↔ IsSoundDirectory (page_at pages (root_of c.args.inode.now.root)) c.args.inode.now.size)
    (λ (sound : Bool). IsTrue sound → IsSoundInode pages c.args.number (Some c.args.inode.now))
    (λ sound is t.
    directory-sound pages c.args.number c.args.inode.now c.in-Directory.is
    (c.is_inode_number.ensures.0 c.if-not-is_inode_number.false) (is.0 t))
    c.is_sound_directory.ensures.is

pub returns-in-Directory-clause-no : goal.returns-in-Directory-clause-no
returns-in-Directory-clause-no g c =
    let pages = g.V.VRead.pages c.args.store.now in
    ok-map c.is_sound_directory.result
    (λ (sound : Bool).
    IsTrue sound ↔ IsSoundDirectory (page_at pages (root_of c.args.inode.now.root)) c.args.inode.now.size)
    (λ (sound : Bool). sound ≡ false → IsSoundInode pages c.args.number (Some c.args.inode.now) → ⊥)
    (λ sound is f s.
    both sound (is.1 (sound-directory-of pages c.args.number c.args.inode.now s c.in-Directory.is)) f)
    c.is_sound_directory.ensures.is
