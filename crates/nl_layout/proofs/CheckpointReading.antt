-- The fields of an entry of the checkpoint file that was written.
use Rattle.std.proofs.Common.{◌≡◌, ℕ, ◌-◌, ◌<◌, ◌^◌, Bool, true, false, List, drop, length, take, Some, refl, ap, ◌∙◌, arith}
use Rattle.std.proofs.lemmas.List.{take_rest}
use Rattle.std.proofs.Math.ListN.{replicate}
use Rattle.std.specs.Option.{option_map}
use Rattle.byteorder.specs.Endian.{little_number}
use Rattle.byteorder.specs.Numbers.{little_number-reads_back}
use Rattle.nl_types.specs.declared.event.Mode.{Mode}
use Rattle.nl_types.specs.declared.event.Mode.TheVariants.{Plain, Snapshot}
use Rattle.nl_layout.specs.declared.root.RootFields.{RootFields}
use Rattle.nl_layout.specs.declared.checkpoint_entry.CheckpointEntry.{CheckpointEntry}
use Rattle.nl_layout.specs.Checkpoints.{HasSpelling, Spells, checkpoint_at, checkpoint_bytes, fields_with, flags_of, flags_told, root_fields_at}

flags_told-flags_of : (mode : Mode) (minor : Bool) → flags_told (flags_of mode minor) ≡ Some (mode, minor)
flags_told-flags_of Plain false = refl
flags_told-flags_of Snapshot false = refl
flags_told-flags_of Plain true = refl
flags_told-flags_of Snapshot true = refl

flags_of-small : (mode : Mode) (minor : Bool) → flags_of mode minor < 2 ^ 32
flags_of-small Plain false = omega arith
flags_of-small Snapshot false = omega arith
flags_of-small Plain true = omega arith
flags_of-small Snapshot true = omega arith

same_entry : (c : CheckpointEntry) (n s i f z : ℕ) → n ≡ c.number → s ≡ c.stamp → i ≡ c.inodes
    → f ≡ c.root.number → z ≡ c.size
    → (let d : CheckpointEntry = record {
      number = n;
      mode = c.mode;
      minor = c.minor;
      stamp = s;
      inodes = i;
      root = record { kind = c.root.kind; height = c.root.height; number = f };
      size = z;
    } in
    d)
    ≡ c
same_entry c n s i f z a b d e g = rw (a, b, d, e, g) refl

checkpoint_at-written : (c : CheckpointEntry) → HasSpelling c → checkpoint_at (checkpoint_bytes c) ≡ Some c
checkpoint_at-written c fits =
    let bytes : List ℕ = checkpoint_bytes c in
    let number : little_number 8 bytes ≡ c.number =
    little_number-reads_back 8 c.number (drop 8 bytes) fits.number in
    let stamp : little_number 8 (drop 8 bytes) ≡ c.stamp =
    little_number-reads_back 8 c.stamp (drop 16 bytes) fits.stamp in
    let flags : little_number 4 (drop 16 bytes) ≡ flags_of c.mode c.minor =
    little_number-reads_back 4 (flags_of c.mode c.minor) (drop 20 bytes)
    (flags_of-small c.mode c.minor) in
    let inodes : little_number 8 (drop 24 bytes) ≡ c.inodes =
    little_number-reads_back 8 c.inodes (drop 32 bytes) fits.inodes in
    let size : little_number 8 (drop 40 bytes) ≡ c.size =
    little_number-reads_back 8 c.size (drop 48 bytes) fits.size in
    let first : little_number 8 (drop 48 bytes) ≡ c.root.number =
    little_number-reads_back 8 c.root.number (replicate 104 0) fits.root in
    ap (option_map (fields_with bytes)) (ap flags_told flags ∙ flags_told-flags_of c.mode c.minor)
    ∙ ap (λ (d : CheckpointEntry). Some d) (same_entry c _ _ _ _ _ number stamp inodes first size)

-- the fields of a place are those of the entry that it spells
pub checkpoint_at-Spells : (bytes : List ℕ) (c : CheckpointEntry) → Spells bytes c
    → checkpoint_at bytes ≡ Some c
checkpoint_at-Spells bytes c spells = ap checkpoint_at spells.spelling ∙ checkpoint_at-written c spells.fits

-- what is read from a place on
pub from_place : {A : Type 0} (read : List ℕ → A) (bytes : List ℕ) (n : ℕ)
    → read (take (length bytes - n) (drop n bytes)) ≡ read (drop n bytes)
from_place read bytes n = ap read (take_rest bytes n)

-- the fields, as the code reads them from the rest of the bytes
pub with_fields : (bytes : List ℕ) (told : Mode × Bool) (n s i : ℕ) (root : RootFields) (z : ℕ)
    → n ≡ little_number 8 bytes → s ≡ little_number 8 (drop 8 bytes) → i ≡ little_number 8 (drop 24 bytes)
    → root ≡ root_fields_at bytes → z ≡ little_number 8 (drop 40 bytes)
    → (let d : CheckpointEntry =
    record { number = n; mode = told.0; minor = told.1; stamp = s; inodes = i; root = root; size = z } in
    d)
    ≡ fields_with bytes told
with_fields bytes told n s i root z a b d e f = rw (a, b, d, e, f) refl
