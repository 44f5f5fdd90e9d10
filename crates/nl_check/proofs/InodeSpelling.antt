-- What bytes spell as an inode.
use Rattle.std.proofs.Common.{Bool, subst, ◌≡◌, ℕ, zero, suc, ◌/◌, ◌%◌, ◌<◌, ◌≤◌, ◌^◌, ◌*◌, List, ◌++◌, take, drop, slice_index, true, false, cond, Option, None, Some, IfSome, refl, ap, sym, ◌∙◌, arith}
use Rattle.std.proofs.Math.Nat.{mod-lt}
use Rattle.std.proofs.Math.ListN.{replicate}
use Rattle.std.specs.Prelude.{◌==◌, ◌&&◌, nat_le}
use Rattle.std.specs.Option.{option_map, option_and_then}
use Rattle.std.specs.Str.{bytes_eq}
use Rattle.std.proofs.lemmas.Bool.{cond-true, leb-true}
use Rattle.std.proofs.lemmas.Slice.Eq.{bytes_eq-Decides}
use Rattle.byteorder.specs.Endian.{little_bytes, little_number}
use Rattle.byteorder.specs.Numbers.{little_from-bytes}
use Rattle.nl_layout.specs.declared.root.Root.{Root}
use Rattle.nl_layout.specs.declared.root.Root.TheVariants.{Empty, Chain, Tree}
use Rattle.nl_layout.specs.declared.inode.Inode.{Inode}
use Rattle.nl_layout.specs.declared.inode.InodeKind.{InodeKind}
use Rattle.nl_layout.specs.declared.inode.InodeKind.TheVariants.{File, Directory, InodeFile}
use Rattle.nl_layout.specs.declared.inode.InodeEntry.{InodeEntry}
use Rattle.nl_layout.specs.declared.inode.InodeEntry.TheVariants.{Free, InUse}
use Rattle.nl_layout.specs.Inode.{Spells, InodeHasSpelling, EntryHasSpelling, entry_bytes, entry_at, entry_with, inode_bytes}
use Rattle.nl_layout.specs.Root.{fields_of, root_told_by}
use Rattle.nl_layout.specs.Inode as layout
use Rattle.nl_layout.specs.Facts.Inodes.{entry_at-Spells}
use borrow.Rule.Slice.PartMut.{mid_of}
use Rattle.nl_ifile.specs.Inodes.{in_use, inode_in, inode_spelled}

-- ---- what is read has a spelling

number_fits : (n : ℕ) (rest : List ℕ) → little_number 8 (little_bytes 8 n ++ rest) < 2 ^ 64
number_fits n rest =
    let low : n / 256 ^ 0 % 256 ^ 8 < 256 ^ 8 = mod-lt (n / 256 ^ 0) (omega arith) in
    omega (arith, little_from-bytes 8 0 n rest)

told-if : (test : Bool) (made root : Root) → cond test (Some made) None ≡ Some root
    → (test ≡ true) × (made ≡ root)
told-if true made root e = let same : made ≡ root = cc in (refl, same)
told-if false made root e = absurd (cc)

-- the root that fields spell has a number no greater than the one that is read, and a height that a tree may
-- have
root-fits : (code height number : ℕ) (root : Root) → root_told_by code height number ≡ Some root
    → ((fields_of root).number ≤ number) × ((fields_of root).height ≤ 3)
root-fits zero height number root e =
    let made = told-if (height == 0 && number == 0) Empty root e in
    let number_is = ap (λ (r : Root). (fields_of r).number) made.1 in
    let height_is = ap (λ (r : Root). (fields_of r).height) made.1 in
    (omega (arith, number_is), omega (arith, height_is))
root-fits (suc zero) height number root e =
    let made = told-if (height == 0) (Chain number) root e in
    let number_is = ap (λ (r : Root). (fields_of r).number) made.1 in
    let height_is = ap (λ (r : Root). (fields_of r).height) made.1 in
    (omega (arith, number_is), omega (arith, height_is))
root-fits (suc (suc zero)) height number root e =
    let made = told-if (nat_le height 3) (Tree height number) root e in
    let number_is = ap (λ (r : Root). (fields_of r).number) made.1 in
    let height_is = ap (λ (r : Root). (fields_of r).height) made.1 in
    let low = leb-true height 3 made.0 in
    (omega (arith, number_is), omega (arith, height_is, low))
root-fits (suc (suc (suc code))) height number root e = absurd (cc)

inode-option_map : (kind : InodeKind) (size : ℕ) (o : Option Root) (i : Inode)
    → option_map (λ root. InUse (record { kind = kind; root = root; size = size })) o ≡ Some (InUse i)
    → (i.size ≡ size) × (o ≡ Some i.root)
inode-option_map kind size None i e = cc
inode-option_map kind size (Some r) i e =
    let made : Inode = record { kind = kind; root = r; size = size } in
    let same : made ≡ i = cc in
    (ap (λ (x : Inode). x.size) (sym same), ap (λ (x : Inode). Some x.root) same)

inode_at-fits : (kind : InodeKind) (bytes : List ℕ) (i : Inode)
    → layout.used_entry_at kind bytes ≡ Some (InUse i) → inode_bytes i ≡ bytes → InodeHasSpelling i
inode_at-fits kind bytes i e spelling =
    let parts =
    inode-option_map kind (little_number 8 (drop 8 bytes))
    (root_told_by (slice_index bytes 1) (slice_index bytes 2) (little_number 8 (drop 16 bytes))) i e in
    let size : little_number 8 (drop 8 (inode_bytes i)) < 2 ^ 64 =
    number_fits i.size (little_bytes 8 ((fields_of i.root).number) ++ replicate 104 0) in
    let number : little_number 8 (drop 16 (inode_bytes i)) < 2 ^ 64 =
    number_fits (fields_of i.root).number (replicate 104 0) in
    let size_is : little_number 8 (drop 8 (inode_bytes i)) ≡ little_number 8 (drop 8 bytes) =
    ap (λ (b : List ℕ). little_number 8 (drop 8 b)) spelling in
    let number_is : little_number 8 (drop 16 (inode_bytes i)) ≡ little_number 8 (drop 16 bytes) =
    ap (λ (b : List ℕ). little_number 8 (drop 16 b)) spelling in
    let fits =
    root-fits (slice_index bytes 1) (slice_index bytes 2)
    (little_number 8 (drop 16 bytes)) i.root parts.1 in
    record {
      size = omega (arith, parts.0, size, size_is);
      height = fits.1;
      number = omega (arith, fits.0, number, number_is);
    }

entry_with-fits : (code : ℕ) (bytes : List ℕ) (entry : InodeEntry) → entry_with code bytes ≡ Some entry
    → entry_bytes entry ≡ bytes → EntryHasSpelling entry
entry_with-fits code bytes Free e spelling = tt
entry_with-fits zero bytes (InUse i) e spelling = cc
entry_with-fits (suc zero) bytes (InUse i) e spelling = inode_at-fits File bytes i e spelling
entry_with-fits (suc (suc zero)) bytes (InUse i) e spelling = inode_at-fits Directory bytes i e spelling
entry_with-fits (suc (suc (suc zero))) bytes (InUse i) e spelling = inode_at-fits InodeFile bytes i e spelling
entry_with-fits (suc (suc (suc (suc code)))) bytes (InUse i) e spelling = cc

-- ---- what bytes spell

-- an inode that is written is read
pub inode_spelled-Spells : (bytes : List ℕ) (entry : InodeEntry) → Spells bytes entry
    → inode_spelled bytes ≡ in_use entry
inode_spelled-Spells bytes entry spells =
    ap (option_and_then (λ (e : InodeEntry). cond (bytes_eq (entry_bytes e) bytes) (in_use e) None))
    (entry_at-Spells bytes entry spells)
    ∙ cond-true (bytes_eq (entry_bytes entry) bytes) (in_use entry) None
    ((bytes_eq-Decides (entry_bytes entry) bytes).1 (sym spells.spelling))

-- bytes that spell no entry are no inode
pub spelled-none : (bytes : List ℕ) (o : Option InodeEntry) → entry_at bytes ≡ o
    → ((entry : InodeEntry) → Spells bytes entry → ⊥) →
    option_and_then (λ entry. cond (bytes_eq (entry_bytes entry) bytes) (in_use entry) None) o ≡ None
spelled-none bytes None e never = refl
spelled-none bytes (Some entry) e never =
    by (bytes_eq (entry_bytes entry) bytes) refl
  where
    by : (b : Bool) → bytes_eq (entry_bytes entry) bytes ≡ b → cond b (in_use entry) None ≡ None
    by false is = refl
    by true is =
        let spelling = (bytes_eq-Decides (entry_bytes entry) bytes).0 is in
        absurd (never entry
        (record {
          fits = entry_with-fits (slice_index bytes 0) bytes entry e spelling;
          spelling = sym spelling;
        }))

-- what reading an entry tells is what the bytes spell
pub inode_spelled-read : (bytes : List ℕ) (r : Option InodeEntry) → IfSome r (Spells bytes)
    → ((entry : InodeEntry) → Spells bytes entry → r ≡ Some entry)
    → inode_spelled bytes ≡ option_and_then in_use r
inode_spelled-read bytes None found only =
    spelled-none bytes (entry_at bytes) refl
    (λ entry spells. let no : None ≡ Some entry = only entry spells in cc)
inode_spelled-read bytes (Some entry) found only = inode_spelled-Spells bytes entry found

-- an inode that is read has a spelling
pub inode_spelled-fits : (bytes : List ℕ) (i : Inode) → inode_spelled bytes ≡ Some i → InodeHasSpelling i
inode_spelled-fits bytes i is = of (entry_at bytes) refl is
  where
    same : (b : Bool) (entry : InodeEntry) → bytes_eq (entry_bytes entry) bytes ≡ b
        → entry_at bytes ≡ Some entry → cond b (in_use entry) None ≡ Some i → InodeHasSpelling i
    same false entry k e h = cc
    same true Free k e h = cc
    same true (InUse j) k e h =
        let here : InodeHasSpelling j =
        entry_with-fits (slice_index bytes 0) bytes (InUse j) e
        ((bytes_eq-Decides (entry_bytes (InUse j)) bytes).0 k) in
        let equal : j ≡ i = cc in
        subst InodeHasSpelling equal here

    of : (o : Option InodeEntry) → entry_at bytes ≡ o
        → option_and_then (λ entry. cond (bytes_eq (entry_bytes entry) bytes) (in_use entry) None) o ≡ Some i
        → InodeHasSpelling i
    of None e h = cc
    of (Some entry) e h = same (bytes_eq (entry_bytes entry) bytes) entry refl e h

-- ---- reading an inode in its block

-- what is read at a place of a block is the inode there
pub inode_in-read : (page shown : List ℕ) (place k : ℕ) (r : Option InodeEntry) → shown ≡ page → k ≡ 128 →
    IfSome r (Spells (mid_of (place * 128) k shown))
    → ((entry : InodeEntry) → Spells (mid_of (place * 128) k shown) entry → r ≡ Some entry)
    → inode_in page place ≡ option_and_then in_use r
inode_in-read page shown place k r same k_is found only =
    let at : place * 128 ≡ 128 * place = omega arith in
    let bytes : mid_of (place * 128) k shown ≡ take 128 (drop (128 * place) page) =
    ap (λ (x : ℕ). mid_of (place * 128) x shown) k_is
    ∙ (ap (λ (x : ℕ). take 128 (drop x shown)) at
    ∙ ap (λ (x : List ℕ). take 128 (drop (128 * place) x)) same) in
    ap inode_spelled (sym bytes) ∙ inode_spelled-read _ r found only
