-- The bytes of a block of inodes.
use Rattle.std.proofs.Common.{Bool, true, false, cond, ◌||◌, ◌≡◌, ℕ, zero, suc, ◌+◌, ◌*◌, ◌<◌, List, [], ◌∷◌, ◌++◌, take, drop, length, get_or, Option, None, Some, IfSome, is_some, refl, ap, sym, ◌∙◌, subst, arith}
use Rattle.std.proofs.Math.Seq.{drop-append-add}
use Rattle.std.specs.List.{flat_map, list_any}
use Rattle.std.specs.Option.{option_and_then}
use Rattle.std.proofs.lemmas.List.{take_at, take-append-drop, length-drop}
use Rattle.nl_layout.specs.declared.inode.Inode.{Inode}
use Rattle.nl_layout.specs.declared.inode.InodeEntry.{InodeEntry}
use Rattle.nl_layout.specs.declared.inode.InodeEntry.TheVariants.{Free, InUse}
use Rattle.nl_layout.specs.Inode.{EntryHasSpelling, entry_at, entry_bytes}
use Rattle.nl_ifile.specs.Inodes.{block_bytes, block_for, entry_for, in_use, inode_in, block_places}
use Rattle.nl_check.proofs.InodeSpelling.{inode_spelled-Spells, inode_spelled-fits, spelled-none}
use borrow.Rule.Slice.PartMut.{mid_of}
use Rattle.nl_layout.specs.Inode.{Spells}
use Rattle.nl_check.specs.Private.InodeBlocks.{HasInode, IsEntryIn, IsSpelled, none, spelled}

-- ---- entries one after the other

abbrev bytes_at : (ℕ → Option Inode) → ℕ → List ℕ
bytes_at f p = entry_bytes (entry_for (f p))

abbrev entries : (ℕ → Option Inode) → List ℕ → List ℕ
entries f ps = flat_map (λ p. entry_bytes (entry_for (f p))) ps

length-entry_bytes : (e : InodeEntry) → length (entry_bytes e) ≡ 128
length-entry_bytes Free = refl
length-entry_bytes (InUse i) = refl

piece : (f : ℕ → Option Inode) (ps : List ℕ) (k : ℕ) → k < length ps
    → take 128 (drop (128 * k) (entries f ps)) ≡ bytes_at f (get_or ps k 0)
piece f [] k l = absurd (omega arith)
piece f (p ∷ ps) zero l = take_at (bytes_at f p) (entries f ps) 128 (length-entry_bytes (entry_for (f p)))
piece f (p ∷ ps) (suc k) l =
    let far : 128 * suc k ≡ length (bytes_at f p) + 128 * k =
    omega (arith, length-entry_bytes (entry_for (f p))) in
    ap (λ (n : ℕ). take 128 (drop n (entries f (p ∷ ps)))) far
    ∙ (ap (take 128) (drop-append-add (bytes_at f p) (entries f ps) (128 * k)) ∙ piece f ps k (omega arith))

entries-cong : (f g : ℕ → Option Inode) (ps : List ℕ)
    → ((k : ℕ) → k < length ps → f (get_or ps k 0) ≡ g (get_or ps k 0)) → entries f ps ≡ entries g ps
entries-cong f g [] h = refl
entries-cong f g (p ∷ ps) h =
    let head : f p ≡ g p = h 0 (omega arith) in
    let rest = entries-cong f g ps (λ k l. h (suc k) (omega arith)) in
    ap (λ (o : Option Inode). entry_bytes (entry_for o) ++ entries f ps) head
    ∙ ap (λ (r : List ℕ). bytes_at g p ++ r) rest

any-cong : (f g : ℕ → Option Inode) (ps : List ℕ)
    → ((k : ℕ) → k < length ps → f (get_or ps k 0) ≡ g (get_or ps k 0))
    → list_any (λ p. is_some (f p)) ps ≡ list_any (λ p. is_some (g p)) ps
any-cong f g [] h = refl
any-cong f g (p ∷ ps) h =
    let head : f p ≡ g p = h 0 (omega arith) in
    let rest = any-cong f g ps (λ k l. h (suc k) (omega arith)) in
    ap (λ (o : Option Inode). is_some o || list_any (λ q. is_some (f q)) ps) head
    ∙ ap (λ (b : Bool). is_some (g p) || b) rest

-- ---- a block

place-at : (p : ℕ) → p < 8 → get_or block_places p 0 ≡ p
place-at zero l = refl
place-at (suc zero) l = refl
place-at (suc (suc zero)) l = refl
place-at (suc (suc (suc zero))) l = refl
place-at (suc (suc (suc (suc zero)))) l = refl
place-at (suc (suc (suc (suc (suc zero))))) l = refl
place-at (suc (suc (suc (suc (suc (suc zero)))))) l = refl
place-at (suc (suc (suc (suc (suc (suc (suc zero))))))) l = refl
place-at (suc (suc (suc (suc (suc (suc (suc (suc p)))))))) l = absurd (omega arith)

at-place : {f g : ℕ → Option Inode} → ((p : ℕ) → p < 8 → f p ≡ g p) → (k : ℕ) → k < length block_places
    → f (get_or block_places k 0) ≡ g (get_or block_places k 0)
at-place {f} {g} h k l =
    let low : k < 8 = l in
    subst (λ (p : ℕ). f p ≡ g p) (sym (place-at k low)) (h k low)

pub block_bytes-cong : (f g : ℕ → Option Inode) → ((p : ℕ) → p < 8 → f p ≡ g p)
    → block_bytes f ≡ block_bytes g
block_bytes-cong f g h = entries-cong f g block_places (at-place {f = f} {g = g} h)

pub block_for-cong : (f g : ℕ → Option Inode) → ((p : ℕ) → p < 8 → f p ≡ g p) → block_for f ≡ block_for g
block_for-cong f g h =
    ap (λ (b : Bool). cond b (Some (block_bytes f)) None)
    (any-cong f g block_places (at-place {f = f} {g = g} h))
    ∙ ap (λ (bytes : List ℕ). cond (list_any (λ p. is_some (g p)) block_places) (Some bytes) None)
    (block_bytes-cong f g h)

-- the bytes at a place of a block are its inode's
block-piece : (f : ℕ → Option Inode) (p : ℕ) → p < 8
    → take 128 (drop (128 * p) (block_bytes f)) ≡ entry_bytes (entry_for (f p))
block-piece f p low = piece f block_places p low ∙ ap (bytes_at f) (place-at p low)

in_use-entry_for : (o : Option Inode) → in_use (entry_for o) ≡ o
in_use-entry_for None = refl
in_use-entry_for (Some i) = refl

-- each inode of a block is read again
pub inode_in-block : (f : ℕ → Option Inode) (p : ℕ) → p < 8 → EntryHasSpelling (entry_for (f p))
    → inode_in (block_bytes f) p ≡ f p
inode_in-block f p low fits =
    inode_spelled-Spells _ (entry_for (f p)) (record { fits = fits; spelling = block-piece f p low })
    ∙ in_use-entry_for (f p)

-- ---- reading a block

drop-nil : (n : ℕ) → ◌≡◌ {A = List ℕ} (drop n []) []
drop-nil zero = refl
drop-nil (suc n) = refl

drop-drop : (n m : ℕ) (xs : List ℕ) → drop n (drop m xs) ≡ drop (n + m) xs
drop-drop n zero xs = let e : n ≡ n + 0 = omega arith in ap (λ (k : ℕ). drop k xs) e
drop-drop n (suc m) [] = drop-nil n ∙ sym (drop-nil (n + suc m))
drop-drop n (suc m) (x ∷ xs) =
    let e : suc (n + m) ≡ n + suc m = omega arith in drop-drop n m xs ∙ ap (λ (k : ℕ). drop k (x ∷ xs)) e

-- a list in pieces of 128 is these pieces one after the other
pieces-whole : (f : ℕ → Option Inode) (ps : List ℕ) (page : List ℕ) → length page ≡ 128 * length ps
    → ((k : ℕ) → k < length ps → take 128 (drop (128 * k) page) ≡ bytes_at f (get_or ps k 0))
    → page ≡ entries f ps
pieces-whole f [] [] len h = refl
pieces-whole f [] (x ∷ page) len h = absurd (omega (arith, len))
pieces-whole f (p ∷ ps) page len h =
    sym (take-append-drop 128 page)
    ∙ (ap (λ (front : List ℕ). front ++ drop 128 page) (h 0 (omega arith))
    ∙ ap (λ (rest : List ℕ). bytes_at f p ++ rest)
    (pieces-whole f ps (drop 128 page) (omega (arith, len, length-drop 128 page)) later))
  where
    later : (k : ℕ) → k < length ps → take 128 (drop (128 * k) (drop 128 page)) ≡ bytes_at f (get_or ps k 0)
    later k low =
        let far : 128 * k + 128 ≡ 128 * suc k = omega arith in
        ap (take 128) (drop-drop (128 * k) 128 page ∙ ap (λ (n : ℕ). drop n page) far)
        ∙ h (suc k) (omega (arith, low))

-- what is read at a place tells what the place spells
pub read-entry : (page shown : List ℕ) (place k : ℕ) (r : Option InodeEntry) → shown ≡ page → k ≡ 128
    → IfSome r (Spells (mid_of (place * 128) k shown))
    → ((entry : InodeEntry) → Spells (mid_of (place * 128) k shown) entry → r ≡ Some entry)
    → IsEntryIn page place r
read-entry page shown place k r same k_is found only = by r found only
  where
    bytes : mid_of (place * 128) k shown ≡ take 128 (drop (128 * place) page)
    bytes =
        let at : place * 128 ≡ 128 * place = omega arith in
        ap (λ (x : ℕ). mid_of (place * 128) x shown) k_is
        ∙ (ap (λ (x : ℕ). take 128 (drop x shown)) at
        ∙ ap (λ (x : List ℕ). take 128 (drop (128 * place) x)) same)

    by : (r : Option InodeEntry) → IfSome r (Spells (mid_of (place * 128) k shown))
        → ((entry : InodeEntry) → Spells (mid_of (place * 128) k shown) entry → r ≡ Some entry)
        → IsEntryIn page place r
    by None found only =
        none (λ entry spells.
        let no : None ≡ Some entry =
        only entry (subst (λ (b : List ℕ). Spells b entry) (sym bytes) spells) in
        cc)
    by (Some entry) found only = spelled entry (subst (λ (b : List ℕ). Spells b entry) bytes found)

-- and which inode it is
pub entry-inode : (page : List ℕ) (place : ℕ) (r : Option InodeEntry) → IsEntryIn page place r
    → inode_in page place ≡ option_and_then in_use r
entry-inode page place _ (spelled entry spells) =
    inode_spelled-Spells (take 128 (drop (128 * place) page)) entry spells
entry-inode page place _ (none never) =
    spelled-none (take 128 (drop (128 * place) page))
    (entry_at (take 128 (drop (128 * place) page))) refl never

entry_for-in_use : (e : InodeEntry) → entry_for (in_use e) ≡ e
entry_for-in_use Free = refl
entry_for-in_use (InUse i) = refl

any-some : (f : ℕ → Option Inode) (ps : List ℕ) (k : ℕ) (i : Inode) → k < length ps
    → f (get_or ps k 0) ≡ Some i → list_any (λ p. is_some (f p)) ps ≡ true
any-some f [] k i low is = absurd (omega (arith, low))
any-some f (p ∷ ps) zero i low is =
    ap (λ (o : Option Inode). is_some o || list_any (λ q. is_some (f q)) ps) is
any-some f (p ∷ ps) (suc k) i low is = by (is_some (f p)) (any-some f ps k i (omega (arith, low)) is)
  where
    by : (b : Bool) → list_any (λ q. is_some (f q)) ps ≡ true → (b || list_any (λ q. is_some (f q)) ps) ≡ true
    by true e = refl
    by false e = e

any-none : (f : ℕ → Option Inode) (ps : List ℕ) → ((k : ℕ) → k < length ps → f (get_or ps k 0) ≡ None)
    → list_any (λ p. is_some (f p)) ps ≡ false
any-none f [] h = refl
any-none f (p ∷ ps) h =
    ap (λ (o : Option Inode). is_some o || list_any (λ q. is_some (f q)) ps) (h 0 (omega arith))
    ∙ any-none f ps (λ k low. h (suc k) (omega (arith, low)))

-- a page is its block, where each place spells an entry and one inode is in use
pub block-yes : (page : List ℕ) → length page ≡ 1024 → ((p : ℕ) → p < 8 → IsSpelled page p) → (p : ℕ) → p < 8
    → HasInode page p → Some page ≡ block_for (inode_in page)
block-yes page len each p low (i, is) =
    let bytes : page ≡ block_bytes (inode_in page) =
    pieces-whole (inode_in page) block_places page (omega (arith, len)) piece_at in
    ap (λ (b : List ℕ). Some b) bytes
    ∙ sym (ap (λ (b : Bool). cond b (Some (block_bytes (inode_in page))) None)
    (any-some (inode_in page) block_places p i low (ap (inode_in page) (place-at p low) ∙ is)))
  where
    piece_at : (k : ℕ) → k < length block_places
        → take 128 (drop (128 * k) page) ≡ bytes_at (inode_in page) (get_or block_places k 0)
    piece_at k low =
        let small : k < 8 = low in
        let e = each k small in
        let here : entry_for (inode_in page k) ≡ e.0 =
        ap entry_for (entry-inode page k (Some e.0) (spelled e.0 e.1)) ∙ entry_for-in_use e.0 in
        e.1.spelling ∙ (sym (ap entry_bytes here) ∙ sym (ap (bytes_at (inode_in page)) (place-at k small)))

-- each place of a page that is its block spells an entry
pub block-spelled : (page : List ℕ) → Some page ≡ block_for (inode_in page) → (p : ℕ) → p < 8
    → IsSpelled page p
block-spelled page is p low =
    let bytes : page ≡ block_bytes (inode_in page) =
    by (list_any (λ q. is_some (inode_in page q)) block_places) is in (
      entry_for (inode_in page p),
      record {
        fits = fit (inode_in page p) refl;
        spelling = ap (λ (b : List ℕ). take 128 (drop (128 * p) b)) bytes ∙ block-piece (inode_in page) p low;
      },
    )
  where
    by : (b : Bool) → Some page ≡ cond b (Some (block_bytes (inode_in page))) None
        → page ≡ block_bytes (inode_in page)
    by true e = cc
    by false e = cc

    fit : (o : Option Inode) → inode_in page p ≡ o → EntryHasSpelling (entry_for o)
    fit None e = tt
    fit (Some i) e = inode_spelled-fits (take 128 (drop (128 * p) page)) i e

-- and one of its inodes is in use
pub block-used : (page : List ℕ) → Some page ≡ block_for (inode_in page)
    → ((p : ℕ) → p < 8 → inode_in page p ≡ None) → ⊥
block-used page is free =
    let nothing : list_any (λ q. is_some (inode_in page q)) block_places ≡ false =
    any-none (inode_in page) block_places (at-none) in
    let no : Some page ≡ None =
    is ∙ ap (λ (b : Bool). cond b (Some (block_bytes (inode_in page))) None) nothing in
    cc
  where
    at-none : (k : ℕ) → k < length block_places → inode_in page (get_or block_places k 0) ≡ None
    at-none k low = let small : k < 8 = low in ap (inode_in page) (place-at k small) ∙ free k small

-- where no inode is in use there is no block
pub block_for-none : (f : ℕ → Option Inode) → ((p : ℕ) → p < 8 → f p ≡ None) → block_for f ≡ None
block_for-none f free =
    ap (λ (b : Bool). cond b (Some (block_bytes f)) None)
    (any-none f block_places (λ k low. let small : k < 8 = low in ap f (place-at k small) ∙ free k small))

-- a place that is read spells an entry
pub read-spelled : (page : List ℕ) (place : ℕ) (r : Option InodeEntry) (e : InodeEntry)
    → IsEntryIn page place r → r ≡ Some e → IsSpelled page place
read-spelled page place _ e (spelled entry spells) is = (entry, spells)
read-spelled page place _ e (none never) is = cc

pub not-spelled : (page : List ℕ) (place : ℕ) (r : Option InodeEntry) → IsEntryIn page place r → r ≡ None
    → IsSpelled page place → ⊥
not-spelled page place _ (spelled entry spells) is s = cc
not-spelled page place _ (none never) is (entry, spells) = never entry spells
