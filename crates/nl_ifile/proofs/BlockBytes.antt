-- The bytes of a block of inodes.
use Rattle.std.proofs.Common.{Bool, true, false, cond, ◌||◌, ◌≡◌, ◌≢◌, ℕ, zero, suc, ◌+◌, ◌*◌, ◌<◌, List, [], ◌∷◌, ◌++◌, take, drop, length, get_or, slice_index, Option, None, Some, is_some, refl, ap, sym, ◌∙◌, subst, arith, append_assoc}
use Rattle.std.proofs.Math.ListN.{replicate}
use Rattle.std.proofs.Math.Seq.{take-append-add, drop-append-add}
use Rattle.std.specs.List.{flat_map, list_any}
use Rattle.std.specs.Option.{option_and_then, unwrap_or}
use Rattle.std.proofs.lemmas.Bool.{eq-eqb, ne_eqb}
use Rattle.std.proofs.lemmas.List.{take_at, drop_at}
use Rattle.nl_layout.specs.declared.inode.Inode.{Inode}
use Rattle.nl_layout.specs.declared.inode.InodeKind.{InodeKind}
use Rattle.nl_layout.specs.declared.inode.InodeKind.TheVariants.{File, Directory, InodeFile}
use Rattle.nl_layout.specs.declared.inode.InodeEntry.{InodeEntry}
use Rattle.nl_layout.specs.declared.inode.InodeEntry.TheVariants.{Free, InUse}
use Rattle.nl_layout.specs.Inode.{EntryHasSpelling, entry_bytes, inode_kind_code}
use Rattle.nl_ifile.specs.Inodes.{block_bytes, block_for, entry_for, in_use, inode_in, block_places, with_inode}
use Rattle.nl_ifile.proofs.Spelling.{inode_spelled-Spells}
use borrow.Rule.Slice.PartMut.{put_mid}

-- ---- entries one after the other

abbrev bytes_at : (ℕ → Option Inode) → ℕ → List ℕ
bytes_at f p = entry_bytes (entry_for (f p))

abbrev entries : (ℕ → Option Inode) → List ℕ → List ℕ
entries f ps = flat_map (λ p. entry_bytes (entry_for (f p))) ps

length-entry_bytes : (e : InodeEntry) → length (entry_bytes e) ≡ 128
length-entry_bytes Free = refl
length-entry_bytes (InUse i) = refl

piece : (f : ℕ → Option Inode) (ps : List ℕ) (k : ℕ) → k < length ps
    → take 128 (drop (128 * k) (entries f ps)) ≡ bytes_at f (get_or ps k 0)
piece f [] k l = absurd (omega arith)
piece f (p ∷ ps) zero l = take_at (bytes_at f p) (entries f ps) 128 (length-entry_bytes (entry_for (f p)))
piece f (p ∷ ps) (suc k) l =
    let far : 128 * suc k ≡ length (bytes_at f p) + 128 * k =
    omega (arith, length-entry_bytes (entry_for (f p))) in
    ap (λ (n : ℕ). take 128 (drop n (entries f (p ∷ ps)))) far
    ∙ (ap (take 128) (drop-append-add (bytes_at f p) (entries f ps) (128 * k)) ∙ piece f ps k (omega arith))

entries-cong : (f g : ℕ → Option Inode) (ps : List ℕ)
    → ((k : ℕ) → k < length ps → f (get_or ps k 0) ≡ g (get_or ps k 0)) → entries f ps ≡ entries g ps
entries-cong f g [] h = refl
entries-cong f g (p ∷ ps) h =
    let head : f p ≡ g p = h 0 (omega arith) in
    let rest = entries-cong f g ps (λ k l. h (suc k) (omega arith)) in
    ap (λ (o : Option Inode). entry_bytes (entry_for o) ++ entries f ps) head
    ∙ ap (λ (r : List ℕ). bytes_at g p ++ r) rest

any-cong : (f g : ℕ → Option Inode) (ps : List ℕ)
    → ((k : ℕ) → k < length ps → f (get_or ps k 0) ≡ g (get_or ps k 0))
    → list_any (λ p. is_some (f p)) ps ≡ list_any (λ p. is_some (g p)) ps
any-cong f g [] h = refl
any-cong f g (p ∷ ps) h =
    let head : f p ≡ g p = h 0 (omega arith) in
    let rest = any-cong f g ps (λ k l. h (suc k) (omega arith)) in
    ap (λ (o : Option Inode). is_some o || list_any (λ q. is_some (f q)) ps) head
    ∙ ap (λ (b : Bool). is_some (g p) || b) rest

entries-put : (f g : ℕ → Option Inode) (ps : List ℕ) (k : ℕ) → k < length ps
    → ((j : ℕ) → j < length ps → j ≢ k → f (get_or ps j 0) ≡ g (get_or ps j 0)) →
    put_mid (128 * k) 128 (entries f ps) (bytes_at g (get_or ps k 0)) ≡ entries g ps
entries-put f g [] k l h = absurd (omega arith)
entries-put f g (p ∷ ps) zero l h =
    ap (λ (r : List ℕ). bytes_at g p ++ r)
    (drop_at (bytes_at f p) (entries f ps) 128 (length-entry_bytes (entry_for (f p)))
    ∙ entries-cong f g ps (λ j m. h (suc j) (omega arith) (λ e. omega arith)))
entries-put f g (p ∷ ps) (suc k) l h =
    let new : List ℕ = bytes_at g (get_or ps k 0) in
    let far : 128 * suc k ≡ length (bytes_at f p) + 128 * k =
    omega (arith, length-entry_bytes (entry_for (f p))) in
    let front = take-append-add (bytes_at f p) (entries f ps) (128 * k) in
    let back = drop-append-add (bytes_at f p) (entries f ps) (128 * k) in
    let head : f p ≡ g p = h 0 (omega arith) (λ e. omega arith) in
    let rest = entries-put f g ps k (omega arith) (λ j m n. h (suc j) (omega arith) (λ e. n (omega arith))) in
    ap (λ (n : ℕ). take n (entries f (p ∷ ps)) ++ (new ++ drop 128 (drop n (entries f (p ∷ ps))))) far
    ∙ (ap
    (λ (x : List ℕ). x ++ (new ++ drop 128 (drop (length (bytes_at f p) + 128 * k) (entries f (p ∷ ps)))))
    front
    ∙ (ap (λ (x : List ℕ). (bytes_at f p ++ take (128 * k) (entries f ps)) ++ (new ++ drop 128 x)) back
    ∙ (append_assoc (bytes_at f p) (take (128 * k) (entries f ps))
    (new ++ drop 128 (drop (128 * k) (entries f ps)))
    ∙ (ap (λ (x : List ℕ). bytes_at f p ++ x) rest
    ∙ ap (λ (o : Option Inode). entry_bytes (entry_for o) ++ entries g ps) head))))

-- ---- a block

place-at : (p : ℕ) → p < 8 → get_or block_places p 0 ≡ p
place-at zero l = refl
place-at (suc zero) l = refl
place-at (suc (suc zero)) l = refl
place-at (suc (suc (suc zero))) l = refl
place-at (suc (suc (suc (suc zero)))) l = refl
place-at (suc (suc (suc (suc (suc zero))))) l = refl
place-at (suc (suc (suc (suc (suc (suc zero)))))) l = refl
place-at (suc (suc (suc (suc (suc (suc (suc zero))))))) l = refl
place-at (suc (suc (suc (suc (suc (suc (suc (suc p)))))))) l = absurd (omega arith)

at-place : {f g : ℕ → Option Inode} → ((p : ℕ) → p < 8 → f p ≡ g p) → (k : ℕ) → k < length block_places
    → f (get_or block_places k 0) ≡ g (get_or block_places k 0)
at-place {f} {g} h k l =
    let low : k < 8 = l in
    subst (λ (p : ℕ). f p ≡ g p) (sym (place-at k low)) (h k low)

pub block_bytes-cong : (f g : ℕ → Option Inode) → ((p : ℕ) → p < 8 → f p ≡ g p)
    → block_bytes f ≡ block_bytes g
block_bytes-cong f g h = entries-cong f g block_places (at-place {f = f} {g = g} h)

pub block_for-cong : (f g : ℕ → Option Inode) → ((p : ℕ) → p < 8 → f p ≡ g p) → block_for f ≡ block_for g
block_for-cong f g h =
    ap (λ (b : Bool). cond b (Some (block_bytes f)) None)
    (any-cong f g block_places (at-place {f = f} {g = g} h))
    ∙ ap (λ (bytes : List ℕ). cond (list_any (λ p. is_some (g p)) block_places) (Some bytes) None)
    (block_bytes-cong f g h)

-- the bytes at a place of a block are its inode's
block-piece : (f : ℕ → Option Inode) (p : ℕ) → p < 8
    → take 128 (drop (128 * p) (block_bytes f)) ≡ entry_bytes (entry_for (f p))
block-piece f p low = piece f block_places p low ∙ ap (bytes_at f) (place-at p low)

in_use-entry_for : (o : Option Inode) → in_use (entry_for o) ≡ o
in_use-entry_for None = refl
in_use-entry_for (Some i) = refl

-- each inode of a block is read again
pub inode_in-block : (f : ℕ → Option Inode) (p : ℕ) → p < 8 → EntryHasSpelling (entry_for (f p))
    → inode_in (block_bytes f) p ≡ f p
inode_in-block f p low fits =
    inode_spelled-Spells _ (entry_for (f p)) (record { fits = fits; spelling = block-piece f p low })
    ∙ in_use-entry_for (f p)

-- an entry that is written at a place changes the inode there
pub block-put : (f : ℕ → Option Inode) (p : ℕ) (o : Option Inode) → p < 8
    → put_mid (128 * p) 128 (block_bytes f) (entry_bytes (entry_for o)) ≡ block_bytes (with_inode f p o)
block-put f p o low =
    let here : get_or block_places p 0 ≡ p = place-at p low in
    let new : with_inode f p o (get_or block_places p 0) ≡ o =
    ap (λ (b : Bool). cond b o (f (get_or block_places p 0))) (eq-eqb _ _ here) in
    ap (λ (x : Option Inode). put_mid (128 * p) 128 (block_bytes f) (entry_bytes (entry_for x))) (sym new)
    ∙ entries-put f (with_inode f p o) block_places p low
    (λ j l n.
    sym (ap (λ (b : Bool). cond b o (f (get_or block_places j 0)))
    (ne_eqb _ _ (λ e. n (sym (place-at j l) ∙ e)))))

pub block-written : (f : ℕ → Option Inode) (p : ℕ) (o : Option Inode) (bytes out : List ℕ) (k : ℕ) → p < 8
    → bytes ≡ block_bytes f → k ≡ 128 → out ≡ entry_bytes (entry_for o) →
    put_mid (p * 128) k bytes out ≡ block_bytes (with_inode f p o)
block-written f p o bytes out k low was is written =
    let at : p * 128 ≡ 128 * p = omega arith in
    ap (λ (n : ℕ). put_mid n k bytes out) at
    ∙ (ap (λ (n : ℕ). put_mid (128 * p) n bytes out) is
    ∙ (ap (λ (xs : List ℕ). put_mid (128 * p) 128 xs out) was
    ∙ (ap (λ (xs : List ℕ). put_mid (128 * p) 128 (block_bytes f) xs) written ∙ block-put f p o low)))

-- ---- a block with no inode in use

free-bytes : (o : Option Inode) → entry_bytes (entry_for o) ≡ replicate 128 0 → o ≡ None
free-bytes None e = refl
free-bytes (Some i) e = absurd (positive i.kind (ap (λ (xs : List ℕ). slice_index xs 0) e))
  where
    positive : (k : InodeKind) → inode_kind_code k ≡ 0 → ⊥
    positive File e = omega arith
    positive Directory e = omega arith
    positive InodeFile e = omega arith

abbrev no_inode : ℕ → Option Inode
no_inode p = None

zeros : block_bytes no_inode ≡ replicate 1024 0
zeros = refl

all-free : (f : ℕ → Option Inode) → block_bytes f ≡ replicate 1024 0 → (p : ℕ) → p < 8 → f p ≡ None
all-free f e p low =
    free-bytes (f p)
    (sym (block-piece f p low)
    ∙ (ap (λ (xs : List ℕ). take 128 (drop (128 * p) xs)) (e ∙ sym zeros) ∙ block-piece no_inode p low))

any-none : (f : ℕ → Option Inode) (ps : List ℕ) → list_any (λ p. is_some (f p)) ps ≡ false → (k : ℕ)
    → k < length ps → f (get_or ps k 0) ≡ None
any-none f [] e k l = absurd (omega arith)
any-none f (p ∷ ps) e zero l = free (f p) e
  where
    free : (o : Option Inode) → (is_some o || list_any (λ q. is_some (f q)) ps) ≡ false → o ≡ None
    free None e = refl
    free (Some i) e = cc
any-none f (p ∷ ps) e (suc k) l = any-none f ps (rest (f p) e) k (omega arith)
  where
    rest : (o : Option Inode) → (is_some o || list_any (λ q. is_some (f q)) ps) ≡ false
        → list_any (λ q. is_some (f q)) ps ≡ false
    rest None e = e
    rest (Some i) e = cc

none-in-use : (f : ℕ → Option Inode) → list_any (λ p. is_some (f p)) block_places ≡ false → (p : ℕ) → p < 8
    → f p ≡ None
none-in-use f e p low = subst (λ (q : ℕ). f q ≡ None) (place-at p low) (any-none f block_places e p low)

-- where no inode is in use there is no block
pub block_for-none : (f : ℕ → Option Inode) → ((p : ℕ) → p < 8 → f p ≡ None) → block_for f ≡ None
block_for-none f h = block_for-cong f no_inode h

-- a block of zeros has no inode in use
pub block_for-zeros : (f : ℕ → Option Inode) → block_bytes f ≡ replicate 1024 0 → block_for f ≡ None
block_for-zeros f e = block_for-cong f no_inode (all-free f e)

-- any other block has one
pub block_for-others : (f : ℕ → Option Inode) → block_bytes f ≢ replicate 1024 0
    → block_for f ≡ Some (block_bytes f)
block_for-others f n = by (list_any (λ p. is_some (f p)) block_places) refl
  where
    by : (b : Bool) → list_any (λ p. is_some (f p)) block_places ≡ b
        → cond b (Some (block_bytes f)) None ≡ Some (block_bytes f)
    by true e = refl
    by false e = absurd (n (block_bytes-cong f no_inode (none-in-use f e) ∙ zeros))

-- the inode at a place of the block that has to be there
pub inode_in-block_for : (f : ℕ → Option Inode) (p : ℕ) → p < 8 → EntryHasSpelling (entry_for (f p))
    → option_and_then (λ page. inode_in page p) (block_for f) ≡ f p
inode_in-block_for f p low fits = by (list_any (λ q. is_some (f q)) block_places) refl
  where
    by : (b : Bool) → list_any (λ q. is_some (f q)) block_places ≡ b
        → option_and_then (λ page. inode_in page p) (cond b (Some (block_bytes f)) None) ≡ f p
    by true e = inode_in-block f p low fits
    by false e = sym (none-in-use f e p low)

-- what the block that is there, or else zeros, has for bytes
pub block_for-bytes : (f : ℕ → Option Inode) (o : Option (List ℕ)) → o ≡ block_for f
    → unwrap_or o (replicate 1024 0) ≡ block_bytes f
block_for-bytes f o is =
    ap (λ (x : Option (List ℕ)). unwrap_or x (replicate 1024 0)) is
    ∙ by (list_any (λ q. is_some (f q)) block_places) refl
  where
    by : (b : Bool) → list_any (λ q. is_some (f q)) block_places ≡ b
        → unwrap_or (cond b (Some (block_bytes f)) None) (replicate 1024 0) ≡ block_bytes f
    by true e = refl
    by false e = sym (block_bytes-cong f no_inode (none-in-use f e) ∙ zeros)
