-- Changes of inodes, one after the other.
use Rattle.std.proofs.Common.{cond, ◌≡◌, ◌≢◌, ℕ, suc, ◌+◌, ◌*◌, ◌/◌, ◌%◌, ◌<◌, ◌==◌, Bool, List, [], ◌∷◌, ◌++◌, take, length, get_or, Option, refl, ap, sym, ◌∙◌, arith, inl, inr, ◌⊎◌}
use Rattle.std.specs.List.{All}
use Rattle.std.proofs.lemmas.Bool.{cases_eq, eq-eqb, ne_eqb}
use Rattle.std.proofs.lemmas.List.{get_or-take, get_or_default, length-take, take_more}
use Rattle.nl_layout.specs.declared.inode.Inode.{Inode}
use Rattle.nl_ifile.specs.declared.change.InodeChange.{InodeChange}
use Rattle.nl_ifile.specs.Inodes.{InodeMap, block_bytes, in_block, with_inode}
use Rattle.nl_ifile.specs.Changing.{NumbersAscend, inodes_with}
use Rattle.nl_ifile.proofs.BlockBytes.{block_bytes-cong}

pub inodes_with-append : (xs ys : List InodeChange) (f : InodeMap) (n : ℕ)
    → inodes_with (xs ++ ys) f n ≡ inodes_with xs (inodes_with ys f) n
inodes_with-append [] ys f n = refl
inodes_with-append (c ∷ xs) ys f n =
    ap (λ (o : Option Inode). cond (n == c.number) c.inode o) (inodes_with-append xs ys f n)

pub inodes_with-absent : (xs : List InodeChange) (f : InodeMap) (n : ℕ) → All (λ c. c.number ≢ n) xs
    → inodes_with xs f n ≡ f n
inodes_with-absent [] f n h = refl
inodes_with-absent (c ∷ xs) f n h =
    ap (λ (b : Bool). cond b c.inode (inodes_with xs f n))
    (ne_eqb n c.number (λ e. h 0 c (omega arith) (sym e)))
    ∙ inodes_with-absent xs f n (λ k d l. h (suc k) d (omega arith))

pub inodes_with-cong : (xs : List InodeChange) (f g : InodeMap) (n : ℕ) → f n ≡ g n
    → inodes_with xs f n ≡ inodes_with xs g n
inodes_with-cong [] f g n e = e
inodes_with-cong (c ∷ xs) f g n e =
    ap (λ (o : Option Inode). cond (n == c.number) c.inode o) (inodes_with-cong xs f g n e)

-- one more change, of a number that had none
inodes_with-push_here : (xs : List InodeChange) (c : InodeChange) (f : InodeMap) (n : ℕ) → n ≡ c.number
    → All (λ x. x.number ≢ c.number) xs → inodes_with (xs ++ c ∷ []) f n ≡ c.inode
inodes_with-push_here xs c f n e h =
    ap (inodes_with (xs ++ c ∷ []) f) e
    ∙ (inodes_with-append xs (c ∷ []) f c.number
    ∙ (inodes_with-absent xs _ c.number h
    ∙ ap (λ (b : Bool). cond b c.inode (f c.number)) (eq-eqb c.number c.number refl)))

inodes_with-push_other : (xs : List InodeChange) (c : InodeChange) (f : InodeMap) (n : ℕ) → n ≢ c.number
    → inodes_with (xs ++ c ∷ []) f n ≡ inodes_with xs f n
inodes_with-push_other xs c f n h =
    inodes_with-append xs (c ∷ []) f n
    ∙ inodes_with-cong xs (inodes_with (c ∷ []) f) f n
    (ap (λ (b : Bool). cond b c.inode (f n)) (ne_eqb n c.number h))

-- a change that is written to its place of a block
pub block_bytes-more : (changes : List InodeChange) (k : ℕ) (c : InodeChange) (f : InodeMap) (i : ℕ)
    → NumbersAscend changes → k < length changes → get_or changes k c ≡ c → c.number / 8 ≡ i →
    block_bytes (with_inode (in_block (inodes_with (take k changes) f) i) (c.number % 8) c.inode)
    ≡ block_bytes (in_block (inodes_with (take (k + 1) changes) f) i)
block_bytes-more changes k c f i ascending l is index =
    block_bytes-cong (with_inode (in_block (inodes_with (take k changes) f) i) (c.number % 8) c.inode)
    (in_block (inodes_with (take (k + 1) changes) f) i)
    (λ p low. at p low (cases_eq p (c.number % 8)))
  where
    more : take (k + 1) changes ≡ take k changes ++ c ∷ []
    more = take_more changes k c l ∙ ap (λ (x : InodeChange). take k changes ++ x ∷ []) is

    others : All (λ x. x.number ≢ c.number) (take k changes)
    others j d m e =
        let near : j < k = omega (arith, length-take k changes) in
        let here : get_or (take k changes) j d ≡ get_or changes j d = get_or-take k changes j d near in
        let there : get_or changes k d ≡ c = get_or_default changes k d c l ∙ is in
        let less = ascending j k d near l in
        omega
        (arith, less, e, ap (λ (x : InodeChange). x.number) here, ap (λ (x : InodeChange). x.number) there)

    at : (p : ℕ) → p < 8 → (p ≡ c.number % 8) ⊎ (p ≡ c.number % 8 → ⊥)
        → with_inode (in_block (inodes_with (take k changes) f) i) (c.number % 8) c.inode p
        ≡ inodes_with (take (k + 1) changes) f (8 * i + p)
    at p low (inl e) =
        let number : 8 * i + p ≡ c.number = omega arith in
        ap (λ (b : Bool). cond b c.inode (inodes_with (take k changes) f (8 * i + p)))
        (eq-eqb p (c.number % 8) e)
        ∙ sym (ap (λ (xs : List InodeChange). inodes_with xs f (8 * i + p)) more
        ∙ inodes_with-push_here (take k changes) c f (8 * i + p) number others)
    at p low (inr n) =
        let number : 8 * i + p ≢ c.number = λ e. n (omega arith) in
        ap (λ (b : Bool). cond b c.inode (inodes_with (take k changes) f (8 * i + p)))
        (ne_eqb p (c.number % 8) n)
        ∙ sym (ap (λ (xs : List InodeChange). inodes_with xs f (8 * i + p)) more
        ∙ inodes_with-push_other (take k changes) c f (8 * i + p) number)
