-- A file over more pages.
use Rattle.std.proofs.Common.{◌≡◌, ℕ, zero, suc, ◌<◌, List, [], ◌∷◌, ◌++◌, length, get_or, Option, Some, None, refl, sym, ◌∙◌, arith, inl, inr, ◌⊎◌}
use Rattle.std.specs.List.{Contains}
use Rattle.std.specs.Option.{option_and_then, IsSome}
use Rattle.std.proofs.lemmas.Bool.{cases_eq, eq-eqb, ne_eqb}
use Rattle.nl_types.specs.Blocks.Entries.{Birth, Content}
use Rattle.nl_types.specs.Blocks.RootChanges.{Includes, IsSound, KeepsFile, born, with_births}
use Rattle.nl_types.specs.Blocks.Roots.{Empty, Pages, Root, numbered, pages_of, place_at, slot}
use Rattle.nl_blocktree.specs.Private.Chains.{raw}
use Rattle.nl_blocktree.specs.Checkpoints.{AgreeWhere}
use Rattle.nl_blocktree.specs.Numbering.{IsUnused}
use Rattle.nl_blocktree.specs.Facts.HeldPages.{unused_page, with-more, with-old}
use Rattle.nl_blocktree.specs.Facts.Staying.{block-agrees, file-stays, places-agree, some-of}

pub cases-Option : {X : Type 0} (o : Option X) → (o ≡ None) ⊎ ((x : X) × (o ≡ Some x))
cases-Option None = inl refl
cases-Option (Some x) = inr (x, refl)

-- a birth's number has a page, with it
pub with-some : (births : List Birth) (pages : Pages) (v : ℕ) → Contains (born births) v
    → IsSome (with_births births pages v)
unfolding with_births
with-some [] pages v c = absurd (let l = c.1 in omega arith)
with-some (b ∷ births) pages v c =
    step (cases_eq v b.number) (λ n. with-some births pages v (later c.0 c.1 c.2 n))
  where
    later : (k : ℕ) → k < length (born (b ∷ births)) → get_or (born (b ∷ births)) k v ≡ v → (v ≡ b.number → ⊥)
        → Contains (born births) v
    later zero l e n = absurd (n (sym e))
    later (suc k) l e n = (k, omega arith, e)

    step : (v ≡ b.number) ⊎ (v ≡ b.number → ⊥) → ((v ≡ b.number → ⊥) → IsSome (with_births births pages v))
        → IsSome (with_births (b ∷ births) pages v)
    step (inl k) h = rw (eq-eqb v b.number k) refl
    step (inr k) h = rw (ne_eqb v b.number k) (h k)

-- pages that are kept agree where a file reaches, whose numbers have pages
agree-where : (pages more : Pages) (root : Root) → Includes pages more
    → ((level offset v : ℕ) → place_at pages root level offset ≡ Some v → IsSome (pages v))
    → AgreeWhere pages more root
agree-where pages more root u h level offset v e =
    let x = some-of (pages v) (h level offset v e) in u v x.0 x.1 ∙ sym x.1

-- the places of a file whose numbers have pages
pub places-kept : (pages more : Pages) (root : Root) → Includes pages more
    → ((level offset v : ℕ) → place_at pages root level offset ≡ Some v → IsSome (pages v)) →
    (level offset : ℕ) → place_at more root level offset ≡ place_at pages root level offset
places-kept pages more root u h = places-agree pages more root (agree-where pages more root u h)

-- a sound file is the same file over more pages
pub keeps-file : (pages more : Pages) (root : Root) → Includes pages more → IsSound pages root
    → KeepsFile pages more root
keeps-file pages more root u s = file-stays pages more root s (agree-where pages more root u s.stored)

-- a map read where there are pages
pub block-kept : (pages more : Pages) (o : Option ℕ) → Includes pages more
    → ((v : ℕ) → o ≡ Some v → IsSome (pages v)) → option_and_then more o ≡ option_and_then pages o
block-kept pages more o u h =
    block-agrees pages more o (λ v e. let x = some-of (pages v) (h v e) in u v x.0 x.1 ∙ sym x.1)

-- births under unused numbers hide no page
pub births-keep : (content : Content) (births : List Birth) → IsUnused content births
    → Includes (pages_of content) (with_births births (pages_of content))
births-keep content births u n x e =
    with-old births (pages_of content) n x (λ v c. unused_page content v (u v c)) e

pub more-keep : (content : Content) (births more : List Birth) → IsUnused content more
    → Includes (with_births births (pages_of content)) (with_births (births ++ more) (pages_of content))
more-keep content births more u n x e =
    with-more births more (pages_of content) n x (λ v c. unused_page content v (u v c)) e

pub raw-numbered : (n : ℕ) → numbered (raw (numbered n)) ≡ numbered n
raw-numbered zero = refl
raw-numbered (suc n) = refl

pub raw-slot : (s : ℕ) (o : Option (List ℕ))
    → numbered (raw (option_and_then (λ (page : List ℕ). slot s page) o))
    ≡ option_and_then (λ (page : List ℕ). slot s page) o
raw-slot s None = refl
raw-slot s (Some page) = raw-numbered _

pub nothing-sound : (pages : Pages) → IsSound pages Empty
unfolding place_at
nothing-sound pages = record {
  in_range = λ level offset v e. cc;
  stored = λ level offset v e. cc;
  once = λ p q v a b. cc;
  ends_full = λ t p v e. cc;
  has_top = λ k. absurd (k refl);
  tree_shape = λ t. cc;
}
