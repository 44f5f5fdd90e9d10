-- One segment of a list is cleaned after another.
use Rattle.std.proofs.Common.{◌≡◌, ℕ, ◌+◌, ◌<◌, ◌≤◌, List, ◌∷◌, get_or, length, drop, Ok, Err, refl, sym, ap, subst, ◌∙◌}
use Rattle.std.proofs.Math.ListN.{drop_of_length-le}
use Rattle.std.proofs.lemmas.List.{at_drop_more}
use Rattle.nl_types.specs.declared.error.VolError.{VolError}
use Rattle.nl_types.specs.declared.reply.Answer.{Answer}
use Rattle.nl_commit.specs.Layout.{Layout}
use Rattle.nl_lib.specs.CleanedSegments.{CleansSegment, CleansSegments, none_cleaned, one_more, refused_by}
use Rattle.nl_lib.specs.declared.cleaning.Cleaned.{Cleaned}

module _ (now : ℕ) (segments : List ℕ) (i segment : ℕ) (within : i < length segments)
    (item : segment ≡ get_or segments i segment) where
  next : drop i segments ≡ segment ∷ drop (i + 1) segments
  next =
      at_drop_more (λ l. l) segments i segment within ∙ ap (λ (s : ℕ). s ∷ drop (i + 1) segments) (sym item)

  pub one-cleaned : (old mid new : Layout) (more : Cleaned) (answer : Answer)
      → CleansSegment segment now old (Ok answer) mid
      → CleansSegments now (drop (i + 1) segments) mid more new
      → CleansSegments now (drop i segments) old (one_more more) new
  one-cleaned old mid new more answer cleans rest =
      subst (λ (l : List ℕ). CleansSegments now l old (one_more more) new) (sym next)
      (Ok answer, mid, cleans, (more, rest, refl))

  pub one-refused : (old new : Layout) (e : VolError) → CleansSegment segment now old (Err e) new
      → CleansSegments now (drop i segments) old (refused_by e) new
  one-refused old new e cleans =
      subst (λ (l : List ℕ). CleansSegments now l old (refused_by e) new) (sym next)
      (Err e, new, cleans, (refl, refl))

pub none-left : (now i : ℕ) (segments : List ℕ) (l : Layout) → length segments ≤ i
    → CleansSegments now (drop i segments) l none_cleaned l
none-left now i segments l past =
    subst (λ (rest : List ℕ). CleansSegments now rest l none_cleaned l)
    (sym (drop_of_length-le segments past)) (refl, refl)

-- the count of what was retired before and after
pub with-count : (now : ℕ) (segments : List ℕ) (old new : Layout) (result : Cleaned) (m n : ℕ) → m ≡ n
    → CleansSegments now segments old (record result { retired = m }) new
    → CleansSegments now segments old (record result { retired = n }) new
with-count now segments old new result m n same is =
    subst (λ (k : ℕ). CleansSegments now segments old (record result { retired = k }) new) same is
