-- Worlds that were only tidied.
use Rattle.std.proofs.Common.{◌≡◌, ◌⊎◌, ℕ, Some, refl, ◌∙◌, inl, inr, arith}
use Rattle.nl_types.specs.Plain.Worlds.{World, Copy, copy_at}
use Rattle.nl_keep.specs.Lasting.{IsMadeByItself, OnlyTidies}
use Rattle.nl_keep.specs.Volumes.{LeadsTo, Meaning}

module _ (moment : ℕ) where
  pub tidies_itself : (w : World) → OnlyTidies moment w w
  tidies_itself w = record {
    keeps = λ n copy at own. at;
    news = λ n copy at. inl at;
    numbers = omega arith;
    later = omega arith;
    stamp = omega arith;
    tree = refl;
    dirty = refl;
    mounts = refl;
  }

  -- what is new behind what was only tidied is new behind all
  news_on : (old mid new : World) → OnlyTidies moment old mid → OnlyTidies moment mid new → (n : ℕ) (copy : Copy)
      → copy_at new n ≡ Some copy → (copy_at old n ≡ Some copy) ⊎ IsMadeByItself old n copy
  news_on old mid new one other n copy at = elim (other.news n copy at) [
    | inl there ↦ one.news n copy there
    | inr made ↦
        inr (record {
          behind = omega arith;
          minor = made.minor;
          tree = λ clean. made.tree (one.dirty ∙ clean) ∙ one.tree;
        })
  ]

  pub tidies_on : (old mid new : World) → OnlyTidies moment old mid → OnlyTidies moment mid new
      → OnlyTidies moment old new
  tidies_on old mid new one other =
      record {
        keeps = λ n copy at own. other.keeps n copy (one.keeps n copy at own) own;
        news = news_on old mid new one other;
        numbers = omega arith;
        later = omega arith;
        stamp = omega arith;
        tree = other.tree ∙ one.tree;
        dirty = other.dirty ∙ one.dirty;
        mounts = other.mounts ∙ one.mounts;
      }

  -- ---- beside each world that was meant

  pub leads_to_itself : (Old : Meaning) → LeadsTo (OnlyTidies moment) Old Old
  leads_to_itself Old w means = (w, means, tidies_itself w)

  pub leads_on : (Old Mid New : Meaning) → LeadsTo (OnlyTidies moment) Old Mid
      → LeadsTo (OnlyTidies moment) Mid New → LeadsTo (OnlyTidies moment) Old New
  leads_on Old Mid New one other w means =
      let a = one w means in
      let b = other a.0 a.1 in
      (b.0, b.1, tidies_on w a.0 b.0 a.2 b.2)
