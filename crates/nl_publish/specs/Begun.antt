-- How a shared volume begins.
use Rattle.std.specs.Prelude.{◌≡◌, ℕ, [], ◌∷◌, None}
use Rattle.nl_commit.specs.Layout.{Layout}
use Rattle.nl_commit.specs.declared.commit.Commit.{Commit}
use Rattle.nl_publish.specs.Locks.{HeldPen}

-- one commit shows all of the pen, and it is published
pub record HasBegun (id : ℕ) (pen : Layout) (h : HeldPen) : Type 0 where
  pub volume : h.volume ≡ id
  pub first : Commit
  pub history : h.history ≡ first ∷ []
  pub published : h.published ≡ h.history
  pub lost : h.lost ≡ None
  pub layout : h.layout ≡ pen
