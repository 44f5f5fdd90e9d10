use Rattle.std.proofs.Common.{◌≡◌, ◌∙◌, ◌+◌, ◌<◌, ◌∷◌, ℕ, List, drop, get_or, length, add-one, drop-cons, ap, sym}
use Rattle.clap.specs.Words.{App, with_rule}
use Rattle.nl_commands.specs.declared.options.Valued.{Valued}
use Rattle.nl_commands.specs.Options.{value_rule}
use Rattle.nl_commands.proofs.options.program.Invariants.{with_options}
use Rattle.nl_commands.proofs.options.program.Goals as goal

next_left : (options : List Valued) (k : ℕ) (d : Valued) → k < length options
    → drop k options ≡ get_or options k d ∷ drop (k + 1) options
next_left options k d inside = rw add-one (drop-cons options k d inside)

-- the next one of the options that are left is added
one_added : (options : List Valued) (k : ℕ) (app more : App) (d : Valued) → k < length options
    → more ≡ with_rule app (value_rule (get_or options k d).name.now)
    → with_options more (drop (k + 1) options) ≡ with_options app (drop k options)
one_added options k app more d inside is =
    ap (λ (a : App). with_options a (drop (k + 1) options)) is
    ∙ sym (ap (with_options app) (next_left options k d inside))

pub loop-option-preserved : goal.loop-option-preserved
loop-option-preserved c =
    one_added _ c.loop-option.option-index _ _ _ c.loop-option-test.true
    (c.in_ok-command.ensures.shape c.library_option.ensures.local
    ∙ ap (with_rule _) c.library_option.ensures.rule)
    ∙ c.loop-option.invariant
