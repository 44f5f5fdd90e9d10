-- What removing minor checkpoints takes out, and what it keeps.
use Rattle.std.proofs.Common.{◌≡◌, ℕ, ◌<◌, Bool, true, false, cond, not, List, [], ◌∷◌, ◌++◌, map, Ok, Err, refl, sym, ap, ◌∙◌, subst, inl, inr, arith, ltb-true, le-leb}
use Rattle.std.specs.Prelude.{◌==◌, ◌&&◌, ◌||◌, nat_le, nat_lt}
use Rattle.std.specs.List.{filter, list_all}
use Rattle.std.proofs.lemmas.Bool.{and_parts}
use Rattle.std.proofs.lemmas.List.Elements.{filter-append}
use Rattle.nl_types.specs.declared.event.Event.TheVariants as event
use Rattle.nl_types.specs.declared.reply.Answer.{Answer}
use Rattle.nl_types.specs.declared.row.Row.{Row}
use Rattle.nl_types.specs.Plain.Limits.{checkpoint_number_limit}
use Rattle.nl_types.specs.Plain.NumberLists.{is_one_of}
use Rattle.nl_types.specs.Plain.Rows.{number_of, removal}
use Rattle.nl_types.specs.Plain.Worlds.{World, Copy, IsWorld, Outcome, Reply, copies_without, copy_row, latest, rows, step, take_out}
use Rattle.nl_types.specs.Facts.EventCases.{either_gives}
use Rattle.nl_keep.specs.Forgotten.{TellsFrom}
use Rattle.nl_keep.specs.MinorOnes.{RemovesMinor, TakesOutAll, earlier_rows, is_plain_minor, minor_ones}
use Rattle.nl_keep.specs.Volumes.{Follows, LeadsTo, Meaning}

-- ---- copies taken out one after another

pub is_one_of-append : (a b : List ℕ) (k : ℕ) → is_one_of (a ++ b) k ≡ (is_one_of a k || is_one_of b k)
is_one_of-append [] b k = refl
is_one_of-append (n ∷ a) b k =
    elim (k == n) as (λ t. (t || is_one_of (a ++ b) k) ≡ ((t || is_one_of a k) || is_one_of b k)) [
      | true ↦ refl
      | false ↦ is_one_of-append a b k
    ]

none_gone : (copies : List (ℕ × Copy)) → copies ≡ copies_without [] copies
none_gone [] = refl
none_gone (c ∷ copies) = ap (λ (cs : List (ℕ × Copy)). c ∷ cs) (none_gone copies)

both_gone : (a b : List ℕ) (copies : List (ℕ × Copy))
    → copies_without b (copies_without a copies) ≡ copies_without (a ++ b) copies
both_gone a b [] = refl
both_gone a b (c ∷ copies) =
    let rest = both_gone a b copies in
    let left = copies_without a copies in
    let both = copies_without (a ++ b) copies in
    elim (is_one_of a c.0) as (λ t.
    copies_without b (cond (not t) (c ∷ left) left) ≡ cond (not (t || is_one_of b c.0)) (c ∷ both) both) [
      | true ↦ rest
      | false ↦
          elim (is_one_of b c.0) as (λ t.
          cond (not t) (c ∷ copies_without b left) (copies_without b left) ≡ cond (not t) (c ∷ both) both) [
            | true ↦ rest
            | false ↦ ap (λ (cs : List (ℕ × Copy)). c ∷ cs) rest
          ]
    ]
    ∙ sym (ap (λ t. cond (not t) (c ∷ both) both) (is_one_of-append a b c.0))

pub takes_none : (w : World) → TakesOutAll [] w w
takes_none w = ap (λ (cs : List (ℕ × Copy)). record w { copies = cs }) (none_gone w.copies)

takes_both : (a b : List ℕ) (w v u : World) → TakesOutAll a w v → TakesOutAll b v u → TakesOutAll (a ++ b) w u
takes_both a b w v u one other =
    other ∙ ap (take_out b) one
    ∙ ap (λ (cs : List (ℕ × Copy)). record w { copies = cs }) (both_gone a b w.copies)

-- ---- one checkpoint

removed_done : (w : World) (n : ℕ) (cleaned : Reply) (given : Answer) (new : World)
    → step cleaned w (event.Remove n) ≡ (Ok given, new) → TakesOutAll (n ∷ []) w new
removed_done w n cleaned given new is = subst Done is done given refl
  where
    Done : Outcome → Type 0
    Done o = (a : Answer) → o.0 ≡ Ok a → TakesOutAll (n ∷ []) w o.1

    done : Done (step cleaned w (event.Remove n))
    done = either_gives Done w (removal n (latest w) (rows w)) _ (λ e a no. cc) (λ _ found a same. refl)

removes_one : (n : ℕ) (reply : Reply) (given : Answer) (Old New : Meaning)
    → LeadsTo (Follows (event.Remove n) reply) Old New → reply ≡ Ok given
    → LeadsTo (TakesOutAll (n ∷ [])) Old New
removes_one n reply given Old New does is w means =
    let d = does w means in (
      d.0,
      d.1,
      elim d.2.1 [
        | inl s ↦
            removed_done w n d.2.0 given d.0
            (subst (λ (r : Reply). step d.2.0 w (event.Remove n) ≡ (r, d.0)) is s)
        | inr r ↦ let no : Ok given ≡ Err r.error = sym is ∙ r.reply_is in cc
      ],
    )

-- a row by itself
one_minor : (row : Row) (b : Bool) → is_plain_minor row ≡ b
    → minor_ones (row ∷ []) ≡ cond b (row.number ∷ []) []
one_minor row true is = ap (λ b. map number_of (cond b (row ∷ []) [])) is
one_minor row false is = ap (λ b. map number_of (cond b (row ∷ []) [])) is

pub minor_goes : (row : Row) (reply : Reply) (given : Answer) (Old New : Meaning)
    → is_plain_minor row ≡ true → LeadsTo (Follows (event.Remove row.number) reply) Old New → reply ≡ Ok given
    → LeadsTo (TakesOutAll (minor_ones (row ∷ []))) Old New
minor_goes row reply given Old New minor does is =
    subst (λ (gone : List ℕ). LeadsTo (TakesOutAll gone) Old New) (sym (one_minor row true minor))
    (removes_one row.number reply given Old New does is)

pub other_stays : (row : Row) (Old : Meaning) → is_plain_minor row ≡ false
    → LeadsTo (TakesOutAll (minor_ones (row ∷ []))) Old Old
other_stays row Old other =
    subst (λ (gone : List ℕ). LeadsTo (TakesOutAll gone) Old Old) (sym (one_minor row false other))
    (λ w means. (w, means, takes_none w))

-- ---- one after another

map-both : (xs ys : List Row) → map number_of (xs ++ ys) ≡ map number_of xs ++ map number_of ys
map-both [] ys = refl
map-both (x ∷ xs) ys = ap (λ (ns : List ℕ). x.number ∷ ns) (map-both xs ys)

pub minor_ones-append : (xs ys : List Row) → minor_ones (xs ++ ys) ≡ minor_ones xs ++ minor_ones ys
minor_ones-append xs ys =
    ap (map number_of) (filter-append is_plain_minor xs ys)
    ∙ map-both (filter is_plain_minor xs) (filter is_plain_minor ys)

pub removes_none : (Old : Meaning) → LeadsTo (TakesOutAll (minor_ones [])) Old Old
removes_none Old w means = (w, means, takes_none w)

pub removes_more : (xs : List Row) (row : Row) (Old Mid New : Meaning)
    → LeadsTo (TakesOutAll (minor_ones xs)) Old Mid → LeadsTo (TakesOutAll (minor_ones (row ∷ []))) Mid New
    → LeadsTo (TakesOutAll (minor_ones (xs ++ row ∷ []))) Old New
removes_more xs row Old Mid New one other w means =
    let a = one w means in
    let b = other a.0 a.1 in (
      b.0,
      b.1,
      subst (λ (gone : List ℕ). TakesOutAll gone w b.0) (sym (minor_ones-append xs (row ∷ [])))
          (takes_both (minor_ones xs) (minor_ones (row ∷ [])) w a.0 b.0 a.2 b.2),
    )

-- ---- all of them

-- every checkpoint has a number from 1 on
pub all_told : (copies : List (ℕ × Copy))
    → list_all (λ c. nat_lt 0 c.0 && nat_lt c.0 checkpoint_number_limit) copies ≡ true
    → filter (λ row. nat_le 1 row.number) (map copy_row copies) ≡ map copy_row copies
all_told [] fit = refl
all_told (c ∷ copies) fit =
    let parts =
    and_parts (nat_lt 0 c.0 && nat_lt c.0 checkpoint_number_limit)
    (list_all (λ d. nat_lt 0 d.0 && nat_lt d.0 checkpoint_number_limit) copies) fit in
    let number = and_parts (nat_lt 0 c.0) (nat_lt c.0 checkpoint_number_limit) parts.0 in
    let above : 0 < c.0 = ltb-true 0 c.0 number.0 in
    let rest = filter (λ (row : Row). nat_le 1 row.number) (map copy_row copies) in
    ap (λ b. cond b (copy_row c ∷ rest) rest) (le-leb 1 c.0 (omega arith))
    ∙ ap (λ (rs : List Row). copy_row c ∷ rs) (all_told copies parts.1)

pub removes_minor : (told : List Row) (Old Mid New : Meaning) → ((w : World) → Old w → IsWorld w)
    → LeadsTo (TellsFrom 1 told) Old Mid → LeadsTo (TakesOutAll (minor_ones (earlier_rows told))) Mid New
    → LeadsTo RemovesMinor Old New
removes_minor told Old Mid New sound tells takes w means =
    let a = tells w means in
    let b = takes a.0 a.1 in
    let all : told ≡ rows w = a.2.0 ∙ all_told w.copies (sound w means).numbers_fit in (
      b.0,
      b.1,
      b.2 ∙ ap (λ (rs : List Row). take_out (minor_ones (earlier_rows rs)) a.0) all
          ∙ ap (take_out (minor_ones (earlier_rows (rows w)))) a.2.1,
    )
