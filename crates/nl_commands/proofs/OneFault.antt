-- A command without subcommands finds at most one fault.
use Rattle.std.proofs.Common.{◌≡◌, sym, refl, true≢false, ℕ, zero, suc, Bool, true, false, List, [], ◌∷◌, Option, None, Some, length, is_some, if◌then◌else◌, nat_lt, drop}
use Rattle.std.specs.Prelude.{⊤, ◌==◌, ◌&&◌, ◌||◌, ◌+◌, not, min, encode_utf8, slice_get}
use Rattle.std.specs.List.{list_any}
use Rattle.std.specs.Option.{option_map_or}
use Rattle.std.specs.Str.{bytes_eq, chars}
use Rattle.clap.specs.Lexer.{long_of, short_of}
use Rattle.clap.specs.Facts.{parser_of_value, unwrap_or_range, explicit_source}
use Rattle.clap.specs.Matches.{count_text}
use Rattle.clap.specs.Takes.{is_given}
use Rattle.clap.specs.ValueTests.{accepts}
use Rattle.clap.specs.Values.{refused_kind}
use Rattle.clap.specs.Kinds.{Kinds, check_kinds, or_else, range_kinds, request_kinds, value_kinds, values_kinds}
use Rattle.clap.specs.Faults.{action_fault, bundle_step_fault, check_fault, count_fault, default_fault, defaults_fault, entered_fault, fault_of, flag_word_fault, flags_fault, given_default_fault, level_fault, long_fault, option_fault, other_fault, positional_fault, react_fault, repeat_fault, settle_fault, short_fault, step_fault, stray_fault, turn_fault, use_fault, values_fault, walk_fault, word_fault}
use Rattle.clap.specs.Simple.{Shape, built, entered}
use Rattle.clap.specs.Walk.{Held, Row, Rule, Step, Text, Waiting, Walk, action_of, arg_by_id, arg_by_index, arg_by_long, arg_by_short, attached_value, count_of, finished, has_row, idle, option, is_empty, is_pending, most_values, nothing_held, positional, reacted, settled, takes_several, takes_values, value, values_or_missing, walk, walk_from, walked, with_default, word_met}
use Rattle.clap.specs.declared.builder.action.ArgAction.{ArgAction}
use Rattle.clap.specs.declared.builder.action.ArgAction.TheVariants.{Set, Append, SetTrue, SetFalse, Count, Help, HelpShort, HelpLong, Version}
use Rattle.clap.specs.declared.builder.value_parser.ValueParser.{ValueParser}
use Rattle.clap.specs.declared.error.kind.ErrorKind.TheVariants.{UnknownArgument, InvalidSubcommand}
use Rattle.nl_commands.specs.Options.{program}

abbrev pub IsSingle : Kinds → Type 0
IsSingle [] = ⊤
IsSingle (k ∷ []) = ⊤
IsSingle (k ∷ l ∷ kinds) = ⊥

or-single : (a b : Kinds) → IsSingle a → IsSingle b → IsSingle (or_else a b)
or-single [] b sa sb = sb
or-single (k ∷ []) b sa sb = tt
or-single (k ∷ l ∷ kinds) b sa sb = absurd sa

if-single : (b : Bool) (x y : Kinds) → IsSingle x → IsSingle y → IsSingle (if b then x else y)
if-single true x y sx sy = sx
if-single false x y sx sy = sy

some-single : {A : Type 0} (f : A → Kinds) (o : Option A) (d : Kinds) → ((a : A) → IsSingle (f a))
    → IsSingle d → IsSingle (option_map_or f o d)
some-single f None d sf sd = sd
some-single f (Some a) d sf sd = sf a

-- ---- one use of an argument

value-single : (i : Bool) (p : ValueParser) (v : Text) → IsSingle (value_kinds i p v)
value-single i p v = if-single (accepts i p v) [] (refused_kind p ∷ []) tt tt

values-single : (i : Bool) (p : ValueParser) (vs : List Text) → IsSingle (values_kinds i p vs)
values-single i p [] = tt
values-single i p (v ∷ vs) =
    or-single (value_kinds i p v) (values_kinds i p vs) (value-single i p v) (values-single i p vs)

range-single : (least most n : ℕ) → IsSingle (range_kinds least most n)
range-single least most n =
    if-single (nat_lt 0 least && n == 0) _ _ tt
    (if-single (least == most) _ _ (if-single (least == n) _ _ tt tt)
    (if-single (nat_lt n least) _ _ tt (if-single (nat_lt most n) _ _ tt tt)))

request-single : (x : ArgAction) → IsSingle (request_kinds x)
request-single Help = tt
request-single HelpShort = tt
request-single HelpLong = tt
request-single Version = tt
request-single _ = tt

count-single : (a : Rule) (vs : List Text) (rows : List Row) → IsSingle (count_fault a vs rows)
count-single a [] rows =
    value-single a.ignore_case (parser_of_value a.parser) (count_text (min (count_of a.id rows + 1) 255))
count-single a (v ∷ vs) rows = values-single a.ignore_case (parser_of_value a.parser) (v ∷ vs)

set-single : (again : Bool) (a : Rule) (vs : List Text) (rows : List Row)
    → IsSingle (or_else (repeat_fault again a.id rows) (values_fault a vs))
set-single again a vs rows =
    or-single (repeat_fault again a.id rows) (values_fault a vs)
    (if-single (has_row a.id rows && not again) _ _ tt tt)
    (values-single a.ignore_case (parser_of_value a.parser) vs)

action-single : (x : ArgAction) (again : Bool) (a : Rule) (vs : List Text) (rows : List Row)
    → IsSingle (action_fault x again a vs rows)
action-single Set again a vs rows = set-single again a vs rows
action-single SetTrue again a vs rows = set-single again a vs rows
action-single SetFalse again a vs rows = set-single again a vs rows
action-single Append again a vs rows = values-single a.ignore_case (parser_of_value a.parser) vs
action-single Count again a vs rows = count-single a vs rows
action-single _ again a vs rows = tt

use-single : (again : Bool) (a : Rule) (vs : List Text) (rows : List Row)
    → IsSingle (use_fault again a vs rows)
use-single again a vs rows =
    or-single (range_kinds (unwrap_or_range a.range).start_inclusive (most_values a) (length vs))
    (action_fault (action_of a) again a (values_or_missing a vs) rows)
    (range-single (unwrap_or_range a.range).start_inclusive (most_values a) (length vs))
    (action-single (action_of a) again a (values_or_missing a vs) rows)

-- ---- the walk

settle-single : (c : List Rule) (again : Bool) (h : Held) → IsSingle (settle_fault c again h)
settle-single c again h =
    some-single (λ p. option_map_or (λ a. use_fault again a p.1 h.rows) (arg_by_id c p.0) []) h.pending []
    (λ p.
    some-single (λ a. use_fault again a p.1 h.rows) (arg_by_id c p.0) []
    (λ a. use-single again a p.1 h.rows) tt)
    tt

react-single : (c : List Rule) (again : Bool) (a : Rule) (vs : List Text) (h : Held)
    → IsSingle (react_fault c again a vs h)
react-single c again a vs h =
    or-single (settle_fault c again h) (use_fault again a vs (settled c h).rows)
    (settle-single c again h) (use-single again a vs (settled c h).rows)

option-single : (c : List Rule) (again : Bool) (a : Rule) (v : Option Text) (h : Held)
    → IsSingle (option_fault c again a v h)
option-single c again a (Some v) h = react-single c again a (v ∷ []) h
option-single c again a None h = settle-single c again h

long-single : (c : List Rule) (again : Bool) (r : Option Rule) (v : Option Text) (h : Held)
    → IsSingle (long_fault c again r v h)
long-single c again None v h = tt
long-single c again (Some a) v h =
    if-single (takes_values a) _ _ (option-single c again a v h)
    (if-single (is_some v) _ _ tt (react-single c again a [] h))

short-single : (c : List Rule) (again : Bool) (r : Option Rule) (rest : Text) (h : Held) (go : Held → Kinds)
    → ((g : Held) → IsSingle (go g)) → IsSingle (short_fault c again r rest h go)
short-single c again None rest h go all = tt
short-single c again (Some a) rest h go all =
    if-single (takes_values a) _ _ (option-single c again a (attached_value rest) h)
    (or-single (react_fault c again a [] h) (go (reacted c a [] h)) (react-single c again a [] h)
    (all (reacted c a [] h)))

step_in-single : (c : List Rule) (again : Bool) (x : Option ℕ) (flags : Text) (skip : ℕ) (h : Held)
    (go : Text → ℕ → Held → Kinds)
    → ((t : Text) (n : ℕ) (g : Held) → IsSingle (go t n g))
    → IsSingle (bundle_step_fault c again x flags skip h go)
step_in-single c again None flags skip h go all = tt
step_in-single c again (Some x) flags zero h go all =
    let rest = drop (length (encode_utf8 x)) flags in
    short-single c again (arg_by_short c x) rest h (go rest 0) (all rest 0)
step_in-single c again (Some x) flags (suc skip) h go all = all (drop (length (encode_utf8 x)) flags) skip h

flags-single : (c : List Rule) (again : Bool) (k : ℕ) (flags : Text) (skip : ℕ) (h : Held)
    → IsSingle (flags_fault c again k flags skip h)
unfolding flags_fault
flags-single c again zero flags skip h = tt
flags-single c again (suc k) flags skip h =
    step_in-single c again (slice_get (chars flags) 0) flags skip h (flags_fault c again k)
    (flags-single c again k)

flag_word-single : (c : List Rule) (again : Bool) (p : Option (Text × Option Text)) (word : Text) (h : Held)
    → IsSingle (flag_word_fault c again p word h)
flag_word-single c again (Some p) word h = long-single c again (arg_by_long c p.0) p.1 h
flag_word-single c again None word h =
    some-single (λ flags. flags_fault c again (length flags) flags h.skip (record h { skip = 0 }))
    (short_of word) []
    (λ flags. flags-single c again (length flags) flags h.skip (record h { skip = 0 })) tt

other-single : (s : Shape) (word : Text) (h : Held) → IsSingle (other_fault s None word h)
other-single s word h =
    if-single (bytes_eq word (45 ∷ 45 ∷ [])) _ _ tt
    (flag_word-single s.rules s.args_override_self (long_of word) word h)

word-single : (s : Shape) (is_trailing : Bool) (waiting : Waiting) (word : Text) (h : Held)
    → IsSingle (word_fault s [] is_trailing waiting word h)
word-single s is_trailing idle word h =
    if-single is_trailing [] (other_fault s None word h) tt (other-single s word h)
word-single s is_trailing (option id) word h =
    if-single is_trailing [] (other_fault s None word h) tt (other-single s word h)
word-single s is_trailing positional word h =
    if-single is_trailing [] (other_fault s None word h) tt (other-single s word h)

stray_if : (b : Bool) → b ≡ true
    → IsSingle (if b then UnknownArgument ∷ [] else UnknownArgument ∷ InvalidSubcommand ∷ [])
stray_if true is = tt
stray_if false is = absurd (true≢false (sym is))

step-single : (s : Shape) (position : ℕ) (h : Held) (step : Step) → s.is_leaf ≡ true
    → IsSingle (step_fault s position h step)
step-single s position h value leaf =
    some-single (λ a. positional_fault s.rules s.args_override_self a h) (arg_by_index s.rules position)
    (stray_fault s)
    (λ a.
    if-single (is_pending a h.pending && takes_several a) _ _ tt
    (settle-single s.rules s.args_override_self h))
    (stray_if s.is_leaf leaf)
step-single s position h _ leaf = tt

turn-single : (s : Shape) (w : Walk) (word : Text) → s.is_leaf ≡ true → IsSingle (turn_fault s [] w word)
turn-single s w word leaf =
    let met = word_met s.rules [] w.is_trailing w.waiting w.position word w.held in
    if-single (is_some w.stopped) _ _ tt
    (or-single (word_fault s [] w.is_trailing w.waiting word w.held) (step_fault s w.position met.0 met.1)
    (word-single s w.is_trailing w.waiting word w.held) (step-single s w.position met.0 met.1 leaf))

walk-single : (s : Shape) (w : Walk) (words : List Text) → s.is_leaf ≡ true
    → IsSingle (walk_fault s [] w words)
unfolding walk_fault
walk-single s w [] leaf = tt
walk-single s w (word ∷ rest) leaf =
    or-single (turn_fault s [] w word) (walk_fault s [] (walked s.rules [] w word) rest)
    (turn-single s w word leaf) (walk-single s (walked s.rules [] w word) rest leaf)

-- ---- after the walk

default-single : (rows : List Row) (a : Rule) → IsSingle (default_fault rows a)
default-single rows a =
    if-single (has_row a.id rows || is_empty a.defaults) [] (given_default_fault a a.defaults) tt
    (or-single (request_kinds (action_of a)) (values_fault a a.defaults)
    (request-single (action_of a)) (values-single a.ignore_case (parser_of_value a.parser) a.defaults))

defaults-single : (rows : List Row) (rules : List Rule) → IsSingle (defaults_fault rows rules)
unfolding defaults_fault
defaults-single rows [] = tt
defaults-single rows (a ∷ rest) =
    or-single (default_fault rows a) (defaults_fault (with_default rows a) rest)
    (default-single rows a) (defaults-single (with_default rows a) rest)

check-single : (a b c : Bool) → IsSingle (check_kinds a b c)
check-single a b c = if-single a _ _ tt (if-single b _ _ tt (if-single c _ _ tt tt))

check_of-single : (s : Shape) (rows : List Row) (has_subcommand : Bool)
    → IsSingle (check_fault s rows has_subcommand)
check_of-single s rows has_subcommand =
    check-single
    (not has_subcommand && (s.arg_required_else_help && not (list_any (λ r. explicit_source r.source) rows)))
    (not has_subcommand && s.subcommand_required)
    (not (s.subcommand_negates_reqs && has_subcommand)
    && list_any (λ a. a.required && not (is_given a.id rows)) s.rules)

level-single : (s : Shape) (h : Held) (words : List Text) (has_subcommand : Bool) (below : Kinds)
    → s.is_leaf ≡ true → IsSingle below → IsSingle (level_fault s [] h words has_subcommand below)
level-single s h words has_subcommand below leaf single =
    let end = (walk s.rules [] h words).held in
    or-single (walk_fault s [] (walk_from h) words) _ (walk-single s (walk_from h) words leaf)
    (or-single below _ single
    (or-single (settle_fault s.rules s.args_override_self end) _
    (settle-single s.rules s.args_override_self end)
    (or-single (defaults_fault (settled s.rules end).rows s.rules) _
    (defaults-single (settled s.rules end).rows s.rules)
    (check_of-single s (finished s.rules end) has_subcommand))))

none_entered : (stop : Option (Text × List Text)) → IsSingle (entered_fault (built program) stop)
none_entered None = tt
none_entered (Some p) = tt

pub one_fault : (words : List Text) → IsSingle (fault_of program words)
one_fault words =
    let stop = (walk (built program).top.rules [] nothing_held words).stopped in
    level-single (built program).top nothing_held words (is_some (entered (built program) stop))
    (entered_fault (built program) stop) refl (none_entered stop)
