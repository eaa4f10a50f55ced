-- `takes` and `fault_of` are two sides of one thing: a parse succeeds exactly if no kind of error comes.
use Rattle.std.proofs.Common.{◌≡◌, ◌∙◌, ◌&&◌, ◌||◌, not, ℕ, Bool, true, false, if◌then◌else◌, zero, suc, refl, sym, ap, ap₂, arith, codes, List, [], ◌∷◌, Option, Some, None, is_some, length, drop, nat_le}
use Rattle.std.specs.Prelude.{encode_utf8, slice_get}
use Rattle.std.specs.Option.{option_map_or}
use Rattle.std.specs.List.{list_all, list_any}
use Rattle.std.specs.Str.{bytes_eq, chars}
use Rattle.std.proofs.Math.Bool.{and_assoc, or_assoc, or-true, or-false}
use Rattle.std.proofs.lemmas.Bool.{and_parts}
use Rattle.std.proofs.lemmas.Bool.Decides.{nat_tests}
use Rattle.clap.specs.Lexer.{long_of, short_of}
use Rattle.clap.specs.Values.{is_request}
use Rattle.clap.specs.Facts.{explicit_source, parser_of_value, unwrap_or_range}
use Rattle.clap.specs.Kinds.{Kinds, check_kinds, or_else, range_kinds, request_kinds, value_kinds}
use Rattle.clap.specs.declared.error.kind.ErrorKind.{ErrorKind}
use Rattle.clap.specs.declared.builder.action.ArgAction.{ArgAction}
use Rattle.clap.specs.declared.builder.action.ArgAction.TheVariants as action
use Rattle.clap.specs.Walk.{Held, Names, Row, Rule, Step, Text, Waiting, Walk, action_of, arg_by_id, arg_by_index, arg_by_long, arg_by_short, attached_value, finished, has_row, is_empty, is_pending, most_values, next, nothing_held, reacted, settled, subcommand, subcommand_met, takes_several, takes_values, trailing, value, values_or_missing, walk, walk_from, walked, with_default, word_met}
use Rattle.clap.specs.Simple.{App, Shape, argument_words, built, entered, is_simple}
use Rattle.clap.specs.Takes.{action_passes, built_takes, bundle_passes, bundle_step_passes, count_passes, default_passes, entered_passes, flag_word_passes, flags_pass, is_given, is_valid, level_passes, long_passes, option_passes, other_passes, positional_passes, react_passes, set_passes, settle_passes, short_passes, step_passes, takes, turn_passes, use_passes, value_passes, values_pass, walk_passes, word_passes}
use Rattle.clap.specs.Faults.{action_fault, bundle_fault, bundle_step_fault, check_fault, count_fault, default_fault, defaults_fault, fault_of, flag_word_fault, flags_fault, level_fault, long_fault, option_fault, other_fault, positional_fault, react_fault, set_fault, settle_fault, short_fault, step_fault, stray_fault, turn_fault, use_fault, values_fault, walk_fault, word_fault}
use Rattle.clap.proofs.FaultLemmas.{leaf_fault}

-- whether there is no kind of error
abbrev pub is_clear : Kinds → Bool
is_clear [] = true
is_clear (k ∷ ks) = false

-- Kinds that tests and steps put together

-- two steps are clear if both are
steps_agree : (a b : Kinds) (p q : Bool) → is_clear a ≡ p → is_clear b ≡ q → is_clear (or_else a b) ≡ (p && q)
steps_agree [] b p q e f = ap₂ (λ x y. x && y) e f
steps_agree (k ∷ ks) b p q e f = ap (λ x. x && q) e

-- a test chooses one of two steps
choice_agrees : (t : Bool) (a b : Kinds) (p q : Bool) → is_clear a ≡ p → is_clear b ≡ q
    → is_clear (if t then a else b) ≡ (if t then p else q)
choice_agrees true a b p q e f = e
choice_agrees false a b p q e f = f

-- where the test holds, the step is not taken
spared_agrees : (t : Bool) (a : Kinds) (p : Bool) → is_clear a ≡ p → is_clear (if t then [] else a) ≡ (t || p)
spared_agrees true a p e = refl
spared_agrees false a p e = e

-- where the test holds, a kind comes in place of the step
refused_agrees : (t : Bool) (k : ErrorKind) (a : Kinds) (p : Bool) → is_clear a ≡ p
    → is_clear (if t then k ∷ [] else a) ≡ (not t && p)
refused_agrees true k a p e = refl
refused_agrees false k a p e = e

-- a kind comes where the test fails
test_agrees : (t : Bool) (k : ErrorKind) → is_clear (if t then [] else k ∷ []) ≡ t
test_agrees true k = refl
test_agrees false k = refl

-- kinds come where the first test holds and the second fails
unless_agrees : (t u : Bool) (k : ErrorKind) (ks : Kinds)
    → is_clear (if t && not u then k ∷ ks else []) ≡ (not t || u)
unless_agrees true true k ks = refl
unless_agrees true false k ks = refl
unless_agrees false u k ks = refl

-- One use of an argument

-- a value gives no kind exactly if it passes
value_agrees : (a : Rule) (text : Text)
    → is_clear (value_kinds a.ignore_case (parser_of_value a.parser) text) ≡ value_passes a text
value_agrees a text = test_agrees (value_passes a text) _

-- values give no kind exactly if all pass
values_agree : (a : Rule) (values : List Text) → is_clear (values_fault a values) ≡ values_pass a values
values_agree a [] = refl
values_agree a (v ∷ vs) = steps_agree _ _ _ _ (value_agrees a v) (values_agree a vs)

-- the same of a use that is counted
count_agrees : (a : Rule) (values : List Text) (rows : List Row)
    → is_clear (count_fault a values rows) ≡ count_passes a values rows
count_agrees a [] rows = value_agrees a _
count_agrees a (v ∷ vs) rows = values_agree a (v ∷ vs)

-- the same of a use that may come once, or again in place of the first
set_agrees : (again : Bool) (a : Rule) (values : List Text) (rows : List Row)
    → is_clear (set_fault again a values rows) ≡ set_passes again a values rows
set_agrees again a values rows =
    steps_agree _ _ _ _ (unless_agrees (has_row a.id rows) again _ _) (values_agree a values)

-- the same of each action: those that ask for help or the version never pass
action_agrees : (x : ArgAction) (again : Bool) (a : Rule) (values : List Text) (rows : List Row)
    → is_clear (action_fault x again a values rows) ≡ action_passes x again a values rows
action_agrees action.Set again a values rows = set_agrees again a values rows
action_agrees action.SetTrue again a values rows = set_agrees again a values rows
action_agrees action.SetFalse again a values rows = set_agrees again a values rows
action_agrees action.Append again a values rows = values_agree a values
action_agrees action.Count again a values rows = count_agrees a values rows
action_agrees action.Help again a values rows = refl
action_agrees action.HelpShort again a values rows = refl
action_agrees action.HelpLong again a values rows = refl
action_agrees action.Version again a values rows = refl

-- a number of values gives no kind exactly if it is from the least to the most
range_agrees : (least most n : ℕ) → is_clear (range_kinds least most n) ≡ (nat_le least n && nat_le n most)
range_agrees least most n = grind (arith, nat_tests)

-- a use gives no kind exactly if it passes
use_agrees : (again : Bool) (a : Rule) (values : List Text) (rows : List Row)
    → is_clear (use_fault again a values rows) ≡ use_passes again a values rows
use_agrees again a values rows =
    let least = (unwrap_or_range a.range).start_inclusive in
    let n = length values in
    steps_agree _ _ _ _ (range_agrees least (most_values a) n)
    (action_agrees (action_of a) again a (values_or_missing a values) rows)
    ∙ and_assoc (nat_le least n) (nat_le n (most_values a)) _

-- The walk

-- the use of what is pending gives no kind exactly if it passes
settle_agrees : (c : List Rule) (again : Bool) (h : Held)
    → is_clear (settle_fault c again h) ≡ settle_passes c again h
settle_agrees c again h = by_pending h.pending
  where
    by_found : (values : List Text) (found : Option Rule)
        → is_clear (option_map_or (λ a. use_fault again a values h.rows) found [])
        ≡ option_map_or (λ a. use_passes again a values h.rows) found true
    by_found values None = refl
    by_found values (Some a) = use_agrees again a values h.rows

    by_pending : (pending : Option (Text × List Text))
        → is_clear (settle_fault c again (record h { pending = pending }))
        ≡ settle_passes c again (record h { pending = pending })
    by_pending None = refl
    by_pending (Some p) = by_found p.1 (arg_by_id c p.0)

-- and so with the use of an argument after it
react_agrees : (c : List Rule) (again : Bool) (a : Rule) (values : List Text) (h : Held)
    → is_clear (react_fault c again a values h) ≡ react_passes c again a values h
react_agrees c again a values h =
    steps_agree _ _ _ _ (settle_agrees c again h) (use_agrees again a values (settled c h).rows)

-- an option, with or without the value that is attached to it
option_agrees : (c : List Rule) (again : Bool) (a : Rule) (v : Option Text) (h : Held)
    → is_clear (option_fault c again a v h) ≡ option_passes c again a v h
option_agrees c again a (Some v) h = react_agrees c again a (v ∷ []) h
option_agrees c again a None h = settle_agrees c again h

-- a long name, by the argument that it names
long_agrees : (c : List Rule) (again : Bool) (found : Option Rule) (v : Option Text) (h : Held)
    → is_clear (long_fault c again found v h) ≡ long_passes c again found v h
long_agrees c again None v h = refl
long_agrees c again (Some a) v h =
    choice_agrees (takes_values a) _ _ _ _ (option_agrees c again a v h)
    (refused_agrees (is_some v) _ _ _ (react_agrees c again a [] h))

-- a short name, by the argument that it names, where what comes after it agrees
short_agrees : (c : List Rule) (again : Bool) (found : Option Rule) (rest : Text) (h : Held)
    (fault : Held → Kinds) (passes : Held → Bool) → ((g : Held) → is_clear (fault g) ≡ passes g)
    → is_clear (short_fault c again found rest h fault) ≡ short_passes c again found rest h passes
short_agrees c again None rest h fault passes agree = refl
short_agrees c again (Some a) rest h fault passes agree =
    choice_agrees (takes_values a) _ _ _ _ (option_agrees c again a (attached_value rest) h)
    (steps_agree _ _ _ _ (react_agrees c again a [] h) (agree (reacted c a [] h)))

-- a character of a bundle, where those after it agree
bundle_step_agrees : (c : List Rule) (again : Bool) (first : Option ℕ) (flags : Text) (skip : ℕ) (h : Held)
    (fault : Text → ℕ → Held → Kinds) (passes : Text → ℕ → Held → Bool)
    → ((rest : Text) (less : ℕ) (g : Held) → is_clear (fault rest less g) ≡ passes rest less g)
    → is_clear (bundle_step_fault c again first flags skip h fault)
    ≡ bundle_step_passes c again first flags skip h passes
bundle_step_agrees c again None flags skip h fault passes agree = refl
bundle_step_agrees c again (Some x) flags zero h fault passes agree =
    let rest = drop (length (encode_utf8 x)) flags in
    short_agrees c again (arg_by_short c x) rest h (fault rest 0) (passes rest 0) (agree rest 0)
bundle_step_agrees c again (Some x) flags (suc skip) h fault passes agree =
    agree (drop (length (encode_utf8 x)) flags) skip h

-- at most k characters of a bundle
flags_agree : (c : List Rule) (again : Bool) (k : ℕ) (flags : Text) (skip : ℕ) (h : Held)
    → is_clear (flags_fault c again k flags skip h) ≡ flags_pass c again k flags skip h
unfolding flags_fault flags_pass
flags_agree c again zero flags skip h = refl
flags_agree c again (suc k) flags skip h =
    bundle_step_agrees c again (slice_get (chars flags) 0) flags skip h (flags_fault c again k) (flags_pass c again k)
    (flags_agree c again k)

-- a whole bundle
bundle_agrees : (c : List Rule) (again : Bool) (flags : Text) (h : Held)
    → is_clear (bundle_fault c again flags h) ≡ bundle_passes c again flags h
bundle_agrees c again flags h = flags_agree c again (length flags) flags h.skip (record h { skip = 0 })

-- a word, by the long name that it has
flag_word_agrees : (c : List Rule) (again : Bool) (long : Option (Text × Option Text)) (word : Text) (h : Held)
    → is_clear (flag_word_fault c again long word h) ≡ flag_word_passes c again long word h
flag_word_agrees c again (Some p) word h = long_agrees c again (arg_by_long c p.0) p.1 h
flag_word_agrees c again None word h = by_flags (short_of word)
  where
    by_flags : (short : Option Text) → is_clear (option_map_or (λ flags. bundle_fault c again flags h) short [])
        ≡ option_map_or (λ flags. bundle_passes c again flags h) short true
    by_flags None = refl
    by_flags (Some flags) = bundle_agrees c again flags h

-- a word, by the subcommand that it names
other_agrees : (s : Shape) (met : Option Text) (word : Text) (h : Held)
    → is_clear (other_fault s met word h) ≡ other_passes s met word h
other_agrees s (Some name) word h = unless_agrees (bytes_eq name (codes "help")) s.disable_help_subcommand _ _
other_agrees s None word h =
    spared_agrees (bytes_eq word (45 ∷ 45 ∷ [])) _ _
    (flag_word_agrees s.rules s.args_override_self (long_of word) word h)

-- a word, before it goes to a positional
word_agrees : (s : Shape) (names : Names) (is_trailing : Bool) (waiting : Waiting) (word : Text) (h : Held)
    → is_clear (word_fault s names is_trailing waiting word h) ≡ word_passes s names is_trailing waiting word h
word_agrees s names is_trailing waiting word h =
    spared_agrees is_trailing _ _ (other_agrees s (subcommand_met names waiting word) word h)

-- a word that goes to a positional
positional_agrees : (c : List Rule) (again : Bool) (a : Rule) (h : Held)
    → is_clear (positional_fault c again a h) ≡ positional_passes c again a h
positional_agrees c again a h =
    spared_agrees (is_pending a h.pending && takes_several a) _ _ (settle_agrees c again h)

-- a word that no positional takes always gives a kind
stray_agrees : (s : Shape) → is_clear (stray_fault s) ≡ false
stray_agrees s = by_leaf s.is_leaf
  where
    by_leaf : (is_leaf : Bool) → is_clear (stray_fault (record s { is_leaf = is_leaf })) ≡ false
    by_leaf true = refl
    by_leaf false = refl

-- what a word was
step_agrees : (s : Shape) (position : ℕ) (h : Held) (step : Step)
    → is_clear (step_fault s position h step) ≡ step_passes s position h step
step_agrees s position h value = by_found (arg_by_index s.rules position)
  where
    by_found : (found : Option Rule)
        → is_clear (option_map_or (λ a. positional_fault s.rules s.args_override_self a h) found (stray_fault s))
        ≡ option_map_or (λ a. positional_passes s.rules s.args_override_self a h) found false
    by_found None = stray_agrees s
    by_found (Some a) = positional_agrees s.rules s.args_override_self a h
step_agrees s position h (next waiting) = refl
step_agrees s position h (trailing start) = refl
step_agrees s position h (subcommand name) = refl

-- a word's whole turn
turn_agrees : (s : Shape) (names : Names) (w : Walk) (word : Text)
    → is_clear (turn_fault s names w word) ≡ turn_passes s names w word
turn_agrees s names w word =
    let met = word_met s.rules names w.is_trailing w.waiting w.position word w.held in
    spared_agrees (is_some w.stopped) _ _
    (steps_agree _ _ _ _ (word_agrees s names w.is_trailing w.waiting word w.held)
    (step_agrees s w.position met.0 met.1))

-- all words
walk_agrees : (s : Shape) (names : Names) (w : Walk) (words : List Text)
    → is_clear (walk_fault s names w words) ≡ walk_passes s names w words
unfolding walk_fault walk_passes
walk_agrees s names w [] = refl
walk_agrees s names w (word ∷ rest) =
    steps_agree _ _ _ _ (turn_agrees s names w word) (walk_agrees s names (walked s.rules names w word) rest)

-- After the walk

-- an action gives no kind by itself exactly if it does not ask for help or the version
request_agrees : (x : ArgAction) → is_clear (request_kinds x) ≡ not (is_request x)
request_agrees action.Set = refl
request_agrees action.SetTrue = refl
request_agrees action.SetFalse = refl
request_agrees action.Append = refl
request_agrees action.Count = refl
request_agrees action.Help = refl
request_agrees action.HelpShort = refl
request_agrees action.HelpLong = refl
request_agrees action.Version = refl

-- an argument's default gives no kind exactly if the argument is there already or the default passes
default_agrees : (rows : List Row) (a : Rule)
    → is_clear (default_fault rows a) ≡ (has_row a.id rows || default_passes a)
default_agrees rows a =
    spared_agrees (has_row a.id rows || is_empty a.defaults) _ _
    (steps_agree _ _ _ _ (request_agrees (action_of a)) (values_agree a a.defaults))
    ∙ or_assoc (has_row a.id rows) (is_empty a.defaults) _

-- defaults that all pass give no kind, whatever is there already
defaults_clear : (rows : List Row) (rules : List Rule) → list_all default_passes rules ≡ true
    → is_clear (defaults_fault rows rules) ≡ true
unfolding defaults_fault
defaults_clear rows [] e = refl
defaults_clear rows (a ∷ rest) e =
    let parts = and_parts (default_passes a) (list_all default_passes rest) e in
    steps_agree _ _ _ _
    (default_agrees rows a ∙ ap (λ b. has_row a.id rows || b) parts.0 ∙ or-true (has_row a.id rows))
    (defaults_clear (with_default rows a) rest parts.1)

-- the last checks give no kind exactly if each of their tests fails
checks_agree : (x y z : Bool) → is_clear (check_kinds x y z) ≡ (not x && (not y && not z))
checks_agree true y z = refl
checks_agree false true z = refl
checks_agree false false true = refl
checks_agree false false false = refl

-- a test that holds without another, denied
not_without : (p q : Bool) → not (p && not q) ≡ (not p || q)
not_without true true = refl
not_without true false = refl
not_without false q = refl

-- no required argument is missing exactly if each is optional or given
missing_agrees : (rows : List Row) (rules : List Rule)
    → not (list_any (λ a. a.required && not (is_given a.id rows)) rules)
    ≡ list_all (λ a. not a.required || is_given a.id rows) rules
missing_agrees rows [] = refl
missing_agrees rows (a ∷ rest) =
    not_either (a.required && not (is_given a.id rows)) _
    ∙ ap₂ (λ x y. x && y) (not_without a.required (is_given a.id rows)) (missing_agrees rows rest)
  where
    not_either : (p q : Bool) → not (p || q) ≡ (not p && not q)
    not_either true q = refl
    not_either false q = refl

-- the last checks give no kind exactly if the rows are valid, where no argument has a rule on another
valid_agrees : (s : Shape) (rows : List Row) → list_all (λ a. a.is_free) s.rules ≡ true
    → is_clear (check_fault s rows false) ≡ is_valid s rows false
valid_agrees s rows free =
    let given = list_any (λ (r : Row). explicit_source r.source) rows in
    let missing = list_any (λ (a : Rule). a.required && not (is_given a.id rows)) s.rules in
    let waived = s.subcommand_negates_reqs && false in
    checks_agree (s.arg_required_else_help && not given) s.subcommand_required (not waived && missing)
    ∙ ap₂ (λ x y. x && y) (not_without s.arg_required_else_help given)
    (ap₂ (λ x y. x && y) (sym (or-false (not s.subcommand_required)))
    (unless_waived waived missing _ _ free (missing_agrees rows s.rules)))
  where
    unless_waived : (w missing free all : Bool) → free ≡ true → not missing ≡ all
        → not (not w && missing) ≡ (free && (w || all))
    unless_waived true missing free all e f = sym (ap (λ b. b && true) e)
    unless_waived false missing free all e f = f ∙ sym (ap (λ b. b && all) e)

-- The law

-- one level of the parse of a command without subcommands, whose defaults pass and whose arguments have no rule on one
-- another
pub level_agrees : (s : Shape) (h : Held) (words : List Text) → list_all default_passes s.rules ≡ true
    → list_all (λ a. a.is_free) s.rules ≡ true
    → is_clear (level_fault s [] h words false []) ≡ level_passes s [] h words false
level_agrees s h words defaults free =
    let end = (walk s.rules [] h words).held in
    steps_agree _ _ _ _ (walk_agrees s [] (walk_from h) words)
    (steps_agree _ _ _ _ (settle_agrees s.rules s.args_override_self end)
    (steps_agree _ _ _ _ (defaults_clear (settled s.rules end).rows s.rules defaults ∙ sym defaults)
    (valid_agrees s (finished s.rules end) free)))

-- a command without subcommands takes exactly what its own level takes
leaf_takes_same : (a : App) (h : Held) (words : List Text) → a.subs ≡ []
    → built_takes a h words ≡ level_passes a.top [] h words false
leaf_takes_same a h words none =
    ap (λ subs. built_takes (record a { subs = subs }) h words) none ∙ by_stop (walk a.top.rules [] h words).stopped
  where
    alone : App
    alone = record a { subs = [] }

    by_stop : (stop : Option (Text × List Text))
        → (entered_passes alone stop && level_passes a.top [] h words (is_some (entered alone stop)))
        ≡ level_passes a.top [] h words false
    by_stop None = refl
    by_stop (Some p) = refl

-- a simple command without subcommands, whose defaults pass and whose arguments have no rule on one another, takes the
-- words exactly if no kind of error comes
pub takes_agrees : (a : App) (words : List Text) → is_simple a ≡ true → (built a).subs ≡ []
    → list_all default_passes (built a).top.rules ≡ true → list_all (λ r. r.is_free) (built a).top.rules ≡ true
    → is_clear (fault_of a words) ≡ takes a words
takes_agrees a words simple none defaults free =
    let now = argument_words a words in
    ap is_clear (leaf_fault (built a) nothing_held now none)
    ∙ level_agrees (built a).top nothing_held now defaults free
    ∙ sym (leaf_takes_same (built a) nothing_held now none)
    ∙ sym (ap (λ b. b && built_takes (built a) nothing_held now) simple)
