-- Which errors a command has of words does not depend on where the names of its parsers lie in memory.
use Rattle.std.proofs.Common.{◌≡◌, ◌∙◌, ◌+◌, ◌&&◌, ◌||◌, ℕ, Bool, false, zero, suc, not, refl, sym, ap}
use Rattle.std.proofs.Common.{List, [], ◌∷◌, map, drop, length, min, Option, Some, None, is_some}
use Rattle.std.specs.List.{list_any}
use Rattle.std.specs.Option.{option_map, option_map_or}
use Rattle.std.specs.Prelude.{encode_utf8, slice_get, if◌then◌else◌}
use Rattle.std.specs.Str.{bytes_eq, chars}
use Rattle.clap.specs.Facts.{explicit_source, parser_of_value, unwrap_or_range}
use Rattle.clap.specs.Lexer.{long_of, short_of}
use Rattle.clap.specs.Matches.{count_text}
use Rattle.clap.specs.Walk.{Held, Names, Row, Rule, Step, Text, Waiting, Walk}
use Rattle.clap.specs.Walk.{next, trailing, subcommand, value}
use Rattle.clap.specs.Walk.{action_of, arg_by_id, arg_by_index, arg_by_long, arg_by_short}
use Rattle.clap.specs.Walk.{attached_value, count_of}
use Rattle.clap.specs.Walk.{has_row, is_empty, is_pending}
use Rattle.clap.specs.Walk.{most_values}
use Rattle.clap.specs.Walk.{subcommand_met, takes_several, takes_values}
use Rattle.clap.specs.Walk.{values_or_missing, walk_from}
use Rattle.clap.specs.Simple.{Shape}
use Rattle.clap.specs.Takes.{is_given}
use Rattle.clap.specs.Kinds.{Kinds, check_kinds, or_else, range_kinds, request_kinds, value_kinds, values_kinds}
use Rattle.clap.specs.Faults.{action_fault, bundle_fault, bundle_step_fault, check_fault, count_fault, default_fault}
use Rattle.clap.specs.Faults.{defaults_fault, flag_word_fault, flags_fault, level_fault, long_fault, option_fault}
use Rattle.clap.specs.Faults.{other_fault, positional_fault, react_fault, repeat_fault, set_fault, settle_fault}
use Rattle.clap.specs.Faults.{short_fault, step_fault, stray_fault, turn_fault, use_fault, walk_fault, word_fault}
use Rattle.clap.specs.declared.builder.action.ArgAction.{ArgAction}
use Rattle.clap.specs.declared.builder.action.ArgAction.TheVariants.{Append, Count, Set, SetFalse, SetTrue}
use Rattle.clap.specs.declared.builder.value_parser.ValueParser.{ValueParser}
use Rattle.clap.specs.declared.error.kind.ErrorKind.TheVariants as kind
use Rattle.clap.proofs.WalkLemmas.{list_any-map}
use Rattle.command_line.proofs.AddressLaws.{by_id, by_index, by_long, by_short, finished_same, forget, forget_accepts, forget_in, forget_refuses, forget_shape, reacted_same, settled_same, walk_same, walked_same, with_default_same, word_met_same}

-- the kinds of error of a use of the argument that was found, if any was
abbrev found_fault : Bool → Option Rule → List Text → List Row → Kinds
found_fault again found values rows = option_map_or (λ a. use_fault again a values rows) found []

-- the kinds of error of a word that goes to the positional that was found, or to none
abbrev positional_found : List Rule → Bool → Option Rule → Held → Kinds → Kinds
positional_found c again found h stray = option_map_or (λ a. positional_fault c again a h) found stray

-- Each `.._same` is named after a function, and says that it gives the same at the rules without their addresses.

-- ---- the kinds of error of one use of an argument

-- a value is refused by the same kind of error, or taken
value_kinds_same : (ignore_case : Bool) (parser : Option ValueParser) (text : Text)
    → value_kinds ignore_case (parser_of_value (option_map forget parser)) text
    ≡ value_kinds ignore_case (parser_of_value parser) text
value_kinds_same ignore_case None text = refl
value_kinds_same ignore_case (Some parser) text =
    λ i. if forget_accepts ignore_case parser text i then [] else forget_refuses parser i ∷ []

-- several values are refused by the same kinds of error, or taken
values_kinds_same : (ignore_case : Bool) (parser : Option ValueParser) (texts : List Text)
    → values_kinds ignore_case (parser_of_value (option_map forget parser)) texts
    ≡ values_kinds ignore_case (parser_of_value parser) texts
values_kinds_same ignore_case parser [] = refl
values_kinds_same ignore_case parser (v ∷ vs) =
    λ i. or_else (value_kinds_same ignore_case parser v i) (values_kinds_same ignore_case parser vs i)

-- one more count fails by the same kinds of error
count_fault_same : (a : Rule) (values : List Text) (rows : List Row)
    → count_fault (forget_in a) values rows ≡ count_fault a values rows
count_fault_same a [] rows =
    value_kinds_same a.ignore_case a.parser (count_text (min (count_of a.id rows + 1) 255))
count_fault_same a (v ∷ vs) rows = values_kinds_same a.ignore_case a.parser (v ∷ vs)

-- a use that sets a value fails by the same kinds of error
set_fault_same : (again : Bool) (a : Rule) (values : List Text) (rows : List Row)
    → set_fault again (forget_in a) values rows ≡ set_fault again a values rows
set_fault_same again a values rows =
    ap (or_else (repeat_fault again a.id rows)) (values_kinds_same a.ignore_case a.parser values)

-- a use fails by the same kinds of error, whatever its action
action_fault_same : (x : ArgAction) (again : Bool) (a : Rule) (values : List Text) (rows : List Row)
    → action_fault x again (forget_in a) values rows ≡ action_fault x again a values rows
action_fault_same Set again a values rows = set_fault_same again a values rows
action_fault_same SetTrue again a values rows = set_fault_same again a values rows
action_fault_same SetFalse again a values rows = set_fault_same again a values rows
action_fault_same Append again a values rows = values_kinds_same a.ignore_case a.parser values
action_fault_same Count again a values rows = count_fault_same a values rows
action_fault_same other again a values rows = refl

-- a use with some number of values fails by the same kinds of error
use_fault_same : (again : Bool) (a : Rule) (values : List Text) (rows : List Row)
    → use_fault again (forget_in a) values rows ≡ use_fault again a values rows
use_fault_same again a values rows =
    ap (or_else (range_kinds (unwrap_or_range a.range).start_inclusive (most_values a) (length values)))
    (action_fault_same (action_of a) again a (values_or_missing a values) rows)

-- a use of the argument that was found, if any was, fails by the same kinds of error
found_fault_same : (again : Bool) (found : Option Rule) (values : List Text) (rows : List Row)
    → found_fault again (option_map forget_in found) values rows ≡ found_fault again found values rows
found_fault_same again None values rows = refl
found_fault_same again (Some a) values rows = use_fault_same again a values rows

-- the default values of an argument fail by the same kinds of error
default_fault_same : (rows : List Row) (a : Rule) → default_fault rows (forget_in a) ≡ default_fault rows a
default_fault_same rows a i = if has_row a.id rows || is_empty a.defaults then []
    else or_else (request_kinds (action_of a)) (values_kinds_same a.ignore_case a.parser a.defaults i)

-- the default values of all the arguments fail by the same kinds of error
defaults_fault_same : (c : List Rule) (rows : List Row)
    → defaults_fault rows (map forget_in c) ≡ defaults_fault rows c
unfolding defaults_fault
defaults_fault_same [] rows = refl
defaults_fault_same (a ∷ rest) rows =
    λ i. or_else (default_fault_same rows a i) (defaults_fault_same rest (with_default_same rows a i) i)

-- ---- the kinds of error of the walk over the words

module _ (c : List Rule) (again : Bool) where
  -- a use of the argument of a pending id fails by the same kinds of error
  pending_fault_same : (p : Text × List Text) (rows : List Row)
      → found_fault again (arg_by_id (map forget_in c) p.0) p.1 rows
      ≡ found_fault again (arg_by_id c p.0) p.1 rows
  pending_fault_same p rows =
      ap (λ found. found_fault again found p.1 rows) (by_id c p.0)
      ∙ found_fault_same again (arg_by_id c p.0) p.1 rows

  -- a use of what is pending, if anything is, fails by the same kinds of error
  settle_fault_same : (h : Held) → settle_fault (map forget_in c) again h ≡ settle_fault c again h
  settle_fault_same h i = option_map_or (λ p. pending_fault_same p h.rows i) h.pending []

  -- a use of what is pending and then of one more argument fails by the same kinds of error
  react_fault_same : (a : Rule) (values : List Text) (h : Held)
      → react_fault (map forget_in c) again (forget_in a) values h ≡ react_fault c again a values h
  react_fault_same a values h i =
      or_else (settle_fault_same h i) (use_fault_same again a values (settled_same c h i).rows i)

  -- an option fails by the same kinds of error
  option_fault_same : (a : Rule) (v : Option Text) (h : Held)
      → option_fault (map forget_in c) again (forget_in a) v h ≡ option_fault c again a v h
  option_fault_same a (Some v) h = react_fault_same a (v ∷ []) h
  option_fault_same a None h = settle_fault_same h

  -- `--name` fails by the same kinds of error
  long_fault_same : (found : Option Rule) (v : Option Text) (h : Held)
      → long_fault (map forget_in c) again (option_map forget_in found) v h ≡ long_fault c again found v h
  long_fault_same None v h = refl
  long_fault_same (Some a) v h = λ i. if takes_values a then option_fault_same a v h i
      else (if is_some v then kind.TooManyValues ∷ [] else react_fault_same a [] h i)

  -- a short name fails by the same kinds of error, if what comes after it does
  short_fault_same : (found : Option Rule) (rest : Text) (h : Held) (f g : Held → Kinds) → ((k : Held) → f k ≡ g k)
      → short_fault (map forget_in c) again (option_map forget_in found) rest h f ≡ short_fault c again found rest h g
  short_fault_same None rest h f g same = refl
  short_fault_same (Some a) rest h f g same =
      λ i. if takes_values a then option_fault_same a (attached_value rest) h i
      else or_else (react_fault_same a [] h i) (same (reacted_same c a [] h i) i)

  -- the first character of a bundle fails by the same kinds of error, if the rest does
  bundle_step_fault_same : (x : Option ℕ) (flags : Text) (skip : ℕ) (h : Held) (f g : Text → ℕ → Held → Kinds)
      → ((t : Text) (n : ℕ) (k : Held) → f t n k ≡ g t n k)
      → bundle_step_fault (map forget_in c) again x flags skip h f ≡ bundle_step_fault c again x flags skip h g
  bundle_step_fault_same None flags skip h f g same = refl
  bundle_step_fault_same (Some x) flags zero h f g same =
      let rest = drop (length (encode_utf8 x)) flags in
      ap (λ found. short_fault (map forget_in c) again found rest h (f rest 0)) (by_short c x)
      ∙ short_fault_same (arg_by_short c x) rest h (f rest 0) (g rest 0) (same rest 0)
  bundle_step_fault_same (Some x) flags (suc skip) h f g same = same (drop (length (encode_utf8 x)) flags) skip h

  -- the first k characters of a bundle fail by the same kinds of error
  flags_fault_same : (k : ℕ) (flags : Text) (skip : ℕ) (h : Held)
      → flags_fault (map forget_in c) again k flags skip h ≡ flags_fault c again k flags skip h
  unfolding flags_fault
  flags_fault_same zero flags skip h = refl
  flags_fault_same (suc k) flags skip h =
      bundle_step_fault_same (slice_get (chars flags) 0) flags skip h _ _ (flags_fault_same k)

  -- a whole bundle fails by the same kinds of error
  bundle_fault_same : (flags : Text) (h : Held)
      → bundle_fault (map forget_in c) again flags h ≡ bundle_fault c again flags h
  bundle_fault_same flags h = flags_fault_same (length flags) flags h.skip (record h { skip = 0 })

  -- a word that may be a flag fails by the same kinds of error
  flag_word_fault_same : (flag : Option (Text × Option Text)) (word : Text) (h : Held)
      → flag_word_fault (map forget_in c) again flag word h ≡ flag_word_fault c again flag word h
  flag_word_fault_same (Some p) word h =
      ap (λ found. long_fault (map forget_in c) again found p.1 h) (by_long c p.0)
      ∙ long_fault_same (arg_by_long c p.0) p.1 h
  flag_word_fault_same None word h = λ i. option_map_or (λ flags. bundle_fault_same flags h i) (short_of word) []

  -- a word that goes to a positional fails by the same kinds of error
  positional_fault_same : (a : Rule) (h : Held)
      → positional_fault (map forget_in c) again (forget_in a) h ≡ positional_fault c again a h
  positional_fault_same a h i =
      if is_pending a h.pending && takes_several a then [] else settle_fault_same h i

  -- a word fails by the same kinds of error, whether or not a positional was found for it
  positional_found_same : (found : Option Rule) (h : Held) (stray : Kinds)
      → positional_found (map forget_in c) again (option_map forget_in found) h stray
      ≡ positional_found c again found h stray
  positional_found_same None h stray = refl
  positional_found_same (Some a) h stray = positional_fault_same a h

-- ---- the kinds of error of one level of a parse

module _ (s : Shape) where
  -- a word that may be a subcommand, `--` or a flag fails by the same kinds of error
  other_fault_same : (name : Option Text) (word : Text) (h : Held)
      → other_fault (forget_shape s) name word h ≡ other_fault s name word h
  other_fault_same (Some name) word h = refl
  other_fault_same None word h = λ i. if bytes_eq word (45 ∷ 45 ∷ []) then []
      else flag_word_fault_same s.rules s.args_override_self (long_of word) word h i

  -- each word fails by the same kinds of error
  word_fault_same : (names : Names) (is_trailing : Bool) (waiting : Waiting) (word : Text) (h : Held)
      → word_fault (forget_shape s) names is_trailing waiting word h ≡ word_fault s names is_trailing waiting word h
  word_fault_same names is_trailing waiting word h i =
      if is_trailing then [] else other_fault_same (subcommand_met names waiting word) word h i

  -- the step that a word takes fails by the same kinds of error
  step_fault_same : (position : ℕ) (h : Held) (step : Step)
      → step_fault (forget_shape s) position h step ≡ step_fault s position h step
  step_fault_same position h (next waiting) = refl
  step_fault_same position h (trailing k) = refl
  step_fault_same position h (subcommand name) = refl
  step_fault_same position h value =
      ap (λ found. positional_found (map forget_in s.rules) s.args_override_self found h (stray_fault s))
      (by_index s.rules position)
      ∙ positional_found_same s.rules s.args_override_self (arg_by_index s.rules position) h (stray_fault s)

  -- a word and its step fail by the same kinds of error
  turn_fault_same : (names : Names) (w : Walk) (word : Text)
      → turn_fault (forget_shape s) names w word ≡ turn_fault s names w word
  turn_fault_same names w word =
      let met = word_met_same s.rules names w.is_trailing w.waiting w.position word w.held in
      λ i. if is_some w.stopped then []
      else or_else (word_fault_same names w.is_trailing w.waiting word w.held i)
      (step_fault_same w.position (met i).0 (met i).1 i)

  -- the walk over all the words fails by the same kinds of error
  walk_fault_same : (names : Names) (w : Walk) (words : List Text)
      → walk_fault (forget_shape s) names w words ≡ walk_fault s names w words
  unfolding walk_fault
  walk_fault_same names w [] = refl
  walk_fault_same names w (word ∷ rest) =
      λ i. or_else (turn_fault_same names w word i)
      (walk_fault_same names (walked_same s.rules names w word i) rest i)

  -- the last checks fail by the same kinds of error
  check_fault_same : (rows : List Row) (has_subcommand : Bool)
      → check_fault (forget_shape s) rows has_subcommand ≡ check_fault s rows has_subcommand
  check_fault_same rows has_subcommand =
      ap (λ wants_argument. check_kinds
      (not has_subcommand && (s.arg_required_else_help && not (list_any (λ r. explicit_source r.source) rows)))
      (not has_subcommand && s.subcommand_required)
      (not (s.subcommand_negates_reqs && has_subcommand) && wants_argument))
      (sym (list_any-map (λ a. a.required && not (is_given a.id rows)) forget_in s.rules))

  -- one level of a parse fails by the same kinds of error
  level_fault_same : (names : Names) (h : Held) (words : List Text) (has_subcommand : Bool) (below : Kinds)
      → level_fault (forget_shape s) names h words has_subcommand below
      ≡ level_fault s names h words has_subcommand below
  level_fault_same names h words has_subcommand below =
      let end = walk_same s.rules names h words in
      λ i. or_else (walk_fault_same names (walk_from h) words i)
      (or_else below (or_else (settle_fault_same s.rules s.args_override_self (end i).held i)
      (or_else (defaults_fault_same s.rules (settled_same s.rules (end i).held i).rows i)
      (check_fault_same (finished_same s.rules (end i).held i) has_subcommand i))))

-- the kinds of error of one level of a parse without subcommands
pub same_faults : (s : Shape) (h : Held) (words : List Text)
    → level_fault (forget_shape s) [] h words false [] ≡ level_fault s [] h words false []
same_faults s h words = level_fault_same s [] h words false []
