-- What a command reads of words does not depend on where the names of its parsers lie in memory.
use Rattle.std.proofs.Common.{◌≡◌, ◌∙◌, ◌&&◌, ℕ, Bool, false, zero, suc, not, refl, sym, ap}
use Rattle.std.proofs.Common.{List, [], ◌∷◌, map, drop, length, Option, Some, None, is_some}
use Rattle.std.specs.List.{fold, list_any}
use Rattle.std.specs.Option.{option_map, option_map_or}
use Rattle.std.specs.Prelude.{◌==◌, encode_utf8, slice_get, if◌then◌else◌}
use Rattle.std.specs.Borrow.{Bor}
use Rattle.std.specs.Str.{bytes_eq, chars}
use Rattle.clap.specs.Values.{reading_of, refused_kind, same_text}
use Rattle.clap.specs.ValueTests.{accepts}
use Rattle.clap.specs.Facts.{parser_of_value}
use Rattle.clap.specs.Lexer.{long_of, short_of}
use Rattle.clap.specs.Walk.{Held, Names, Outcome, Row, Rule, Step, Text, Waiting, Walk}
use Rattle.clap.specs.Walk.{done, waits, plain, refused, idle, option, positional}
use Rattle.clap.specs.Walk.{next, trailing, subcommand, value}
use Rattle.clap.specs.Walk.{action_of, after_flag, after_step, arg_by_id, arg_by_index, arg_by_long, arg_by_short}
use Rattle.clap.specs.Walk.{attached_value, bundle, bundle_met, bundle_step, default_rows, finished, flag_met}
use Rattle.clap.specs.Walk.{has_long, has_row, has_short, is_pending, long_met, long_or_other, long_word}
use Rattle.clap.specs.Walk.{nothing_held, option_met, option_word, plain_word, positional_held, pushed}
use Rattle.clap.specs.Walk.{reacted, rows_after, settled, settled_rows, short_met, short_or_plain}
use Rattle.clap.specs.Walk.{subcommand_met, subcommand_or_other, takes_several, takes_values, to_positional, used}
use Rattle.clap.specs.Walk.{used_as, used_by_id, values_or_missing, walk, walk_from, walked, walked_from}
use Rattle.clap.specs.Walk.{with_default, word_met}
use Rattle.clap.specs.Simple.{Shape}
use Rattle.clap.specs.declared.builder.value_parser.ValueParser.{ValueParser}
use Rattle.clap.specs.declared.builder.value_parser.ValueParser.TheVariants as values
use Rattle.clap.proofs.WalkLemmas.{find-map, list_any-map}
use Rattle.command_line.specs.Command.{at_no_address, one_of_these}

-- the same parser, with its names at no address
abbrev pub forget : ValueParser → ValueParser
forget (values.Names names) = one_of_these (map (λ name. name.now) names.now)
forget parser = parser

abbrev pub forget_in : Rule → Rule
forget_in a = record a { parser = option_map forget a.parser }

abbrev pub forget_shape : Shape → Shape
forget_shape s = record s { rules = map forget_in s.rules }

-- ---- a parser without its addresses

-- whether one of the texts passes a test does not depend on their addresses
names_accept : (p : Text → Bool) (names : List (Bor Text))
    → list_any (λ name. p name.now) (map at_no_address (map (λ name. name.now) names))
    ≡ list_any (λ name. p name.now) names
names_accept p names =
    sym (list_any-map p (λ name. name.now) names
    ∙ list_any-map (λ name. p name.now) at_no_address (map (λ name. name.now) names))

-- without its addresses a parser takes the same values
pub forget_accepts : (ignore_case : Bool) (parser : ValueParser) (text : Text)
    → accepts ignore_case (forget parser) text ≡ accepts ignore_case parser text
forget_accepts ignore_case (values.Names names) text = names_accept (λ name. same_text ignore_case name text) names.now
forget_accepts ignore_case parser text = refl

-- it refuses a value by the same kind of error
pub forget_refuses : (parser : ValueParser) → refused_kind (forget parser) ≡ refused_kind parser
forget_refuses (values.Names names) = refl
forget_refuses parser = refl

-- its values are read in the same way
pub forget_reads : (parser : ValueParser) → reading_of (forget parser) ≡ reading_of parser
forget_reads (values.Names names) = refl
forget_reads parser = refl

-- ---- the laws

-- Each `.._same` is named after a function, and says that it gives the same at the rules without their addresses.

-- values are read in the same way
reading_same : (parser : Option ValueParser)
    → reading_of (parser_of_value (option_map forget parser)) ≡ reading_of (parser_of_value parser)
reading_same None = refl
reading_same (Some parser) = forget_reads parser

-- a use of an argument makes the same rows
used_same : (a : Rule) (values : List Text) (rows : List Row) → used (forget_in a) values rows ≡ used a values rows
used_same a values rows =
    ap (λ how. used_as (action_of a) a.id how (values_or_missing a values) rows) (reading_same a.parser)

-- a use of the argument that was found, if any was, makes the same rows
used_by_id_same : (found : Option Rule) (values : List Text) (rows : List Row)
    → used_by_id (option_map forget_in found) values rows ≡ used_by_id found values rows
used_by_id_same None values rows = refl
used_by_id_same (Some a) values rows = used_same a values rows

-- a word goes to the option that waits in the same way
option_word_same : (found : Option Rule) (id word : Text) (h : Held)
    → option_word (option_map forget_in found) id word h ≡ option_word found id word h
option_word_same None id word h = refl
option_word_same (Some a) id word h = refl

-- an argument that was not used gets the same default values
pub with_default_same : (rows : List Row) (a : Rule) → with_default rows (forget_in a) ≡ with_default rows a
with_default_same rows a i =
    if has_row a.id rows then rows else default_rows a.id (reading_same a.parser i) a.defaults rows

-- all the arguments that were not used get the same default values
with_defaults_same : (c : List Rule) (rows : List Row)
    → fold with_default rows (map forget_in c) ≡ fold with_default rows c
with_defaults_same [] rows = refl
with_defaults_same (a ∷ rest) rows = λ i. with_defaults_same rest (with_default_same rows a i) i

-- ---- the walk over the words

module _ (c : List Rule) where
  -- among rules without addresses, the rule with this id is the one without them
  pub by_id : (id : Text) → arg_by_id (map forget_in c) id ≡ option_map forget_in (arg_by_id c id)
  by_id id = sym (find-map (λ a. bytes_eq a.id id) forget_in c)

  -- the rule with this long name is the one without addresses
  pub by_long : (name : Text) → arg_by_long (map forget_in c) name ≡ option_map forget_in (arg_by_long c name)
  by_long name = sym (find-map (λ a. not (is_some a.index) && has_long a name) forget_in c)

  -- the rule with this short name is the one without addresses
  pub by_short : (x : ℕ) → arg_by_short (map forget_in c) x ≡ option_map forget_in (arg_by_short c x)
  by_short x = sym (find-map (λ a. not (is_some a.index) && has_short a x) forget_in c)

  -- the rule at this position is the one without addresses
  pub by_index : (k : ℕ) → arg_by_index (map forget_in c) k ≡ option_map forget_in (arg_by_index c k)
  by_index k = sym (find-map (λ a. option_map_or (λ j. j == k) a.index false) forget_in c)

  -- a use of the pending argument makes the same rows
  settled_rows_same : (pending : Option (Text × List Text)) (rows : List Row)
      → settled_rows (map forget_in c) pending rows ≡ settled_rows c pending rows
  settled_rows_same None rows = refl
  settled_rows_same (Some p) rows =
      ap (λ found. used_by_id found p.1 rows) (by_id p.0) ∙ used_by_id_same (arg_by_id c p.0) p.1 rows

  -- the same is held when the pending argument is used
  pub settled_same : (h : Held) → settled (map forget_in c) h ≡ settled c h
  settled_same h i = record h { rows = settled_rows_same h.pending h.rows i; pending = None }

  -- the same is held when one more argument is used after it
  pub reacted_same : (a : Rule) (values : List Text) (h : Held)
      → reacted (map forget_in c) (forget_in a) values h ≡ reacted c a values h
  reacted_same a values h i = record h { rows = used_same a values (settled_same h i).rows i; pending = None }

  -- an option comes to the same
  option_met_same : (a : Rule) (v : Option Text) (h : Held)
      → option_met (map forget_in c) (forget_in a) v h ≡ option_met c a v h
  option_met_same a (Some v) h = λ i. (reacted_same a (v ∷ []) h i, done)
  option_met_same a None h = λ i. (record (settled_same h i) { pending = Some (a.id, []) }, waits a.id)

  -- a flag comes to the same
  flag_met_same : (a : Rule) (v : Option Text) (h : Held)
      → flag_met (map forget_in c) (forget_in a) v h ≡ flag_met c a v h
  flag_met_same a (Some v) h = refl
  flag_met_same a None h = λ i. (reacted_same a [] h i, done)

  -- `--name` comes to the same
  long_met_same : (found : Option Rule) (v : Option Text) (h : Held)
      → long_met (map forget_in c) (option_map forget_in found) v h ≡ long_met c found v h
  long_met_same None v h = refl
  long_met_same (Some a) v h = λ i. if takes_values a then option_met_same a v h i else flag_met_same a v h i

  -- a short name comes to the same, if what comes after it does
  short_met_same : (found : Option Rule) (rest : Text) (h : Held) (f g : Held → Held × Outcome)
      → ((k : Held) → f k ≡ g k)
      → short_met (map forget_in c) (option_map forget_in found) rest h f ≡ short_met c found rest h g
  short_met_same None rest h f g same = refl
  short_met_same (Some a) rest h f g same =
      λ i. if takes_values a then option_met_same a (attached_value rest) h i
      else same (reacted_same a [] h i) i

  -- the first character of a bundle comes to the same, if the rest does
  bundle_step_same : (x : Option ℕ) (flags : Text) (skip : ℕ) (so_far : Outcome) (h : Held)
      (f g : Text → ℕ → Outcome → Held → Held × Outcome)
      → ((t : Text) (n : ℕ) (o : Outcome) (k : Held) → f t n o k ≡ g t n o k)
      → bundle_step (map forget_in c) x flags skip so_far h f ≡ bundle_step c x flags skip so_far h g
  bundle_step_same None flags skip so_far h f g same = refl
  bundle_step_same (Some x) flags zero so_far h f g same =
      let rest = drop (length (encode_utf8 x)) flags in
      ap (λ found. short_met (map forget_in c) found rest h (f rest 0 done)) (by_short x)
      ∙ short_met_same (arg_by_short c x) rest h (f rest 0 done) (g rest 0 done) (same rest 0 done)
  bundle_step_same (Some x) flags (suc skip) so_far h f g same =
      same (drop (length (encode_utf8 x)) flags) skip so_far h

  -- the first k characters of a bundle come to the same
  bundle_met_same : (k : ℕ) (flags : Text) (skip : ℕ) (so_far : Outcome) (h : Held)
      → bundle_met (map forget_in c) k flags skip so_far h ≡ bundle_met c k flags skip so_far h
  unfolding bundle_met
  bundle_met_same zero flags skip so_far h = refl
  bundle_met_same (suc k) flags skip so_far h =
      bundle_step_same (slice_get (chars flags) 0) flags skip so_far h _ _ (bundle_met_same k)

  -- a word that is no flag is met in the same way
  plain_word_same : (waiting : Waiting) (word : Text) (h : Held)
      → plain_word (map forget_in c) waiting word h ≡ plain_word c waiting word h
  plain_word_same (option id) word h =
      let met = ap (λ found. option_word found id word h) (by_id id)
      ∙ option_word_same (arg_by_id c id) id word h in
      λ i. ((met i).0, next (met i).1)
  plain_word_same idle word h = refl
  plain_word_same positional word h = refl

  -- what a flag word came to is followed up in the same way
  after_flag_same : (waiting : Waiting) (word : Text) (h : Held) (o : Outcome)
      → after_flag (map forget_in c) waiting word h o ≡ after_flag c waiting word h o
  after_flag_same waiting word h done = refl
  after_flag_same waiting word h (waits id) = refl
  after_flag_same waiting word h plain = plain_word_same waiting word h
  after_flag_same waiting word h refused = plain_word_same waiting word h

  -- a word with a long name is met in the same way
  long_word_same : (waiting : Waiting) (word name : Text) (v : Option Text) (h : Held)
      → long_word (map forget_in c) waiting word name v h ≡ long_word c waiting word name v h
  long_word_same waiting word name v h =
      let met = ap (λ found. long_met (map forget_in c) found v h) (by_long name)
      ∙ long_met_same (arg_by_long c name) v h in
      λ i. after_flag_same waiting word (met i).0 (met i).1 i

  -- a whole bundle comes to the same
  bundle_same : (flags : Text) (h : Held) → bundle (map forget_in c) flags h ≡ bundle c flags h
  bundle_same flags h = bundle_met_same (length flags) flags h.skip plain (record h { skip = 0 })

  -- a word that has no long name is met in the same way
  short_or_plain_same : (waiting : Waiting) (word : Text) (flags : Option Text) (h : Held)
      → short_or_plain (map forget_in c) waiting word flags h ≡ short_or_plain c waiting word flags h
  short_or_plain_same waiting word (Some flags) h =
      λ i. after_flag_same waiting word (bundle_same flags h i).0 (bundle_same flags h i).1 i
  short_or_plain_same waiting word None h = plain_word_same waiting word h

  -- a word that may have a long name is met in the same way
  long_or_other_same : (waiting : Waiting) (word : Text) (flag : Option (Text × Option Text)) (h : Held)
      → long_or_other (map forget_in c) waiting word flag h ≡ long_or_other c waiting word flag h
  long_or_other_same waiting word (Some p) h = long_word_same waiting word p.0 p.1 h
  long_or_other_same waiting word None h = short_or_plain_same waiting word (short_of word) h

  -- a word that may name a subcommand is met in the same way
  subcommand_or_other_same : (name : Option Text) (waiting : Waiting) (position : ℕ) (word : Text) (h : Held)
      → subcommand_or_other (map forget_in c) name waiting position word h
      ≡ subcommand_or_other c name waiting position word h
  subcommand_or_other_same (Some name) waiting position word h = refl
  subcommand_or_other_same None waiting position word h =
      λ i. if bytes_eq word (45 ∷ 45 ∷ []) then (h, trailing position)
      else long_or_other_same waiting word (long_of word) h i

  -- each word is met in the same way
  pub word_met_same : (names : Names) (is_trailing : Bool) (waiting : Waiting) (position : ℕ) (word : Text) (h : Held)
      → word_met (map forget_in c) names is_trailing waiting position word h
      ≡ word_met c names is_trailing waiting position word h
  word_met_same names is_trailing waiting position word h i =
      if is_trailing then (h, value)
      else subcommand_or_other_same (subcommand_met names waiting word) waiting position word h i

  -- the same is held when a word goes to a positional
  positional_held_same : (a : Rule) (word : Text) (h : Held)
      → positional_held (map forget_in c) (forget_in a) word h ≡ positional_held c a word h
  positional_held_same a word h i =
      pushed a.id word (if is_pending a h.pending && takes_several a then h else settled_same h i)

  -- the walk goes on in the same way when a word goes to the positional that was found
  to_positional_same : (found : Option Rule) (word : Text) (w : Walk) (h : Held)
      → to_positional (map forget_in c) (option_map forget_in found) word w h ≡ to_positional c found word w h
  to_positional_same None word w h = refl
  to_positional_same (Some a) word w h =
      λ i. record (to_positional c (Some a) word w h) { held = positional_held_same a word h i }

  -- the walk goes on in the same way after a step
  after_step_same : (word : Text) (w : Walk) (h : Held) (step : Step)
      → after_step (map forget_in c) word w h step ≡ after_step c word w h step
  after_step_same word w h (next waiting) = refl
  after_step_same word w h (trailing position) = refl
  after_step_same word w h (subcommand name) = refl
  after_step_same word w h value =
      ap (λ found. to_positional (map forget_in c) found word w h) (by_index w.position)
      ∙ to_positional_same (arg_by_index c w.position) word w h

  -- the walk goes on in the same way after a word, whether it has stopped or not
  walked_from_same : (names : Names) (stop : Option (Text × List Text)) (w : Walk) (word : Text)
      → walked_from (map forget_in c) names stop w word ≡ walked_from c names stop w word
  walked_from_same names (Some p) w word = refl
  walked_from_same names None w word =
      let met = word_met_same names w.is_trailing w.waiting w.position word w.held in
      λ i. after_step_same word w (met i).0 (met i).1 i

  -- the walk after one more word is the same
  pub walked_same : (names : Names) (w : Walk) (word : Text) → walked (map forget_in c) names w word ≡ walked c names w word
  unfolding walked
  walked_same names w word = walked_from_same names w.stopped w word

  -- the walk over all the words is the same
  pub walk_same : (names : Names) (h : Held) (words : List Text)
      → walk (map forget_in c) names h words ≡ walk c names h words
  walk_same names h words i = fold (λ w word. walked_same names w word i) (walk_from h) words

  -- the rows at the end of a walk are the same
  pub finished_same : (h : Held) → finished (map forget_in c) h ≡ finished c h
  finished_same h i = with_defaults_same c (settled_same h i).rows i

  -- the rows that the words make are the same
  rows_after_same : (names : Names) (words : List Text)
      → rows_after (map forget_in c) names words ≡ rows_after c names words
  rows_after_same names words i = finished_same (walk_same names nothing_held words i).held i

-- the matches of a command without subcommands
pub same_rows : (rules : List Rule) (words : List Text)
    → rows_after (map forget_in rules) [] words ≡ rows_after rules [] words
same_rows rules words = rows_after_same rules [] words
