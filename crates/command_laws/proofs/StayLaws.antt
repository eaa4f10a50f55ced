-- What holds of the rows of a command before its words, and stays when an argument is used in a way that passes, holds
-- behind all words that pass.
use Rattle.std.specs.Prelude.{◌≡◌, ◌&&◌, ◌||◌, ℕ, zero, suc, Bool, true, false, not, cond, List, [], ◌∷◌, Option, Some, None, length, drop, is_some, encode_utf8, find, fold, if◌then◌else◌, slice_get}
use Rattle.std.specs.Option.{option_map_or}
use Rattle.std.specs.Str.{bytes_eq, chars}
use Rattle.std.proofs.Common.{refl, subst}
use Rattle.std.proofs.lemmas.Bool.{and_parts}
use Rattle.std.proofs.lemmas.Option.{none-some, same_Some}
use Rattle.clap.specs.Lexer.{long_of, short_of}
use Rattle.clap.specs.Simple.{Shape}
use Rattle.clap.specs.Takes.{bundle_passes, bundle_step_passes, flag_word_passes, flags_pass, is_valid, level_passes, long_passes, option_passes, other_passes, positional_passes, react_passes, settle_passes, short_passes, step_passes, turn_passes, use_passes, walk_passes, word_passes}
use Rattle.clap.specs.Walk.{Held, Names, Outcome, Row, Rule, Step, Text, Waiting, Walk, after_flag, after_step, arg_by_id, arg_by_index, arg_by_long, arg_by_short, attached_value, bundle, bundle_met, bundle_step, done, finished, flag_met, idle, is_pending, long_met, long_or_other, next, option, option_met, option_word, plain, plain_word, positional, pushed, reacted, refused, settled, settled_rows, short_met, short_or_plain, subcommand, subcommand_met, subcommand_or_other, takes_several, takes_values, to_positional, trailing, used, used_by_id, value, waits, walk, walk_from, walked, walked_from, with_default, word_met}

-- of each element
abbrev pub Each : {X : Type 0} → (X → Type 0) → List X → Type 0
Each P [] = Unit {0}
Each P (x ∷ xs) = P x × Each P xs

found_in : {X : Type 0} (P : X → Type 0) (test : X → Bool) (xs : List X) (x : X) → Each P xs → find test xs ≡ Some x → P x
found_in P test [] x all e = absurd (none-some x e)
found_in P test (y ∷ ys) x all e = by_test (test y) (found_in P test ys x all.1) e
  where
    by_test : (passes : Bool) → (find test ys ≡ Some x → P x) → cond passes (Some y) (find test ys) ≡ Some x → P x
    by_test true rest e = subst P (same_Some y x e) all.0
    by_test false rest e = rest e

-- it stays when this argument is used in a way that passes
abbrev pub Stays : (List Row → Type 0) → Bool → Rule → Type 0
Stays holds again a = (values : List Text) (rows : List Row) → use_passes again a values rows ≡ true → holds rows
    → holds (used a values rows)

-- and when its default is put
abbrev pub StaysByDefault : (List Row → Type 0) → Rule → Type 0
StaysByDefault holds a = (rows : List Row) → holds rows → holds (with_default rows a)

module _ (holds : List Row → Type 0) (s : Shape) (stays : Each (Stays holds s.args_override_self) s.rules) where
  -- the argument that was found, if one was, is among those of the command
  abbrev IsFound : Option Rule → Type 0
  IsFound found = (a : Rule) → found ≡ Some a → Stays holds s.args_override_self a

  found_stays : (test : Rule → Bool) → IsFound (find test s.rules)
  found_stays test a e = found_in (Stays holds s.args_override_self) test s.rules a stays e

  settled_stays : (h : Held) → settle_passes s.rules s.args_override_self h ≡ true → holds h.rows
      → holds (settled s.rules h).rows
  settled_stays h passes is = by_pending h.pending passes
    where
      by_found : (values : List Text) (found : Option Rule) → IsFound found
          → option_map_or (λ a. use_passes s.args_override_self a values h.rows) found true ≡ true
          → holds (used_by_id found values h.rows)
      by_found values None keeps passes = is
      by_found values (Some a) keeps passes = keeps a refl values h.rows passes is

      by_pending : (pending : Option (Text × List Text))
          → settle_passes s.rules s.args_override_self (record h { pending = pending }) ≡ true
          → holds (settled_rows s.rules pending h.rows)
      by_pending None passes = is
      by_pending (Some p) passes = by_found p.1 (arg_by_id s.rules p.0) (found_stays _) passes

  reacted_stays : (a : Rule) → Stays holds s.args_override_self a → (values : List Text) (h : Held)
      → react_passes s.rules s.args_override_self a values h ≡ true → holds h.rows
      → holds (reacted s.rules a values h).rows
  reacted_stays a keeps values h passes is =
      let parts = and_parts (settle_passes s.rules s.args_override_self h) _ passes in
      keeps values (settled s.rules h).rows parts.1 (settled_stays h parts.0 is)

  option_stays : (a : Rule) → Stays holds s.args_override_self a → (v : Option Text) (h : Held)
      → option_passes s.rules s.args_override_self a v h ≡ true → holds h.rows
      → holds (option_met s.rules a v h).0.rows
  option_stays a keeps (Some v) h passes is = reacted_stays a keeps (v ∷ []) h passes is
  option_stays a keeps None h passes is = settled_stays h passes is

  long_stays : (found : Option Rule) → IsFound found → (v : Option Text) (h : Held)
      → long_passes s.rules s.args_override_self found v h ≡ true → holds h.rows
      → holds (long_met s.rules found v h).0.rows
  long_stays None keeps v h passes is = is
  long_stays (Some a) keeps v h passes is = by_kind (takes_values a) v passes
    where
      by_kind : (kind : Bool) (v : Option Text)
          → (if kind then option_passes s.rules s.args_override_self a v h
          else (not (is_some v) && react_passes s.rules s.args_override_self a [] h)) ≡ true
          → holds (if kind then option_met s.rules a v h else flag_met s.rules a v h).0.rows
      by_kind true v passes = option_stays a (keeps a refl) v h passes is
      by_kind false (Some v) passes = is
      by_kind false None passes = reacted_stays a (keeps a refl) [] h passes is

  short_stays : (found : Option Rule) → IsFound found → (rest : Text) (h : Held) (more : Held → Held × Outcome)
      (passing : Held → Bool) → ((g : Held) → passing g ≡ true → holds g.rows → holds (more g).0.rows)
      → short_passes s.rules s.args_override_self found rest h passing ≡ true → holds h.rows
      → holds (short_met s.rules found rest h more).0.rows
  short_stays None keeps rest h more passing goes passes is = is
  short_stays (Some a) keeps rest h more passing goes passes is = by_kind (takes_values a) passes
    where
      by_kind : (kind : Bool)
          → (if kind then option_passes s.rules s.args_override_self a (attached_value rest) h
          else (react_passes s.rules s.args_override_self a [] h && passing (reacted s.rules a [] h))) ≡ true
          → holds (if kind then option_met s.rules a (attached_value rest) h
          else more (reacted s.rules a [] h)).0.rows
      by_kind true passes = option_stays a (keeps a refl) (attached_value rest) h passes is
      by_kind false passes =
          let parts = and_parts (react_passes s.rules s.args_override_self a [] h) _ passes in
          goes (reacted s.rules a [] h) parts.1 (reacted_stays a (keeps a refl) [] h parts.0 is)

  step_stays : (first : Option ℕ) (flags : Text) (skip : ℕ) (so_far : Outcome) (h : Held)
      (more : Text → ℕ → Outcome → Held → Held × Outcome) (passing : Text → ℕ → Held → Bool)
      → ((rest : Text) (less : ℕ) (came : Outcome) (g : Held) → passing rest less g ≡ true → holds g.rows
      → holds (more rest less came g).0.rows)
      → bundle_step_passes s.rules s.args_override_self first flags skip h passing ≡ true → holds h.rows
      → holds (bundle_step s.rules first flags skip so_far h more).0.rows
  step_stays None flags skip so_far h more passing goes passes is = is
  step_stays (Some x) flags zero so_far h more passing goes passes is =
      let rest = drop (length (encode_utf8 x)) flags in
      short_stays (arg_by_short s.rules x) (found_stays _) rest h (more rest 0 done) (passing rest 0)
      (goes rest 0 done) passes is
  step_stays (Some x) flags (suc skip) so_far h more passing goes passes is =
      goes (drop (length (encode_utf8 x)) flags) skip so_far h passes is

  flags_stay : (k : ℕ) (flags : Text) (skip : ℕ) (so_far : Outcome) (h : Held)
      → flags_pass s.rules s.args_override_self k flags skip h ≡ true → holds h.rows
      → holds (bundle_met s.rules k flags skip so_far h).0.rows
  unfolding flags_pass bundle_met
  flags_stay zero flags skip so_far h passes is = is
  flags_stay (suc k) flags skip so_far h passes is =
      step_stays (slice_get (chars flags) 0) flags skip so_far h (bundle_met s.rules k)
      (flags_pass s.rules s.args_override_self k) (flags_stay k) passes is

  -- a word that is no flag changes no row
  plain_stays : (waiting : Waiting) (word : Text) (h : Held) → holds h.rows
      → holds (plain_word s.rules waiting word h).0.rows
  plain_stays idle word h is = is
  plain_stays positional word h is = is
  plain_stays (option id) word h is = by_found (arg_by_id s.rules id)
    where
      by_found : (found : Option Rule) → holds (option_word found id word h).0.rows
      by_found None = is
      by_found (Some a) = is

  flagged_stays : (waiting : Waiting) (word : Text) (h : Held) (came : Outcome) → holds h.rows
      → holds (after_flag s.rules waiting word h came).0.rows
  flagged_stays waiting word h done is = is
  flagged_stays waiting word h (waits id) is = is
  flagged_stays waiting word h plain is = plain_stays waiting word h is
  flagged_stays waiting word h refused is = plain_stays waiting word h is

  flag_word_stays : (waiting : Waiting) (word : Text) (long : Option (Text × Option Text)) (h : Held)
      → flag_word_passes s.rules s.args_override_self long word h ≡ true → holds h.rows
      → holds (long_or_other s.rules waiting word long h).0.rows
  flag_word_stays waiting word (Some p) h passes is =
      let met = long_met s.rules (arg_by_long s.rules p.0) p.1 h in
      flagged_stays waiting word met.0 met.1 (long_stays (arg_by_long s.rules p.0) (found_stays _) p.1 h passes is)
  flag_word_stays waiting word None h passes is = by_short (short_of word) passes
    where
      by_short : (short : Option Text)
          → option_map_or (λ flags. bundle_passes s.rules s.args_override_self flags h) short true ≡ true
          → holds (short_or_plain s.rules waiting word short h).0.rows
      by_short None passes = plain_stays waiting word h is
      by_short (Some flags) passes =
          let met = bundle s.rules flags h in
          flagged_stays waiting word met.0 met.1
          (flags_stay (length flags) flags h.skip plain (record h { skip = 0 }) passes is)

  other_stays : (met : Option Text) (waiting : Waiting) (position : ℕ) (word : Text) (h : Held)
      → other_passes s met word h ≡ true → holds h.rows
      → holds (subcommand_or_other s.rules met waiting position word h).0.rows
  other_stays (Some name) waiting position word h passes is = is
  other_stays None waiting position word h passes is = by_hyphens (bytes_eq word (45 ∷ 45 ∷ [])) passes
    where
      by_hyphens : (hyphens : Bool)
          → (hyphens || flag_word_passes s.rules s.args_override_self (long_of word) word h) ≡ true
          → holds (if hyphens then (h, trailing position)
          else long_or_other s.rules waiting word (long_of word) h).0.rows
      by_hyphens true passes = is
      by_hyphens false passes = flag_word_stays waiting word (long_of word) h passes is

  word_stays : (names : Names) (is_trailing : Bool) (waiting : Waiting) (position : ℕ) (word : Text) (h : Held)
      → word_passes s names is_trailing waiting word h ≡ true → holds h.rows
      → holds (word_met s.rules names is_trailing waiting position word h).0.rows
  word_stays names true waiting position word h passes is = is
  word_stays names false waiting position word h passes is =
      other_stays (subcommand_met names waiting word) waiting position word h passes is

  -- the word goes to a positional, or is done
  placed_stays : (word : Text) (w : Walk) (h : Held) (step : Step)
      → step_passes s w.position h step ≡ true → holds h.rows
      → holds (after_step s.rules word w h step).held.rows
  placed_stays word w h (next waiting) passes is = is
  placed_stays word w h (trailing position) passes is = is
  placed_stays word w h (subcommand name) passes is = is
  placed_stays word w h value passes is = by_found (arg_by_index s.rules w.position) passes
    where
      by_pending : (a : Rule) (more : Bool) → (more || settle_passes s.rules s.args_override_self h) ≡ true
          → holds (pushed a.id word (if more then h else settled s.rules h)).rows
      by_pending a true passes = is
      by_pending a false passes = settled_stays h passes is

      by_found : (found : Option Rule)
          → option_map_or (λ a. positional_passes s.rules s.args_override_self a h) found false ≡ true
          → holds (to_positional s.rules found word w h).held.rows
      by_found None passes = is
      by_found (Some a) passes = by_pending a (is_pending a h.pending && takes_several a) passes

  turn_stays : (names : Names) (w : Walk) (word : Text) → turn_passes s names w word ≡ true → holds w.held.rows
      → holds (walked s.rules names w word).held.rows
  unfolding walked
  turn_stays names w word passes is = by_stop w.stopped passes
    where
      by_stop : (stopped : Option (Text × List Text)) → turn_passes s names (record w { stopped = stopped }) word ≡ true
          → holds (walked_from s.rules names stopped w word).held.rows
      by_stop (Some p) passes = is
      by_stop None passes =
          let met = word_met s.rules names w.is_trailing w.waiting w.position word w.held in
          let parts = and_parts (word_passes s names w.is_trailing w.waiting word w.held) _ passes in
          placed_stays word w met.0 met.1 parts.1
          (word_stays names w.is_trailing w.waiting w.position word w.held parts.0 is)

  walk_stays : (names : Names) (w : Walk) (words : List Text) → walk_passes s names w words ≡ true → holds w.held.rows
      → holds (fold (walked s.rules names) w words).held.rows
  unfolding walk_passes
  walk_stays names w [] passes is = is
  walk_stays names w (word ∷ rest) passes is =
      let parts = and_parts (turn_passes s names w word) _ passes in
      walk_stays names (walked s.rules names w word) rest parts.1 (turn_stays names w word parts.0 is)

defaults_stay : (holds : List Row → Type 0) (rules : List Rule) (rows : List Row) → Each (StaysByDefault holds) rules
    → holds rows → holds (fold with_default rows rules)
defaults_stay holds [] rows all is = is
defaults_stay holds (a ∷ rest) rows all is = defaults_stay holds rest (with_default rows a) all.1 (all.0 rows is)

-- what is left where the words pass: it holds of the rows at the end, and these have what is required
pub record IsLeft (holds : List Row → Type 0) (s : Shape) (rows : List Row) (has_subcommand : Bool) : Type 0 where
  pub is : holds rows
  pub valid : is_valid s rows has_subcommand ≡ true

pub level_stays : (holds : List Row → Type 0) (s : Shape) (names : Names) (h : Held) (words : List Text)
    (has_subcommand : Bool) → Each (Stays holds s.args_override_self) s.rules
    → Each (StaysByDefault holds) s.rules → level_passes s names h words has_subcommand ≡ true → holds h.rows
    → IsLeft holds s (finished s.rules (walk s.rules names h words).held) has_subcommand
level_stays holds s names h words has_subcommand stays defaults passes is =
    let end = (walk s.rules names h words).held in
    let first = and_parts (walk_passes s names (walk_from h) words) _ passes in
    let second = and_parts (settle_passes s.rules s.args_override_self end) _ first.1 in
    let third = and_parts _ (is_valid s (finished s.rules end) has_subcommand) second.1 in
    record {
      is = defaults_stay holds s.rules (settled s.rules end).rows defaults
          (settled_stays holds s stays end second.0 (walk_stays holds s stays names (walk_from h) words first.0 is));
      valid = third.1;
    }
