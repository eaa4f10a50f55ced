-- Words that the command reads name one of its modes.
use Rattle.std.specs.Prelude.{◌≡◌, ◌⊎◌, ◌+◌, ◌||◌, ℕ, Bool, length, min, nat_le, true, false, not, cond, List, [], ◌∷◌, ◌++◌, Option, Some, None, is_some, drop, unwrap_or, find, bytes_eq, codes, option_and_then, if◌then◌else◌, slice_get}
use Rattle.std.specs.List.{list_all}
use Rattle.std.specs.Option.{option_map_or}
use Rattle.std.proofs.Common.{◌∙◌, refl, sym, ap, subst, inl, inr, true≢false}
use Rattle.std.proofs.lemmas.Bool.{and_from, and_parts, or_right}
use Rattle.std.proofs.lemmas.List.Folds.{list_all-append}
use Rattle.std.proofs.lemmas.Option.{none-some, same_Some}
use Rattle.std.proofs.lemmas.Slice.Eq.{bytes_eq-Decides}
use Rattle.clap.specs.Facts.{explicit_source}
use Rattle.clap.specs.Matches.{count_text}
use Rattle.clap.specs.Simple.{built, filled, is_simple, matches_of, names_of, argument_words, with_index, entered}
use Rattle.clap.specs.Takes.{built_takes, entered_passes, is_given, is_valid, value_passes, values_pass}
use Rattle.clap.specs.Walk.{Row, Rule, Text, at_row, count_of, counted, default_rows, first_of, has_row, more_values, new_count, nothing_held, reading_by, stronger, used_as, values_or_missing, walk, with_count, with_values, without}
use Rattle.clap.specs.declared.builder.action.ArgAction.{ArgAction}
use Rattle.clap.specs.declared.builder.action.ArgAction.TheVariants as actions
use Rattle.clap.specs.declared.builder.value_parser.Reading.{Reading}
use Rattle.clap.specs.declared.parser.matches.ValueSource.{ValueSource}
use Rattle.clap.specs.declared.parser.matches.ValueSource.TheVariants.{CommandLine, DefaultValue}
use Rattle.command_line.specs.Command.{command, is_read, listening_in, mode, mode_called, mode_in, mode_of, modes, one_of_these, project_in, workers_in}
use Rattle.command_laws.specs.Words.{NamesMode}
use Rattle.command_laws.proofs.StayLaws.{Each, IsLeft, Stays, StaysByDefault, level_stays}

-- What holds of each row

-- the argument of the mode, as it is built
abbrev mode_rule : Rule
mode_rule = with_index 1 (filled (mode (one_of_these modes)))

abbrev is_mode : Text → Bool
is_mode text = value_passes mode_rule text

abbrev are_modes : List Text → Bool
are_modes [] = false
are_modes (text ∷ texts) = list_all is_mode (text ∷ texts)

-- a row of the mode has values, and each is a mode
abbrev is_fine : Row → Bool
is_fine row = not (bytes_eq row.id (codes "mode")) || are_modes row.values

abbrev AreFine : List Row → Type 0
AreFine rows = list_all is_fine rows ≡ true

-- Rows that are changed

same_text : (a b : Text) → bytes_eq a b ≡ true → a ≡ b
same_text a b = (bytes_eq-Decides a b).0

modes_append : (texts more : List Text) → are_modes texts ≡ true → are_modes more ≡ true → are_modes (texts ++ more) ≡ true
modes_append [] more first second = absurd (true≢false (sym first))
modes_append (text ∷ texts) [] first second = absurd (true≢false (sym second))
modes_append (text ∷ texts) (other ∷ more) first second =
    list_all-append is_mode (text ∷ texts) (other ∷ more) ∙ and_from _ _ first second

-- a row of the mode that is fine has modes
has_modes : (row : Row) → bytes_eq row.id (codes "mode") ≡ true → is_fine row ≡ true → are_modes row.values ≡ true
has_modes row same fine = sym (ap (λ b. not b || are_modes row.values) same) ∙ fine

-- a row of another argument is fine
other_fine : (row : Row) → bytes_eq row.id (codes "mode") ≡ false → is_fine row ≡ true
other_fine row other = ap (λ b. not b || are_modes row.values) other

fine_at : (id : Text) (change : Row → List Row) (missing rows : List Row)
    → ((row : Row) → bytes_eq row.id id ≡ true → is_fine row ≡ true → AreFine (change row)) → AreFine missing
    → AreFine rows → AreFine (at_row id change missing rows)
fine_at id change missing [] changes new all = new
fine_at id change missing (row ∷ rows) changes new all =
    let parts = and_parts (is_fine row) (list_all is_fine rows) all in
    by_test (bytes_eq row.id id) refl parts.0 parts.1 (fine_at id change missing rows changes new parts.1)
  where
    by_test : (same : Bool) → bytes_eq row.id id ≡ same → is_fine row ≡ true → AreFine rows
        → AreFine (at_row id change missing rows)
        → AreFine (if same then change row ++ rows else row ∷ at_row id change missing rows)
    by_test true e first others rest =
        list_all-append is_fine (change row) rows ∙ and_from _ _ (changes row e first) others
    by_test false e first others rest = and_from _ _ first rest

alone : (row : Row) → is_fine row ≡ true → AreFine (row ∷ [])
alone row fine = and_from _ _ fine refl

fine_without : (id : Text) (rows : List Row) → AreFine rows → AreFine (without id rows)
fine_without id rows all = fine_at id (λ _. []) [] rows (λ row same fine. refl) refl all

-- the rows of an argument to which values came, or a count
abbrev new_row : Text → Reading → Option ℕ → ValueSource → List Text → Row
new_row id how count source values =
    record { id = id; values = values; count = count; source = Some source; reading = how }

abbrev more_row : ValueSource → List Text → Row → Row
more_row source values row =
    record row { values = row.values ++ values; source = Some (stronger row.source source) }

abbrev count_row : ValueSource → ℕ → Row → Row
count_row source count row = record row {
  values = row.values ++ count_text count ∷ [];
  count = Some count;
  source = Some (stronger row.source source);
}

-- those of another argument are fine
other_alone : (row : Row) (id : Text) → row.id ≡ id → bytes_eq id (codes "mode") ≡ false → AreFine (row ∷ [])
other_alone row id same other = alone row (other_fine row (ap (λ text. bytes_eq text (codes "mode")) same ∙ other))

fine_values : (id : Text) (how : Reading) (source : ValueSource) (values : List Text) (rows : List Row)
    → bytes_eq id (codes "mode") ≡ false → AreFine rows → AreFine (with_values id how source values rows)
fine_values id how source values rows other all =
    fine_at id (more_values source values) (new_row id how None source values ∷ []) rows
    (λ row same fine. other_alone (more_row source values row) id (same_text row.id id same) other)
    (other_alone (new_row id how None source values) id refl other) all

fine_count : (id : Text) (how : Reading) (source : ValueSource) (count : ℕ) (rows : List Row)
    → bytes_eq id (codes "mode") ≡ false → AreFine rows → AreFine (with_count id how source count rows)
fine_count id how source count rows other all =
    fine_at id (new_count source count) (new_row id how (Some count) source (count_text count ∷ []) ∷ []) rows
    (λ row same fine. other_alone (count_row source count row) id (same_text row.id id same) other)
    (other_alone (new_row id how (Some count) source (count_text count ∷ [])) id refl other) all

fine_counted : (id : Text) (how : Reading) (values : List Text) (rows : List Row)
    → bytes_eq id (codes "mode") ≡ false → AreFine rows → AreFine (counted id how values rows)
fine_counted id how [] rows other all =
    fine_count id how CommandLine (min (count_of id rows + 1) 255) (without id rows) other (fine_without id rows all)
fine_counted id how (text ∷ texts) rows other all =
    fine_values id how CommandLine (text ∷ texts) (without id rows) other (fine_without id rows all)

fine_used : (action : ArgAction) (id : Text) (how : Reading) (values : List Text) (rows : List Row)
    → bytes_eq id (codes "mode") ≡ false → AreFine rows → AreFine (used_as action id how values rows)
fine_used actions.Set id how values rows other all =
    fine_values id how CommandLine values (without id rows) other (fine_without id rows all)
fine_used actions.SetTrue id how values rows other all =
    fine_values id how CommandLine values (without id rows) other (fine_without id rows all)
fine_used actions.SetFalse id how values rows other all =
    fine_values id how CommandLine values (without id rows) other (fine_without id rows all)
fine_used actions.Append id how values rows other all = fine_values id how CommandLine values rows other all
fine_used actions.Count id how values rows other all = fine_counted id how values rows other all
fine_used actions.Help id how values rows other all = all
fine_used actions.HelpShort id how values rows other all = all
fine_used actions.HelpLong id how values rows other all = all
fine_used actions.Version id how values rows other all = all

other_stays : (again : Bool) (a : Rule) → bytes_eq a.id (codes "mode") ≡ false → Stays AreFine again a
other_stays again a other values rows passes all =
    fine_used _ a.id (reading_by a) (values_or_missing a values) rows other all

-- values of the mode
mode_stays : (again : Bool) → Stays AreFine again mode_rule
mode_stays again [] rows passes all = absurd (true≢false (sym passes))
mode_stays again (text ∷ texts) rows passes all =
    let values = text ∷ texts in
    let first = and_parts (nat_le 1 (length values)) _ passes in
    let second = and_parts (nat_le (length values) 1) _ first.1 in
    let given : are_modes values ≡ true =
    (and_parts (not (has_row (codes "mode") rows) || again) (values_pass mode_rule values) second.1).1 in
    let new = new_row (codes "mode") (reading_by mode_rule) None CommandLine values in
    fine_at (codes "mode") (more_values CommandLine values) (new ∷ []) (without (codes "mode") rows)
    (λ row same fine. alone (more_row CommandLine values row) (or_right (not (bytes_eq row.id (codes "mode"))) _
    (modes_append row.values values (has_modes row same fine) given)))
    (alone new given) (fine_without (codes "mode") rows all)

other_by_default : (a : Rule) → bytes_eq a.id (codes "mode") ≡ false → StaysByDefault AreFine a
other_by_default a other rows all = by_row (has_row a.id rows) a.defaults
  where
    by_row : (has : Bool) (defaults : List Text)
        → AreFine (if has then rows else default_rows a.id (reading_by a) defaults rows)
    by_row true defaults = all
    by_row false [] = all
    by_row false (text ∷ texts) = fine_values a.id (reading_by a) DefaultValue (text ∷ texts) rows other all

-- the mode has no default
mode_by_default : StaysByDefault AreFine mode_rule
mode_by_default rows all = by_row (has_row (codes "mode") rows)
  where
    by_row : (has : Bool) → AreFine (if has then rows else rows)
    by_row true = all
    by_row false = all

-- The rows of words that are read

abbrev is_other : Rule → Bool
is_other a = not (bytes_eq a.id (codes "mode"))

other_id : (a : Rule) → is_other a ≡ true → bytes_eq a.id (codes "mode") ≡ false
other_id a other = by_test (bytes_eq a.id (codes "mode")) other
  where
    by_test : (same : Bool) → not same ≡ true → same ≡ false
    by_test true e = absurd (true≢false (sym e))
    by_test false e = refl

others_stay : (again : Bool) (rules : List Rule) → list_all is_other rules ≡ true → Each (Stays AreFine again) rules
others_stay again [] other = tt
others_stay again (a ∷ rules) other =
    let parts = and_parts (is_other a) (list_all is_other rules) other in
    (other_stays again a (other_id a parts.0), others_stay again rules parts.1)

others_by_default : (rules : List Rule) → list_all is_other rules ≡ true → Each (StaysByDefault AreFine) rules
others_by_default [] other = tt
others_by_default (a ∷ rules) other =
    let parts = and_parts (is_other a) (list_all is_other rules) other in
    (other_by_default a (other_id a parts.0), others_by_default rules parts.1)

abbrev other_rules : List Rule
other_rules = drop 1 (built command).top.rules

are_other : list_all is_other other_rules ≡ true
unfolding command
are_other = refl

all_stay : Each (Stays AreFine (built command).top.args_override_self) (built command).top.rules
unfolding command
all_stay = (mode_stays false, others_stay false other_rules are_other)

all_by_default : Each (StaysByDefault AreFine) (built command).top.rules
unfolding command
all_by_default = (mode_by_default, others_by_default other_rules are_other)

abbrev has_entered : List Text → Bool
has_entered words = is_some (entered (built command) (walk (built command).top.rules (names_of (built command))
    nothing_held (argument_words command words)).stopped)

left : (words : List Text) → is_read words ≡ true
    → IsLeft AreFine (built command).top (matches_of command words) (has_entered words)
left words read =
    let own = argument_words command words in
    let names = names_of (built command) in
    let whole = and_parts (is_simple command) (built_takes (built command) nothing_held own) read in
    let stop = (walk (built command).top.rules names nothing_held own).stopped in
    let level = and_parts (entered_passes (built command) stop) _ whole.1 in
    level_stays AreFine (built command).top names nothing_held own (has_entered words) all_stay all_by_default level.1 refl

mode_given : (rows : List Row) (has_subcommand : Bool) → is_valid (built command).top rows has_subcommand ≡ true
    → is_given (codes "mode") rows ≡ true
unfolding command
mode_given rows has_subcommand valid = (and_parts (is_given (codes "mode") rows) true valid).0

-- The value of the mode

record HasMode (rows : List Row) : Type 0 where
  pub text : Text
  pub first : first_of (codes "mode") rows ≡ Some text
  pub named : is_mode text ≡ true

abbrev of_mode : Row → Bool
of_mode row = bytes_eq row.id (codes "mode")

found_fine : (rows : List Row) (row : Row) → find of_mode rows ≡ Some row → AreFine rows
    → are_modes row.values ≡ true
found_fine [] row found all = absurd (none-some row found)
found_fine (other ∷ rows) row found all =
    let parts = and_parts (is_fine other) (list_all is_fine rows) all in
    by_test (of_mode other) refl parts.0 (λ later. found_fine rows row later parts.1) found
  where
    by_test : (same : Bool) → of_mode other ≡ same → is_fine other ≡ true
        → (find of_mode rows ≡ Some row → are_modes row.values ≡ true)
        → cond same (Some other) (find of_mode rows) ≡ Some row → are_modes row.values ≡ true
    by_test true e fine rest found =
        subst (λ (row : Row). are_modes row.values ≡ true) (same_Some other row found) (has_modes other e fine)
    by_test false e fine rest found = rest found

first_given : (rows : List Row) (row : Row) (values : List Text) → find of_mode rows ≡ Some row → row.values ≡ values
    → are_modes values ≡ true → HasMode rows
first_given rows row [] found is named = absurd (true≢false (sym named))
first_given rows row (text ∷ texts) found is named = record {
  text = text;
  first = ap (option_and_then (λ (row : Row). slice_get row.values 0)) found ∙ ap (λ values. slice_get values 0) is;
  named = (and_parts (is_mode text) (list_all is_mode texts) named).0;
}

has_mode : (rows : List Row) (found : Option Row) → find of_mode rows ≡ found
    → option_map_or (λ row. explicit_source row.source) found false ≡ true → AreFine rows → HasMode rows
has_mode rows None found given all = absurd (true≢false (sym given))
has_mode rows (Some row) found given all = first_given rows row row.values found refl (found_fine rows row found all)

-- the text is one of these names
abbrev IsOneOf : List Text → Text → Type 0
IsOneOf [] text = ⊥
IsOneOf (name ∷ names) text = (text ≡ name) ⊎ IsOneOf names text

abbrev is_one_of : List Text → Text → Bool
is_one_of [] text = false
is_one_of (name ∷ names) text = bytes_eq name text || is_one_of names text

which : (names : List Text) (text : Text) → is_one_of names text ≡ true → IsOneOf names text
which [] text named = absurd (true≢false (sym named))
which (name ∷ names) text named = by_test (bytes_eq name text) refl named (which names text)
  where
    by_test : (same : Bool) → bytes_eq name text ≡ same → (same || is_one_of names text) ≡ true
        → (is_one_of names text ≡ true → IsOneOf names text) → (text ≡ name) ⊎ IsOneOf names text
    by_test true e named rest = inl (sym (same_text name text e))
    by_test false e named rest = inr (rest named)

-- the mode of words that are read is that of its name
mode_is : (words : List Text) (text name : Text) → is_read words ≡ true
    → first_of (codes "mode") (matches_of command words) ≡ Some text → text ≡ name
    → (first_of (codes "mode") (matches_of command words) ≡ Some name)
    × (mode_of words ≡ Some (mode_called (project_in (matches_of command words))
    (listening_in (matches_of command words)) (workers_in (matches_of command words)) name))
mode_is words text name read first same =
    let here = first ∙ ap Some same in
    let rows = matches_of command words in (
      here,
      ap (λ (is : Bool). if is then Some (mode_in (matches_of command words)) else None) read
          ∙ ap (λ (found : Option Text). Some (mode_called (project_in rows) (listening_in rows) (workers_in rows)
          (unwrap_or found []))) here,
    )

pub names_mode : NamesMode
names_mode words read =
    let rows = left words read in
    let mode = has_mode (matches_of command words) (find of_mode (matches_of command words)) refl
    (mode_given (matches_of command words) (has_entered words) rows.valid) rows.is in
    elim (which modes mode.text mode.named) [
      | inl clean ↦ inl (mode_is words mode.text (codes "clean") read mode.first clean)
      | inr (inl terms) ↦ inr (inl (mode_is words mode.text (codes "terms") read mode.first terms))
      | inr (inr (inl gen)) ↦ inr (inr (inl (mode_is words mode.text (codes "gen") read mode.first gen)))
      | inr (inr (inr (inl batch))) ↦ inr (inr (inr (inl (mode_is words mode.text (codes "batch") read mode.first batch))))
      | inr (inr (inr (inr (inl trial)))) ↦
          inr (inr (inr (inr (inl (mode_is words mode.text (codes "trial") read mode.first trial)))))
      | inr (inr (inr (inr (inr (inl serve))))) ↦
          inr (inr (inr (inr (inr (mode_is words mode.text (codes "serve") read mode.first serve)))))
      | inr (inr (inr (inr (inr (inr none))))) ↦ absurd none
    ]
