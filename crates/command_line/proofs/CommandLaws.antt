-- What a command of the program makes of words is what the command of the definition makes of them.
use Rattle.std.proofs.Common.{◌≡◌, ◌∙◌, List, [], ◌∷◌, Option, Some, None, IfSome, map, option_map, is_some, drop, codes, unwrap_or, true, false, refl, sym, subst, ap, ap₂}
use Rattle.std.specs.Borrow.{Bor}
use Rattle.clap.specs.Built.{AddsArg}
use Rattle.clap.specs.Faults.{fault_of, is_simple_and_free, level_fault}
use Rattle.clap.specs.Kinds.{IsAmong, Kinds}
use Rattle.clap.specs.Simple.{App, app_of, built, is_simple, matches_of, with_rule}
use Rattle.clap.specs.Matches.{first_value, found_of}
use Rattle.clap.specs.Walk.{Rule, Text, first_of, nothing_held, rows_of, rule_of}
use Rattle.clap.specs.declared.error.kind.ErrorKind.{ErrorKind}
use Rattle.clap.specs.declared.builder.arg.Arg.{Arg}
use Rattle.clap.specs.declared.builder.command.Command.{Command}
use Rattle.clap.specs.declared.builder.value_parser.ValueParser.{ValueParser}
use Rattle.clap.specs.declared.builder.value_parser.ValueParser.TheVariants as values
use Rattle.clap.specs.declared.parser.matches.ArgMatches.{ArgMatches}
use Rattle.clap.proofs.FaultLemmas.{leaf_fault}
use Rattle.clap.proofs.WalkLemmas.{first_value-rows}
use Rattle.command_line.proofs.AddressFaultLaws.{same_faults}
use Rattle.command_line.proofs.AddressLaws.{same_rows}
use Rattle.command_line.proofs.FaultLaws.{is_clear, takes_agrees}
use Rattle.command_line.specs.declared.modes.Mode.{Mode}
use Rattle.command_line.specs.Command.{IsCommand, command, command_of, default_folder, is_read, mode_in, mode_of, one_of_these, out_folder, value_in}

-- the modes' names, at some addresses
abbrev Names : Type 0
Names = Bor (List (Bor Text))

abbrev texts_of : Names → List Text
texts_of names = map (λ name. name.now) names.now

-- the program's name is no word of the command, which has no subcommand
faults_of : (taken : ValueParser) (words : List Text)
    → fault_of (command_of taken) words ≡ level_fault (built (command_of taken)).top [] nothing_held (drop 1 words) false []
faults_of taken words = leaf_fault (built (command_of taken)) nothing_held (drop 1 words) refl

faults_by_texts : (names : Names) (words : List Text)
    → fault_of (command_of (values.Names names)) words ≡ fault_of (command_of (one_of_these (texts_of names))) words
faults_by_texts names words = faults_of (values.Names names) words
    ∙ sym (same_faults (built (command_of (values.Names names))).top nothing_held (drop 1 words))
    ∙ sym (faults_of (one_of_these (texts_of names)) words)

pub same_kinds : (app : App) (words : List Text) → IsCommand app → fault_of app words ≡ fault_of command words
unfolding command
same_kinds app words is = ap (λ a. fault_of a words) is.2 ∙ faults_by_texts is.0 words
    ∙ ap (λ texts. fault_of (command_of (one_of_these texts)) words) is.1

pub same_matches : (app : App) (words : List Text) → IsCommand app → matches_of app words ≡ matches_of command words
unfolding command
same_matches app words is = ap (λ a. matches_of a words) is.2
    ∙ sym (same_rows (built (command_of (values.Names is.0))).top.rules (drop 1 words))
    ∙ ap (λ texts. matches_of (command_of (one_of_these texts)) words) is.1

pub simple : (app : App) → IsCommand app → is_simple app ≡ true
simple app is = ap is_simple is.2

pub simple_and_free : (app : App) → IsCommand app → is_simple_and_free app ≡ true
simple_and_free app is = ap is_simple_and_free is.2

-- the command reads the words exactly if it has no fault to find in them
pub clear_if_read : (app : App) (words : List Text) → IsCommand app → is_clear (fault_of app words) ≡ is_read words
unfolding command
clear_if_read app words is = ap is_clear (same_kinds app words is) ∙ takes_agrees command words refl refl refl refl

-- a kind of error is a fault
pub unclear : (kind : ErrorKind) (kinds : Kinds) → IsAmong kind kinds → false ≡ is_clear kinds
unclear kind [] among = absurd among
unclear kind (first ∷ rest) among = refl

-- the value of an option of references
unwrapped : (given : Option (Bor Text)) (other : Bor Text)
    → (unwrap_or given other).now ≡ unwrap_or (option_map (λ text. text.now) given) other.now
unwrapped (Some text) other = refl
unwrapped None other = refl

-- the value that `get_str` gives for an argument of words that are read, or another text in its place
value_if_read : (id : Text) (found : Option ArgMatches) (matches : ArgMatches) (words : List Text) (given : Option (Bor Text))
    (other : Bor Text) → found ≡ Some matches → IfSome found (λ m. rows_of (found_of m) ≡ matches_of command words)
    → option_map (λ text. text.now) given ≡ first_value (found_of matches) id
    → (unwrap_or given other).now ≡ unwrap_or (first_of id (matches_of command words)) other.now
value_if_read id found matches words given other some rows value =
    let here : rows_of (found_of matches) ≡ matches_of command words =
    subst (λ o. IfSome o (λ m. rows_of (found_of m) ≡ matches_of command words)) some rows in
    let first : option_map (λ text. text.now) given ≡ first_of id (matches_of command words) =
    value ∙ first_value-rows (found_of matches) id ∙ ap (first_of id) here in
    unwrapped given other ∙ ap (λ (text : Option Text). unwrap_or text other.now) first

if_read : (words : List Text) → true ≡ is_read words
    → unwrap_or (first_of (codes "out") (matches_of command words)) default_folder ≡ out_folder words
if_read words read = rw (← read) refl

-- the folder of words that are read is the value that `get_str` gives for `--out`
pub folder_if_read : (found : Option ArgMatches) (matches : ArgMatches) (words : List Text) (given : Option (Bor Text)) (other : Bor Text)
    → found ≡ Some matches → is_some found ≡ is_read words
    → IfSome found (λ m. rows_of (found_of m) ≡ matches_of command words)
    → option_map (λ text. text.now) given ≡ first_value (found_of matches) (codes "out") → other.now ≡ default_folder
    → (unwrap_or given other).now ≡ out_folder words
folder_if_read found matches words given other some read rows value default =
    value_if_read (codes "out") found matches words given other some rows value
    ∙ ap (unwrap_or (first_of (codes "out") (matches_of command words))) default
    ∙ if_read words (ap is_some (sym some) ∙ read)

-- the value that `get_str` gives for an argument, or the empty text in its place
pub value_given : (id : Text) (matches : ArgMatches) (given : Option (Bor Text)) (other result : Bor Text)
    → option_map (λ text. text.now) given ≡ first_value (found_of matches) id → other.now ≡ []
    → result ≡ unwrap_or given other → result.now ≡ value_in id (rows_of (found_of matches))
value_given id matches given other result value none is =
    ap (λ (text : Bor Text). text.now) is ∙ unwrapped given other
    ∙ ap₂ (λ (text : Option Text) (last : Text). unwrap_or text last) (value ∙ first_value-rows (found_of matches) id) none

named_if_read : (words : List Text) → true ≡ is_read words → Some (mode_in (matches_of command words)) ≡ mode_of words
named_if_read words read = rw (← read) refl

-- the mode of words that are read is that of what was found
pub mode_if_read : (found : Option ArgMatches) (matches : ArgMatches) (words : List Text) (mode : Mode) → found ≡ Some matches
    → is_some found ≡ is_read words → IfSome found (λ m. rows_of (found_of m) ≡ matches_of command words)
    → mode ≡ mode_in (rows_of (found_of matches)) → Some mode ≡ mode_of words
mode_if_read found matches words mode some read rows is =
    let here : rows_of (found_of matches) ≡ matches_of command words =
    subst (λ o. IfSome o (λ m. rows_of (found_of m) ≡ matches_of command words)) some rows in
    ap Some is ∙ ap (λ rows. Some (mode_in rows)) here ∙ named_if_read words (ap is_some (sym some) ∙ read)

-- the folder of words that are not read
pub folder_if_not : (found : Option ArgMatches) (words : List Text) → found ≡ None → is_some found ≡ is_read words
    → default_folder ≡ out_folder words
folder_if_not found words none read =
    let not_read : false ≡ is_read words = ap is_some (sym none) ∙ read in
    rw (← not_read) refl

-- a command to which an argument was added
pub adds : (old new : Command) (arg : Arg) (app : App) (rule : Rule) → app_of old ≡ app → AddsArg old arg new → arg.global ≡ false
    → rule_of arg ≡ rule → app_of new ≡ with_rule app rule
adds old new arg app rule before added here is = added.shape here ∙ ap₂ with_rule before is

-- a rule was added to a command that is known
pub adds_rule : (old new : Command) (rule : Rule) (app : App) → app_of old ≡ app → app_of new ≡ with_rule (app_of old) rule
    → app_of new ≡ with_rule app rule
adds_rule old new rule app before is = is ∙ ap (λ a. with_rule a rule) before

-- and two of them
pub adds_two : (old new : Command) (rule next : Rule) (app : App) → app_of old ≡ app
    → app_of new ≡ with_rule (with_rule (app_of old) rule) next → app_of new ≡ with_rule (with_rule app rule) next
adds_two old new rule next app before is = is ∙ ap (λ a. with_rule (with_rule a rule) next) before
