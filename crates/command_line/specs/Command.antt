-- The words of the program: one command of the crate `clap`, with a mode and options (own).
use Rattle.std.specs.Prelude.{◌≡◌, ℕ, Bool, List, [], ◌∷◌, Option, Some, None, fold, map, codes, bytes_eq, unwrap_or, if◌then◌else◌, true}
use Rattle.std.specs.Borrow.{Bor}
use Rattle.std.specs.Str.Parse.{digits_value, without_leading_plus}
use Rattle.clap.specs.Simple.{App, matches_of, new_app, new_rule, on_top, with_rule}
use Rattle.clap.specs.Takes.{takes}
use Rattle.clap.specs.ValueTests.{is_unsigned_in}
use Rattle.clap.specs.Walk.{Row, Rule, Text, first_of}
use Rattle.clap.specs.declared.builder.action.ArgAction.TheVariants.{Set}
use Rattle.clap.specs.declared.builder.value_parser.ValueParser.{ValueParser}
use Rattle.clap.specs.declared.builder.value_parser.ValueParser.TheVariants as values
use Rattle.command_line.specs.declared.modes.Mode.{Mode}
use Rattle.command_line.specs.declared.modes.Mode.TheVariants.{Clean, Terms, Gen, Batch, Trial, Serve}
use Rattle.command_line.specs.Listening.{ListeningAsked, most_port, least_connections, most_connections}
use Rattle.command_line.specs.Project.{ProjectAsked, most_number, least_topics, most_topics, least_workers, most_workers}

-- texts as references, at no address: what a command reads does not depend on where its own texts lie
abbrev pub at_no_address : {X : Type 0} → X → Bor X
at_no_address value = record { ref_ptr = (0, 0); now = value }

abbrev pub one_of_these : List Text → ValueParser
one_of_these texts = values.Names (at_no_address (map at_no_address texts))

-- the modes of the program
abbrev pub modes : List Text
modes = codes "clean" ∷ codes "terms" ∷ codes "gen" ∷ codes "batch" ∷ codes "trial" ∷ codes "serve" ∷ []

-- an argument of one value
abbrev pub valued : Text → ValueParser → Rule
valued id taken = record (new_rule id) { action = Some Set; value_names = 1; parser = Some taken }

-- the mode, which must be there
abbrev pub mode : ValueParser → Rule
mode taken = record (valued (codes "mode") taken) { required = true }

-- `--name VALUE` or `--name=VALUE`, at most once; without it the value is this text
abbrev pub option : Text → ValueParser → Text → Rule
option name taken text = record (valued name taken) { long = Some name; defaults = text ∷ [] }

-- the folder of the pages, if the words do not name one
abbrev pub default_folder : Text
default_folder = codes "out"

-- how many threads work, the number from which a project is made and its topics, where sessions connect and how many, and
-- the folder of the pages
abbrev pub options : List Rule
options = option (codes "workers") (values.Unsigned least_workers most_workers) (codes "4")
    ∷ option (codes "number") (values.Unsigned 0 most_number) (codes "1")
    ∷ option (codes "topics") (values.Unsigned least_topics most_topics) (codes "40")
    ∷ option (codes "port") (values.Unsigned 0 most_port) (codes "7070")
    ∷ option (codes "connections") (values.Unsigned least_connections most_connections) (codes "1")
    ∷ option (codes "out") values.NonEmptyString default_folder
    ∷ []

-- a command with this name, which tells its version
abbrev pub versioned : Text → App
versioned name = on_top (λ shape. record shape { has_version = true }) (new_app name)

-- the command whose modes are these
abbrev pub command_of : ValueParser → App
command_of taken = fold with_rule (versioned (codes "dita_desk")) (mode taken ∷ options)

unfoldable pub command : App
command = command_of (one_of_these modes)

-- the same, wherever the names of the modes lie
abbrev pub IsByModes : {X : Type 0} → (ValueParser → X) → X → Type 0
IsByModes of made = (names : Bor (List (Bor Text))) × (map (λ name. name.now) names.now ≡ modes)
    × (made ≡ of (values.Names names))

abbrev pub IsMode : Rule → Type 0
IsMode rule = IsByModes mode rule

abbrev pub IsCommand : App → Type 0
IsCommand app = IsByModes command_of app

-- the command reads the words, of which the first is the program's name
abbrev pub is_read : List Text → Bool
is_read words = takes command words

-- the first value of an argument, by what was found of all arguments
abbrev pub value_in : Text → List Row → Text
value_in id rows = unwrap_or (first_of id rows) []

-- the number that a text is, if it is one within these bounds, and else the least; words that are read have no other text
abbrev pub number_in : ℕ → ℕ → Text → ℕ
number_in least most text = if is_unsigned_in least most text then digits_value 10 (without_leading_plus text) else least

-- the number from which a project is made, and how many topics it has
abbrev pub project_in : List Row → ProjectAsked
project_in rows = record {
  number = number_in 0 most_number (value_in (codes "number") rows);
  topics = number_in least_topics most_topics (value_in (codes "topics") rows);
}

-- how many threads work on one build
abbrev pub workers_in : List Row → ℕ
workers_in rows = number_in least_workers most_workers (value_in (codes "workers") rows)

-- where sessions connect, and how many are served
abbrev pub listening_in : List Row → ListeningAsked
listening_in rows = record {
  port = number_in 0 most_port (value_in (codes "port") rows);
  connections = number_in least_connections most_connections (value_in (codes "connections") rows);
}

-- the mode of a name: of those that the command reads, the one that is none of the others is `clean`
abbrev pub mode_called : ProjectAsked → ListeningAsked → ℕ → Text → Mode
mode_called asked listening workers text =
    if bytes_eq text (codes "terms") then Terms
    else if bytes_eq text (codes "gen") then Gen asked
    else if bytes_eq text (codes "batch") then Batch workers
    else if bytes_eq text (codes "trial") then Trial asked workers
    else if bytes_eq text (codes "serve") then Serve listening workers
    else Clean

abbrev pub mode_in : List Row → Mode
mode_in rows = mode_called (project_in rows) (listening_in rows) (workers_in rows) (value_in (codes "mode") rows)

-- the mode that the words name, if the command reads them
abbrev pub mode_of : List Text → Option Mode
mode_of words = if is_read words then Some (mode_in (matches_of command words)) else None

-- the value of `--out`, if the command reads the words
abbrev pub out_folder : List Text → Text
out_folder words = if is_read words
    then unwrap_or (first_of (codes "out") (matches_of command words)) default_folder
    else default_folder
