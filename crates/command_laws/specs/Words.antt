-- What the command reads of some kinds of words (own).
use Rattle.std.specs.Prelude.{◌≡◌, ◌≢◌, ◌⊎◌, ℕ, List, [], ◌∷◌, ◌++◌, Some, codes, true, false}
use Rattle.clap.specs.ValueTests.{is_unsigned_in}
use Rattle.clap.specs.Simple.{matches_of}
use Rattle.clap.specs.Walk.{Text, first_of}
use Rattle.command_line.specs.Command.{command, is_read, listening_in, mode_of, out_folder, project_in, workers_in}
use Rattle.command_line.specs.declared.modes.Mode.{Mode}
use Rattle.command_line.specs.declared.modes.Mode.TheVariants.{Clean, Terms, Gen, Batch, Trial, Serve}

-- the program's name, the mode `clean`, and words behind it
abbrev pub clean_with : Text → List Text → List Text
clean_with program words = program ∷ codes "clean" ∷ words

-- `--NAME=VALUE`
abbrev pub set : Text → Text → Text
set name value = codes "--" ++ (name ++ (codes "=" ++ value))

-- behind `clean`, alone, the option is read exactly if its value is a number from the least to the most
abbrev pub TakesNumber : Text → ℕ → ℕ → Type 0
TakesNumber name least most = (program value : Text)
    → is_read (clean_with program (set name value ∷ [])) ≡ is_unsigned_in least most value

-- behind `clean` the option, standing twice and nothing else, is not read
abbrev pub StandsOnce : Text → Type 0
StandsOnce name = (program first second : Text)
    → is_read (clean_with program (set name first ∷ set name second ∷ [])) ≡ false

-- behind `--` no word is an option, and the mode stands there already
abbrev pub ClosesOptions : Type 0
ClosesOptions = (program word : Text) → is_read (clean_with program (codes "--" ∷ word ∷ [])) ≡ false

-- the words name this mode, by this text
abbrev pub Names : Text → Mode → List Text → Type 0
Names text mode words = (first_of (codes "mode") (matches_of command words) ≡ Some text) × (mode_of words ≡ Some mode)

-- words that are read name one of the modes, each by its own name
abbrev pub NamesMode : Type 0
NamesMode = (words : List Text) → is_read words ≡ true
    → Names (codes "clean") Clean words
    ⊎ (Names (codes "terms") Terms words
    ⊎ (Names (codes "gen") (Gen (project_in (matches_of command words))) words
    ⊎ (Names (codes "batch") (Batch (workers_in (matches_of command words))) words
    ⊎ (Names (codes "trial") (Trial (project_in (matches_of command words)) (workers_in (matches_of command words)))
    words
    ⊎ Names (codes "serve") (Serve (listening_in (matches_of command words)) (workers_in (matches_of command words)))
    words))))

-- a folder's name is any text that is not empty, and it is the folder
abbrev pub NamesFolder : Type 0
NamesFolder = (program folder : Text) → folder ≢ []
    → (is_read (clean_with program (set (codes "out") folder ∷ [])) ≡ true)
    × (out_folder (clean_with program (set (codes "out") folder ∷ [])) ≡ folder)
