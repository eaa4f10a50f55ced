-- What the command makes of known words.
use Rattle.std.specs.Prelude.{◌≡◌, List, [], ◌∷◌, Some, None, codes, true, false, refl}
use Rattle.clap.specs.Faults.{fault_of}
use Rattle.clap.specs.Walk.{Text}
use Rattle.clap.specs.declared.error.kind.ErrorKind.TheVariants as kinds
use Rattle.clap.proofs.OnLiterals.{clap_on_literals}
use Rattle.command_line.specs.Command.{command, is_read, mode_of, out_folder}
use Rattle.command_line.specs.declared.modes.Mode.TheVariants.{Clean, Terms, Gen}

-- the program's name, and words
abbrev line : List Text → List Text
line words = codes "dita_desk" ∷ words

the_mode_alone : mode_of (line (codes "clean" ∷ [])) ≡ Some Clean
unfolding command clap_on_literals
the_mode_alone = refl

the_other_mode : mode_of (line (codes "terms" ∷ [])) ≡ Some Terms
unfolding command clap_on_literals
the_other_mode = refl

-- its number is 1 where the words say none
the_generator : mode_of (line (codes "gen" ∷ codes "--topics" ∷ codes "9" ∷ []))
    ≡ Some (Gen (record { number = 1; topics = 9 }))
unfolding command clap_on_literals
the_generator = refl

no_mode : mode_of (line (codes "fly" ∷ [])) ≡ None
unfolding command clap_on_literals
no_mode = refl

two_topics : is_read (line (codes "clean" ∷ codes "--topics" ∷ codes "2" ∷ [])) ≡ true
unfolding command clap_on_literals
two_topics = refl

one_topic : is_read (line (codes "clean" ∷ codes "--topics" ∷ codes "1" ∷ [])) ≡ false
unfolding command clap_on_literals
one_topic = refl

the_mode_behind_options : is_read (line (codes "--out" ∷ codes "www" ∷ codes "--" ∷ codes "clean" ∷ [])) ≡ true
unfolding command clap_on_literals
the_mode_behind_options = refl

no_words : fault_of command (line []) ≡ kinds.MissingRequiredArgument ∷ []
unfolding command clap_on_literals
no_words = refl

another_mode : fault_of command (line (codes "fly" ∷ [])) ≡ kinds.InvalidValue ∷ []
unfolding command clap_on_literals
another_mode = refl

an_unknown_option : fault_of command (line (codes "clean" ∷ codes "--in" ∷ codes "a" ∷ [])) ≡ kinds.UnknownArgument ∷ []
unfolding command clap_on_literals
an_unknown_option = refl

out_twice : fault_of command (line (codes "clean" ∷ codes "--out" ∷ codes "a" ∷ codes "--out" ∷ codes "b" ∷ []))
    ≡ kinds.ArgumentConflict ∷ []
unfolding command clap_on_literals
out_twice = refl

out_without_value : fault_of command (line (codes "clean" ∷ codes "--out" ∷ [])) ≡ kinds.InvalidValue ∷ []
unfolding command clap_on_literals
out_without_value = refl

help : fault_of command (line (codes "--help" ∷ [])) ≡ kinds.DisplayHelp ∷ []
unfolding command clap_on_literals
help = refl

version : fault_of command (line (codes "-V" ∷ [])) ≡ kinds.DisplayVersion ∷ []
unfolding command clap_on_literals
version = refl

the_folder : out_folder (line (codes "clean" ∷ codes "--out" ∷ codes "www" ∷ [])) ≡ codes "www"
unfolding command clap_on_literals
the_folder = refl

the_folder_of_words_not_read : out_folder (line (codes "fly" ∷ codes "--out" ∷ codes "www" ∷ [])) ≡ codes "out"
unfolding command clap_on_literals
the_folder_of_words_not_read = refl
