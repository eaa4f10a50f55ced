-- What the command makes of words of which some are not known.
use Rattle.std.specs.Prelude.{◌≡◌, ◌≢◌, ◌&&◌, ◌↔◌, Bool, IsTrue, List, [], ◌∷◌, length, nat_lt, if◌then◌else◌, codes, true, false, refl}
use Rattle.std.proofs.Common.{◌∙◌, sym, ap, arith, true≢false}
use Rattle.std.proofs.lemmas.Bool.Decides.{nat_tests}
use Rattle.clap.specs.Faults.{fault_of}
use Rattle.clap.specs.Kinds.{Kinds}
use Rattle.clap.specs.ValueTests.{is_unsigned_in}
use Rattle.clap.specs.Walk.{Text}
use Rattle.clap.proofs.OnLiterals.{clap_on_literals}
use Rattle.command_line.specs.Command.{command, default_folder, is_read, out_folder}
use Rattle.command_line.proofs.FaultLaws.{is_clear, takes_agrees}
use Rattle.command_laws.specs.Words.{ClosesOptions, NamesFolder, StandsOnce, TakesNumber, clean_with, set}

-- the value passes, and after it everything does
then_all : (passes : Bool) → ((((passes && true) && true) && true) && true) ≡ passes
then_all true = refl
then_all false = refl

pub workers : TakesNumber (codes "workers") 1 16
unfolding command clap_on_literals
workers program value = then_all (is_unsigned_in 1 16 value)

pub number : TakesNumber (codes "number") 0 9223372036854775807
unfolding command clap_on_literals
number program value = then_all (is_unsigned_in 0 9223372036854775807 value)

pub topics : TakesNumber (codes "topics") 2 4000
unfolding command clap_on_literals
topics program value = then_all (is_unsigned_in 2 4000 value)

pub port : TakesNumber (codes "port") 0 65535
unfolding command clap_on_literals
port program value = then_all (is_unsigned_in 0 65535 value)

pub connections : TakesNumber (codes "connections") 1 1024
unfolding command clap_on_literals
connections program value = then_all (is_unsigned_in 1 1024 value)

-- whatever the first value is, the second is refused
never : (passes : Bool) → ((((passes && true) && true) && false) && true) ≡ false
never true = refl
never false = refl

pub workers_once : StandsOnce (codes "workers")
unfolding command clap_on_literals
workers_once program first second = never (is_unsigned_in 1 16 first)

pub number_once : StandsOnce (codes "number")
unfolding command clap_on_literals
number_once program first second = never (is_unsigned_in 0 9223372036854775807 first)

pub topics_once : StandsOnce (codes "topics")
unfolding command clap_on_literals
topics_once program first second = never (is_unsigned_in 2 4000 first)

pub port_once : StandsOnce (codes "port")
unfolding command clap_on_literals
port_once program first second = never (is_unsigned_in 0 65535 first)

pub connections_once : StandsOnce (codes "connections")
unfolding command clap_on_literals
connections_once program first second = never (is_unsigned_in 1 1024 first)

pub out_once : StandsOnce (codes "out")
unfolding command clap_on_literals
out_once program first second = never (nat_lt 0 (length first))

pub closes : ClosesOptions
unfolding command clap_on_literals
closes program word = refl

-- a text that is not empty is read as the folder, and it is the folder
folder_read : (program folder : Text) → is_read (clean_with program (set (codes "out") folder ∷ [])) ≡ nat_lt 0 (length folder)
unfolding command clap_on_literals
folder_read program folder = then_all (nat_lt 0 (length folder))

has_bytes : (folder : Text) → folder ≢ [] → nat_lt 0 (length folder) ≡ true
has_bytes [] not_empty = absurd (not_empty refl)
has_bytes (first ∷ rest) not_empty = grind (arith, nat_tests)

folder_given : (program folder : Text) → is_read (clean_with program (set (codes "out") folder ∷ [])) ≡ true
    → out_folder (clean_with program (set (codes "out") folder ∷ [])) ≡ folder
unfolding command clap_on_literals
folder_given program folder read = ap (λ (is : Bool). if is then folder else default_folder) read

pub names_folder : NamesFolder
names_folder program folder not_empty =
    let read = folder_read program folder ∙ has_bytes folder not_empty in
    (read, folder_given program folder read)

-- no kind of error is left
clear_is_none : (kinds : Kinds) → is_clear kinds ≡ true → kinds ≡ []
clear_is_none [] clear = refl
clear_is_none (kind ∷ kinds) clear = absurd (true≢false (sym clear))

agrees : (words : List Text) → is_clear (fault_of command words) ≡ is_read words
unfolding command clap_on_literals
agrees words = takes_agrees command words refl refl refl refl

pub no_fault : (words : List Text) → IsTrue (is_read words) ↔ (fault_of command words ≡ [])
no_fault words = (
  λ read. clear_is_none _ (agrees words ∙ read),
  λ none. sym (agrees words) ∙ ap is_clear none,
)
