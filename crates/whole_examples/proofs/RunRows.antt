-- The definition of a run, from the bytes of a script to its pages and its transcript.
use Prim.Native.String.{String}
use Rattle.std.specs.Fmt.{digits}
use Rattle.std.specs.List.{flat_map}
use Rattle.std.specs.Prelude.{◌≡◌, ℕ, Bool, true, false, List, [], ◌∷◌, ◌++◌, Option, None, Some, Ok, map, option_map, refl, codes}
use Rattle.std.specs.Str.{is_utf8, chars}
use Rattle.std.proofs.Common.{ap, ◌∙◌}
use lib.Utf8.{encode}
use Rattle.build_spec.specs.Built.{BuildOutcome, Page, Done}
use Rattle.dita_doc.specs.Desk.{State, Reply, IsStored, Begun, reply, next}
use Rattle.dita_doc.specs.Lines.{line}
use Rattle.dita_doc.specs.Pyx.{document_of}
use Rattle.dita_doc.specs.Request.{Request, Put, Single, Build}
use Rattle.dita_doc.specs.Tree.{End, Element, nodes_of}
use Rattle.map_spec.specs.Included.{map_included}
use Rattle.map_spec.specs.PlanOf.{plan_of}
use Rattle.html_spec.specs.Contents.{contents, items_from}
use Rattle.map_spec.specs.Pushes.{all_pushes}
use Rattle.part_spec.specs.Parts.{clean_build, clean_terms, page_content, page_part}
use Rattle.reader_spec.specs.World.{world_of}
use Rattle.run_spec.specs.Answers.{page_of_terms}
use Rattle.run_spec.specs.CleanRun.{CleanRun, clean_run, run_answered, run_of, run_over, terms_run}
use Rattle.run_spec.specs.declared.status.Status.TheVariants as statuses
use Rattle.script_text.specs.Script.{Step, script_of}

abbrev lines : List String → List ℕ
lines strings = flat_map line (map codes strings)

abbrev in_m : List ℕ
in_m = codes "m.ditamap"

-- a map without references is stored and built
abbrev map_text : List ℕ
map_text = lines ("(map" ∷ "Aclass - map/map " ∷ ")map" ∷ [])

abbrev script : List ℕ
script = codes "1 put m.ditamap" ++ 10 ∷ map_text ++ lines ("." ∷ "1 build m.ditamap" ∷ [])

abbrev put : Request
put = Single (Put in_m map_text)

abbrev steps : List Step
steps = record { session = 1; request = put } ∷ record { session = 1; request = Build in_m None } ∷ []

its_steps : script_of script ≡ Ok steps
unfolding script_of is_utf8 chars encode
its_steps = refl

abbrev stored : State
stored = record {
  name = in_m;
  nodes = nodes_of (Element (codes "map") (record { name = codes "class"; value = codes "- map/map " } ∷ []) 0 1 End End) 0;
  bytes = map_text;
  version = 1;
} ∷ []

map_stored : next [] 0 put ≡ stored
unfolding document_of is_utf8 chars encode
map_stored = refl

its_reply : reply [] 0 put ≡ IsStored 1
unfolding document_of is_utf8 chars encode
its_reply = refl

abbrev page : List ℕ
page = lines ("<!DOCTYPE html>" ∷ "<html><head><meta charset=\"utf-8\"><title>Contents</title></head>" ∷ "<body>"
    ∷ "<nav class=\"toc\"><h1>Contents</h1></nav>" ∷ "</body></html>" ∷ [])

abbrev build : BuildOutcome
build = Done ((codes "index.html", page) ∷ []) []

its_build : clean_build (world_of stored) in_m None ≡ build
unfolding clean_build plan_of map_included page_part all_pushes contents items_from
its_build = refl

-- without topics there are no terms
its_terms : clean_terms (world_of stored) in_m None ≡ None
unfolding clean_terms plan_of map_included page_part page_content all_pushes contents items_from
its_terms = refl

-- the run, with this reply to the put, this build and this page of terms
abbrev run_with : Bool → Reply → BuildOutcome → Option Page → CleanRun
run_with with_terms answer build terms = run_answered with_terms (record {
  entry = record { session = 1; number = 1; request = put; reply = answer };
  built = None;
  terms = None;
}
    ∷ record {
      entry = record { session = 1; number = 2; request = Build in_m None; reply = Begun };
      built = Some build;
      terms = terms;
    }
    ∷ [])

abbrev run : CleanRun
run = record {
  status = statuses.Done;
  pages = (codes "b2/index.html", page) ∷ [];
  output = lines ("dita transcript 1" ∷ "entry 0 1 1 stored 1" ∷ "entry 1 1 2 built 1 0" ∷ "|page index.html bytes 144"
      ∷ "end 2 0 0" ∷ []);
}

shown : (with_terms : Bool) → run_with with_terms (IsStored 1) build None ≡ run
unfolding digits
shown false = refl
shown true = refl

its_run : (with_terms : Bool) → run_over with_terms script ≡ run
unfolding run_over
its_run with_terms =
    let built : State → BuildOutcome = λ state. clean_build (world_of state) in_m None in
    let terms : State → Option Page = λ state. option_map page_of_terms (clean_terms (world_of state) in_m None) in
    ap (run_of with_terms) its_steps
    ∙ ap (λ state. run_with with_terms (reply [] 0 put) (built state) (terms state)) map_stored
    ∙ ap (λ answer. run_with with_terms answer (built stored) (terms stored)) its_reply
    ∙ ap (λ given. run_with with_terms (IsStored 1) given (terms stored)) its_build
    ∙ ap (λ given. run_with with_terms (IsStored 1) build (option_map page_of_terms given)) its_terms ∙ shown with_terms

its_clean_run : clean_run script ≡ run
its_clean_run = its_run false

its_terms_run : terms_run script ≡ run
its_terms_run = its_run true
