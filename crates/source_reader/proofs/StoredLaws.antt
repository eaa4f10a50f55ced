-- A reader over sources: the first topic and the title of what is stored, and that what its notes tell is so there.
use Rattle.std.proofs.Common.{◌≡◌, ℕ, List, [], ◌∷◌, ◌⊎◌, Option, Some, None, Result, Ok, Err, IfOk, option_map, sym, ap, subst, refl, ◌∙◌}
use Rattle.std.proofs.Math.Logic.{⊎_elim}
use Rattle.std.specs.Option.{option_map_or}
use Rattle.dita_doc.specs.Desk.{State, Stored, stored_under}
use Rattle.dita_doc.specs.Sources.{version_and_nodes}
use Rattle.dita_doc.specs.Tree.{tree_of}
use Rattle.dita_doc.specs.declared.doc.Node.{Node}
use Rattle.dita_doc.specs.declared.stop.NoMemory.{NoMemory}
use Rattle.map_spec.specs.Titles.{first_in, first_of_document, title_in, title_of_document}
use Rattle.map_spec.specs.Written.{written_in}
use Rattle.reader_spec.specs.World.{stored_tree, world_of}
use Rattle.readers.specs.Noted.{told_of}
use Rattle.readers.specs.Setting.{no_setting}
use Rattle.readers.specs.Told.{Told, Holds}
use Rattle.readers.specs.declared.questions.Note.{Note}
use Rattle.source_reader.specs.Stored.{AreAnswers}

stored_there : (found : Option Stored) (version : ℕ) (nodes : List Node)
    → Some (version, nodes) ≡ option_map version_and_nodes found → option_map stored_tree found ≡ Some (tree_of nodes)
stored_there None version nodes is = cc
stored_there (Some stored) version nodes is =
    ap (λ (o : Option (ℕ × List Node)). option_map (λ (p : ℕ × List Node). tree_of p.1) o) (sym is)

-- the id of the first topic of the document that stands there
pub first_there : (state : State) (name : List ℕ) (version : ℕ) (nodes : List Node) (result : Result (List ℕ) NoMemory)
    → Some (version, nodes) ≡ option_map version_and_nodes (stored_under state name)
    → IfOk result (λ id. id ≡ first_of_document (written_in name (tree_of nodes)))
    → IfOk result (λ id. first_in (world_of state) name ≡ id)
first_there state name version nodes (Err stop) there is = tt
first_there state name version nodes (Ok id) there is =
    ap (λ tree. option_map_or first_of_document (option_map (written_in name) tree) [])
    (stored_there (stored_under state name) version nodes there) ∙ sym is

nothing_stored : (found : Option Stored) → None ≡ option_map version_and_nodes found → option_map stored_tree found ≡ None
nothing_stored None is = refl
nothing_stored (Some stored) is = cc

-- a document that does not stand there has its name
pub title_missing : (state : State) (name topic text : List ℕ)
    → None ≡ option_map version_and_nodes (stored_under state name) → text ≡ name
    → title_in (world_of state) name topic ≡ text
title_missing state name topic text none is =
    ap (λ tree. option_map_or (title_of_document name topic) (option_map (written_in name) tree) name)
    (nothing_stored (stored_under state name) none) ∙ sym is

-- a question was put with its answer, if there was memory, and what is stored stayed
pub answers_put : (t : Told) (state state' : State) (note : Note) (old new : List Note) → state' ≡ state
    → AreAnswers state old → told_of no_setting note ≡ t → (new ≡ old) ⊎ (new ≡ note ∷ old)
    → Holds (world_of state) t → AreAnswers state' new
answers_put t state state' note old new same answers tells either holds =
    subst (λ stored. AreAnswers stored new) (sym same) (⊎_elim
    (λ is. subst (AreAnswers state) (sym is) answers)
    (λ is. subst (AreAnswers state) (sym is) (subst (Holds (world_of state)) (sym tells) holds, answers)) either)
