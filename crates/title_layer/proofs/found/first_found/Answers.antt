use Rattle.std.proofs.Common.{Result, Ok, Err, IfOk, ◌≡◌, List, [], ℕ, Option, option_map, ap, sym, ◌∙◌}
use Rattle.std.specs.Option.{option_map_or}
use Rattle.std.specs.declared.alloc.Global.{Global}
use Rattle.std.specs.declared.sync.Arc.{Arc}
use Rattle.dita_doc.specs.Tree.{tree_of}
use Rattle.dita_doc.specs.declared.doc.Doc.{Doc}
use Rattle.dita_doc.specs.declared.stop.NoMemory.{NoMemory}
use Rattle.map_spec.specs.Titles.{first_of_document}
use Rattle.map_spec.specs.Written.{written_in}
use Rattle.readers.specs.Told.{tree_found}
use Rattle.title_layer.proofs.found.first_found.Goals as goal

turned : (x y : List ℕ) (result : Result (List ℕ) NoMemory) → x ≡ y → IfOk result (λ id. id ≡ y)
    → IfOk result (λ id. x ≡ id)
turned x y (Err stop) same is = tt
turned x y (Ok id) same is = same ∙ sym is

abbrev first_if : List ℕ → Option (Arc Doc Global) → List ℕ
first_if name found = option_map_or first_of_document (option_map (written_in name) (tree_found found)) []

pub returns-in-Some : goal.returns-in-Some
returns-in-Some c = λ name. turned _ _ _
    (ap (first_if name) c.in-Some.is
    ∙ ap (λ (doc : Doc). first_of_document (written_in name (tree_of doc.nodes))) (sym c.deref.ensures))
    (c.first_of.ensures name)
