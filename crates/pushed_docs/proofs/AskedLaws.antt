-- What stays true where a document was asked for, and how a question tells the pushes of a world.
use Rattle.std.specs.Arc.{arc_value}
use Rattle.std.specs.declared.alloc.Global.{Global}
use Rattle.std.specs.declared.sync.Arc.{Arc}
use Rattle.std.specs.Prelude.{◌≡◌, ℕ, List, [], ◌∷◌, Option, Some}
use Rattle.std.proofs.Common.{sym, ap, subst, ◌∙◌}
use Rattle.conref_push.specs.Into.{docs_of, named_doc}
use Rattle.dita_doc.specs.declared.content.PushList.{PushList}
use Rattle.dita_doc.specs.declared.doc.Doc.{Doc}
use Rattle.map_spec.specs.Pushes.{pushes_into}
use Rattle.reader_spec.specs.World.{World}
use Rattle.readers.specs.Documents.{AsksOnly, nothing, of_pushes}
use Rattle.readers.specs.Founded.{Grows, StaysFounded}
use Rattle.readers.specs.Named.{named_found}
use Rattle.readers.specs.Noted.{told_of}
use Rattle.readers.specs.Only.{TellsOnly, is_document_of, is_of_pushed}
use Rattle.readers.specs.Setting.{Setting}
use Rattle.dita_doc.specs.Tree.{Content}
use Rattle.readers.specs.Told.{Told, Agrees, document, pushes}
use Rattle.readers.specs.declared.questions.Note.{Note}
use Rattle.readers.proofs.DocumentLaws.{asks_one}
use Rattle.readers.proofs.FoundedLaws.{among_first}
use Rattle.readers.proofs.GrowthLaws.{agrees_before, told_answer}
use Rattle.readers.proofs.OnlyLaws.{only_after, pushed_document, pushed_pushes, pushed_sources}

-- nothing was told since
module _ (name : List ℕ) (old between new : List Told) where
  pub asked_founded : StaysFounded (name ∷ []) old between → new ≡ between → StaysFounded (name ∷ []) old new
  asked_founded stays same = subst (StaysFounded (name ∷ []) old) (sym same) stays

  pub asked_asks : AsksOnly nothing (name ∷ []) old between → new ≡ between → AsksOnly of_pushes (name ∷ []) old new
  asked_asks asks same = subst (AsksOnly of_pushes (name ∷ []) old) (sym same)
      (asks_one of_pushes name (name ∷ []) old between (among_first name []) asks)

  pub asked_grows : Grows old between → new ≡ between → Grows old new
  asked_grows grows same = subst (Grows old) (sym same) grows

-- a question that tells the pushes of a world tells the same list
pub pushes_told : (setting : Setting) (world : World) (name : List ℕ) (note : Note) (list : PushList)
    → list ≡ pushes_into world setting.documents name
    → told_of setting note ≡ pushes setting.documents name (pushes_into world setting.documents name)
    → told_of setting note ≡ pushes setting.documents name list
pushes_told setting world name note list is told = told ∙ ap (pushes setting.documents name) (sym is)

-- two worlds have the same pushes if both agree with what was told of them
pub pushes_alike : (own world : World) (documents : List (List ℕ)) (name : List ℕ) (list : PushList)
    (old new : List Told) → new ≡ pushes documents name list ∷ old → Agrees own new → Agrees world new
    → pushes_into world documents name ≡ pushes_into own documents name
pushes_alike own world documents name list old new told here there =
    told_answer world (pushes documents name list) old new told there
    ∙ sym (told_answer own (pushes documents name list) old new told here)

-- a document that was made is shared
pub made_named : (found : Option Doc) (made : Doc) (stored : Arc Doc Global) → found ≡ Some made
    → arc_value stored ≡ made → named_found (Some stored) ≡ named_doc found
made_named found made stored is same = ap (λ (doc : Doc). named_doc (Some doc)) same ∙ ap named_doc (sym is)

-- what is told of a document with the pushes into it

module _ (world : World) (documents : List (List ℕ)) (name : List ℕ) where
  -- the pushes, and then the document and those that they come from
  pub touched_only : (list : PushList) (old between new : List Told) → between ≡ pushes documents name list ∷ old
      → Grows between new → Agrees world new → TellsOnly (is_document_of (docs_of name list.pushes)) between new
      → TellsOnly (is_of_pushed world documents name) old new
  touched_only list old between new told grows agrees only =
      only_after (is_of_pushed world documents name) old between new
      (pushed_pushes world documents name list old between told)
      (pushed_sources world documents name list between new
      (told_answer world (pushes documents name list) old between told (agrees_before world between new grows agrees)) only)

  -- the document, and then more of the kind
  pub found_only : (tree : Option Content) (old seen between new : List Told) → seen ≡ document name tree ∷ old
      → between ≡ seen → TellsOnly (is_of_pushed world documents name) between new
      → TellsOnly (is_of_pushed world documents name) old new
  found_only tree old seen between new told same only = only_after (is_of_pushed world documents name) old between new
      (pushed_document world documents name tree old between (same ∙ told)) only
