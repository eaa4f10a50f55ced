-- What a call tells whose nodes stay the same.
use Rattle.std.proofs.Common.{◌≡◌, ◌⊎◌, ℕ, List, ◌∷◌, drop, ap, subst, ◌∙◌}
use Rattle.dita_doc.specs.declared.plan.PlanNode.{PlanNode}
use Rattle.readers.specs.Documents.{AsksOnly, Follows, documents_asked}
use Rattle.readers.specs.Noted.{told_of, told_onto}
use Rattle.readers.specs.Setting.{Setting}
use Rattle.readers.specs.Told.{Told}
use Rattle.readers.specs.declared.questions.Note.{Note}
use Rattle.readers.proofs.FetchLaws.{asks_tried}
use Rattle.readers.proofs.LayerLaws.{told_settled}
use Rattle.key_layer.specs.Ready.{made_for}

module _ (setting : Setting) (start : List Told) (nodes nodes' : List PlanNode) (t : Told) where
  -- a question was put, and has its answer
  pub nodes_settled : (put note : Note) (old between new : List Note) → nodes' ≡ nodes
      → told_of (made_for nodes setting) note ≡ t → between ≡ put ∷ old → new ≡ note ∷ drop 1 between
      → told_onto (made_for nodes' setting) start new ≡ t ∷ told_onto (made_for nodes setting) start old
  nodes_settled put note old between new same tells was is =
      ap (λ ns. told_onto (made_for ns setting) start new) same
      ∙ told_settled (made_for nodes setting) start t put note old between new tells was is

-- a question that asks for these documents was put, or none was
pub nodes_tried : (setting : Setting) (start : List Told) (nodes nodes' : List PlanNode) (follows : Follows)
    (names : List (List ℕ)) (note : Note) (old new : List Note) → nodes' ≡ nodes
    → (new ≡ old) ⊎ (new ≡ note ∷ old) → documents_asked (told_of (made_for nodes' setting) note) ≡ names
    → AsksOnly follows names (told_onto (made_for nodes setting) start old) (told_onto (made_for nodes' setting) start new)
nodes_tried setting start nodes nodes' follows names note old new same either asked =
    subst (λ ns. AsksOnly follows names (told_onto (made_for ns setting) start old)
    (told_onto (made_for nodes' setting) start new)) same
    (asks_tried (made_for nodes' setting) start follows note names old new asked either)
