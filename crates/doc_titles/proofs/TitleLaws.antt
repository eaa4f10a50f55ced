-- The title of a document, by those of its topics.
use Rattle.std.specs.Prelude.{◌≡◌, ◌==◌, ◌++◌, ℕ, true, false, List, [], ◌∷◌, Option, Some, None, length, option_map, slice_get}
use Rattle.std.specs.List.{filter_map}
use Rattle.std.proofs.Common.{refl, sym, ap, ◌∙◌, arith}
use Rattle.std.proofs.lemmas.Bool.{eqb-true}
use Rattle.map_spec.specs.Titles.{first_text, title_of_document, title_of_topic, topic_named, topics}
use Rattle.map_spec.specs.Written.{Whole, Written}
use Rattle.doc_titles.specs.Topics.{title_if_there, topic_wanted}
use Rattle.doc_titles.proofs.TopicLaws.{first_topic}

-- The first text with bytes

-- is the first text, if this has bytes
first_full : (text : List ℕ) (texts : List (List ℕ)) → false ≡ (length text == 0) → text ≡ first_text (text ∷ texts)
first_full [] texts full = cc
first_full (b ∷ text) texts full = refl

-- else stands behind it
behind_empty : (text : List ℕ) (texts : List (List ℕ)) → true ≡ (length text == 0)
    → first_text texts ≡ first_text (text ∷ texts)
behind_empty [] texts empty = refl
behind_empty (b ∷ text) texts empty = absurd (omega (arith, eqb-true _ _ (sym empty)))

-- of one text is this text
last_text : (text : List ℕ) → text ≡ first_text (text ∷ [])
last_text [] = refl
last_text (b ∷ text) = refl

-- The titles

-- a topic that is not there counts as one without a title
as_titles : (name : List ℕ) (named first : Option Whole)
    → first_text (title_if_there named ∷ title_if_there first ∷ name ∷ [])
    ≡ first_text (filter_map (option_map title_of_topic) (named ∷ first ∷ []) ++ name ∷ [])
as_titles name None None = refl
as_titles name None (Some first) = refl
as_titles name (Some named) None = skipped (title_of_topic named)
  where
    skipped : (text : List ℕ) → first_text (text ∷ [] ∷ name ∷ []) ≡ first_text (text ∷ name ∷ [])
    skipped [] = refl
    skipped (b ∷ text) = refl
as_titles name (Some named) (Some first) = refl

module _ (name topic named first : List ℕ) (nodes : Written)
    (of_named : named ≡ title_if_there (topic_named topic (topics nodes)))
    (of_first : first ≡ title_if_there (topic_wanted None nodes)) where
  -- the title is the first that is not empty of the two titles and the name
  among : first_text (named ∷ first ∷ name ∷ []) ≡ title_of_document name topic nodes
  among =
      ap (λ text. first_text (text ∷ first ∷ name ∷ [])) of_named
      ∙ ap (λ text. first_text (title_if_there (topic_named topic (topics nodes)) ∷ text ∷ name ∷ []))
      (of_first ∙ ap title_if_there (sym (first_topic nodes)))
      ∙ as_titles name (topic_named topic (topics nodes)) (slice_get (topics nodes) 0)

  -- without a title of the topic named, that of the first topic is the document's
  pub title_of_first : true ≡ (length named == 0) → false ≡ (length first == 0)
      → first ≡ title_of_document name topic nodes
  title_of_first none one =
      first_full first (name ∷ []) one ∙ behind_empty named (first ∷ name ∷ []) none ∙ among

  -- without either, its name is
  pub title_by_name : true ≡ (length named == 0) → true ≡ (length first == 0)
      → name ≡ title_of_document name topic nodes
  title_by_name none empty =
      last_text name ∙ behind_empty first (name ∷ []) empty ∙ behind_empty named (first ∷ name ∷ []) none ∙ among
