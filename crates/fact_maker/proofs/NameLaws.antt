-- The names that the parts of a plan are about are known by the questions of the plan: those of its elements, since the
-- documents in which they stand were asked for.
use Rattle.std.specs.Prelude.{◌≡◌, ◌⊎◌, ◌++◌, ℕ, Bool, true, false, List, [], ◌∷◌, Option, Some, None, IsTrue, map, option_map, slice_get, if◌then◌else◌}
use Rattle.std.specs.Option.{option_and_then}
use Rattle.std.proofs.Common.{refl, sym, subst, ◌∙◌, inl, inr}
use Rattle.std.proofs.Math.Logic.{⊎_elim}
use Rattle.std.proofs.lemmas.Bool.{false≢true, or_cases, or_left}
use Rattle.std.proofs.lemmas.Option.{slice_get-map}
use Rattle.dita_doc.specs.Tree.{Content}
use Rattle.dita_doc.specs.declared.plan.PlanNode.{PlanNode}
use Rattle.dita_doc.specs.declared.question.Answered.{Answered}
use Rattle.dita_doc.specs.declared.question.Answered.TheVariants as answers
use Rattle.dita_doc.specs.declared.question.Asked.{Asked}
use Rattle.dita_doc.specs.declared.question.Question.{Question}
use Rattle.dita_doc.specs.declared.question.Question.TheVariants as questions
use Rattle.fact_judge.specs.Answer.{AreAnswers, IsAnswer}
use Rattle.fact_judge.specs.Asks.{document_in, whole_documents}
use Rattle.fact_judge.specs.Founded.{names_in_question, names_of_answer}
use Rattle.fact_judge.specs.Order.{InOrder, given_by}
use Rattle.map_spec.specs.Cascade.{whole_at}
use Rattle.map_spec.specs.Judged.{has_element}
use Rattle.map_spec.specs.Written.{Whole, element_at, element_in, written_in}
use Rattle.plan_nodes.proofs.ToldLaws.{element_told, was_told, was_told_later}
use Rattle.plan_nodes.specs.Given.{AreTold, IsTold}
use Rattle.reader_spec.specs.World.{World}
use Rattle.readers.proofs.AmongLaws.{among_back, among_either, among_front}
use Rattle.readers.proofs.FoundedLaws.{among_one, root_allowed}
use Rattle.readers.proofs.GrowthLaws.{allowed_before, grows_one, grows_same, grows_trans}
use Rattle.readers.specs.Founded.{Grows, is_allowed, is_among}
use Rattle.readers.specs.Noted.{told_asked, told_in}
use Rattle.readers.specs.Setting.{no_setting}
use Rattle.readers.specs.Told.{Told, document, tree_found}

-- What questions with their answers tell, on top of what was told before

told_grows : (ts : List Told) (asked : List Asked) → Grows ts (told_in no_setting ts asked)
told_grows ts [] = grows_same ts
told_grows ts (one ∷ more) = grows_trans ts (told_asked no_setting one ∷ ts) _
    (grows_one (told_asked no_setting one) ts (told_asked no_setting one ∷ ts) refl)
    (told_grows (told_asked no_setting one ∷ ts) more)

-- what may be asked about behind them is given by an answer, or might be before
allowed_by : (roots : List (List ℕ)) (ts : List Told) (asked : List Asked) (m : List ℕ)
    → IsTrue (is_allowed roots (told_in no_setting ts asked) m)
    → IsTrue (is_among (given_by names_of_answer asked) m) ⊎ IsTrue (is_allowed roots ts m)
allowed_by roots ts [] m allowed = inr allowed
allowed_by roots ts (one ∷ more) m allowed = ⊎_elim
    (λ later. inl (among_back (names_of_answer one) (given_by names_of_answer more) m later))
    (λ before. ⊎_elim (λ here. inl (among_front (names_of_answer one) (given_by names_of_answer more) m here))
    (λ older. inr older) (or_cases (is_among (names_of_answer one) m) (is_allowed roots ts m) before))
    (allowed_by roots (told_asked no_setting one ∷ ts) more m allowed)

pub allowed_known : (roots : List (List ℕ)) (asked : List Asked) (m : List ℕ)
    → IsTrue (is_allowed roots (told_in no_setting [] asked) m)
    → IsTrue (is_among (roots ++ given_by names_of_answer asked) m)
allowed_known roots asked m allowed = ⊎_elim
    (λ given. among_back roots (given_by names_of_answer asked) m given)
    (λ root. among_front roots (given_by names_of_answer asked) m root) (allowed_by roots [] asked m allowed)

-- and the other way round
given_allowed : (roots : List (List ℕ)) (ts : List Told) (asked : List Asked) (m : List ℕ)
    → IsTrue (is_among (given_by names_of_answer asked) m) → IsTrue (is_allowed roots (told_in no_setting ts asked) m)
given_allowed roots ts [] m given = absurd (false≢true given)
given_allowed roots ts (one ∷ more) m given =
    among_either (names_of_answer one) (given_by names_of_answer more) m
    (IsTrue (is_allowed roots (told_in no_setting (told_asked no_setting one ∷ ts) more) m))
    (λ here. allowed_before roots (told_asked no_setting one ∷ ts) _ m
    (told_grows (told_asked no_setting one ∷ ts) more) (or_left (is_among (names_of_answer one) m) _ here))
    (λ later. given_allowed roots (told_asked no_setting one ∷ ts) more m later) given

known_allowed : (roots : List (List ℕ)) (asked : List Asked) (m : List ℕ)
    → IsTrue (is_among (roots ++ given_by names_of_answer asked) m)
    → IsTrue (is_allowed roots (told_in no_setting [] asked) m)
known_allowed roots asked m among = among_either roots (given_by names_of_answer asked) m
    (IsTrue (is_allowed roots (told_in no_setting [] asked) m)) (root_allowed roots (told_in no_setting [] asked) m)
    (given_allowed roots [] asked m) among

-- Each document that was asked for was known then

document_named : (question : Question) (m : List ℕ) → IsTrue (is_among (document_in question) m)
    → IsTrue (is_among (names_in_question [] question) m)
document_named (questions.Document name) m among = among
document_named (questions.Kind name) m among = absurd (false≢true among)
document_named (questions.Title name topic) m among = absurd (false≢true among)
document_named (questions.First name) m among = absurd (false≢true among)
document_named (questions.Key scope text) m among = absurd (false≢true among)
document_named (questions.Pushes name) m among = absurd (false≢true among)
document_named (questions.PageOf name context) m among = absurd (false≢true among)

among_more : (known given rest : List (List ℕ)) (m : List ℕ) → IsTrue (is_among ((known ++ given) ++ rest) m)
    → IsTrue (is_among (known ++ (given ++ rest)) m)
among_more known given rest m among = among_either (known ++ given) rest m (IsTrue (is_among (known ++ (given ++ rest)) m))
    (λ first. among_either known given m (IsTrue (is_among (known ++ (given ++ rest)) m))
    (λ here. among_front known (given ++ rest) m here)
    (λ here. among_back known (given ++ rest) m (among_front given rest m here)) first)
    (λ last. among_back known (given ++ rest) m (among_back given rest m last)) among

pub asked_known : (known : List (List ℕ)) (asked : List Asked)
    → InOrder (names_in_question []) names_of_answer known asked → (m : List ℕ)
    → IsTrue (is_among (whole_documents asked) m) → IsTrue (is_among (known ++ given_by names_of_answer asked) m)
asked_known known [] founded m among = absurd (false≢true among)
asked_known known (one ∷ more) founded m among =
    among_either (document_in one.question) (whole_documents more) m
    (IsTrue (is_among (known ++ (names_of_answer one ++ given_by names_of_answer more)) m))
    (λ here. among_front known (names_of_answer one ++ given_by names_of_answer more) m
    (founded.0.each m (document_named one.question m here)))
    (λ later. among_more known (names_of_answer one) (given_by names_of_answer more) m
    (asked_known (known ++ names_of_answer one) more founded.1 m later)) among

pub asked_allowed : (roots : List (List ℕ)) (asked : List Asked)
    → InOrder (names_in_question []) names_of_answer roots asked → (m : List ℕ)
    → IsTrue (is_among (whole_documents asked) m) → IsTrue (is_allowed roots (told_in no_setting [] asked) m)
asked_allowed roots asked founded m among = known_allowed roots asked m (asked_known roots asked founded m among)

-- A document that was asked for was told, as it is in a world that gives the answers

record WasFound (world : World) (told : List Told) (name : List ℕ) : Type 0 where
  tree : Option Content
  old : List Told
  grows : Grows (document name tree ∷ old) told
  is : world name ≡ tree

found_by : (world : World) (ts : List Told) (question : Question) (answered : Answered) (more : List Asked) (m : List ℕ)
    → IsTrue (is_among (document_in question) m) → IsAnswer world None question answered
    → WasFound world (told_in no_setting ts (record { question = question; answered = answered } ∷ more)) m
found_by world ts (questions.Document name) (answers.Document found) more m among is =
    subst (WasFound world (told_in no_setting (document name (tree_found found) ∷ ts) more)) (among_one name m among)
    (record {
      tree = tree_found found;
      old = ts;
      grows = told_grows (document name (tree_found found) ∷ ts) more;
      is = is;
    })
found_by world ts (questions.Document name) answered more m among is = absurd is
found_by world ts (questions.Kind name) answered more m among is = absurd (false≢true among)
found_by world ts (questions.Title name topic) answered more m among is = absurd (false≢true among)
found_by world ts (questions.First name) answered more m among is = absurd (false≢true among)
found_by world ts (questions.Key scope text) answered more m among is = absurd (false≢true among)
found_by world ts (questions.Pushes name) answered more m among is = absurd (false≢true among)
found_by world ts (questions.PageOf name context) answered more m among is = absurd (false≢true among)

was_found : (world : World) (ts : List Told) (asked : List Asked) → AreAnswers world None asked → (m : List ℕ)
    → IsTrue (is_among (whole_documents asked) m) → WasFound world (told_in no_setting ts asked) m
was_found world ts [] are m among = absurd (false≢true among)
was_found world ts (one ∷ more) are m among = among_either (document_in one.question) (whole_documents more) m
    (WasFound world (told_in no_setting ts (one ∷ more)) m)
    (λ here. found_by world ts one.question one.answered more m here are.0)
    (λ later. was_found world (told_asked no_setting one ∷ ts) more are.1 m later) among

-- So its elements were told

told_by_tree : (world : World) (told : List Told) (name : List ℕ) (place : ℕ) (whole : Whole) (found tree : Option Content)
    (old : List Told) → Grows (document name tree ∷ old) told → found ≡ tree
    → option_and_then (λ nodes. element_at nodes place) (option_map (written_in name) found) ≡ Some whole
    → IsTold told whole.0
told_by_tree world told name place whole None tree old grows same is = cc
told_by_tree world told name place whole (Some content) tree old grows same is =
    let t : Told = document name (Some content) in
    element_told told name content place whole (was_told_later (t ∷ old) told t
    (subst (λ (t : Option Content). Grows (document name t ∷ old) told) (sym same) grows)
    (was_told t old (t ∷ old) refl)) is

node_told : (world : World) (told : List Told) (name : List ℕ) (place : ℕ) (whole : Whole) → WasFound world told name
    → element_in world name place ≡ Some whole → IsTold told whole.0
node_told world told name place whole was is =
    told_by_tree world told name place whole (world name) was.tree was.old was.grows was.is is

-- an element that was found for a node is that at its place
element_by : (world : World) (node : PlanNode) (test : Bool) (whole : Whole)
    → (if test then element_in world node.doc node.place else None) ≡ Some whole
    → element_in world node.doc node.place ≡ Some whole
element_by world node true whole is = is
element_by world node false whole is = cc

at_node : (world : World) (found : Option PlanNode) (whole : Whole)
    → option_map (whole_at world) found ≡ Some (Some whole)
    → (node : PlanNode) × (found ≡ Some node) × (whole_at world node ≡ Some whole)
at_node world None whole is = cc
at_node world (Some node) whole is = let same : whole_at world node ≡ Some whole = cc in (node, refl, same)

-- the elements of nodes, if the documents in which they stand were asked for
pub nodes_told : (world : World) (asked : List Asked) → AreAnswers world None asked → (nodes : List PlanNode)
    → ((at : ℕ) (node : PlanNode) → slice_get nodes at ≡ Some node → IsTrue (is_among (whole_documents asked) node.doc))
    → AreTold (told_in no_setting [] asked) (map (whole_at world) nodes)
nodes_told world asked are nodes planned = record {
  each = λ at whole is.
      let (node, there, own) = at_node world (slice_get nodes at) whole (sym (slice_get-map (whole_at world) nodes at) ∙ is) in
      node_told world (told_in no_setting [] asked) node.doc node.place whole
      (was_found world [] asked are node.doc (planned at node there))
      (element_by world node (has_element node.kind) whole own);
}
