-- For which documents as a whole the questions of a plan ask: what is said of them by the rule of a plan's evaluator is
-- what facts say. And none of them is about a key.
use Rattle.std.proofs.Common.{◌≡◌, ◌||◌, ◌++◌, ℕ, zero, suc, Bool, true, false, List, [], ◌∷◌, Option, Some, None, IsTrue, refl, subst, if◌then◌else◌}
use Rattle.std.proofs.Math.Logic.{⊎_elim}
use Rattle.std.proofs.lemmas.Bool.{false≢true, or_cases}
use Rattle.std.proofs.lemmas.Grind.{flat_map-append}
use Rattle.std.specs.List.{flat_map}
use Rattle.std.specs.Option.{option_map_or}
use Rattle.std.specs.Prelude.{codes, slice_get}
use Rattle.branch_copies.specs.BranchRead.{documents_named, targets_of}
use Rattle.branch_copies.specs.Ditavalrefs.{ref_targets}
use Rattle.build_plan.specs.Documents.{plan_targets}
use Rattle.dita_doc.specs.Tree.{Content}
use Rattle.dita_doc.specs.declared.question.Answered.{Answered}
use Rattle.dita_doc.specs.declared.question.Answered.TheVariants as answers
use Rattle.dita_doc.specs.declared.question.Asked.{Asked}
use Rattle.dita_doc.specs.declared.question.Question.{Question}
use Rattle.dita_doc.specs.declared.question.Question.TheVariants as questions
use Rattle.fact_judge.specs.Answer.{AreOfKind, IsOfPlanKind}
use Rattle.fact_judge.specs.Asks.{AskNoKey, IsNoKey, document_in, is_ditavalref_element, is_map_reference, named_by_href, named_document, planned_by, planned_in}
use Rattle.fact_judge.specs.Order.{InOrder}
use Rattle.map_expand.specs.Telling.{documents_of, element_targets, href_targets, targets_in}
use Rattle.map_spec.specs.Elements.{attribute}
use Rattle.map_spec.specs.Target.{Named, Document, Elsewhere, Unreadable, named_of}
use Rattle.map_spec.specs.Written.{Element, Whole, Written, End, Chars, Node, elements_below, written_in}
use Rattle.readers.proofs.AmongLaws.{among_back, among_either, among_front}
use Rattle.readers.specs.Documents.{AskedBy, Covers, Follows, MayAsk, documents_asked, may_ask, of_documents}
use Rattle.readers.specs.Founded.{AreAmong, is_among}
use Rattle.readers.specs.Named.{given_in}
use Rattle.readers.specs.Noted.{told_asked, told_by, told_in}
use Rattle.readers.specs.Setting.{no_setting}
use Rattle.readers.specs.Told as told_spec
use Rattle.readers.specs.Told.{Told}

-- The maps and the DITAVALs that a plan asks for are those that elements name, each by itself

among_nothing : (m : List ℕ) (P : Type 0) → IsTrue (is_among [] m) → P
among_nothing m P among = absurd (false≢true among)

same_documents : (named : Named) → documents_of named ≡ named_document named
same_documents (Document name) = refl
same_documents Elsewhere = refl
same_documents Unreadable = refl

same_named : (named : Named) → documents_named named ≡ named_document named
same_named (Document name) = refl
same_named Elsewhere = refl
same_named Unreadable = refl

map_named : (element : Element) (href : Option (List ℕ))
    → href_targets element href ≡ option_map_or (λ h. named_document (named_of element h)) href []
map_named element None = refl
map_named element (Some href) = same_documents (named_of element href)

ref_named : (element : Element) (href : Option (List ℕ))
    → option_map_or (λ h. documents_named (named_of element h)) href []
    ≡ option_map_or (λ h. named_document (named_of element h)) href []
ref_named element None = refl
ref_named element (Some href) = same_named (named_of element href)

-- what is named for one reason is named for one of two
for_first : (one other : Bool) (names same : List (List ℕ)) (m : List ℕ) → names ≡ same
    → IsTrue (is_among (if one then names else []) m) → IsTrue (is_among (if one || other then same else []) m)
for_first true other names same m is among = subst (λ l. IsTrue (is_among l m)) is among
for_first false other names same m is among = absurd (false≢true among)

for_second : (one other : Bool) (names same : List (List ℕ)) (m : List ℕ) → names ≡ same
    → IsTrue (is_among (if other then names else []) m) → IsTrue (is_among (if one || other then same else []) m)
for_second true true names same m is among = subst (λ l. IsTrue (is_among l m)) is among
for_second false true names same m is among = subst (λ l. IsTrue (is_among l m)) is among
for_second one false names same m is among = absurd (false≢true among)

map_planned : (element : Element) (m : List ℕ) → IsTrue (is_among (element_targets element) m)
    → IsTrue (is_among (planned_by element) m)
map_planned element m among = for_first (is_map_reference element) (is_ditavalref_element element)
    (href_targets element (attribute (codes "href") element)) (named_by_href element) m
    (map_named element (attribute (codes "href") element)) among

ref_planned : (element : Element) (m : List ℕ) → IsTrue (is_among (ref_targets element) m)
    → IsTrue (is_among (planned_by element) m)
ref_planned element m among = for_second (is_map_reference element) (is_ditavalref_element element)
    (targets_of element) (named_by_href element) m (ref_named element (attribute (codes "href") element)) among

-- among three lists, if among three others
among_three : (a b c x y z : List (List ℕ)) (m : List ℕ) → (IsTrue (is_among a m) → IsTrue (is_among x m))
    → (IsTrue (is_among b m) → IsTrue (is_among y m)) → (IsTrue (is_among c m) → IsTrue (is_among z m))
    → IsTrue (is_among (a ++ (b ++ c)) m) → IsTrue (is_among (x ++ (y ++ z)) m)
among_three a b c x y z m first second third among =
    among_either a (b ++ c) m (IsTrue (is_among (x ++ (y ++ z)) m)) (λ here. among_front x (y ++ z) m (first here))
    (λ behind. among_back x (y ++ z) m (among_either b c m (IsTrue (is_among (y ++ z) m))
    (λ here. among_front y z m (second here)) (λ here. among_back y z m (third here)) behind)) among

maps_planned : (nodes : Written) (m : List ℕ) → IsTrue (is_among (targets_in nodes) m)
    → IsTrue (is_among (given_in planned_by nodes) m)
maps_planned End m among = among
maps_planned (Chars text doc rest) m among = maps_planned rest m among
maps_planned (Node element inside rest) m among = among_three (element_targets element) (targets_in inside)
    (targets_in rest) (planned_by element) (given_in planned_by inside) (given_in planned_by rest) m
    (map_planned element m) (maps_planned inside m) (maps_planned rest m) among

abbrev refs_below : Written → List (List ℕ)
refs_below nodes = flat_map (λ (whole : Whole). ref_targets whole.0) (elements_below nodes)

refs_planned : (nodes : Written) (m : List ℕ) → IsTrue (is_among (refs_below nodes) m)
    → IsTrue (is_among (given_in planned_by nodes) m)
refs_planned End m among = among
refs_planned (Chars text doc rest) m among = refs_planned rest m among
refs_planned (Node element inside rest) m among = among_three (ref_targets element) (refs_below inside)
    (refs_below rest) (planned_by element) (given_in planned_by inside) (given_in planned_by rest) m
    (ref_planned element m) (refs_planned inside m) (refs_planned rest m)
    (subst (λ l. IsTrue (is_among (ref_targets element ++ l) m))
    (flat_map-append (λ (whole : Whole). ref_targets whole.0) (elements_below inside) (elements_below rest)) among)

-- what follows for a plan, said of each element
abbrev pub plan_follows : Follows
plan_follows = of_documents planned_by

document_covered : (name : List ℕ) (tree : Option Content) (m : List ℕ)
    → IsTrue (is_among (plan_targets (told_spec.document name tree)) m)
    → IsTrue (is_among (plan_follows (told_spec.document name tree)) m)
document_covered name None m among = among
document_covered name (Some tree) m among =
    among_either (targets_in (written_in name tree)) (refs_below (written_in name tree)) m
    (IsTrue (is_among (given_in planned_by (written_in name tree)) m))
    (maps_planned (written_in name tree) m) (refs_planned (written_in name tree) m) among

told_covered : (t : Told) (m : List ℕ) → IsTrue (is_among (plan_targets t) m) → IsTrue (is_among (plan_follows t) m)
told_covered (told_spec.document name tree) m among = document_covered name tree m among
told_covered (told_spec.kind name answer) m among = among
told_covered (told_spec.title name topic text) m among = among
told_covered (told_spec.first name id) m among = among
told_covered (told_spec.key nodes scope text answer) m among = among
told_covered (told_spec.pushes documents name answer) m among = among
told_covered (told_spec.page_of pages name context answer) m among = among
told_covered (told_spec.pending names) m among = among
told_covered (told_spec.pending_document name) m among = among

pub covers_plan : Covers plan_follows plan_targets
covers_plan = record { each = told_covered }

-- Questions for documents that might be asked for are in order

abbrev Known : List (List ℕ) → List (List ℕ) → List Told → Type 0
Known known roots ts = (m : List ℕ) → IsTrue (may_ask plan_follows roots ts m) → IsTrue (is_among known m)

-- the document of one question
document_known : (known roots : List (List ℕ)) (ts : List Told) (question : Question) (answered : Answered)
    → Known known roots ts → IsOfPlanKind question answered
    → MayAsk plan_follows roots ts (documents_asked (told_by no_setting question answered))
    → AreAmong (document_in question) known
document_known known roots ts (questions.Document name) (answers.Document found) is kind may =
    record { each = λ m among. is m (may.each m among) }
document_known known roots ts (questions.Kind name) (answers.Kind answer) is kind may =
    record { each = λ m among. absurd (false≢true among) }
document_known known roots ts (questions.Title name topic) (answers.Title text) is kind may =
    record { each = λ m among. absurd (false≢true among) }
document_known known roots ts (questions.First name) (answers.First id) is kind may =
    record { each = λ m among. absurd (false≢true among) }
document_known known roots ts question answered is kind may = absurd kind

-- what its answer gives
given_same : (question : Question) (answered : Answered) → IsOfPlanKind question answered
    → plan_follows (told_by no_setting question answered)
    ≡ planned_in (record { question = question; answered = answered })
given_same (questions.Document name) (answers.Document found) kind = refl
given_same (questions.Kind name) (answers.Kind answer) kind = refl
given_same (questions.Title name topic) (answers.Title text) kind = refl
given_same (questions.First name) (answers.First id) kind = refl
given_same question answered kind = absurd kind

known_more : (known roots : List (List ℕ)) (ts : List Told) (one : Asked) → IsOfPlanKind one.question one.answered
    → Known known roots ts → Known (known ++ planned_in one) roots (told_asked no_setting one ∷ ts)
known_more known roots ts one kind is m may = ⊎_elim
    (λ given. among_back known (planned_in one) m
    (subst (λ names. IsTrue (is_among names m)) (given_same one.question one.answered kind) given))
    (λ older. among_front known (planned_in one) m (is m older))
    (or_cases (is_among (plan_follows (told_asked no_setting one)) m) (may_ask plan_follows roots ts m) may)

pub asks_in_order : (known roots : List (List ℕ)) (ts : List Told) (asked : List Asked) → Known known roots ts
    → AreOfKind IsOfPlanKind asked → AskedBy plan_follows roots (told_in no_setting ts asked)
    → InOrder document_in planned_in known asked × AskedBy plan_follows roots ts
asks_in_order known roots ts [] is kinds may = (tt, may)
asks_in_order known roots ts (one ∷ more) is kinds may =
    let rest : InOrder document_in planned_in (known ++ planned_in one) more
    × AskedBy plan_follows roots (told_asked no_setting one ∷ ts) =
    asks_in_order (known ++ planned_in one) roots (told_asked no_setting one ∷ ts) more
    (known_more known roots ts one kinds.0 is) kinds.1 may in
    ((document_known known roots ts one.question one.answered is kinds.0 rest.1.0, rest.0), rest.1.1)

-- None is about a key

no_key : (question : Question) (answered : Answered) → IsOfPlanKind question answered → IsNoKey question
no_key (questions.Document name) answered kind = tt
no_key (questions.Kind name) answered kind = tt
no_key (questions.Title name topic) answered kind = tt
no_key (questions.First name) answered kind = tt
no_key (questions.Key scope text) answered kind = absurd kind
no_key (questions.Pushes name) answered kind = tt
no_key (questions.PageOf name context) answered kind = tt

no_keys : (asked : List Asked) → AreOfKind IsOfPlanKind asked → (at : ℕ) (one : Asked)
    → slice_get asked at ≡ Some one → IsNoKey one.question
no_keys [] kinds zero one is = cc
no_keys [] kinds (suc at) one is = cc
no_keys (first ∷ more) kinds zero one is =
    let same : first ≡ one = cc in
    subst (λ (o : Asked). IsNoKey o.question) same (no_key first.question first.answered kinds.0)
no_keys (first ∷ more) kinds (suc at) one is = no_keys more kinds.1 at one is

pub ask_no_key : (asked : List Asked) → AreOfKind IsOfPlanKind asked → AskNoKey asked
ask_no_key asked kinds = record { each = λ one stands. no_keys asked kinds stands.0 one stands.1 }
