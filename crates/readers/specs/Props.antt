-- What ghost fields cite has one proof at most: a list of equations of data, and records of functions to such facts.
use Rattle.std.specs.Prelude.{ℕ, List, [], ◌∷◌, Option}
use Rattle.std.specs.Coded.{Coded, Coded-set, coded_list, coded_option, coded_ℕ, code_by, codes, ×_prop, Unit-prop}
use Rattle.std.proofs.Props.{props}
use Rattle.dita_doc.specs.Tree.{Content, nodes_of, tree_of}
use Rattle.dita_doc.specs.declared.content.KeyAnswer.{KeyAnswer}
use Rattle.dita_doc.specs.declared.content.PushList.{PushList}
use Rattle.dita_doc.specs.declared.doc.Node.{Node}
use Rattle.dita_doc.specs.declared.plan.PagePlan.{PagePlan}
use Rattle.dita_doc.specs.declared.plan.PlanNode.{PlanNode}
use Rattle.dita_doc.specs.declared.question.DocKind.{DocKind}
use Rattle.dita_doc.proofs.TreeLaws.{content_of_nodes}
use Rattle.reader_spec.specs.World.{World}
use Rattle.readers.specs.Documents.{AskedBy, Follows, MayAsk, documents_asked}
use Rattle.readers.specs.Founded.{AreAllowed, Carries, IsFounded, names_asked}
use Rattle.readers.specs.Setting.{Stand}
use Rattle.readers.specs.Told.{Told, document, kind, title, first, key, pushes, page_of, pending, pending_document, Holds, Agrees, Knows}

node_code : Coded Node
node_code = hlevel codes

-- a tree is known by its nodes
content_code : Coded Content
content_code = code_by (List Node) (coded_list node_code) (λ tree. nodes_of tree 0) tree_of
    (λ tree. content_of_nodes tree 0)

kind_code : Coded DocKind
kind_code = hlevel codes

key_code : Coded KeyAnswer
key_code = hlevel codes

push_code : Coded PushList
push_code = hlevel codes

text_code : Coded (List ℕ)
text_code = coded_list coded_ℕ

pub Holds-prop : (world : World) (t : Told) → IsProp (Holds world t)
Holds-prop world (document name tree) = Coded-set (coded_option content_code) _ _
Holds-prop world (kind name answer) = Coded-set kind_code _ _
Holds-prop world (title name topic text) = Coded-set text_code _ _
Holds-prop world (first name id) = Coded-set text_code _ _
Holds-prop world (key nodes scope text answer) = Coded-set key_code _ _
Holds-prop world (pushes documents name answer) = Coded-set push_code _ _
Holds-prop world (page_of pages name context answer) = Coded-set (coded_option coded_ℕ) _ _
Holds-prop world (pending names) = Unit-prop
Holds-prop world (pending_document name) = Unit-prop

pub Agrees-prop : (world : World) (ts : List Told) → IsProp (Agrees world ts)
Agrees-prop world [] = Unit-prop
Agrees-prop world (t ∷ ts) = ×_prop (Holds-prop world t) (Agrees-prop world ts)

tree_set : IsSet (Option Content)
tree_set = Coded-set (coded_option content_code)

nodes_code : Coded (List PlanNode)
nodes_code = hlevel codes

pages_code : Coded (List PagePlan)
pages_code = hlevel codes

nodes_set : IsSet (List PlanNode)
nodes_set = Coded-set nodes_code

pages_set : IsSet (List PagePlan)
pages_set = Coded-set pages_code

pub Stand-set : IsSet Stand
Stand-set = hlevel (props, tree_set, nodes_set, pages_set)

pub AreAllowed-prop : (roots : List (List ℕ)) (ts : List Told) (names : List (List ℕ))
    → IsProp (AreAllowed roots ts names)
AreAllowed-prop roots ts names = hlevel props

pub IsFounded-prop : (roots : List (List ℕ)) (ts : List Told) → IsProp (IsFounded roots ts)
IsFounded-prop roots [] = Unit-prop
IsFounded-prop roots (t ∷ ts) = ×_prop (AreAllowed-prop roots ts (names_asked t)) (IsFounded-prop roots ts)

pub Carries-prop : (below above : List Told) → IsProp (Carries below above)
Carries-prop below above = hlevel (props, Agrees-prop, IsFounded-prop)

pub Knows-prop : (ts : List Told) (P : World → Type 0) → ((world : World) → IsProp (P world)) → IsProp (Knows ts P)
Knows-prop ts P each = hlevel each

pub AskedBy-prop : (rule : Follows) (roots : List (List ℕ)) (ts : List Told) → IsProp (AskedBy rule roots ts)
AskedBy-prop rule roots [] = Unit-prop
AskedBy-prop rule roots (t ∷ ts) = ×_prop (may_prop rule roots ts (documents_asked t)) (AskedBy-prop rule roots ts)
  where
    may_prop : (rule : Follows) (roots : List (List ℕ)) (ts : List Told) (names : List (List ℕ))
        → IsProp (MayAsk rule roots ts names)
    may_prop rule roots ts names = hlevel props
