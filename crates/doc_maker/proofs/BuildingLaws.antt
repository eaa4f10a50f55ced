-- Content with a hole: what is put one after the other, and where hrefs were written.
use Rattle.std.specs.Prelude.{◌≡◌, ◌+◌, ◌<◌, ℕ, Bool, true, false, List, if◌then◌else◌}
use Rattle.std.proofs.Common.{refl, sym, ◌∙◌, ap, ap₂, arith}
use Rattle.dita_doc.specs.Tree as tree
use Rattle.dita_doc.specs.Tree.{Content, has_href}
use Rattle.dita_doc.specs.declared.doc.Attribute.{Attribute}
use Rattle.map_spec.specs.Written.{Element, Written, End, Chars, Node, side_by_side, written_in}
use Rattle.doc_maker.specs.Building.{Building, Top, Within, behind, closed, depth, filled, href_written, nothing, opened, own_hrefs, whole}

-- nothing more behind nodes
pub beside_end : (nodes : Written) → side_by_side nodes End ≡ nodes
beside_end End = refl
beside_end (Chars text doc rest) = ap (Chars text doc) (beside_end rest)
beside_end (Node element inside rest) = ap (Node element inside) (beside_end rest)

pub beside_beside : (nodes more others : Written)
    → side_by_side (side_by_side nodes more) others ≡ side_by_side nodes (side_by_side more others)
beside_beside End more others = refl
beside_beside (Chars text doc rest) more others = ap (Chars text doc) (beside_beside rest more others)
beside_beside (Node element inside rest) more others = ap (Node element inside) (beside_beside rest more others)

pub behind_end : (building : Building) → behind building End ≡ building
behind_end (Top content) = ap Top (beside_end content)
behind_end (Within outer element content) = ap (Within outer element) (beside_end content)

-- one put after the other is both put side by side
pub behind_behind : (building : Building) (nodes more : Written)
    → behind (behind building nodes) more ≡ behind building (side_by_side nodes more)
behind_behind (Top content) nodes more = ap Top (beside_beside content nodes more)
behind_behind (Within outer element content) nodes more =
    ap (Within outer element) (beside_beside content nodes more)

-- an element that is opened, filled and closed is put with what it holds
pub closed_opened : (building : Building) (element : Element) (inside : Written)
    → closed (behind (opened building element) inside) ≡ behind building (Node element inside End)
closed_opened building element inside = refl

-- what was put fills the hole of what was there before
pub filled_behind : (building : Building) (nodes more : Written)
    → filled (behind building nodes) more ≡ filled building (side_by_side nodes more)
filled_behind (Top content) nodes more = beside_beside content nodes more
filled_behind (Within outer element content) nodes more =
    ap (λ (inside : Written). filled outer (Node element inside End)) (beside_beside content nodes more)

-- closing an element leaves the whole as it is
pub whole_closed : (building : Building) → whole (closed building) ≡ whole building
whole_closed (Top content) = refl
whole_closed (Within outer element content) =
    filled_behind outer (Node element content End) End
    ∙ ap (λ (inside : Written). filled outer (Node element inside End)) (sym (beside_end content))

-- the whole of what is put into nothing
pub whole_of_behind : (nodes : Written) → whole (behind nothing nodes) ≡ nodes
whole_of_behind nodes = beside_end nodes

-- How many elements are open

pub depth_behind : (building : Building) (nodes : Written) → depth (behind building nodes) ≡ depth building
depth_behind (Top content) nodes = refl
depth_behind (Within outer element content) nodes = refl

pub depth_closed : (building : Building) → 0 < depth building → depth (closed building) + 1 ≡ depth building
depth_closed (Top content) some = absurd (omega arith)
depth_closed (Within outer element content) some = omega (arith, depth_behind outer (Node element content End))

-- where none is, the whole stands at the top
pub top_of_all : (building was : Building) → whole building ≡ whole was → depth building ≡ 0
    → building ≡ Top (whole was)
top_of_all (Top content) was same none = ap Top (sym (beside_end content) ∙ same)
top_of_all (Within outer element content) was same none = absurd (omega arith)

-- Hrefs that were written where their elements were

-- an href of the element's own document is written there, whether there is one or not
pub href_own : (attributes : List Attribute) (doc : List ℕ) → href_written attributes doc doc ≡ doc
href_own attributes doc = by_test (has_href attributes)
  where
    by_test : (test : Bool) → (if test then doc else doc) ≡ doc
    by_test true = refl
    by_test false = refl

pub own_beside : (nodes more : Written)
    → own_hrefs (side_by_side nodes more) ≡ side_by_side (own_hrefs nodes) (own_hrefs more)
own_beside End more = refl
own_beside (Chars text doc rest) more = ap (Chars text doc) (own_beside rest more)
own_beside (Node element inside rest) more =
    ap (Node (record element { href_doc = element.doc }) (own_hrefs inside)) (own_beside rest more)

-- those of a document are
pub own_in : (name : List ℕ) (content : Content) → own_hrefs (written_in name content) ≡ written_in name content
own_in name tree.End = refl
own_in name (tree.Chars text origin line rest) = ap (Chars text name) (own_in name rest)
own_in name (tree.Element label attributes origin line inside rest) =
    ap₂ (Node (record { name = label; attributes = attributes; doc = name; line = line; href_doc = name }))
    (own_in name inside) (own_in name rest)
