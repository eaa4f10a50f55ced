-- Content with a hole, into which more is put: content at the top, or within an element that is open. Behind what
-- stands there is the hole, and nothing stands behind it.
use Rattle.std.specs.Prelude.{◌+◌, ℕ, List, if◌then◌else◌}
use Rattle.dita_doc.specs.Tree.{has_href}
use Rattle.dita_doc.specs.declared.doc.Attribute.{Attribute}
use Rattle.map_spec.specs.Written.{Element, Written, End, Chars, Node, side_by_side, size}

-- Nothing is open, and this stands in front of the hole. Or an element is open, which holds this so far, with the hole
-- behind; and the element stands where the content around it has its hole.
pub data Building : Type 0 where
  Top : (content : Written) → Building
  Within : (outer : Building) (element : Element) (content : Written) → Building

abbrev pub nothing : Building
nothing = Top End

-- more is put, and the hole stands behind it
abbrev pub behind : Building → Written → Building
behind (Top content) more = Top (side_by_side content more)
behind (Within outer element content) more = Within outer element (side_by_side content more)

abbrev pub element : List ℕ → List Attribute → List ℕ → ℕ → List ℕ → Element
element name attributes doc line href_doc =
    record { name = name; attributes = attributes; doc = doc; line = line; href_doc = href_doc }

-- the document in which the href of an element of these attributes was written: the element's own if it has no href
abbrev pub href_written : List Attribute → List ℕ → List ℕ → List ℕ
href_written attributes doc href_doc = if has_href attributes then href_doc else doc

-- an element is opened, and the hole stands in it
abbrev pub opened : Building → Element → Building
opened building element = Within building element End

-- the innermost element is put, with what it holds, into what stands around it; where none is open, nothing is done
abbrev pub closed : Building → Building
closed (Top content) = Top content
closed (Within outer element content) = behind outer (Node element content End)

-- the whole content with this in the place of the hole
abbrev pub filled : Building → Written → Written
filled (Top content) more = side_by_side content more
filled (Within outer element content) more = filled outer (Node element (side_by_side content more) End)

-- the whole content: all elements are closed, and nothing more is put
abbrev pub whole : Building → Written
whole building = filled building End

-- how many elements are open, and how many nodes were put
abbrev pub depth : Building → ℕ
depth (Top content) = 0
depth (Within outer element content) = 1 + depth outer

abbrev pub count : Building → ℕ
count (Top content) = size content
count (Within outer element content) = count outer + (1 + size content)

-- the same content where each href was written where its element was
abbrev pub own_hrefs : Written → Written
own_hrefs End = End
own_hrefs (Chars text doc rest) = Chars text doc (own_hrefs rest)
own_hrefs (Node element inside rest) =
    Node (record element { href_doc = element.doc }) (own_hrefs inside) (own_hrefs rest)
