-- Each href of a document with its pushes was written where its element was.
use Rattle.std.specs.Prelude.{◌≡◌, ℕ, List, [], ◌∷◌, Option, Some, None, option_map}
use Rattle.std.proofs.Common.{refl, sym, ap, ap₂, ◌∙◌}
use Rattle.dita_doc.specs.Tree as tree
use Rattle.dita_doc.specs.Tree.{Content}
use Rattle.dita_doc.specs.declared.content.Push.{Push}
use Rattle.doc_maker.specs.Building.{own_hrefs}
use Rattle.map_spec.specs.Written.{Element, Written, End, Chars, Node, written_in}
use Rattle.map_spec.specs.Pushes.{pushed_from}
use Rattle.reader_spec.specs.World.{World}
use Rattle.conref_push.proofs.EachLaws.{EachOf, InFroms, TreeOf, each_pushed}

abbrev IsOwn : Element → Type 0
IsOwn element = element.href_doc ≡ element.doc

abbrev at_home : Element → List ℕ → Element
at_home element name = record element { href_doc = name }

own_each : (nodes : Written) → EachOf IsOwn nodes → own_hrefs nodes ≡ nodes
own_each End is = refl
own_each (Chars text doc rest) is = ap (Chars text doc) (own_each rest is)
own_each (Node element inside rest) is =
    ap (λ name. Node (at_home element name) (own_hrefs inside) (own_hrefs rest)) (sym is.0)
    ∙ ap₂ (Node element) (own_each inside is.1.0) (own_each rest is.1.1)

each_written : (name : List ℕ) (content : Content) → EachOf IsOwn (written_in name content)
each_written name tree.End = tt
each_written name (tree.Chars text origin line rest) = each_written name rest
each_written name (tree.Element label attributes origin line inside rest) =
    (refl, (each_written name inside, each_written name rest))

each_stored : (name : List ℕ) (found : Option Content) → TreeOf IsOwn (option_map (written_in name) found)
each_stored name None = tt
each_stored name (Some content) = each_written name content

in_froms : (world : World) (pushes : List Push) → InFroms IsOwn world pushes
in_froms world [] = tt
in_froms world (push ∷ pushes) = (each_stored push.from (world push.from), in_froms world pushes)

pub own_pushed : (world : World) (pushes : List Push) (place : ℕ) (name : List ℕ) (content : Content)
    → own_hrefs (pushed_from world pushes place (written_in name content))
    ≡ pushed_from world pushes place (written_in name content)
own_pushed world pushes place name content = own_each (pushed_from world pushes place (written_in name content))
    (each_pushed IsOwn (λ element is. is) (λ replaced element is. is) world pushes (in_froms world pushes) place
    (written_in name content) (each_written name content))
