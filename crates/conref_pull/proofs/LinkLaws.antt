-- The target of a link.
use Rattle.std.specs.Prelude.{◌≡◌, ℕ, true, List, [], ◌∷◌, Option, Some, None, length, unwrap_or}
use Rattle.std.specs.Arc.{arc_value}
use Rattle.std.proofs.Common.{refl, sym, ap, subst, ◌∙◌, arith}
use Rattle.dita_doc.specs.Tree.{Content, Element, tree_of}
use Rattle.dita_doc.specs.declared.doc.Doc.{Doc}
use Rattle.ditaval_rules.specs.Domains.{declared_by}
use Rattle.map_spec.specs.Written as written
use Rattle.conref_spec.specs.Content.{Place}
use Rattle.readers.specs.Named.{named_tree}
use Rattle.readers.specs.Told.{Told}
use Rattle.readers.proofs.GivenLaws.{given_allowed_all}
use Rattle.conref_targets.specs.Hrefs.{HaveNamed}
use Rattle.conref_targets.specs.Origin.{begins_element, first_whole, whole_of, whole_shown}
use Rattle.conref_targets.specs.Parts.{AreSiblingsAt}
use Rattle.conref_targets.specs.declared.origin.Whole.{Whole}
use Rattle.conref_targets.proofs.HrefGivenLaws.{doc_named}
use Rattle.conref_pull.specs.Linked.{AreGivenTo, AreLinks, IsGivenTo, IsLink}
use Rattle.conref_pull.specs.Step.{Taken, declared_inside}
use Rattle.conref_pull.specs.declared.chain.TakenTarget.{TakenTarget}

-- it is the element that was taken, with what it holds
pub link_whole : (tree : Doc) (link : TakenTarget) (one : Taken) (found : Option Whole) → tree ≡ arc_value link.doc
    → IsLink link one
    → ((part : Content) → AreSiblingsAt (tree_of tree.nodes) link.place part → begins_element part ≡ true
    → whole_shown found ≡ first_whole tree.origins part)
    → whole_shown found ≡ Some (one.element, one.inside)
link_whole tree link one found same is whole =
    let part : Content = Element is.name is.attributes is.origin is.line is.inside is.rest in
    let there : AreSiblingsAt (tree_of tree.nodes) link.place part =
    subst (λ (d : Doc). AreSiblingsAt (tree_of d.nodes) link.place part) (sym same) is.part in
    whole part there refl ∙ ap (λ (d : Doc). first_whole d.origins part) same ∙ is.whole

-- the names that are declared for what it holds: its own, or else those around it
pub link_inside : (link : TakenTarget) (one : Taken) (target : Whole) (own : Option (List (List ℕ)))
    → whole_shown (Some target) ≡ Some (one.element, one.inside) → IsLink link one
    → declared_by link.declared target.node.now.attributes ≡ unwrap_or own link.declared
    → unwrap_or own link.declared ≡ declared_inside one
link_inside link one target own same is names =
    let pair : whole_of target ≡ (one.element, one.inside) = cc in
    sym names ∙ ap (λ (around : List (List ℕ)). declared_by around target.node.now.attributes) is.declared
    ∙ ap (λ (w : written.Whole). declared_by one.around w.0.attributes) pair

pub no_target : (one : Taken) → whole_shown None ≡ Some (one.element, one.inside) → ⊥
no_target one same = cc

-- where targets were taken there are links
pub no_links : (path : List Place) (end : ℕ) (one : Taken) (nearer : List Taken) (items : List TakenTarget)
    → length items ≡ 0 → AreLinks path end (one ∷ nearer) items → ⊥
no_links path end one nearer [] none linked = linked
no_links path end one nearer (link ∷ items) none linked = omega arith

-- what holds of links holds of those that are the same
pub links_are : {some links : List TakenTarget} (path : List Place) (end : ℕ) (taken : List Taken) → some ≡ links
    → AreLinks path end taken links → AreLinks path end taken some
links_are path end taken same linked = subst (λ (all : List TakenTarget). AreLinks path end taken all) (sym same) linked

pub given_links : {some links : List TakenTarget} (told : List Told) → some ≡ links → AreGivenTo told links
    → AreGivenTo told some
given_links told same given = subst (λ (all : List TakenTarget). AreGivenTo told all) (sym same) given

-- answers name what its hrefs do
pub link_named : (told : List Told) (link : TakenTarget) → IsGivenTo told link
    → HaveNamed told (named_tree (arc_value link.doc))
link_named told link given = doc_named told (arc_value link.doc)
    (λ roots. given_allowed_all roots told (Some (named_tree (arc_value link.doc))) given)
