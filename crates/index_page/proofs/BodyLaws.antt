-- In which documents content and its hrefs were written does not matter to terms.
use Rattle.std.specs.Prelude.{◌≡◌, ◌||◌, ◌++◌, ℕ, List, [], ◌∷◌, codes, if◌then◌else◌}
use Rattle.std.proofs.Common.{refl, sym, ap, ◌∙◌}
use Rattle.std.proofs.lemmas.List.Folds.{list_any-append}
use Rattle.dita_doc.specs.Tree as tree
use Rattle.dita_doc.specs.Tree.{Content, tree_of}
use Rattle.dita_doc.specs.declared.content.Resolved.{Resolved}
use Rattle.doc_elements.proofs.BareLaws.{bare, bare_element}
use Rattle.map_spec.specs.Elements.{is_whole}
use Rattle.map_spec.specs.Written.{Element, Written, End, Chars, Node, elements_below, written_in}
use Rattle.readers.specs.Named.{AreNodesOf, under_names, with_own_hrefs}
use Rattle.html_spec.specs.Terms.{holds_term, is_apart, is_term, own_characters, paths_among, term_text, terms_of}
use Rattle.dita_doc.specs.PlainText.{folded}
use Rattle.index_page.specs.Walk.{entries_among, entries_at}

-- Nodes without their documents

bare_holds : (nodes : Written) → holds_term (bare nodes) ≡ holds_term nodes
bare_holds End = refl
bare_holds (Chars text doc rest) = bare_holds rest
bare_holds (Node element inside rest) =
    ap (λ below. is_term element || below)
    (list_any-append (is_whole (codes "topic/indexterm")) (elements_below (bare inside)) (elements_below (bare rest))
    ∙ (λ i. bare_holds inside i || bare_holds rest i)
    ∙ sym (list_any-append (is_whole (codes "topic/indexterm")) (elements_below inside) (elements_below rest)))

bare_own : (nodes : Written) → own_characters (bare nodes) ≡ own_characters nodes
bare_own End = refl
bare_own (Chars text doc rest) = ap (λ more. text ++ more) (bare_own rest)
bare_own (Node element inside rest) =
    λ i. (if is_apart element then [] else bare_own inside i) ++ bare_own rest i

bare_paths : (nodes : Written) (around : List (List ℕ)) → paths_among around (bare nodes) ≡ paths_among around nodes
bare_paths End around = refl
bare_paths (Chars text doc rest) around = bare_paths rest around
bare_paths (Node element inside rest) around =
    let own = bare_own inside in
    ap (λ text. (if is_term element
    then if holds_term (bare inside) then paths_among (around ++ folded text ∷ []) (bare inside)
    else (around ++ folded text ∷ []) ∷ []
    else paths_among around (bare inside)) ++ paths_among around (bare rest)) own
    ∙ (λ i. (if is_term element
    then if bare_holds inside i then bare_paths inside (around ++ term_text inside ∷ []) i
    else (around ++ term_text inside ∷ []) ∷ []
    else bare_paths inside around i) ++ bare_paths rest around i)

-- The documents of a body

bare_hrefs : (nodes : Written) → bare (with_own_hrefs nodes) ≡ bare nodes
bare_hrefs End = refl
bare_hrefs (Chars text doc rest) = ap (Chars text []) (bare_hrefs rest)
bare_hrefs (Node element inside rest) =
    λ i. Node (bare_element element) (bare_hrefs inside i) (bare_hrefs rest i)

bare_named : (names : List (List ℕ)) (name : List ℕ) (c : Content)
    → bare (written_in name c) ≡ bare (under_names names c)
bare_named names name tree.End = refl
bare_named names name (tree.Chars text origin line rest) = ap (Chars text []) (bare_named names name rest)
bare_named names name (tree.Element own attributes origin line inside rest) =
    let element : Element = record { name = own; attributes = attributes; doc = []; line = line; href_doc = [] } in
    λ i. Node element (bare_named names name inside i) (bare_named names name rest i)

-- the entries of a body are those of each content that is its own
pub terms_same : (body : Resolved) (nodes : Written) (page : ℕ) (name : List ℕ) → AreNodesOf body nodes
    → entries_among page [] (written_in name (tree_of body.doc.nodes)) ≡ terms_of page nodes
terms_same body nodes page name are =
    let written = written_in name (tree_of body.doc.nodes) in
    ap (entries_at page) (
    sym (bare_paths written [])
    ∙ ap (paths_among [])
    (bare_named body.doc.origins name (tree_of body.doc.nodes) ∙ ap bare (sym are) ∙ bare_hrefs nodes)
    ∙ bare_paths nodes [])
