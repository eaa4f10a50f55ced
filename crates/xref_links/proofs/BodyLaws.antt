-- The documents in which the elements of a body were written.
use Rattle.std.specs.Prelude.{◌≡◌, ◌+◌, ◌<◌, ◌≤◌, ℕ, List, [], IsTrue, length, nat_lt, unwrap_or}
use Rattle.std.proofs.Common.{refl, sym, ap, ◌∙◌, arith, get_or}
use Rattle.std.proofs.lemmas.Bool.Decides.{nat_tests}
use Rattle.std.proofs.lemmas.Option.{slice_get-get_or}
use Rattle.dita_doc.specs.Tree as tree
use Rattle.dita_doc.specs.Tree.{ArePreorder, Content, are_places, size_of, tree_of}
use Rattle.dita_doc.specs.declared.content.Resolved.{Resolved}
use Rattle.dita_doc.specs.declared.doc.Node.{Node}
use Rattle.dita_doc.proofs.Lists.{each_passes}
use Rattle.dita_doc.proofs.TreeLaws.{length_nodes}
use Rattle.map_spec.specs.Written.{size}
use Rattle.readers.specs.Named.{name_at}
use Rattle.xref_links.specs.Body.{href_home, written_at}

place_fits : (count : ℕ) (places : List ℕ) (at d : ℕ) → IsTrue (are_places count places) → at < length places
    → get_or places at d < count
place_fits count places at d placed below =
    let passes = each_passes (λ place. nat_lt place count) places at (get_or places at d) placed
    (slice_get-get_or places at d below) in
    grind (arith, nat_tests)

name_there : (names : List (List ℕ)) (at : ℕ) (name d : List ℕ) → at < length names → name ≡ get_or names at d
    → name ≡ name_at names at
name_there names at name d below is =
    is ∙ sym (ap (λ found. unwrap_or found []) (slice_get-get_or names at d below))

pub href_there : (body : Resolved) (place d : ℕ) (hrefs : List ℕ) (origins : List (List ℕ)) (name e : List ℕ)
    → hrefs ≡ body.hrefs → origins ≡ body.doc.origins → place < length body.doc.nodes
    → name ≡ get_or origins (get_or hrefs place d) e → name ≡ href_home body place
href_there body place d hrefs origins name e same_hrefs same_origins below is =
    let below_hrefs : place < length body.hrefs = omega (arith, body.each) in
    let at = get_or body.hrefs place d in
    name_there body.doc.origins at name e
    (place_fits (length body.doc.origins) body.hrefs place d body.placed below_hrefs)
    (is ∙ ap (λ all. get_or all (get_or hrefs place d) e) same_origins
    ∙ ap (λ all. get_or body.doc.origins (get_or all place d) e) same_hrefs)
    ∙ ap (name_at body.doc.origins)
    (sym (ap (λ found. unwrap_or found 0) (slice_get-get_or body.hrefs place d below_hrefs)))

-- as many nodes are written as the tree has
pub size_written : (body : Resolved) (place : ℕ) (c : Content) → size (written_at body place c) ≡ size_of c
size_written body place tree.End = refl
size_written body place (tree.Chars text origin line rest) = ap (λ n. 1 + n) (size_written body (place + 1) rest)
size_written body place (tree.Element name attributes origin line inside rest) =
    let within = size_written body (place + 1) inside in
    let behind = size_written body (place + 1 + size_of inside) rest in
    omega (arith, within, behind)

-- the nodes of a body are as many as its tree has
pub root_room : (nodes : List Node) (root : Content) → ArePreorder nodes 0 → root ≡ tree_of nodes
    → 0 + size_of root ≤ length nodes
root_room nodes root preorder is =
    let count = ap length preorder ∙ length_nodes (tree_of nodes) 0 in
    let same = ap size_of is in
    omega arith
