-- How much is left to resolve: the links that may still be followed, and then the nodes that stand side by side.
use Rattle.std.specs.Prelude.{◌+◌, ◌-◌, ◌*◌, ◌<◌, ℕ, length}
use Rattle.std.proofs.Common.{ap, ◌∙◌, arith}
use Rattle.dita_doc.specs.Siblings.{content}
use Rattle.dita_doc.specs.Tree.{size_of}
use Rattle.dita_doc.specs.declared.siblings.Siblings.{Siblings}
use Rattle.dita_doc.proofs.TreeLaws.{length_nodes}

-- the nodes of a document are fewer than 2^32
pub size_bound : (siblings : Siblings) → size_of (content siblings) < 4294967296
size_bound siblings =
    let count = ap length siblings.tree ∙ length_nodes (content siblings) siblings.place in
    let small = siblings.small in
    omega arith

-- what is left beside the nodes themselves, within so many targets
abbrev pub around : ℕ → ℕ
around links = (33 - links) * 68719476736

-- more than what is left of any nodes within so many targets
abbrev pub behind : ℕ → ℕ
behind links = around links + 68719476735

-- an element and what it holds are less than that, and so are siblings
pub element_smaller : (siblings : Siblings) (links : ℕ) → around links + 8 * size_of
    (content siblings) + 5 < behind links
element_smaller siblings links = let bound = size_bound siblings in omega arith

pub siblings_smaller : (siblings : Siblings) (links : ℕ) → around links + 8 * size_of
    (content siblings) + 1 < behind links
siblings_smaller siblings links = let bound = size_bound siblings in omega arith
