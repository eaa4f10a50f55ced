-- What nodes link to by sequences (own; DITA 1.3, "The @collection-type attribute").
use Rattle.std.specs.Prelude.{◌≡◌, ◌==◌, ◌&&◌, ◌++◌, ℕ, List, [], ◌∷◌, codes, if◌then◌else◌}
use Rattle.std.specs.List.{flat_map}
use Rattle.dita_doc.specs.declared.content.LinkKind.TheVariants as links
use Rattle.dita_doc.specs.declared.plan.Plan.{Plan}
use Rattle.link_groups.specs.declared.link_nodes.LinkNode.{LinkNode}
use Rattle.link_spec.specs.Links.{LinkTo, links_of_kind}
use Rattle.reader_spec.specs.World.{World}
use Rattle.family_links.specs.Grouped.{groups}
use Rattle.family_links.specs.Lists.{listed}
use Rattle.family_links.specs.declared.sequences.Sequences.{Sequences}

-- the other node, if the one is of this page, and a link may go from the one to the other
abbrev pub linked_from : ℕ → LinkNode → LinkNode → List LinkNode
linked_from page one other =
    if (page == one.page) && (one.is_source && other.is_target) then other ∷ [] else []

-- the nodes right before nodes of a page that link to them
abbrev pub previous_of : ℕ → List LinkNode → List LinkNode
previous_of page [] = []
previous_of page (one ∷ []) = []
previous_of page (one ∷ other ∷ more) = linked_from page other one ++ previous_of page (other ∷ more)

-- the nodes right behind them
abbrev pub next_of : ℕ → List LinkNode → List LinkNode
next_of page [] = []
next_of page (one ∷ []) = []
next_of page (one ∷ other ∷ more) = linked_from page one other ++ next_of page (other ∷ more)

pub record AreSequences (groups : List (List LinkNode)) (sequences : Sequences) : Type 0 where
  pub previous : (page : ℕ) → listed page sequences.previous.entries ≡ flat_map (previous_of page) groups
  pub next : (page : ℕ) → listed page sequences.next.entries ≡ flat_map (next_of page) groups

abbrev pub AreSequencesOf : World → Plan → Sequences → Type 0
AreSequencesOf world plan sequences = AreSequences (groups world plan (codes "sequence")) sequences

-- what a page links to beside its nodes
abbrev pub links_beside : World → Plan → ℕ → List LinkTo
links_beside world plan page = links_of_kind world plan page links.Previous ++ links_of_kind world plan page links.Next
