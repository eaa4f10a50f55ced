use Rattle.std.proofs.Common.{◌≡◌, ◌++◌, ℕ, take}
use Rattle.family_links.specs.Families.{ArePages, if_linking}
use Rattle.family_links.specs.Lists.{listed}
use Rattle.family_links.proofs.families.put_pages.Given as goal

abbrev pub invariant-loop-node : goal.invariant-loop-node
invariant-loop-node l = record {
  pages : ArePages (take l.node-index l.nodes) l.linking;
  are : (page : ℕ) → listed page l.of_pages.entries
      ≡ listed page l.fn.of_pages.entries ++ if_linking page (take l.node-index l.nodes) l.place;
}
