use Rattle.std.proofs.Common.{◌≡◌, ◌++◌, ◌-◌, ℕ, drop}
use Rattle.family_links.specs.Lists.{listed}
use Rattle.family_links.specs.Sequenced.{next_of, previous_of}
use Rattle.family_links.proofs.sequences.Sequences.add.Given as goal

abbrev pub invariant-loop-at : goal.invariant-loop-at
invariant-loop-at l = record {
  next : (page : ℕ) → listed page l.self.next.entries ++ next_of page (drop (l.at - 1) l.nodes)
      ≡ listed page l.fn.self.next.entries ++ next_of page l.nodes;
  previous : (page : ℕ) → listed page l.self.previous.entries ++ previous_of page (drop (l.at - 1) l.nodes)
      ≡ listed page l.fn.self.previous.entries ++ previous_of page l.nodes;
}
