use Rattle.std.proofs.Common.{◌≡◌, length, ap, ◌∙◌, arith}
use Rattle.pyx_text.specs.Reader.{HasReadAll}
use Rattle.pyx_text.specs.Machine.{made_by, settled}
use Rattle.pyx_text.proofs.ReaderLaws.{read-nodes}
use Rattle.pyx_text.proofs.text_machine.TextMachine.finish.Goals as goal

pub returns-in-Some-clause-fault : goal.returns-in-Some-clause-fault
returns-in-Some-clause-fault c text at =
    let all : HasReadAll c.end_text.new.self text = c.in_ok-end_text.ensures.ok text at in
    all.same ∙ c.in-Some.ensures c.end_text.new.self.number all.events all.read.read

pub returns-in-None-clause-tree : goal.returns-in-None-clause-tree
returns-in-None-clause-tree c text at =
    let all : HasReadAll c.end_text.new.self text = c.in_ok-end_text.ensures.ok text at in
    let read = all.same ∙ c.in-None.ensures c.end_text.new.self.number all.events all.read.read in
    read-nodes text all.events c.into_nodes.result read (c.into_nodes.ensures ∙ all.read.read.nodes)

pub returns-in-None-clause-small : goal.returns-in-None-clause-small
returns-in-None-clause-small c =
    let all : HasReadAll c.end_text.new.self c.requires.0 = c.in_ok-end_text.ensures.ok c.requires.0 c.requires.1 in
    let nodes : c.into_nodes.result ≡ (made_by (settled all.events)).nodes =
    c.into_nodes.ensures ∙ all.read.read.nodes in
    omega (arith, ap length nodes, all.read.few, all.within)
