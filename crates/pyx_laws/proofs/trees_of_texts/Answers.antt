use Rattle.pyx_text.proofs.ReadTrees.{read_tree}
use Rattle.pyx_text.proofs.WrittenAgain.{again}
use Rattle.pyx_laws.proofs.trees_of_texts.Goals as goal

pub returns-clause-kept : goal.returns-clause-kept
returns-clause-kept c = read_tree

pub returns-clause-again : goal.returns-clause-again
returns-clause-again c = again
