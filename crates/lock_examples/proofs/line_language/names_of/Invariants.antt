use Rattle.std.proofs.Common.{◌≡◌, ◌++◌}
use Rattle.lock_examples.specs.LineLanguage.{names_in}
use Rattle.lock_examples.proofs.line_language.names_of.Given as goal

-- the names so far, and those of the documents that are left
abbrev pub invariant-loop-document : goal.invariant-loop-document
invariant-loop-document l = l.names ++ names_in l.document-iterator ≡ names_in l.sources
