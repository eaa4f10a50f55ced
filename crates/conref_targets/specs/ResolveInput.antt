-- Where a page is resolved, by a world and by what its reader was made for (own).
use Rattle.std.specs.Prelude.{List, Option, ℕ}
use Rattle.dita_doc.specs.declared.content.Rule.{Rule}
use Rattle.dita_doc.specs.declared.plan.PageId.{PageId}
use Rattle.map_spec.specs.Keys.{key_answer}
use Rattle.map_spec.specs.Pushes.{pushed}
use Rattle.map_spec.specs.Written.{Written}
use Rattle.conref_spec.specs.Content as content
use Rattle.reader_spec.specs.World.{World}
use Rattle.readers.specs.Setting as made

-- the documents with their pushes
abbrev pub documents_in : World → made.Setting → List ℕ → Option Written
documents_in world setting = pushed world setting.documents

abbrev pub setting_of : World → made.Setting → PageId → List (List Rule) → content.ResolveInput
setting_of world setting page rules = record {
  page = page.doc;
  pushed = documents_in world setting;
  key = key_answer world setting.nodes page.scope;
  rules = rules;
}
