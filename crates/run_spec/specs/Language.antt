-- The language of documents that is published, as the desk takes it.
use Rattle.desk_language.specs.Language.{Language}
use Rattle.part_spec.specs.Parts.{clean_build}
use Rattle.reader_spec.specs.World.{world_of}
use Rattle.run_spec.specs.Reached.{IsReached}
use Rattle.run_spec.specs.ValueBytes.{page_count, value_bytes}

abbrev pub dita : Language
dita = record {
  clean = λ state root val. clean_build (world_of state) root val;
  page_count = page_count;
  value_bytes = value_bytes;
  Reaches = λ state root val name. IsReached (world_of state) root val name;
}
