use Rattle.dita_class.proofs.WordLaws.{utf8_signed}
use Rattle.dita_class.proofs.read_class.Goals as goal

pub list_with-requires : goal.list_with-requires
list_with-requires c =
    utf8_signed c.args.value.now _ _ c.as_bytes.ensures.utf8 (rw c.as_bytes.ensures.value at c.in-Some.ensures)
