use Rattle.pyx_text.proofs.PyxLaws.{stands_for_document, document_of_stands}
use Rattle.pyx_laws.proofs.one_reading.Goals as goal

pub returns-clause-stands : goal.returns-clause-stands
returns-clause-stands c = stands_for_document

pub returns-clause-read : goal.returns-clause-read
returns-clause-read c = document_of_stands
