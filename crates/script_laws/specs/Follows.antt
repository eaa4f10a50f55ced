-- What more bytes say of the requests of a session over a link, beside what the first of them say (own).
use Rattle.std.specs.Prelude.{◌≡◌, ◌++◌, List, Some}
use Rattle.dita_doc.specs.Request.{Request}
use Rattle.script_text.specs.Requests.{RequestsRead}
use Rattle.script_text.specs.declared.fault.ScriptFault.{ScriptFault}

-- the whole requests are the first ones, and once a line is faulty nothing more is read
pub record Follows (some more : RequestsRead) : Type 0 where
  pub rest : List Request
  pub first : more.requests ≡ some.requests ++ rest
  pub stays : (fault : ScriptFault) → some.fault ≡ Some fault → more ≡ some
