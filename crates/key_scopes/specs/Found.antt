-- The search for a key in a table (own), by the scopes, the definitions and the names that the table has.
use Rattle.std.specs.Prelude.{ℕ, List, Option}
use Rattle.std.specs.Option.{option_or}
use Rattle.key_scopes.specs.declared.definitions.Definition.{Definition}
use Rattle.key_scopes.specs.Defined.{count_upto}
use Rattle.key_scopes.specs.Outermost.{outermost_by}
use Rattle.key_scopes.specs.Rising.{answer_up, by_names, from_of, node_of, scope_within}
use Rattle.key_scopes.specs.Table.{Table, firsts_of, own_in}

-- a scope's own definition of a key
abbrev pub own_of : Table → ℕ → List ℕ → Option ℕ
own_of table scope key = own_in (firsts_of table.definitions) scope key

-- the definition in the outermost scope that is this one or stands around it
abbrev pub outermost_of : Table → ℕ → List ℕ → Option Definition
outermost_of table scope key =
    outermost_by table.ends table.definitions (count_upto scope key table.definitions) scope key

-- a definition by a qualified key at a scope further out counts, and then the outermost own one
abbrev pub found_by : Table → ℕ → List ℕ → Option Definition → Option ℕ
found_by table scope key own = option_or
    (answer_up (by_names table.scopes (own_of table) key) table.scopes (from_of table.scopes scope own)) (node_of own)

-- from a scope of the table
abbrev pub found_at : Table → ℕ → List ℕ → Option ℕ
found_at table scope key = found_by table scope key (outermost_of table scope key)

-- the node that defines a key, searched from the root scope down to this one
abbrev pub found_in : Table → ℕ → List ℕ → Option ℕ
found_in table scope key = found_at table (scope_within table.scopes scope) key
