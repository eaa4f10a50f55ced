-- What contracts see of a table of scopes (own): the scopes, where those in each end, the definitions: the first of each
-- key in each scope, the names of scopes with the length of the longest, and each scope's keys in order.
use Rattle.std.specs.Prelude.{◌==◌, ◌&&◌, ℕ, Bool, List, Option, bytes_eq, find, map, option_map}
use Rattle.std.specs.Coded.{Coded, codes}
use Rattle.dita_doc.specs.declared.plan.Scope.{Scope}
use Rattle.key_scopes.specs.declared.children.ChildName.{ChildName}
use Rattle.key_scopes.specs.declared.definitions.Definition.{Definition}

pub record Table : Type 0 where
  pub scopes : List Scope
  pub ends : List ℕ
  pub definitions : List Definition
  pub names : List ChildName
  pub longest : ℕ
  pub own_keys : List (List (List ℕ × ℕ))

pub table_code : Coded Table
table_code = hlevel codes

-- a definition, wherever its outermost one stands
pub record First : Type 0 where
  pub key : List ℕ
  pub scope : ℕ
  pub node : ℕ

abbrev pub first_of : Definition → First
first_of definition = record { key = definition.key; scope = definition.scope; node = definition.node }

abbrev pub firsts_of : List Definition → List First
firsts_of definitions = map first_of definitions

abbrev pub is_first : ℕ → List ℕ → First → Bool
is_first scope key first = (first.scope == scope) && bytes_eq key first.key

-- a scope's own definition of a key
abbrev pub own_in : List First → ℕ → List ℕ → Option ℕ
own_in firsts scope key = option_map (λ (first : First). first.node) (find (is_first scope key) firsts)
