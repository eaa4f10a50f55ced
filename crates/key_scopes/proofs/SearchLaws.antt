-- One step of the search into scopes, by the scopes and the own definitions of a table.
use Rattle.std.specs.Prelude.{◌≡◌, ℕ, List, Option, Some, None, option_map}
use Rattle.std.specs.Option.{option_or}
use Rattle.std.proofs.Common.{sym, ap, ◌∙◌}
use Rattle.dita_doc.specs.declared.plan.Scope.{Scope}
use Rattle.dita_doc.proofs.Lists.{option_or_none}
use Rattle.key_scopes.specs.declared.search.SearchStep.{SearchStep}
use Rattle.key_scopes.specs.Children.{AreChildNames}
use Rattle.key_scopes.specs.Rising.{by_names}
use Rattle.key_scopes.specs.Table.{Table}
use Rattle.key_scopes.specs.Ways.{Way, next_way, way_of}
use Rattle.key_scopes.proofs.HoldLaws.{no_way_behind, way_behind}
use Rattle.key_scopes.proofs.WayLaws.{behind_way, by_all_ways, by_way}

-- a table has the names of its scopes
abbrev pub HasNames : Table → Type 0
HasNames table = AreChildNames table.scopes table.names table.longest

module _ (all : List Scope) (own_at : ℕ → List ℕ → Option ℕ) where
  pub none_by : (scope : ℕ) (key : List ℕ) (last : Option Way) (result : Option SearchStep)
      → option_map way_of result ≡ next_way all own_at scope key last → result ≡ None
      → behind_way all own_at scope key last ≡ None
  none_by scope key last result e none =
      no_way_behind all own_at scope key last (sym e ∙ ap (option_map way_of) none)

  pub some_by : (scope : ℕ) (key : List ℕ) (last : Option Way) (result : Option SearchStep) (step : SearchStep)
      → option_map way_of result ≡ next_way all own_at scope key last → result ≡ Some step
      → behind_way all own_at scope key last
      ≡ option_or (by_way all own_at (way_of step)) (behind_way all own_at scope key (Some (way_of step)))
  some_by scope key last result step e some =
      way_behind all own_at scope key last (way_of step) (sym e ∙ ap (option_map way_of) some)

  -- a scope that has no own definition, and none in it
  pub past_way : (way : Way) (behind : Option ℕ) → own_at way.child way.rest ≡ None
      → by_names all own_at way.rest way.child ≡ None → option_or (by_way all own_at way) behind ≡ behind
  past_way way behind none nothing =
      ap (λ x. option_or (option_or x (by_names all own_at way.rest way.child)) behind) none
      ∙ ap (λ x. option_or x behind) nothing

  -- the last way, into a scope that has no own definition
  pub into_way : (way : Way) (behind : Option ℕ) → own_at way.child way.rest ≡ None → behind ≡ None
      → option_or (by_way all own_at way) behind ≡ behind_way all own_at way.child way.rest None
  into_way way behind none last =
      ap (option_or (by_way all own_at way)) last ∙ option_or_none (by_way all own_at way)
      ∙ ap (λ x. option_or x (by_names all own_at way.rest way.child)) none
      ∙ by_all_ways all own_at way.child way.rest
