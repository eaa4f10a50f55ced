-- What a chain of branches around a tree leaves of it (own): each branch in turn, the innermost first, takes out the nodes
-- that its rules exclude, and marks the others.
use Rattle.std.specs.Prelude.{◌||◌, Bool, false, List, [], ◌∷◌}
use Rattle.map_spec.specs.Branches.{Branch, all_marked, marked}
use Rattle.map_spec.specs.Judged.{is_excluded, kept}
use Rattle.map_spec.specs.MapTree.{Head, MapTree}
use Rattle.reader_spec.specs.World.{World}

abbrev pub through : World → List Branch → MapTree → MapTree
through world [] tree = tree
through world (branch ∷ chain) tree = through world chain (all_marked branch (kept world branch.filter.rules tree))

abbrev pub marked_by : List Branch → Head → Head
marked_by [] head = head
marked_by (branch ∷ chain) head = marked_by chain (marked branch head)

abbrev pub excluded_by : World → List Branch → Head → Bool
excluded_by world [] head = false
excluded_by world (branch ∷ chain) head = is_excluded world branch.filter.rules head || excluded_by world chain head
