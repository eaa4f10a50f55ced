-- The items that are open (own): the page, or an item within others; and what is written when items begin and end.
use Rattle.std.specs.Prelude.{ℕ, Bool, true, false, List, [], ◌∷◌, ◌++◌, codes, nat_lt, if◌then◌else◌}
use Rattle.toc_page.specs.declared.list.OpenItem.{OpenItem}
use Rattle.toc_page.specs.declared.list.OpenItems.{OpenItems}

pub data Stack : Type 0 where
  Page : (has_list : Bool) → Stack
  Within : (item : OpenItem) (around : Stack) → Stack

-- the list of the innermost was begun
abbrev pub has_list : Stack → Bool
has_list (Page begun) = begun
has_list (Within item around) = item.has_list

abbrev pub with_list : Stack → Stack
with_list (Page begun) = Page true
with_list (Within item around) = Within (record item { has_list = true }) around

abbrev pub begin_text : Bool → List ℕ
begin_text begun = if begun then [] else codes "<ul>"

abbrev pub end_text : Bool → List ℕ
end_text begun = if begun then codes "</ul>" else []

abbrev pub item_end : OpenItem → List ℕ
item_end item = end_text item.has_list ++ codes "</li>"

-- those around a place, and what ends the others
abbrev pub around_place : ℕ → Stack → Stack
around_place place (Page begun) = Page begun
around_place place (Within item around) =
    if nat_lt place item.end then Within item around else around_place place around

abbrev pub ends_before : ℕ → Stack → List ℕ
ends_before place (Page begun) = []
ends_before place (Within item around) =
    if nat_lt place item.end then [] else item_end item ++ ends_before place around

-- what ends all of them
abbrev pub ends_all : Stack → List ℕ
ends_all (Page begun) = end_text begun
ends_all (Within item around) = item_end item ++ ends_all around

-- one item more, which ends here
abbrev pub opened : ℕ → ℕ → Stack → Stack
opened place end stack =
    Within (record { end = end; has_list = false }) (with_list (around_place place stack))

abbrev pub before_item : ℕ → Stack → List ℕ
before_item place stack = ends_before place stack ++ begin_text (has_list (around_place place stack))

-- items within others, the outermost first
abbrev pub stack_on : List OpenItem → Stack → Stack
stack_on [] around = around
stack_on (item ∷ items) around = stack_on items (Within item around)

abbrev pub stack_of : OpenItems → Stack
stack_of all = stack_on all.items.items (Page all.has_list)
