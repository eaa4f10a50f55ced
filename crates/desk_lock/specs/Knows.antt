-- What a party knows, and what each step changes of it (own). A pass is a party with entries of its own, a hand one
-- without. Each step that opens the gate shows the history as it then is, and at most one thing more.
use Rattle.std.specs.Prelude.{ℕ, ◌+◌, ◌-◌, List, [], ◌∷◌, ◌++◌, Some, None, length, map, nat_le, if◌then◌else◌}
use Rattle.dita_doc.specs.History.{Entry}
use Rattle.facts.specs.Rows.{Claim, RowData}
use Rattle.desk_core.specs.Book.{BookData}
use Rattle.desk_core.specs.declared.limits.Limits.{Limits}
use Rattle.desk_lock.specs.declared.view.View.{View}

-- Who has all of these has joined every other party.
abbrev pub all_parts : ℕ
all_parts = 1048576

-- the parts of a pass that is made for another caller
abbrev pub session_parts : ℕ
session_parts = 256

-- the parts of a hand
abbrev pub hand_parts : ℕ
hand_parts = 1

-- a party with these parts that knows nothing yet
abbrev pub fresh : Limits → ℕ → View
fresh limits parts = record {
  session = 0;
  parts = parts;
  limits = limits;
  seen = [];
  also = [];
  mine = [];
  theirs = [];
  drawn = [];
  published = [];
  released = [];
  rows = [];
  met = [];
  held = None;
}

-- the first pass of a desk
abbrev pub first_view : Limits → View
first_view limits = fresh limits all_parts

-- a party that was joined away
abbrev pub spent_view : View
spent_view = fresh (record { entries = 0; text_bytes = 0; table_bytes = 0 }) 0

-- What is read off a view

abbrev pub with_session : ℕ → List ℕ → List (ℕ × ℕ)
with_session session places = map (λ place. (place, session)) places

-- the places of its own entries and of those that it joined, each with its session
abbrev pub known : View → List (ℕ × ℕ)
known v = with_session v.session v.mine ++ v.theirs

abbrev pub serials : List Claim → List ℕ
serials claims = map (λ (claim : Claim). claim.serial) claims

abbrev pub row_serials : List RowData → List ℕ
row_serials rows = map (λ (row : RowData). row.serial) rows

-- the serials of the claims that it ended
abbrev pub ends : View → List ℕ
ends v = row_serials v.published ++ v.released

-- Steps at the gate

-- it took the gate, and the book with it
abbrev pub holding : View → BookData → View
holding v book = record v { held = Some book }

-- it opened the gate after no event, with this history
abbrev pub looked : View → List Entry → View
looked v log = record v { seen = log; held = None }

-- it opened the gate after an entry of its own at this place
abbrev pub made : View → List Entry → ℕ → View
made v log place = record v { seen = log; mine = v.mine ++ place ∷ []; held = None }

-- it opened the gate after a claim that is granted
abbrev pub drew : View → List Entry → Claim → View
drew v log claim = record v { seen = log; drawn = v.drawn ++ claim ∷ []; held = None }

-- it opened the gate after a claim for which this row was kept
abbrev pub given : View → List Entry → RowData → View
given v log row = record v { seen = log; rows = v.rows ++ row ∷ []; held = None }

-- it opened the gate after a claim that another runs
abbrev pub has_met : View → List Entry → Claim → View
has_met v log claim = record v { seen = log; met = v.met ++ claim ∷ []; held = None }

-- it opened the gate after it published this row
abbrev pub printed : View → List Entry → RowData → View
printed v log row =
    record v { seen = log; published = v.published ++ row ∷ []; rows = v.rows ++ row ∷ []; held = None }

-- it opened the gate after it released the claim of this serial
abbrev pub let_go : View → List Entry → ℕ → View
let_go v log serial = record v { seen = log; released = v.released ++ serial ∷ []; held = None }

-- Splits and joins

-- it gave parts away
abbrev pub parted : View → ℕ → View
parted v parts = record v { parts = v.parts - parts }

-- a new party of this session, which has the parts and has seen what the other has seen
abbrev pub arrived : View → ℕ → ℕ → View
arrived v session parts = record (fresh v.limits parts) { session = session; seen = v.seen; rows = v.rows }

abbrev pub longer : List Entry → List Entry → List Entry
longer log other = if nat_le (length other) (length log) then log else other

abbrev pub shorter : List Entry → List Entry → List Entry
shorter log other = if nat_le (length other) (length log) then other else log

-- it took in all that another knows but the claims that the other met; the two histories are still to be compared
abbrev pub both : View → View → View
both v other = record v {
  parts = v.parts + other.parts;
  seen = longer v.seen other.seen;
  also = shorter v.seen other.seen;
  theirs = v.theirs ++ other.theirs ++ with_session other.session other.mine;
  drawn = v.drawn ++ other.drawn;
  published = v.published ++ other.published;
  released = v.released ++ other.released;
  rows = v.rows ++ other.rows;
}

-- it looked at the gate and compared them
abbrev pub settled : View → View
settled v = record v { also = [] }
