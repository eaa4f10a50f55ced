use Rattle.std.specs.Prelude.{List, Option, Result, Ok, Err, IfOk, map}
use Rattle.std.proofs.Common.{◌≡◌, ap, refl, subst, sym, ◌∙◌}
use Rattle.dita_doc.specs.declared.plan.PlanNode.{PlanNode}
use Rattle.map_spec.specs.Cascade.{whole_at}
use Rattle.map_spec.specs.MapTree.{MapNode, MapTree, NoNodes, plan_nodes}
use Rattle.map_spec.specs.Written.{Whole}
use Rattle.plan_nodes.specs.Given.{AreTold}
use Rattle.plan_nodes.proofs.GivenLaws.{told_later}
use Rattle.readers.specs.Founded.{StaysFounded, homes}
use Rattle.readers.specs.Told.{Agrees, Told}
use Rattle.readers.proofs.GrowthLaws.{agrees_before, grows_trans}
use Rattle.reader_spec.specs.World.{World}
use Rattle.branch_copies.specs.Ditavalrefs.{AsksDitavals}
use Rattle.branch_copies.specs.Ditavals.{AreKnown}
use Rattle.branch_copies.proofs.DitavalrefLaws.{asks_both, asks_first, given_of, stays_both}
use Rattle.branch_copies.proofs.StandLaws.{count_all, stands_all}
use Rattle.branch_copies.proofs.copies.copy_branches.Goals as goal

pub returns-clause-known : goal.returns-clause-known
returns-clause-known g c = λ world agrees head below kind are.
    let tree : MapTree = MapNode head below NoNodes in
    let nodes = c.as_slice-nodes.result.now in
    let is : nodes ≡ plan_nodes tree = c.as_slice-nodes.ensures ∙ are in
    let before = agrees_before world _ _ c.in_ok-read.ensures.grows agrees in
    let homes = c.in_ok-elements.ensures.known world before in
    let declared = c.in_ok-elements.ensures.declared world before in
    c.copy_read.ensures.copied world head below kind is homes declared
    (c.in_ok-read.ensures.known world tree agrees homes (stands_all tree nodes is) (count_all tree nodes is)
    (subst (AreKnown world c.new-ditavals.result.read.items) (sym c.new-ditavals.ensures.known) tt))

pub returns-clause-value : goal.returns-clause-value
returns-clause-value g c =
    returns-clause-known g c (g.R.Reader.stand c.args.reader.now).world
    (subst (λ s. Agrees s.world (g.R.Reader.told c.read_branches.new.reader))
    (c.in_ok-read.ensures.stand ∙ c.in_ok-elements.ensures.stand) (g.met.R.Reader.agrees c.read_branches.new.reader))

-- what holds whatever was made
whichever : {X E P : Type 0} (result : Result X E) → P → IfOk result (λ made. P)
whichever (Ok made) is = is
whichever (Err stop) is = tt

pub returns-clause-told : goal.returns-clause-told
returns-clause-told g c = whichever c.copy_read.result
    (told_later _ _ _ c.in_ok-read.ensures.grows (subst (AreTold (g.R.Reader.told c.of.new.reader))
    (c.in_ok-elements.ensures.value ∙ ap (map (whole_at (g.R.Reader.stand c.args.reader.now).world)) c.as_slice-nodes.ensures)
    c.in_ok-elements.ensures.given))

-- the slice has the nodes of the list

module _ (slice nodes : List PlanNode) (same : slice ≡ nodes) where
  stays_there : (old new : List Told) → StaysFounded (homes slice) old new → StaysFounded (homes nodes) old new
  stays_there old new = subst (λ ns. StaysFounded (homes ns) old new) same

  asks_there : (world : World) (found : List (Option Whole)) (old new : List Told) → found ≡ map (whole_at world) slice
      → AsksDitavals found slice (homes slice) old new
      → AsksDitavals (map (whole_at world) nodes) nodes (homes nodes) old new
  asks_there world found old new is asks =
      subst (λ ns. AsksDitavals (map (whole_at world) ns) ns (homes ns) old new) same
      (subst (λ hs. AsksDitavals hs slice (homes slice) old new) is asks)

pub read_branches-requires : goal.read_branches-requires
read_branches-requires g c =
    record { given = given_of _ _ _ _ c.in_ok-elements.ensures.value c.in_ok-elements.ensures.given }

pub returns-in_err-elements-clause-founded : goal.returns-in_err-elements-clause-founded
returns-in_err-elements-clause-founded g c = stays_there _ _ c.as_slice-nodes.ensures _ _ c.of.ensures.founded

pub returns-in_err-elements-clause-asks : goal.returns-in_err-elements-clause-asks
returns-in_err-elements-clause-asks g c =
    asks_there _ _ c.as_slice-nodes.ensures _ _ _ _ refl (asks_first _ _ _ _ _ c.of.ensures.asks)

pub returns-in_err-read-clause-stand : goal.returns-in_err-read-clause-stand
returns-in_err-read-clause-stand g c = c.read_branches.ensures.stand ∙ c.of.ensures.stand

pub returns-in_err-read-clause-grows : goal.returns-in_err-read-clause-grows
returns-in_err-read-clause-grows g c = grows_trans _ _ _ c.of.ensures.grows c.read_branches.ensures.grows

pub returns-in_err-read-clause-founded : goal.returns-in_err-read-clause-founded
returns-in_err-read-clause-founded g c = stays_there _ _ c.as_slice-nodes.ensures _ _
    (stays_both _ _ _ _ c.of.ensures.founded c.read_branches.ensures.founded)

pub returns-in_err-read-clause-asks : goal.returns-in_err-read-clause-asks
returns-in_err-read-clause-asks g c =
    asks_there _ _ c.as_slice-nodes.ensures _ _ _ _ c.in_ok-elements.ensures.value
    (asks_both _ _ _ _ _ _ c.of.ensures.asks c.read_branches.ensures.asks)

pub returns-clause-stand : goal.returns-clause-stand
returns-clause-stand g c = c.read_branches.ensures.stand ∙ c.of.ensures.stand

pub returns-clause-grows : goal.returns-clause-grows
returns-clause-grows g c = grows_trans _ _ _ c.of.ensures.grows c.read_branches.ensures.grows

pub returns-clause-founded : goal.returns-clause-founded
returns-clause-founded g c = stays_there _ _ c.as_slice-nodes.ensures _ _
    (stays_both _ _ _ _ c.of.ensures.founded c.read_branches.ensures.founded)

pub returns-clause-asks : goal.returns-clause-asks
returns-clause-asks g c =
    asks_there _ _ c.as_slice-nodes.ensures _ _ _ _ c.in_ok-elements.ensures.value
    (asks_both _ _ _ _ _ _ c.of.ensures.asks c.read_branches.ensures.asks)
