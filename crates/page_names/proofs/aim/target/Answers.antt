use Rattle.std.specs.Prelude.{◌≡◌, IfOk}
use Rattle.std.proofs.Common.{◌∙◌, subst, sym, List}
use Rattle.dita_doc.specs.declared.plan.PlanNode.{PlanNode}
use Rattle.map_spec.specs.Pages.{aim_at}
use Rattle.plan_nodes.specs.Carried.{CarryScopes, CarryValues}
use Rattle.reader_spec.specs.World.{World}
use Rattle.readers.specs.Setting.{Stand}
use Rattle.readers.specs.Told.{Agrees}
use Rattle.readers.proofs.DocumentLaws.{homes_asked}
use Rattle.readers.proofs.FoundedLaws.{homes_founded}
use Rattle.page_names.proofs.aim.target.Goals as goal

pub returns-clause-known : goal.returns-clause-known
returns-clause-known g c =
    subst (λ (nodes : List PlanNode). (g.K.Reader.stand c.args.asker.now).setting.nodes ≡ nodes
    → CarryValues (g.K.Reader.stand c.args.asker.now).world nodes → CarryScopes nodes → (world : World)
    → Agrees world (g.K.Reader.told c.target_in.new.asker)
    → IfOk c.target_in.result (λ target. target ≡ (aim_at world nodes c.args.at).target))
    c.as_slice.ensures c.target_in.ensures.known

pub returns-clause-value : goal.returns-clause-value
returns-clause-value g c = λ keys values scopes.
    returns-clause-known g c keys values scopes (g.K.Reader.stand c.args.asker.now).world
    (subst (λ (stand : Stand). Agrees stand.world (g.K.Reader.told c.target_in.new.asker)) c.target_in.ensures.stand
    (g.met.K.Reader.agrees c.target_in.new.asker))

pub returns-clause-founded : goal.returns-clause-founded
returns-clause-founded g c = λ keys.
    homes_founded _ _ _ _ c.as_slice.ensures (c.target_in.ensures.founded (keys ∙ sym c.as_slice.ensures))

pub returns-clause-asks : goal.returns-clause-asks
returns-clause-asks g c = homes_asked _ _ _ _ c.as_slice.ensures c.target_in.ensures.asks
