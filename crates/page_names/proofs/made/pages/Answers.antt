use Rattle.std.proofs.Common.{◌∙◌, subst, sym, List}
use Rattle.dita_doc.specs.Gives.{Gives}
use Rattle.dita_doc.specs.declared.plan.PlanNode.{PlanNode}
use Rattle.readers.specs.Setting.{Stand}
use Rattle.readers.specs.Told.{Agrees}
use Rattle.reader_spec.specs.World.{World}
use Rattle.page_names.specs.Made.{pages_made}
use Rattle.page_names.specs.Uses.{AreReady}
use Rattle.readers.proofs.DocumentLaws.{homes_asked}
use Rattle.readers.proofs.FoundedLaws.{homes_founded}
use Rattle.page_names.proofs.made.pages.Goals as goal

pub returns-clause-known : goal.returns-clause-known
returns-clause-known g c =
    subst (λ (nodes : List PlanNode). AreReady (g.K.Reader.stand c.args.asker.now).setting.nodes
    (g.K.Reader.stand c.args.asker.now).world nodes → (world : World)
    → Agrees world (g.K.Reader.told c.pages_of.new.asker) → Gives c.pages_of.result (pages_made 4096 world nodes))
    c.as_slice.ensures c.pages_of.ensures.known

pub returns-clause-value : goal.returns-clause-value
returns-clause-value g c = λ keys before values scopes.
    returns-clause-known g c (record { keys = keys; before = before; values = values; scopes = scopes })
    (g.K.Reader.stand c.args.asker.now).world
    (subst (λ (stand : Stand). Agrees stand.world (g.K.Reader.told c.pages_of.new.asker)) c.pages_of.ensures.stand
    (g.met.K.Reader.agrees c.pages_of.new.asker))

pub returns-clause-founded : goal.returns-clause-founded
returns-clause-founded g c = λ keys.
    homes_founded _ _ _ _ c.as_slice.ensures (c.pages_of.ensures.founded (keys ∙ sym c.as_slice.ensures))

pub returns-clause-asks : goal.returns-clause-asks
returns-clause-asks g c = homes_asked _ _ _ _ c.as_slice.ensures c.pages_of.ensures.asks
