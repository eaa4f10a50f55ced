use Rattle.std.proofs.Common.{[], ◌∙◌, ap, filter, rules}
use Rattle.std.proofs.lemmas.List.{take_all}
use Rattle.key_scopes.specs.Defined.{is_level_within}
use Rattle.key_scopes.specs.Numbered.{entries}
use Rattle.key_scopes.specs.OwnKeys.{by_level, rows_by, rows_of}
use Rattle.key_scopes.proofs.LevelLaws.{sorted_entries}
use Rattle.key_scopes.proofs.OwnKeyLaws.{rows_step}
use Rattle.key_scopes.proofs.own_keys.own_keys.Goals as goal

pub loop-entry-preserved : goal.loop-entry-preserved
loop-entry-preserved c =
    rows_step c.args.count c.args.scopes c.deref-entry-items.result.now c.loop-entry.entry-index
    (record { ref_ptr = (0, 0); now = [] }, 0, 0, 0) (rows_of c.loop-entry.maps.items) (rows_of c.put_entry.new.maps.items)
    c.loop-entry-test.true c.loop-entry.invariant c.in_ok-put_entry.ensures

pub returns : goal.returns
returns c =
    c.loop-entry.invariant
    ∙ ap (λ items. rows_by c.args.scopes (filter (is_level_within c.args.count) (entries items)))
    (take_all c.loop-entry.entry-index c.deref-entry-items.result.now c.loop-entry-test.false
    ∙ c.deref-entry-items.ensures.value)
    ∙ ap (rows_by c.args.scopes) (sorted_entries c.args.count c.in_ok-ordered.ordered.items c.sort_by_key.new.self.items
    c.in_ok-sort_by_key.ensures.sorted c.in_ok-sort_by_key.ensures.stable (λ f a r f' called. search rules)
    ∙ ap (λ items. by_level c.args.count (entries items)) c.in_ok-ordered.ensures.items)
