use Rattle.std.proofs.Common.{sym, ◌∙◌}
use Rattle.script_text.proofs.StateLaws.{fed_all, fed_later, fed_fault}
use Rattle.script_text.proofs.request_state.RequestState.feed.Goals as goal

pub returns-in-None-clause-feeds : goal.returns-in-None-clause-feeds
returns-in-None-clause-feeds c =
    fed_all c.args.self.now c.in-Reading.machine c.feed-fed.new.self c.args.piece.now c.in-Ok.field-0 c.in-Reading.is
    c.in-Ok.ensures.fed c.in-None.is

pub returns-then-is_empty-clause-feeds : goal.returns-then-is_empty-clause-feeds
returns-then-is_empty-clause-feeds c =
    fed_fault c.args.self.now c.in-Reading.machine c.feed-fed.new.self c.args.piece.now c.in-Ok.field-0 c.in-Reading.is
    c.in-Ok.ensures.fed c.in-Some.fault c.in-Some.is (sym c.is_empty.ensures ∙ c.if-is_empty.true)

pub returns-else-is_empty-clause-feeds : goal.returns-else-is_empty-clause-feeds
returns-else-is_empty-clause-feeds c =
    fed_later c.args.self.now c.in-Reading.machine c.feed-fed.new.self c.args.piece.now c.in-Ok.field-0 c.in-Reading.is
    c.in-Ok.ensures.fed c.in-Some.fault c.in-Some.is (sym c.is_empty.ensures ∙ c.if-is_empty.false)
