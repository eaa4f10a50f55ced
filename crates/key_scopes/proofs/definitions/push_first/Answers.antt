use Rattle.std.proofs.Common.{◌∙◌, ap, sym}
use Rattle.key_scopes.specs.Outermost.{top_for}
use Rattle.key_scopes.proofs.ToppedLaws.{topped_more}
use Rattle.key_scopes.proofs.definitions.push_first.Goals as goal

pub returns-clause-topped : goal.returns-clause-topped
returns-clause-topped c = λ topped.
    let ends = c.args.spans.now.ends.items in
    let old = c.args.sorted.now.items in
    topped_more ends old c.push.new.self.items (record {
      key = c.in_ok-key.key;
      scope = c.args.scope;
      node = c.args.node;
      top = c.top_for-top.result;
    }) topped
    (c.top_for-top.ensures ∙ ap (λ all. top_for ends all c.args.key.now c.args.scope) c.deref-2.ensures.value
    ∙ ap (λ text. top_for ends old text c.args.scope) (sym c.in_ok-key.ensures))
    c.in_ok-push.ensures.items
