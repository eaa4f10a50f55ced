use Rattle.std.proofs.Common.{◌∙◌, ap, rules}
use Rattle.map_spec.specs.Cascade.{spaced}
use Rattle.std.specs.Vec.{vec_len}
use Rattle.attr_cascade.specs.Tokens.{texts}
use Rattle.attr_cascade.proofs.TextLaws.{some_texts}
use Rattle.attr_cascade.proofs.TokenLaws.{list_put}
use Rattle.attr_cascade.proofs.tokens.put_list.Goals as goal

pub returns : goal.returns
returns c = list_put c.args.lists.now.items c.push.new.self.items
    (record { tokens = c.args.tokens; value = c.in_ok-value.value }) c.len-at.result c.in_ok-push.ensures.items
    (search rules)
    (c.in_ok-value.ensures ∙ ap (λ tokens. spaced (texts tokens)) c.deref.ensures.value)
    (some_texts c.args.tokens.items (vec_len c.args.tokens) c.if-is_empty.ensures (search rules))
