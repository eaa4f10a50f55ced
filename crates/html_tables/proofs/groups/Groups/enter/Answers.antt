use Rattle.std.proofs.Common.{subst}
use Rattle.dita_doc.specs.ClassValue.{words_of}
use Rattle.html_tables.specs.Walk.{AreColumns, HasColumns, content_named}
use Rattle.html_tables.proofs.GroupLaws.{kept_groups, new_group, within_group, within_other}
use Rattle.html_tables.proofs.groups.Groups.enter.Goals as goal

pub returns-then-not-has_token-clause-nearest : goal.returns-then-not-has_token-clause-nearest
returns-then-not-has_token-clause-nearest c = λ names columns has.
    subst (HasColumns c.args.self.now c.args.around)
    (within_other (words_of c.args.tokens.now) (content_named names c.args.inside) columns
    c.if-not-has_token.ensures) has

pub returns-clause-kept : goal.returns-clause-kept
returns-clause-kept c = kept_groups c.args.self.now _ c.in_ok-columns.columns c.in_ok-push.ensures

pub returns-clause-nearest : goal.returns-clause-nearest
returns-clause-nearest c = λ names columns has.
    new_group c.args.self.now _ c.in_ok-columns.columns _ _ c.in_ok-push.ensures c.len-number.ensures.length
    (subst (AreColumns c.in_ok-columns.columns)
    (within_group (words_of c.args.tokens.now) (content_named names c.args.inside) columns
    c.if-not-has_token.ensures) (c.in_ok-columns.ensures names))
