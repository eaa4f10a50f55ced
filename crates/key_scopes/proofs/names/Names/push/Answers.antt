use Rattle.std.proofs.Common.{◌∙◌, ◌≡◌, ap, not, rules, sym, true, false}
use Rattle.key_scopes.proofs.NameLaws.{bad_more, good_more, known_again, known_new, once_again, once_without, was_known}
use Rattle.map_spec.specs.Scopes.{is_good_name}
use Rattle.key_scopes.proofs.names.Names.push.Goals as goal

pub returns-then-not-branch : goal.returns-then-not-branch
returns-then-not-branch c = λ written are.
    let old = c.args.self.now.known.keys in
    let there = was_known old c.args.name written c.in_ok-insert.field-0 are.known c.in_ok-insert.ensures.added
    ∙ ap not c.if-not-branch.true in
    record {
      good = are.good ∙ sym (once_again is_good_name written c.args.name.now there);
      bad = are.bad ∙ sym (once_again (λ name. not (is_good_name name)) written c.args.name.now there);
      known = known_again old c.insert.new.self.keys c.args.name written are.known (search rules) there;
    }

pub returns-in_ok-push : goal.returns-in_ok-push
returns-in_ok-push c = λ written are.
    let old = c.args.self.now.known.keys in
    let new = was_known old c.args.name written c.in_ok-insert.field-0 are.known c.in_ok-insert.ensures.added
    ∙ ap not c.if-not-branch.false in
    let good : is_good_name c.args.name.now ≡ true =
    ap is_good_name (sym c.as_bytes.ensures.value) ∙ sym c.is_good_name.ensures ∙ c.if-is_good_name.true in
    record {
      good = good_more written c.args.self.now.good.items c.push.new.self.items c.args.name are.good good new
          c.in_ok-push.ensures.items;
      bad = are.bad ∙ sym (once_without (λ name. not (is_good_name name)) written c.args.name.now (ap not good));
      known = known_new old c.insert.new.self.keys c.args.name written are.known c.in_ok-insert.ensures.keys;
    }

pub returns-in_ok-push-2 : goal.returns-in_ok-push-2
returns-in_ok-push-2 c = λ written are.
    let old = c.args.self.now.known.keys in
    let new = was_known old c.args.name written c.in_ok-insert.field-0 are.known c.in_ok-insert.ensures.added
    ∙ ap not c.if-not-branch.false in
    let bad : is_good_name c.args.name.now ≡ false =
    ap is_good_name (sym c.as_bytes.ensures.value) ∙ sym c.is_good_name.ensures ∙ c.if-is_good_name.false in
    record {
      good = are.good ∙ sym (once_without is_good_name written c.args.name.now bad);
      bad = bad_more written c.args.self.now.bad.items c.push-else-is_good_name.new.self.items c.args.name are.bad
          bad new
          c.in_ok-push-2.ensures.items;
      known = known_new old c.insert.new.self.keys c.args.name written are.known c.in_ok-insert.ensures.keys;
    }
