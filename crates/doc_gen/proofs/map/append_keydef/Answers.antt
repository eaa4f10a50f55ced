use Rattle.std.proofs.lemmas.Result.{on_ok_weaker}
use Rattle.doc_gen.proofs.Joined.{keydef_joined}
use Rattle.doc_gen.proofs.map.append_keydef.Goals as goal

pub returns : goal.returns
returns c =
    on_ok_weaker _ (keydef_joined c.args.key c.args.out.now c.open_domain.new.out c.append_key_name.new.out
    c.append_attribute.new.out c.append_key_meta.new.out c.close.new.out c.in_ok-open_domain.ensures
    c.in_ok-append_key_name.ensures c.in_ok-append_attribute.ensures c.in_ok-append_key_meta.ensures) c.close.ensures
