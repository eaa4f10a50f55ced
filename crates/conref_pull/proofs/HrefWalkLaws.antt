-- Documents that hrefs name, in what is put where nodes are resolved.
use Rattle.std.specs.Prelude.{◌≡◌, List, Result, Ok, Err, OnOk}
use Rattle.std.proofs.Common.{ap, sym, subst}
use Rattle.dita_doc.specs.declared.stop.Stop.{Stop}
use Rattle.doc_maker.specs.Building.{Building, closed, opened}
use Rattle.doc_maker.specs.Made.{building}
use Rattle.doc_maker.specs.declared.maker.DocMaker.{DocMaker}
use Rattle.map_spec.specs.Written.{Element}
use Rattle.conref_spec.specs.Content.{Made}
use Rattle.readers.specs.Told.{Told}
use Rattle.conref_targets.specs.Hrefs.{HasNamed, HaveNamed}
use Rattle.conref_pull.specs.Count.{OneMore}
use Rattle.conref_pull.specs.PutHrefs.{HaveNamedIn, PutNamed}
use Rattle.conref_pull.specs.Putting.{IsPut, IsSameMaker, Puts, built}
use Rattle.conref_pull.specs.declared.resolver.Resolver.{Resolver}
use Rattle.conref_pull.specs.declared.resolver.TooMany.{TooMany}
use Rattle.conref_pull.proofs.HrefLaws.{behind_named, closed_named}

pub maker_counted : (a b : Resolver) → OneMore a b → IsSameMaker a b
maker_counted a b one = record { is = ap (λ (r : Resolver). r.maker) one.state }

module _ (told : List Told) where
  pub same_put : (a b : Resolver) → IsSameMaker a b → PutNamed told a → PutNamed told b
  same_put a b same put = subst (λ (maker : DocMaker). HaveNamedIn told (building maker)) (sym same.is) put

  pub more_put : (made : Made) (a b : Resolver) → IsPut made a b → HaveNamed told made.nodes → PutNamed told a
      → PutNamed told b
  more_put made a b is more put =
      subst (HaveNamedIn told) (sym is.nodes) (behind_named told (built a) made.nodes put more)

  pub puts_named : (result : Result (Unit {0}) (Stop TooMany)) (made : Made) (a b : Resolver) → Puts result made a b
      → HaveNamed told made.nodes → PutNamed told a → OnOk result (PutNamed told b)
  puts_named (Ok done) made a b is more put = more_put made a b is more put
  puts_named (Err stop) made a b is more put = tt

  pub opened_put : (before after : Building) (element : Element) → after ≡ opened before element
      → HasNamed told element → HaveNamedIn told before → HaveNamedIn told after
  opened_put before after element is named put = subst (HaveNamedIn told) (sym is) (put, named, tt)

  pub closed_put : (before after : Building) → after ≡ closed before → HaveNamedIn told before
      → HaveNamedIn told after
  closed_put before after is put = subst (HaveNamedIn told) (sym is) (closed_named told before put)
