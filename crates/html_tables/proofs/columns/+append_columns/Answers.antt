use Rattle.std.proofs.Common.{[], ◌∷◌, ◌++◌, bytes_eq, codes, ap, ◌∙◌, subst, arith}
use Rattle.std.specs.List.{list_any}
use Rattle.dita_doc.specs.Tree.{size_of}
use Rattle.html_tables.specs.Walk.{AreColumns, Names, content_named, element_named}
use Rattle.html_spec.specs.Tables.{column_names}
use Rattle.readers.specs.Named.{name_at, under_names}
use Rattle.html_tables.proofs.ColumnLaws.{names_column, names_inside, names_other, way_ends, way_more, way_same}
use Rattle.html_tables.proofs.columns.+append_columns.Goals as goal

pub returns-in-End : goal.returns-in-End
returns-in-End t c = λ names before are.
    way_ends _ _ _ (ap (λ all. column_names (under_names names all)) c.in-End.ensures.content)
    (c.loop-rest.invariant.way names before are)

pub loop-rest-preserved-in-Chars : goal.loop-rest-preserved-in-Chars
loop-rest-preserved-in-Chars t c = record {
  way = λ names before are.
      way_same _ _ _ _ (ap (λ all. column_names (under_names names all)) c.in-Chars.ensures.content)
      (c.loop-rest.invariant.way names before are);
  size = omega (arith, ap size_of c.in-Chars.ensures.content);
}

pub loop-rest-preserved-in_ok-append_columns-in-Element : goal.loop-rest-preserved-in_ok-append_columns-in-Element
loop-rest-preserved-in_ok-append_columns-in-Element t c = record {
  way = λ names before are.
      let name = name_at names c.in-Element.node.now.origin in
      way_more _ _ _ _ _ _
      (names_inside _ (element_named names c.in-Element.node.now) (content_named names c.in-Element.inside)
      (content_named names c.in-Element.rest) (ap (under_names names) c.in-Element.ensures.content)
      (c.if-is_transparent.ensures name (c.tokens_of-tokens.ensures name)))
      (λ seen known. c.in_ok-append_columns-in-Element.ensures names seen known)
      (c.loop-rest.invariant.way names before are);
  size = omega (arith, ap size_of c.in-Element.ensures.content);
}

pub loop-rest-preserved-in_ok-append-in-Element : goal.loop-rest-preserved-in_ok-append-in-Element
loop-rest-preserved-in_ok-append-in-Element t c = record {
  way = λ names before are.
      let name = name_at names c.in-Element.node.now.origin in
      way_more _ _ _ _ _ _
      (names_column _ (element_named names c.in-Element.node.now) (content_named names c.in-Element.inside)
      (content_named names c.in-Element.rest) (ap (under_names names) c.in-Element.ensures.content)
      (c.if-is_transparent.ensures name (c.tokens_of-tokens.ensures name))
      (c.if-has_token.ensures ∙ ap (list_any (bytes_eq (codes "topic/colspec"))) (c.tokens_of-tokens.ensures name)))
      (λ (seen : Names) known. subst (λ value. AreColumns c.append.new.self (seen ++ value ∷ [])) c.value_of.ensures
      (c.in_ok-append-in-Element.ensures seen known))
      (c.loop-rest.invariant.way names before are);
  size = omega (arith, ap size_of c.in-Element.ensures.content);
}

pub loop-rest-preserved : goal.loop-rest-preserved
loop-rest-preserved t c = record {
  way = λ names before are.
      let name = name_at names c.in-Element.node.now.origin in
      way_same _ _ _ _
      (names_other _ (element_named names c.in-Element.node.now) (content_named names c.in-Element.inside)
      (content_named names c.in-Element.rest) (ap (under_names names) c.in-Element.ensures.content)
      (c.if-is_transparent.ensures name (c.tokens_of-tokens.ensures name))
      (c.if-has_token.ensures ∙ ap (list_any (bytes_eq (codes "topic/colspec"))) (c.tokens_of-tokens.ensures name)))
      (c.loop-rest.invariant.way names before are);
  size = omega (arith, ap size_of c.in-Element.ensures.content);
}
