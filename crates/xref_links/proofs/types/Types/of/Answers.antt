use Rattle.std.proofs.Common.{◌∙◌, ap, refl}
use Rattle.std.specs.Prelude.{◌==◌, bytes_eq, codes, length, not}
use Rattle.std.specs.List.{list_any}
use Rattle.dita_doc.specs.ClassValue.{words_of}
use Rattle.xref_links.proofs.TypeLaws.{any_last, any_more, token_last, token_more}
use Rattle.xref_links.proofs.types.Types.of.Goals as goal

pub loop-word-init : goal.loop-word-init
loop-word-init c = record { any = refl; topic = refl; image = refl; xref = refl; link = refl }

pub loop-word-preserved : goal.loop-word-preserved
loop-word-preserved c =
    let all = words_of c.tokens_of-rest.result.now in
    let before = words_of c.loop-word.rest.now in
    let behind = words_of c.in-Some.more.now in
    let word = c.in-Some.word.now in
    let is = c.loop-word.invariant in
    let first = c.in-Some.ensures.words in
    record {
      any = any_more word all before behind c.loop-word.types.has_types c.with-types.result.has_types is.any first
          c.with-types.ensures.any;
      topic = token_more (codes "topic/topic") word all before behind c.loop-word.types.is_topic
          c.with-types.result.is_topic is.topic first c.with-types.ensures.topic;
      image = token_more (codes "topic/image") word all before behind c.loop-word.types.is_image
          c.with-types.result.is_image is.image first c.with-types.ensures.image;
      xref = token_more (codes "topic/xref") word all before behind c.loop-word.types.is_xref
          c.with-types.result.is_xref is.xref first c.with-types.ensures.xref;
      link = token_more (codes "topic/link") word all before behind c.loop-word.types.is_link
          c.with-types.result.is_link is.link first c.with-types.ensures.link;
    }

pub returns : goal.returns
returns c = λ name.
    let all = words_of c.tokens_of-rest.result.now in
    let before = words_of c.loop-word.rest.now in
    let is = c.loop-word.invariant in
    let same = c.tokens_of-rest.ensures name in
    record {
      any = any_last all before c.loop-word.types.has_types is.any c.in_default.ensures
          ∙ ap (λ words. not (length words == 0)) same;
      topic = token_last (codes "topic/topic") all before c.loop-word.types.is_topic is.topic c.in_default.ensures
          ∙ ap (list_any (bytes_eq (codes "topic/topic"))) same;
      image = token_last (codes "topic/image") all before c.loop-word.types.is_image is.image c.in_default.ensures
          ∙ ap (list_any (bytes_eq (codes "topic/image"))) same;
      xref = token_last (codes "topic/xref") all before c.loop-word.types.is_xref is.xref c.in_default.ensures
          ∙ ap (list_any (bytes_eq (codes "topic/xref"))) same;
      link = token_last (codes "topic/link") all before c.loop-word.types.is_link is.link c.in_default.ensures
          ∙ ap (list_any (bytes_eq (codes "topic/link"))) same;
    }
