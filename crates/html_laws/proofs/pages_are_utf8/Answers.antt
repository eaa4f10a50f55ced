use Rattle.html_laws.proofs.BlocksUtf8Laws.{body_utf8}
use Rattle.html_laws.proofs.BuiltUtf8Laws.{build_utf8, terms_utf8}
use Rattle.html_laws.proofs.ContentUtf8Laws.{world_utf8}
use Rattle.html_laws.proofs.ContentsUtf8Laws.{contents_utf8}
use Rattle.html_laws.proofs.PageUtf8Laws.{page_utf8}
use Rattle.html_laws.proofs.pages_are_utf8.Goals as goal

pub returns : goal.returns
returns c = record {
  body = body_utf8;
  page = page_utf8;
  contents = contents_utf8;
  built = build_utf8;
  terms = terms_utf8;
  read = world_utf8;
}
