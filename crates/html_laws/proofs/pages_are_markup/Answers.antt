use Rattle.html_laws.proofs.BlocksLaws.{body_markup}
use Rattle.html_laws.proofs.BuiltLaws.{build_is_pages}
use Rattle.html_laws.proofs.ContentsLaws.{contents_is_page}
use Rattle.html_laws.proofs.PageLaws.{page_is_page}
use Rattle.html_laws.proofs.TermsLaws.{terms_are_page}
use Rattle.html_laws.proofs.pages_are_markup.Goals as goal

pub returns : goal.returns
returns c = record {
  body = body_markup;
  page = page_is_page;
  contents = contents_is_page;
  built = build_is_pages;
  terms = terms_are_page;
}
