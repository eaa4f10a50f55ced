-- Each page of a build in the language of the tests is a line.
use Rattle.std.proofs.Common.{◌≡◌, ◌++◌, ℕ, Bool, true, false, List, [], ◌∷◌, All, if◌then◌else◌, map, nat_le, refl}
use Rattle.std.proofs.lemmas.List.Elements.{All-cons, All-nil}
use Rattle.build_spec.specs.Built.{Done, Page, TooLarge, built_pages}
use Rattle.dita_doc.specs.Lines.{ends_with_line}
use Rattle.desk_session.specs.Answers.{PagesEndWithLine}
use Rattle.desk_work.specs.Outcome.{contents_name, total_limit}
use Rattle.lock_examples.specs.LineLanguage.{bytes_of_all, line_language, names_in, page_of, pages_of}

abbrev EndsWithLine : Page → Type 0
EndsWithLine page = ends_with_line page.1 ≡ true

lines_of_all : (names : List (List ℕ)) → All EndsWithLine (map page_of names)
lines_of_all [] = All-nil EndsWithLine
lines_of_all (name ∷ names) = All-cons EndsWithLine (page_of name) (map page_of names) refl (lines_of_all names)

by_size : (fits : Bool) (pages : List Page) (total : ℕ) → All EndsWithLine pages
    → All EndsWithLine (built_pages (if fits then Done pages [] else TooLarge total))
by_size true pages total all = all
by_size false pages total all = All-nil EndsWithLine

pub pages_end : PagesEndWithLine line_language.clean
pages_end state root val =
    let pages = pages_of (names_in state) in
    by_size (nat_le (bytes_of_all pages) total_limit) pages (bytes_of_all pages)
    (lines_of_all (names_in state ++ contents_name ∷ []))
