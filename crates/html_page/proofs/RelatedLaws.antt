-- The line of links.
use Rattle.std.specs.Prelude.{◌≡◌, ◌≤◌, ◌==◌, ℕ, false, List, [], ◌∷◌, ◌++◌, length, take, codes}
use Rattle.std.specs.List.{flat_map}
use Rattle.std.proofs.Common.{refl, append_assoc}
use Rattle.std.proofs.lemmas.Bool.{true≢false}
use Rattle.std.proofs.lemmas.List.{take_all}
use Rattle.dita_doc.specs.declared.content.PageLink.{PageLink}
use Rattle.dita_doc.specs.Lines.{line}
use Rattle.html_spec.specs.PageHtml.{link_item, related_line}

-- what stands before the links, and behind them
abbrev start : List ℕ
start = codes "<nav class=\"related\"><ul>"

abbrev end : List ℕ
end = codes "</ul></nav>"

-- if there are links, they have a line
line_of_links : (links : List PageLink) → (length links == 0) ≡ false
    → related_line links ≡ line (start ++ flat_map link_item links ++ end)
line_of_links [] e = absurd (true≢false e)
line_of_links (link ∷ links) e = refl

-- three pieces are a line
line_of_pieces : (before first second third : List ℕ)
    → ((before ++ first) ++ second) ++ line third ≡ before ++ line (first ++ second ++ third)
line_of_pieces before first second third = simp append_assoc

-- the line of links ends once all of them are written
pub related_written : (before out : List ℕ) (links : List PageLink) (i : ℕ)
    → (length links == 0) ≡ false → length links ≤ i
    → out ≡ (before ++ start) ++ flat_map link_item (take i links) → out ++ line end ≡ before ++ related_line links
related_written before out links i some all e =
    rw (e, take_all i links all, line_of_links links some)
    (line_of_pieces before start (flat_map link_item links) end)
