use Rattle.html_page.proofs.page.large_page.Goals as goal

pub returns : goal.returns
returns c = (c.in_ok-bytes.ensures, c.in_ok-faults.ensures)
