-- References, joined names and relative paths that are known by hand.
use Rattle.std.specs.Prelude.{◌≡◌, [], Ok, Err, codes}
use Rattle.std.proofs.Common.{refl}
use Rattle.href_text.specs.Reference.{reference_of}
use Rattle.href_text.specs.Joined.{joined, relative_path}
use Rattle.href_text.specs.declared.fault.RefFault.TheVariants as faults

-- References

whole : reference_of (codes "a/b.dita#t/e")
    ≡ Ok (record { file = codes "a/b.dita"; topic = codes "t"; element = codes "e" })
whole = refl

own_topic : reference_of (codes "#./e") ≡ Ok (record { file = []; topic = codes "."; element = codes "e" })
own_topic = refl

colon_behind : reference_of (codes "a/b:c#t") ≡ Ok (record { file = codes "a/b:c"; topic = codes "t"; element = [] })
colon_behind = refl

outside : reference_of (codes "http://x/y") ≡ Err faults.External
outside = refl

outside_first : reference_of (codes "a:b#") ≡ Err faults.External
outside_first = refl

nothing_behind : reference_of (codes "a#") ≡ Err faults.BadFragment
nothing_behind = refl

two_signs : reference_of (codes "a#t#u") ≡ Err faults.BadFragment
two_signs = refl

three_parts : reference_of (codes "a#t/e/f") ≡ Err faults.BadFragment
three_parts = refl

no_value : reference_of [] ≡ Err faults.Empty
no_value = refl

-- Documents

up : joined (codes "m/x.ditamap") (codes "../t.dita") ≡ Ok (codes "t.dita")
up = refl

own : joined (codes "m/x.ditamap") [] ≡ Ok (codes "m/x.ditamap")
own = refl

folder : joined (codes "a/b") (codes ".") ≡ Ok (codes "a")
folder = refl

above : joined (codes "x.ditamap") (codes "../t.dita") ≡ Err faults.AboveRoot
above = refl

at_root : joined (codes "a/b") (codes "/x") ≡ Err faults.AboveRoot
at_root = refl

nothing_stays : joined (codes "a") (codes ".") ≡ Err faults.Empty
nothing_stays = refl

no_name : joined (codes "a") (codes "b c") ≡ Err faults.BadName
no_name = refl

-- Paths

other_folder : relative_path (codes "a/b.html") (codes "c/d.html") ≡ codes "../c/d.html"
other_folder = refl
