-- What holds of each element of content, however deep it stands (own).
use Rattle.map_spec.specs.Written.{Element, Written, End, Chars, Node}
use Rattle.conref_targets.specs.Origin.{whole_of}
use Rattle.conref_targets.specs.declared.origin.Whole.{Whole}

-- of each element among nodes and below
abbrev pub OfEach : (Element → Type 0) → Written → Type 0
OfEach P End = Unit {0}
OfEach P (Chars text doc rest) = OfEach P rest
OfEach P (Node element inside rest) = P element × OfEach P inside × OfEach P rest

-- of an element, and of each that it holds
abbrev pub OfWhole : (Element → Type 0) → Whole → Type 0
OfWhole P whole = P (whole_of whole).0 × OfEach P (whole_of whole).1
