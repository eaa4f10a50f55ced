-- Documents that the hrefs of what was merged and put name (own): answers name each of them.
use Rattle.std.specs.Prelude.{List}
use Rattle.doc_maker.specs.Building.{Building, Top, Within}
use Rattle.readers.specs.Told.{Told}
use Rattle.conref_targets.specs.Hrefs.{AreNamed, HasNamed, HaveNamed}
use Rattle.conref_pull.specs.Putting.{built}
use Rattle.conref_pull.specs.declared.merge.Merged.{Merged}
use Rattle.conref_pull.specs.declared.resolver.Resolver.{Resolver}

-- of those of an element that is merged
abbrev pub MergedNamed : List Told → Merged → Type 0
MergedNamed told merged = AreNamed told merged.href_doc merged.attributes

-- of those of all that was put
abbrev pub HaveNamedIn : List Told → Building → Type 0
HaveNamedIn told (Top content) = HaveNamed told content
HaveNamedIn told (Within outer element content) =
    HaveNamedIn told outer × HasNamed told element × HaveNamed told content

abbrev pub PutNamed : List Told → Resolver → Type 0
PutNamed told resolver = HaveNamedIn told (built resolver)
