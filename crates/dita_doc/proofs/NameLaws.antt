-- The segments of a name.
use Rattle.std.specs.Prelude.{◌≡◌, ◌&&◌, ℕ, List, [], ◌∷◌, ◌++◌, length, ◌<◌}
use Rattle.std.specs.List.{list_all}
use Rattle.std.proofs.Common.{refl}
use Rattle.std.proofs.Math.Bool.{and-true}
use Rattle.dita_doc.specs.Bytes.{slash, is_slash}
use Rattle.dita_doc.specs.Cut.{Lacks, IsCutAt}
use Rattle.dita_doc.specs.Name.{segments_of, is_segment}
use Rattle.dita_doc.proofs.PartLaws as parts

-- a front without `/` is the first segment of what it begins
pub segments_after : (front back : List ℕ) → Lacks slash front
    → segments_of (front ++ slash ∷ back) ≡ front ∷ segments_of back
segments_after front back e = parts.parts_after is_slash front back slash refl e

-- without `/` there is one segment
pub one_segment : (front : List ℕ) → Lacks slash front → segments_of front ≡ front ∷ []
one_segment front e = parts.one_part is_slash front e

-- the test of the segments of what was cut
pub segments_cut : (bytes front back : List ℕ) → IsCutAt slash bytes front back
    → list_all is_segment (segments_of bytes) ≡ (is_segment front && list_all is_segment (segments_of back))
segments_cut bytes front back cut = rw (cut.whole, segments_after front back cut.first) refl

-- and of those of what has no `/`
pub one_uncut : (bytes : List ℕ) → Lacks slash bytes → list_all is_segment (segments_of bytes) ≡ is_segment bytes
one_uncut bytes lacks = rw (one_segment bytes lacks, and-true (is_segment bytes)) refl

-- the back is shorter
pub shorter : (bytes front back : List ℕ) → IsCutAt slash bytes front back → length back < length bytes
shorter bytes front back cut = rw cut.whole (parts.shorter front back slash)
