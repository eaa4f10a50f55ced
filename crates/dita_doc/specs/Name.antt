-- Document names (own): 1 to 255 bytes, none below 33 and none 127, in segments separated by `/`.
-- No segment is empty, `.` or `..`. The single byte `-` is no document name.
use Rattle.std.specs.Prelude.{◌==◌, ◌&&◌, ℕ, Bool, not, List, length, nat_le, codes, bytes_eq}
use Rattle.std.specs.List.{list_all}
use Rattle.dita_doc.specs.Bytes.{delete, is_slash, parts_by}

abbrev pub name_limit : ℕ
name_limit = 255

-- a byte that may stand in a name
abbrev pub is_name_byte : ℕ → Bool
is_name_byte b = nat_le 33 b && not (b == delete)

-- the parts between the `/`s
abbrev pub segments_of : List ℕ → List (List ℕ)
segments_of name = parts_by is_slash name

-- a segment names a folder or a file, and not the folder itself or the one above it
abbrev pub is_segment : List ℕ → Bool
is_segment segment = not (length segment == 0) && not (bytes_eq segment (codes "."))
    && not (bytes_eq segment (codes ".."))

abbrev pub is_name : List ℕ → Bool
is_name bytes = nat_le (length bytes) name_limit && list_all is_name_byte bytes
    && list_all is_segment (segments_of bytes) && not (bytes_eq bytes (codes "-"))
