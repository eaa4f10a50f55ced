-- Which origins are of this machine (own). What a header `Origin` holds is said in RFC 6454, section 6.2: a scheme, a host,
-- and a port if it is not that of the scheme.
use Rattle.std.specs.Prelude.{◌&&◌, ◌==◌, ℕ, Bool, true, not, List, [], ◌∷◌, codes, bytes_eq, drop, length, take}
use Rattle.std.specs.List.{list_all, list_any}
use Rattle.dita_doc.specs.Bytes.{colon, is_digit}

-- no port, or a colon and the digits of one
abbrev pub is_port : List ℕ → Bool
is_port [] = true
is_port (first ∷ digits) = first == colon && (not (length digits == 0) && list_all is_digit digits)

-- a beginning, and a port behind it
abbrev pub is_behind : List ℕ → List ℕ → Bool
is_behind origin front = bytes_eq (take (length front) origin) front && is_port (drop (length front) origin)

-- the host 127.0.0.1 or localhost, by http or https, at any port
abbrev pub is_local : List ℕ → Bool
is_local origin = list_any (is_behind origin) (codes "http://127.0.0.1" ∷ codes "http://localhost"
    ∷ codes "https://127.0.0.1" ∷ codes "https://localhost" ∷ [])
