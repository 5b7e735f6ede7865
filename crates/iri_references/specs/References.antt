-- References to IRIs: their schemes and their parts (RFC 3986, sections 3 and 4.1, and appendix B).
use Rattle.std.specs.Prelude.{ℕ, Bool, true, false, ◌&&◌, ◌==◌, List, [], ◌∷◌, Option, None, Some, codes, drop, nat_eq, if◌then◌else◌}
use Rattle.std.specs.Char.{is_ascii_alphabetic}
use Rattle.std.specs.List.{after_first, before_first, list_all, list_any, position_or_len, starts_with}
use Rattle.owl_characters.specs.Iri.{is_scheme_character}
use Rattle.owl_characters.specs.Names.{begins_with}

-- nothing stands in the list
abbrev pub is_empty : {X : Type 0} → List X → Bool
is_empty [] = true
is_empty (x ∷ xs) = false

abbrev pub colon : ℕ
colon = 0x3A

abbrev pub slash : ℕ
slash = 0x2F

abbrev pub question_mark : ℕ
question_mark = 0x3F

abbrev pub number_sign : ℕ
number_sign = 0x23

-- what stands before the first mark, or all where there is none
abbrev pub before : ℕ → List ℕ → List ℕ
before mark cs = before_first (λ c. c == mark) cs

-- what stands behind the first mark, where there is one
abbrev pub behind : ℕ → List ℕ → Option (List ℕ)
behind mark cs = if list_any (λ c. c == mark) cs then Some (after_first (λ c. c == mark) cs) else None

-- the first mark and what stands behind it, or nothing where there is none
abbrev pub from_mark : ℕ → List ℕ → List ℕ
from_mark mark cs = drop (position_or_len (λ c. c == mark) cs) cs

-- a letter, and then letters, digits, `+`, `-` and `.` (section 3.1)
abbrev pub is_scheme : List ℕ → Bool
is_scheme cs = begins_with is_ascii_alphabetic cs && list_all is_scheme_character cs

-- a scheme and a colon, and whatever follows
abbrev pub has_scheme : List ℕ → Bool
has_scheme cs = list_any (λ c. c == colon) cs && is_scheme (before colon cs)

-- The parts of a reference without a scheme, or of what stands behind the scheme of an IRI. A part that is there and
-- empty is `Some []`.
pub record Parts : Type 0 where
  pub authority : Option (List ℕ)
  pub path : List ℕ
  pub query : Option (List ℕ)
  pub fragment : Option (List ℕ)

-- authority and path: what stands before the query and the fragment
abbrev pub hierarchy_of : List ℕ → List ℕ
hierarchy_of cs = before question_mark (before number_sign cs)

abbrev pub has_authority : List ℕ → Bool
has_authority hierarchy = starts_with nat_eq hierarchy (codes "//")

-- behind `//`, up to the next slash (section 3.2)
abbrev pub authority_of : List ℕ → Option (List ℕ)
authority_of hierarchy = if has_authority hierarchy then Some (before slash (drop 2 hierarchy)) else None

-- the rest (section 3.3)
abbrev pub path_of : List ℕ → List ℕ
path_of hierarchy = if has_authority hierarchy then from_mark slash (drop 2 hierarchy) else hierarchy

-- the fragment stands behind the first `#`, and the query behind the first `?` before it (sections 3.4 and 3.5)
unfoldable pub parts_of : List ℕ → Parts
parts_of cs = record {
  authority = authority_of (hierarchy_of cs);
  path = path_of (hierarchy_of cs);
  query = behind question_mark (before number_sign cs);
  fragment = behind number_sign cs;
}
