-- What a base is kept as, so that a reference goes behind its front without a look at all of it.
use Rattle.std.specs.Prelude.{◌≡◌, ℕ, Bool, true, false, not, ◌==◌, List, ◌++◌, codes, drop}
use Rattle.std.specs.List.{AllByRecursion}
use Rattle.owl_characters.specs.Iri.{AllAre, IsIri}
use Rattle.iri_references.specs.References.{colon, has_scheme, hierarchy_of, number_sign, parts_of, question_mark, slash}
use Rattle.iri_references.specs.DotSegments.{is_dot_segment, segments_of}
use Rattle.iri_references.specs.Resolution.{through_last_slash}
use Rattle.iri_references.specs.Views.{has_own_path, keeps_path}

-- the mark is not among these characters
abbrev pub Lacks : ℕ → List ℕ → Type 0
Lacks mark cs = AllAre (λ c. not (c == mark)) cs

abbrev pub HaveNoDots : List (List ℕ) → Type 0
HaveNoDots segments = AllByRecursion (λ segment. is_dot_segment segment ≡ false) segments

-- An IRI with an authority, up to and with a slash of its path. The place is the authority and the path before that slash,
-- of which no segment behind the authority is a dot segment.
pub record IsFront (front : List ℕ) : Type 0 where
  pub scheme : List ℕ
  pub place : List ℕ
  pub parts : front ≡ scheme ++ codes "://" ++ place ++ codes "/"
  pub named : Lacks colon scheme
  pub no_query : Lacks question_mark place
  pub no_fragment : Lacks number_sign place
  pub plain : HaveNoDots (drop 1 (segments_of place))

-- no slash stands before the query
abbrev pub EndsPath : List ℕ → Type 0
EndsPath rest = Lacks slash (hierarchy_of rest)

-- a text that is cut behind its front
pub record IsCutFront (text front rest : List ℕ) : Type 0 where
  pub whole : text ≡ front ++ rest
  pub fronts : IsFront front
  pub ends : EndsPath rest

-- A base in two parts. Where it grows, the first is its front.
pub record IsBase (front rest : List ℕ) (grows : Bool) : Type 0 where
  pub iri : IsIri (front ++ rest)
  pub fronts : grows ≡ true → IsFront front
  pub ends : grows ≡ true → EndsPath rest

-- A reference that goes behind the front of a base as it is, cut behind the last slash of its path.
pub record IsCutBehind (reference through rest : List ℕ) : Type 0 where
  pub scheme : has_scheme reference ≡ false
  pub moves : keeps_path (parts_of reference) ≡ false
  pub relative : has_own_path (parts_of reference) ≡ false
  pub plain : HaveNoDots (segments_of (parts_of reference).path)
  pub cut : through ≡ through_last_slash (parts_of reference).path
  pub parts : reference ≡ through ++ rest
