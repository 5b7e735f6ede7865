-- Tables of prefixes, and what they make of names and IRIs (Structural Specification, section 2.4).
use Rattle.std.specs.Prelude.{◌≡◌, ℕ, ◌<◌, ◌⊎◌, Bool, true, false, ◌||◌, List, [], ◌∷◌, ◌++◌, length, Option, Some, codes, find, unwrap_or, Contains, slice_get}
use Rattle.std.specs.declared.cmp.Ordering.TheVariants.{Less}
use Rattle.std.specs.Char.{is_ascii_alphabetic, is_ascii_alphanumeric}
use Rattle.std.specs.List.{AllByRecursion}
use Rattle.std.specs.Option.{option_map}
use Rattle.std.specs.Str.{encode_utf8_all}
use Rattle.owl_characters.specs.Iri.{AllAre, is_among}
use Rattle.owl_characters.specs.Names.{IsPrefixName}
use Rattle.owl_characters.specs.Order.{text_cmp, text_eq}
use Rattle.rdf_terms.specs.Vocabulary.{rdf, rdfs, xsd, owl}
use Rattle.owl_atom.specs.declared.prefixes.Prefix.{Prefix}

-- the prefix of this name
abbrev pub prefix_in : List Prefix → List ℕ → Option Prefix
prefix_in prefixes name = find (λ prefix. text_eq prefix.name name) prefixes

-- the names ascend by their bytes, so each stands once
abbrev pub AreAscending : List Prefix → Type 0
AreAscending [] = Unit {0}
AreAscending (prefix ∷ others) = AllByRecursion (λ other. text_cmp prefix.name other.name ≡ Less) others × AreAscending others

-- What every table is: the names ascend, and each is the name of a prefix.
pub record IsTable (prefixes : List Prefix) : Type 0 where
  pub ascending : AreAscending prefixes
  pub names : AllByRecursion (λ prefix. IsPrefixName prefix.name) prefixes

-- a name that was declared, and one that stands for one IRI alone
abbrev pub is_declared : List Prefix → List ℕ → Bool
is_declared prefixes name = unwrap_or (option_map (λ prefix. prefix.declared) (prefix_in prefixes name)) false

abbrev pub is_fixed : List Prefix → List ℕ → Bool
is_fixed prefixes name = unwrap_or (option_map (λ prefix. prefix.fixed) (prefix_in prefixes name)) false

-- a prefix that is declared beforehand, and may be declared once again with the same IRI
abbrev pub fixed : List ℕ → List ℕ → Prefix
fixed name iri = record { name = name; iri = iri; fixed = true; declared = false }

abbrev pub fixed_prefixes : List Prefix
fixed_prefixes =
    fixed (codes "owl") (owl []) ∷ fixed (codes "rdf") (rdf []) ∷ fixed (codes "rdfs") (rdfs []) ∷ fixed (codes "xsd") (xsd []) ∷ []

-- the IRI of a prefix
abbrev pub iri_of : List Prefix → List ℕ → Option (List ℕ)
iri_of prefixes name = option_map (λ prefix. prefix.iri) (prefix_in prefixes name)

-- the IRI that an abbreviated one stands for: that of its prefix, and its local part behind it
abbrev pub expansion : List Prefix → List ℕ → List ℕ → Option (List ℕ)
expansion prefixes name local = option_map (λ iri. iri ++ local) (iri_of prefixes name)

-- letters, digits, `_` and `-`, of which neither a digit nor `-` is the first
abbrev pub is_plain_start : ℕ → Bool
is_plain_start c = is_ascii_alphabetic c || is_among (codes "_") c

abbrev pub is_plain_character : ℕ → Bool
is_plain_character c = is_ascii_alphanumeric c || is_among (codes "_-") c

abbrev pub IsPlainLocal : List ℕ → Type 0
IsPlainLocal [] = ⊥
IsPlainLocal (c ∷ cs) = (is_plain_start c ≡ true) × AllAre is_plain_character cs

-- the IRI is the prefix's, and then this plain local part
pub record Cuts (prefix : Prefix) (iri local : List ℕ) : Type 0 where
  pub parts : iri ≡ prefix.iri ++ local
  pub plain : IsPlainLocal local

-- A longer IRI is better, and of two that are as long the lesser name.
abbrev pub IsBetter : Prefix → Prefix → Type 0
IsBetter best other =
    (length other.iri < length best.iri) ⊎ ((length other.iri ≡ length best.iri) × (text_cmp best.name other.name ≡ Less))

-- How an IRI is abbreviated: by the prefix at this place, with the local part that begins at this byte. Every other
-- prefix that cuts the IRI is worse.
pub record Shortens (prefixes : List Prefix) (iri : List ℕ) (place begin : ℕ) : Type 0 where
  pub prefix : Prefix
  pub local : List ℕ
  pub stands : slice_get prefixes place ≡ Some prefix
  pub cuts : Cuts prefix iri local
  pub begins : begin ≡ length (encode_utf8_all prefix.iri)
  pub best : (other : Prefix) (rest : List ℕ) → Contains prefixes other → Cuts other iri rest → (other ≡ prefix) ⊎ IsBetter prefix other
  -- it expands to the very same IRI
  pub back : expansion prefixes prefix.name local ≡ Some iri
