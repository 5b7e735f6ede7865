-- The ranges of datatypes, by their definitions, and which datatypes may not be used.
use Rattle.std.specs.Prelude.{◌≡◌, ◌<◌, ◌↔◌, ℕ, Bool, true, ◌&&◌, ◌||◌, not, nat_eq, if◌then◌else◌, List, length, Option, None, Some}
use Rattle.std.specs.Map.{lookup}
use Rattle.std.specs.Option.{option_map, option_or}
use Rattle.dl_rules.specs.Definitions.{Defines, Definition, datatype_in, is_given}
use Rattle.dl_rules.specs.Local.{literal_in}
use Rattle.owl_arena.specs.Held.{tree_at}
use Rattle.owl_characters.specs.Order.{text_eq}
use Rattle.owl_tree.specs.Trees.{Tree}
use Rattle.rdf_terms.specs.Literals.{LiteralParts}
use Rattle.rdf_terms.specs.Vocabulary.{is_reserved}
use Rattle.dl_graphs.specs.declared.ranges.DefinedRange.{DefinedRange}

-- an IRI with its range
abbrev pub Entry : Type 0
Entry = List ℕ × DefinedRange

-- one more definition gives this range
abbrev pub ranged : Option DefinedRange → ℕ → DefinedRange
ranged None range = record { range = range; is_only = true }
ranged (Some known) range = record { range = known.range; is_only = known.is_only && nat_eq known.range range }

-- the datatype with this IRI has got one more definition, with this range, and no other has
abbrev pub NotesRange : List ℕ → ℕ → List Entry → List Entry → Type 0
NotesRange iri range old new =
    (q : List ℕ) → lookup (text_eq q) new ≡ if text_eq iri q then Some (ranged (lookup (text_eq iri) old) range) else lookup (text_eq q) old

-- the definition is noted
pub record IsNoted (ts : List Tree) (d : Definition) (old new : List Entry) : Type 0 where
  pub range : ℕ
  pub is : tree_at ts range ≡ d.range
  pub held : range < length ts
  pub notes : NotesRange d.datatype range old new

-- so it is where there is one
abbrev pub NotesDefinition : List Tree → Option Definition → List Entry → List Entry → Type 0
NotesDefinition ts None old new = new ≡ old
NotesDefinition ts (Some d) old new = IsNoted ts d old new

-- what these axioms give as the range of the datatype
pub record IsRange (ts axioms : List Tree) (iri : List ℕ) (defined : DefinedRange) : Type 0 where
  pub held : defined.range < length ts
  pub given : Defines axioms iri (tree_at ts defined.range)
  pub only : (defined.is_only ≡ true) ↔ ((other : Tree) → Defines axioms iri other → other ≡ tree_at ts defined.range)

-- none, where none of them defines it
abbrev pub IsRangeIf : List Tree → List Tree → List ℕ → Option DefinedRange → Type 0
IsRangeIf ts axioms iri None = (range : Tree) → Defines axioms iri range → ⊥
IsRangeIf ts axioms iri (Some defined) = IsRange ts axioms iri defined

-- the table of the definitions among these axioms
abbrev pub AreRanges : List Tree → List Tree → List Entry → Type 0
AreRanges ts axioms table = (iri : List ℕ) → IsRangeIf ts axioms iri (lookup (text_eq iri) table)

-- a datatype with this range, if it is defined, may not be used
abbrev pub is_misused : List ℕ → Option DefinedRange → Bool
is_misused iri None = not (is_given iri)
is_misused iri (Some defined) = is_given iri || is_reserved iri || not defined.is_only

abbrev pub datatype_of : Option LiteralParts → Option (List ℕ)
datatype_of literal = option_map (λ (parts : LiteralParts). parts.datatype) literal

-- the datatype that a leaf names, or that of its literal
abbrev pub used_in : Tree → Option (List ℕ)
used_in t = option_or (datatype_in t) (datatype_of (literal_in t))
