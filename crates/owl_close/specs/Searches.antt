-- What the steps of a closure find, document by document.
use Rattle.std.specs.Prelude.{◌≡◌, ℕ, List, [], ◌∷◌, ◌++◌, Option, None, Some, IfNone, IfSome, cond, nat_eq, Contains}
use Rattle.std.specs.declared.cmp.Ordering.TheVariants.{Less}
use Rattle.std.specs.Ordering.{is_lt}
use Rattle.std.specs.List.{AllByRecursion, IsDistinct, list_any}
use Rattle.owl_characters.specs.Order.{text_cmp}
use Rattle.owl_close.specs.Imports.{Names, NamesNone}
use Rattle.owl_tree.specs.Ontologies.{Head}

-- the place behind the others, unless it is among them
abbrev pub with_place : List ℕ → ℕ → List ℕ
with_place places place = cond (list_any (nat_eq place) places) places (places ++ place ∷ [])

-- one of these imports names the document
pub record IsImported (heads : List Head) (imports : List (List ℕ)) (place : ℕ) : Type 0 where
  pub iri : List ℕ
  pub inside : Contains imports iri
  pub names : Names heads iri place

-- the places that these imports name stand behind the others, each once
pub record AddsImported (heads : List Head) (imports : List (List ℕ)) (old new : List ℕ) : Type 0 where
  pub more : List ℕ
  pub grown : new ≡ old ++ more
  pub imported : AllByRecursion (IsImported heads imports) more
  pub all : (place : ℕ) → IsImported heads imports place → Contains new place
  pub apart : IsDistinct nat_eq old → IsDistinct nat_eq new

-- of these imports that name no document it is the least
pub record IsLeastMissing (heads : List Head) (imports : List (List ℕ)) (iri : List ℕ) : Type 0 where
  pub inside : Contains imports iri
  pub none : NamesNone heads iri
  pub least : (other : List ℕ) → Contains imports other → NamesNone heads other → text_cmp other iri ≡ Less → ⊥

-- each of these imports names a document
abbrev pub LacksNone : List Head → List (List ℕ) → Type 0
LacksNone heads imports = (iri : List ℕ) → Contains imports iri → NamesNone heads iri → ⊥

-- the least of these imports that names no document, or none where each names one
pub record FindsLeast (heads : List Head) (imports : List (List ℕ)) (found : Option (List ℕ)) : Type 0 where
  pub some : IfSome found (IsLeastMissing heads imports)
  pub none : IfNone found (LacksNone heads imports)

-- the one that comes first in order of bytes
abbrev pub lesser_of : List ℕ → Option (List ℕ) → List ℕ
lesser_of iri None = iri
lesser_of iri (Some other) = cond (is_lt (text_cmp other iri)) other iri
