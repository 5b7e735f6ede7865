-- Heads at places of a list.
use Rattle.std.proofs.Common.{◌≡◌, ◌<◌, ℕ, List, Some, length, get_or, refl, ap, ◌∙◌}
use Rattle.std.specs.Prelude.{◌↔◌, Contains, option_map, slice_get}
use Rattle.std.proofs.lemmas.Option.{slice_get-map, slice_get_read}
use Rattle.owl_close.specs.Imports.{HasImport, Imports, IsNamedAt, IsNamedBy, heads_of}
use Rattle.owl_close.specs.Searches.{IsImported}
use Rattle.owl_doc.specs.Heads.{head_of}
use Rattle.owl_doc.specs.declared.head.Head as held

pub head_at : (heads : List held.Head) (place : ℕ) (head : held.Head) → place < length heads → head ≡ get_or heads place head → slice_get (heads_of heads) place ≡ Some (head_of head)
head_at heads place head h e = slice_get-map head_of heads place ∙ ap (option_map head_of) (slice_get_read heads (length heads) place head refl h e)

pub named_at : (heads : List held.Head) (iri : List ℕ) (place : ℕ) (head : held.Head) → place < length heads → head ≡ get_or heads place head → IsNamedBy (head_of head) iri → IsNamedAt (heads_of heads) iri place
named_at heads iri place head h e n = rw (head_at heads place head h e) n

pub named_by : (heads : List held.Head) (iri : List ℕ) (place : ℕ) (head : held.Head) → place < length heads → head ≡ get_or heads place head → IsNamedAt (heads_of heads) iri place → IsNamedBy (head_of head) iri
named_by heads iri place head h e n = rw (head_at heads place head h e) at n

-- the imports of the document at a place
pub imported_at : (heads : List held.Head) (place : ℕ) (head : held.Head) → place < length heads → head ≡ get_or heads place head → (iri : List ℕ) → Contains head.imports.items iri ↔ HasImport (heads_of heads) place iri
imported_at heads place head h e iri = (λ m. rw (head_at heads place head h e) m, λ m. rw (head_at heads place head h e) at m)

pub imports_at : (heads : List held.Head) (place : ℕ) (head : held.Head) → place < length heads → head ≡ get_or heads place head → (to : ℕ) → IsImported (heads_of heads) head.imports.items to ↔ Imports (heads_of heads) place to
imports_at heads place head h e to = (
  λ i. record { iri = i.iri; import = (imported_at heads place head h e i.iri).0 i.inside; names = i.names },
  λ i. record { iri = i.iri; inside = (imported_at heads place head h e i.iri).1 i.import; names = i.names },
)
