-- For what single trees are at fault, and with them the trees above them.
use Rattle.std.specs.Prelude.{◌≡◌, ◌<◌, ◌↔◌, ℕ, Bool, true, false, not, List, length, slice_index_or}
use Rattle.graph_walks.specs.Marks.{MarkNumbers}
use Rattle.owl_arena.specs.Held.{tree_at}
use Rattle.owl_breaches.specs.Sites.{Ontologies, axiom_closure}
use Rattle.owl_breaches.specs.Those.{HoldsOfOne, HoldsOfSome}
use Rattle.owl_doc.specs.Counts.{subtrees}
use Rattle.owl_kind.specs.Kinds.{Entity}
use Rattle.owl_tree.specs.declared.tag.Tag.{Tag}
use Rattle.owl_tree.specs.Trees.{Tree}
use Rattle.dl_rules.specs.Local.{AsksSimple, HasAnonymousKid, HasMisusedDatatype, HasWrongForm, HasWrongRange, IsMisnamed, IsTopData, IsUndeclared}
use Rattle.dl_rules.specs.Logical.{is_remark, logical}
use Rattle.dl_rules.specs.Properties.{IsSimple, property_in}
use Rattle.dl_local.specs.declared.faults.Local.{Local}
use Rattle.dl_local.specs.declared.faults.Local.TheVariants.{Undeclared, Misnamed, Datatype, Form, Range, TopData, NotSimple, Anonymous}
use Rattle.dl_local.specs.declared.faults.LocalFaults.{LocalFaults}

-- the tree itself is at fault
abbrev pub IsAtFault : Ontologies → Local → Tree → Type 0
IsAtFault c Undeclared t = IsUndeclared c.kinds t
IsAtFault c Misnamed t = IsMisnamed t
IsAtFault c Datatype t = HasMisusedDatatype (axiom_closure c) t
IsAtFault c Form t = HasWrongForm t
IsAtFault c Range t = HasWrongRange t
IsAtFault c TopData t = IsTopData t
IsAtFault c NotSimple t = AsksSimple (axiom_closure c) t
IsAtFault c Anonymous t = HasAnonymousKid t

-- what of a tree is tested: names everywhere, all else but for remarks
abbrev pub counted : Local → Tree → List Tree
counted Undeclared t = subtrees t
counted Misnamed t = subtrees t
counted _ t = logical t

-- a node with this tag is tested, and what stands below it
abbrev pub counts : Local → Tag → Bool
counts Undeclared t = true
counts Misnamed t = true
counts _ t = not (is_remark t)

-- some tree that counts, of one and those below it, is at fault
abbrev pub HasFault : Ontologies → Local → Tree → Type 0
HasFault c test t = HoldsOfOne (IsAtFault c test) (counted test t)

abbrev pub has : LocalFaults → Local → Bool
has faults Undeclared = faults.undeclared
has faults Misnamed = faults.misnamed
has faults Datatype = faults.datatype
has faults Form = faults.form
has faults Range = faults.range
has faults TopData = faults.top_data
has faults NotSimple = faults.not_simple
has faults Anonymous = faults.anonymous

abbrev pub no_faults : LocalFaults
no_faults = record {
  undeclared = false;
  misnamed = false;
  datatype = false;
  form = false;
  range = false;
  top_data = false;
  not_simple = false;
  anonymous = false;
}

-- the faults of the tree in this place
abbrev pub faults_of : List LocalFaults → ℕ → LocalFaults
faults_of found id = slice_index_or found id no_faults

-- these are the faults of the tree itself
abbrev pub AreOwnFaults : Ontologies → Tree → LocalFaults → Type 0
AreOwnFaults c t faults = (test : Local) → (has faults test ≡ true) ↔ IsAtFault c test t

-- these are the faults of the tree and of those below it
abbrev pub AreFaultsOf : Ontologies → Tree → LocalFaults → Type 0
AreFaultsOf c t faults = (test : Local) → (has faults test ≡ true) ↔ HasFault c test t

-- so it is of the trees in the first places
abbrev pub AreFaultsBelow : ℕ → Ontologies → List Tree → List LocalFaults → Type 0
AreFaultsBelow count c ts found = (id : ℕ) → id < count → AreFaultsOf c (tree_at ts id) (faults_of found id)

-- the faults of each tree, by its place
pub record AreLocalFaults (c : Ontologies) (ts : List Tree) (found : List LocalFaults) : Type 0 where
  pub size : length found ≡ length ts
  pub told : AreFaultsBelow (length ts) c ts found

-- the marks are of the trees that are properties which are not simple
abbrev pub AreCompositeMarks : Ontologies → List Tree → List Bool → Type 0
AreCompositeMarks c ts marks = MarkNumbers (length ts) (λ id. HoldsOfSome (λ p. IsSimple (axiom_closure c) p → ⊥) (property_in (tree_at ts id))) marks

-- what is known of the import closure: what it declares, and which of these trees have a datatype that is misused, or are properties that are not simple
pub record IsKnown (c : Ontologies) (ts : List Tree) (kinds : List Entity) (misused composite : List Bool) : Type 0 where
  pub kinds_are : c.kinds ≡ kinds
  pub misused_are : MarkNumbers (length ts) (λ id. HasMisusedDatatype (axiom_closure c) (tree_at ts id)) misused
  pub composite_are : AreCompositeMarks c ts composite
