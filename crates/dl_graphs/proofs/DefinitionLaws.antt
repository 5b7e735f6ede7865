-- Laws of definitions of datatypes in an arena.
use Rattle.std.proofs.Common.{◌≡◌, ◌<◌, ◌≤◌, ℕ, List, [], ◌∷◌, length, get_or, refl, sym, ap, ◌∙◌, subst, arith}
use Rattle.std.specs.Prelude.{Option, None, Some}
use Rattle.std.specs.List.{AllByRecursion}
use Rattle.std.proofs.lemmas.Bool.{and_parts}
use Rattle.std.proofs.lemmas.List.{length-map}
use Rattle.std.proofs.lemmas.Option.{none-some, same_Some}
use Rattle.dl_rules.specs.Definitions.{Definition, datatype_in, datatype_over, definition_of, definition_over}
use Rattle.dl_rules.specs.Logical.{iri_in}
use Rattle.owl_tree.specs.declared.atom.Atom.{Atom}
use Rattle.owl_tree.specs.declared.atom.Atom.TheVariants as atom
use Rattle.owl_tree.specs.declared.tag.Tag.{Tag}
use Rattle.owl_tree.specs.declared.tag.Tag.TheVariants as tag
use Rattle.owl_tree.specs.OrderLaws.{same_tag}
use Rattle.owl_tree.specs.Rows.{Leaf, admits, is_tag, row_of}
use Rattle.owl_tree.specs.Shape.{IsShaped}
use Rattle.owl_tree.specs.Trees.{Tree, leaf, node, no_kids, kid, kids_in, kids_of, tag_of}
use Rattle.owl_tree.proofs.TreeLaws.{kids_of_list_of}
use Rattle.owl_arena.specs.Held.{tree_at, trees_at}
use Rattle.owl_arena.specs.Shared.{AreShared}
use Rattle.owl_arena.proofs.HeldLaws.{entry_at}
use Rattle.owl_tree.specs.declared.row.AtomSort.TheVariants as sort
use Rattle.dl_graphs.specs.declared.definitions.DefinitionIds.{DefinitionIds}
use Rattle.dl_graphs.specs.Uses.{IsDefinitionIf, datatype_leaf}
use Rattle.owl_tree.proofs.LeafLaws.{iri_leaf}

-- a leaf that names a datatype is known by it
leaf_naming : (t : Tag) (a : Atom) (iri : List ℕ) → datatype_over t (iri_in (leaf t a)) ≡ Some iri → leaf t a ≡ datatype_leaf iri
unfolding datatype_over
leaf_naming tag.Datatype (atom.Iri named) iri e = ap datatype_leaf (same_Some named iri e)
leaf_naming tag.Datatype (atom.Label l) iri e = absurd (none-some iri e)
leaf_naming tag.Datatype (atom.Literal l) iri e = absurd (none-some iri e)
leaf_naming tag.Datatype (atom.Number n) iri e = absurd (none-some iri e)
leaf_naming _ a iri e = absurd (none-some iri e)

node_names_none : (t : Tag) → datatype_over t None ≡ None
unfolding datatype_over
node_names_none tag.Datatype = refl
node_names_none _ = refl

pub datatype_is : (t : Tree) (iri : List ℕ) → datatype_in t ≡ Some iri → t ≡ datatype_leaf iri
datatype_is (leaf t a) iri e = leaf_naming t a iri e
datatype_is (node t ks) iri e = absurd (none-some iri (sym (node_names_none t) ∙ e))

datatype_row : row_of tag.Datatype ≡ Leaf sort.Iri
unfolding row_of
datatype_row = refl

pub named_by_tag : (t : Tree) → tag_of t ≡ tag.Datatype → datatype_in t ≡ iri_in t
unfolding datatype_over
named_by_tag t e = rw e refl

other_names_none : (t : Tag) (iri : Option (List ℕ)) → (t ≡ tag.Datatype → ⊥) → datatype_over t iri ≡ None
unfolding datatype_over
other_names_none tag.Datatype iri differs = absurd (differs refl)
other_names_none _ iri differs = refl

pub none_by_tag : (t : Tree) → (tag_of t ≡ tag.Datatype → ⊥) → datatype_in t ≡ None
none_by_tag t differs = other_names_none (tag_of t) (iri_in t) differs

-- Definitions.

other_defines_none : (t : Tag) (ts : List Tree) → (t ≡ tag.DatatypeDefinition → ⊥) → definition_over t ts ≡ None
unfolding definition_over
other_defines_none tag.DatatypeDefinition ts differs = absurd (differs refl)
other_defines_none _ ts differs = refl

pub no_definition : (t : Tree) → (tag_of t ≡ tag.DatatypeDefinition → ⊥) → definition_of t ≡ None
no_definition t differs = other_defines_none (tag_of t) _ differs

-- one that has not its two operands behind its annotations defines nothing
pub defines_none : (t : Tree) → tag_of t ≡ tag.DatatypeDefinition → (length (kids_in t) ≡ 3 → ⊥) → definition_of t ≡ None
unfolding definition_over
defines_none (leaf tag.DatatypeDefinition a) e differs = refl
defines_none (node tag.DatatypeDefinition no_kids) e differs = refl
defines_none (node tag.DatatypeDefinition (kid n no_kids)) e differs = refl
defines_none (node tag.DatatypeDefinition (kid n (kid d no_kids))) e differs = refl
defines_none (node tag.DatatypeDefinition (kid n (kid d (kid r no_kids)))) e differs = absurd (differs refl)
defines_none (node tag.DatatypeDefinition (kid n (kid d (kid r (kid s ks))))) e differs = refl
defines_none _ e differs = absurd (cc)

definition_tree : (t n d r : Tree) → tag_of t ≡ tag.DatatypeDefinition → kids_in t ≡ n ∷ d ∷ r ∷ [] → t ≡ node tag.DatatypeDefinition (kid n (kid d (kid r no_kids)))
definition_tree (leaf t a) n d r e kids = absurd (cc)
definition_tree (node t ks) n d r e kids = let same = sym (kids_of_list_of ks) ∙ ap kids_of kids in cc

-- what is defined is named by a leaf
defined_tag : (n d r : Tree) → IsShaped (node tag.DatatypeDefinition (kid n (kid d (kid r no_kids)))) → tag_of d ≡ tag.Datatype
unfolding row_of admits
defined_tag n d r h =
    let parts = and_parts (is_tag tag.Notes (tag_of n)) _ h.0.row in
    let front = and_parts (is_tag tag.Datatype (tag_of d)) _ parts.1 in
    sym ((same_tag tag.Datatype (tag_of d)).0 front.0)

definition_is : (n d r : Tree) (iri : List ℕ) → d ≡ datatype_leaf iri → definition_of (node tag.DatatypeDefinition (kid n (kid d (kid r no_kids)))) ≡ Some (record { datatype = iri; range = r })
unfolding definition_over
definition_is n d r iri e = rw e refl

-- with numbers
pub definition_there : (ts : List Tree) (id : ℕ) (n : ℕ) (ids : DefinitionIds) → AreShared ts → id < length ts → ids.datatype < length ts → ids.range < length ts → tag_of (tree_at ts id) ≡ tag.DatatypeDefinition →
    kids_in (tree_at ts id) ≡ tree_at ts n ∷ tree_at ts ids.datatype ∷ tree_at ts ids.range ∷ [] → IsDefinitionIf ts (Some ids) (definition_of (tree_at ts id))
definition_there ts id n ids shared h first second e kids =
    let d = tree_at ts ids.datatype in
    let r = tree_at ts ids.range in
    let is = definition_tree (tree_at ts id) (tree_at ts n) d r e kids in
    let shaped = subst IsShaped is (entry_at ts id shared h).shaped in
    let named = iri_leaf d tag.Datatype datatype_row (entry_at ts ids.datatype shared first).shaped (defined_tag (tree_at ts n) d r shaped) in
    subst (λ (o : Option Definition). IsDefinitionIf ts (Some ids) o) (sym (ap definition_of is ∙ definition_is (tree_at ts n) d r named.0 named.1))
    (record { datatype = named.1; range = refl; datatype_held = first; range_held = second })

-- the same where its kids are known by their places in a list
pub definition_by : (ts : List Tree) (id : ℕ) (kids : List ℕ) (d r : ℕ) → AreShared ts → id < length ts → tag_of (tree_at ts id) ≡ tag.DatatypeDefinition → 3 ≤ length kids → length kids < 4 → d ≡ get_or kids 1 d → r ≡ get_or kids 2 r →
    trees_at ts kids ≡ kids_in (tree_at ts id) → AllByRecursion (λ kid. kid < id) kids → IsDefinitionIf ts (Some (record { datatype = d; range = r })) (definition_of (tree_at ts id))
definition_by ts id (n ∷ first ∷ second ∷ []) d r shared h e least most is_first is_second kids below =
    let same : tree_at ts n ∷ tree_at ts d ∷ tree_at ts r ∷ [] ≡ kids_in (tree_at ts id) = ap (λ (k : ℕ). tree_at ts n ∷ tree_at ts k ∷ tree_at ts r ∷ []) is_first ∙ ap (λ (k : ℕ). tree_at ts n ∷ tree_at ts first ∷ tree_at ts k ∷ []) is_second ∙ kids in
    let first_below : first < id = below.1.0 in
    let second_below : second < id = below.1.1.0 in
    definition_there ts id n (record { datatype = d; range = r }) shared h (omega arith) (omega arith) e (sym same)
definition_by ts id [] d r shared h e least most is_first is_second kids below = absurd (omega arith)
definition_by ts id (n ∷ []) d r shared h e least most is_first is_second kids below = absurd (omega arith)
definition_by ts id (n ∷ first ∷ []) d r shared h e least most is_first is_second kids below = absurd (omega arith)
definition_by ts id (n ∷ first ∷ second ∷ third ∷ more) d r shared h e least most is_first is_second kids below = absurd (omega arith)

pub no_definition_by : (ts : List Tree) (id : ℕ) (kids : List ℕ) → tag_of (tree_at ts id) ≡ tag.DatatypeDefinition → (length kids ≡ 3 → ⊥) → trees_at ts kids ≡ kids_in (tree_at ts id) → IsDefinitionIf ts None (definition_of (tree_at ts id))
no_definition_by ts id kids e differs same =
    subst (λ (o : Option Definition). IsDefinitionIf ts None o) (sym (defines_none (tree_at ts id) e (λ l. differs (sym (length-map kids (tree_at ts)) ∙ (ap length same ∙ l))))) tt

pub no_definition_there : (ts : List Tree) (t : Tree) → (tag_of t ≡ tag.DatatypeDefinition → ⊥) → IsDefinitionIf ts None (definition_of t)
no_definition_there ts t differs = subst (λ (o : Option Definition). IsDefinitionIf ts None o) (sym (no_definition t differs)) tt

pub datatype_named : (iri : List ℕ) → datatype_in (datatype_leaf iri) ≡ Some iri
unfolding datatype_over
datatype_named iri = refl
