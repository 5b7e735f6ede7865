-- What stands before a reification in the order has its set.
use Rattle.std.specs.Prelude.{◌≡◌, ◌<◌, ◌+◌, ℕ, List, [], ◌∷◌, ◌++◌, Option, Some, Contains, drop, get_or, length, slice_get, take}
use Rattle.std.proofs.Common.{append_assoc, inr, sym, ap, ◌∙◌, subst}
use Rattle.std.proofs.lemmas.List.{take-append-drop, take_more}
use Rattle.owl_kind.specs.Kinds.{Entity}
use Rattle.owl_list.proofs.FilterLaws.{in_filter}
use Rattle.owl_tree.specs.Trees.{Tree}
use Rattle.rdf_graph.specs.declared.term.Term.{Term}
use Rattle.rdf_graph.specs.declared.term.Term.TheVariants.{Blank}
use Rattle.rdf_graph.specs.declared.triple.Triple.{Triple}
use Rattle.rdf_meaning.specs.Nodes.{of_subject}
use Rattle.rdf_meaning.proofs.NodeLaws.{in_subject}
use Rattle.rdf_meaning.specs.Statements.{headers, is_annotation_triple, is_noted}
use Rattle.rdf_roles.proofs.NodeLaws.{keys_are}
use Rattle.rdf_roles.specs.OrderLaws.{leads_to_front}
use Rattle.rdf_roles.specs.Refusals.{AreNodesFormed}
use Rattle.rdf_roles.specs.Tables.{IsTableOf, RoleTable}
use Rattle.rdf_annotations.specs.Annotations.{AreSetsSoFar, HaveSetsBelow}
use Rattle.rdf_annotations.proofs.AnnotationLaws.{annotations_of_node, noter_is}

pub split_at : (xs : List ℕ) (i : ℕ) → i < length xs → xs ≡ take i xs ++ get_or xs i 0 ∷ drop (i + 1) xs
split_at xs i within =
    sym (take-append-drop (i + 1) xs) ∙ ap (λ (ys : List ℕ). ys ++ drop (i + 1) xs) (take_more xs i 0 within) ∙ append_assoc (take i xs) (get_or xs i 0 ∷ []) (drop (i + 1) xs)

pub sets_below : {N : Type 0} (Stands : Tree → N → Type 0) (g : List Triple) (k : List Entity) (header : Term) (roles : RoleTable) (of_nodes : List (Option N)) (empty : N) (passed rest : List ℕ) (number : ℕ) →
    headers g ≡ header ∷ [] → AreNodesFormed g → IsTableOf g roles → roles.order ≡ passed ++ number ∷ rest → AreSetsSoFar Stands g k roles passed of_nodes empty →
    HaveSetsBelow g k header roles of_nodes number
sets_below Stands g k header roles of_nodes empty passed rest number one formed table split so_far label at note t inside subject annotates other noter noter_at among =
    let is = noter_is g t (Blank noter) among in
    let keys = keys_are g roles.nodes table.nodes in
    let own =
    subst (λ (ts : List Triple). Contains ts t) (annotations_of_node g k header (Blank label) one formed (ap is_noted note))
    (in_filter (is_annotation_triple g k header) (of_subject g (Blank label)) t (in_subject g (Blank label) t inside subject) annotates) in
    so_far.have other
    (leads_to_front g roles.order table.order passed number rest split other (record {
      from = label;
      to = noter;
      from_at = subst (λ (ls : List (List ℕ)). slice_get ls number ≡ Some label) keys at;
      to_at = subst (λ (ls : List (List ℕ)). slice_get ls other ≡ Some noter) keys noter_at;
      leads = inr (record { note = is.0; under = note; triple = t; annotation = own; reified = is.1 });
    }))
    noter noter_at is.0
