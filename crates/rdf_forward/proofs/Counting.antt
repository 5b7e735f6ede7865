-- Labels that are counted, tree by tree.
use Rattle.std.proofs.Common.{◌≡◌, ℕ, List, [], ◌∷◌, ◌++◌, None, refl, sym, ap, ◌∙◌, subst}
use Rattle.std.specs.List.{flat_map}
use Rattle.std.proofs.lemmas.Grind.{flat_map-append}
use Rattle.owl_arena.specs.Held.{Held, tree_at, trees_at}
use Rattle.owl_doc.specs.Documents.{Document, ontology_of}
use Rattle.owl_tree.specs.Trees.{Tree, Kids, leaf, node, no_kids, kid, atom_in, kids_in, list_of}
use Rattle.blank_labels.specs.LabelNumbers.{Counts, LabelNumbers}
use Rattle.blank_labels.proofs.FreshLabelLaws.{counts_both, counts_none}
use Rattle.rdf_mapping.specs.Graphs.{all_labels_in, labels_in, labels_of}

-- The labels so far lead on to those that are left.
pub record CountsOn (trees : List Tree) (start now : LabelNumbers) (ids left : List ℕ) : Type 0 where
  pub on : (last : LabelNumbers) → Counts now last (flat_map labels_in (trees_at trees left)) → Counts start last (flat_map labels_in (trees_at trees ids))

pub counts_next : (trees : List Tree) (start now new : LabelNumbers) (ids left : List ℕ) (id : ℕ) → Counts now new (labels_in (tree_at trees id)) → CountsOn trees start now ids (id ∷ left) → CountsOn trees start new ids left
counts_next trees start now new ids left id one l = record { on = λ last behind. l.on last (counts_both now new last _ _ one behind) }

pub counts_end : (trees : List Tree) (start now : LabelNumbers) (ids : List ℕ) → CountsOn trees start now ids [] → Counts start now (flat_map labels_in (trees_at trees ids))
counts_end trees start now ids l = l.on now (counts_none now)

labels_of_kids : (ks : Kids) → all_labels_in ks ≡ flat_map labels_in (list_of ks)
labels_of_kids no_kids = refl
labels_of_kids (kid t ks) = ap (λ (ls : List (List ℕ)). labels_in t ++ ls) (labels_of_kids ks)

-- a tree that is no leaf has the labels of its kids
labels_below : (t : Tree) → atom_in t ≡ None → labels_in t ≡ flat_map labels_in (kids_in t)
labels_below (leaf t a) e = cc
labels_below (node t ks) e = labels_of_kids ks

pub kids_counted : (trees : List Tree) (id : ℕ) (ids : List ℕ) → trees_at trees ids ≡ kids_in (tree_at trees id) → atom_in (tree_at trees id) ≡ None → flat_map labels_in (trees_at trees ids) ≡ labels_in (tree_at trees id)
kids_counted trees id ids e h = ap (flat_map labels_in) e ∙ sym (labels_below (tree_at trees id) h)

pub of_both : (old mid new : LabelNumbers) (ts us : List Tree) → Counts old mid (flat_map labels_in ts) → Counts mid new (flat_map labels_in us) → Counts old new (flat_map labels_in (ts ++ us))
of_both old mid new ts us x y = subst (Counts old new) (sym (flat_map-append labels_in ts us)) (counts_both old mid new _ _ x y)

pub of_document : (old mid new : LabelNumbers) (d : Document) (a b : Held) (ns os : List ℕ) → a ≡ d.arena → b ≡ d.arena → ns ≡ d.notes → os ≡ d.axioms → Counts old mid (flat_map labels_in (trees_at a.trees ns)) → Counts mid new (flat_map labels_in (trees_at b.trees os)) → Counts old new (labels_of (ontology_of d))
of_document old mid new d a b ns os e f g h x y =
    let first : trees_at a.trees ns ≡ trees_at d.arena.trees d.notes = cc in
    let second : trees_at b.trees os ≡ trees_at d.arena.trees d.axioms = cc in
    of_both old mid new (trees_at d.arena.trees d.notes) (trees_at d.arena.trees d.axioms) (subst (λ (ts : List Tree). Counts old mid (flat_map labels_in ts)) first x) (subst (λ (ts : List Tree). Counts mid new (flat_map labels_in ts)) second y)
