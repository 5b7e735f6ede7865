use Rattle.std.proofs.Common.{◌≡◌, ℕ, List, ◌++◌, map, ap, sym, ◌∙◌, subst}
use Rattle.owl_arena.specs.Held.{AreHeld, trees_at}
use Rattle.owl_doc.specs.Documents.{ontology_of}
use Rattle.owl_doc.specs.Heads.{iri_in}
use Rattle.owl_tree.specs.Ontologies.{Head, Ontology, canonical_list}
use Rattle.owl_tree.specs.Canonical.{canonical}
use Rattle.owl_tree.specs.Trees.{Tree}
use Rattle.rdf_normal.specs.Makings.{AreMade}
use Rattle.rdf_normal.specs.NormalForms.{annotation_of, spread_axioms}
use Rattle.rdf_normal.proofs.SettleTrees.{in_order, name_is, notes_made, others_made}
use Rattle.rdf_normal.proofs.settling.behind_third.Goals as goal

pub returns-clause-made : goal.returns-clause-made
returns-clause-made c =
    let ts = c.args.arena.now.trees in
    let us = c.spread_all.new.arena.trees in
    let vs = c.annotations.new.arena.trees in
    let d = c.args.doc.now in
    let o = ontology_of d in
    let document = c.axioms.ensures.document in
    let axioms : canonical_list o.axioms ≡ trees_at ts c.axioms.result.now =
    ap (λ (p : Ontology). p.axioms) document.canonical ∙ ap (λ (xs : List Tree). trees_at xs d.axioms) (sym c.requires) ∙ ap (trees_at ts) (sym c.axioms.ensures.axioms) in
    let notes : o.annotations ≡ trees_at ts c.notes.result.now = ap (λ (xs : List Tree). trees_at xs d.notes) (sym c.requires) ∙ ap (trees_at ts) (sym c.notes.ensures.notes) in
    let held : AreHeld ts c.notes.result.now = subst (AreHeld ts) (sym c.notes.ensures.notes) (subst (λ (xs : List Tree). AreHeld xs d.notes) (sym c.requires) document.notes) in
    let spread : trees_at us c.deref.result.now ≡ spread_axioms o =
    in_order ts us o c.axioms.result.now c.in_ok-spread.spread.items c.deref.result.now axioms c.in_ok-spread.ensures.made (ap (trees_at us) c.deref.ensures.value ∙ c.sort_set.ensures.ascending) in
    let name = sym (name_is c.head.result.now.iri c.head.result.now.version) ∙ ap (λ (h : Head). iri_in h.name) c.head.ensures.head in
    record {
      notes =
          notes_made ts us vs o c.head.result.now.iri c.notes.result.now c.deref.result.now c.in_ok-notes.notes.items c.sort_set-2.new.kids.items c.in_ok-parted.parted c.distinct-trees.ensures.shared held notes c.in_ok-spread.ensures.made.extends spread name c.in_ok-parted.ensures.parted (subst (λ (ns : List ℕ). AreMade us vs c.in_ok-notes.notes.items (trees_at us c.notes.result.now ++ map (λ t. canonical (annotation_of t)) (trees_at us ns))) c.deref-2.ensures.value c.in_ok-notes.ensures.made) c.sort_set-2.ensures.ascending c.sort_set-2.ensures.held;
      axioms = others_made ts us vs o c.head.result.now.iri c.deref.result.now c.in_ok-parted.parted c.in_ok-spread.ensures.made.extends c.in_ok-notes.ensures.made.extends spread name c.in_ok-parted.ensures.parted;
    }
