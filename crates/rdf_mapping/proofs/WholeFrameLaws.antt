-- What the graph of an ontology keeps.
use Rattle.std.proofs.Common.{◌≡◌, ◌≤◌, ◌+◌, ◌*◌, ◌^◌, ◌⊎◌, ℕ, List, ◌∷◌, ◌++◌, length, inl, inr, refl, subst, arith}
use Rattle.std.specs.Prelude.{Contains, map, Option, None, Some}
use Rattle.std.proofs.lemmas.List.Elements.{Contains-append_cases, Contains-append_right}
use Rattle.owl_list.proofs.AscendingLaws.{from_map, in_cases}
use Rattle.owl_tree.specs.Ontologies.{Head, Ontology, OntologyName}
use Rattle.rdf_graph.specs.declared.term.Term.{Term}
use Rattle.rdf_graph.specs.declared.term.Term.TheVariants.{Iri}
use Rattle.rdf_graph.specs.declared.triple.Triple.{Triple}
use Rattle.rdf_graph.proofs.GraphLaws.{set_holds}
use Rattle.rdf_graph.specs.Graphs.{set_of}
use Rattle.rdf_meaning.specs.declared.word.Word.TheVariants as word
use Rattle.rdf_meaning.specs.Nodes.{type_iri}
use Rattle.rdf_meaning.specs.Words.{word_iri}
use Rattle.rdf_mapping.specs.Forms.{blank, link}
use Rattle.rdf_mapping.specs.FormLaws.{apart, keeps_part, lie, subject_of}
use Rattle.rdf_mapping.specs.Frames.{AreNamedApart, IsAny, IsForeign, Keeps, Lies}
use Rattle.blank_labels.specs.FreshLabels.{fresh_name}
use Rattle.blank_labels.proofs.FreshLabelLaws.{fresh_apart}
use Rattle.rdf_mapping.specs.Graphs.{graph_of, group_triples, groups_of, head_triples, header_nodes, header_term, labels_of, made_triples, notes_from}
use Rattle.rdf_mapping.specs.GroupFrames.{AreStatedApart, EachGroupKept, group_nodes}
use Rattle.rdf_mapping.proofs.GroupFrameLaws.{groups_kept, note_subjects}
use Rattle.rdf_mapping.specs.Notes.{note_nodes, note_triples}

-- a set of triples keeps all of them
pub set_keeps : (name : ℕ → List ℕ) (Cares : Triple → Type 0) (ts : List Triple) (low high : ℕ) → Keeps name Cares (set_of ts) ts low high
set_keeps name Cares ts low high = record { there = λ t m. (set_holds ts t).1 m; back = λ t i c m. (set_holds ts t).0 m }

pub fresh_named_apart : (labels : List (List ℕ)) (most : ℕ) → most + length labels ≤ 9 * 10 ^ 18 → AreNamedApart (fresh_name labels) most
fresh_named_apart labels most few = λ m n a b e. fresh_apart labels m n (omega (arith, few, a)) (omega (arith, few, b)) e

-- The header.

imports_subject : (x : Term) (imports : List (List ℕ)) (t : Triple) → Contains (map (λ i. link x (word_iri word.Imports) (Iri i)) imports) t → t.subject ≡ x
imports_subject x imports t m =
    let v = from_map (λ i. link x (word_iri word.Imports) (Iri i)) imports t m in
    subject_of (link x (word_iri word.Imports) (Iri v.element)) t v.value

by_version : (x : Term) (iri : List ℕ) (version : Option (List ℕ)) (imports : List (List ℕ)) (t : Triple) → Contains (head_triples x (record { name = Some (record { iri = iri; version = version }); imports = imports })) t → t.subject ≡ x
by_version x iri None imports t m =
    elim (in_cases (link x type_iri (Iri (word_iri word.Ontology))) (map (λ i. link x (word_iri word.Imports) (Iri i)) imports) t m) [
      | inl e ↦ subject_of (link x type_iri (Iri (word_iri word.Ontology))) t e
      | inr k ↦ imports_subject x imports t k
    ]
by_version x iri (Some v) imports t m =
    let version = link x (word_iri word.VersionIri) (Iri v) in
    elim (in_cases (link x type_iri (Iri (word_iri word.Ontology))) (version ∷ map (λ i. link x (word_iri word.Imports) (Iri i)) imports) t m) [
      | inl e ↦ subject_of (link x type_iri (Iri (word_iri word.Ontology))) t e
      | inr k ↦
          elim (in_cases version (map (λ i. link x (word_iri word.Imports) (Iri i)) imports) t k) [
            | inl e ↦ subject_of version t e
            | inr j ↦ imports_subject x imports t j
          ]
    ]

by_name : (x : Term) (name : Option OntologyName) (imports : List (List ℕ)) (t : Triple) → Contains (head_triples x (record { name = name; imports = imports })) t → t.subject ≡ x
by_name x None imports t m =
    elim (in_cases (link x type_iri (Iri (word_iri word.Ontology))) (map (λ i. link x (word_iri word.Imports) (Iri i)) imports) t m) [
      | inl e ↦ subject_of (link x type_iri (Iri (word_iri word.Ontology))) t e
      | inr k ↦ imports_subject x imports t k
    ]
by_name x (Some n) imports t m = by_version x n.iri n.version imports t m

pub head_subject : (x : Term) (h : Head) (t : Triple) → Contains (head_triples x h) t → t.subject ≡ x
head_subject x h t m = by_name x h.name h.imports t m

header_starts : (name : ℕ → List ℕ) (most : ℕ) (n : Option OntologyName) → Lies name 0 (header_nodes n) (header_term name n) ⊎ IsForeign name most (header_term name n)
header_starts name most None = inl (lie name 0 0 1 (blank name 0) (omega arith) (omega arith) refl)
header_starts name most (Some n) = inr (λ i h e. cc)

-- of all that is made of an ontology its set keeps each group of axioms
pub made_kept : (name : ℕ → List ℕ) (most : ℕ) → AreNamedApart name most → (o : Ontology) → header_nodes o.head.name + note_nodes (notes_from o.annotations) + group_nodes (groups_of o.axioms) ≤ most → AreStatedApart name most (groups_of o.axioms) → EachGroupKept name (set_of (made_triples name o)) (groups_of o.axioms) (header_nodes o.head.name + note_nodes (notes_from o.annotations))
made_kept name most differ o few all =
    let x = header_term name o.head.name in
    let h = header_nodes o.head.name in
    let ns = notes_from o.annotations in
    let base = h + note_nodes ns in
    let gs = groups_of o.axioms in
    let top = base + group_nodes gs in
    let xs = head_triples x o.head in
    let ys = note_triples name x ns h in
    let zs = group_triples name gs base in
    let whole = made_triples name o in
    let g = set_of whole in
    let header : (t : Triple) → t.subject ≡ x → Lies name base top t.subject → ⊥ =
    λ t e i.
    let j : Lies name base top x = subst (λ (y : Term). Lies name base top y) e i in
    elim (header_starts name most o.head.name) [
      | inl a ↦ apart name most differ 0 h base top x a j (omega arith) few
      | inr f ↦ f j.number (omega (arith, j.below, few)) j.is
    ] in
    groups_kept name most differ g gs base few all
    (keeps_part name IsAny g whole zs 0 top base top (set_keeps name IsAny whole 0 top) (omega arith) (omega arith)
    (λ t m. Contains-append_right xs (ys ++ zs) t (Contains-append_right ys zs t m))
    (λ t m i. elim (Contains-append_cases xs (ys ++ zs) t m) [
      | inl a ↦ absurd (header t (head_subject x o.head t a) i)
      | inr b ↦
          elim (Contains-append_cases ys zs t b) [
            | inl c ↦
                elim (note_subjects name x ns h t c) [
                  | inl e ↦ absurd (header t e i)
                  | inr l ↦ absurd (apart name most differ h base base top t.subject l i (omega arith) few)
                ]
            | inr d ↦ d
          ]
    ]))

-- so the graph of an ontology keeps each group of its axioms
pub graph_keeps : (o : Ontology) (most : ℕ) → most + length (labels_of o) ≤ 9 * 10 ^ 18 → header_nodes o.head.name + note_nodes (notes_from o.annotations) + group_nodes (groups_of o.axioms) ≤ most → AreStatedApart (fresh_name (labels_of o)) most (groups_of o.axioms) → EachGroupKept (fresh_name (labels_of o)) (graph_of o) (groups_of o.axioms) (header_nodes o.head.name + note_nodes (notes_from o.annotations))
unfolding graph_of
graph_keeps o most room few all = made_kept (fresh_name (labels_of o)) most (fresh_named_apart (labels_of o) most room) o few all
