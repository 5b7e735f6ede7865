-- What stands at the places of axioms in a graph of the ontology, and that each axiom is read back there.
use Rattle.std.proofs.Common.{◌≡◌, ◌≤◌, ◌+◌, ◌⊎◌, ℕ, suc, Bool, true, List, [], ◌∷◌, ◌++◌, inl, inr, refl, sym, ap, ◌∙◌, subst, arith}
use Rattle.std.specs.Prelude.{Contains}
use Rattle.std.specs.List.{flat_map, list_all}
use Rattle.std.proofs.lemmas.List.Concat.{flat_map-cons}
use Rattle.std.proofs.lemmas.List.Elements.{Contains-append_left, Contains-append_right}
use Rattle.owl_kind.specs.Kinds.{Entity}
use Rattle.owl_list.proofs.AscendingLaws.{in_cases, in_head, in_none}
use Rattle.owl_tree.specs.declared.tag.Tag.{Tag}
use Rattle.owl_tree.specs.Ontologies.{Ontology}
use Rattle.owl_tree.specs.Trees.{Tree, tag_of}
use Rattle.rdf_graph.specs.declared.term.Term.{Term}
use Rattle.rdf_graph.specs.declared.triple.Triple.{Triple}
use Rattle.rdf_meaning.specs.declared.role.Role.TheVariants as role
use Rattle.rdf_meaning.specs.declared.row.Site.{Site}
use Rattle.rdf_meaning.specs.declared.row.Site.TheVariants.{Node}
use Rattle.rdf_meaning.specs.Denotation.{of_node, of_triple}
use Rattle.rdf_meaning.proofs.ListLaws.{passes}
use Rattle.rdf_meaning.specs.Nodes.{carries_some, is_role, role_of, words_of}
use Rattle.rdf_meaning.proofs.RowLaws.{same_role}
use Rattle.rdf_meaning.specs.Rows.{axiom_rows}
use Rattle.rdf_meaning.specs.Sound.{IsSoundBelow, LeadsToSound}
use Rattle.rdf_meaning.proofs.SoundLaws.{ends_sound, main_leads}
use Rattle.rdf_meaning.specs.Statements.{IsAxiomWith}
use Rattle.rdf_mapping.specs.Drawing.{Statement, linked, linked_back, looped, standing, unsaid, statement_of}
use Rattle.rdf_mapping.specs.Forms.{Form, made, link, nodes, term_of, triples}
use Rattle.rdf_mapping.specs.FormSorts.{IsOfNodes}
use Rattle.rdf_mapping.proofs.FormSortLaws.{arcs_sort, structural_as}
use Rattle.rdf_mapping.specs.Frames.{IsAny, Keeps, own_triples}
use Rattle.rdf_mapping.specs.GraphEntries.{made_nodes}
use Rattle.rdf_mapping.specs.Graphs.{bare, bare_axioms, labels_in, sets_of, statement_triples}
use Rattle.rdf_mapping.specs.Notes.{Notes}
use Rattle.rdf_mapping.specs.Written.{AreIndividuals}
use Rattle.rdf_axioms.specs.AxiomReading.{IsReadAt, main_of}
use Rattle.rdf_states.proofs.EndLaws.{end_form, ends_sort, stand_forms}
use Rattle.rdf_axioms.proofs.SayableTreeLaws.{facets_named}
use Rattle.rdf_states.proofs.GraphOf.{AreReadBack, AreWellDrawn, IsGraphOf, IsReadAtPlace, LabelsAreSingle}
use Rattle.rdf_states.proofs.KeptLaws.{IsKeptMain, IsKeptStand, kept_main, kept_stand, read_stand}
use Rattle.rdf_states.specs.Places.{AllEnds, End, Stand, StandsAt, ends_of, first_number, stand_node, stands_of}
use Rattle.rdf_states.specs.PlaceLaws.{end_bounds, kept_at, stand_bounds, stands_bounds, width}
use Rattle.rdf_states.proofs.SideLaws.{place_axiom, place_drawn, set_beside}
use Rattle.rdf_states.proofs.StandLaws.{stand_words}
use Rattle.rdf_states.specs.Stated.{CanBeDrawn}
use Rattle.rdf_states.proofs.StatedLaws.{bare_statement, beside_apart, stated_axiom}
use Rattle.rdf_states.specs.UnderLaws.{AreStructural, IsUnder, itself, further, arcs_under, form_under, sound_under}

-- an end is where the triple of its statement begins, or where it ends
pub data IsEndOf (t : Triple) (x : Term) : Type 0 where
  begins : t.subject ≡ x → IsEndOf t x
  finishes : t.object ≡ x → IsEndOf t x

pub record HasEnd (name : ℕ → List ℕ) (s : Statement) (n : ℕ) (e : End) : Type 0 where
  pub triple : Triple
  pub inside : Contains (main_of name s n) triple
  pub at : IsEndOf triple (term_of name e.form e.number)

two_ends : (name : ℕ → List ℕ) (s : Statement) (n : ℕ) (t : Triple) (f q : Form) (l : ℕ) (e : End) → Contains (main_of name s n) t → IsEndOf t (term_of name f n) → IsEndOf t (term_of name q l) → Contains (record { form = f; number = n } ∷ record { form = q; number = l } ∷ []) e → HasEnd name s n e
two_ends name s n t f q l e m a b i =
    let first : End = record { form = f; number = n } in
    let second : End = record { form = q; number = l } in
    elim (in_cases first (second ∷ []) e i) [
      | inl j ↦ subst (λ (x : End). HasEnd name s n x) j (record { triple = t; inside = m; at = a })
      | inr j ↦ elim (in_cases second [] e j) [ inl h ↦ subst (λ (x : End). HasEnd name s n x) h (record { triple = t; inside = m; at = b }) | inr o ↦ absurd (in_none e o) ]
    ]

pub has_end : (name : ℕ → List ℕ) (s : Statement) (n : ℕ) (e : End) → Contains (ends_of s n) e → HasEnd name s n e
has_end name (linked f p q) n e i =
    let t = link (term_of name f n) p (term_of name q (n + nodes f)) in
    two_ends name (linked f p q) n t f q (n + nodes f) e (in_head t []) (begins refl) (finishes refl) i
has_end name (linked_back f p q) n e i =
    let t = link (term_of name q (n + nodes f)) p (term_of name f n) in
    two_ends name (linked_back f p q) n t f q (n + nodes f) e (in_head t []) (finishes refl) (begins refl) i
has_end name (looped p f) n e i =
    let t = link (term_of name f n) p (term_of name f n) in
    let only : End = record { form = f; number = n } in
    elim (in_cases only [] e i) [
      | inl j ↦ subst (λ (x : End). HasEnd name (looped p f) n x) j (record { triple = t; inside = in_head t []; at = begins refl })
      | inr o ↦ absurd (in_none e o)
    ]
has_end name (standing arcs) n e i = absurd (in_none e i)
has_end name unsaid n e i = absurd (in_none e i)

-- the term is below an end of the triple of the statement, or is one
pub record IsBelowMain (name : ℕ → List ℕ) (g : List Triple) (s : Statement) (m : ℕ) (x : Term) : Type 0 where
  pub triple : Triple
  pub main : Contains (main_of name s m) triple
  pub under : IsUnder g triple.subject x ⊎ IsUnder g triple.object x

-- a node of an axiom's row stands for an axiom

abbrev is_main_site : Site → Bool
is_main_site (Node r) = is_role role.Main r
is_main_site _ = true

main_sites : list_all (λ r. is_main_site r.site) axiom_rows ≡ true
unfolding axiom_rows
main_sites = refl

pub main_role : (g : List Triple) (k : List Entity) (x : Term) (t : Tag) (ts : List Tree) → IsAxiomWith g k (of_node x) t ts → role_of g x ≡ role.Main
main_role g k x t ts is =
    let at = passes (λ r. is_main_site r.site) axiom_rows is.row main_sites is.among in
    sym (same_role role.Main (role_of g x) (ap is_main_site (sym is.fits.0) ∙ at))

-- what such a node leads to is sound
pub lead_under : (g : List Triple) (x y : Term) → LeadsToSound g x → IsUnder g x y → (y ≡ x) ⊎ IsSoundBelow g y
lead_under g x _ lead (itself) = inl refl
lead_under g x _ lead (further t h m i) =
    inr (elim (lead_under g x t.subject lead h) [
      | inl e ↦ lead t m e i
      | inr s ↦ sound_under g t.subject t.object (further t itself m i) s
    ])

pub labels_among : (ts : List Tree) (a : Tree) (label : List ℕ) → Contains ts a → Contains (labels_in a) label → Contains (flat_map labels_in ts) label
labels_among [] a label m i = absurd (in_none a m)
labels_among (t ∷ ts) a label m i =
    let cons = flat_map-cons labels_in t ts in
    subst (λ (ls : List (List ℕ)). Contains ls label) (sym cons)
    (elim (in_cases t ts a m) [
      | inl e ↦ Contains-append_left (labels_in t) (flat_map labels_in ts) label (subst (λ (x : Tree). Contains (labels_in x) label) (sym e) i)
      | inr n ↦ Contains-append_right (labels_in t) (flat_map labels_in ts) label (labels_among ts a label n i)
    ])

pub axiom_single : (g : List Triple) (o : Ontology) → LabelsAreSingle g o → (a : Tree) → Contains o.axioms a → AreIndividuals g a
axiom_single g o single a m label i = single label (labels_among (o.annotations ++ o.axioms) a label (Contains-append_right o.annotations o.axioms a m) i)

pub annotation_single : (g : List Triple) (o : Ontology) → LabelsAreSingle g o → (a : Tree) → Contains o.annotations a → AreIndividuals g a
annotation_single g o single a m label i = single label (labels_among (o.annotations ++ o.axioms) a label (Contains-append_left o.annotations o.axioms a m) i)

module _ (k : List Entity) (o : Ontology) (c : CanBeDrawn k o) (name : ℕ → List ℕ) (g : List Triple) (d : IsGraphOf name g o) (drawn : AreWellDrawn name o) (single : LabelsAreSingle g o) (read : AreReadBack name g k o) (b : Tree) (m : ℕ) (p : StandsAt o b m) where
  abbrev most : ℕ
  most = made_nodes o

  abbrev s : Statement
  s = statement_of b

  abbrev sets : List Notes
  sets = sets_of b o.axioms

  keeps : Keeps name IsAny g (statement_triples name s sets m) m (m + width o.axioms b)
  keeps = kept_at o.axioms name g b m (bare_axioms o.axioms) (first_number o) d.kept p

  few : m + width o.axioms b ≤ most
  few = (stands_bounds o b m p).1

  kept : IsKeptMain name most d.differ g s sets m
  kept = kept_main name most d.differ g s sets m few (place_drawn name o drawn b m p) keeps

  kept_node : (e : Stand) → Contains (stands_of s sets m) e → IsKeptStand name most d.differ g e
  kept_node = kept_stand name most d.differ g s sets m few (λ ns i. beside_apart ns (set_beside k o c b ns i)) keeps

  abbrev tree : Tree
  tree = (place_axiom o b m p).0

  inside : Contains o.axioms tree
  inside = (place_axiom o b m p).1

  is_bare : bare tree ≡ b
  is_bare = (place_axiom o b m p).2

  read_here : (n : ℕ) → IsReadAt name most g k (tag_of tree) (read tree inside).kids s n
  read_here n =
      subst (λ (u : Statement). IsReadAt name most g k (tag_of tree) (read tree inside).kids u n) (sym (bare_statement tree) ∙ ap statement_of is_bare)
      ((read tree inside).read n)

  node_axiom : (e : Stand) → Contains (stands_of s sets m) e → IsAxiomWith g k (of_node (stand_node name e)) (tag_of tree) (read tree inside).kids
  node_axiom e i = read_stand name most d.differ g k (tag_of tree) (read tree inside).kids s sets m few read_here e i (kept_node e i)

  main_axiom : (t : Triple) → Contains (main_of name s m) t → IsAxiomWith g k (of_triple t) (tag_of tree) (read tree inside).kids
  main_axiom = kept.read k (tag_of tree) (read tree inside).kids (read_here m)

  pub read_at : IsReadAtPlace name g k o b m
  read_at = record {
    tree = tree;
    inside = inside;
    is = is_bare;
    read = read tree inside;
    there = kept.there;
    main = main_axiom;
    stand = node_axiom;
    own = λ e i. (kept_node e i).own;
  }

  -- The nodes of its ends, and below it.

  sorted : AllEnds (IsOfNodes name most g) s
  sorted =
      let is = stated_axiom k o c tree inside in
      subst (AllEnds (IsOfNodes name most g)) (sym (bare_statement tree) ∙ ap statement_of is_bare)
      (ends_sort name most d.differ g k d.apart tree is.sayable.is.shaped is.sayable.typed (facets_named tree is.sayable.sayable) (axiom_single g o single tree inside))

  pub end_structural : (e : End) → Contains (ends_of s m) e → AreStructural g (triples name e.form e.number)
  end_structural e i t j =
      let keep = kept.ends e i in
      let top = (end_bounds s sets m e i).1 in
      (keep.there t j, end_form (IsOfNodes name most g) s m e sorted i e.number (let w = few in omega (arith, top, w)) keep t j)

  from_end : (t : Triple) (f : Form) (n : ℕ) (u : Triple) → Contains (main_of name s m) t → IsEndOf t (term_of name f n) → AreStructural g (triples name f n) → Contains (triples name f n) u → IsBelowMain name g s m u.subject
  from_end t f n u i (begins e) all j =
      record { triple = t; main = i; under = inl (form_under name g t.subject f n (subst (IsUnder g t.subject) e itself) all u j) }
  from_end t f n u i (finishes e) all j =
      record { triple = t; main = i; under = inr (form_under name g t.object f n (subst (IsUnder g t.object) e itself) all u j) }

  pub end_below : (e : End) → Contains (ends_of s m) e → (t : Triple) → Contains (triples name e.form e.number) t → IsBelowMain name g s m t.subject
  end_below e i t j = let h = has_end name s m e i in from_end h.triple e.form e.number t h.inside h.at (end_structural e i) j

  pub main_sound : (t : Triple) → Contains (main_of name s m) t → IsSoundBelow g t.subject × IsSoundBelow g t.object
  main_sound t i = let ends = ends_sound g k t (tag_of tree) (read tree inside).kids (main_axiom t i) in (ends.subject, ends.object)

  pub end_sound : (e : End) → Contains (ends_of s m) e → (t : Triple) → Contains (triples name e.form e.number) t → IsSoundBelow g t.subject
  end_sound e i t j =
      let h = end_below e i t j in
      let ends = main_sound h.triple h.main in
      elim h.under [ inl u ↦ sound_under g h.triple.subject t.subject u ends.0 | inr u ↦ sound_under g h.triple.object t.subject u ends.1 ]

  -- The nodes that stand for it, and below them.

  pub stand_main : (e : Stand) → Contains (stands_of s sets m) e → role_of g (stand_node name e) ≡ role.Main
  stand_main e i = main_role g k (stand_node name e) (tag_of tree) (read tree inside).kids (node_axiom e i)

  pub stand_own_words : (e : Stand) → Contains (stands_of s sets m) e → (t : Triple) → Contains (own_triples name (stand_node name e) e.arcs (suc e.number)) t → carries_some (words_of role.Main) t ≡ true
  stand_own_words e i t j =
      stand_words tree sets m e (subst (λ (u : Statement). Contains (stands_of u sets m) e) (sym (ap statement_of is_bare) ∙ bare_statement tree) i) name (stand_node name e) (suc e.number) t j

  pub stand_structural : (e : Stand) → Contains (stands_of s sets m) e → AreStructural g (triples name (made e.arcs) e.number)
  stand_structural e i t j =
      let keep = kept_node e i in
      let top = (stand_bounds s sets m e i).below in (
        keep.whole t j,
        arcs_sort name most d.differ g (stand_node name e) e.arcs (suc e.number) (let w = few in omega (arith, top, w)) keep.arcs.each (stand_forms (IsOfNodes name most g) s sets m e sorted i)
            (λ u h. structural_as g u (stand_node name e) role.Main (keep.arcs.own.subject u h) (stand_main e i) (stand_own_words e i u h)) t j,
      )

  pub stand_under : (e : Stand) → Contains (stands_of s sets m) e → (t : Triple) → Contains (triples name (made e.arcs) e.number) t → IsUnder g (stand_node name e) t.subject
  stand_under e i t j = arcs_under name g (stand_node name e) e.arcs (stand_node name e) (suc e.number) itself (stand_structural e i) t j

  pub stand_sound : (e : Stand) → Contains (stands_of s sets m) e → (t : Triple) → Contains (triples name (made e.arcs) e.number) t → (t.subject ≡ stand_node name e) ⊎ IsSoundBelow g t.subject
  stand_sound e i t j =
      lead_under g (stand_node name e) t.subject (main_leads g k (stand_node name e) (tag_of tree) (read tree inside).kids (node_axiom e i)) (stand_under e i t j)
