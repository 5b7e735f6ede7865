-- Axioms without annotations that nodes stand for.
use Rattle.std.specs.Prelude.{◌≡◌, ◌⊎◌, ◌++◌, not, ℕ, List, [], ◌∷◌, OnOk, Option, Some, set, slice_get}
use Rattle.std.specs.declared.result.Result.{Result}
use Rattle.std.specs.declared.result.Result.TheVariants.{Ok, Err}
use Rattle.std.specs.List.{filter}
use Rattle.std.proofs.Common.{inl, inr, refl, ap, sym, subst, ◌∙◌}
use Rattle.std.proofs.lemmas.Option.{same_Some}
use Rattle.owl_kind.specs.Kinds.{Entity}
use Rattle.owl_tree.specs.declared.tag.Tag.{Tag}
use Rattle.owl_tree.specs.Trees.{Tree, node, kids_of}
use Rattle.rdf_graph.specs.declared.term.Term.{Term}
use Rattle.rdf_graph.specs.declared.term.Term.TheVariants.{Blank}
use Rattle.rdf_graph.specs.declared.triple.Triple.{Triple}
use Rattle.rdf_meaning.specs.Denotation.{of_node}
use Rattle.rdf_meaning.specs.Nodes.{is_structural, of_subject}
use Rattle.rdf_meaning.specs.Statements.{AreNodeAxioms, no_node, an_axiom, Annotates, no_note, note, IsAxiomWith, axioms_of, notes, notes_of}
use Rattle.rdf_nodes.proofs.DuplicateLaws.{axiom_too}
use Rattle.rdf_nodes.specs.Duplicates.{HaveSameArcs, IsNumberOfDuplicate}
use Rattle.rdf_nodes.proofs.NumberTableLaws.{set_holds}
use Rattle.rdf_nodes.specs.Numbers.{HaveNone}
use Rattle.rdf_nodes.specs.Operands.{labels}
use Rattle.rdf_roles.specs.Tables.{RoleTable}
use Rattle.tree_stores.specs.Stores.{Keeps, StandFor}
use Rattle.rdf_statements.specs.BareAxioms.{AreBareAxioms, IsBareAxiom}
use Rattle.rdf_statements.specs.Holding.{StandForSome}

pub no_notes : (g : List Triple) (x : Term) (ts : List Triple) → ts ≡ of_subject g x → filter (λ t. not (is_structural g t)) ts ≡ [] → notes_of g x ≡ []
unfolding notes_of
no_notes g x ts e none = ap (filter (λ t. not (is_structural g t))) (sym e) ∙ none

none_annotated : (g : List Triple) (k : List Entity) (ts : List Triple) (us : List Tree) → Annotates g k ts us → ts ≡ [] → us ≡ []
none_annotated g k _ _ no_note e = refl
none_annotated g k _ _ (note t ts p v sets us ip iv vs more) e = cc

-- what stands for the axiom of one node
record IsOneAxiom (g : List Triple) (k : List Entity) (x : Term) (trees : List Tree) : Type 0 where
  tag : Tag
  kids : List Tree
  annotations : List Tree
  more : List Tree
  said : IsAxiomWith g k (of_node x) tag kids
  annotates : Annotates g k (notes_of g x) annotations
  joined : trees ≡ axioms_of tag kids (notes annotations ∷ []) ++ more

one_axiom : (g : List Triple) (k : List Entity) (x : Term) (xs : List Term) (trees : List Tree) → AreNodeAxioms g k xs trees → xs ≡ x ∷ [] → IsOneAxiom g k x trees
one_axiom g k x _ _ no_node e = cc
one_axiom g k x _ _ (an_axiom y more a ts ns us said annotates rest) e =
    let same : y ≡ x = cc in
    record {
      tag = a;
      kids = ts;
      annotations = ns;
      more = us;
      said = subst (λ z. IsAxiomWith g k (of_node z) a ts) same said;
      annotates = subst (λ z. Annotates g k (notes_of g z) ns) same annotates;
      joined = refl;
    }

module _ (g : List Triple) (k : List Entity) (roles : RoleTable) {N : Type 0} where
  pub bare_still : (Old New : Tree → N → Type 0) → Keeps Old New → (ns : List (Option N)) → AreBareAxioms g k roles Old ns → AreBareAxioms g k roles New ns
  bare_still Old New kept ns are number n at =
      let i = are number n at in
      record { label = i.label; at = i.at; tag = i.tag; kids = i.kids; said = i.said; stands = kept _ n i.stands }

  pub none_bare : (Stands : Tree → N → Type 0) (ns : List (Option N)) → HaveNone ns → AreBareAxioms g k roles Stands ns
  none_bare Stands ns none number n at = absurd (none number n at)

  -- the axiom of a node without annotations has none
  bare_of : (Stands : Tree → N → Type 0) (number : ℕ) (label : List ℕ) (n : N) → slice_get (labels roles) number ≡ Some label → notes_of g (Blank label) ≡ [] →
      StandForSome Stands (AreNodeAxioms g k (Blank label ∷ [])) (n ∷ []) → IsBareAxiom g k roles Stands number n
  bare_of Stands number label n at none s =
      let one = one_axiom g k (Blank label) (Blank label ∷ []) s.trees s.are refl in
      let empty = none_annotated g k (notes_of g (Blank label)) one.annotations one.annotates none in
      let stand = subst (λ ts. StandFor Stands ts (n ∷ [])) (one.joined ∙ ap (λ ns. axioms_of one.tag one.kids (notes ns ∷ []) ++ one.more) empty) s.stand in
      record { label = label; at = at; tag = one.tag; kids = one.kids; said = one.said; stands = stand.0 }

  -- and is that of a node with the same triples
  pub same_axiom : (Stands : Tree → N → Type 0) (ns : List (Option N)) (number : ℕ) (label : List ℕ) (n : N) → AreBareAxioms g k roles Stands ns →
      slice_get (labels roles) number ≡ Some label → notes_of g (Blank label) ≡ [] → IsNumberOfDuplicate g roles ns number n →
      StandForSome Stands (AreNodeAxioms g k (Blank label ∷ [])) (n ∷ [])
  same_axiom Stands ns number label n are at none d =
      let i = are d.other n d.at in
      let there = same_Some _ _ (sym i.at ∙ d.duplicates.first_at) in
      let here = same_Some _ _ (sym d.duplicates.second_at ∙ at) in
      let same =
      subst (λ l. HaveSameArcs g (Blank l) (Blank label)) (sym there) (subst (λ m. HaveSameArcs g (Blank d.duplicates.first_label) (Blank m)) here d.duplicates.same) in
      record {
        trees = axioms_of i.tag i.kids (notes [] ∷ []) ++ [];
        are = an_axiom (Blank label) [] i.tag i.kids [] [] (axiom_too g i.label label same k i.tag i.kids i.said) (subst (λ ts. Annotates g k ts []) (sym none) no_note) no_node;
        stand = (i.stands, tt);
      }

  -- where its number is kept
  pub kept_bare : (Old New : Tree → N → Type 0) (ns ms : List (Option N)) (number : ℕ) (label : List ℕ) (axioms : List N) → Keeps Old New →
      AreBareAxioms g k roles Old ns → slice_get (labels roles) number ≡ Some label → notes_of g (Blank label) ≡ [] →
      StandForSome New (AreNodeAxioms g k (Blank label ∷ [])) axioms →
      (ms ≡ ns) ⊎ ((n : N) × (axioms ≡ n ∷ []) × (ms ≡ set ns number (Some n))) → AreBareAxioms g k roles New ms
  kept_bare Old New ns ms number label axioms kept are at none s (inl e) = subst (AreBareAxioms g k roles New) (sym e) (bare_still Old New kept ns are)
  kept_bare Old New ns ms number label axioms kept are at none s (inr h) =
      let one = subst (λ ns. StandForSome New (AreNodeAxioms g k (Blank label ∷ [])) ns) h.1 s in
      subst (AreBareAxioms g k roles New) (sym h.2)
      (set_holds (IsBareAxiom g k roles New) ns number (Some h.0) (bare_still Old New kept ns are)
      (λ n e. subst (IsBareAxiom g k roles New number) (same_Some h.0 n e) (bare_of New number label h.0 at none one)))

pub where_ok : {A E : Type 0} {P : Type 0} (r : Result A E) → P → OnOk r P
where_ok (Ok a) h = h
where_ok (Err e) h = tt
