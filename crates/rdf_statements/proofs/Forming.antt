-- The steps by which terms, lists and rows become kids.
use Rattle.std.specs.Prelude.{◌≡◌, ◌<◌, ◌&&◌, cond, ℕ, Bool, true, false, List, [], ◌∷◌, ◌++◌, Contains, IfOk, IfSome, Option, None, Some, is_some, map, get_or, length}
use Rattle.std.proofs.Common.{Global, refl, ap, sym, subst, append_assoc, append-nil, ◌∙◌}
use Rattle.std.specs.declared.vec.Vec.{Vec}
use Rattle.std.specs.declared.result.Result.{Result}
use Rattle.std.specs.declared.result.Result.TheVariants.{Ok, Err}
use Rattle.std.proofs.lemmas.List.Elements.{Contains-get_or}
use Rattle.owl_list.proofs.AscendingLaws.{in_map}
use Rattle.owl_kind.specs.declared.kind.Kind.{Kind}
use Rattle.owl_kind.specs.declared.kind.Kind.TheVariants as kind
use Rattle.owl_kind.specs.Kinds.{Entity}
use Rattle.owl_tree.specs.declared.atom.Atom.TheVariants as atom
use Rattle.owl_tree.specs.declared.row.Sort.TheVariants as sort
use Rattle.owl_tree.specs.declared.tag.Tag.{Tag}
use Rattle.rdf_graph.specs.declared.term.Term.{Term}
use Rattle.rdf_graph.specs.declared.term.Term.TheVariants.{Iri, Literal}
use Rattle.rdf_graph.specs.declared.triple.Triple.{Triple}
use Rattle.rdf_meaning.specs.declared.role.Role.{Role}
use Rattle.rdf_meaning.specs.declared.row.Part.{Part}
use Rattle.rdf_meaning.specs.declared.row.Place.TheVariants.{At}
use Rattle.rdf_meaning.specs.declared.row.Row as held
use Rattle.rdf_meaning.specs.declared.row.Want.{Want}
use Rattle.rdf_meaning.specs.declared.row.Want.TheVariants.{Mark, True}
use Rattle.rdf_meaning.specs.declared.word.Word.{Word}
use Rattle.rdf_meaning.specs.Denotation.{Bearer, Fits, declared_entity, declared_kind, iri_leaf, kind_of_entity, of_node, select, true_literal}
use Rattle.rdf_meaning.specs.Kinds.{has_kind, may_be_declared}
use Rattle.rdf_meaning.specs.Nodes.{nil_iri, of_subject, role_of}
use Rattle.rdf_meaning.specs.Rows.{Row, axiom_rows, row_seen}
use Rattle.rdf_roles.specs.Tables.{RoleTable}
use Rattle.rdf_rows.specs.Chosen.{objects_with, the_only}
use Rattle.rdf_rows.specs.Fits.{FitsRow}
use Rattle.rdf_rows.proofs.NodeTripleLaws.{chosen_is, fits_is}
use Rattle.rdf_nodes.specs.declared.form.Operand.{Operand}
use Rattle.rdf_nodes.specs.declared.form.Operand.TheVariants as operand
use Rattle.rdf_nodes.specs.Operands.{IsCellWith, IsOperand, IsTree}
use Rattle.rdf_statements.specs.declared.form.AxiomForm.{AxiomForm}
use Rattle.rdf_statements.specs.declared.form.Kid.{Kid}
use Rattle.rdf_statements.specs.Forms.{AreKeyOperands, no_key, object_key, data_key, IsKeyAdded, an_object_key, a_data_key, GivesKids, mark, is_true, StandAtPart, AreKids, no_parts, part, IsAxiomForm}

-- what is found has the weaker fact too
pub found_more : {A E : Type 0} {P Q : A → Type 0} → ((a : A) → P a → Q a) → (r : Result (Option A) E) → IfOk r (λ found. IfSome found P) → IfOk r (λ found. IfSome found Q)
found_more w (Ok None) h = tt
found_more w (Ok (Some a)) h = w a h
found_more w (Err e) h = tt

pub row_among : (rows : List held.Row) (i : ℕ) (d : held.Row) → map row_seen rows ≡ axiom_rows → i < length rows → Contains axiom_rows (row_seen (get_or rows i d))
row_among rows i d told within =
    subst (λ (all : List Row). Contains all (row_seen (get_or rows i d))) told (in_map row_seen rows (get_or rows i d) (Contains-get_or rows i d within))

-- the entity that is declared, where there is one
by_test : {A : Type 0} (b : Bool) (a : A) → is_some (cond b (Some a) None) ≡ true → cond b (Some a) None ≡ Some a
by_test true a e = refl
by_test false a e = cc

by_kind : (k : List Entity) (t : Tag) (iri : List ℕ) (o : Option Kind) → is_some (declared_kind k t iri o) ≡ true → declared_kind k t iri o ≡ Some (iri_leaf t iri)
by_kind k t iri None e = cc
by_kind k t iri (Some kind.Individual) e = by_test (may_be_declared kind.Individual iri) (iri_leaf t iri) e
by_kind k t iri (Some kind.Class) e = by_test (has_kind k kind.Class iri && may_be_declared kind.Class iri) (iri_leaf t iri) e
by_kind k t iri (Some kind.Datatype) e = by_test (has_kind k kind.Datatype iri && may_be_declared kind.Datatype iri) (iri_leaf t iri) e
by_kind k t iri (Some kind.ObjectProperty) e = by_test (has_kind k kind.ObjectProperty iri && may_be_declared kind.ObjectProperty iri) (iri_leaf t iri) e
by_kind k t iri (Some kind.DataProperty) e = by_test (has_kind k kind.DataProperty iri && may_be_declared kind.DataProperty iri) (iri_leaf t iri) e
by_kind k t iri (Some kind.AnnotationProperty) e =
    by_test (has_kind k kind.AnnotationProperty iri && may_be_declared kind.AnnotationProperty iri) (iri_leaf t iri) e

pub entity_is : (k : List Entity) (t : Tag) (x : Term) (iri copied : List ℕ) → x ≡ Iri iri → copied ≡ iri → is_some (declared_entity k t x) ≡ true →
    IsTree (declared_entity k t x) (operand.Leaf t (atom.Iri copied))
unfolding declared_entity
entity_is k t x iri copied is same some = record {
  tree = iri_leaf t copied;
  own = refl;
  is =
      ap (declared_entity k t) is
      ∙ by_kind k t iri (kind_of_entity t) (sym (ap (λ y. is_some (declared_entity k t y)) is) ∙ some)
      ∙ ap (λ i. Some (iri_leaf t i)) (sym same);
}

module _ (g : List Triple) (k : List Entity) (roles : RoleTable) where
  -- the properties so far, and then those of the rest, are those of the list
  abbrev pub AreKeysBefore : Term → List Operand → List Operand → Term → Type 0
  AreKeysBefore x os ds rest = (more further : List Operand) → AreKeyOperands g k roles rest more further → AreKeyOperands g k roles x (os ++ more) (ds ++ further)

  pub next_key : (x : Term) (os ds : List Operand) (rest first behind : Term) (os2 ds2 : List Operand) → AreKeysBefore x os ds rest → IsCellWith g rest first behind →
      IsKeyAdded g k roles first os ds os2 ds2 → AreKeysBefore x os2 ds2 behind
  next_key x os ds rest first behind _ _ before c (an_object_key o is) more further h =
      subst (λ us. AreKeyOperands g k roles x us (ds ++ further)) (sym (append_assoc os (o ∷ []) more)) (before (o ∷ more) further (object_key rest first behind o more further c is h))
  next_key x os ds rest first behind _ _ before c (a_data_key d is) more further h =
      subst (AreKeyOperands g k roles x (os ++ more)) (sym (append_assoc ds (d ∷ []) further)) (before more (d ∷ further) (data_key rest first behind d more further c is h))

  pub all_keys : (x : Term) (os ds : List Operand) (rest : Term) → AreKeysBefore x os ds rest → rest ≡ Iri nil_iri → AreKeyOperands g k roles x os ds
  all_keys x os ds rest before is =
      subst (λ us. AreKeyOperands g k roles x us ds) (append-nil os) (subst (AreKeyOperands g k roles x (os ++ [])) (append-nil ds) (before [] [] (no_key rest is)))

  pub object_key_added : (x : Term) (o : Operand) (os ds pushed : List Operand) → pushed ≡ os ++ o ∷ [] → IsOperand g k roles sort.ObjectPropertyExpression x o → IsKeyAdded g k roles x os ds pushed ds
  object_key_added x o os ds pushed e is = subst (λ us. IsKeyAdded g k roles x os ds us ds) (sym e) (an_object_key o is)

  pub data_key_added : (x : Term) (o : Operand) (os ds pushed : List Operand) → pushed ≡ ds ++ o ∷ [] → IsOperand g k roles sort.DataPropertyExpression x o → IsKeyAdded g k roles x os ds os pushed
  data_key_added x o os ds pushed e is = subst (IsKeyAdded g k roles x os ds os) (sym e) (a_data_key o is)

  -- these kids alone are found
  pub gives_these : {E : Type 0} (x : Term) (w : Want) (ks : List Kid) → GivesKids g k roles x w ks → (r : Result (Option (Vec Kid Global)) E) →
      IfOk r (λ found. IfSome found (λ kids. kids.items ≡ ks)) → IfOk r (λ found. IfSome found (λ kids. GivesKids g k roles x w kids.items))
  gives_these x w ks given r h = found_more (λ kids e. subst (GivesKids g k roles x w) (sym e) given) r h

  pub marks : (x : Term) (w : Want) (ks : List Kid) → w ≡ Mark → ks ≡ [] → GivesKids g k roles x w ks
  marks x w ks e none = subst (λ v. GivesKids g k roles x v ks) (sym e) (subst (GivesKids g k roles x Mark) (sym none) mark)

  pub is_word_true : (x : Term) (w : Want) (ks : List Kid) → w ≡ True → ks ≡ [] → x ≡ Literal true_literal → GivesKids g k roles x w ks
  is_word_true x w ks e none is = subst (λ v. GivesKids g k roles x v ks) (sym e) (subst (GivesKids g k roles x True) (sym none) (is_true is))

  module _ (b : Bearer) where
    -- the kids so far, and then those of the rest, are those of the row
    abbrev pub AreKidsUpTo : List Part → List Kid → List Part → Type 0
    AreKidsUpTo ps ks rest = (more : List Kid) → AreKids g k roles b rest more → AreKids g k roles b ps (ks ++ more)

    pub next_part : (ps : List Part) (ks : List Kid) (p : Part) (behind : List Part) (us : List Kid) → AreKidsUpTo ps ks (p ∷ behind) → StandAtPart g k roles b p us →
        AreKidsUpTo ps (ks ++ us) behind
    next_part ps ks p behind us before stand more h =
        subst (AreKids g k roles b ps) (sym (append_assoc ks us more)) (before (us ++ more) (part p behind us more stand h))

    pub all_parts : (ps : List Part) (ks : List Kid) → AreKidsUpTo ps ks [] → AreKids g k roles b ps ks
    all_parts ps ks before = subst (AreKids g k roles b ps) (append-nil ks) (before [] no_parts)

    pub form_is : (row : Row) (form : AxiomForm) → Contains axiom_rows row → Fits g b row → form.tag ≡ row.tag → (found : Option (Vec Kid Global)) → found ≡ Some form.kids →
        IfSome found (λ ks. AreKids g k roles b row.parts ks.items) → IsAxiomForm g k roles b form
    form_is row form among fits t found is given = record {
      row = row;
      among = among;
      fits = fits;
      tag = t;
      kids = subst (λ o. IfSome o (λ ks. AreKids g k roles b row.parts ks.items)) is given;
    }

-- the only object of the node's triples with the word
pub node_at : (g : List Triple) (x : Term) (ts : List Triple) → ts ≡ of_subject g x → (w : Word) → the_only (objects_with w ts) ≡ the_only (select g (of_node x) (At w))
node_at g x ts of w = ap (λ us. the_only (objects_with w us)) of ∙ sym (ap the_only (chosen_is g x w))

-- a row fits a node by its own triples
node_fits : (g : List Triple) (x : Term) (row : Row) (ts : List Triple) (r : Role) → ts ≡ of_subject g x → r ≡ role_of g x → FitsRow r ts row → Fits g (of_node x) row
node_fits g x row ts r of of_role f = (fits_is g x row).1 (subst (λ q. FitsRow q (of_subject g x) row) of_role (subst (λ us. FitsRow r us row) of f))

pub fits_row : (g : List Triple) (x : Term) (row : Row) (ts : List Triple) (r : Role) → ts ≡ of_subject g x → r ≡ role_of g x → Fits g (of_node x) row → FitsRow r ts row
fits_row g x row ts r of of_role f = subst (λ us. FitsRow r us row) (sym of) (subst (λ q. FitsRow q (of_subject g x) row) (sym of_role) ((fits_is g x row).0 f))

pub node_form_is : (g : List Triple) (k : List Entity) (roles : RoleTable) (x : Term) (row : Row) (form : AxiomForm) (ts : List Triple) (r : Role) → Contains axiom_rows row → ts ≡ of_subject g x →
    r ≡ role_of g x → FitsRow r ts row → form.tag ≡ row.tag → (found : Option (Vec Kid Global)) → found ≡ Some form.kids →
    IfSome found (λ ks. AreKids g k roles (of_node x) row.parts ks.items) → IsAxiomForm g k roles (of_node x) form
node_form_is g k roles x row form ts r among of of_role f t found is given =
    form_is g k roles (of_node x) row form among (node_fits g x row ts r of of_role f) t found is given
