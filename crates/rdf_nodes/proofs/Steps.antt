-- The steps by which terms, lists and rows become operands.
use Rattle.std.specs.Prelude.{◌≡◌, ℕ, Bool, true, false, cond, List, [], ◌∷◌, ◌++◌, Contains, IfOk, IfSome, IsNone, Option, None, Some, option_map, map, get_or, length, ◌<◌}
use Rattle.std.proofs.Common.{refl, ap, sym, subst, append_assoc, append-nil, ◌∙◌}
use Rattle.std.proofs.Common.{Global}
use Rattle.std.specs.declared.vec.Vec.{Vec}
use Rattle.std.specs.declared.result.Result.{Result}
use Rattle.std.specs.declared.result.Result.TheVariants.{Ok, Err}
use Rattle.std.proofs.lemmas.Bool.{cond-false, cond-true}
use Rattle.std.proofs.lemmas.Option.{none-some}
use Rattle.std.proofs.lemmas.List.Elements.{Contains-get_or}
use Rattle.owl_list.proofs.AscendingLaws.{in_map}
use Rattle.rdf_meaning.specs.declared.row.Row as held
use Rattle.owl_kind.specs.declared.kind.Kind.{Kind}
use Rattle.owl_kind.specs.Kinds.{Entity, HasKind}
use Rattle.owl_tree.specs.declared.atom.Atom.TheVariants as atom
use Rattle.owl_tree.specs.declared.row.Sort.{Sort}
use Rattle.owl_tree.specs.declared.tag.Tag.{Tag}
use Rattle.rdf_graph.specs.declared.term.Term.{Term}
use Rattle.rdf_graph.specs.declared.term.Term.TheVariants.{Blank, Iri, Literal}
use Rattle.rdf_graph.specs.declared.triple.Triple.{Triple}
use Rattle.rdf_meaning.specs.declared.role.Role.{Role}
use Rattle.rdf_meaning.specs.declared.role.Role.TheVariants as role
use Rattle.rdf_meaning.specs.declared.row.Part.{Part}
use Rattle.rdf_meaning.specs.declared.row.Want.{Want}
use Rattle.rdf_meaning.specs.declared.row.Want.TheVariants.{One, Mark, True}
use Rattle.rdf_meaning.specs.declared.row.Place.TheVariants.{At}
use Rattle.rdf_meaning.specs.declared.word.Word.{Word}
use Rattle.rdf_meaning.specs.declared.word.Word.TheVariants as word
use Rattle.rdf_meaning.specs.Denotation.{Fits, facet_pair, facets_of, iri_leaf, named, of_node, select, true_literal}
use Rattle.rdf_meaning.proofs.KindLaws.{has_kind_is}
use Rattle.rdf_meaning.specs.Nodes.{is_role, nil_iri, of_subject, role_of}
use Rattle.rdf_rows.specs.Chosen.{facets, objects_with, the_cell, the_only}
use Rattle.rdf_rows.proofs.NodeTripleLaws.{cell_is, chosen_is, facets_are, fits_is, only_is}
use Rattle.rdf_rows.specs.Fits.{FitsRow}
use Rattle.rdf_meaning.specs.Rows.{Row, node_rows, row_seen}
use Rattle.rdf_roles.specs.Tables.{RoleTable}
use Rattle.rdf_nodes.specs.declared.form.Form.{Form}
use Rattle.rdf_nodes.specs.declared.form.Operand.{Operand}
use Rattle.rdf_nodes.specs.declared.form.Operand.TheVariants as operand
use Rattle.rdf_nodes.specs.Operands.{AreElements, no_cell, cell, AreOperands, no_parts, part, Gives, IsCellWith, IsForm, IsOperand, one, mark, is_true, IsTree, StandAt}

-- what is found has the weaker fact too
pub found_more : {A E : Type 0} {P Q : A → Type 0} → ((a : A) → P a → Q a) → (r : Result (Option A) E) → IfOk r (λ found. IfSome found P) → IfOk r (λ found. IfSome found Q)
found_more w (Ok None) h = tt
found_more w (Ok (Some a)) h = w a h
found_more w (Err e) h = tt

-- so of nothing that is found
pub none_more : {A E : Type 0} {P Q : Type 0} → (P → Q) → (r : Result (Option A) E) → IfOk r (λ found. IsNone found → P) → IfOk r (λ found. IsNone found → Q)
none_more w (Ok found) h = λ n. w (h n)
none_more w (Err e) h = tt

pub named_is : (k : List Entity) (kind : Kind) (t : Tag) (x : Term) (iri copied : List ℕ) → x ≡ Iri iri → HasKind k kind iri → copied ≡ iri → IsTree (named k kind t x) (operand.Leaf t (atom.Iri copied))
named_is k kind t x iri copied is has same = record {
  tree = iri_leaf t copied;
  own = refl;
  is = ap (named k kind t) is ∙ cond-true _ (Some (iri_leaf t iri)) None ((has_kind_is k kind iri).1 has) ∙ ap (λ i. Some (iri_leaf t i)) (sym same);
}

pub row_among : (rows : List held.Row) (i : ℕ) (d : held.Row) → map row_seen rows ≡ node_rows → i < length rows → Contains node_rows (row_seen (get_or rows i d))
row_among rows i d told within =
    subst (λ (all : List Row). Contains all (row_seen (get_or rows i d))) told (in_map row_seen rows (get_or rows i d) (Contains-get_or rows i d within))

-- the only facet of a node with the role
pub facet_is : (g : List Triple) (x : Term) (t : Triple) → is_role role.Facet (role_of g x) ≡ true → the_only (facets (of_subject g x)) ≡ Some t →
    cond (is_role role.Facet (role_of g x)) (facet_pair (facets_of g x)) None ≡ facet_pair (t ∷ [])
facet_is g x t r only = cond-true _ (facet_pair (facets_of g x)) None r ∙ ap facet_pair (facets_are g x ∙ (only_is (facets (of_subject g x)) t).0 only)

no_facet_role : (r : Role) → (r ≡ role.Facet → ⊥) → is_role role.Facet r ≡ false
no_facet_role role.Facet n = absurd (n refl)
no_facet_role _ n = refl

-- a node of another role is no facet with its value
pub no_facet_node : (g : List Triple) (x : Term) → (role_of g x ≡ role.Facet → ⊥) → cond (is_role role.Facet (role_of g x)) (facet_pair (facets_of g x)) None ≡ None
no_facet_node g x n = cond-false (is_role role.Facet (role_of g x)) (facet_pair (facets_of g x)) None (no_facet_role (role_of g x) n)

-- nor is a term that is no node
pub no_node : (g : List Triple) (x : Term) → ((label : List ℕ) → x ≡ Blank label → ⊥) → cond (is_role role.Facet (role_of g x)) (facet_pair (facets_of g x)) None ≡ None
no_node g (Iri iri) n = refl
no_node g (Blank label) n = absurd (n label refl)
no_node g (Literal literal) n = refl

no_pair : (ts : List Triple) → None ≡ the_only ts → facet_pair ts ≡ None
no_pair [] e = refl
no_pair (t ∷ []) e = absurd (none-some t e)
no_pair (t ∷ u ∷ more) e = refl

none_either_way : {A : Type 0} (b : Bool) (o : Option A) → o ≡ None → cond b o None ≡ None
none_either_way true o e = e
none_either_way false o e = refl

-- nor is a node with no facet, or with more than one
pub no_only_facet : (g : List Triple) (x : Term) → None ≡ the_only (facets (of_subject g x)) → cond (is_role role.Facet (role_of g x)) (facet_pair (facets_of g x)) None ≡ None
no_only_facet g x e = none_either_way (is_role role.Facet (role_of g x)) (facet_pair (facets_of g x)) (no_pair (facets_of g x) (e ∙ ap the_only (sym (facets_are g x))))

pub cell_with : {A : Type 0} (now : A → Term) (g : List Triple) (x : Term) (r : Option (A × A)) → option_map (λ c. (now c.0, now c.1)) r ≡ the_cell (of_subject g x) →
    role_of g x ≡ role.List → IfSome r (λ c. IsCellWith g x (now c.0) (now c.1))
cell_with now g x None e l = tt
cell_with now g x (Some c) e l =
    let parts = (cell_is (of_subject g x) (now c.0) (now c.1)).0 (sym e) in
    record { list = l; one_first = chosen_is g x _ ∙ parts.0; one_rest = chosen_is g x _ ∙ parts.1 }

pub at_word : (g : List Triple) (x : Term) (p : Part) (w : Word) → p.place ≡ At w → select g (of_node x) p.place ≡ objects_with w (of_subject g x)
at_word g x p w at = ap (select g (of_node x)) at ∙ chosen_is g x w

pub no_cell_with : {A : Type 0} (now : A → Term) (g : List Triple) (x : Term) (r : Option (A × A)) → option_map (λ c. (now c.0, now c.1)) r ≡ the_cell (of_subject g x) →
    IsNone r → (first rest : Term) → IsCellWith g x first rest → ⊥
no_cell_with now g x None e none first rest c =
    none-some (first, rest) (e ∙ (cell_is (of_subject g x) first rest).1 (sym (chosen_is g x word.First) ∙ c.one_first, sym (chosen_is g x word.Rest) ∙ c.one_rest))
no_cell_with now g x (Some c) e none first rest is = cc

module _ (g : List Triple) (k : List Entity) (roles : RoleTable) where
  -- the elements so far, and then those of the rest, are those of the list
  abbrev pub AreElementsBefore : Sort → Term → List Operand → Term → Type 0
  AreElementsBefore s x os rest = (more : List Operand) → AreElements g k roles s rest more → AreElements g k roles s x (os ++ more)

  pub next_element : (s : Sort) (x : Term) (os : List Operand) (rest first behind : Term) (o : Operand) → AreElementsBefore s x os rest → IsCellWith g rest first behind →
      IsOperand g k roles s first o → AreElementsBefore s x (os ++ o ∷ []) behind
  next_element s x os rest first behind o before c is more h =
      subst (AreElements g k roles s x) (sym (append_assoc os (o ∷ []) more)) (before (o ∷ more) (cell rest first behind o more c is h))

  pub all_elements : (s : Sort) (x : Term) (os : List Operand) (rest : Term) → AreElementsBefore s x os rest → rest ≡ Iri nil_iri → AreElements g k roles s x os
  all_elements s x os rest before is = subst (AreElements g k roles s x) (append-nil os) (before [] (no_cell rest is))

  -- so for the parts of a row
  abbrev pub AreOperandsBefore : Term → List Part → List Operand → List Part → Type 0
  AreOperandsBefore x ps os rest = (more : List Operand) → AreOperands g k roles x rest more → AreOperands g k roles x ps (os ++ more)

  pub next_part : (x : Term) (ps : List Part) (os : List Operand) (p : Part) (behind : List Part) (us : List Operand) → AreOperandsBefore x ps os (p ∷ behind) → StandAt g k roles x p us →
      AreOperandsBefore x ps (os ++ us) behind
  next_part x ps os p behind us before stand more h =
      subst (AreOperands g k roles x ps) (sym (append_assoc os us more)) (before (us ++ more) (part p behind us more stand h))

  pub all_parts : (x : Term) (ps : List Part) (os : List Operand) → AreOperandsBefore x ps os [] → AreOperands g k roles x ps os
  all_parts x ps os before = subst (AreOperands g k roles x ps) (append-nil os) (before [] no_parts)

  pub stand_at : (x : Term) (p : Part) (w : Word) (y : Term) (os : List Operand) → p.place ≡ At w → the_only (objects_with w (of_subject g x)) ≡ Some y →
      Gives g k roles y p.want os → StandAt g k roles x p os
  stand_at x p w y os at only gives = record {
    object = y;
    selected = at_word g x p w at ∙ (only_is (objects_with w (of_subject g x)) y).0 only;
    gives = gives;
  }

  pub one_of : (x : Term) (s : Sort) (o : Operand) (os : List Operand) → os ≡ o ∷ [] → IsOperand g k roles s x o → Gives g k roles x (One s) os
  one_of x s o os e is = subst (Gives g k roles x (One s)) (sym e) (one s o is)

  pub marks : (x : Term) (w : Want) (os : List Operand) → w ≡ Mark → os ≡ [] → Gives g k roles x w os
  marks x w os e none = subst (λ v. Gives g k roles x v os) (sym e) (subst (Gives g k roles x Mark) (sym none) mark)

  pub is_word_true : (x : Term) (w : Want) (os : List Operand) → w ≡ True → os ≡ [] → x ≡ Literal true_literal → Gives g k roles x w os
  is_word_true x w os e none is = subst (λ v. Gives g k roles x v os) (sym e) (subst (Gives g k roles x True) (sym none) (is_true is))

  pub fits_row : (x : Term) (row : Row) (ts : List Triple) (r : Role) → ts ≡ of_subject g x → r ≡ role_of g x → Fits g (of_node x) row → FitsRow r ts row
  fits_row x row ts r of of_role f = subst (λ us. FitsRow r us row) (sym of) (subst (λ q. FitsRow q (of_subject g x) row) (sym of_role) ((fits_is g x row).0 f))

  pub form_is : (x : Term) (row : Row) (form : Form) (ts : List Triple) (r : Role) → Contains node_rows row → ts ≡ of_subject g x → r ≡ role_of g x → FitsRow r ts row →
      form.tag ≡ row.tag → (found : Option (Vec Operand Global)) → found ≡ Some form.operands → IfSome found (λ os. AreOperands g k roles x row.parts os.items) → IsForm g k roles x form
  form_is x row form ts r among of of_role f t found is given = record {
    row = row;
    among = among;
    fits = (fits_is g x row).1 (subst (λ q. FitsRow q (of_subject g x) row) of_role (subst (λ us. FitsRow r us row) of f));
    tag = t;
    operands = subst (λ o. IfSome o (λ os. AreOperands g k roles x row.parts os.items)) is given;
  }
