-- What the tests over the rows give.
use Rattle.std.specs.Prelude.{◌≡◌, ◌⊎◌, true, false, not, List, [], ◌∷◌, Contains}
use Rattle.std.specs.List.{list_all}
use Rattle.std.proofs.Common.{inl, inr, refl, sym, ap, ◌∙◌, subst}
use Rattle.std.proofs.lemmas.Bool.{and_parts, eq-eqb, not-true}
use Rattle.owl_list.proofs.AscendingLaws.{in_cases, in_none}
use Rattle.owl_tree.specs.declared.row.Sort.TheVariants as sort
use Rattle.owl_tree.specs.Rows.{admits}
use Rattle.owl_tree.specs.Tags.{number_of}
use Rattle.rdf_meaning.proofs.ListLaws.{passes}
use Rattle.rdf_meaning.specs.declared.role.Role.{Role}
use Rattle.rdf_meaning.specs.declared.role.Role.TheVariants as role
use Rattle.rdf_meaning.specs.declared.word.Word.{Word}
use Rattle.rdf_meaning.specs.declared.row.Place.{Place}
use Rattle.rdf_meaning.specs.declared.row.Place.TheVariants.{At, Subject, Predicate, Object}
use Rattle.rdf_meaning.specs.declared.row.Site.{Site}
use Rattle.rdf_meaning.specs.declared.row.Site.TheVariants.{Node, TypedBy, OtherType, LinkedBy, OtherLink}
use Rattle.rdf_meaning.specs.Nodes.{is_role, is_word, words_of}
use Rattle.rdf_meaning.specs.Rows.{Row, axiom_rows, node_rows}
use Rattle.rdf_meaning.specs.RowTests.{are_told_apart, has_row_at, is_marked_well, is_place, is_site, is_told_from}
use Rattle.rdf_meaning.specs.Words.{is_type, word_number}
use Rattle.rdf_meaning.proofs.WordLaws.{same_word}

-- the tests, which compute

pub node_rows_are_told_apart : are_told_apart node_rows ≡ true
unfolding node_rows words_of word_number
node_rows_are_told_apart = refl

pub axiom_rows_are_told_apart : are_told_apart axiom_rows ≡ true
unfolding axiom_rows words_of word_number
axiom_rows_are_told_apart = refl

expression_sites : list_all (λ row. has_row_at row.site) node_rows ≡ true
unfolding node_rows
expression_sites = refl

no_datatypes : list_all (λ row. not (admits sort.Datatype row.tag)) node_rows ≡ true
unfolding node_rows admits number_of
no_datatypes = refl

no_data_properties : list_all (λ row. not (admits sort.DataPropertyExpression row.tag)) node_rows ≡ true
unfolding node_rows admits number_of
no_data_properties = refl

no_annotation_properties : list_all (λ row. not (admits sort.AnnotationProperty row.tag)) node_rows ≡ true
unfolding node_rows admits number_of
no_annotation_properties = refl

expressions_marked_well : list_all is_marked_well node_rows ≡ true
unfolding node_rows is_type
expressions_marked_well = refl

axioms_marked_well : list_all is_marked_well axiom_rows ≡ true
unfolding axiom_rows is_type
axioms_marked_well = refl

-- and what they give of a row

pub at_expression : (row : Row) → Contains node_rows row → has_row_at row.site ≡ true
at_expression row = passes (λ row. has_row_at row.site) node_rows row expression_sites

pub expression_marked_well : (row : Row) → Contains node_rows row → is_marked_well row ≡ true
expression_marked_well row = passes is_marked_well node_rows row expressions_marked_well

pub axiom_marked_well : (row : Row) → Contains axiom_rows row → is_marked_well row ≡ true
axiom_marked_well row = passes is_marked_well axiom_rows row axioms_marked_well

pub no_datatype : (row : Row) → Contains node_rows row → admits sort.Datatype row.tag ≡ false
no_datatype row m = not-true _ (passes (λ row. not (admits sort.Datatype row.tag)) node_rows row no_datatypes m)

pub no_data_property : (row : Row) → Contains node_rows row → admits sort.DataPropertyExpression row.tag ≡ false
no_data_property row m = not-true _ (passes (λ row. not (admits sort.DataPropertyExpression row.tag)) node_rows row no_data_properties m)

pub no_annotation_property : (row : Row) → Contains node_rows row → admits sort.AnnotationProperty row.tag ≡ false
no_annotation_property row m =
    not-true _ (passes (λ row. not (admits sort.AnnotationProperty row.tag)) node_rows row no_annotation_properties m)

-- two rows of a list that is told apart are one, or told apart in some order
pub one_or_told : (rows : List Row) → are_told_apart rows ≡ true → (r s : Row) → Contains rows r → Contains rows s → (r ≡ s) ⊎ ((is_told_from r s ≡ true) ⊎ (is_told_from s r ≡ true))
one_or_told [] h r s m n = absurd (in_none r m)
one_or_told (row ∷ rows) h r s m n =
    let parts = and_parts (list_all (is_told_from row) rows) (are_told_apart rows) h in
    elim (in_cases row rows r m) [
      | inl e ↦
          elim (in_cases row rows s n) [
            | inl f ↦ inl (sym e ∙ f)
            | inr k ↦ inr (inl (subst (λ q. is_told_from q s ≡ true) e (passes (is_told_from row) rows s parts.0 k)))
          ]
      | inr k ↦
          elim (in_cases row rows s n) [
            | inl f ↦ inr (inr (subst (λ q. is_told_from q r ≡ true) f (passes (is_told_from row) rows r parts.0 k)))
            | inr l ↦ one_or_told rows parts.1 r s k l
          ]
    ]

-- tests of equality

pub own_role : (r : Role) → is_role r r ≡ true
own_role role.List = refl
own_role _ = refl

pub same_role : (a b : Role) → is_role a b ≡ true → a ≡ b
same_role role.List role.List h = refl
same_role role.Property role.Property h = refl
same_role role.Class role.Class h = refl
same_role role.Range role.Range h = refl
same_role role.Facet role.Facet h = refl
same_role role.Main role.Main h = refl
same_role role.Note role.Note h = refl
same_role role.Header role.Header h = refl
same_role role.Individual role.Individual h = refl
same_role _ _ h = cc

own_word : (w : Word) → is_word w w ≡ true
own_word w = eq-eqb (word_number w) (word_number w) refl

pub own_site : (s : Site) → is_site s s ≡ true
own_site (Node r) = own_role r
own_site (TypedBy w) = own_word w
own_site OtherType = refl
own_site (LinkedBy w) = own_word w
own_site OtherLink = refl

pub same_place : (a b : Place) → is_place a b ≡ true → a ≡ b
same_place (At a) (At b) h = ap At (same_word a b h)
same_place Subject Subject h = refl
same_place Predicate Predicate h = refl
same_place Object Object h = refl
same_place _ _ h = cc
