-- What is said of trees stands in a text.
use Rattle.std.proofs.Common.{◌≤◌, ◌+◌, ◌*◌, ℕ, zero, suc, arith, Option, List, [], ◌∷◌, sym, subst}
use Rattle.std.specs.List.{AllByRecursion}
use Rattle.man_raw.specs.declared.form.Facet.{Facet}
use Rattle.man_raw.specs.declared.form.Form.TheVariants as form
use Rattle.man_raw.specs.declared.form.What.TheVariants as what
use Rattle.man_raw.specs.Raws.{RawTree}
use Rattle.man_resolve.specs.declared.place.Place.{Place}
use Rattle.man_resolve.specs.declared.place.Place.TheVariants as place
use Rattle.owl_tree.specs.declared.atom.Atom.TheVariants as atom
use Rattle.owl_tree.specs.declared.tag.Tag.{Tag}
use Rattle.owl_tree.specs.Trees.{Kids, Tree, depth, kid, kids_of, most_depth, node}
use Rattle.man_text.specs.Undecided.{facet_what, form_of, is_bracketed, is_counted, leaf_what, operand, operands, piece, undecided}
use Rattle.man_text.proofs.ExpressionLaws.{AreExpressionsAt, IsClassOrRange, IsCounted, IsExpressionAt, IsFacetPairTree, IsIriAt, IsLabelAt, IsLeafAt, IsLiteralAt, IsNameAt, IsPropertyOf, IsQuantified, IsValued, Side, class_and, class_not, class_or, data_exactly, data_max, data_min, data_only, data_property, data_some, data_value, datas, filler_place, inverse_property, object_exactly, object_max, object_min, object_only, object_property, object_some, object_value, objects, of_class, of_individuals, of_literals, of_range, pair_of, range_and, range_not, range_or, value_place}
use Rattle.man_text.proofs.MeaningLaws.{bare_leaf, bare_property}
use Rattle.man_text.proofs.WritableLaws.{AreOperands, IsConnective, IsExpression, IsFacetPair, IsIndividual, IsLiteralPiece, IsName, IsNumber, IsOperand, IsProperty, IsQuantifier, IsValue, a_literal, a_number, an_iri}
use Rattle.man_text.proofs.WritableLaws.{IsCardinality}

-- ---- leaves and properties

-- what stands at the place, by the rules of the grammar
abbrev pub StandsAt : Place → RawTree → Type 0
StandsAt place.Individual r = IsIndividual r
StandsAt place.Value r = IsValue r
StandsAt place.Literal r = IsLiteralPiece r
StandsAt place.Number r = IsNumber r
StandsAt _ r = IsName r

pub leaf_stands : (p : Place) (t : Tree) → IsLeafAt p t → StandsAt p (undecided t)
unfolding leaf_what
leaf_stands _ _ (IsLeafAt.name_leaf _ _ _ iri IsNameAt.class is) = an_iri iri is
leaf_stands _ _ (IsLeafAt.name_leaf _ _ _ iri IsNameAt.class_name is) = an_iri iri is
leaf_stands _ _ (IsLeafAt.name_leaf _ _ _ iri IsNameAt.range is) = an_iri iri is
leaf_stands _ _ (IsLeafAt.name_leaf _ _ _ iri IsNameAt.datatype is) = an_iri iri is
leaf_stands _ _ (IsLeafAt.name_leaf _ _ _ iri IsNameAt.object is) = an_iri iri is
leaf_stands _ _ (IsLeafAt.name_leaf _ _ _ iri IsNameAt.object_name is) = an_iri iri is
leaf_stands _ _ (IsLeafAt.name_leaf _ _ _ iri IsNameAt.data_property is) = an_iri iri is
leaf_stands _ _ (IsLeafAt.name_leaf _ _ _ iri IsNameAt.annotation_property is) = an_iri iri is
leaf_stands _ _ (IsLeafAt.iri_leaf _ _ iri IsIriAt.named_individual is) = IsIndividual.named _ (an_iri iri is)
leaf_stands _ _ (IsLeafAt.iri_leaf _ _ iri IsIriAt.value_iri is) = IsValue.individual _ (IsIndividual.named _ (an_iri iri is))
leaf_stands _ _ (IsLeafAt.iri_leaf _ _ iri IsIriAt.plain_iri is) = an_iri iri is
leaf_stands _ _ (IsLeafAt.label_leaf _ label IsLabelAt.individual_label is) = IsIndividual.labelled label is
leaf_stands _ _ (IsLeafAt.label_leaf _ label IsLabelAt.value_label is) = IsValue.individual _ (IsIndividual.labelled label is)
leaf_stands _ _ (IsLeafAt.literal_leaf _ value IsLiteralAt.literal is) = a_literal value is
leaf_stands _ _ (IsLeafAt.literal_leaf _ value IsLiteralAt.value_literal is) = IsValue.literal _ (a_literal value is)
leaf_stands _ _ (IsLeafAt.number_leaf n few) = a_number n few

pub property_stands : (s : Side) (p : Tree) → IsPropertyOf s p → IsProperty (undecided p)
unfolding leaf_what form_of is_counted is_bracketed
property_stands _ _ (object_property iri is) = IsProperty.direct _ (an_iri iri is)
property_stands _ _ (inverse_property iri is) = IsProperty.inverse _ (an_iri iri is)
property_stands _ _ (data_property iri is) = IsProperty.direct _ (an_iri iri is)

-- as operands, of which leaves and properties stand without brackets

leaf_operand : (p : Place) (t : Tree) → IsLeafAt p t → StandsAt p (operand (undecided t))
leaf_operand p t at = subst (StandsAt p) (sym (bare_leaf p t at)) (leaf_stands p t at)

property_operand : (s : Side) (p : Tree) → IsPropertyOf s p → IsProperty (operand (undecided p))
property_operand s p is = subst IsProperty (sym (bare_property s p is)) (property_stands s p is)

individuals_stand : (ts : List Tree) → AllByRecursion (IsLeafAt place.Individual) ts → AllByRecursion IsIndividual (operands (kids_of ts))
individuals_stand [] h = tt
individuals_stand (t ∷ ts) h = (leaf_operand place.Individual t h.0, individuals_stand ts h.1)

literals_stand : (ts : List Tree) → AllByRecursion (IsLeafAt place.Literal) ts → AllByRecursion IsLiteralPiece (operands (kids_of ts))
literals_stand [] h = tt
literals_stand (t ∷ ts) h = (leaf_operand place.Literal t h.0, literals_stand ts h.1)

pub properties_stand : (s : Side) (ts : List Tree) → AllByRecursion (IsPropertyOf s) ts → AllByRecursion IsProperty (operands (kids_of ts))
properties_stand s [] h = tt
properties_stand s (t ∷ ts) h = (property_operand s t h.0, properties_stand s ts h.1)

pair_stands : (t : Tree) → IsFacetPairTree t → IsFacetPair (operand (undecided t))
unfolding leaf_what form_of is_counted is_bracketed
pair_stands _ (pair_of iri f value found is) =
    subst (λ (o : Option Facet). IsFacetPair (piece (what.Form form.FacetPair) (operand (piece (facet_what iri o) []) ∷ piece (what.Atom (atom.Literal value)) [] ∷ []))) (sym found)
    (IsFacetPair.facet_pair f (piece (what.Atom (atom.Literal value)) []) (a_literal value is))

pairs_stand : (ts : List Tree) → AllByRecursion IsFacetPairTree ts → AllByRecursion IsFacetPair (operands (kids_of ts))
pairs_stand [] h = tt
pairs_stand (t ∷ ts) h = (pair_stands t h.0, pairs_stand ts h.1)

-- ---- expressions

name_of : (p : Place) (t : Tree) → IsClassOrRange p → IsLeafAt p t → IsName (undecided t)
name_of _ t of_class at = leaf_stands place.Class t at
name_of _ t of_range at = leaf_stands place.Range t at

-- two nests for each level of the tree
abbrev pub Fits : ℕ → ℕ → Type 0
Fits n d = 2 * d ≤ n

-- with one more for the brackets of an operand
abbrev pub FitsOperand : ℕ → ℕ → Type 0
FitsOperand n d = 2 * d + 1 ≤ n

deep_first : (t : Tree) (ks : Kids) → depth t ≤ most_depth (kid t ks)
deep_first t ks = omega arith

deep_rest : (t : Tree) (ks : Kids) → most_depth ks ≤ most_depth (kid t ks)
deep_rest t ks = omega arith

value_stands : (s : Side) (t : Tree) → IsLeafAt (value_place s) t → IsValue (operand (undecided t))
value_stands objects t at = IsValue.individual _ (leaf_operand place.Individual t at)
value_stands datas t at = IsValue.literal _ (leaf_operand place.Literal t at)

abbrev at_most : List Tree → Tag → RawTree
at_most ts t = undecided (node t (kids_of ts))

-- restrictions, by their tags

quantified_stands : (n : ℕ) (s : Side) (t : Tag) (p a : Tree) → IsQuantified s t → IsPropertyOf s p → IsOperand n (operand (undecided a)) → IsExpression (suc n) (at_most (p ∷ a ∷ []) t)
unfolding form_of is_counted
quantified_stands n _ _ p a object_some is e = IsExpression.quantified n form.SomeOf _ _ IsQuantifier.some_of (property_operand objects p is) e
quantified_stands n _ _ p a object_only is e = IsExpression.quantified n form.OnlyOf _ _ IsQuantifier.only_of (property_operand objects p is) e
quantified_stands n _ _ p a data_some is e = IsExpression.quantified n form.SomeOf _ _ IsQuantifier.some_of (property_operand datas p is) e
quantified_stands n _ _ p a data_only is e = IsExpression.quantified n form.OnlyOf _ _ IsQuantifier.only_of (property_operand datas p is) e

bracketed_quantifier : (n : ℕ) (s : Side) (t : Tag) (p a : Tree) → IsQuantified s t → IsExpression (suc n) (at_most (p ∷ a ∷ []) t) → IsOperand (suc (suc n)) (operand (at_most (p ∷ a ∷ []) t))
unfolding form_of is_counted is_bracketed
bracketed_quantifier n _ _ p a object_some e = IsOperand.bracket (suc n) _ e
bracketed_quantifier n _ _ p a object_only e = IsOperand.bracket (suc n) _ e
bracketed_quantifier n _ _ p a data_some e = IsOperand.bracket (suc n) _ e
bracketed_quantifier n _ _ p a data_only e = IsOperand.bracket (suc n) _ e

valued_stands : (n : ℕ) (s : Side) (t : Tag) (p a : Tree) → IsValued s t → IsPropertyOf s p → IsValue (operand (undecided a)) → IsExpression n (at_most (p ∷ a ∷ []) t)
unfolding form_of is_counted
valued_stands n _ _ p a object_value is v = IsExpression.value_of n _ _ (property_operand objects p is) v
valued_stands n _ _ p a data_value is v = IsExpression.value_of n _ _ (property_operand datas p is) v

bracketed_value : (n : ℕ) (s : Side) (t : Tag) (p a : Tree) → IsValued s t → IsExpression n (at_most (p ∷ a ∷ []) t) → IsOperand (suc n) (operand (at_most (p ∷ a ∷ []) t))
unfolding form_of is_counted is_bracketed
bracketed_value n _ _ p a object_value e = IsOperand.bracket n _ e
bracketed_value n _ _ p a data_value e = IsOperand.bracket n _ e

counted_stands : (n : ℕ) (s : Side) (t : Tag) (m p : Tree) → IsCounted s t → IsPropertyOf s p → IsNumber (operand (undecided m)) → IsExpression (suc n) (at_most (m ∷ p ∷ []) t)
unfolding form_of is_counted
counted_stands n _ _ m p object_min is k = IsExpression.counted n form.Min _ _ IsCardinality.min (property_operand objects p is) k
counted_stands n _ _ m p object_max is k = IsExpression.counted n form.Max _ _ IsCardinality.max (property_operand objects p is) k
counted_stands n _ _ m p object_exactly is k = IsExpression.counted n form.Exactly _ _ IsCardinality.exactly (property_operand objects p is) k
counted_stands n _ _ m p data_min is k = IsExpression.counted n form.Min _ _ IsCardinality.min (property_operand datas p is) k
counted_stands n _ _ m p data_max is k = IsExpression.counted n form.Max _ _ IsCardinality.max (property_operand datas p is) k
counted_stands n _ _ m p data_exactly is k = IsExpression.counted n form.Exactly _ _ IsCardinality.exactly (property_operand datas p is) k

counted_of_stands : (n : ℕ) (s : Side) (t : Tag) (m p a : Tree) → IsCounted s t → IsPropertyOf s p → IsNumber (operand (undecided m)) → IsOperand n (operand (undecided a)) → IsExpression (suc n) (at_most (m ∷ p ∷ a ∷ []) t)
unfolding form_of is_counted
counted_of_stands n _ _ m p a object_min is k e = IsExpression.counted_of n form.Min _ _ _ IsCardinality.min (property_operand objects p is) k e
counted_of_stands n _ _ m p a object_max is k e = IsExpression.counted_of n form.Max _ _ _ IsCardinality.max (property_operand objects p is) k e
counted_of_stands n _ _ m p a object_exactly is k e = IsExpression.counted_of n form.Exactly _ _ _ IsCardinality.exactly (property_operand objects p is) k e
counted_of_stands n _ _ m p a data_min is k e = IsExpression.counted_of n form.Min _ _ _ IsCardinality.min (property_operand datas p is) k e
counted_of_stands n _ _ m p a data_max is k e = IsExpression.counted_of n form.Max _ _ _ IsCardinality.max (property_operand datas p is) k e
counted_of_stands n _ _ m p a data_exactly is k e = IsExpression.counted_of n form.Exactly _ _ _ IsCardinality.exactly (property_operand datas p is) k e

bracketed_count : (n : ℕ) (s : Side) (t : Tag) (ts : List Tree) → IsCounted s t → IsExpression (suc n) (at_most ts t) → IsOperand (suc (suc n)) (operand (at_most ts t))
unfolding form_of is_counted is_bracketed
bracketed_count n _ _ ts object_min e = IsOperand.bracket (suc n) _ e
bracketed_count n _ _ ts object_max e = IsOperand.bracket (suc n) _ e
bracketed_count n _ _ ts object_exactly e = IsOperand.bracket (suc n) _ e
bracketed_count n _ _ ts data_min e = IsOperand.bracket (suc n) _ e
bracketed_count n _ _ ts data_max e = IsOperand.bracket (suc n) _ e
bracketed_count n _ _ ts data_exactly e = IsOperand.bracket (suc n) _ e

mutual
  unfolding form_of is_counted is_bracketed

  pub expression_stands : (n : ℕ) (p : Place) (t : Tree) → IsExpressionAt p t → Fits n (depth t) → IsExpression n (undecided t)
  expression_stands n _ _ (IsExpressionAt.named p t is at) fits = IsExpression.alone n _ (IsOperand.of_name n _ (name_of p t is at))
  expression_stands n _ _ (IsExpressionAt.connected _ _ a b ts class_and es) fits = IsExpression.connected n form.And _ _ _ IsConnective.and (operands_stand n place.Class (a ∷ b ∷ ts) es (omega arith))
  expression_stands n _ _ (IsExpressionAt.connected _ _ a b ts class_or es) fits = IsExpression.connected n form.Or _ _ _ IsConnective.or (operands_stand n place.Class (a ∷ b ∷ ts) es (omega arith))
  expression_stands n _ _ (IsExpressionAt.connected _ _ a b ts range_and es) fits = IsExpression.connected n form.And _ _ _ IsConnective.and (operands_stand n place.Range (a ∷ b ∷ ts) es (omega arith))
  expression_stands n _ _ (IsExpressionAt.connected _ _ a b ts range_or es) fits = IsExpression.connected n form.Or _ _ _ IsConnective.or (operands_stand n place.Range (a ∷ b ∷ ts) es (omega arith))
  expression_stands zero _ _ (IsExpressionAt.complement _ _ a class_not e) fits = absurd (omega arith)
  expression_stands zero _ _ (IsExpressionAt.complement _ _ a range_not e) fits = absurd (omega arith)
  expression_stands (suc n) _ _ (IsExpressionAt.complement _ _ a class_not e) fits = IsExpression.not_of n _ (operand_stands n place.Class a e (omega arith))
  expression_stands (suc n) _ _ (IsExpressionAt.complement _ _ a range_not e) fits = IsExpression.not_of n _ (operand_stands n place.Range a e (omega arith))
  expression_stands zero _ _ (IsExpressionAt.enumeration _ _ _ a ts of_individuals ls) fits = absurd (omega arith)
  expression_stands zero _ _ (IsExpressionAt.enumeration _ _ _ a ts of_literals ls) fits = absurd (omega arith)
  expression_stands (suc n) _ _ (IsExpressionAt.enumeration _ _ _ a ts of_individuals ls) fits = IsExpression.alone (suc n) _ (IsOperand.individuals n _ _ (individuals_stand (a ∷ ts) ls))
  expression_stands (suc n) _ _ (IsExpressionAt.enumeration _ _ _ a ts of_literals ls) fits = IsExpression.alone (suc n) _ (IsOperand.literals n _ _ (literals_stand (a ∷ ts) ls))
  expression_stands zero _ _ (IsExpressionAt.restricted d a ts at ps) fits = absurd (omega arith)
  expression_stands (suc n) _ _ (IsExpressionAt.restricted d a ts at ps) fits = IsExpression.alone (suc n) _ (IsOperand.restricted n _ _ _ (leaf_operand place.Datatype d at) (pairs_stand (a ∷ ts) ps))
  expression_stands zero _ _ (IsExpressionAt.quantified s t p a q is e) fits = absurd (omega arith)
  expression_stands (suc n) _ _ (IsExpressionAt.quantified s t p a q is e) fits = quantified_stands n s t p a q is (operand_stands n (filler_place s) a e (omega arith))
  expression_stands n _ _ (IsExpressionAt.valued s t p a v is at) fits = valued_stands n s t p a v is (value_stands s a at)
  expression_stands n _ _ (IsExpressionAt.self_of p is) fits = IsExpression.self_of n _ (property_operand objects p is)
  expression_stands zero _ _ (IsExpressionAt.counted s t m p c at is) fits = absurd (omega arith)
  expression_stands (suc n) _ _ (IsExpressionAt.counted s t m p c at is) fits = counted_stands n s t m p c is (leaf_operand place.Number m at)
  expression_stands zero _ _ (IsExpressionAt.counted_of s t m p a c at is e) fits = absurd (omega arith)
  expression_stands (suc n) _ _ (IsExpressionAt.counted_of s t m p a c at is e) fits = counted_of_stands n s t m p a c is (leaf_operand place.Number m at) (operand_stands n (filler_place s) a e (omega arith))

  -- in brackets, but for names, enumerations and restricted datatypes
  pub operand_stands : (n : ℕ) (p : Place) (t : Tree) → IsExpressionAt p t → FitsOperand n (depth t) → IsOperand n (operand (undecided t))
  operand_stands n _ _ (IsExpressionAt.named p t is at) fits = subst (IsOperand n) (sym (bare_leaf p t at)) (IsOperand.of_name n _ (name_of p t is at))
  operand_stands zero p _ (IsExpressionAt.connected _ t a b ts is es) fits = absurd (omega arith)
  operand_stands (suc n) _ _ (IsExpressionAt.connected _ _ a b ts class_and es) fits = IsOperand.bracket n _ (IsExpression.connected n form.And _ _ _ IsConnective.and (operands_stand n place.Class (a ∷ b ∷ ts) es (omega arith)))
  operand_stands (suc n) _ _ (IsExpressionAt.connected _ _ a b ts class_or es) fits = IsOperand.bracket n _ (IsExpression.connected n form.Or _ _ _ IsConnective.or (operands_stand n place.Class (a ∷ b ∷ ts) es (omega arith)))
  operand_stands (suc n) _ _ (IsExpressionAt.connected _ _ a b ts range_and es) fits = IsOperand.bracket n _ (IsExpression.connected n form.And _ _ _ IsConnective.and (operands_stand n place.Range (a ∷ b ∷ ts) es (omega arith)))
  operand_stands (suc n) _ _ (IsExpressionAt.connected _ _ a b ts range_or es) fits = IsOperand.bracket n _ (IsExpression.connected n form.Or _ _ _ IsConnective.or (operands_stand n place.Range (a ∷ b ∷ ts) es (omega arith)))
  operand_stands zero p _ (IsExpressionAt.complement _ t a is e) fits = absurd (omega arith)
  operand_stands (suc zero) p _ (IsExpressionAt.complement _ t a is e) fits = absurd (omega arith)
  operand_stands (suc (suc n)) _ _ (IsExpressionAt.complement _ _ a class_not e) fits = IsOperand.bracket (suc n) _ (IsExpression.not_of n _ (operand_stands n place.Class a e (omega arith)))
  operand_stands (suc (suc n)) _ _ (IsExpressionAt.complement _ _ a range_not e) fits = IsOperand.bracket (suc n) _ (IsExpression.not_of n _ (operand_stands n place.Range a e (omega arith)))
  operand_stands zero p _ (IsExpressionAt.enumeration _ q t a ts is ls) fits = absurd (omega arith)
  operand_stands (suc n) _ _ (IsExpressionAt.enumeration _ _ _ a ts of_individuals ls) fits = IsOperand.individuals n _ _ (individuals_stand (a ∷ ts) ls)
  operand_stands (suc n) _ _ (IsExpressionAt.enumeration _ _ _ a ts of_literals ls) fits = IsOperand.literals n _ _ (literals_stand (a ∷ ts) ls)
  operand_stands zero _ _ (IsExpressionAt.restricted d a ts at ps) fits = absurd (omega arith)
  operand_stands (suc n) _ _ (IsExpressionAt.restricted d a ts at ps) fits = IsOperand.restricted n _ _ _ (leaf_operand place.Datatype d at) (pairs_stand (a ∷ ts) ps)
  operand_stands zero _ _ (IsExpressionAt.quantified s t p a q is e) fits = absurd (omega arith)
  operand_stands (suc zero) _ _ (IsExpressionAt.quantified s t p a q is e) fits = absurd (omega arith)
  operand_stands (suc (suc n)) _ _ (IsExpressionAt.quantified s t p a q is e) fits = bracketed_quantifier n s t p a q (quantified_stands n s t p a q is (operand_stands n (filler_place s) a e (omega arith)))
  operand_stands zero _ _ (IsExpressionAt.valued s t p a v is at) fits = absurd (omega arith)
  operand_stands (suc n) _ _ (IsExpressionAt.valued s t p a v is at) fits = bracketed_value n s t p a v (valued_stands n s t p a v is (value_stands s a at))
  operand_stands zero _ _ (IsExpressionAt.self_of p is) fits = absurd (omega arith)
  operand_stands (suc n) _ _ (IsExpressionAt.self_of p is) fits = IsOperand.bracket n _ (IsExpression.self_of n _ (property_operand objects p is))
  operand_stands zero _ _ (IsExpressionAt.counted s t m p c at is) fits = absurd (omega arith)
  operand_stands (suc zero) _ _ (IsExpressionAt.counted s t m p c at is) fits = absurd (omega arith)
  operand_stands (suc (suc n)) _ _ (IsExpressionAt.counted s t m p c at is) fits = bracketed_count n s t (m ∷ p ∷ []) c (counted_stands n s t m p c is (leaf_operand place.Number m at))
  operand_stands zero _ _ (IsExpressionAt.counted_of s t m p a c at is e) fits = absurd (omega arith)
  operand_stands (suc zero) _ _ (IsExpressionAt.counted_of s t m p a c at is e) fits = absurd (omega arith)
  operand_stands (suc (suc n)) _ _ (IsExpressionAt.counted_of s t m p a c at is e) fits = bracketed_count n s t (m ∷ p ∷ a ∷ []) c (counted_of_stands n s t m p a c is (leaf_operand place.Number m at) (operand_stands n (filler_place s) a e (omega arith)))

  operands_stand : (n : ℕ) (p : Place) (ts : List Tree) → AreExpressionsAt p ts → FitsOperand n (most_depth (kids_of ts)) → AreOperands n (operands (kids_of ts))
  operands_stand n _ _ (AreExpressionsAt.no_expressions p) fits = AreOperands.no_operands n
  operands_stand n _ _ (AreExpressionsAt.expression p t ts e es) fits = AreOperands.operand n _ _ (operand_stands n p t e (omega arith)) (operands_stand n p ts es (omega arith))
