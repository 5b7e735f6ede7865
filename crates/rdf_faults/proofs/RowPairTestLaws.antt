-- Tests over pairs of rows that one node may be of: the kind of its property tells them apart, and else they want the same.
use Rattle.std.specs.Prelude.{Bool, true, false, not, ◌&&◌, ◌||◌, cond, nat_eq, List, [], ◌∷◌}
use Rattle.std.specs.List.{list_all, list_any}
use Rattle.owl_tree.specs.declared.row.Sort.TheVariants as sort
use Rattle.rdf_meaning.specs.declared.role.Role.{Role}
use Rattle.rdf_meaning.specs.declared.role.Role.TheVariants as role
use Rattle.rdf_meaning.specs.declared.word.Word.{Word}
use Rattle.rdf_meaning.specs.declared.word.Word.TheVariants as word
use Rattle.rdf_meaning.specs.declared.row.Place.{Place}
use Rattle.rdf_meaning.specs.declared.row.Place.TheVariants.{At, Subject, Predicate, Object}
use Rattle.rdf_meaning.specs.declared.row.Part.{Part}
use Rattle.rdf_meaning.specs.declared.row.Site.{Site}
use Rattle.rdf_meaning.specs.declared.row.Site.TheVariants.{Node, TypedBy, OtherType, LinkedBy, OtherLink}
use Rattle.rdf_meaning.specs.declared.row.Want.{Want}
use Rattle.rdf_meaning.specs.declared.row.Want.TheVariants.{One, Mark}
use Rattle.rdf_meaning.specs.Nodes.{is_word, words_of}
use Rattle.rdf_meaning.specs.Rows.{Row}
use Rattle.rdf_meaning.specs.RowTests.{has_same_form, is_place}
use Rattle.rdf_meaning.specs.Denotation.{stands_at, times}
use Rattle.rdf_faults.specs.Asked.{by_property}

-- the word whose object tells which of two rows a node is of
abbrev pub decider : Role → Word
decider role.Main = word.Members
decider _ = word.OnProperty

-- the same is wanted
abbrev pub is_plain : Want → Want → Bool
is_plain Mark Mark = true
is_plain (One sort.Number) (One sort.Number) = true
is_plain _ _ = false

-- no property is both
abbrev pub tells : Want → Want → Bool
tells (One sort.ObjectPropertyExpression) (One sort.DataPropertyExpression) = true
tells (One sort.DataPropertyExpression) (One sort.ObjectPropertyExpression) = true
tells _ _ = false

-- what is wanted is told by the kind of the property
abbrev pub is_by : Place → Bool
is_by (At w) = list_any (λ v. is_word v w) by_property
is_by Subject = false
is_by Predicate = false
is_by Object = false

abbrev pub agrees : Word → Part → Part → Bool
agrees w p q =
    cond (stands_at w p) (tells p.want q.want || not (is_word w word.OnProperty))
    (is_plain p.want q.want || (is_word w word.OnProperty && is_by p.place))

abbrev pub is_aligned : Word → List Part → List Part → Bool
is_aligned w [] qs = true
is_aligned w (p ∷ ps) [] = false
is_aligned w (p ∷ ps) (q ∷ qs) = (is_place p.place q.place && agrees w p q) && is_aligned w ps qs

abbrev pub joins : Site → Row → Row → Bool
joins (Node r) a b = not (has_same_form a b) || (nat_eq (times (decider r) a.parts) 1 && is_aligned (decider r) a.parts b.parts)
joins (TypedBy w) a b = true
joins OtherType a b = true
joins (LinkedBy w) a b = true
joins OtherLink a b = true

abbrev pub are_joined : Row → Row → Bool
are_joined a b = joins a.site a b

abbrev pub all_joined : List Row → Bool
all_joined [] = true
all_joined (a ∷ rows) = list_all (λ b. are_joined a b && are_joined b a) rows && all_joined rows

-- each part of a node's row is at a word of the role, and no other part is there
abbrev pub is_own_place : Role → List Part → Place → Bool
is_own_place r ps (At w) = list_any (λ v. is_word v w) (words_of r) && nat_eq (times w ps) 1
is_own_place r ps Subject = false
is_own_place r ps Predicate = false
is_own_place r ps Object = false

abbrev pub are_own_at : Site → List Part → Bool
are_own_at (Node r) ps = list_all (λ p. is_own_place r ps p.place) ps
are_own_at (TypedBy w) ps = true
are_own_at OtherType ps = true
are_own_at (LinkedBy w) ps = true
are_own_at OtherLink ps = true

abbrev pub has_own_parts : Row → Bool
has_own_parts row = are_own_at row.site row.parts
