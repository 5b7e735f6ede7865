-- What the grammar asks of the rows of tags.
use Rattle.std.proofs.Common.{◌≡◌, Bool, true, false, ◌&&◌, refl}
use Rattle.std.specs.List.{list_all}
use Rattle.owl_tree.specs.declared.row.Sort.{Sort}
use Rattle.owl_tree.specs.declared.row.Sort.TheVariants as sort
use Rattle.owl_tree.specs.declared.row.Rest.{Rest}
use Rattle.owl_tree.specs.declared.row.Rest.TheVariants.{Nothing, Optional, AtLeast, SomeThen, Set}
use Rattle.owl_tree.specs.declared.tag.Tag.{Tag}
use Rattle.owl_tree.specs.declared.tag.Tag.TheVariants as tag
use Rattle.owl_tree.specs.Rows.{Row, Leaf, Node, row_of}
use Rattle.owl_tree.specs.Tags.{number_of}
use Rattle.fss_grammar.specs.Meaning.{suits}
use Rattle.fss_grammar.specs.Page.Rule.{many, maybe}
use Rattle.fss_grammar.proofs.PageRows.{is_within}

abbrev pub is_data_property : Sort → Bool
is_data_property sort.DataPropertyExpression = true
is_data_property _ = false

abbrev pub is_data_range : Sort → Bool
is_data_range sort.DataRange = true
is_data_range _ = false

pub data_property_is : (s : Sort) → is_data_property s ≡ true → s ≡ sort.DataPropertyExpression
data_property_is sort.DataPropertyExpression h = refl
data_property_is _ h = absurd (cc)

pub data_range_is : (s : Sort) → is_data_range s ≡ true → s ≡ sort.DataRange
data_range_is sort.DataRange h = refl
data_range_is _ h = absurd (cc)

-- The table has the rules for what stands behind the front, and its sorts suit the tag. Some of a sort and then one of another
-- are data properties and a data range.
abbrev pub rest_test : Tag → Rest → Bool
rest_test t Nothing = true
rest_test t (Optional s) = is_within (maybe s) && suits s t
rest_test t (AtLeast s least) = is_within (many s) && suits s t
rest_test t (SomeThen s last) = is_data_property s && (is_data_range last && (suits s t && suits last t))
rest_test t (Set s least) = is_within (many s) && suits s t

abbrev pub row_test : Tag → Row → Bool
row_test t (Leaf held) = true
row_test t (Node front rest) = list_all (λ s. suits s t) front && rest_test t rest

pub each_row_passes : (t : Tag) → row_test t (row_of t) ≡ true
unfolding row_of number_of
each_row_passes tag.Class = refl
each_row_passes _ = refl
