-- Tests that the parts of a row give the kids of its tag (Structural Specification, sections 5 to 10).
use Rattle.std.specs.Prelude.{Bool, true, false, ◌&&◌, ◌||◌, nat_le, min, List, [], ◌∷◌, ◌++◌, map}
use Rattle.std.specs.List.{filter}
use Rattle.owl_tree.specs.declared.tag.Tag.{Tag}
use Rattle.owl_tree.specs.declared.tag.Tag.TheVariants as tag
use Rattle.owl_tree.specs.declared.row.Sort.{Sort}
use Rattle.owl_tree.specs.declared.row.Sort.TheVariants as sort
use Rattle.owl_tree.specs.declared.row.Rest.{Rest}
use Rattle.owl_tree.specs.declared.row.Rest.TheVariants.{Nothing, Optional, AtLeast, SomeThen, Set}
use Rattle.owl_tree.specs.Rows.{admits, fits_rest, is_from_to, is_tag, row_of}
use Rattle.owl_tree.specs.Rows as tree
use Rattle.rdf_meaning.specs.declared.row.Want.{Want}
use Rattle.rdf_meaning.specs.declared.row.Want.TheVariants.{One, Many, Whole, Keys, Declared, Mark, True}
use Rattle.rdf_meaning.specs.declared.row.Part.{Part}
use Rattle.rdf_meaning.specs.Rows.{Row}

-- trees of the one sort are trees of the other
abbrev pub is_within : Sort → Sort → Bool
is_within sort.Notes sort.Notes = true
is_within sort.AnnotationProperty sort.AnnotationProperty = true
is_within sort.AnnotationSubject sort.AnnotationSubject = true
is_within sort.AnnotationValue sort.AnnotationValue = true
is_within sort.Iri sort.Iri = true
is_within sort.ClassExpression sort.ClassExpression = true
is_within sort.Class sort.Class = true
is_within sort.DataRange sort.DataRange = true
is_within sort.Datatype sort.Datatype = true
is_within sort.ObjectPropertyExpression sort.ObjectPropertyExpression = true
is_within sort.ObjectPropertyExpression sort.SubObjectPropertyExpression = true
is_within sort.ObjectProperty sort.ObjectProperty = true
is_within sort.ObjectProperty sort.ObjectPropertyExpression = true
is_within sort.DataPropertyExpression sort.DataPropertyExpression = true
is_within sort.Individual sort.Individual = true
is_within sort.Literal sort.Literal = true
is_within sort.Number sort.Number = true
is_within sort.FacetPair sort.FacetPair = true
is_within _ _ = false

-- what is wanted of which kids come
abbrev pub with_kids : Want → List Want → List Want
with_kids Mark wants = wants
with_kids True wants = wants
with_kids w wants = w ∷ wants

abbrev pub kid_wants : List Part → List Want
kid_wants [] = []
kid_wants (p ∷ ps) = with_kids p.want (kid_wants ps)

-- the kids that these give may stand behind the front of a row
abbrev pub fill_rest : List Want → Rest → Bool
fill_rest [] rest = fits_rest rest []
fill_rest (One s ∷ []) (Optional a) = is_within s a
fill_rest (One s ∷ One t ∷ []) (SomeThen a b) = is_within s a && is_within t b
fill_rest (One s ∷ One t ∷ []) (Set a n) = nat_le (min n 1) 2 && (is_within s a && is_within t a)
fill_rest (Many s least ∷ []) (AtLeast a n) = nat_le n least && is_within s a
fill_rest (Many s least ∷ []) (Set a n) = nat_le (min n 1) least && is_within s a
fill_rest (Many s least ∷ One t ∷ []) (SomeThen a b) = nat_le 1 least && (is_within s a && is_within t b)
fill_rest _ _ = false

-- the kids that these give are those of a row
abbrev pub fill : List Want → List Sort → Rest → Bool
fill wants [] rest = fill_rest wants rest
fill (One s ∷ wants) (a ∷ front) rest = is_within s a && fill wants front rest
fill (Whole t s least ∷ wants) (a ∷ front) rest = admits a t && fill wants front rest
fill (Keys ∷ wants) (a ∷ b ∷ front) rest = admits a tag.ObjectKeys && (admits b tag.DataKeys && fill wants front rest)
fill (Declared t ∷ wants) (a ∷ front) rest = admits a t && fill wants front rest
fill _ _ _ = false

abbrev pub are_kids_of : tree.Row → List Want → Bool
are_kids_of (tree.Leaf s) wants = false
are_kids_of (tree.Node front rest) wants = fill wants front rest

-- an expression has the kids that its parts give, and an axiom has annotations in front of them
abbrev pub gives_expression : Row → Bool
gives_expression row = are_kids_of (row_of row.tag) (kid_wants row.parts)

abbrev pub gives_axiom : Row → Bool
gives_axiom row = are_kids_of (row_of row.tag) (One sort.Notes ∷ kid_wants row.parts)

-- the ways to write what stands behind the front of a row, and then all kids
abbrev pub ways_behind : Rest → List (List Want)
ways_behind Nothing = [] ∷ []
ways_behind (Optional s) = [] ∷ (One s ∷ []) ∷ []
ways_behind (AtLeast s n) = (Many s n ∷ []) ∷ []
ways_behind (SomeThen s last) = (One s ∷ One last ∷ []) ∷ (Many s 1 ∷ One last ∷ []) ∷ []
ways_behind (Set s n) = (Many s n ∷ []) ∷ []

abbrev pub ways : tree.Row → List (List Want)
ways (tree.Leaf s) = []
ways (tree.Node front rest) = map (λ behind. map One front ++ behind) (ways_behind rest)

-- the tags of expressions that are written as nodes of their own
abbrev pub is_expression : Tag → Bool
is_expression t = is_tag tag.ObjectInverseOf t || is_from_to tag.ObjectIntersectionOf tag.DatatypeRestriction t

-- the ways that the rows of a tag write its kids
abbrev pub ways_of_rows : List Row → Tag → List (List Want)
ways_of_rows rows t = map (λ row. kid_wants row.parts) (filter (λ row. is_tag row.tag t) rows)
