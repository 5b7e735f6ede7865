-- Which trees are of a sort.
use Rattle.std.specs.Prelude.{Bool, true, false, ◌&&◌, nat_eq, if◌then◌else◌, List, [], ◌∷◌, length, Option, None, Some, unwrap_or}
use Rattle.dl_rules.specs.Logical.{is_remark}
use Rattle.owl_tree.specs.declared.atom.Atom.{Atom}
use Rattle.owl_tree.specs.declared.tag.Tag.{Tag}
use Rattle.owl_tree.specs.Rows.{admits, is_tag}
use Rattle.owl_tree.specs.Trees.{Tree, Kids as Below, leaf, node, no_kids, kid}
use Rattle.profile_sorts.specs.declared.production.Others.{Others}
use Rattle.profile_sorts.specs.declared.production.Others.TheVariants.{Nothing, Anything, Throughout}
use Rattle.profile_sorts.specs.declared.sort.Sort.{Sort}
use Rattle.profile_sorts.specs.LeafTests.{passes}
use Rattle.profile_sorts.specs.Productions.{Form, Any, Refused, Atom as Leaf, Kids, Single, production_of}

-- the form of the first alternative with the tag
abbrev pub form_among : List (Tag × Form) → Tag → Option Form
form_among [] t = None
form_among (a ∷ alternatives) t = if is_tag a.0 t then Some a.1 else form_among alternatives t

-- What is asked where no alternative has the tag: by `Throughout`, that the alternatives say all of one sort of trees, and that each kid is right.
abbrev pub other_form : Others → Sort → Tag → Form
other_form Nothing s t = Refused
other_form Anything s t = Any
other_form (Throughout all) s t = if is_remark t then Any else if admits all t then Refused else Kids [] s

abbrev pub form_of : Sort → Tag → Form
form_of s t = unwrap_or (form_among (production_of s).alternatives t) (other_form (production_of s).others s t)

abbrev pub leaf_fits : Form → Atom → Bool
leaf_fits Any a = true
leaf_fits Refused a = false
leaf_fits (Leaf test) a = passes test a
leaf_fits (Kids front rest) a = true
leaf_fits Single a = false

-- Kids, each by what tells its sorts, are of the sorts in front, in order, and of the last one behind them.
abbrev pub have : List Sort → Sort → List (Sort → Bool) → Bool
have front rest [] = true
have [] rest (k ∷ ks) = k rest && have [] rest ks
have (s ∷ front) rest (k ∷ ks) = k s && have front rest ks

abbrev pub kids_fit : Form → List (Sort → Bool) → Bool
kids_fit Any ks = true
kids_fit Refused ks = false
kids_fit (Leaf test) ks = false
kids_fit (Kids front rest) ks = have front rest ks
kids_fit Single ks = nat_eq (length ks) 1

-- The tree, in canonical form, is of the sort.
abbrev mutual
  pub sorts : Tree → Sort → Bool
  sorts (leaf t a) s = leaf_fits (form_of s t) a
  sorts (node t ks) s = kids_fit (form_of s t) (sorts_of ks)

  pub sorts_of : Below → List (Sort → Bool)
  sorts_of no_kids = []
  sorts_of (kid t ks) = sorts t ∷ sorts_of ks
