-- Where each operand stands for a tree, the node denotes the tree of its tag over these.
use Rattle.std.specs.Prelude.{◌≡◌, ◌≤◌, Bool, true, List, [], ◌∷◌, ◌++◌, Contains, Option, None, Some, length}
use Rattle.std.specs.List.{list_all}
use Rattle.std.proofs.Common.{suc, refl, ap, sym, subst, ◌∙◌}
use Rattle.std.proofs.lemmas.Option.{none-some, same_Some}
use Rattle.owl_kind.specs.Kinds.{Entity}
use Rattle.owl_tree.specs.declared.row.Sort.{Sort}
use Rattle.owl_tree.specs.declared.tag.Tag.{Tag}
use Rattle.owl_tree.specs.Rows.{admits}
use Rattle.owl_tree.specs.Tags.{number_of}
use Rattle.owl_tree.specs.Trees.{Tree, node, kids_of}
use Rattle.rdf_graph.specs.declared.term.Term.{Term}
use Rattle.rdf_graph.specs.declared.term.Term.TheVariants.{Blank}
use Rattle.rdf_graph.specs.declared.triple.Triple.{Triple}
use Rattle.rdf_meaning.specs.declared.role.Role.{Role}
use Rattle.rdf_meaning.specs.declared.row.Part.{Part}
use Rattle.rdf_meaning.specs.declared.row.Site.{Site}
use Rattle.rdf_meaning.specs.declared.row.Site.TheVariants.{Node, TypedBy, OtherType, LinkedBy, OtherLink}
use Rattle.rdf_meaning.specs.declared.row.Want.{Want}
use Rattle.rdf_meaning.specs.declared.row.Want.TheVariants.{One}
use Rattle.rdf_meaning.specs.Denotation.{Denotes, Holds, Lists, by_itself as denotes_itself, by_row, by_list, mark as denotes_mark, is_true as denotes_true, no_cell as lists_none, cell as lists_cell, no_parts as holds_none, part as holds_part, of_node, sort_of}
use Rattle.rdf_meaning.proofs.ListLaws.{passes}
use Rattle.rdf_meaning.specs.Nodes.{role_of}
use Rattle.rdf_meaning.specs.Rows.{Row, node_rows}
use Rattle.rdf_roles.specs.Tables.{RoleTable}
use Rattle.rdf_nodes.specs.declared.form.Form.{Form}
use Rattle.rdf_nodes.specs.declared.form.Operand.{Operand}
use Rattle.rdf_nodes.specs.declared.form.Operand.TheVariants as operand
use Rattle.rdf_nodes.specs.Operands.{AllMean, AreElements, no_cell, cell, AreOperands, no_parts, part, Gives, one, many, mark, is_true, IsForm, IsOperand, by_itself, by_node, IsOwn, Means}

-- a row of the nodes of a role has a tag of the role's sort

abbrev admits_some : Option Sort → Tag → Bool
admits_some None t = true
admits_some (Some s) t = admits s t

abbrev admits_at : Site → Tag → Bool
admits_at (Node r) t = admits_some (sort_of r) t
admits_at (TypedBy w) t = true
admits_at OtherType t = true
admits_at (LinkedBy w) t = true
admits_at OtherLink t = true

all_admitted : list_all (λ row. admits_at row.site row.tag) node_rows ≡ true
unfolding node_rows admits number_of
all_admitted = refl

pub admitted : (row : Row) (r : Role) (s : Sort) → Contains node_rows row → row.site ≡ Node r → sort_of r ≡ Some s → admits s row.tag ≡ true
admitted row r s m site gives =
    ap (λ o. admits_some o row.tag) (sym gives) ∙ ap (λ t. admits_at t row.tag) (sym site) ∙ passes (λ row. admits_at row.site row.tag) node_rows row all_admitted m

-- trees of the first operands, and of the others
record IsSplit (P : List Operand → List Tree → Type 0) (os us : List Operand) (ts : List Tree) : Type 0 where
  before : List Tree
  behind : List Tree
  joined : ts ≡ before ++ behind
  first : P os before
  rest : P us behind

module _ (g : List Triple) (k : List Entity) (roles : RoleTable) where
  split : (os us : List Operand) (ts : List Tree) → AllMean g k roles (os ++ us) ts → IsSplit (AllMean g k roles) os us ts
  split [] us ts m = record { before = []; behind = ts; joined = refl; first = tt; rest = m }
  split (o ∷ os) us [] m = absurd m
  split (o ∷ os) us (t ∷ ts) m =
      let s = split os us ts m.1 in
      record { before = t ∷ s.before; behind = s.behind; joined = ap (λ more. t ∷ more) s.joined; first = (m.0, s.first); rest = s.rest }

  own_denotes : (s : Sort) (x : Term) (o : Operand) (t : Tree) → IsOwn g k s x o → Means g k roles o t → Denotes g k x (One s) (t ∷ [])
  own_denotes s x (operand.Leaf a b) t own m = denotes_itself s x t (own.is ∙ sym own.own ∙ m)
  own_denotes s x (operand.Facet iri literal) t own m = denotes_itself s x t (own.is ∙ sym own.own ∙ m)
  own_denotes s x (operand.Node number) t own m = absurd (none-some own.tree own.own)

  pub operand_denotes : (s : Sort) (x : Term) (o : Operand) (t : Tree) → IsOperand g k roles s x o → Means g k roles o t → Denotes g k x (One s) (t ∷ [])
  operand_denotes s x _ t (by_itself o own) m = own_denotes s x o t own m
  operand_denotes s x _ t (by_node number is) m =
      let same = is.blank ∙ ap Blank (same_Some is.label m.label (sym is.at ∙ m.at)) in
      let sorts = same_Some s m.sort (sym is.gives ∙ ap (λ y. sort_of (role_of g y)) same ∙ m.gives) in
      subst (λ y. Denotes g k y (One s) (t ∷ [])) (sym same) (subst (λ u. Denotes g k (Blank m.label) (One u) (t ∷ [])) (sym sorts) m.denotes)

  pub elements_are : (s : Sort) (x : Term) (os : List Operand) (ts : List Tree) → AreElements g k roles s x os → AllMean g k roles os ts → Lists g k x s ts
  elements_are s x _ [] (no_cell y e) m = lists_none s x e
  elements_are s x _ (t ∷ ts) (no_cell y e) m = absurd m
  elements_are s x _ [] (cell y first rest o os is d more) m = absurd m
  elements_are s x _ (t ∷ ts) (cell y first rest o os is d more) m =
      lists_cell s x first rest (t ∷ []) ts is.list is.one_first is.one_rest (operand_denotes s first o t d m.0) (elements_are s rest os ts more m.1)

  pub as_many : (os : List Operand) (ts : List Tree) → AllMean g k roles os ts → length os ≡ length ts
  as_many [] [] m = refl
  as_many [] (t ∷ ts) m = absurd m
  as_many (o ∷ os) [] m = absurd m
  as_many (o ∷ os) (t ∷ ts) m = ap (λ n. suc n) (as_many os ts m.1)

  wanted_denoted : (x : Term) (w : Want) (os : List Operand) (ts : List Tree) → Gives g k roles x w os → AllMean g k roles os ts → Denotes g k x w ts
  wanted_denoted x _ _ [] (one s o is) m = absurd m
  wanted_denoted x _ _ (t ∷ []) (one s o is) m = operand_denotes s x o t is m.0
  wanted_denoted x _ _ (t ∷ u ∷ ts) (one s o is) m = absurd m.1
  wanted_denoted x _ _ ts (many s least os n are) m = by_list s x least ts (subst (λ n. least ≤ n) (as_many os ts m) n) (elements_are s x os ts are m)
  wanted_denoted x _ _ [] mark m = denotes_mark x
  wanted_denoted x _ _ (t ∷ ts) mark m = absurd m
  wanted_denoted x _ _ [] (is_true e) m = denotes_true x e
  wanted_denoted x _ _ (t ∷ ts) (is_true e) m = absurd m

  pub parts_hold : (x : Term) (ps : List Part) (os : List Operand) (ts : List Tree) → AreOperands g k roles x ps os → AllMean g k roles os ts → Holds g k (of_node x) ps ts
  parts_hold x _ _ [] no_parts m = holds_none (of_node x)
  parts_hold x _ _ (t ∷ ts) no_parts m = absurd m
  parts_hold x _ _ ts (part p ps os us stand more) m =
      let s = split os us ts m in
      subst (Holds g k (of_node x) (p ∷ ps)) (sym s.joined)
      (holds_part (of_node x) p ps stand.object s.before s.behind stand.selected (wanted_denoted stand.object p.want os s.before stand.gives s.first)
      (parts_hold x ps us s.behind more s.rest))

  pub form_denotes : (x : Term) (form : Form) (s : Sort) (ts : List Tree) → IsForm g k roles x form → sort_of (role_of g x) ≡ Some s → AllMean g k roles form.operands.items ts →
      Denotes g k x (One s) (node form.tag (kids_of ts) ∷ [])
  form_denotes x form s ts is gives m =
      subst (λ tag. Denotes g k x (One s) (node tag (kids_of ts) ∷ [])) (sym is.tag)
      (by_row s x is.row ts is.among (admitted is.row (role_of g x) s is.among is.fits.0 gives) is.fits (parts_hold x is.row.parts form.operands.items ts is.operands m))
