-- Where each node has its number, the kids of a form stand for trees.
use Rattle.std.specs.Prelude.{◌<◌, ℕ, List, [], ◌∷◌, ◌++◌, Option, map}
use Rattle.std.proofs.Common.{refl, ap, sym, subst, ◌∙◌}
use Rattle.std.proofs.lemmas.List.{length-map}
use Rattle.std.proofs.lemmas.Option.{none-some, slice_get_within}
use Rattle.owl_kind.specs.Kinds.{Entity}
use Rattle.owl_tree.specs.declared.row.Sort.{Sort}
use Rattle.owl_tree.specs.declared.tag.Tag.TheVariants as tag
use Rattle.owl_tree.specs.Trees.{Tree, node, kids_of}
use Rattle.rdf_graph.specs.declared.term.Term.{Term}
use Rattle.rdf_graph.specs.declared.triple.Triple.{Triple}
use Rattle.rdf_meaning.specs.declared.row.Part.{Part}
use Rattle.rdf_meaning.specs.declared.row.Want.{Want}
use Rattle.rdf_meaning.specs.Denotation.{Bearer, sort_of}
use Rattle.rdf_meaning.specs.Nodes.{role_of}
use Rattle.rdf_roles.specs.Tables.{RoleTable}
use Rattle.rdf_nodes.specs.declared.form.Operand.{Operand}
use Rattle.rdf_nodes.specs.declared.form.Operand.TheVariants as operand
use Rattle.rdf_nodes.specs.Numbers.{AreKnown, AreNumbered}
use Rattle.rdf_nodes.specs.Operands.{AllMean, AreElements, no_cell, cell, IsNodeOf, IsOperand, by_itself, by_node, IsTree, Means, labels}
use Rattle.rdf_statements.specs.declared.form.AxiomForm.{AxiomForm}
use Rattle.rdf_statements.specs.declared.form.Kid.{Kid}
use Rattle.rdf_statements.specs.declared.form.Kid.TheVariants as kid
use Rattle.rdf_statements.specs.Forms.{AllKidsMean, AreKeyOperands, no_key, object_key, data_key, GivesKids, one, many, whole, keys, declared, mark, is_true, AreKids, no_parts, part, IsAxiomForm}
use Rattle.rdf_statements.specs.Holding.{HaveTrees}

module _ (g : List Triple) (k : List Entity) (roles : RoleTable) where
  record HasTree (o : Operand) : Type 0 where
    tree : Tree
    means : Means g k roles o tree

  record HaveAll (os : List Operand) : Type 0 where
    trees : List Tree
    mean : AllMean g k roles os trees

  own_has : (what : Option Tree) (o : Operand) → IsTree what o → HasTree o
  own_has what (operand.Leaf a b) own = record { tree = own.tree; means = own.own }
  own_has what (operand.Facet iri literal) own = record { tree = own.tree; means = own.own }
  own_has what (operand.Node number) own = absurd (none-some own.tree own.own)

  no_operand : HaveAll []
  no_operand = record { trees = []; mean = tt }

  more_operands : (o : Operand) (os : List Operand) → HasTree o → HaveAll os → HaveAll (o ∷ os)
  more_operands o os h more = record { trees = h.tree ∷ more.trees; mean = (h.means, more.mean) }

  mean_ones : (os : List Operand) (ts : List Tree) → AllMean g k roles os ts → AllKidsMean g k roles (map kid.One os) ts
  mean_ones [] [] m = tt
  mean_ones [] (t ∷ ts) m = absurd m
  mean_ones (o ∷ os) [] m = absurd m
  mean_ones (o ∷ os) (t ∷ ts) m = (m.0, mean_ones os ts m.1)

  pub both_mean : (ks more : List Kid) (ts us : List Tree) → AllKidsMean g k roles ks ts → AllKidsMean g k roles more us → AllKidsMean g k roles (ks ++ more) (ts ++ us)
  both_mean [] more [] us m n = n
  both_mean [] more (t ∷ ts) us m n = absurd m
  both_mean (x ∷ ks) more [] us m n = absurd m
  both_mean (x ∷ ks) more (t ∷ ts) us m n = (m.0, both_mean ks more ts us m.1 n)

  module _ {N : Type 0} (Stands : Tree → N → Type 0) (ids : List (Option N)) (numbered : AreNumbered g k roles Stands ids) (known : AreKnown g roles ids) where
    node_has : (s : Sort) (x : Term) (number : ℕ) → IsNodeOf g roles s x number → HasTree (operand.Node number)
    node_has s x number is =
        let within = subst (λ n. number < n) (length-map roles.nodes (λ e. e.0)) (slice_get_within (labels roles) number is.label is.at) in
        let own = known number within is.label s is.at (ap (λ y. sort_of (role_of g y)) (sym is.blank) ∙ is.gives) in
        let n = numbered number own.number own.at in
        record { tree = n.tree; means = n.denoted }

    operand_has : (s : Sort) (x : Term) (o : Operand) → IsOperand g k roles s x o → HasTree o
    operand_has s x _ (by_itself o own) = own_has _ o own
    operand_has s x _ (by_node number is) = node_has s x number is

    elements_have : (s : Sort) (x : Term) (os : List Operand) → AreElements g k roles s x os → HaveAll os
    elements_have s _ _ (no_cell x e) = no_operand
    elements_have s _ _ (cell x first rest o os is d more) = more_operands o os (operand_has s first o d) (elements_have s rest os more)

    keys_have : (x : Term) (os ds : List Operand) → AreKeyOperands g k roles x os ds → HaveAll os × HaveAll ds
    keys_have _ _ _ (no_key x e) = (no_operand, no_operand)
    keys_have _ _ _ (object_key x first rest o os ds is d more) =
        let h = keys_have rest os ds more in (more_operands o os (operand_has _ first o d) h.0, h.1)
    keys_have _ _ _ (data_key x first rest o os ds is d more) =
        let h = keys_have rest os ds more in (h.0, more_operands o ds (operand_has _ first o d) h.1)

    given_have : (x : Term) (w : Want) (ks : List Kid) → GivesKids g k roles x w ks → HaveTrees g k roles ks
    given_have x _ _ (one s o is) = let h = operand_has s x o is in record { trees = h.tree ∷ []; mean = (h.means, tt) }
    given_have x _ _ (many s least os n are) = let h = elements_have s x os are in record { trees = h.trees; mean = mean_ones os h.trees h.mean }
    given_have x _ _ (whole t s least os n are) =
        let h = elements_have s x os.items are in
        record { trees = node t (kids_of h.trees) ∷ []; mean = (record { members = h.trees; mean = h.mean; whole = refl }, tt) }
    given_have x _ _ (keys os ds some are) =
        let h = keys_have x os.items ds.items are in
        record {
          trees = node tag.ObjectKeys (kids_of h.0.trees) ∷ node tag.DataKeys (kids_of h.1.trees) ∷ [];
          mean = (record { members = h.0.trees; mean = h.0.mean; whole = refl }, (record { members = h.1.trees; mean = h.1.mean; whole = refl }, tt));
        }
    given_have x _ _ (declared t o is) = let h = own_has _ o is in record { trees = h.tree ∷ []; mean = (h.means, tt) }
    given_have x _ _ mark = record { trees = []; mean = tt }
    given_have x _ _ (is_true e) = record { trees = []; mean = tt }

    parts_have : (b : Bearer) (ps : List Part) (ks : List Kid) → AreKids g k roles b ps ks → HaveTrees g k roles ks
    parts_have b _ _ no_parts = record { trees = []; mean = tt }
    parts_have b _ _ (part p ps ks more stand rest) =
        let h = given_have stand.object p.want ks stand.gives in
        let n = parts_have b ps more rest in
        record { trees = h.trees ++ n.trees; mean = both_mean ks more h.trees n.trees h.mean n.mean }

    pub form_has : (b : Bearer) (form : AxiomForm) → IsAxiomForm g k roles b form → HaveTrees g k roles form.kids.items
    form_has b form is = parts_have b is.row.parts form.kids.items is.kids
