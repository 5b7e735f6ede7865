-- Where each kid stands for a tree, the triple or node is the axiom of its tag over these.
use Rattle.std.specs.Prelude.{◌≡◌, ◌≤◌, List, [], ◌∷◌, ◌++◌, length, map}
use Rattle.std.proofs.Common.{refl, ap, sym, subst, ◌∙◌, arith, length-append}
use Rattle.std.proofs.lemmas.Option.{none-some}
use Rattle.owl_kind.specs.Kinds.{Entity}
use Rattle.owl_tree.specs.declared.tag.Tag.{Tag}
use Rattle.owl_tree.specs.declared.tag.Tag.TheVariants as tag
use Rattle.owl_tree.specs.Trees.{Tree, node, kids_of}
use Rattle.rdf_graph.specs.declared.term.Term.{Term}
use Rattle.rdf_graph.specs.declared.triple.Triple.{Triple}
use Rattle.rdf_meaning.specs.declared.row.Part.{Part}
use Rattle.rdf_meaning.specs.declared.row.Want.{Want}
use Rattle.rdf_meaning.specs.declared.row.Want.TheVariants.{Declared, Keys, Whole}
use Rattle.rdf_meaning.specs.Denotation.{AreKeys, Bearer, Denotes, Holds, by_declaration, by_keys, by_list, by_whole, declared_entity, mark as denotes_mark, is_true as denotes_true, no_key as keys_none, object_key as keys_object, data_key as keys_data, no_parts as holds_none, part as holds_part}
use Rattle.rdf_meaning.specs.Statements.{IsAxiomWith}
use Rattle.rdf_roles.specs.Tables.{RoleTable}
use Rattle.rdf_nodes.specs.declared.form.Operand.{Operand}
use Rattle.rdf_nodes.specs.declared.form.Operand.TheVariants as operand
use Rattle.rdf_nodes.specs.Operands.{AllMean, IsTree, Means}
use Rattle.rdf_nodes.proofs.OperandLaws.{as_many, elements_are, operand_denotes}
use Rattle.rdf_statements.specs.declared.form.AxiomForm.{AxiomForm}
use Rattle.rdf_statements.specs.declared.form.Kid.{Kid}
use Rattle.rdf_statements.specs.declared.form.Kid.TheVariants as kid
use Rattle.rdf_statements.specs.Forms.{AllKidsMean, AreKeyOperands, no_key, object_key, data_key, GivesKids, one, many, whole, keys, declared, mark, is_true, AreKids, no_parts, part, IsAxiomForm}

-- trees of the first kids, and of the others
pub record IsSplit (P : List Kid → List Tree → Type 0) (ks more : List Kid) (ts : List Tree) : Type 0 where
  pub before : List Tree
  pub behind : List Tree
  pub joined : ts ≡ before ++ behind
  pub first : P ks before
  pub rest : P more behind

module _ (g : List Triple) (k : List Entity) (roles : RoleTable) where
  pub split : (ks more : List Kid) (ts : List Tree) → AllKidsMean g k roles (ks ++ more) ts → IsSplit (AllKidsMean g k roles) ks more ts
  split [] more ts m = record { before = []; behind = ts; joined = refl; first = tt; rest = m }
  split (x ∷ ks) more [] m = absurd m
  split (x ∷ ks) more (t ∷ ts) m =
      let s = split ks more ts m.1 in
      record { before = t ∷ s.before; behind = s.behind; joined = ap (λ us. t ∷ us) s.joined; first = (m.0, s.first); rest = s.rest }

  keys_are : (x : Term) (os ds : List Operand) (ts us : List Tree) → AreKeyOperands g k roles x os ds → AllMean g k roles os ts → AllMean g k roles ds us → AreKeys g k x ts us
  keys_are _ _ _ [] [] (no_key x e) m n = keys_none x e
  keys_are _ _ _ (t ∷ ts) us (no_key x e) m n = absurd m
  keys_are _ _ _ [] (u ∷ us) (no_key x e) m n = absurd n
  keys_are _ _ _ [] us (object_key x first rest o os ds is d more) m n = absurd m
  keys_are _ _ _ (t ∷ ts) us (object_key x first rest o os ds is d more) m n =
      keys_object x first rest (t ∷ []) ts us is.list is.one_first is.one_rest (operand_denotes g k roles _ first o t d m.0) (keys_are rest os ds ts us more m.1 n)
  keys_are _ _ _ ts [] (data_key x first rest o os ds is d more) m n = absurd n
  keys_are _ _ _ ts (u ∷ us) (data_key x first rest o os ds is d more) m n =
      keys_data x first rest (u ∷ []) ts us is.list is.one_first is.one_rest (operand_denotes g k roles _ first o u d n.0) (keys_are rest os ds ts us more m n.1)

  -- kids that are no groups stand for what their operands stand for
  ones_mean : (os : List Operand) (ts : List Tree) → AllKidsMean g k roles (map kid.One os) ts → AllMean g k roles os ts
  ones_mean [] [] m = tt
  ones_mean [] (t ∷ ts) m = absurd m
  ones_mean (o ∷ os) [] m = absurd m
  ones_mean (o ∷ os) (t ∷ ts) m = (m.0, ones_mean os ts m.1)

  entity_is : (t : Tag) (x : Term) (o : Operand) (u : Tree) → IsTree (declared_entity k t x) o → Means g k roles o u → Denotes g k x (Declared t) (u ∷ [])
  entity_is t x (operand.Leaf a b) u own m = by_declaration t x u (own.is ∙ sym own.own ∙ m)
  entity_is t x (operand.Facet iri literal) u own m = by_declaration t x u (own.is ∙ sym own.own ∙ m)
  entity_is t x (operand.Node number) u own m = absurd (none-some own.tree own.own)

  as_many_both : (os ds : List Operand) (ts us : List Tree) → AllMean g k roles os ts → AllMean g k roles ds us → 1 ≤ length (os ++ ds) → 1 ≤ length (ts ++ us)
  as_many_both os ds ts us m n some =
      let first = as_many g k roles os ts m in
      let second = as_many g k roles ds us n in
      let before = length-append os ds in
      let behind = length-append ts us in
      omega (arith, some, first, second, before, behind)

  wanted_denoted : (x : Term) (w : Want) (ks : List Kid) (ts : List Tree) → GivesKids g k roles x w ks → AllKidsMean g k roles ks ts → Denotes g k x w ts
  wanted_denoted x _ _ [] (one s o is) m = absurd m
  wanted_denoted x _ _ (t ∷ []) (one s o is) m = operand_denotes g k roles s x o t is m.0
  wanted_denoted x _ _ (t ∷ u ∷ ts) (one s o is) m = absurd m.1
  wanted_denoted x _ _ ts (many s least os n are) m =
      let mean = ones_mean os ts m in
      by_list s x least ts (subst (λ l. least ≤ l) (as_many g k roles os ts mean) n) (elements_are g k roles s x os ts are mean)
  wanted_denoted x _ _ [] (whole t s least os n are) m = absurd m
  wanted_denoted x _ _ (u ∷ []) (whole t s least os n are) m =
      let group = m.0 in
      subst (λ v. Denotes g k x (Whole t s least) (v ∷ [])) (sym group.whole)
      (by_whole t s x least group.members (subst (λ l. least ≤ l) (as_many g k roles os.items group.members group.mean) n)
      (elements_are g k roles s x os.items group.members are group.mean))
  wanted_denoted x _ _ (u ∷ v ∷ ts) (whole t s least os n are) m = absurd m.1
  wanted_denoted x _ _ [] (keys os ds some are) m = absurd m
  wanted_denoted x _ _ (t ∷ []) (keys os ds some are) m = absurd m.1
  wanted_denoted x _ _ (t ∷ u ∷ []) (keys os ds some are) m =
      let objects = m.0 in
      let data_keys = m.1.0 in
      subst (λ v. Denotes g k x Keys (v ∷ u ∷ [])) (sym objects.whole)
      (subst (λ v. Denotes g k x Keys (node tag.ObjectKeys (kids_of objects.members) ∷ v ∷ [])) (sym data_keys.whole)
      (by_keys x objects.members data_keys.members (as_many_both os.items ds.items objects.members data_keys.members objects.mean data_keys.mean some)
      (keys_are x os.items ds.items objects.members data_keys.members are objects.mean data_keys.mean)))
  wanted_denoted x _ _ (t ∷ u ∷ v ∷ ts) (keys os ds some are) m = absurd m.1.1
  wanted_denoted x _ _ [] (declared t o is) m = absurd m
  wanted_denoted x _ _ (u ∷ []) (declared t o is) m = entity_is t x o u is m.0
  wanted_denoted x _ _ (u ∷ v ∷ ts) (declared t o is) m = absurd m.1
  wanted_denoted x _ _ [] mark m = denotes_mark x
  wanted_denoted x _ _ (t ∷ ts) mark m = absurd m
  wanted_denoted x _ _ [] (is_true e) m = denotes_true x e
  wanted_denoted x _ _ (t ∷ ts) (is_true e) m = absurd m

  parts_hold : (b : Bearer) (ps : List Part) (ks : List Kid) (ts : List Tree) → AreKids g k roles b ps ks → AllKidsMean g k roles ks ts → Holds g k b ps ts
  parts_hold b _ _ [] no_parts m = holds_none b
  parts_hold b _ _ (t ∷ ts) no_parts m = absurd m
  parts_hold b _ _ ts (part p ps ks more stand rest) m =
      let s = split ks more ts m in
      subst (Holds g k b (p ∷ ps)) (sym s.joined)
      (holds_part b p ps stand.object s.before s.behind stand.selected (wanted_denoted stand.object p.want ks s.before stand.gives s.first)
      (parts_hold b ps more s.behind rest s.rest))

  pub axiom_form_says : (b : Bearer) (form : AxiomForm) (ts : List Tree) → IsAxiomForm g k roles b form → AllKidsMean g k roles form.kids.items ts →
      IsAxiomWith g k b form.tag ts
  axiom_form_says b form ts is m = record {
    row = is.row;
    among = is.among;
    tag = sym is.tag;
    fits = is.fits;
    parts = parts_hold b is.row.parts form.kids.items ts is.kids m;
  }
