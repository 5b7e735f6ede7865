-- What a triple that is an axiom, or a node that stands for one, is made of: a tag, over kids (Mapping to RDF Graphs, section 3.2.5).
use Rattle.std.specs.Prelude.{◌≡◌, ◌≤◌, ℕ, Bool, true, List, [], ◌∷◌, ◌++◌, Contains, length, map, option_map}
use Rattle.std.specs.declared.vec.Vec.{Vec}
use Rattle.std.proofs.Common.{Global}
use Rattle.owl_kind.specs.Kinds.{Entity}
use Rattle.owl_tree.specs.declared.row.Sort.{Sort}
use Rattle.owl_tree.specs.declared.row.Sort.TheVariants as sort
use Rattle.owl_tree.specs.declared.tag.Tag.{Tag}
use Rattle.owl_tree.specs.declared.tag.Tag.TheVariants as tag
use Rattle.owl_tree.specs.Trees.{Tree, node, kids_of}
use Rattle.rdf_graph.specs.declared.term.Term.{Term}
use Rattle.rdf_graph.specs.declared.term.Term.TheVariants.{Iri, Literal}
use Rattle.rdf_graph.specs.declared.triple.Triple.{Triple}
use Rattle.rdf_meaning.specs.declared.word.Word.{Word}
use Rattle.rdf_meaning.specs.declared.row.Part.{Part}
use Rattle.rdf_meaning.specs.declared.row.Place.TheVariants.{At, Subject, Predicate, Object}
use Rattle.rdf_meaning.specs.declared.row.Want.{Want}
use Rattle.rdf_meaning.specs.declared.row.Want.TheVariants.{One, Many, Whole, Keys, Declared, Mark, True}
use Rattle.rdf_meaning.specs.Denotation.{Bearer, Fits, declared_entity, select, true_literal}
use Rattle.rdf_meaning.specs.Nodes.{nil_iri}
use Rattle.rdf_meaning.specs.Statements.{IsAxiomWith}
use Rattle.rdf_meaning.specs.Rows.{Row, axiom_rows}
use Rattle.rdf_roles.specs.Tables.{RoleTable}
use Rattle.rdf_rows.specs.Chosen.{objects_with, the_only}
use Rattle.rdf_nodes.specs.declared.form.Operand.{Operand}
use Rattle.rdf_faults.specs.Asked.{IsMet}
use Rattle.rdf_nodes.specs.Operands.{AllMean, AreElements, IsCellWith, IsOperand, IsTree, Means, is_told_by_kind}
use Rattle.rdf_statements.specs.declared.form.AxiomForm.{AxiomForm}
use Rattle.rdf_statements.specs.declared.form.Kid.{Kid}
use Rattle.rdf_statements.specs.declared.form.Kid.TheVariants as kid
use Rattle.rdf_statements.specs.declared.places.Places.{Places}

-- the terms are the only ones at the places of the node or triple
pub record ArePlacesOf (g : List Triple) (b : Bearer) (places : Places) : Type 0 where
  pub at : (w : Word) → the_only (objects_with w places.triples.now) ≡ the_only (select g b (At w))
  pub subject : option_map (λ x. x.now) places.subject ≡ the_only (select g b Subject)
  pub predicate : option_map (λ x. x.now) places.predicate ≡ the_only (select g b Predicate)
  pub object : option_map (λ x. x.now) places.object ≡ the_only (select g b Object)

-- whether a term is what is wanted is told by its kind and role, and by those of the elements of a list
abbrev pub is_told : Want → Bool
is_told (One s) = is_told_by_kind s
is_told (Many s least) = is_told_by_kind s
is_told (Whole t s least) = is_told_by_kind s
is_told Keys = true
is_told (Declared t) = true
is_told Mark = true
is_told True = true

-- what stands at the part is what it wants
pub record IsGivenAt (g : List Triple) (k : List Entity) (b : Bearer) (p : Part) : Type 0 where
  pub object : Term
  pub selected : select g b p.place ≡ object ∷ []
  pub told : is_told p.want ≡ true
  pub met : IsMet g k p.want object

-- the node or triple is an axiom of no tag, over no trees
abbrev pub IsNoAxiom : List Triple → List Entity → Bearer → Type 0
IsNoAxiom g k b = (t : Tag) (ts : List Tree) → IsAxiomWith g k b t ts → ⊥

module _ (g : List Triple) (k : List Entity) (roles : RoleTable) where
  -- the object properties and the data properties of a list, each in order
  pub data AreKeyOperands : Term → List Operand → List Operand → Type 0 where
    no_key : (x : Term) → x ≡ Iri nil_iri → AreKeyOperands x [] []
    object_key : (x first rest : Term) (o : Operand) (os ds : List Operand) → IsCellWith g x first rest →
        IsOperand g k roles sort.ObjectPropertyExpression first o → AreKeyOperands rest os ds → AreKeyOperands x (o ∷ os) ds
    data_key : (x first rest : Term) (d : Operand) (os ds : List Operand) → IsCellWith g x first rest →
        IsOperand g k roles sort.DataPropertyExpression first d → AreKeyOperands rest os ds → AreKeyOperands x os (d ∷ ds)

  -- the property stands behind the others of its sort
  pub data IsKeyAdded (x : Term) (os ds : List Operand) : List Operand → List Operand → Type 0 where
    an_object_key : (o : Operand) → IsOperand g k roles sort.ObjectPropertyExpression x o → IsKeyAdded x os ds (os ++ o ∷ []) ds
    a_data_key : (d : Operand) → IsOperand g k roles sort.DataPropertyExpression x d → IsKeyAdded x os ds os (ds ++ d ∷ [])

  -- the kids that the term gives where this is wanted
  pub data GivesKids (x : Term) : Want → List Kid → Type 0 where
    one : (s : Sort) (o : Operand) → IsOperand g k roles s x o → GivesKids x (One s) (kid.One o ∷ [])
    many : (s : Sort) (least : ℕ) (os : List Operand) → least ≤ length os → AreElements g k roles s x os →
        GivesKids x (Many s least) (map kid.One os)
    whole : (t : Tag) (s : Sort) (least : ℕ) (os : Vec Operand Global) → least ≤ length os.items → AreElements g k roles s x os.items →
        GivesKids x (Whole t s least) (kid.Group t os ∷ [])
    keys : (os ds : Vec Operand Global) → 1 ≤ length (os.items ++ ds.items) → AreKeyOperands x os.items ds.items →
        GivesKids x Keys (kid.Group tag.ObjectKeys os ∷ kid.Group tag.DataKeys ds ∷ [])
    declared : (t : Tag) (o : Operand) → IsTree (declared_entity k t x) o → GivesKids x (Declared t) (kid.One o ∷ [])
    mark : GivesKids x Mark []
    is_true : x ≡ Literal true_literal → GivesKids x True []

  -- what stands at a part of a row of the node or triple
  pub record StandAtPart (b : Bearer) (p : Part) (ks : List Kid) : Type 0 where
    pub object : Term
    pub selected : select g b p.place ≡ object ∷ []
    pub gives : GivesKids object p.want ks

  -- and at its parts, in order
  pub data AreKids (b : Bearer) : List Part → List Kid → Type 0 where
    no_parts : AreKids b [] []
    part : (p : Part) (ps : List Part) (ks more : List Kid) → StandAtPart b p ks → AreKids b ps more → AreKids b (p ∷ ps) (ks ++ more)

  -- the form is that of the axiom, by a row of its own
  pub record IsAxiomForm (b : Bearer) (form : AxiomForm) : Type 0 where
    pub row : Row
    pub among : Contains axiom_rows row
    pub fits : Fits g b row
    pub tag : form.tag ≡ row.tag
    pub kids : AreKids b row.parts form.kids.items

  -- the tree has the tag over what the operands stand for
  pub record IsGroupOf (t : Tag) (os : List Operand) (u : Tree) : Type 0 where
    pub members : List Tree
    pub mean : AllMean g k roles os members
    pub whole : u ≡ node t (kids_of members)

  -- the kid stands for the tree
  abbrev pub KidMeans : Kid → Tree → Type 0
  KidMeans (kid.One o) u = Means g k roles o u
  KidMeans (kid.Group t os) u = IsGroupOf t os.items u

  -- kids and their trees, one by one
  abbrev pub AllKidsMean : List Kid → List Tree → Type 0
  AllKidsMean [] [] = Unit {0}
  AllKidsMean [] (t ∷ ts) = ⊥
  AllKidsMean (x ∷ xs) [] = ⊥
  AllKidsMean (x ∷ xs) (t ∷ ts) = KidMeans x t × AllKidsMean xs ts
