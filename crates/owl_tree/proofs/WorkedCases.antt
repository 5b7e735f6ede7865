-- What the definitions say of some trees, worked out by hand.
use lib.Utf8.{encode}
use lib.Pointwise.{pointwise}
use Rattle.std.specs.Prelude.{◌≡◌, ◌⊎◌, ℕ, List, [], ◌∷◌, ◌++◌, None, codes, IsTrue, Bool, true, false, nat_eq, map, Contains}
use Rattle.std.proofs.Common.{◌∙◌, ap, arith, inl, inr, refl, subst, sym}
use Rattle.std.specs.Cmp.{unsigned_Decides}
use Rattle.owl_list.proofs.AscendingLaws.{all_in, in_none}
use Rattle.owl_characters.specs.Iri.{IsIri, is_iri_character}
use Rattle.owl_tree.specs.declared.atom.Atom.{Atom}
use Rattle.owl_tree.specs.declared.atom.Atom.TheVariants as atom
use Rattle.owl_tree.specs.declared.tag.Tag.{Tag}
use Rattle.owl_tree.specs.declared.tag.Tag.TheVariants as tag
use Rattle.owl_tree.specs.Canonical.{canonical}
use Rattle.owl_tree.specs.Equivalence.{IsEquivalent}
use Rattle.owl_tree.specs.Ontologies.{Ontology, ontology_weight}
use Rattle.owl_tree.specs.Rows.{admits, fits, row_of}
use Rattle.owl_tree.specs.Shape.{FitsRow, IsShaped}
use Rattle.owl_tree.specs.Tags.{number_of}
use Rattle.owl_tree.specs.Trees.{Tree, leaf, node, kids_in, kids_of, tag_of, depth, weight}

abbrev named : Tag → List ℕ → Tree
named t iri = leaf t (atom.Iri iri)

abbrev class : List ℕ → Tree
class = named tag.Class

abbrev property : List ℕ → Tree
property = named tag.ObjectProperty

abbrev over : Tag → List Tree → Tree
over t kids = node t (kids_of kids)

abbrev no_notes : Tree
no_notes = over tag.Notes []

abbrev noted : Tree → List ℕ → List ℕ → Tree
noted notes property value = over tag.Annotation (notes ∷ named tag.AnnotationProperty property ∷ named tag.PlainIri value ∷ [])

-- SubClassOf(Annotation(Annotation(<e:c> <e:i>) <e:l> <e:o>) <e:A> <e:B>)
abbrev nested : Tree
nested =
    over tag.SubClassOf (
    over tag.Notes (noted (over tag.Notes (noted no_notes (codes "e:c") (codes "e:i") ∷ [])) (codes "e:l") (codes "e:o") ∷ [])
    ∷ class (codes "e:A") ∷ class (codes "e:B") ∷ [])

nested_depth : depth nested ≡ 6
nested_depth = refl

nested_weight : weight nested ≡ 12
nested_weight = refl

-- two declarations of classes, a subclass axiom, and the same with an annotation
abbrev declared : List ℕ → Tree
declared iri = over tag.Declaration (no_notes ∷ class iri ∷ [])

abbrev small : Ontology
small = record {
  head = record { name = None; imports = [] };
  annotations = [];
  axioms =
      declared (codes "e:A") ∷ declared (codes "e:B") ∷ over tag.SubClassOf (no_notes ∷ class (codes "e:A") ∷ class (codes "e:B") ∷ [])
      ∷ over tag.SubClassOf (over tag.Notes (noted no_notes (codes "e:c") (codes "e:x") ∷ []) ∷ class (codes "e:A") ∷ class (codes "e:B") ∷ []) ∷ [];
}

small_weight : ontology_weight small ≡ 18
unfolding number_of row_of encode
small_weight = refl

abbrev A : Tree
A = class (codes "e:A")

abbrev B : Tree
B = class (codes "e:B")

-- members in another order, and a repeat
abbrev union : List Tree → Tree
union = over tag.ObjectUnionOf

unions_alike : IsEquivalent (union (A ∷ B ∷ [])) (union (B ∷ A ∷ A ∷ []))
unfolding row_of
unions_alike = (refl, ((inr (inl (refl, refl)), (inl (refl, refl), tt)), (inr (inl (refl, refl)), (inl (refl, refl), (inl (refl, refl), tt)))))

union_form : canonical (union (B ∷ A ∷ A ∷ [])) ≡ union (A ∷ B ∷ [])
unfolding number_of row_of encode
union_form = refl

-- an ontology says a repeated axiom once
abbrev repeated : Ontology
repeated = record {
  head = record { name = None; imports = [] };
  annotations = [];
  axioms = declared (codes "e:A") ∷ declared (codes "e:A") ∷ [];
}

repeated_weight : ontology_weight repeated ≡ 3
unfolding number_of row_of encode
repeated_weight = refl

-- the first of a DisjointUnion is no member, and stays in front
abbrev C : Tree
C = class (codes "e:C")

disjoint_form : canonical (over tag.DisjointUnion (no_notes ∷ C ∷ B ∷ C ∷ A ∷ B ∷ [])) ≡ over tag.DisjointUnion (no_notes ∷ C ∷ A ∷ B ∷ C ∷ [])
unfolding number_of row_of encode
disjoint_form = refl

-- whether the tree is a leaf of the IRI
is_of : List ℕ → Tree → Bool
is_of name (leaf t (atom.Iri iri)) = pointwise nat_eq iri name
is_of name _ = false

-- a chain is no set
abbrev p : Tree
p = property (codes "e:p")

abbrev chain : List Tree → Tree
chain = over tag.ObjectPropertyChain

abbrev q : Tree
q = property (codes "e:q")

chains_differ : IsEquivalent (chain (p ∷ q ∷ [])) (chain (q ∷ p ∷ [])) → ⊥
unfolding row_of is_of
chains_differ h = let told : false ≡ true = ap (λ (a : Atom). is_of (codes "e:q") (leaf tag.ObjectProperty a)) h.1.0.1 in cc

-- two tags with other numbers are others
other_tag : (t u : Tag) → nat_eq (number_of t) (number_of u) ≡ false → t ≡ u → ⊥
other_tag t u told same = let told' = ap (λ v. nat_eq (number_of t) (number_of v)) same in let alike = (unsigned_Decides (number_of t) (number_of t)).1 refl in cc

-- of all but two tags the row says everything
plain : (t : Tag) (ts : List Tree) → IsTrue (fits (row_of t) (map tag_of ts)) → nat_eq (number_of t) (number_of tag.InverseObjectProperties) ≡ false → nat_eq (number_of t) (number_of tag.HasKey) ≡ false → FitsRow t ts
plain t ts row no_inverses no_key = record {
  row = row;
  inverses = λ same. absurd (other_tag t tag.InverseObjectProperties no_inverses same);
  keys = λ same. absurd (other_tag t tag.HasKey no_key same);
}

-- an IRI of three characters
short : (c : ℕ) → is_iri_character c ≡ true → IsIri (codes "e:" ++ c ∷ [])
short c allowed = record { scheme = codes "e"; rest = c ∷ []; parts = refl; named = (refl, tt); allowed = (allowed, tt) }

abbrev inverses : List Tree → Tree
inverses members = over tag.InverseObjectProperties (no_notes ∷ members)

-- of one property twice it is a set of one
inverses_of_one : IsShaped (inverses (p ∷ p ∷ []))
unfolding number_of row_of admits
inverses_of_one = (
  record {
    row = refl;
    inverses = λ _. record { one = p; other = p; each = (inl (refl, refl), (inl (refl, refl), tt)) };
    keys = λ same. absurd (other_tag tag.InverseObjectProperties tag.HasKey refl same);
  },
  ((plain tag.Notes [] refl refl refl, tt), ((refl, short 112 refl), ((refl, short 112 refl), tt))),
)

abbrev r : Tree
r = property (codes "e:r")

abbrev inverses_of_three : Tree
inverses_of_three = inverses (p ∷ q ∷ r ∷ [])

-- its row takes any number of properties, and one of two trees can't stand for all three
row_of_three : IsTrue (fits (row_of tag.InverseObjectProperties) (map tag_of (kids_in inverses_of_three)))
unfolding number_of row_of admits
row_of_three = refl

-- what is equivalent to a leaf is this leaf
leaf_alone : (t : Tag) (a : Atom) (u : Tree) → IsEquivalent (leaf t a) u → leaf t a ≡ u
leaf_alone t a (leaf u b) h = ap (λ (v : Tag). leaf v a) h.0 ∙ ap (leaf u) h.1
leaf_alone t a (node u ls) h = absurd h

-- of three things that are one of two, two are the same
two_of_three : (a b c x y : Tree) → (a ≡ x) ⊎ (a ≡ y) → (b ≡ x) ⊎ (b ≡ y) → (c ≡ x) ⊎ (c ≡ y) → (a ≡ b) ⊎ ((a ≡ c) ⊎ (b ≡ c))
two_of_three a b c x y (inl f) (inl g) h = inl (f ∙ sym g)
two_of_three a b c x y (inr f) (inr g) h = inl (f ∙ sym g)
two_of_three a b c x y (inl f) (inr g) (inl h) = inr (inl (f ∙ sym h))
two_of_three a b c x y (inl f) (inr g) (inr h) = inr (inr (g ∙ sym h))
two_of_three a b c x y (inr f) (inl g) (inl h) = inr (inr (g ∙ sym h))
two_of_three a b c x y (inr f) (inl g) (inr h) = inr (inl (f ∙ sym h))

either_leaf : (iri : List ℕ) (x y : Tree) → IsEquivalent (property iri) x ⊎ IsEquivalent (property iri) y → (property iri ≡ x) ⊎ (property iri ≡ y)
either_leaf iri x y (inl h) = inl (leaf_alone _ _ x h)
either_leaf iri x y (inr h) = inr (leaf_alone _ _ y h)

p_is_not_q : p ≡ q → ⊥
unfolding is_of
p_is_not_q same = let told : false ≡ true = ap (is_of (codes "e:q")) same in cc

p_is_not_r : p ≡ r → ⊥
unfolding is_of
p_is_not_r same = let told : false ≡ true = ap (is_of (codes "e:r")) same in cc

q_is_not_r : q ≡ r → ⊥
unfolding is_of
q_is_not_r same = let told : false ≡ true = ap (is_of (codes "e:r")) same in cc

three_are_misshapen : IsShaped inverses_of_three → ⊥
three_are_misshapen h =
    let two = h.0.inverses refl in
    elim (two_of_three p q r two.one two.other (either_leaf _ _ _ two.each.0) (either_leaf _ _ _ two.each.1.0) (either_leaf _ _ _ two.each.1.1.0)) [
      | inl same ↦ p_is_not_q same
      | inr others ↦ elim others [ inl same ↦ p_is_not_r same | inr same ↦ q_is_not_r same ]
    ]

abbrev key : List Tree → List Tree → Tree
key ps ds = over tag.HasKey (no_notes ∷ A ∷ over tag.ObjectKeys ps ∷ over tag.DataKeys ds ∷ [])

key_of_one : IsShaped (key (p ∷ []) [])
unfolding number_of row_of admits
key_of_one = (
  record {
    row = refl;
    inverses = λ same. absurd (other_tag tag.HasKey tag.InverseObjectProperties refl same);
    keys = λ _. record { group = over tag.ObjectKeys (p ∷ []); inside = (2, omega arith, refl); is_group = inl refl; property = p; member = (0, omega arith, refl) };
  },
  ((plain tag.Notes [] refl refl refl, tt), ((refl, short 65 refl), ((plain tag.ObjectKeys (p ∷ []) refl refl refl, ((refl, short 112 refl), tt)), ((plain tag.DataKeys [] refl refl refl, tt), tt)))),
)

-- none of its kids has kids
key_of_none : IsShaped (key [] []) → ⊥
key_of_none h =
    let keys = h.0.keys refl in
    let none = all_in (λ t. kids_in t ≡ []) (kids_in (key [] [])) keys.group (refl, (refl, (refl, (refl, tt)))) keys.inside in
    in_none keys.property (subst (λ ts. Contains ts keys.property) none keys.member)

-- annotations of an annotation of an axiom
noted_is_shaped : (notes : Tree) (name value : List ℕ) → tag_of notes ≡ tag.Notes → IsShaped notes → IsIri name → IsIri value → IsShaped (noted notes name value)
unfolding number_of row_of admits
noted_is_shaped notes name value is_notes shaped named valued =
    (plain tag.Annotation _ (ap (λ t. fits (row_of tag.Annotation) (t ∷ tag.AnnotationProperty ∷ tag.PlainIri ∷ [])) is_notes) refl refl, (shaped, ((refl, named), ((refl, valued), tt))))

notes_are_shaped : (annotation : Tree) → tag_of annotation ≡ tag.Annotation → IsShaped annotation → IsShaped (over tag.Notes (annotation ∷ []))
unfolding number_of row_of admits
notes_are_shaped annotation is_annotation shaped =
    (plain tag.Notes _ (ap (λ t. fits (row_of tag.Notes) (t ∷ [])) is_annotation) refl refl, (shaped, tt))

nested_is_shaped : IsShaped nested
unfolding number_of row_of admits
nested_is_shaped =
    let inner = noted_is_shaped no_notes (codes "e:c") (codes "e:i") refl (plain tag.Notes [] refl refl refl, tt) (short 99 refl) (short 105 refl) in
    let outer = noted_is_shaped _ (codes "e:l") (codes "e:o") refl (notes_are_shaped _ refl inner) (short 108 refl) (short 111 refl) in
    (plain tag.SubClassOf _ refl refl refl, (notes_are_shaped _ refl outer, ((refl, short 65 refl), ((refl, short 66 refl), tt))))
