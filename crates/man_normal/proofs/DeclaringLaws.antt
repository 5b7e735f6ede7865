-- Declarations that are made in an arena.
use Rattle.std.proofs.Common.{◌≡◌, ◌<◌, ◌+◌, ℕ, Bool, true, false, if◌then◌else◌, Option, None, Some, List, [], ◌∷◌, ◌++◌, length, take, get_or, refl, sym, ap, ◌∙◌, subst}
use Rattle.std.specs.List.{AllByRecursion, flat_map}
use Rattle.std.specs.Option.{option_map}
use Rattle.std.proofs.lemmas.Grind.{flat_map-append}
use Rattle.std.proofs.lemmas.List.{append-nil, append_assoc}
use Rattle.man_resolve.specs.Expressions.{Knows}
use Rattle.man_resolve.specs.Items.{declaration_of}
use Rattle.man_text.specs.Blocks.{declared_name, headed, kind_tag, note_subject, subject_as}
use Rattle.man_text.proofs.DeclaredLaws.{declaring}
use Rattle.owl_arena.specs.Held.{AreHeld, node_over, tree_at, trees_at}
use Rattle.owl_arena.specs.Shared.{AreShared}
use Rattle.owl_arena.proofs.HeldLaws.{entry_at}
use Rattle.owl_list.proofs.AscendingLaws.{all_in}
use Rattle.owl_kind.specs.declared.kind.Kind.{Kind}
use Rattle.owl_kind.specs.declared.kind.Kind.TheVariants as kind
use Rattle.owl_tree.specs.Atoms.{IsAtom}
use Rattle.owl_tree.specs.Canonical.{canonical}
use Rattle.owl_tree.specs.declared.atom.Atom.{Atom}
use Rattle.owl_tree.specs.declared.atom.Atom.TheVariants as atom
use Rattle.owl_tree.specs.declared.row.Sort.TheVariants as sort
use Rattle.owl_tree.specs.declared.tag.Tag.{Tag}
use Rattle.owl_tree.specs.declared.tag.Tag.TheVariants as tag
use Rattle.owl_tree.specs.Ontologies.{IsAxiom}
use Rattle.owl_tree.specs.Rows.{admits, fits, is_tag, row_of, takes}
use Rattle.owl_tree.specs.Shape.{IsShaped}
use Rattle.owl_tree.specs.Tags.{number_of}
use Rattle.owl_tree.specs.Trees.{Tree, kids_in, kids_of, leaf, no_kids, node, tag_of}
use Rattle.rdf_normal.specs.Makings.{AreMade, IsMade}
use Rattle.rdf_normal.proofs.Extending.{are_made, are_made_at, canonical_at, made_after, made_at, held_later, made_more, made_then, taken_held, tree_later, trees_later}
use Rattle.rdf_normal.proofs.Looping.{trees_further}
use Rattle.man_normal.specs.Subjects.{subject_in}
use Rattle.man_normal.proofs.HeadLaws.{declared_in, head_by, headed_by_subject}

-- ---- names

takes_iri : (k : Kind) → (iri : List ℕ) → takes (row_of (kind_tag k)) (atom.Iri iri) ≡ true
unfolding kind_tag row_of
takes_iri kind.Class iri = refl
takes_iri kind.Datatype iri = refl
takes_iri kind.ObjectProperty iri = refl
takes_iri kind.DataProperty iri = refl
takes_iri kind.AnnotationProperty iri = refl
takes_iri kind.Individual iri = refl

pub name_shaped : (t : Tag) (k : Kind) (iri : List ℕ) → t ≡ kind_tag k → IsAtom (atom.Iri iri) → IsShaped (leaf t (atom.Iri iri))
name_shaped t k iri e h = subst (λ (u : Tag). IsShaped (leaf u (atom.Iri iri))) (sym e) (takes_iri k iri, h)

-- ---- declarations

no_notes : canonical (node tag.Notes no_kids) ≡ node tag.Notes no_kids
unfolding row_of
no_notes = refl

pub declaring_form : (t : Tree) → canonical (declaring t) ≡ declaring (canonical t)
unfolding row_of
declaring_form t = refl

pub declaration_made : (ts us vs : List Tree) (empty : List ℕ) (notes name new : ℕ) (kids : List ℕ) → AreShared ts → name < length ts → empty ≡ [] → IsMade ts us notes (canonical (node_over ts tag.Notes empty)) → kids ≡ notes ∷ name ∷ [] → IsMade us vs new (canonical (node_over us tag.Declaration kids)) → IsMade ts vs new (declaring (tree_at ts name))
declaration_made ts us vs empty notes name new kids shared l none h e k =
    let first : tree_at us notes ≡ node tag.Notes no_kids = h.tree ∙ ap (λ (ns : List ℕ). canonical (node_over ts tag.Notes ns)) none ∙ no_notes in
    let second : tree_at us name ≡ tree_at ts name = tree_later ts us name h.extends l in
    let over : node_over us tag.Declaration kids ≡ declaring (tree_at ts name) =
    ap (node_over us tag.Declaration) e ∙ ap (λ (t : Tree). node tag.Declaration (kids_of (t ∷ tree_at us name ∷ []))) first ∙ ap declaring second in
    made_after ts us vs new _ h.extends
    (made_at us vs new _ _ (ap canonical over ∙ declaring_form (tree_at ts name) ∙ ap declaring (canonical_at ts name shared l)) k)

no_node : (t : Tag) (ts : List Tag) → admits sort.Entity t ≡ true → fits (row_of t) ts ≡ true → ⊥
unfolding admits row_of number_of
no_node tag.Class ts e f = absurd (cc)
no_node _ ts e f = absurd (cc)

pub no_label : (t : Tag) → admits sort.Entity t ≡ true → is_tag tag.Anonymous t ≡ false
unfolding admits number_of
no_label tag.Anonymous e = absurd (cc)
no_label _ e = refl

pub declared_leaf : (t : Tag) (a : Atom) (b c : Bool) → admits sort.Entity t ≡ b → is_tag tag.Anonymous t ≡ c → declared_name (leaf t a) ≡ (if b then (if c then [] else declaring (leaf t a) ∷ []) else [])
declared_leaf t a b c e f = ap (λ (x : Bool). if x then declaration_of (leaf t a) else []) e ∙ ap (λ (x : Bool). if b then (if x then [] else declaring (leaf t a) ∷ []) else []) f

name_is_declared : (t : Tree) → IsShaped t → admits sort.Entity (tag_of t) ≡ true → declared_name t ≡ declaring t ∷ []
name_is_declared (leaf t a) h e = declared_leaf t a true false e (no_label t e)
name_is_declared (node t ks) h e = absurd (no_node t _ e h.0.row)

pub declared_made : (ts us : List Tree) (ids after : List ℕ) (name new : ℕ) → AreShared ts → AreHeld ts ids → name < length ts → admits sort.Entity (tag_of (tree_at ts name)) ≡ true → IsMade ts us new (declaring (tree_at ts name)) → after ≡ ids ++ new ∷ [] → AreMade ts us after (trees_at ts ids ++ declared_name (tree_at ts name))
declared_made ts us ids after name new shared held l e h more =
    let one = name_is_declared (tree_at ts name) (entry_at ts name shared l).shaped e in
    subst (λ (ns : List ℕ). AreMade ts us ns (trees_at ts ids ++ declared_name (tree_at ts name))) (sym more)
    (are_made_at ts us (ids ++ new ∷ []) _ _ (ap (λ (xs : List Tree). trees_at ts ids ++ xs) (sym one))
    (made_more ts ts us ids (trees_at ts ids) new _ (are_made ts ids held) h))

-- ---- IRIs

pub iri_made : (ts us vs : List Tree) (ids after : List ℕ) (name : ℕ) (found : Option Kind) (k : Kind) (iri : List ℕ) → found ≡ Some k → AreHeld ts ids → IsMade ts us name (leaf (kind_tag k) (atom.Iri iri)) → AreMade us vs after (trees_at us ids ++ declared_name (tree_at us name)) → AreMade ts vs after (trees_at ts ids ++ declared_name (subject_as found iri))
iri_made ts us vs ids after name found k iri e held h m =
    let same : declared_name (tree_at us name) ≡ declared_name (subject_as found iri) = ap declared_name h.tree ∙ ap (λ (o : Option Kind). declared_name (subject_as o iri)) (sym e) in
    let here : AreMade ts us ids (trees_at ts ids) = record {
      extends = h.extends;
      held = held_later ts us ids h.extends held;
      trees = trees_later ts us ids h.extends held;
    } in
    made_then ts us vs ids after (trees_at ts ids) _ here (are_made_at us vs after _ _ (ap (λ (xs : List Tree). trees_at us ids ++ xs) same) m)

plain_is_not_declared : (iri : List ℕ) → declared_name (leaf tag.PlainIri (atom.Iri iri)) ≡ []
unfolding admits number_of
plain_is_not_declared iri = refl

pub none_more : (ts : List Tree) (ids : List ℕ) (xs : List Tree) → AreHeld ts ids → xs ≡ [] → AreMade ts ts ids (trees_at ts ids ++ xs)
none_more ts ids xs held e = are_made_at ts ts ids _ _ (sym (append-nil (trees_at ts ids)) ∙ ap (λ (ys : List Tree). trees_at ts ids ++ ys) (sym e)) (are_made ts ids held)

pub no_iri_made : (ts : List Tree) (ids : List ℕ) (found : Option Kind) (iri : List ℕ) → found ≡ None → AreHeld ts ids → AreMade ts ts ids (trees_at ts ids ++ declared_name (subject_as found iri))
no_iri_made ts ids found iri e held = none_more ts ids _ held (ap (λ (o : Option Kind). declared_name (subject_as o iri)) e ∙ plain_is_not_declared iri)

-- ---- heads

-- the same with what is equal to it
pub made_so : (ts us : List Tree) (ids after : List ℕ) (xs ys : List Tree) → ys ≡ xs → AreMade ts us after (trees_at ts ids ++ xs) → AreMade ts us after (trees_at ts ids ++ ys)
made_so ts us ids after xs ys e h = are_made_at ts us after _ _ (ap (λ (zs : List Tree). trees_at ts ids ++ zs) (sym e)) h

headed_by : (ks : Knows) (t : Tree) (annotates : Bool) (subject : Option Tree) → IsAxiom t → canonical t ≡ t → is_tag tag.AnnotationAssertion (tag_of t) ≡ annotates → subject_in (tag_of t) (kids_in t) ≡ subject → headed ks t ≡ declared_in (head_by ks annotates subject)
headed_by ks t annotates subject h e f g =
    headed_by_subject ks t h e
    ∙ ap (λ (b : Bool). declared_in (head_by ks b (subject_in (tag_of t) (kids_in t)))) f
    ∙ ap (λ (o : Option Tree). declared_in (head_by ks annotates o)) g

-- the subject of an axiom in an arena
pub found_at : (ts : List Tree) (found : Option ℕ) (id : ℕ) (subject : Option Tree) → option_map (tree_at ts) found ≡ subject → found ≡ Some id → subject ≡ Some (tree_at ts id)
found_at ts found id subject e f = sym e ∙ ap (option_map (tree_at ts)) f

pub headed_annotated : (ks : Knows) (t about : Tree) → IsAxiom t → canonical t ≡ t → is_tag tag.AnnotationAssertion (tag_of t) ≡ true → subject_in (tag_of t) (kids_in t) ≡ Some about → headed ks t ≡ declared_name (note_subject ks about)
headed_annotated ks t about h e f g = headed_by ks t true (Some about) h e f g ∙ append-nil (declared_name (note_subject ks about))

pub headed_named : (ks : Knows) (t name : Tree) → IsAxiom t → canonical t ≡ t → is_tag tag.AnnotationAssertion (tag_of t) ≡ false → subject_in (tag_of t) (kids_in t) ≡ Some name → headed ks t ≡ declared_name name
headed_named ks t name h e f g = headed_by ks t false (Some name) h e f g ∙ append-nil (declared_name name)

none_by : (ks : Knows) (annotates : Bool) → declared_in (head_by ks annotates None) ≡ []
none_by ks true = refl
none_by ks false = refl

pub headed_by_none : (ks : Knows) (t : Tree) → IsAxiom t → canonical t ≡ t → subject_in (tag_of t) (kids_in t) ≡ None → headed ks t ≡ []
headed_by_none ks t h e g = headed_by ks t _ None h e refl g ∙ none_by ks _

-- ---- all axioms

-- one more axiom
pub heads_further : (ks : Knows) (ts us vs : List Tree) (ids after all : List ℕ) (i id : ℕ) → AreMade ts us ids (trees_at ts all ++ flat_map (headed ks) (trees_at ts (take i all))) → AreHeld ts all → i < length all → id ≡ get_or all i id → AreMade us vs after (trees_at us ids ++ headed ks (tree_at us id)) → AreMade ts vs after (trees_at ts all ++ flat_map (headed ks) (trees_at ts (take (i + 1) all)))
heads_further ks ts us vs ids after all i id h held l e k =
    let at : tree_at us id ≡ tree_at ts id = tree_later ts us id h.extends (taken_held ts all i id held l e) in
    let before = flat_map (headed ks) (trees_at ts (take i all)) in
    let more : flat_map (headed ks) (trees_at ts (take (i + 1) all)) ≡ before ++ headed ks (tree_at ts id) =
    ap (flat_map (headed ks)) (trees_further ts all i id l e) ∙ flat_map-append (headed ks) (trees_at ts (take i all)) (tree_at ts id ∷ []) ∙ ap (λ (xs : List Tree). before ++ xs) (append-nil (headed ks (tree_at ts id))) in
    are_made_at ts vs after _ _
    (append_assoc (trees_at ts all) before (headed ks (tree_at ts id)) ∙ ap (λ (xs : List Tree). trees_at ts all ++ xs) (sym more))
    (made_then ts us vs ids after _ _ h (subst (λ (t : Tree). AreMade us vs after (trees_at us ids ++ headed ks t)) at k))

from_trees : (P : Tree → Type 0) (ts : List Tree) (ids : List ℕ) → AllByRecursion P (trees_at ts ids) → AllByRecursion (λ n. P (tree_at ts n)) ids
from_trees P ts [] h = tt
from_trees P ts (id ∷ ids) h = (h.0, from_trees P ts ids h.1)

-- an axiom of these is one later
pub axiom_later : (ts us : List Tree) (ids : List ℕ) (xs : List Tree) (all : List ℕ) (i id : ℕ) → AreMade ts us ids xs → AreHeld ts all → AllByRecursion IsAxiom (trees_at ts all) → i < length all → id ≡ get_or all i id → IsAxiom (tree_at us id)
axiom_later ts us ids xs all i id h held axioms l e =
    let at : tree_at us id ≡ tree_at ts id = tree_later ts us id h.extends (taken_held ts all i id held l e) in
    subst IsAxiom (sym at) (all_in (λ n. IsAxiom (tree_at ts n)) all id (from_trees IsAxiom ts all axioms) (i, l, sym e))
