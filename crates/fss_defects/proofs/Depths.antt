-- A tree that gets too deep stays so: in the open constructs, while it is kept, and in the document.
use Rattle.std.proofs.Common.{◌≡◌, ◌<◌, ◌≤◌, ◌+◌, ℕ, List, [], ◌∷◌, ◌++◌, length, None, Option, Some, refl, sym, subst, arith}
use Rattle.std.specs.List.{AllByRecursion}
use Rattle.std.specs.Prelude.{Contains, max}
use Rattle.std.proofs.lemmas.List.Elements.{Contains-append_left, Contains-append_right}
use Rattle.owl_arena.specs.Shared.{deepest}
use Rattle.owl_atom.specs.declared.prefixes.Prefix.{Prefix}
use Rattle.owl_list.proofs.AscendingLaws.{all_in, in_head}
use Rattle.owl_tokens.specs.declared.token.Token.{Token}
use Rattle.owl_tree.specs.declared.atom.Atom.{Atom}
use Rattle.owl_tree.specs.declared.atom.Atom.TheVariants.{Iri, Literal}
use Rattle.owl_tree.specs.declared.row.AtomSort.{AtomSort}
use Rattle.owl_tree.specs.declared.row.AtomSort.TheVariants as atom
use Rattle.owl_tree.specs.declared.tag.Tag.{Tag}
use Rattle.owl_tree.specs.declared.tag.Tag.TheVariants as tag
use Rattle.owl_tree.specs.Frames.{Frame, opened, tree_of}
use Rattle.owl_tree.specs.Ontologies.{OntologyName}
use Rattle.owl_tree.specs.Rows.{Leaf, Node, Row, row_of}
use Rattle.owl_tree.specs.Trees.{Tree, depth, kids_of, leaf, most_depth}
use Rattle.fss_terms.specs.Functional.{IsWithinLimits}
use Rattle.fss_grammar.specs.Making.{Adds, BeginsConstruct, BeginsLeaf, Declares, Document, Kept, Maker, MakesHeld, MakesLiteral, Performs, Shuts, Versions, add_annotation, add_axiom, import_iri, name_ontology, put_in}
use Rattle.fss_grammar.specs.Making.Kept.{iri, item, prefix, string}
use Rattle.fss_grammar.specs.Meaning.{between}
use Rattle.fss_grammar.specs.declared.acts.Act.{Act}
use Rattle.fss_grammar.specs.declared.acts.Act.TheVariants.{AddAnnotation, AddAxiom, Begin, DeclareIri, DeclareName, EndItem, HeldDatatype, HeldProperty, Hold, ImportIri, OntologyIri, Plain, Shut, Tagged, Typed, VersionIri}
use Rattle.fss_defects.proofs.Courses.{StepKeeps}
use Rattle.fss_defects.proofs.Growths.{acts_grow}
use Rattle.fss_defects.proofs.Needs.{Needs, ready_needs}

-- ---- how deep the open constructs are

-- The depth of the outermost of these constructs, where the innermost has one more kid, which is so deep, and all end at once.
abbrev pub depth_with : ℕ → List Frame → ℕ
depth_with d [] = d
depth_with d (f ∷ frames) = depth_with (max d (most_depth (kids_of f.kids)) + 1) frames

deeper : (d e : ℕ) (frames : List Frame) → d ≤ e → depth_with d frames ≤ depth_with e frames
deeper d e [] h = h
deeper d e (f ∷ frames) h = deeper (max d (most_depth (kids_of f.kids)) + 1) (max e (most_depth (kids_of f.kids)) + 1) frames (omega (arith, h))

as_many : (d : ℕ) (frames : List Frame) → d + length frames ≤ depth_with d frames
as_many d [] = omega arith
as_many d (f ∷ frames) = let h = as_many (max d (most_depth (kids_of f.kids)) + 1) frames in omega (arith, h)

kid_more : (ks : List Tree) (t : Tree) → most_depth (kids_of (ks ++ t ∷ [])) ≡ max (most_depth (kids_of ks)) (depth t)
kid_more [] t = omega arith
kid_more (k ∷ ks) t = let h = kid_more ks t in omega (arith, h)

-- ---- too deep

-- a leaf is to come in the innermost construct
abbrev pub AwaitsLeaf : Kept → Type 0
AwaitsLeaf (string t form) = Unit {0}
AwaitsLeaf (iri i) = Unit {0}
AwaitsLeaf _ = ⊥

pub data IsTooDeep (m : Maker) : Type 0 where
  within : deepest < depth_with 0 m.frames → IsTooDeep m
  awaited : AwaitsLeaf m.kept → deepest ≤ length m.frames → IsTooDeep m
  whole : (t : Tree) → m.kept ≡ item t → deepest < depth t → IsTooDeep m
  annotation : (t : Tree) → Contains m.document.ontology.annotations t → deepest < depth t → IsTooDeep m
  assertion : (t : Tree) → Contains m.document.ontology.axioms t → deepest < depth t → IsTooDeep m

deep_as : (m n : Maker) → IsTooDeep m → n ≡ m → IsTooDeep n
deep_as m n h e = subst IsTooDeep (sym e) h

-- a kid is put into open constructs that are too deep, and a leaf into as many as there may be
put_within : (frames : List Frame) (t : Tree) (m : Maker) → deepest < depth_with 0 frames → IsTooDeep (put_in frames t m)
put_within [] t m h = absurd (omega (arith, h))
put_within (f ∷ frames) t m h =
    let more = kid_more f.kids t in
    let e = deeper (max 0 (most_depth (kids_of f.kids)) + 1) (max 0 (most_depth (kids_of (f.kids ++ t ∷ []))) + 1) frames (omega (arith, more)) in
    within (omega (arith, h, e))

put_leaf : (frames : List Frame) (t : Tag) (a : Atom) (m : Maker) → deepest ≤ length frames → IsTooDeep (put_in frames (leaf t a) m)
put_leaf [] t a m h = absurd (omega (arith, h))
put_leaf (f ∷ frames) t a m h =
    let more = kid_more f.kids (leaf t a) in
    let e = as_many (max 0 (most_depth (kids_of (f.kids ++ leaf t a ∷ []))) + 1) frames in
    within (omega (arith, h, e, more))

-- a construct ends
shut_within : (f : Frame) (frames : List Frame) (m : Maker) → deepest < depth_with 0 (f ∷ frames) → IsTooDeep (put_in frames (tree_of f) m)
shut_within f [] m h = whole (tree_of f) refl (omega (arith, h))
shut_within f (g ∷ frames) m h =
    let more = kid_more g.kids (tree_of f) in
    let e = deeper (max (max 0 (most_depth (kids_of f.kids)) + 1) (most_depth (kids_of g.kids)) + 1) (max 0 (most_depth (kids_of (g.kids ++ tree_of f ∷ []))) + 1) frames (omega (arith, more)) in
    within (omega (arith, h, e))

-- one more begins
pub open_full : (t : Tag) (m n : Maker) → deepest ≤ length m.frames → n ≡ record m { frames = opened t m.frames } → IsTooDeep n
open_full t m n h e =
    let k = as_many 1 m.frames in
    deep_as (record m { frames = opened t m.frames }) n (within (omega (arith, h, k))) e

-- ---- each act keeps what is too deep in the open constructs

-- nothing was done to them
same_frames : (m n k : Maker) → deepest < depth_with 0 m.frames → m.frames ≡ k.frames → n ≡ k → IsTooDeep n
same_frames m n k h e same = deep_as k n (within (subst (λ frames. deepest < depth_with 0 frames) e h)) same

leaf_within : (p : List Prefix) (t : Tag) (sort : AtomSort) (next : Option Token) (m n : Maker) → deepest < depth_with 0 m.frames → BeginsLeaf p t sort next m n → IsTooDeep n
leaf_within p t atom.Literal next m n d h = same_frames m n _ d refl h.2
leaf_within p t atom.Iri next m n d h = deep_as _ n (put_within m.frames _ m d) h.2
leaf_within p t atom.Label next m n d h = deep_as _ n (put_within m.frames _ m d) h.2
leaf_within p t atom.Number next m n d h = deep_as _ n (put_within m.frames _ m d) h.2

begin_within : (p : List Prefix) (t : Tag) (row : Row) (next : Option Token) (m n : Maker) → deepest < depth_with 0 m.frames → BeginsConstruct p t row next m n → IsTooDeep n
begin_within p t (Leaf sort) next m n d h = leaf_within p t sort next m n d h
begin_within p t (Node front rest) next m n d h =
    let e = deeper 0 1 m.frames (omega arith) in
    deep_as (record m { frames = opened t m.frames }) n (within (omega (arith, d, e))) h

shuts_within : (frames : List Frame) (m n : Maker) → deepest < depth_with 0 frames → Shuts frames m n → IsTooDeep n
shuts_within [] m n d h = absurd h
shuts_within (f ∷ frames) m n d h = deep_as _ n (shut_within f frames (record m { frames = frames }) d) h.1

literal_within : (kept : Kept) (datatype language : Option (List ℕ)) (m n : Maker) → deepest < depth_with 0 m.frames → MakesLiteral kept datatype language m n → IsTooDeep n
literal_within (string t form) datatype language m n d h = deep_as _ n (put_within m.frames _ m d) h.3
literal_within _ datatype language m n d h = absurd h

held_within : (kept : Kept) (t : Tag) (m n : Maker) → deepest < depth_with 0 m.frames → MakesHeld kept t m n → IsTooDeep n
held_within (iri i) t m n d h = deep_as _ n (put_within m.frames _ m d) h
held_within _ t m n d h = absurd h

declares_within : (kept : Kept) (next : Option Token) (m n : Maker) → deepest < depth_with 0 m.frames → Declares kept next m n → IsTooDeep n
declares_within (prefix name) next m n d h = same_frames m n _ d refl h.2
declares_within _ next m n d h = absurd h

versions_within : (name : Option OntologyName) (i : List ℕ) (m n : Maker) → deepest < depth_with 0 m.frames → Versions name i m n → IsTooDeep n
versions_within None i m n d h = absurd h
versions_within (Some name) i m n d h = same_frames m n (name_ontology (record { iri = name.iri; version = Some i }) m) d refl h

adds_within : (kept : Kept) (add : Tree → Maker → Maker) (m n : Maker) → deepest < depth_with 0 m.frames → ((t : Tree) → m.frames ≡ (add t m).frames) → Adds kept add m n → IsTooDeep n
adds_within (item t) add m n d same h = same_frames m n (add t m) d (same t) h
adds_within _ add m n d same h = absurd h

act_within : (p : List Prefix) (act : Act) (next : Option Token) (m n : Maker) → deepest < depth_with 0 m.frames → Performs p act next m n → IsTooDeep n
act_within p (Begin t) next m n d h = begin_within p t (row_of t) next m n d h
act_within p Shut next m n d h = shuts_within m.frames m n d h
act_within p Plain next m n d h = literal_within m.kept None None m n d h
act_within p Tagged next m n d h = literal_within m.kept None (Some h.0) m n d h.2
act_within p Typed next m n d h = literal_within m.kept (Some h.0) None m n d h.2
act_within p Hold next m n d h = same_frames m n (record m { kept = iri h.0 }) d refl h.3
act_within p HeldProperty next m n d h = held_within m.kept tag.DataProperty m n d h
act_within p HeldDatatype next m n d h = held_within m.kept tag.Datatype m n d h
act_within p DeclareName next m n d h = same_frames m n (record m { kept = prefix h.0 }) d refl h.2
act_within p DeclareIri next m n d h = declares_within m.kept next m n d h
act_within p OntologyIri next m n d h = same_frames m n (name_ontology (record { iri = h.0; version = None }) m) d refl h.3
act_within p VersionIri next m n d h = versions_within m.document.ontology.head.name h.0 m n d h.3
act_within p ImportIri next m n d h = same_frames m n (import_iri h.0 m) d refl h.3
act_within p AddAnnotation next m n d h = adds_within m.kept add_annotation m n d (λ t. refl) h
act_within p AddAxiom next m n d h = adds_within m.kept add_axiom m n d (λ t. refl) h
act_within p EndItem next m n d h = same_frames m n m d refl h

-- ---- and what is kept

literal_awaited : (kept : Kept) (datatype language : Option (List ℕ)) (m n : Maker) → deepest ≤ length m.frames → MakesLiteral kept datatype language m n → IsTooDeep n
literal_awaited (string t form) datatype language m n d h = deep_as _ n (put_leaf m.frames t (Literal h.0) m d) h.3
literal_awaited _ datatype language m n d h = absurd h

held_awaited : (kept : Kept) (t : Tag) (m n : Maker) → deepest ≤ length m.frames → MakesHeld kept t m n → IsTooDeep n
held_awaited (iri i) t m n d h = deep_as _ n (put_leaf m.frames t (Iri i) m d) h
held_awaited _ t m n d h = absurd h

act_awaited : (p : List Prefix) (act : Act) (next : Option Token) (m n : Maker) → Needs act m.kept → AwaitsLeaf m.kept → deepest ≤ length m.frames → Performs p act next m n → IsTooDeep n
act_awaited p Plain next m n need a d h = literal_awaited m.kept None None m n d h
act_awaited p Tagged next m n need a d h = literal_awaited m.kept None (Some h.0) m n d h.2
act_awaited p Typed next m n need a d h = literal_awaited m.kept (Some h.0) None m n d h.2
act_awaited p HeldProperty next m n need a d h = held_awaited m.kept tag.DataProperty m n d h
act_awaited p HeldDatatype next m n need a d h = held_awaited m.kept tag.Datatype m n d h
act_awaited p DeclareIri next m n need a d h = absurd (subst AwaitsLeaf need.1 a)
act_awaited p AddAnnotation next m n need a d h = absurd (subst AwaitsLeaf need.1 a)
act_awaited p AddAxiom next m n need a d h = absurd (subst AwaitsLeaf need.1 a)
act_awaited p EndItem next m n need a d h = deep_as m n (awaited a d) h
act_awaited p _ next m n need a d h = absurd (subst AwaitsLeaf need a)

annotation_whole : (kept : Kept) (t : Tree) (m n : Maker) → kept ≡ item t → deepest < depth t → Adds kept add_annotation m n → IsTooDeep n
annotation_whole (item u) t m n e d h =
    let same : u ≡ t = cc in
    deep_as (add_annotation u m) n
    (annotation t (subst (λ (v : Tree). Contains (m.document.ontology.annotations ++ u ∷ []) v) same (Contains-append_right m.document.ontology.annotations (u ∷ []) u (in_head u []))) d) h
annotation_whole _ t m n e d h = absurd h

axiom_whole : (kept : Kept) (t : Tree) (m n : Maker) → kept ≡ item t → deepest < depth t → Adds kept add_axiom m n → IsTooDeep n
axiom_whole (item u) t m n e d h =
    let same : u ≡ t = cc in
    deep_as (add_axiom u m) n
    (assertion t (subst (λ (v : Tree). Contains (m.document.ontology.axioms ++ u ∷ []) v) same (Contains-append_right m.document.ontology.axioms (u ∷ []) u (in_head u []))) d) h
axiom_whole _ t m n e d h = absurd h

act_whole : (p : List Prefix) (act : Act) (next : Option Token) (m n : Maker) (t : Tree) → Needs act m.kept → m.kept ≡ item t → deepest < depth t → Performs p act next m n → IsTooDeep n
act_whole p Plain next m n t need e d h = absurd (let f = need.2 in cc)
act_whole p Tagged next m n t need e d h = absurd (let f = need.2 in cc)
act_whole p Typed next m n t need e d h = absurd (let f = need.2 in cc)
act_whole p HeldProperty next m n t need e d h = absurd (let f = need.1 in cc)
act_whole p HeldDatatype next m n t need e d h = absurd (let f = need.1 in cc)
act_whole p DeclareIri next m n t need e d h = absurd (let f = need.1 in cc)
act_whole p AddAnnotation next m n t need e d h = annotation_whole m.kept t m n e d h
act_whole p AddAxiom next m n t need e d h = axiom_whole m.kept t m n e d h
act_whole p EndItem next m n t need e d h = deep_as m n (whole t e d) h
act_whole p _ next m n t need e d h = absurd (cc)

-- ---- along a document

inside : (xs ys : List Tree) (t : Tree) → (more : List Tree) × (ys ≡ xs ++ more) → Contains xs t → Contains ys t
inside xs ys t it h = subst (λ (l : List Tree). Contains l t) (sym it.1) (Contains-append_left xs it.0 t h)

pub too_deep_stays : StepKeeps IsTooDeep
too_deep_stays p act next m n ready h (within d) = act_within p act next m n d h
too_deep_stays p act next m n ready h (awaited a d) = act_awaited p act next m n (ready_needs act next m ready) a d h
too_deep_stays p act next m n ready h (whole t e d) = act_whole p act next m n t (ready_needs act next m ready) e d h
too_deep_stays p act next m n ready h (annotation t k d) = annotation t (inside _ _ t (acts_grow p act next m n h).annotations k) d
too_deep_stays p act next m n ready h (assertion t k d) = assertion t (inside _ _ t (acts_grow p act next m n h).axioms k) d

not_deeper : (ts : List Tree) (t : Tree) → AllByRecursion (λ t. depth t ≤ deepest) ts → Contains ts t → deepest < depth t → ⊥
not_deeper ts t all k d = let few = all_in (λ t. depth t ≤ deepest) ts t all k in omega (arith, few, d)

pub too_deep_ends : (document : Document) → IsWithinLimits document.ontology → IsTooDeep (between document) → ⊥
too_deep_ends document limits (within d) = omega (arith, d)
too_deep_ends document limits (awaited a d) = a
too_deep_ends document limits (whole t e d) = cc
too_deep_ends document limits (annotation t k d) = not_deeper document.ontology.annotations t limits.annotations k d
too_deep_ends document limits (assertion t k d) = not_deeper document.ontology.axioms t limits.axioms k d

-- ---- what is done where 128 constructs are open already

full_leaf : (p : List Prefix) (t : Tag) (sort : AtomSort) (next : Option Token) (m n : Maker) → deepest ≤ length m.frames → BeginsLeaf p t sort next m n → IsTooDeep n
full_leaf p t atom.Literal next m n d h = deep_as (record m { kept = string t h.0 }) n (awaited tt d) h.2
full_leaf p t atom.Iri next m n d h = deep_as _ n (put_leaf m.frames t h.0 m d) h.2
full_leaf p t atom.Label next m n d h = deep_as _ n (put_leaf m.frames t h.0 m d) h.2
full_leaf p t atom.Number next m n d h = deep_as _ n (put_leaf m.frames t h.0 m d) h.2

pub full_begins : (p : List Prefix) (t : Tag) (row : Row) (next : Option Token) (m n : Maker) → deepest ≤ length m.frames → BeginsConstruct p t row next m n → IsTooDeep n
full_begins p t (Leaf sort) next m n d h = full_leaf p t sort next m n d h
full_begins p t (Node front rest) next m n d h = open_full t m n d h

pub full_holds : (i : List ℕ) (m n : Maker) → deepest ≤ length m.frames → n ≡ record m { kept = iri i } → IsTooDeep n
full_holds i m n d h = deep_as (record m { kept = iri i }) n (awaited tt d) h
