-- Nodes with the same triples stand for the same.
use Rattle.std.specs.Prelude.{◌≡◌, ℕ, Bool, true, false, cond, List, [], ◌∷◌, length, map}
use Rattle.std.specs.List.{filter, list_any}
use Rattle.std.proofs.Common.{refl, sym, ap, ◌∙◌, subst}
use Rattle.std.proofs.lemmas.Bool.{both_ways}
use Rattle.owl_kind.specs.Kinds.{Entity}
use Rattle.owl_tree.specs.declared.tag.Tag.{Tag}
use Rattle.owl_tree.specs.Trees.{Tree, kids_of, node}
use Rattle.rdf_graph.specs.declared.term.Term.{Term}
use Rattle.rdf_graph.specs.declared.term.Term.TheVariants.{Blank}
use Rattle.rdf_graph.specs.declared.triple.Triple.{Triple}
use Rattle.rdf_meaning.specs.declared.role.Role.{Role}
use Rattle.rdf_meaning.specs.declared.role.Role.TheVariants as role
use Rattle.rdf_meaning.specs.declared.row.Part.{Part}
use Rattle.rdf_meaning.specs.declared.row.Place.{Place}
use Rattle.rdf_meaning.specs.declared.row.Place.TheVariants.{At, Subject, Predicate, Object}
use Rattle.rdf_meaning.specs.declared.row.Want.TheVariants.{One}
use Rattle.rdf_meaning.specs.declared.word.Word.{Word}
use Rattle.rdf_meaning.specs.declared.row.Site.TheVariants.{Node}
use Rattle.rdf_meaning.specs.Denotation.{Bearer, Denotes, by_row, Fits, Holds, no_parts, part, of_node, select, times, sort_of, DenotesOwn}
use Rattle.rdf_meaning.proofs.DenotationLaws.{itself, with_row, one_is, parts_are, simple_has_none}
use Rattle.rdf_meaning.specs.Nodes.{carries, chosen, first_role, marked_roles, marks_role, of_subject, role_of, roles_of, words_of}
use Rattle.rdf_meaning.specs.Rows.{Row}
use Rattle.rdf_meaning.specs.Statements.{IsAxiomWith}
use Rattle.rdf_nodes.specs.Duplicates.{HaveSameArcs, arc_of}
use Rattle.rdf_nodes.proofs.ExpressionLaws.{expression_has_row}

abbrev IsToldByArcs : (Triple → Bool) → Type 0
IsToldByArcs test = (t u : Triple) → arc_of t ≡ arc_of u → test t ≡ test u

same_head : {A : Type 0} (a b : A) (more others : List A) → a ∷ more ≡ b ∷ others → a ≡ b
same_head a b more others e = cc

same_tail : {A : Type 0} (a b : A) (more others : List A) → a ∷ more ≡ b ∷ others → more ≡ others
same_tail a b more others e = cc

-- a triple with this predicate and object
abbrev with_arc : List ℕ × Term → Triple
with_arc a = record { subject = a.1; predicate = a.0; object = a.1 }

carries_by_arc : (w : Word) → IsToldByArcs (carries w)
unfolding carries
carries_by_arc w t u e = ap (λ a. carries w (with_arc a)) e

marks_by_arc : (r : Role) → IsToldByArcs (marks_role r)
unfolding carries marks_role
marks_by_arc role.List t u e = ap (λ a. marks_role role.List (with_arc a)) e
marks_by_arc role.Property t u e = ap (λ a. marks_role role.Property (with_arc a)) e
marks_by_arc role.Class t u e = ap (λ a. marks_role role.Class (with_arc a)) e
marks_by_arc role.Range t u e = ap (λ a. marks_role role.Range (with_arc a)) e
marks_by_arc role.Facet t u e = ap (λ a. marks_role role.Facet (with_arc a)) e
marks_by_arc role.Main t u e = ap (λ a. marks_role role.Main (with_arc a)) e
marks_by_arc role.Note t u e = ap (λ a. marks_role role.Note (with_arc a)) e
marks_by_arc role.Header t u e = ap (λ a. marks_role role.Header (with_arc a)) e
marks_by_arc role.Individual t u e = refl

both : (test : Triple → Bool) (t u : Triple) (ts us : List Triple) → test t ≡ test u → list_any test ts ≡ list_any test us → list_any test (t ∷ ts) ≡ list_any test (u ∷ us)
both test t u ts us e f = cc

any_same : (test : Triple → Bool) → IsToldByArcs test → (ts us : List Triple) → map arc_of ts ≡ map arc_of us → list_any test ts ≡ list_any test us
any_same test told [] [] e = refl
any_same test told [] (u ∷ us) e = cc
any_same test told (t ∷ ts) [] e = cc
any_same test told (t ∷ ts) (u ∷ us) e =
    both test t u ts us (told t u (same_head (arc_of t) (arc_of u) (map arc_of ts) (map arc_of us) e))
    (any_same test told ts us (same_tail (arc_of t) (arc_of u) (map arc_of ts) (map arc_of us) e))

keep_both : (b c : Bool) (t u : Triple) (ts us : List Triple) → b ≡ c → t.object ≡ u.object → map (λ v. v.object) ts ≡ map (λ v. v.object) us →
    map (λ v. v.object) (cond b (t ∷ ts) ts) ≡ map (λ v. v.object) (cond c (u ∷ us) us)
keep_both true true t u ts us e f h = cc
keep_both false false t u ts us e f h = h
keep_both true false t u ts us e f h = cc
keep_both false true t u ts us e f h = cc

-- the objects of triples that pass
kept_same : (test : Triple → Bool) → IsToldByArcs test → (ts us : List Triple) → map arc_of ts ≡ map arc_of us →
    map (λ v. v.object) (filter test ts) ≡ map (λ v. v.object) (filter test us)
kept_same test told [] [] e = refl
kept_same test told [] (u ∷ us) e = cc
kept_same test told (t ∷ ts) [] e = cc
kept_same test told (t ∷ ts) (u ∷ us) e =
    let head = same_head (arc_of t) (arc_of u) (map arc_of ts) (map arc_of us) e in
    keep_both (test t) (test u) t u (filter test ts) (filter test us) (told t u head) (ap (λ a. a.1) head)
    (kept_same test told ts us (same_tail (arc_of t) (arc_of u) (map arc_of ts) (map arc_of us) e))

keep_one : {X : Type 0} (b c : Bool) (x : X) (xs ys : List X) → b ≡ c → xs ≡ ys → cond b (x ∷ xs) xs ≡ cond c (x ∷ ys) ys
keep_one b c x xs ys e f = cc

same_tests : {X : Type 0} (f h : X → Bool) → ((x : X) → f x ≡ h x) → (xs : List X) → filter f xs ≡ filter h xs
same_tests f h same [] = refl
same_tests f h same (x ∷ xs) = keep_one (f x) (h x) x (filter f xs) (filter h xs) (same x) (same_tests f h same xs)

none_held : (g : List Triple) (k : List Entity) (b : Bearer) (ps : List Part) (ts : List Tree) → Holds g k b ps ts → ps ≡ [] → ts ≡ []
none_held g k _ _ _ (no_parts b) e = refl
none_held g k _ _ _ (part b p ps x us vs s d h) e = cc

module _ (g : List Triple) (l m : List ℕ) (same : HaveSameArcs g (Blank l) (Blank m)) where
  pub same_role : role_of g (Blank l) ≡ role_of g (Blank m)
  unfolding roles_of
  same_role =
      ap first_role (same_tests _ _ (λ r. any_same (marks_role r) (marks_by_arc r) (of_subject g (Blank l)) (of_subject g (Blank m)) same) marked_roles)

  same_chosen : (w : Word) → chosen g (Blank l) w ≡ chosen g (Blank m) w
  unfolding chosen
  same_chosen w = kept_same (carries w) (carries_by_arc w) (of_subject g (Blank l)) (of_subject g (Blank m)) same

  same_selected : (place : Place) → select g (of_node (Blank l)) place ≡ select g (of_node (Blank m)) place
  same_selected (At w) = same_chosen w
  same_selected Subject = refl
  same_selected Predicate = refl
  same_selected Object = refl

  same_counts : (ws : List Word) → map (λ w. length (chosen g (Blank l) w)) ws ≡ map (λ w. length (chosen g (Blank m) w)) ws
  same_counts [] = refl
  same_counts (w ∷ ws) = both_counts (ap length (same_chosen w)) (same_counts ws)
    where
      both_counts : {a b : ℕ} {more others : List ℕ} → a ≡ b → more ≡ others → a ∷ more ≡ b ∷ others
      both_counts e f = cc

  fits_too : (row : Row) → Fits g (of_node (Blank l)) row → Fits g (of_node (Blank m)) row
  fits_too row f =
      subst (λ r. (row.site ≡ Node r) × (map (λ w. length (chosen g (Blank m) w)) (words_of r) ≡ map (λ w. times w row.parts) (words_of r))) same_role
      (f.0, sym (same_counts (words_of (role_of g (Blank l)))) ∙ f.1)

  holds_too : (k : List Entity) (ps : List Part) (ts : List Tree) → Holds g k (of_node (Blank l)) ps ts → Holds g k (of_node (Blank m)) ps ts
  holds_too k [] ts h =
      subst (Holds g k (of_node (Blank m)) []) (sym (none_held g k (of_node (Blank l)) [] ts h refl)) (no_parts (of_node (Blank m)))
  holds_too k (p ∷ ps) ts h =
      let i = parts_are g k (of_node (Blank l)) p ps ts h in
      subst (Holds g k (of_node (Blank m)) (p ∷ ps)) (sym i.joined)
      (part (of_node (Blank m)) p ps i.x i.us i.vs (sym (same_selected p.place) ∙ i.one) i.denotes (holds_too k ps i.vs i.rest))

  -- a node with the same triples denotes the same
  pub denotes_too : (k : List Entity) (t : Tree) → DenotesOwn g k (Blank l) t → DenotesOwn g k (Blank m) t
  denotes_too k t own =
      let gives = ap sort_of (sym same_role) ∙ own.gives in
      elim (one_is g k own.sort (Blank l) (t ∷ []) own.denotes) [
        | itself u e _ ↦
            absurd (both_ways _ (simple_has_none g k own.sort (Blank l) u e) (expression_has_row (role_of g (Blank l)) own.sort own.gives))
        | with_row row us among admitted fits holds whole ↦ record {
          sort = own.sort;
          gives = gives;
          denotes = subst (Denotes g k (Blank m) (One own.sort)) (sym whole)
              (by_row own.sort (Blank m) row us among admitted (fits_too row fits) (holds_too k row.parts us holds));
        }
      ]

  -- and is the same axiom
  pub axiom_too : (k : List Entity) (tag : Tag) (ts : List Tree) → IsAxiomWith g k (of_node (Blank l)) tag ts → IsAxiomWith g k (of_node (Blank m)) tag ts
  axiom_too k tag ts is = record {
    row = is.row;
    among = is.among;
    tag = is.tag;
    fits = fits_too is.row is.fits;
    parts = holds_too k is.row.parts ts is.parts;
  }
