-- What an item, and a document, means at place 0 it means anywhere.
use Rattle.std.proofs.Common.{◌≡◌, ℕ, suc, Option, None, Some, Ok, Err, List, [], ◌∷◌, ◌++◌, length, map, refl, sym, ap, ◌∙◌, subst}
use Rattle.std.specs.Prelude.{◌+◌}
use Rattle.std.specs.List.{flat_map}
use Rattle.std.specs.Option.{option_map}
use Rattle.man_raw.specs.declared.document.RawPart.{RawPart}
use Rattle.man_raw.specs.declared.form.Form.TheVariants as form
use Rattle.man_raw.specs.declared.form.What.TheVariants as what
use Rattle.man_raw.specs.declared.heading.Heading.{Heading}
use Rattle.man_raw.specs.Documents.{DocumentTree, ItemTree}
use Rattle.man_raw.specs.Raws.{RawTree, list_of, raw}
use Rattle.man_resolve.specs.declared.place.Place.{Place}
use Rattle.man_resolve.specs.declared.place.Place.TheVariants as place
use Rattle.man_resolve.specs.declared.sentence.Sentence.{Sentence}
use Rattle.man_resolve.specs.declared.sentence.Sentence.TheVariants as sentence
use Rattle.man_resolve.specs.declared.shape.ByKind.{ByKind}
use Rattle.man_resolve.specs.Expressions.{Knows, Stem, Told, all_at, all_of, by_property, meant, takes, where_takes}
use Rattle.man_resolve.specs.Items.{annotations_of, assertion_in, axiom_of, axioms_of, called, declaration_of, fact, fact_by, fact_said, head_in, meanings_of, named, note, note_said, ontology_with, pair_of, resolved, said_of, stated, subject_of, where_found, word, word_in}
use Rattle.man_resolve.specs.Places.{name_place, sentence_of}
use Rattle.owl_tree.specs.declared.tag.Tag.{Tag}
use Rattle.owl_tree.specs.declared.tag.Tag.TheVariants as tag
use Rattle.std.proofs.lemmas.List.{append_assoc}
use Rattle.owl_tree.specs.Ontologies.{Head, Ontology}
use Rattle.owl_tree.specs.Trees.{Tree}
use Rattle.man_text.specs.Undecided.{all_unplaced, unplaced, unplaced_document, unplaced_item, unplaced_part}
use Rattle.man_text.proofs.PlaceLaws.{Below, after_below, atom_below, behind_below, each_below, found_below, front_below, key_below, length_unplaced, list_unplaced, meant_below, members_below, node_below, one_below, properties_below, property_below, stem_below, takes_below}

-- ---- parts

fact_found : (r : RawTree) → fact_by (unplaced r) ≡ fact_by r
fact_found (raw at (what.Atom a) ts) = refl
fact_found (raw at (what.Word w) ts) = refl
fact_found (raw at (what.Facet f) ts) = refl
fact_found (raw at (what.Form form.Fact) ts) = refl
fact_found (raw at (what.Form form.NegativeFact) ts) = refl
fact_found (raw at (what.Form _) ts) = refl

abbrev both_unplaced : RawTree × RawTree → RawTree × RawTree
both_unplaced p = (unplaced p.0, unplaced p.1)

pair_unplaced : (ts : List RawTree) → pair_of (map unplaced ts) ≡ option_map both_unplaced (pair_of ts)
pair_unplaced [] = refl
pair_unplaced (p ∷ []) = refl
pair_unplaced (p ∷ v ∷ []) = refl
pair_unplaced (p ∷ v ∷ t ∷ ts) = refl

assertion_found : (r : RawTree) → assertion_in (unplaced r) ≡ option_map both_unplaced (assertion_in r)
assertion_found (raw at (what.Atom a) ts) = refl
assertion_found (raw at (what.Word w) ts) = refl
assertion_found (raw at (what.Facet f) ts) = refl
assertion_found (raw at (what.Form form.Assertion) ts) = ap pair_of (list_unplaced ts) ∙ pair_unplaced (list_of ts)
assertion_found (raw at (what.Form _) ts) = refl

word_found : (h : Heading) (r : RawTree) → word_in h (unplaced r) ≡ word_in h r
word_found h (raw at (what.Atom a) ts) = refl
word_found h (raw at (what.Word w) ts) = refl
word_found h (raw at (what.Facet f) ts) = refl
word_found h (raw at (what.Form f) ts) = refl

module _ (ks : Knows) where
  same_found : {X : Type 0} (at : ℕ) (o : Option X) (y x : X → Told Stem) → ((z : X) → Below (y z) (x z)) → Below (where_found 0 o y) (where_found at o x)
  same_found at None y x h = λ v e. absurd (cc)
  same_found at (Some z) y x h = h z

  fact_below : (subject : List Tree) (r : RawTree) → Below (fact ks subject (unplaced r)) (fact ks subject r)
  fact_below subject (raw at w us) =
      subst (λ (o : Option ByKind). Below (where_found 0 o (fact_said ks subject 0 (list_of (all_unplaced us)))) (fact ks subject (raw at w us))) (sym (fact_found (raw at w us)))
      (same_found at (fact_by (raw at w us)) _ _ (λ by.
      subst (λ (ts : List RawTree). Below (fact_said ks subject 0 ts by) (fact_said ks subject at (list_of us) by)) (sym (list_unplaced us))
      (subst (λ (n : ℕ). Below (where_takes (takes by.object_tag (suc (length subject + n))) 0 (by_property by subject 1 0 (meanings_of ks (map unplaced (list_of us))))) (fact_said ks subject at (list_of us) by)) (sym (length_unplaced (list_of us)))
      (takes_below (takes by.object_tag (suc (length subject + length (list_of us)))) at _ _ (property_below by subject 1 at (meanings_of ks (map unplaced (list_of us))) (meanings_of ks (list_of us)) (each_below ks (list_of us)))))))

  note_below : (subject : List Tree) (r : RawTree) → Below (note ks subject (unplaced r)) (note ks subject r)
  note_below subject (raw at w us) =
      subst (λ (o : Option (RawTree × RawTree)). Below (where_found 0 o (note_said ks subject)) (note ks subject (raw at w us))) (sym (assertion_found (raw at w us)))
      (found_below ks both_unplaced at (assertion_in (raw at w us)) _ _ (λ pair. stem_below tag.AnnotationAssertion _ _ (front_below _ _ _ _ (meant_below ks pair.0 place.AnnotationProperty) (after_below (map called subject) _ _ (one_below _ _ (meant_below ks pair.1 place.Value))))))

  word_below : (subject : List Tree) (h : Heading) (r : RawTree) → Below (word subject h (unplaced r)) (word subject h r)
  word_below subject h (raw at w us) =
      subst (λ (o : Option Tag). Below (where_found 0 o (λ t. Ok (record { tag = t; kids = subject }))) (word subject h (raw at w us))) (sym (word_found h (raw at w us)))
      (same_found at (word_in h (raw at w us)) _ _ (λ t v e. e))

  stated_below : (h : Heading) (s : Sentence) (subject : List Tree) (r : RawTree) → Below (stated ks h s subject (unplaced r)) (stated ks h s subject r)
  stated_below h (sentence.Beside t p) subject r = stem_below t _ _ (after_below subject _ _ (one_below _ _ (meant_below ks r p)))
  stated_below h (sentence.Ahead t p) subject r = stem_below t _ _ (front_below _ _ _ _ (meant_below ks r p) (λ v e. e))
  stated_below h (sentence.Members t p) subject r = members_below ks t p subject r
  stated_below h (sentence.Properties by) subject r = properties_below ks by r
  stated_below h sentence.Key subject r = key_below ks subject r
  stated_below h sentence.Fact subject r = fact_below subject r
  stated_below h sentence.Note subject r = note_below subject r
  stated_below h sentence.Word subject r = word_below subject h r
  stated_below h sentence.Wrong subject r = λ v e. absurd (cc)

  axiom_below : (h : Heading) (subject : List Tree) (part : RawPart) → Below (axiom_of ks h subject (unplaced_part part)) (axiom_of ks h subject part)
  unfolding axiom_of
  axiom_below h subject part = node_below _ _ (behind_below _ _ _ _ (meant_below ks part.notes place.Notes) (stated_below h (sentence_of h part.section) subject part.body))

  -- ---- items

  named_below : (r : RawTree) (p : Place) → Below (named ks (unplaced r) p) (named ks r p)
  named_below (raw at (what.Atom a) ts) p = atom_below ks at a p
  named_below (raw at (what.Word w) ts) p = λ v e. absurd (cc)
  named_below (raw at (what.Facet f) ts) p = λ v e. absurd (cc)
  named_below (raw at (what.Form f) ts) p = λ v e. absurd (cc)

  subject_below : (at : ℕ) (o : Option Place) (name : Option RawTree) → Below (subject_of ks 0 o (option_map unplaced name)) (subject_of ks at o name)
  subject_below at (Some p) (Some t) = one_below _ _ (named_below t p)
  subject_below at (Some p) None = λ v e. absurd (cc)
  subject_below at None (Some t) = λ v e. absurd (cc)
  subject_below at None None = λ v e. e

  -- each of a list is told where each of the other is
  abbrev AllBelow : List (Told Tree) → List (Told Tree) → Type 0
  AllBelow ys xs = Below (all_of ys) (all_of xs)

  both_below : (y x : Told Tree) (ys xs : List (Told Tree)) → Below y x → AllBelow ys xs → AllBelow (y ∷ ys) (x ∷ xs)
  both_below y x ys xs h k = front_below y x (all_of ys) (all_of xs) h k

  parts_below : (h : Heading) (subject : List Tree) (parts : List RawPart) (ys xs : List (Told Tree)) → AllBelow ys xs → AllBelow (map (axiom_of ks h subject) (map unplaced_part parts) ++ ys) (map (axiom_of ks h subject) parts ++ xs)
  parts_below h subject [] ys xs k = k
  parts_below h subject (part ∷ parts) ys xs k = both_below (axiom_of ks h subject (unplaced_part part)) (axiom_of ks h subject part) (map (axiom_of ks h subject) (map unplaced_part parts) ++ ys) (map (axiom_of ks h subject) parts ++ xs) (axiom_below h subject part) (parts_below h subject parts ys xs k)

  told_below : (ts : List Tree) (ys xs : List (Told Tree)) → AllBelow ys xs → AllBelow (map Ok ts ++ ys) (map Ok ts ++ xs)
  told_below [] ys xs k = k
  told_below (t ∷ ts) ys xs k = both_below (Ok t) (Ok t) (map Ok ts ++ ys) (map Ok ts ++ xs) (λ v e. e) (told_below ts ys xs k)

  joined_again : {X : Type 0} (xs ys zs : List X) → (xs ++ ys) ++ zs ≡ xs ++ (ys ++ zs)
  joined_again xs ys zs = append_assoc xs ys zs

  -- what an item says, in front of what others say
  said_below : (item : ItemTree) (y x : Told (List Tree)) (ys xs : List (Told Tree)) → Below y x → AllBelow ys xs → AllBelow (said_of ks (unplaced_item item) y ++ ys) (said_of ks item x ++ xs)
  said_below item (Err f) x ys xs h k = λ v e. absurd (cc)
  said_below item (Ok subject) x ys xs h k =
      let own = flat_map declaration_of subject in
      let there = told_below own (map (axiom_of ks item.heading subject) (map unplaced_part item.parts) ++ ys) (map (axiom_of ks item.heading subject) item.parts ++ xs) (parts_below item.heading subject item.parts ys xs k) in
      subst (λ (s : Told (List Tree)). AllBelow ((map Ok own ++ map (axiom_of ks item.heading subject) (map unplaced_part item.parts)) ++ ys) (said_of ks item s ++ xs)) (sym (h subject refl))
      (subst (λ (l : List (Told Tree)). AllBelow l ((map Ok own ++ map (axiom_of ks item.heading subject) item.parts) ++ xs)) (sym (joined_again (map Ok own) (map (axiom_of ks item.heading subject) (map unplaced_part item.parts)) ys))
      (subst (λ (l : List (Told Tree)). AllBelow (map Ok own ++ (map (axiom_of ks item.heading subject) (map unplaced_part item.parts) ++ ys)) l) (sym (joined_again (map Ok own) (map (axiom_of ks item.heading subject) item.parts) xs)) there))

  items_below : (items : List ItemTree) → AllBelow (flat_map (axioms_of ks) (map unplaced_item items)) (flat_map (axioms_of ks) items)
  unfolding axioms_of
  items_below [] = λ v e. e
  items_below (item ∷ items) = said_below item (subject_of ks 0 (name_place item.heading) (option_map unplaced item.name)) (subject_of ks item.at (name_place item.heading) item.name) (flat_map (axioms_of ks) (map unplaced_item items)) (flat_map (axioms_of ks) items) (subject_below item.at (name_place item.heading) item.name) (items_below items)

  -- ---- annotations of the ontology

  notes_each : (ts : List RawTree) (ys xs : List (Told Tree)) → AllBelow ys xs → AllBelow (all_at place.Note (meanings_of ks (map unplaced ts)) ++ ys) (all_at place.Note (meanings_of ks ts) ++ xs)
  notes_each [] ys xs k = k
  notes_each (t ∷ ts) ys xs k = both_below (meant ks (unplaced t) place.Note) (meant ks t place.Note) (all_at place.Note (meanings_of ks (map unplaced ts)) ++ ys) (all_at place.Note (meanings_of ks ts) ++ xs) (meant_below ks t place.Note) (notes_each ts ys xs k)

  note_list_below : (r : RawTree) (ys xs : List (Told Tree)) → AllBelow ys xs → AllBelow (annotations_of ks (unplaced r) ++ ys) (annotations_of ks r ++ xs)
  note_list_below (raw at (what.Form form.Notes) ts) ys xs k =
      subst (λ (rs : List RawTree). AllBelow (all_at place.Note (meanings_of ks rs) ++ ys) (all_at place.Note (meanings_of ks (list_of ts)) ++ xs)) (sym (list_unplaced ts)) (notes_each (list_of ts) ys xs k)
  note_list_below (raw at (what.Atom a) ts) ys xs k = λ v e. absurd (cc)
  note_list_below (raw at (what.Word w) ts) ys xs k = λ v e. absurd (cc)
  note_list_below (raw at (what.Facet f) ts) ys xs k = λ v e. absurd (cc)
  note_list_below (raw at (what.Form _) ts) ys xs k = λ v e. absurd (cc)

  notes_below : (ts : List RawTree) → AllBelow (flat_map (annotations_of ks) (map unplaced ts)) (flat_map (annotations_of ks) ts)
  notes_below [] = λ v e. e
  notes_below (t ∷ ts) = note_list_below t (flat_map (annotations_of ks) (map unplaced ts)) (flat_map (annotations_of ks) ts) (notes_below ts)

  -- ---- documents

  ontology_below : (h : Head) (n m ys xs : Told (List Tree)) → Below n m → Below ys xs → Below (ontology_with h n ys) (ontology_with h m xs)
  ontology_below h (Err f) m ys xs j k = λ v e. absurd (cc)
  ontology_below h (Ok ns) m (Err f) xs j k = λ v e. absurd (cc)
  ontology_below h (Ok ns) m (Ok ts) xs j k = λ v e. ap (λ (r : Told (List Tree)). ontology_with h r xs) (j ns refl) ∙ ap (λ (r : Told (List Tree)). ontology_with h (Ok ns) r) (k ts refl) ∙ e

  pub resolved_anywhere : (d : DocumentTree) (o : Ontology) → resolved ks (unplaced_document d) ≡ Ok o → resolved ks d ≡ Ok o
  unfolding resolved
  resolved_anywhere d o = ontology_below (head_in d.head) _ _ _ _ (notes_below d.notes) (items_below d.items) o
