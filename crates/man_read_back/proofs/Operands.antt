-- Properties, and what stands where an operand does: what begins with a name, and all else.
use Rattle.std.proofs.Common.{◌≡◌, ◌⊎◌, inl, inr, ℕ, suc, true, false, List, [], ◌∷◌, ◌++◌, codes, refl, sym, ap, subst}
use Rattle.std.specs.List.{AllByRecursion}
use Rattle.grammar.specs.declared.symbol.Symbol.{Symbol}
use Rattle.grammar.specs.declared.symbol.Symbol.TheVariants.{Act, Need, Rule}
use Rattle.man_grammar.specs.Acts.{act_number}
use Rattle.man_grammar.specs.ClassNumbers.{class_number, word_of}
use Rattle.man_grammar.specs.Page.{rule_number}
use Rattle.man_grammar.specs.Page.Rule.{behind_name, facets as facets_rule, filler, grouped, inverse as inverse_rule, inverse_name, literal as literal_rule, members as members_rule, name as name_rule, other_facets, other_member_individuals, other_member_literals, individual as individual_rule, positive as positive_rule, primary as primary_rule, property as property_rule, one_facet, restricted as restricted_rule, unnamed as unnamed_rule}
use Rattle.man_grammar.specs.declared.act.Act.TheVariants as act_named
use Rattle.man_grammar.specs.declared.class.Class.{Class}
use Rattle.man_grammar.specs.declared.class.Class.TheVariants as class
use Rattle.man_raw.specs.Raws.{RawTree, place_of, trees_of}
use Rattle.man_raw.specs.declared.form.Form.{Form}
use Rattle.man_raw.specs.declared.form.Form.TheVariants as form_named
use Rattle.man_raw.specs.declared.form.What.TheVariants as what
use Rattle.man_text.specs.Text.{behind, text}
use Rattle.man_text.specs.Undecided.{piece}
use Rattle.man_text.specs.Words.{Words, spaced, words_of}
use Rattle.man_text.proofs.WritableLaws.{IsCardinality, IsFacetPair, IsIndividual, IsLiteralPiece, IsName, IsNumber, IsProperty, IsQuantifier, IsValue}
use Rattle.man_text.proofs.WritableLaws.IsCardinality.{exactly, max, min}
use Rattle.man_text.proofs.WritableLaws.IsFacetPair.{facet_pair}
use Rattle.man_text.proofs.WritableLaws.IsName.{an_iri}
use Rattle.man_text.proofs.WritableLaws.IsProperty.{direct, inverse}
use Rattle.man_text.proofs.WritableLaws.IsQuantifier.{only_of, some_of}
use Rattle.owl_tokens.specs.declared.token.Sign.TheVariants as sign
use Rattle.man_read_back.proofs.Atoms.{says_facet, says_individual, says_literal, says_name, says_number, says_value}
use Rattle.man_read_back.proofs.Pieces.{comma, each_says, is_connective, less_room, nesting, onto, opening, put_all, room_inside, says_list, shut_all, shutting, spaced_word, unnesting, wrapping}
use Rattle.man_read_back.proofs.Reading.{by}
use Rattle.man_read_back.proofs.Said.{Goes, GoesOn, HasRoom, Point, Reader, Says, inside, nest, put}
use Rattle.man_read_back.proofs.Steps as steps
use Rattle.man_read_back.proofs.Stops.{Ends}
use Rattle.man_read_back.proofs.Words.{is_word_class, mark, word}

name_place : (t : RawTree) → IsName t → place_of t ≡ 0
name_place t (an_iri iri h) = refl

property_place : (t : RawTree) → IsProperty t → place_of t ≡ 0
property_place t (direct u h) = name_place u h
property_place t (inverse u h) = refl

-- What begins with a name, behind which the rule reads the rest of it.
pub record Named (r : Reader) (t : RawTree) (need : ℕ) : Type 0 where
  pub name : RawTree
  pub is_name : IsName name
  pub tail : List ℕ → List ℕ
  pub parts : (rest : List ℕ) → text r.written t rest ≡ text r.written name (tail rest)
  pub ends : (rest : List ℕ) → Ends rest → Ends (tail rest)
  pub reads : (p : Point) (ss : List Symbol) (rest : List ℕ) → Ends rest → HasRoom p need → GoesOn r ss (put t p) rest → GoesOn r (Rule (rule_number behind_name) ∷ ss) (put name p) (tail rest)

-- an operand, or what stands in place of one behind `not`
abbrev pub Positive : Reader → RawTree → ℕ → Type 0
Positive r t need = Named r t need ⊎ Says r (Rule (rule_number grouped) ∷ []) t need

-- the same with what `not` stands in front of
abbrev pub Primary : Reader → RawTree → ℕ → Type 0
Primary r t need = Named r t need ⊎ Says r (Rule (rule_number unnamed_rule) ∷ []) t need

-- the property stands in front of this, and is a part already
abbrev Restricts : Reader → RawTree → RawTree → ℕ → (List ℕ → List ℕ) → Type 0
Restricts r property t need tail =
    (p : Point) (ss : List Symbol) (rest : List ℕ) → Ends rest → HasRoom p need → GoesOn r ss (put t p) rest → GoesOn r (Rule (rule_number restricted_rule) ∷ ss) (put property p) (tail rest)

-- `some` and `only`, or `min`, `max` and `exactly`: the word, and the alternative that begins with it
record WordRow (r : Reader) (f : Form) (body : List Symbol) : Type 0 where
  class : Class
  is_word : is_word_class class ≡ true
  words : words_of f ≡ spaced class
  no_connective : is_connective f ≡ false
  begins : (ss : List Symbol) (p : Point) (form cs : List ℕ) → Goes r (Act (act_number act_named.Wrap) ∷ Act (act_number act_named.Nest) ∷ Need (class_number class) ∷ (body ++ (Act (act_number act_named.Unnest) ∷ Act (act_number (act_named.Shut f)) ∷ ss))) p form cs
      → Goes r (Rule (rule_number restricted_rule) ∷ ss) p form cs

module _ (r : Reader) where
  says_inverse : (t : RawTree) → IsName t → Says r (Rule (rule_number inverse_rule) ∷ []) (piece (what.Form form_named.Inverse) (t ∷ [])) 0
  unfolding words_of word_of
  says_inverse t h p ss rest ends few k form =
      by inverse_rule 0 refl (opening r p (word class.Inverse refl refl (steps.space refl (by inverse_name 0 refl
      (says_name r t h (inside [] p) _ rest ends few (λ f. shutting r form_named.Inverse refl (t ∷ []) p (k f)) form)))))

  pub says_property : (t : RawTree) → IsProperty t → Says r (Rule (rule_number property_rule) ∷ []) t 0
  says_property t (direct u h) p ss rest ends few k form = by property_rule 0 refl (says_name r u h p ss rest ends few k form)
  says_property t (inverse u h) p ss rest ends few k form = by property_rule 1 refl (says_inverse u h p ss rest ends few k form)

  -- ---- from what begins with a name to rules

  pub named_front : (t : RawTree) (need : ℕ) (n : Named r t need) (p : Point) (ss : List Symbol) (rest : List ℕ) → Ends rest → HasRoom p need → GoesOn r ss (put n.name p) (n.tail rest) → GoesOn r (Rule (rule_number name_rule) ∷ ss) p (text r.written t rest)
  named_front t need n p ss rest ends few k form =
      subst (Goes r (Rule (rule_number name_rule) ∷ ss) p form) (sym (n.parts rest)) (says_name r n.name n.is_name p ss (n.tail rest) (n.ends rest ends) (less_room p need few) k form)

  pub says_positive : (t : RawTree) (need : ℕ) → Positive r t need → Says r (Rule (rule_number positive_rule) ∷ []) t need
  says_positive t need (inl n) p ss rest ends few k form = by positive_rule 0 refl (named_front t need n p (Rule (rule_number behind_name) ∷ ss) rest ends few (n.reads p ss rest ends few k) form)
  says_positive t need (inr s) p ss rest ends few k form = by positive_rule 1 refl (s p ss rest ends few k form)

  pub says_primary : (t : RawTree) (need : ℕ) → Primary r t need → Says r (Rule (rule_number primary_rule) ∷ []) t need
  says_primary t need (inl n) p ss rest ends few k form = by primary_rule 0 refl (named_front t need n p (Rule (rule_number behind_name) ∷ ss) rest ends few (n.reads p ss rest ends few k) form)
  says_primary t need (inr s) p ss rest ends few k form = by primary_rule 1 refl (s p ss rest ends few k form)

  pub to_primary : (t : RawTree) (need : ℕ) → Positive r t need → Primary r t need
  to_primary t need (inl n) = inl n
  to_primary t need (inr s) = inr (λ p ss rest ends few k form. by unnamed_rule 0 refl (s p ss rest ends few k form))

  -- ---- operands

  pub of_name : (t : RawTree) (need : ℕ) → IsName t → Positive r t need
  of_name t need h = inl (record {
    name = t;
    is_name = h;
    tail = λ rest. rest;
    parts = λ rest. refl;
    ends = λ rest ends. ends;
    reads = λ p ss rest ends few k form. by behind_name 0 refl (k form);
  })

  -- the end of a list in braces
  closing : (t : RawTree) (p : Point) (ss : List Symbol) (form rest : List ℕ) → Goes r ss (put t p) form rest → Goes r (Act (act_number act_named.Unnest) ∷ Need (class_number class.CloseBrace) ∷ ss) (put t (nest p)) form (codes "}" ++ rest)
  closing t p ss form rest k = unnesting r (put t p) (mark sign.CloseBrace (codes "}") refl refl k)

  pub of_individuals : (t : RawTree) (ts : List RawTree) (n : ℕ) → AllByRecursion IsIndividual (t ∷ ts) → Positive r (piece (what.Form form_named.Individuals) (t ∷ ts)) (suc n)
  unfolding words_of
  of_individuals t ts n h = inr (λ p ss rest ends few k form.
      let item = Rule (rule_number individual_rule) ∷ [] in
      by grouped 1 refl (opening r p (nesting r (inside [] p) n few (mark sign.OpenBrace (codes "{") refl refl (by members_rule 0 refl
      (says_list r (rule_number other_member_individuals) (codes ", ") item n (λ q tt f cs g. by other_member_individuals 1 refl (comma r g)) (λ cs. refl) t ts
      (each_says r item n IsIndividual (says_individual r) (t ∷ ts) h) (inside [] (nest p)) ss (codes "}" ++ rest) refl (room_inside p n few)
      (λ f. by other_member_individuals 0 refl (shut_all r form_named.Individuals refl (t ∷ ts) (nest p) (closing (piece (what.Form form_named.Individuals) (t ∷ ts)) p ss f rest (k f)))) form))))))

  pub of_literals : (t : RawTree) (ts : List RawTree) (n : ℕ) → AllByRecursion IsLiteralPiece (t ∷ ts) → Positive r (piece (what.Form form_named.Literals) (t ∷ ts)) (suc n)
  unfolding words_of
  of_literals t ts n h = inr (λ p ss rest ends few k form.
      let item = Rule (rule_number literal_rule) ∷ [] in
      by grouped 1 refl (opening r p (nesting r (inside [] p) n few (mark sign.OpenBrace (codes "{") refl refl (by members_rule 1 refl
      (says_list r (rule_number other_member_literals) (codes ", ") item n (λ q tt f cs g. by other_member_literals 1 refl (comma r g)) (λ cs. refl) t ts
      (each_says r item n IsLiteralPiece (says_literal r) (t ∷ ts) h) (inside [] (nest p)) ss (codes "}" ++ rest) refl (room_inside p n few)
      (λ f. by other_member_literals 0 refl (shut_all r form_named.Literals refl (t ∷ ts) (nest p) (closing (piece (what.Form form_named.Literals) (t ∷ ts)) p ss f rest (k f)))) form))))))

  -- ---- restrictions of datatypes

  abbrev facet_symbols : List Symbol
  facet_symbols = Act (act_number act_named.Open) ∷ Rule (rule_number one_facet) ∷ Rule (rule_number literal_rule) ∷ Act (act_number (act_named.Shut form_named.FacetPair)) ∷ []

  says_facet_pair : (t : RawTree) → IsFacetPair t → Says r facet_symbols t 0
  unfolding words_of
  says_facet_pair t (facet_pair f u h) p ss rest ends few k form =
      opening r p (says_facet r f (inside [] p) _ (codes " " ++ text r.written u rest) refl few
      (λ g. steps.space refl (says_literal r u h (inside (piece (what.Facet f) [] ∷ []) p) _ rest ends few (λ i. shutting r form_named.FacetPair refl (u ∷ piece (what.Facet f) [] ∷ []) p (k i)) g)) form)

  pub of_facets : (name t : RawTree) (ts : List RawTree) (n : ℕ) → IsName name → AllByRecursion IsFacetPair (t ∷ ts) → Positive r (piece (what.Form form_named.Restricted) (name ∷ t ∷ ts)) (suc n)
  unfolding words_of
  of_facets name t ts n h hs = inl (record {
    name = name;
    is_name = h;
    tail = λ rest. codes "[" ++ text r.written t (behind r.written (codes ", ") (codes ", ") (trees_of ts) (codes "]" ++ rest));
    parts = λ rest. refl;
    ends = λ rest ends. refl;
    reads = λ p ss rest ends few k form.
        by behind_name 2 refl (wrapping r name (name_place name h) p (nesting r (inside (name ∷ []) p) n few (mark sign.OpenBracket (codes "[") refl refl (by facets_rule 0 refl
        (says_list r (rule_number other_facets) (codes ", ") facet_symbols n (λ q tt f cs g. by other_facets 1 refl (comma r (by facets_rule 0 refl g))) (λ cs. refl) t ts
        (each_says r facet_symbols n IsFacetPair says_facet_pair (t ∷ ts) hs) (inside (name ∷ []) (nest p)) _ (codes "]" ++ rest) refl (room_inside p n few)
        (λ f. by other_facets 0 refl (shut_all r form_named.Restricted refl (name ∷ t ∷ ts) (nest p)
        (unnesting r (put (piece (what.Form form_named.Restricted) (name ∷ t ∷ ts)) p) (mark sign.CloseBracket (codes "]") refl refl (k f))))) form)))));
  })

  -- ---- restrictions of properties

  of_property : (property t : RawTree) (need : ℕ) → IsProperty property → (tail : List ℕ → List ℕ) → ((rest : List ℕ) → text r.written t rest ≡ text r.written property (tail rest)) → ((rest : List ℕ) → Ends (tail rest))
      → Restricts r property t need tail → Positive r t need
  of_property property t need (direct u h) tail parts ends reads = inl (record {
    name = u;
    is_name = h;
    tail = tail;
    parts = parts;
    ends = λ rest e. ends rest;
    reads = λ p ss rest e few k form. by behind_name 1 refl (reads p ss rest e few k form);
  })
  of_property property t need (inverse u h) tail parts ends reads = inr (λ p ss rest e few k form.
      by grouped 0 refl (subst (Goes r (Rule (rule_number inverse_rule) ∷ Rule (rule_number restricted_rule) ∷ ss) p form) (sym (parts rest))
      (says_inverse u h p (Rule (rule_number restricted_rule) ∷ ss) (tail rest) (ends rest) (less_room p need few) (reads p ss rest e few k) form)))

  pub of_value : (property t : RawTree) (n : ℕ) → IsProperty property → IsValue t → Positive r (piece (what.Form form_named.HasValue) (property ∷ t ∷ [])) n
  unfolding words_of word_of
  of_value property t n h v = of_property property (piece (what.Form form_named.HasValue) (property ∷ t ∷ [])) n h (λ rest. codes " value " ++ text r.written t rest) (λ rest. refl) (λ rest. refl) (λ p ss rest ends few k form.
      by restricted_rule 2 refl (wrapping r property (property_place property h) p (spaced_word r class.Value refl
      (says_value r t v (inside (property ∷ []) p) _ rest ends (less_room p n few) (λ f. shutting r form_named.HasValue refl (t ∷ property ∷ []) p (k f)) form))))

  pub of_self : (property : RawTree) (n : ℕ) → IsProperty property → Positive r (piece (what.Form form_named.HasSelf) (property ∷ [])) n
  unfolding words_of word_of
  of_self property n h = of_property property (piece (what.Form form_named.HasSelf) (property ∷ [])) n h (λ rest. codes " Self" ++ rest) (λ rest. refl) (λ rest. refl) (λ p ss rest ends few k form.
      by restricted_rule 3 refl (wrapping r property (property_place property h) p (steps.space refl (word class.SelfWord refl ends (shutting r form_named.HasSelf refl (property ∷ []) p (k form))))))

  -- a property, a word, and what stands behind it
  of_word : (f : Form) (body : List Symbol) → WordRow r f body → (property t : RawTree) (ts : List RawTree) (n : ℕ) → IsProperty property
      → ((p : Point) (ss : List Symbol) (rest : List ℕ) → Ends rest → HasRoom p n → GoesOn r ss (put_all (t ∷ ts) p) rest → GoesOn r (body ++ ss) p (text r.written t (behind r.written (codes " ") (codes " ") (trees_of ts) rest)))
      → Positive r (piece (what.Form f) (property ∷ t ∷ ts)) (suc n)
  of_word f body row property t ts n h says =
      let tail = λ (rest : List ℕ). (spaced row.class).first ++ text r.written t (behind r.written (codes " ") (codes " ") (trees_of ts) rest) in
      of_property property (piece (what.Form f) (property ∷ t ∷ ts)) (suc n) h tail
      (λ rest. ap (λ (w : Words). w.front ++ text r.written property (behind r.written w.first w.others (trees_of (t ∷ ts)) (w.last ++ rest))) row.words) (λ rest. refl) (λ p ss rest ends few k form.
      row.begins ss (put property p) form (tail rest) (wrapping r property (property_place property h) p (nesting r (inside (property ∷ []) p) n few (spaced_word r row.class row.is_word
      (says (inside (property ∷ []) (nest p)) (Act (act_number act_named.Unnest) ∷ Act (act_number (act_named.Shut f)) ∷ ss) rest ends (room_inside p n few)
      (λ g. unnesting r (inside (onto (property ∷ t ∷ ts) []) p) (shut_all r f row.no_connective (property ∷ t ∷ ts) p (k g))) form)))))

  quantifier_row : (f : Form) → IsQuantifier f → WordRow r f (Rule (rule_number primary_rule) ∷ [])
  unfolding words_of
  quantifier_row f some_of = record { class = class.Some; is_word = refl; words = refl; no_connective = refl; begins = λ ss p form cs k. by restricted_rule 0 refl k }
  quantifier_row f only_of = record { class = class.Only; is_word = refl; words = refl; no_connective = refl; begins = λ ss p form cs k. by restricted_rule 1 refl k }

  pub of_quantified : (f : Form) (property t : RawTree) (n : ℕ) → IsQuantifier f → IsProperty property → Primary r t n → Positive r (piece (what.Form f) (property ∷ t ∷ [])) (suc n)
  of_quantified f property t n q h o = of_word f (Rule (rule_number primary_rule) ∷ []) (quantifier_row f q) property t [] n h (says_primary t n o)

  -- a number, which may stand alone
  abbrev counting : List Symbol
  counting = Act (act_number act_named.Number) ∷ Need (class_number class.Digits) ∷ Rule (rule_number filler) ∷ []

  cardinality_row : (f : Form) → IsCardinality f → WordRow r f counting
  unfolding words_of
  cardinality_row f min = record { class = class.Min; is_word = refl; words = refl; no_connective = refl; begins = λ ss p form cs k. by restricted_rule 4 refl k }
  cardinality_row f max = record { class = class.Max; is_word = refl; words = refl; no_connective = refl; begins = λ ss p form cs k. by restricted_rule 5 refl k }
  cardinality_row f exactly = record { class = class.Exactly; is_word = refl; words = refl; no_connective = refl; begins = λ ss p form cs k. by restricted_rule 6 refl k }

  pub of_counted : (f : Form) (property number : RawTree) (n : ℕ) → IsCardinality f → IsProperty property → IsNumber number → Positive r (piece (what.Form f) (property ∷ number ∷ [])) (suc n)
  of_counted f property number n q h m = of_word f counting (cardinality_row f q) property number [] n h (λ p ss rest ends few k.
      says_number r number m p (Rule (rule_number filler) ∷ ss) rest ends (less_room p n few) (λ g. by filler 0 refl (k g)))

  pub of_counted_of : (f : Form) (property number t : RawTree) (n : ℕ) → IsCardinality f → IsProperty property → IsNumber number → Primary r t n → Positive r (piece (what.Form f) (property ∷ number ∷ t ∷ [])) (suc n)
  of_counted_of f property number t n q h m o = of_word f counting (cardinality_row f q) property number (t ∷ []) n h (λ p ss rest ends few k.
      says_number r number m p (Rule (rule_number filler) ∷ ss) (codes " " ++ text r.written t rest) refl (less_room p n few)
      (λ g. steps.space refl (by filler 1 refl (says_primary t n o (put number p) ss rest ends few k g))))
