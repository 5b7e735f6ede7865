-- Lists, as they stand in sections and behind the keywords of items that are no frames, are read as they were written.
use Rattle.std.proofs.Common.{◌≡◌, ℕ, Bool, true, false, List, [], ◌∷◌, ◌++◌, codes, refl, sym, subst}
use Rattle.std.specs.List.{AllByRecursion}
use Rattle.grammar.specs.declared.symbol.Symbol.{Symbol}
use Rattle.grammar.specs.declared.symbol.Symbol.TheVariants.{Act, Need, Rule}
use Rattle.man_grammar.specs.Acts.{act_number}
use Rattle.man_grammar.specs.ClassNumbers.{class_number}
use Rattle.man_grammar.specs.Page.{rule_number}
use Rattle.man_grammar.specs.Page.Rule.{expression as expression_rule, expressions, fact as fact_rule, individual as individual_rule, individuals as individuals_rule, name as name_rule, one_characteristic, other_expressions, other_individuals, other_keys, other_links, other_properties, properties, property as property_rule}
use Rattle.man_grammar.specs.declared.act.Act.TheVariants as act_named
use Rattle.man_grammar.specs.declared.class.Class.TheVariants as class
use Rattle.man_raw.specs.Raws.{RawTree, more, raw, trees_of}
use Rattle.man_raw.specs.declared.form.Characteristic.TheVariants as characteristic
use Rattle.man_raw.specs.declared.form.Form.TheVariants as form_named
use Rattle.man_raw.specs.declared.form.What.TheVariants as what
use Rattle.man_raw.specs.declared.heading.Section.{Section}
use Rattle.man_raw.specs.declared.heading.Section.TheVariants as section
use Rattle.man_text.specs.Text.{behind, body_text, text}
use Rattle.man_text.specs.Undecided.{piece}
use Rattle.man_text.specs.Words.{characteristic_class, list_gap, spaced}
use Rattle.man_text.proofs.WritableLaws.{IsExpression, IsFact, IsFunctional, IsIndividual, IsKeyList, IsList, IsName, IsOperand, IsProperty, IsWord}
use Rattle.man_text.proofs.WritableLaws.IsCardinality.{exactly, max, min}
use Rattle.man_text.proofs.WritableLaws.IsConnective.{and, or}
use Rattle.man_text.proofs.WritableLaws.IsExpression.{alone, connected, counted, counted_of, not_of, quantified, self_of, value_of}
use Rattle.man_text.proofs.WritableLaws.IsFact.{pair}
use Rattle.man_text.proofs.WritableLaws.IsFunctional.{functional}
use Rattle.man_text.proofs.WritableLaws.IsKeyList.{keys}
use Rattle.man_text.proofs.WritableLaws.IsList.{members}
use Rattle.man_text.proofs.WritableLaws.IsName.{an_iri}
use Rattle.man_text.proofs.WritableLaws.IsOperand.{bracket, individuals, literals, of_name as just_name, restricted}
use Rattle.man_text.proofs.WritableLaws.IsProperty.{direct, inverse}
use Rattle.man_text.proofs.WritableLaws.IsQuantifier.{only_of, some_of}
use Rattle.man_text.proofs.WritableLaws.IsWord.{a_word}
use Rattle.owl_atom.specs.declared.prefixes.Prefix.{Prefix}
use Rattle.man_read_back.proofs.Atoms.{says_individual, says_name}
use Rattle.man_read_back.proofs.Expressions.{says_expression}
use Rattle.man_read_back.proofs.Notes.{assertion_symbols, says_assertion, says_fact, says_negative}
use Rattle.man_read_back.proofs.Operands.{says_property}
use Rattle.man_read_back.proofs.Pieces.{comma, each_as, each_says, opening, put_all, says_list, shut_all, spaced_word, with_room}
use Rattle.man_read_back.proofs.Reading.{act, by}
use Rattle.man_read_back.proofs.Said.{Goes, GoesOn, HasRoom, Point, Reader, Says, inside, put}
use Rattle.man_read_back.proofs.Steps as steps
use Rattle.man_read_back.proofs.Stops.{Ends}
use Rattle.man_read_back.proofs.Words.{word}

-- the symbols read what stands in the section
abbrev pub SaysBody : Reader → Section → List Symbol → RawTree → ℕ → Type 0
SaysBody r s symbols t need = (p : Point) (ss : List Symbol) (rest : List ℕ) → Ends rest → HasRoom p need → GoesOn r ss (put t p) rest → GoesOn r (symbols ++ ss) p (body_text r.written s t rest)

-- ---- what is no list is written as it stands

is_list : RawTree → Bool
is_list (raw at (what.Form form_named.List) (more t ts)) = true
is_list t = false

plain_body : (prefixes : List Prefix) (s : Section) (t : RawTree) (rest : List ℕ) → is_list t ≡ false → body_text prefixes s t rest ≡ text prefixes t rest
unfolding is_list
plain_body prefixes s (raw at (what.Form form_named.List) (more t ts)) rest h = absurd (cc)
plain_body prefixes s t rest h = refl

name_is_none : {t : RawTree} → IsName t → is_list t ≡ false
unfolding is_list
name_is_none (an_iri iri h) = refl

property_is_none : {t : RawTree} → IsProperty t → is_list t ≡ false
unfolding is_list
property_is_none (direct t h) = name_is_none h
property_is_none (inverse t h) = refl

operand_is_none : {n : ℕ} {t : RawTree} → IsOperand n t → is_list t ≡ false
unfolding is_list
operand_is_none (just_name n t h) = name_is_none h
operand_is_none (individuals n t ts h) = refl
operand_is_none (literals n t ts h) = refl
operand_is_none (restricted n name t ts h hs) = refl
operand_is_none (bracket n t h) = refl

expression_is_none : {n : ℕ} {t : RawTree} → IsExpression n t → is_list t ≡ false
unfolding is_list
expression_is_none (alone n t h) = operand_is_none h
expression_is_none (connected n f t u ts or hs) = refl
expression_is_none (connected n f t u ts and hs) = refl
expression_is_none (not_of n t h) = refl
expression_is_none (quantified n f property t some_of h o) = refl
expression_is_none (quantified n f property t only_of h o) = refl
expression_is_none (value_of n property t h v) = refl
expression_is_none (self_of n property h) = refl
expression_is_none (counted n f property number min h m) = refl
expression_is_none (counted n f property number max h m) = refl
expression_is_none (counted n f property number exactly h m) = refl
expression_is_none (counted_of n f property number t min h m o) = refl
expression_is_none (counted_of n f property number t max h m o) = refl
expression_is_none (counted_of n f property number t exactly h m o) = refl

-- the symbols of what has no rule of its own

abbrev pub chain_symbols : List Symbol
chain_symbols = Act (act_number act_named.Open) ∷ Rule (rule_number property_rule) ∷ Need (class_number class.Composed) ∷ Rule (rule_number property_rule) ∷ Rule (rule_number other_links) ∷ []

abbrev pub key_symbols : List Symbol
key_symbols = Act (act_number act_named.Open) ∷ Rule (rule_number property_rule) ∷ Rule (rule_number other_keys) ∷ []

abbrev pub functional_symbols : List Symbol
functional_symbols = Act (act_number (act_named.Word characteristic.Functional)) ∷ Need (class_number class.Functional) ∷ []

module _ (r : Reader) where
  module _ (item between : Symbol) (others : ℕ) (gap : List ℕ) (gap_ends : (cs : List ℕ) → Ends (gap ++ cs))
      (enter : (p : Point) (ss : List Symbol) (form cs : List ℕ) → Goes r ss p form cs → Goes r (between ∷ ss) p form (gap ++ cs))
      (more : (p : Point) (ss : List Symbol) (form cs : List ℕ) → Goes r (between ∷ item ∷ Rule others ∷ ss) p form cs → Goes r (Rule others ∷ ss) p form cs)
      (end : (p : Point) (ss : List Symbol) (form cs : List ℕ) → Goes r (Act (act_number (act_named.Shut form_named.List)) ∷ ss) p form cs → Goes r (Rule others ∷ ss) p form cs) where
    says_members : (n : ℕ) (Each : RawTree → Type 0) → ((t : RawTree) → Each t → Says r (item ∷ []) t n) → (t u : RawTree) (ts : List RawTree) → AllByRecursion Each (t ∷ u ∷ ts) → (p : Point) (ss : List Symbol) (rest : List ℕ) → Ends rest → HasRoom p n
        → GoesOn r ss (put (piece (what.Form form_named.List) (t ∷ u ∷ ts)) p) rest
        → GoesOn r (Act (act_number act_named.Open) ∷ item ∷ between ∷ item ∷ Rule others ∷ ss) p (text r.written t (behind r.written gap gap (trees_of (u ∷ ts)) rest))
    says_members n Each says t u ts h p ss rest ends few k form =
        let step = λ (q : Point) (symbols : List Symbol) (g cs : List ℕ) (go : Goes r (item ∷ Rule others ∷ symbols) q g cs). more q symbols g (gap ++ cs) (enter q (item ∷ Rule others ∷ symbols) g cs go) in
        let after = text r.written u (behind r.written gap gap (trees_of ts) rest) in
        opening r p (says t h.0 (inside [] p) (between ∷ item ∷ Rule others ∷ ss) (gap ++ after) (gap_ends after) few
        (λ f. enter (inside (t ∷ []) p) (item ∷ Rule others ∷ ss) f after
        (says_list r others gap (item ∷ []) n step gap_ends u ts (each_as Each (λ v. Says r (item ∷ []) v n) says (u ∷ ts) h.1) (inside (t ∷ []) p) ss rest ends few
        (λ g. end (put_all (u ∷ ts) (inside (t ∷ []) p)) ss g rest (shut_all r form_named.List refl (t ∷ u ∷ ts) p (k g))) f)) form)

  -- ---- lists by their rules

  by_gap : (s : Section) (gap : List ℕ) (ss : List Symbol) (p : Point) (form : List ℕ) (t : RawTree) (ts : List RawTree) (rest : List ℕ) → list_gap s ≡ gap
      → Goes r ss p form (text r.written t (behind r.written gap gap (trees_of ts) rest)) → Goes r ss p form (body_text r.written s (piece (what.Form form_named.List) (t ∷ ts)) rest)
  by_gap s gap ss p form t ts rest e k = subst (λ (g : List ℕ). Goes r ss p form (text r.written t (behind r.written g g (trees_of ts) rest))) (sym e) k

  pub says_expressions : (n : ℕ) (s : Section) (t : RawTree) → list_gap s ≡ codes ", " → IsList (IsExpression n) t → SaysBody r s (Rule (rule_number expressions) ∷ []) t n
  says_expressions n s t e (members a b ts h) p ss rest ends few k form =
      by_gap s (codes ", ") (Rule (rule_number expressions) ∷ ss) p form a (b ∷ ts) rest e (by expressions 0 refl
      (says_members (Rule (rule_number expression_rule)) (Need (class_number class.Comma)) (rule_number other_expressions) (codes ", ") (λ cs. refl)
      (λ q symbols g cs go. comma r go) (λ q symbols g cs go. by other_expressions 1 refl go) (λ q symbols g cs go. by other_expressions 0 refl go)
      n (IsExpression n) (λ u x. says_expression r x) a b ts h p ss rest ends few k form))

  pub says_properties : (n : ℕ) (s : Section) (t : RawTree) → list_gap s ≡ codes ", " → IsList IsProperty t → SaysBody r s (Rule (rule_number properties) ∷ []) t n
  says_properties n s t e (members a b ts h) p ss rest ends few k form =
      by_gap s (codes ", ") (Rule (rule_number properties) ∷ ss) p form a (b ∷ ts) rest e (by properties 0 refl
      (says_members (Rule (rule_number property_rule)) (Need (class_number class.Comma)) (rule_number other_properties) (codes ", ") (λ cs. refl)
      (λ q symbols g cs go. comma r go) (λ q symbols g cs go. by other_properties 1 refl go) (λ q symbols g cs go. by other_properties 0 refl go)
      n IsProperty (λ u x. with_room r (Rule (rule_number property_rule) ∷ []) u n (says_property r u x)) a b ts h p ss rest ends few k form))

  pub says_individuals : (n : ℕ) (s : Section) (t : RawTree) → list_gap s ≡ codes ", " → IsList IsIndividual t → SaysBody r s (Rule (rule_number individuals_rule) ∷ []) t n
  says_individuals n s t e (members a b ts h) p ss rest ends few k form =
      by_gap s (codes ", ") (Rule (rule_number individuals_rule) ∷ ss) p form a (b ∷ ts) rest e (by individuals_rule 0 refl
      (says_members (Rule (rule_number individual_rule)) (Need (class_number class.Comma)) (rule_number other_individuals) (codes ", ") (λ cs. refl)
      (λ q symbols g cs go. comma r go) (λ q symbols g cs go. by other_individuals 1 refl go) (λ q symbols g cs go. by other_individuals 0 refl go)
      n IsIndividual (λ u x. with_room r (Rule (rule_number individual_rule) ∷ []) u n (says_individual r u x)) a b ts h p ss rest ends few k form))

  pub says_chain : (n : ℕ) (t : RawTree) → IsList IsProperty t → SaysBody r section.SubPropertyChain chain_symbols t n
  unfolding list_gap
  says_chain n t (members a b ts h) p ss rest ends few k form =
      says_members (Rule (rule_number property_rule)) (Need (class_number class.Composed)) (rule_number other_links) (spaced class.Composed).first (λ cs. refl)
      (λ q symbols g cs go. spaced_word r class.Composed refl go) (λ q symbols g cs go. by other_links 1 refl go) (λ q symbols g cs go. by other_links 0 refl go)
      n IsProperty (λ u x. with_room r (Rule (rule_number property_rule) ∷ []) u n (says_property r u x)) a b ts h p ss rest ends few k form

  pub says_keys : (n : ℕ) (t : RawTree) → IsKeyList t → SaysBody r section.HasKey key_symbols t n
  unfolding list_gap
  says_keys n t (keys a ts h) p ss rest ends few k form =
      let item = Rule (rule_number property_rule) ∷ [] in
      opening r p (says_list r (rule_number other_keys) (codes " ") item n (λ q symbols g cs go. steps.space refl (by other_keys 1 refl go)) (λ cs. refl) a ts
      (each_says r item n IsProperty (says_property r) (a ∷ ts) h) (inside [] p) ss rest ends few
      (λ g. by other_keys 0 refl (shut_all r form_named.List refl (a ∷ ts) p (k g))) form)

  -- ---- what is no list

  plainly : (s : Section) (symbols : List Symbol) (t : RawTree) (need : ℕ) → is_list t ≡ false → Says r symbols t need → SaysBody r s symbols t need
  plainly s symbols t need h says p ss rest ends few k form = subst (Goes r (symbols ++ ss) p form) (sym (plain_body r.written s t rest h)) (says p ss rest ends few k form)

  pub body_expression : (n : ℕ) (s : Section) (t : RawTree) → IsExpression n t → SaysBody r s (Rule (rule_number expression_rule) ∷ []) t n
  body_expression n s t h = plainly s (Rule (rule_number expression_rule) ∷ []) t n (expression_is_none h) (says_expression r h)

  pub body_property : (n : ℕ) (s : Section) (t : RawTree) → IsProperty t → SaysBody r s (Rule (rule_number property_rule) ∷ []) t n
  body_property n s t h = plainly s (Rule (rule_number property_rule) ∷ []) t n (property_is_none h) (with_room r (Rule (rule_number property_rule) ∷ []) t n (says_property r t h))

  pub body_name : (n : ℕ) (s : Section) (t : RawTree) → IsName t → SaysBody r s (Rule (rule_number name_rule) ∷ []) t n
  body_name n s t h = plainly s (Rule (rule_number name_rule) ∷ []) t n (name_is_none h) (with_room r (Rule (rule_number name_rule) ∷ []) t n (says_name r t h))

  pub says_functional : (n : ℕ) (s : Section) (t : RawTree) → IsFunctional t → SaysBody r s functional_symbols t n
  unfolding characteristic_class
  says_functional n s t functional p ss rest ends few k form = act refl (λ x. refl) (word class.Functional refl ends (k form))

  pub says_characteristic : (n : ℕ) (s : Section) (t : RawTree) → IsWord t → SaysBody r s (Rule (rule_number one_characteristic) ∷ []) t n
  unfolding characteristic_class
  says_characteristic n s t (a_word characteristic.Functional) p ss rest ends few k form = by one_characteristic 0 refl (act refl (λ x. refl) (word class.Functional refl ends (k form)))
  says_characteristic n s t (a_word characteristic.InverseFunctional) p ss rest ends few k form = by one_characteristic 1 refl (act refl (λ x. refl) (word class.InverseFunctional refl ends (k form)))
  says_characteristic n s t (a_word characteristic.Reflexive) p ss rest ends few k form = by one_characteristic 2 refl (act refl (λ x. refl) (word class.Reflexive refl ends (k form)))
  says_characteristic n s t (a_word characteristic.Irreflexive) p ss rest ends few k form = by one_characteristic 3 refl (act refl (λ x. refl) (word class.Irreflexive refl ends (k form)))
  says_characteristic n s t (a_word characteristic.Symmetric) p ss rest ends few k form = by one_characteristic 4 refl (act refl (λ x. refl) (word class.Symmetric refl ends (k form)))
  says_characteristic n s t (a_word characteristic.Asymmetric) p ss rest ends few k form = by one_characteristic 5 refl (act refl (λ x. refl) (word class.Asymmetric refl ends (k form)))
  says_characteristic n s t (a_word characteristic.Transitive) p ss rest ends few k form = by one_characteristic 6 refl (act refl (λ x. refl) (word class.Transitive refl ends (k form)))

  fact_is_none : {t : RawTree} → IsFact form_named.Fact t → is_list t ≡ false
  unfolding is_list
  fact_is_none (pair f property value h v) = refl

  negative_is_none : {t : RawTree} → IsFact form_named.NegativeFact t → is_list t ≡ false
  unfolding is_list
  negative_is_none (pair f property value h v) = refl

  assertion_is_none : {t : RawTree} → IsFact form_named.Assertion t → is_list t ≡ false
  unfolding is_list
  assertion_is_none (pair f property value h v) = refl

  pub body_fact : (s : Section) (t : RawTree) → IsFact form_named.Fact t → SaysBody r s (Rule (rule_number fact_rule) ∷ []) t 0
  body_fact s t h = plainly s (Rule (rule_number fact_rule) ∷ []) t 0 (fact_is_none h) (says_fact r t h)

  pub body_negative : (s : Section) (t : RawTree) → IsFact form_named.NegativeFact t → SaysBody r s (Rule (rule_number fact_rule) ∷ []) t 1
  body_negative s t h = plainly s (Rule (rule_number fact_rule) ∷ []) t 1 (negative_is_none h) (says_negative r t h)

  pub body_assertion : (s : Section) (t : RawTree) → IsFact form_named.Assertion t → SaysBody r s assertion_symbols t 0
  body_assertion s t h = plainly s assertion_symbols t 0 (assertion_is_none h) (says_assertion r t h)
