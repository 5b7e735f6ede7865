-- Names, labels, literals, numbers and facets are read as they were written.
use Rattle.std.proofs.Common.{◌≡◌, ◌<◌, ◌+◌, ◌^◌, ◌%◌, ◌⊎◌, inl, inr, ℕ, Bool, true, false, Option, None, Some, Result, Ok, List, [], ◌∷◌, ◌++◌, codes, refl, sym, ap, ◌∙◌, subst, arith}
use Rattle.std.specs.Prelude.{if◌then◌else◌, nat_le, nat_lt}
use Rattle.std.specs.Char.{is_ascii_digit}
use Rattle.std.specs.Fmt.{decimal}
use Rattle.std.specs.List.{list_all}
use Rattle.std.specs.Option.{option_map}
use Rattle.std.proofs.lemmas.Bool.{and_from, le-leb}
use Rattle.std.proofs.lemmas.Fmt.{decimal_by_steps, decimal_is_IsNumeral}
use Rattle.std.proofs.lemmas.List.{append_assoc}
use Rattle.std.proofs.lemmas.Slice.Eq.{bytes_eq-Decides}
use Rattle.grammar.specs.declared.symbol.Symbol.{Symbol}
use Rattle.grammar.specs.declared.symbol.Symbol.TheVariants.{Act, Need, Rule}
use Rattle.man_grammar.specs.Classes.{class_of}
use Rattle.man_grammar.specs.Page.{rule_number}
use Rattle.lexical_values.proofs.TypedLiteralLaws.{denoted_is_found}
use Rattle.man_grammar.specs.Acts.{act_number}
use Rattle.man_grammar.specs.ClassNumbers.{class_number}
use Rattle.man_grammar.specs.Page.Rule.{individual as individual_rule, iri as iri_rule, literal as literal_rule, name as name_rule, name_word, one_facet, suffix, value as value_rule}
use Rattle.man_grammar.specs.States.{Names, and_then, iri_in, known_iri, known_literal, number_in, putting, typed_in, with_iri, with_literal}
use Rattle.man_grammar.specs.declared.act.Act.TheVariants as act_named
use Rattle.man_grammar.specs.declared.class.Class.TheVariants as class
use Rattle.man_raw.specs.Raws.{RawTree}
use Rattle.man_raw.specs.declared.form.Facet.{Facet}
use Rattle.man_raw.specs.declared.form.Facet.TheVariants as facet
use Rattle.man_raw.specs.declared.form.What.TheVariants as what
use Rattle.written_trees.specs.Atoms.{string_text}
use Rattle.man_text.specs.Words.{facet_text}
use Rattle.man_text.specs.Undecided.{piece}
use Rattle.man_text.proofs.WritableLaws.{IsIndividual, IsLiteralPiece, IsName, IsNumber, IsValue}
use Rattle.man_text.proofs.WritableLaws.IsIndividual.{labelled, named}
use Rattle.man_text.proofs.WritableLaws.IsLiteralPiece.{a_literal}
use Rattle.man_text.proofs.WritableLaws.IsName.{an_iri}
use Rattle.man_text.proofs.WritableLaws.IsNumber.{a_number}
use Rattle.man_text.proofs.WritableLaws.IsValue.{individual, literal}
use Rattle.owl_atom.specs.Prefixes.{IsPlainLocal}
use Rattle.owl_atom.specs.declared.prefixes.Prefix.{Prefix}
use Rattle.owl_characters.specs.Iri.{IsIri}
use Rattle.owl_characters.proofs.AllAreLaws.{AllAre-append, all_are}
use Rattle.owl_characters.specs.Names.{IsLabel, IsPrefixName, IsRunOf}
use Rattle.owl_characters.specs.Order.{text_eq}
use Rattle.owl_list.proofs.AscendingLaws.{all_in}
use Rattle.owl_reader.specs.declared.fault.TokenFault.{TokenFault}
use Rattle.owl_tokens.specs.ManchesterSpellings.{SpellsManchester}
use Rattle.owl_tokens.specs.declared.token.Sign.TheVariants as sign
use Rattle.owl_tokens.specs.declared.token.Token.{Token}
use Rattle.owl_tokens.specs.declared.token.Token.TheVariants as token
use Rattle.owl_tree.specs.declared.atom.Atom.TheVariants as atom
use Rattle.owl_writing.proofs.AbbreviationLaws.{IsAnswer, best_answer, cuts_fact}
use Rattle.owl_writing.proofs.PlainLocalLaws.{spells_plain}
use Rattle.owl_writing.specs.Abbreviations.{best_prefix, local_behind}
use Rattle.owl_writing.specs.Terms.{full_iri, iri_text, label_text, literal_end, shortened_by}
use Rattle.rdf_terms.specs.Literals.{FitsTag, LiteralParts, of_datatype, string}
use Rattle.man_read_back.proofs.Reading.{act, acted_by, by}
use Rattle.man_read_back.proofs.Said.{Goes, GoesOn, Point, Reader, Says, put, there}
use Rattle.man_read_back.proofs.Steps as steps
use Rattle.man_read_back.proofs.Stops.{Ends, longest_before_stop, longest_closed}
use Rattle.man_read_back.proofs.Words.{class_is, mark, mark_before, word}

-- one token, an IRI or a name with a local part, stands for the IRI
record IsIriToken (names : Names) (iri spelling : List ℕ) : Type 0 where
  token : Token
  spells : SpellsManchester token spelling
  stands : iri_in names (Some token) ≡ Ok iri
  class : (class_of token ≡ class_number class.IriRef) ⊎ (class_of token ≡ class_number class.Prefixed)

prefixed_class : (prefix local : List ℕ) → IsPlainLocal local → class_of (token.Name prefix local) ≡ class_number class.Prefixed
prefixed_class prefix [] h = absurd h
prefixed_class prefix (c ∷ cs) h = class_is (token.Name prefix (c ∷ cs))

digits_class : (digits : List ℕ) → list_all is_ascii_digit digits ≡ true → class_of (token.Int digits) ≡ class_number class.Digits
digits_class digits h = class_is (token.Int digits) ∙ ap (λ (b : Bool). class_number (if b then class.Digits else class.Signed)) h

-- ---- the digits of a number

run_behind : (cs : List ℕ) (c : ℕ) → is_ascii_digit c ≡ true → IsRunOf is_ascii_digit cs → IsRunOf is_ascii_digit (cs ++ c ∷ [])
run_behind [] c d h = absurd h
run_behind (x ∷ cs) c d h = AllAre-append is_ascii_digit (x ∷ cs) (c ∷ []) h (d, tt)

digit_at : (n : ℕ) → n < 10 → is_ascii_digit (48 + n) ≡ true
digit_at n h = and_from (nat_le 48 (48 + n)) (nat_le (48 + n) 57) (le-leb 48 (48 + n) (omega arith)) (le-leb (48 + n) 57 (omega arith))

decimal_run : (n : ℕ) → n < 2 ^ 64 → IsRunOf is_ascii_digit (decimal n)
decimal_run n h =
    decimal_by_steps (λ _ ds. IsRunOf is_ascii_digit ds) (λ m small. (digit_at m small, tt)) (λ m ds large k. run_behind ds (48 + m % 10) (digit_at (m % 10) (omega arith)) k) n h

run_passes : (cs : List ℕ) → IsRunOf is_ascii_digit cs → list_all is_ascii_digit cs ≡ true
run_passes [] h = absurd h
run_passes (c ∷ cs) h = (all_are is_ascii_digit (c ∷ cs)).1 h

decimal_digits : (n : ℕ) → n < 2 ^ 64 → list_all is_ascii_digit (decimal n) ≡ true
decimal_digits n h = run_passes (decimal n) (decimal_run n h)

lt_passes : (n : ℕ) → n < 2 ^ 64 → nat_lt n (2 ^ 64) ≡ true
lt_passes n h = le-leb _ _ h

decimal_number : (n : ℕ) → n < 2 ^ 64 → number_in (Some (token.Int (decimal n))) ≡ Ok n
decimal_number n h = rw (decimal_digits n h, (decimal_is_IsNumeral n h).1, lt_passes n h)

-- ---- IRIs

full_token : (names : Names) (iri : List ℕ) → IsIri iri → IsIriToken names iri (full_iri iri)
full_token names iri h = record { token = token.Iri iri; spells = (h, refl); stands = refl; class = inl (class_is (token.Iri iri)) }

module _ (r : Reader) where
  named_token : (iri : List ℕ) → IsIri iri → (best : Option Prefix) → IsAnswer iri r.written best → IsIriToken r.names iri (shortened_by best iri)
  named_token iri h None answer = full_token r.names iri h
  named_token iri h (Some prefix) answer =
      let cut = cuts_fact iri prefix answer.cut in
      let local = local_behind prefix iri in
      record {
        token = token.Name prefix.name local;
        spells = (local, all_in (λ (q : Prefix). IsPrefixName q.name) r.written prefix r.known.names answer.inside, spells_plain local cut.plain, refl);
        stands = ap (λ (o : Option (List ℕ)). known_iri (option_map (λ (front : List ℕ). front ++ local) o)) (r.known.each prefix answer.inside) ∙ ap Ok (sym cut.parts);
        class = inr (prefixed_class prefix.name local cut.plain);
      }

  iri_token : (iri : List ℕ) → IsIri iri → IsIriToken r.names iri (iri_text r.written iri)
  iri_token iri h = named_token iri h (best_prefix iri r.written) (best_answer iri r.written r.known.ascending)

  pub says_iri : (iri : List ℕ) → IsIri iri → Says r (Rule (rule_number name_rule) ∷ []) (piece (what.Atom (atom.Iri iri)) []) 0
  says_iri iri h p ss rest ends few k form =
      let one = iri_token iri h in
      let longest = longest_before_stop one.token (iri_text r.written iri) rest one.spells ends in
      let stands = ap (λ (i : Result (List ℕ) TokenFault). putting (there r p form) 0 (with_iri i)) one.stands in
      by name_rule 0 refl (elim one.class [
        | inl c ↦ acted_by name_word 0 refl one.token (iri_text r.written iri) one.spells longest c stands (k form)
        | inr c ↦ acted_by name_word 1 refl one.token (iri_text r.written iri) one.spells longest c stands (k form)
      ])

  pub says_name : (t : RawTree) → IsName t → Says r (Rule (rule_number name_rule) ∷ []) t 0
  says_name t (an_iri iri h) = says_iri iri h

  says_label : (label : List ℕ) → IsLabel label → Says r (Rule (rule_number individual_rule) ∷ []) (piece (what.Atom (atom.Label label)) []) 0
  says_label label h p ss rest ends few k form =
      let x = token.Blank label in
      by individual_rule 1 refl (steps.acted_token x (label_text label) (h, refl) (longest_before_stop x (label_text label) rest (h, refl) ends) (class_is x) refl (k form))

  pub says_individual : (t : RawTree) → IsIndividual t → Says r (Rule (rule_number individual_rule) ∷ []) t 0
  says_individual t (named u h) p ss rest ends few k form = by individual_rule 0 refl (says_name u h p ss rest ends few k form)
  says_individual t (labelled label h) p ss rest ends few k form = says_label label h p ss rest ends few k form

  -- ---- literals

  abbrev with_literal_put : Point → LiteralParts → Point
  with_literal_put p l = put (piece (what.Atom (atom.Literal l)) []) p

  says_typed : (lexical datatype : List ℕ) (b : Bool) → text_eq datatype string ≡ b → IsIri datatype → FitsTag None datatype → (p : Point) (ss : List Symbol) (rest : List ℕ) → Ends rest
      → GoesOn r ss (with_literal_put p (of_datatype lexical datatype)) rest → Goes r (Rule (rule_number suffix) ∷ ss) p lexical ((if b then [] else codes "^^" ++ iri_text r.written datatype) ++ rest)
  says_typed lexical datatype true t i fits p ss rest ends k =
      let same : datatype ≡ string = (bytes_eq-Decides datatype string).0 t in
      let is = ap (λ (d : List ℕ). Ok (there r (with_literal_put p (of_datatype lexical d)) lexical)) (sym same) in
      by suffix 0 refl (act is (λ x. is) (k lexical))
  says_typed lexical datatype false t i fits p ss rest ends k =
      let one = iri_token datatype i in
      let longest = longest_before_stop one.token (iri_text r.written datatype) rest one.spells ends in
      let found = denoted_is_found lexical datatype (of_datatype lexical datatype) (inr (fits.0, fits.1, refl)) in
      let stands =
      ap (λ (x : Result (List ℕ) TokenFault). putting (there r p lexical) 0 (with_literal (typed_in lexical x))) one.stands
      ∙ ap (λ (o : Option LiteralParts). putting (there r p lexical) 0 (with_literal (known_literal o))) found in
      by suffix 2 refl (mark sign.Carets (codes "^^") refl refl (elim one.class [
        | inl c ↦ acted_by iri_rule 0 refl one.token (iri_text r.written datatype) one.spells longest c stands (k lexical)
        | inr c ↦ acted_by iri_rule 1 refl one.token (iri_text r.written datatype) one.spells longest c stands (k lexical)
      ]))

  says_tag : (lexical datatype language : List ℕ) → FitsTag (Some language) datatype → (p : Point) (ss : List Symbol) (rest : List ℕ) → Ends rest
      → GoesOn r ss (with_literal_put p (record { lexical = lexical; datatype = datatype; tag = Some language })) rest → Goes r (Rule (rule_number suffix) ∷ ss) p lexical (codes "@" ++ (language ++ rest))
  says_tag lexical datatype language fits p ss rest ends k =
      let x = token.At language in
      let is = ap (λ (d : List ℕ). Ok (there r (with_literal_put p (record { lexical = lexical; datatype = d; tag = Some language })) lexical)) (sym fits.0) in
      by suffix 1 refl (steps.acted_token x (codes "@" ++ language) (fits.1, refl) (longest_before_stop x (codes "@" ++ language) rest (fits.1, refl) ends) (class_is x) is (k lexical))

  says_end : (lexical datatype : List ℕ) (language : Option (List ℕ)) → IsIri datatype → FitsTag language datatype → (p : Point) (ss : List Symbol) (rest : List ℕ) → Ends rest
      → GoesOn r ss (with_literal_put p (record { lexical = lexical; datatype = datatype; tag = language })) rest → Goes r (Rule (rule_number suffix) ∷ ss) p lexical (literal_end r.written datatype language ++ rest)
  says_end lexical datatype None i fits p ss rest ends k = says_typed lexical datatype (text_eq datatype string) refl i fits p ss rest ends k
  says_end lexical datatype (Some language) i fits p ss rest ends k = says_tag lexical datatype language fits p ss rest ends k

  pub says_literal : (t : RawTree) → IsLiteralPiece t → Says r (Rule (rule_number literal_rule) ∷ []) t 0
  says_literal t (a_literal l h) p ss rest ends few k form =
      let x = token.Str l.lexical in
      let behind = literal_end r.written l.datatype l.tag ++ rest in
      subst (Goes r (Rule (rule_number literal_rule) ∷ ss) p form) (sym (append_assoc (string_text l.lexical) (literal_end r.written l.datatype l.tag) rest))
      (by literal_rule 0 refl (steps.acted_token x (string_text l.lexical) refl (longest_closed x (string_text l.lexical) behind refl refl) (class_is x) refl
      (says_end l.lexical l.datatype l.tag h.datatype h.tag p ss rest ends k)))

  pub says_value : (t : RawTree) → IsValue t → Says r (Rule (rule_number value_rule) ∷ []) t 0
  says_value t (individual u h) p ss rest ends few k form = by value_rule 0 refl (says_individual u h p ss rest ends few k form)
  says_value t (literal u h) p ss rest ends few k form = by value_rule 1 refl (says_literal u h p ss rest ends few k form)

  -- ---- numbers and facets

  pub says_number : (t : RawTree) → IsNumber t → Says r (Act (act_number act_named.Number) ∷ Need (class_number class.Digits) ∷ []) t 0
  says_number t (a_number n h) p ss rest ends few k form =
      let x = token.Int (decimal n) in
      let spelled : SpellsManchester x (decimal n) = (inl (decimal_run n h), refl) in
      let is = ap (λ (i : Result ℕ TokenFault). putting (there r p form) 0 (and_then i (λ m. Ok (atom.Number m)))) (decimal_number n h) in
      steps.acted_token x (decimal n) spelled (longest_before_stop x (decimal n) rest spelled ends) (digits_class (decimal n) (decimal_digits n h)) is (k form)

  pub says_facet : (f : Facet) → Says r (Rule (rule_number one_facet) ∷ []) (piece (what.Facet f) []) 0
  unfolding facet_text
  says_facet facet.AtMost p ss rest ends few k form = by one_facet 0 refl (act refl (λ x. refl) (mark_before sign.AtMost (codes "<=") refl ends (k form)))
  says_facet facet.LessThan p ss rest ends few k form = by one_facet 1 refl (act refl (λ x. refl) (mark_before sign.Less (codes "<") refl ends (k form)))
  says_facet facet.AtLeast p ss rest ends few k form = by one_facet 2 refl (act refl (λ x. refl) (mark_before sign.AtLeast (codes ">=") refl ends (k form)))
  says_facet facet.MoreThan p ss rest ends few k form = by one_facet 3 refl (act refl (λ x. refl) (mark_before sign.Greater (codes ">") refl ends (k form)))
  says_facet facet.Length p ss rest ends few k form = by one_facet 4 refl (act refl (λ x. refl) (word class.Length refl ends (k form)))
  says_facet facet.MinLength p ss rest ends few k form = by one_facet 5 refl (act refl (λ x. refl) (word class.MinLength refl ends (k form)))
  says_facet facet.MaxLength p ss rest ends few k form = by one_facet 6 refl (act refl (λ x. refl) (word class.MaxLength refl ends (k form)))
  says_facet facet.Pattern p ss rest ends few k form = by one_facet 7 refl (act refl (λ x. refl) (word class.Pattern refl ends (k form)))
  says_facet facet.LangRange p ss rest ends few k form = by one_facet 8 refl (act refl (λ x. refl) (word class.LangRange refl ends (k form)))
