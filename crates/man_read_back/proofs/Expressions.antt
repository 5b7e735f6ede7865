-- Expressions are read as they were written.
use Rattle.std.proofs.Common.{inl, inr, ℕ, suc, List, [], ◌∷◌, ◌++◌, codes, refl}
use Rattle.std.specs.List.{AllByRecursion}
use Rattle.grammar.specs.declared.symbol.Symbol.{Symbol}
use Rattle.grammar.specs.declared.symbol.Symbol.TheVariants.{Rule}
use Rattle.man_grammar.specs.ClassNumbers.{word_of}
use Rattle.man_grammar.specs.Page.{rule_number}
use Rattle.man_grammar.specs.Page.Rule.{behind_first_name, conjunction, expression as expression_rule, grouped, other_conjuncts, other_operands, primary as primary_rule, unnamed as unnamed_rule}
use Rattle.man_grammar.specs.declared.class.Class.TheVariants as class
use Rattle.man_raw.specs.Raws.{RawTree, trees_of}
use Rattle.man_raw.specs.declared.form.Form.{Form}
use Rattle.man_raw.specs.declared.form.Form.TheVariants as form_named
use Rattle.man_raw.specs.declared.form.What.TheVariants as what
use Rattle.man_text.specs.Text.{behind, text}
use Rattle.man_text.specs.Undecided.{piece}
use Rattle.man_text.specs.Words.{spaced, words_of}
use Rattle.man_text.proofs.WritableLaws.{AreOperands, IsConnective, IsExpression, IsOperand}
use Rattle.man_text.proofs.WritableLaws.AreOperands.{no_operands, operand}
use Rattle.man_text.proofs.WritableLaws.IsConnective.{and, or}
use Rattle.man_text.proofs.WritableLaws.IsExpression.{alone, connected, counted, counted_of, not_of, quantified, self_of, value_of}
use Rattle.man_text.proofs.WritableLaws.IsOperand.{bracket, individuals, literals, of_name as just_name, restricted}
use Rattle.owl_tokens.specs.declared.token.Sign.TheVariants as sign
use Rattle.man_read_back.proofs.Operands.{Positive, Primary, named_front, of_counted, of_counted_of, of_facets, of_individuals, of_literals, of_name, of_quantified, of_self, of_value, says_positive, says_primary, to_primary}
use Rattle.man_read_back.proofs.Pieces.{each_as, nesting, opening, room_inside, says_list, says_others, shutting, shutting_more, shutting_one, spaced_word, unnesting}
use Rattle.man_read_back.proofs.Reading.{by}
use Rattle.man_read_back.proofs.Said.{Goes, GoesOn, HasRoom, Point, Reader, Says, inside, nest, put}
use Rattle.man_read_back.proofs.Steps as steps
use Rattle.man_read_back.proofs.Stops.{Ends}
use Rattle.man_read_back.proofs.Words.{mark, word}

module _ (r : Reader) where
  of_not : (t : RawTree) (n : ℕ) → Positive r t n → Primary r (piece (what.Form form_named.Not) (t ∷ [])) (suc n)
  unfolding words_of word_of
  of_not t n o = inr (λ p ss rest ends few k form.
      by unnamed_rule 1 refl (opening r p (nesting r (inside [] p) n few (word class.Not refl refl (steps.space refl
      (says_positive r t n o (inside [] (nest p)) _ rest ends (room_inside p n few) (λ f. unnesting r (inside (t ∷ []) p) (shutting r form_named.Not refl (t ∷ []) p (k f))) form))))))

  of_bracket : (t : RawTree) (n : ℕ) → Says r (Rule (rule_number expression_rule) ∷ []) t n → Positive r (piece (what.Form form_named.Bracket) (t ∷ [])) (suc n)
  unfolding words_of
  of_bracket t n s = inr (λ p ss rest ends few k form.
      by grouped 2 refl (opening r p (nesting r (inside [] p) n few (mark sign.Open (codes "(") refl refl
      (s (inside [] (nest p)) _ (codes ")" ++ rest) refl (room_inside p n few)
      (λ f. shutting r form_named.Bracket refl (t ∷ []) (nest p) (unnesting r (put (piece (what.Form form_named.Bracket) (t ∷ [])) p) (mark sign.Close (codes ")") refl refl (k f)))) form)))))

  -- ---- operands of `and` and `or`

  abbrev gap_and : List ℕ
  gap_and = (spaced class.And).first

  abbrev gap_or : List ℕ
  gap_or = (spaced class.Or).first

  -- the first operand, in a frame of its own
  says_first : (t : RawTree) (n : ℕ) → Primary r t n → (p : Point) (ss : List Symbol) (rest : List ℕ) → Ends rest → HasRoom p n → GoesOn r (Rule (rule_number other_conjuncts) ∷ ss) (inside (t ∷ []) p) rest
      → GoesOn r (Rule (rule_number conjunction) ∷ ss) p (text r.written t rest)
  says_first t n (inl m) p ss rest ends few k form =
      by conjunction 0 refl (opening r p (named_front r t n m (inside [] p) (Rule (rule_number behind_first_name) ∷ ss) rest ends few
      (λ f. by behind_first_name 1 refl (m.reads (inside [] p) (Rule (rule_number other_conjuncts) ∷ ss) rest ends few k f)) form))
  says_first t n (inr s) p ss rest ends few k form =
      by conjunction 1 refl (opening r p (s (inside [] p) (Rule (rule_number other_conjuncts) ∷ ss) rest ends few k form))

  says_conjunction : (t : RawTree) (n : ℕ) → Primary r t n → Says r (Rule (rule_number conjunction) ∷ []) t n
  says_conjunction t n o p ss rest ends few k = says_first t n o p ss rest ends few (λ f. by other_conjuncts 0 refl (shutting_one r form_named.And refl t p (k f)))

  says_alone : (t : RawTree) (n : ℕ) → Primary r t n → Says r (Rule (rule_number expression_rule) ∷ []) t n
  says_alone t n o p ss rest ends few k form =
      by expression_rule 0 refl (opening r p (says_conjunction t n o (inside [] p) (Rule (rule_number other_operands) ∷ ss) rest ends few
      (λ f. by other_operands 0 refl (shutting_one r form_named.Or refl t p (k f))) form))

  says_connected : (f : Form) (t u : RawTree) (ts : List RawTree) (n : ℕ) → IsConnective f → AllByRecursion (λ t. Primary r t n) (t ∷ u ∷ ts) → Says r (Rule (rule_number expression_rule) ∷ []) (piece (what.Form f) (t ∷ u ∷ ts)) n
  unfolding words_of
  says_connected f t u ts n and h p ss rest ends few k form =
      let step = λ (q : Point) (symbols : List Symbol) (g cs : List ℕ) (go : Goes r (Rule (rule_number primary_rule) ∷ Rule (rule_number other_conjuncts) ∷ symbols) q g cs). by other_conjuncts 1 refl (spaced_word r class.And refl go) in
      by expression_rule 0 refl (opening r p (says_first t n h.0 (inside [] p) (Rule (rule_number other_operands) ∷ ss) (behind r.written gap_and gap_and (trees_of (u ∷ ts)) rest) refl few
      (says_others r (rule_number other_conjuncts) gap_and (Rule (rule_number primary_rule) ∷ []) n step (λ cs. refl) (u ∷ ts) (each_as (λ v. Primary r v n) (λ v. Says r (Rule (rule_number primary_rule) ∷ []) v n) (λ v x. says_primary r v n x) (u ∷ ts) h.1) (inside (t ∷ []) (inside [] p)) (Rule (rule_number other_operands) ∷ ss) rest ends few
      (λ g. by other_conjuncts 0 refl (shutting_more r form_named.And refl t u ts (inside [] p) (by other_operands 0 refl (shutting_one r form_named.Or refl (piece (what.Form form_named.And) (t ∷ u ∷ ts)) p (k g)))))) form))
  says_connected f t u ts n or h p ss rest ends few k form =
      let step = λ (q : Point) (symbols : List Symbol) (g cs : List ℕ) (go : Goes r (Rule (rule_number conjunction) ∷ Rule (rule_number other_operands) ∷ symbols) q g cs). by other_operands 1 refl (spaced_word r class.Or refl go) in
      by expression_rule 0 refl (opening r p (says_list r (rule_number other_operands) gap_or (Rule (rule_number conjunction) ∷ []) n step (λ cs. refl) t (u ∷ ts) (each_as (λ v. Primary r v n) (λ v. Says r (Rule (rule_number conjunction) ∷ []) v n) (λ v x. says_conjunction v n x) (t ∷ u ∷ ts) h) (inside [] p) ss rest ends few
      (λ g. by other_operands 0 refl (shutting_more r form_named.Or refl t u ts p (k g))) form))

  -- ---- all of them

  mutual
    pub says_operand : {n : ℕ} {t : RawTree} → IsOperand n t → Positive r t n
    says_operand (just_name n t h) = of_name r t n h
    says_operand (individuals n t ts h) = of_individuals r t ts n h
    says_operand (literals n t ts h) = of_literals r t ts n h
    says_operand (restricted n name t ts h hs) = of_facets r name t ts n h hs
    says_operand (bracket n t h) = of_bracket t n (says_expression h)

    say_operands : {n : ℕ} {ts : List RawTree} → AreOperands n ts → AllByRecursion (λ t. Primary r t n) ts
    say_operands (no_operands n) = tt
    say_operands (operand n t ts h hs) = (to_primary r t n (says_operand h), say_operands hs)

    pub says_expression : {n : ℕ} {t : RawTree} → IsExpression n t → Says r (Rule (rule_number expression_rule) ∷ []) t n
    says_expression (alone n t h) = says_alone t n (to_primary r t n (says_operand h))
    says_expression (connected n f t u ts c hs) = says_connected f t u ts n c (say_operands hs)
    says_expression (not_of n t h) = says_alone (piece (what.Form form_named.Not) (t ∷ [])) (suc n) (of_not t n (says_operand h))
    says_expression (quantified n f property t q h o) = says_alone _ (suc n) (to_primary r _ (suc n) (of_quantified r f property t n q h (to_primary r t n (says_operand o))))
    says_expression (value_of n property t h v) = says_alone _ n (to_primary r _ n (of_value r property t n h v))
    says_expression (self_of n property h) = says_alone _ n (to_primary r _ n (of_self r property n h))
    says_expression (counted n f property number q h m) = says_alone _ (suc n) (to_primary r _ (suc n) (of_counted r f property number n q h m))
    says_expression (counted_of n f property number t q h m o) = says_alone _ (suc n) (to_primary r _ (suc n) (of_counted_of r f property number t n q h m (to_primary r t n (says_operand o))))
