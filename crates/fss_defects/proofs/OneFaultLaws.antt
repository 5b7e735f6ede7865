-- Acts that can't be done in front of a token can't for one reason, so bytes have one first defect.
use Rattle.std.proofs.Common.{◌≡◌, ◌≤◌, ◌⊎◌, inl, inr, ℕ, List, [], ◌∷◌, length, Option, sym, ◌∙◌, subst}
use Rattle.owl_characters.specs.Limit.{most_bytes}
use Rattle.owl_lexer.proofs.OneWayLaws.{same_splits}
use Rattle.owl_reader.proofs.AlikeLaws.{first_defect_alike}
use Rattle.owl_reader.proofs.OneDefectLaws as defects
use Rattle.owl_reader.specs.Steps.{events_of, token_in}
use Rattle.owl_reader.specs.declared.fault.ReadFault.{ReadFault}
use Rattle.owl_reader.specs.declared.fault.TokenFault.{TokenFault}
use Rattle.owl_tokens.specs.FunctionalSpellingLaws.{functional_is_language}
use Rattle.owl_tokens.specs.FunctionalTable.{functional_automaton}
use Rattle.owl_tokens.specs.Tokens.{Spells}
use Rattle.owl_tokens.specs.Values.{value_of}
use Rattle.owl_tokens.specs.declared.token.Token.{Token}
use Rattle.owl_tree.specs.Rows.{Leaf, Row, row_of}
use Rattle.owl_tree.specs.declared.row.AtomSort.TheVariants as atom
use Rattle.fss_grammar.proofs.ActLaws.{same_act}
use Rattle.fss_grammar.specs.Doing.{Acts, prefixes_behind}
use Rattle.fss_grammar.specs.Making.{Maker, beginning}
use Rattle.fss_grammar.proofs.OneWayLaws.{acts_one_way, does_one_way}
use Rattle.fss_grammar.proofs.PageLaws.{page_to_table}
use Rattle.fss_grammar.specs.Table.{functional_is_predictive}
use Rattle.fss_grammar.specs.declared.acts.Act.{Act}
use Rattle.fss_grammar.specs.declared.acts.Act.TheVariants.{AddAnnotation, AddAxiom, Begin, DeclareIri, DeclareName, Hold, Shut, Typed}
use Rattle.fss_defects.specs.Faults.{Fails, FailsFirst, FailsLeaf, Told}
use Rattle.fss_defects.specs.FirstDefects.{IsFirstDefect}
use Rattle.fss_defects.specs.Rules.{functional_rules}
use Rattle.fss_defects.specs.StartLaws.{has_document}

-- ---- one act

leaf_fails_one_way : (row : Row) (next : Option Token) (m : Maker) (f g : TokenFault) → FailsLeaf row next m f → FailsLeaf row next m g → f ≡ g
leaf_fails_one_way (Leaf atom.Number) next m f g (inl h) (inl k) = h.0 ∙ sym k.0
leaf_fails_one_way (Leaf atom.Number) next m f g (inl h) (inr k) = absurd (k.1 h.1)
leaf_fails_one_way (Leaf atom.Number) next m f g (inr h) (inl k) = absurd (h.1 k.1)
leaf_fails_one_way (Leaf atom.Number) next m f g (inr h) (inr k) = h.0 ∙ sym k.0
leaf_fails_one_way _ next m f g h k = h.0 ∙ sym k.0

fails_one_way : (act : Act) (next : Option Token) (m : Maker) (f g : TokenFault) → Fails act next m f → Fails act next m g → f ≡ g
fails_one_way (Begin t) next m f g h k = leaf_fails_one_way (row_of t) next m f g h k
fails_one_way Hold next m f g h k = h.0 ∙ sym k.0
fails_one_way Shut next m f g h k = h.0 ∙ sym k.0
fails_one_way Typed next m f g h k = h.fault_is ∙ sym k.fault_is
fails_one_way DeclareName next m f g h k = h.0 ∙ sym k.0
fails_one_way DeclareIri next m f g h k = h.0 ∙ sym k.0
fails_one_way AddAnnotation next m f g h k = h.0 ∙ sym k.0
fails_one_way AddAxiom next m f g h k = h.0 ∙ sym k.0
fails_one_way _ next m f g h k = absurd h

-- ---- acts in turn

-- the act fails, or it is done and one behind it fails
FailsOrLater : Act → List ℕ → Option Token → Maker → TokenFault → Type 0
FailsOrLater act acts next m f =
    Fails act next m f ⊎ ((n : Maker) × Acts act next m n × ((g : TokenFault) → Fails act next m g → ⊥) × FailsFirst acts next n f)

later_one_way : (act : Act) (acts : List ℕ) (next : Option Token) (m : Maker) (f g : TokenFault) → ((n : Maker) → FailsFirst acts next n f → FailsFirst acts next n g → f ≡ g) → FailsOrLater act acts next m f → FailsOrLater act acts next m g → f ≡ g
unfolding FailsOrLater
later_one_way act acts next m f g later (inl h) (inl k) = fails_one_way act next m f g h k
later_one_way act acts next m f g later (inl h) (inr k) = absurd (k.2 f h)
later_one_way act acts next m f g later (inr h) (inl k) = absurd (h.2 g k)
later_one_way act acts next m f g later (inr h) (inr k) =
    let same = acts_one_way (prefixes_behind m.document.declarations) act next m k.0 h.0 k.1 h.1 in
    later h.0 h.3 (subst (λ (n : Maker). FailsFirst acts next n g) same k.3)

fails_first_one_way : (acts : List ℕ) (next : Option Token) (m : Maker) (f g : TokenFault) → FailsFirst acts next m f → FailsFirst acts next m g → f ≡ g
unfolding FailsOrLater
fails_first_one_way [] next m f g h k = absurd h
fails_first_one_way (a ∷ acts) next m f g h k =
    let same = same_act k.0 h.0 (k.1 ∙ sym h.1) in
    later_one_way h.0 acts next m f g (λ n. fails_first_one_way acts next n f g) h.2
    (subst (λ (act : Act). FailsOrLater act acts next m g) same k.2)

told_one_way : (acts : List ℕ) (next : Option Token) (m : Maker) (f g : TokenFault) → Told acts next m f → Told acts next m g → f ≡ g
told_one_way acts next m f g (inl h) (inl k) = h.1 ∙ sym k.1
told_one_way acts next m f g (inl h) (inr k) = absurd (k.0 h.0)
told_one_way acts next m f g (inr h) (inl k) = absurd (h.0 k.0)
told_one_way acts next m f g (inr h) (inr k) = fails_first_one_way acts next m f g h.1 k.1

pub bars_one_way : defects.BarOneWay functional_rules
bars_one_way steps acts next f g h k =
    let same = does_one_way (events_of steps) beginning k.maker h.maker k.does h.does in
    told_one_way acts (token_in next) h.maker f g h.told (subst (λ (m : Maker). Told acts (token_in next) m g) same k.told)

-- ---- the first defect

pub one_first_defect : (bytes : List ℕ) (fault other : ReadFault) → length bytes ≤ most_bytes → IsFirstDefect bytes fault → IsFirstDefect bytes other → fault ≡ other
one_first_defect bytes fault other few h k =
    let come = same_splits functional_automaton value_of Spells functional_is_language in
    defects.one_first_defect come functional_is_predictive has_document bars_one_way bytes fault other few
    (first_defect_alike page_to_table h) (first_defect_alike page_to_table k)
