-- Bytes that are a whole document have no defect, whatever the syntax.
use Rattle.std.proofs.Common.{◌≡◌, ℕ, true, List, [], ◌∷◌, ◌++◌, length, map, None, Some, append-nil, refl, sym, ap, ◌∙◌, subst}
use Rattle.std.proofs.lemmas.List.{map-append}
use Rattle.grammar.specs.Derivations.{Derives, Event}
use Rattle.grammar.specs.Derivations.Event.{Do}
use Rattle.grammar.specs.Grammars.{Entry, has_rule}
use Rattle.grammar.specs.Lowering.{lower}
use Rattle.grammar.proofs.LoweringLaws.{lowered}
use Rattle.grammar.specs.Predictions.{IsPredictive}
use Rattle.grammar.specs.declared.symbol.Symbol.TheVariants.{Rule}
use Rattle.owl_lexer.specs.declared.placed.Placed.{Placed}
use Rattle.owl_reader.specs.Defects.{Begin, HasDefect, IsRefused}
use Rattle.owl_reader.specs.Defects.HasDefect.{at_end, at_token, no_token}
use Rattle.owl_reader.specs.Defects.IsRefused.{barred, wrong_end, wrong_token}
use Rattle.owl_reader.specs.Following.{MayFollow}
use Rattle.owl_reader.proofs.OneDefectLaws.{ComeOneWay, Fronts, fronts, never_taken}
use Rattle.owl_reader.proofs.OneDefectLaws.Fronts.{alike, later, sooner}
use Rattle.owl_reader.specs.Readings.{IsRead}
use Rattle.owl_reader.proofs.SameStepsLaws.{same_acts_next, same_steps}
use Rattle.owl_reader.specs.Standing.{Ends}
use Rattle.owl_reader.specs.Steps.{Step, events_of, plain, tokens_in}
use Rattle.owl_reader.specs.Syntaxes.{Rules}
use Rattle.owl_reader.specs.declared.fault.ReadFault.{ReadFault}

acts_lowered : {T : Type 0} (class : T → ℕ) (acts : List ℕ) → map (lower class) (map Do acts) ≡ map Do acts
acts_lowered class [] = refl
acts_lowered class (a ∷ acts) = ap (λ (l : List (Event ℕ)). Do a ∷ l) (acts_lowered class acts)

-- ---- a token

token_is_right : {T : Type 0} {g : List Entry} {rules : Rules T} → IsPredictive g → has_rule g rules.document ≡ true → (steps document : List (Step T)) (p : Placed T) (others : List (Placed T)) (r : ReadFault) → Begin g rules document → IsRefused g rules steps p.at (Some p) r → Fronts steps (p ∷ others) document [] → ⊥
token_is_right predicts known steps document p others r begin refused (alike tokens e) = cc
token_is_right {T = T} {g = g} {rules = rules} predicts known steps document p others r begin refused (sooner front s back parts tokens first) =
    let same : p ≡ s.token = cc in
    never_taken predicts known steps front s back tokens (subst (Begin g rules) parts begin)
    (subst (λ (q : Placed T). IsRefused g rules steps q.at (Some q) r) same refused)
token_is_right predicts known steps document p others r begin refused (later front s back parts tokens e) = cc

module _ {T S : Type 0} {g : List Entry} {rules : Rules T} {Whole : List (Step T) → List ℕ → S → Type 0} {made : S} (predicts : IsPredictive g) (known : has_rule g rules.document ≡ true) where
  -- ---- the classes of a document

  ends_derive : (steps : List (Step T)) (ends : Ends g rules Whole made steps) → Derives g (Rule rules.document ∷ []) (map rules.class (plain steps)) (map (lower rules.class) (events_of steps) ++ map Do ends.acts)
  ends_derive steps ends =
      subst (Derives g (Rule rules.document ∷ []) (map rules.class (plain steps)))
      (map-append (lower rules.class) (events_of steps) (map Do ends.acts)
      ∙ ap (λ (l : List (Event ℕ)). map (lower rules.class) (events_of steps) ++ l) (acts_lowered rules.class ends.acts))
      (lowered ends.derives)

  pub ends_follow : (steps : List (Step T)) (ends : Ends g rules Whole made steps) → MayFollow g rules (events_of steps) ends.acts None
  ends_follow steps ends = record {
    classes = map rules.class (plain steps);
    rest = [];
    derives =
        subst (λ (l : List (Event ℕ)). Derives g (Rule rules.document ∷ []) (map rules.class (plain steps)) (map (lower rules.class) (events_of steps) ++ l))
        (sym (append-nil (map Do ends.acts))) (ends_derive steps ends);
    comes = refl;
  }

  pub read_begins : {spells : T → List ℕ → Type 0} {bytes : List ℕ} (d : IsRead spells g rules Whole bytes made) → Begin g rules d.steps
  read_begins d = record {
    more = [];
    rest = map Do d.ends.acts;
    derives =
        subst (λ (l : List ℕ). Derives g (Rule rules.document ∷ []) l (map (lower rules.class) (events_of d.steps) ++ map Do d.ends.acts))
        (sym (append-nil (map rules.class (plain d.steps)))) (ends_derive d.steps d.ends);
    none_barred = d.none_barred;
  }

  -- ---- the end

  end_is_right : (steps : List (Step T)) (at : ℕ) (r : ReadFault) → Ends g rules Whole made steps → IsRefused g rules steps at None r → ⊥
  end_is_right steps at r ends (wrong_token p begins e never b is) = cc
  end_is_right steps at r ends (wrong_end begins e never b is) =
      never (map (lower rules.class) (events_of steps) ++ map Do ends.acts) (ends_derive steps ends)
  end_is_right steps at r ends (barred acts f some may bars is) =
      let same = same_acts_next predicts known steps None may (ends_follow steps ends) in
      ends.free f (subst (λ (l : List ℕ). rules.Bars steps l None f) same bars)

  -- ---- the law

  pub read_has_no_defect : {spells : T → List ℕ → Type 0} → ComeOneWay spells → (bytes : List ℕ) (r : ReadFault) → IsRead spells g rules Whole bytes made → HasDefect spells g rules bytes r → ⊥
  read_has_no_defect come bytes r d (at_token steps p others ending splits begin refused) =
      let same = (come bytes (tokens_in steps ++ p ∷ others) (tokens_in d.steps) ending None splits d.splits).0 in
      token_is_right predicts known steps d.steps p others r (read_begins d) refused
      (fronts steps (p ∷ others) d.steps [] (same ∙ sym (append-nil (tokens_in d.steps))))
  read_has_no_defect come bytes r d (at_end steps splits begin refused) =
      let tokens = (come bytes (tokens_in d.steps) (tokens_in steps) None None d.splits splits).0 in
      let same = same_steps predicts known d.steps steps tokens (read_begins d) begin in
      end_is_right steps (length bytes) r (subst (Ends g rules Whole made) same d.ends) refused
  read_has_no_defect come bytes r d (no_token steps lexing splits begin is) =
      let none = (come bytes (tokens_in steps) (tokens_in d.steps) (Some lexing) None splits d.splits).1 in
      cc
