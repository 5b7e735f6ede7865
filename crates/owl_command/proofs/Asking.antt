-- Words that ask for something.
use Rattle.std.proofs.Common.{Result, Ok, Err, ◌≡◌, ◌≢◌, ◌<◌, ◌≤◌, ◌-◌, ◌+◌, ◌↔◌, inl, inr, ℕ, suc, IsTrue, Option, None, Some, IfNone, map, get_or, take, drop, length, arith, Bool, List, [], ◌∷◌, ◌++◌, codes, refl, ap, sym, ◌∙◌, subst}
use Rattle.std.specs.Prelude.{IsErrOf}
use Rattle.std.specs.Fmt.{decimal}
use Rattle.std.specs.Result.{IsErrAnd}
use Rattle.std.specs.List.{AllByRecursion}
use Rattle.std.specs.Str.{IsUtf8, chars, encode_utf8_all}
use Rattle.std.proofs.Math.Seq.{take-length}
use Rattle.std.proofs.lemmas.List.{map-append}
use Rattle.std.proofs.lemmas.Str.{chars-encodes, encodes-chars}
use Rattle.owl_characters.proofs.Characters.{scalars_of}
use Rattle.owl_characters.specs.Iri.{IsIri}
use Rattle.owl_command.specs.Commands.{AreNames, IsAmong, Asks, HasNoCommand, IsName, action_words, compares, flag_word, flag_words, of_main, tries}
use Rattle.owl_command.proofs.CommandsLaws.{action_ends, action_is_not_same, action_is_not_trial, actions_once, flags_front, option_is_no_name, trial_is_not_same, verb}
use Rattle.owl_command.specs.WordParts.{AreTwoNames, IsOneSize, IsStripped, NameAgainst, NameNoVerb, NameNone, NameNoneAgainst, NamesAction, NameWith, fault_of_iri}
use Rattle.owl_command.specs.declared.command.Action.{Action}
use Rattle.owl_command.specs.declared.command.Action.TheVariants.{Translate, Check, Show, Declare, Canon, Digest}
use Rattle.owl_command.specs.declared.command.Options.{Options}
use Rattle.owl_command.specs.declared.command.Profile.{Profile}
use Rattle.owl_command.specs.declared.command.Target.{Target}
use Rattle.owl_command.specs.declared.command.WordsFault.{WordsFault}
use Rattle.owl_command.specs.declared.command.WordsFault.TheVariants.{Words}
use Rattle.rdf_terms.specs.declared.fault.IriFault.{IriFault}
use Rattle.rdf_terms.specs.declared.fault.IriFault.TheVariants.{BadIri, Memory as IriMemory}

-- the first of some items, and those behind it
pub first_and : {X : Type 0} (text : X → List ℕ) (xs : List X) (x : X) → 0 < length xs → x ≡ get_or xs 0 x → map text xs ≡ text x ∷ map text (take (length xs - 1) (drop 1 xs))
first_and {X} text [] x h e = absurd (omega arith)
first_and {X} text (y ∷ ys) x h e =
    let n : suc (length ys) - 1 ≡ length ys = omega arith in
    ap (λ (z : X). text z ∷ map text ys) (sym e) ∙ ap (λ (zs : List X). text x ∷ map text zs) (sym (ap (λ (k : ℕ). take k ys) n ∙ take-length ys))

-- a name is among words, or it is the first of them
pub among_behind : (words others : List (List ℕ)) (first name : List ℕ) (found : Bool) → words ≡ first ∷ others → (name ≢ first) → IsTrue found ↔ IsAmong others name → IsTrue found ↔ IsAmong words name
among_behind words others first name found e n h =
    (λ t. subst (λ (ws : List (List ℕ)). IsAmong ws name) (sym e) (inr (h.0 t)), λ m. elim (subst (λ (ws : List (List ℕ)). IsAmong ws name) e m) [ inl f ↦ absurd (n f) | inr k ↦ h.1 k ])

-- one more word is a text
pub one_more : {X : Type 0} (text : X → List ℕ) (words : List X) (place : ℕ) (word : X) (texts new : List (List ℕ)) (t : List ℕ) → map encode_utf8_all texts ≡ map text (take place words) → new ≡ texts ++ t ∷ [] → encode_utf8_all t ≡ text word → take (place + 1) words ≡ take place words ++ word ∷ [] → map encode_utf8_all new ≡ map text (take (place + 1) words)
one_more text words place word texts new t h e f g =
    ap (map encode_utf8_all) e ∙ map-append encode_utf8_all texts (t ∷ []) ∙ ap (λ (x : List (List ℕ)). x ++ encode_utf8_all t ∷ []) h ∙ ap (λ (x : List ℕ). map text (take place words) ++ x ∷ []) f ∙ sym (map-append text (take place words) (word ∷ [])) ∙ ap (map text) (sym g)

pub if_none : {X : Type 0} (found : Option X) (P : Type 0) → P → IfNone found P
if_none None P p = p
if_none (Some x) P p = tt

-- Where two flags are stripped from words, names behind those of a base IRI are names behind those of options.
module _ (words behind others : List (List ℕ)) (partial guess : Bool) (s : IsStripped (codes "--partial") words partial behind) (t : IsStripped (codes "--guess") behind guess others) where
  pub named_with : (base : Option (List ℕ)) (names : List (List ℕ)) → NameAgainst others base names → NameWith words (record { partial = partial; guess = guess; base = base }) names
  named_with base names n =
      let options : Options = record { partial = partial; guess = guess; base = base } in
      record {
        right = record { named = n.right; based = n.absolute };
        are = s.are ∙ (ap (λ ws. flag_word (codes "--partial") partial ++ ws) (t.are ∙ ap (λ ws. flag_word (codes "--guess") guess ++ ws) n.are) ∙ sym (flags_front options names));
      }

  pub none_stripped : NameNone words → NameNoneAgainst others
  none_stripped none base names n = none (record { partial = partial; guess = guess; base = base }) names (named_with base names n)

-- which fault it is
pub err_is : {X E : Type 0} (y e : E) → IsErrOf {T = X} (Err y) e → y ≡ e
err_is y e h = cc

pub ok_is_none : {X E : Type 0} (x : X) (e : E) → IsErrOf (Ok x) e → ⊥
ok_is_none x e h = cc

-- a fault that is passed on
pub passed_on : {X : Type 0} (r : Result X WordsFault) (fault wanted : WordsFault) → IsErrAnd r (λ e. e ≡ fault) → fault ≡ wanted → IsErrOf r wanted
passed_on (Ok x) fault wanted e f = absurd e
passed_on (Err y) fault wanted e f = ap Err (e ∙ f)

pub passed_words : {X : Type 0} (r : Result X WordsFault) (fault : IriFault) → IsErrAnd r (λ e. e ≡ fault_of_iri fault) → IsErrOf r Words → fault ≡ BadIri
passed_words (Ok x) fault e f = absurd e
passed_words (Err y) BadIri e f = refl
passed_words (Err y) IriMemory e f = absurd (cc)

-- names without a base IRI
pub against_none : (names : List (List ℕ)) → AreNames names → NameAgainst names None names
against_none names right = record { right = right; absolute = tt; are = refl }

-- Names behind a word for their base IRI.
module _ (word : List ℕ) (utf8 : IsUtf8 word) (others : List (List ℕ)) where
  pub none_based : (IsIri (chars word) → ⊥) → NameNoneAgainst (codes "--base" ∷ word ∷ others)
  none_based none None names n = option_is_no_name (codes "-base") (word ∷ others) (subst (AllByRecursion IsName) (sym n.are) n.right.named)
  none_based none (Some iri) names n =
      let are = n.are in
      let bytes : encode_utf8_all iri ≡ word = cc in
      none (subst IsIri (sym (chars-encodes iri n.absolute.scalars) ∙ ap chars bytes) n.absolute.is)

  pub against_base : (iri : List ℕ) (names : List (List ℕ)) → iri ≡ chars word → IsIri iri → names ≡ others → AreNames others → NameAgainst (codes "--base" ∷ word ∷ others) (Some iri) names
  against_base iri names e is same right = record {
    right = subst AreNames (sym same) right;
    absolute = record { scalars = scalars_of word iri utf8 (sym e); is = is };
    are =
        let bytes : word ≡ encode_utf8_all iri = sym (ap encode_utf8_all e ∙ encodes-chars word utf8) in
        ap (λ ws. codes "--base" ∷ word ∷ ws) (sym same) ∙ ap (λ (w : List ℕ). codes "--base" ∷ w ∷ names) bytes;
  }

-- words that begin with those of no action
pub no_action : (words : List (List ℕ)) → ((target : Target) (others : List (List ℕ)) → words ≢ action_words (Translate target) ++ others) → ((profile : Profile) (others : List (List ℕ)) → words ≢ action_words (Check profile) ++ others) → ((target : Target) (others : List (List ℕ)) → words ≢ action_words (Declare target) ++ others) → NameNoVerb words → (action : Action) (others : List (List ℕ)) → words ≢ action_words action ++ others
no_action words t k d v (Translate target) others e = t target others e
no_action words t k d v (Check profile) others e = k profile others e
no_action words t k d v Show others e = v.show others e
no_action words t k d v (Declare target) others e = d target others e
no_action words t k d v Canon others e = v.canon others e
no_action words t k d v Digest others e = v.digest others e

pub none_more : {X : Type 0} (found : Option X) (P Q : Type 0) → (P → Q) → IfNone found P → IfNone found Q
none_more None P Q f p = f p
none_more (Some x) P Q f p = tt

-- what the words behind the first ones name is what the words ask for
module _ (words others : List (List ℕ)) where
  pub asks_action : (action : Action) (options : Options) (names : List (List ℕ)) → words ≡ action_words action ++ others → NameWith others options names → Asks words (of_main action options names)
  asks_action action options names e n =
      record { allowed = n.right; are = e ∙ ap (λ (ws : List (List ℕ)). action_words action ++ ws) n.are }

  pub no_names : (action : Action) → NamesAction words action others → NameNone others → HasNoCommand words
  no_names action e none (of_main other options names) a =
      let one = actions_once action other others (flag_words options ++ names) e.whole (action_ends names a.allowed.named.named other options) (sym e.are ∙ a.are) in
      none options names (record { right = a.allowed; are = one.1 })
  no_names action e none (compares first second) a =
      action_is_not_same action others (first ∷ second ∷ []) (sym e.are ∙ a.are)
  no_names action e none (tries size) a = action_is_not_trial action others (decimal size ∷ []) (sym e.are ∙ a.are)

  pub no_comparison : words ≡ codes "same" ∷ others → (AreTwoNames others → ⊥) → HasNoCommand words
  no_comparison e none (of_main action options names) a =
      action_is_not_same action (flag_words options ++ names) others (sym a.are ∙ e)
  no_comparison e none (compares first second) a =
      let are : others ≡ first ∷ second ∷ [] = cc in
      none (record { first = first; second = second; are = are; names = subst AreNames (sym are) a.allowed })
  no_comparison e none (tries size) a = trial_is_not_same (ap verb (sym a.are ∙ e))

  pub no_trial : words ≡ codes "trial" ∷ others → (IsOneSize others → ⊥) → HasNoCommand words
  no_trial e none (of_main action options names) a =
      action_is_not_trial action (flag_words options ++ names) others (sym a.are ∙ e)
  no_trial e none (compares first second) a = trial_is_not_same (ap verb (sym e ∙ a.are))
  no_trial e none (tries size) a =
      let are : others ≡ decimal size ∷ [] = cc in
      none (record { size = size; word = decimal size; are = are; is = record { allowed = a.allowed; written = refl } })

  pub names_no_action : (action : Action) → words ≡ action_words action ++ others → HasNoCommand words → NameNone others
  names_no_action action e none options names n = none (of_main action options names) (asks_action action options names e n)

  pub names_no_comparison : words ≡ codes "same" ∷ others → HasNoCommand words → AreTwoNames others → ⊥
  names_no_comparison e none two =
      none (compares two.first two.second) (record { allowed = subst AreNames two.are two.names; are = e ∙ ap (λ (ws : List (List ℕ)). codes "same" ∷ ws) two.are })

  pub names_no_trial : words ≡ codes "trial" ∷ others → HasNoCommand words → IsOneSize others → ⊥
  names_no_trial e none one =
      none (tries one.size) (record { allowed = one.is.allowed; are = e ∙ ap (λ (ws : List (List ℕ)). codes "trial" ∷ ws) (one.are ∙ ap (λ (w : List ℕ). w ∷ []) one.is.written) })

-- words that begin with none of these
pub no_verb : (words : List (List ℕ)) → ((action : Action) (others : List (List ℕ)) → words ≢ action_words action ++ others) → ((others : List (List ℕ)) → words ≢ codes "same" ∷ others) → ((others : List (List ℕ)) → words ≢ codes "trial" ∷ others) → HasNoCommand words
no_verb words a c t (of_main action options names) asks = a action (flag_words options ++ names) asks.are
no_verb words a c t (compares first second) asks = c (first ∷ second ∷ []) asks.are
no_verb words a c t (tries size) asks = t (decimal size ∷ []) asks.are

-- two words that are names
pub pair_asks : {X : Type 0} (text : X → List ℕ) (words : List X) (x y : X) (first second : List ℕ) → 2 ≤ length words → length words < 3 → x ≡ get_or words 0 x → y ≡ get_or words 1 y → encode_utf8_all first ≡ text x → encode_utf8_all second ≡ text y → AreNames (map text words) → Asks (codes "same" ∷ map text words) (compares (encode_utf8_all first) (encode_utf8_all second))
pair_asks text [] x y first second l m e f g h n = absurd (omega arith)
pair_asks text (a ∷ []) x y first second l m e f g h n = absurd (omega arith)
pair_asks text (a ∷ b ∷ []) x y first second l m e f g h n =
    let are : text a ∷ text b ∷ [] ≡ encode_utf8_all first ∷ encode_utf8_all second ∷ [] = cc in
    record { allowed = subst AreNames are n; are = ap (λ (ws : List (List ℕ)). codes "same" ∷ ws) are }
pair_asks text (a ∷ b ∷ c ∷ ws) x y first second l m e f g h n = absurd (omega arith)
