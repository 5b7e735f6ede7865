-- Documents are written just where they are done by the declarations before each name, and what can't be done isn't written.
use Rattle.std.proofs.Common.{◌≡◌, ◌↔◌, ℕ, true, false, List, [], ◌∷◌, ◌++◌, map, None, Option, Some, append-nil, append_assoc, refl, sym, ap, ◌∙◌, subst, subst₂}
use Rattle.std.proofs.lemmas.Bool.{or_parts}
use Rattle.std.proofs.lemmas.List.{map-append}
use Rattle.grammar.specs.Derivations.{Derives, DerivesOf, Event}
use Rattle.grammar.specs.Derivations.Event.{Do, Take}
use Rattle.grammar.specs.Lowering.{lower, tokens_of}
use Rattle.grammar.proofs.LoweringLaws.{lowered, taken}
use Rattle.grammar.specs.TokenFeeding.{FedTokens}
use Rattle.grammar.specs.declared.symbol.Symbol.{Symbol}
use Rattle.grammar.specs.declared.symbol.Symbol.TheVariants.{Rule}
use Rattle.owl_atom.specs.declared.prefixes.Prefix.{Prefix}
use Rattle.owl_tokens.specs.declared.token.Token.{Token}
use Rattle.owl_tree.specs.Ontologies.{Ontology}
use Rattle.fss_terms.specs.Functional.{IsTableOf, PrefixDeclaration, SpellsFunctional}
use Rattle.fss_grammar.specs.ActingLaws.{tables_agree}
use Rattle.fss_grammar.specs.Acts.{act_number}
use Rattle.fss_grammar.specs.Classes.{class_of}
use Rattle.fss_grammar.specs.Declaring.{DeclareNothing, declares, is_of_declaration, is_ontology}
use Rattle.fss_grammar.proofs.DeclaringLaws.{derivations_declare_first, declarations_come_first, first_behind, none_behind_ontology, nothing_behind}
use Rattle.fss_grammar.specs.WrittenDocuments.{IsWrittenDocument, DoesDocument, LeadsTo, NoneWritten}
use Rattle.fss_grammar.proofs.DocumentLaws.{document_derives, rule_means}
use Rattle.fss_grammar.specs.Doing.{Acts, Does, prefixes_behind}
use Rattle.fss_grammar.specs.DoingLaws.{ActInTurn, DoneSoFar, EndTaken, InSteps, acts_in_steps, acts_in_two, does_in_steps}
use Rattle.fss_grammar.specs.Making.{Maker, Runs, beginning}
use Rattle.fss_grammar.specs.Meaning.{Events, between}
use Rattle.fss_grammar.proofs.OneTableLaws.{does_keeps, does_runs, made_is_done, runs_are_done}
use Rattle.fss_grammar.proofs.OneWayLaws.{does_one_way, same_middle}
use Rattle.fss_grammar.specs.Page.Rule.{document}
use Rattle.fss_grammar.specs.Table.{functional}
use Rattle.fss_grammar.specs.declared.acts.Act.{Act}

-- ---- documents are written where they are done

-- whatever the events of a document make is what it is written for
pub what_is_done_is_written : (p : List Prefix) (tokens : List Token) (events : Events) (n : Maker) → DerivesOf class_of functional (Rule 0 ∷ []) tokens events → Does events beginning n → IsTableOf n.document.declarations p → IsWrittenDocument p tokens n.document.declarations n.document.ontology
what_is_done_is_written p tokens events n d done table =
    let it = rule_means p document refl tokens events d n ((runs_are_done p tokens events n d table).1 done) in
    let ds : it.declarations ≡ n.document.declarations = ap (λ (l : Maker). l.document.declarations) (sym it.made) in
    let same : it.ontology ≡ n.document.ontology = ap (λ (l : Maker). l.document.ontology) (sym it.made) in
    subst₂ (IsWrittenDocument p tokens) ds same record { body = it.body; parts = it.parts; terms = it.terms; written = it.written }

pub written_is_done : (p : List Prefix) (tokens : List Token) (ds : List PrefixDeclaration) (o : Ontology) → IsTableOf ds p → IsWrittenDocument p tokens ds o → DoesDocument tokens ds o
written_is_done p tokens ds o table written =
    let it = document_derives p tokens ds o written in
    record { events = it.events; derives = it.derives; does = (made_is_done p tokens it.events ds o it.derives table).0 it.makes }

pub documents_do_as_written : (p : List Prefix) (tokens : List Token) (ds : List PrefixDeclaration) (o : Ontology) → IsTableOf ds p → DoesDocument tokens ds o ↔ IsWrittenDocument p tokens ds o
documents_do_as_written p tokens ds o table =
    (λ it. what_is_done_is_written p tokens it.events _ it.derives it.does table, written_is_done p tokens ds o table)

-- ---- in the middle of a document

-- Where a token is taken, what stands before is done by the declarations that stand there.
pub cut_where_taken : (p : List Prefix) (tokens : List Token) (es fs : Events) (n : Maker) → DerivesOf class_of functional (Rule 0 ∷ []) tokens (es ++ fs) → IsTableOf n.document.declarations p → EndTaken es → Runs p (es ++ fs) beginning n → InSteps (Does es) (Runs p fs) beginning n
cut_where_taken p tokens es fs n d table end runs =
    let it = does_in_steps es fs beginning n end ((runs_are_done p tokens (es ++ fs) n d table).0 runs) in
    let first = first_behind class_of es fs (derivations_declare_first class_of tokens (es ++ fs) d) in
    record {
      middle = it.middle;
      front = it.front;
      back = does_runs p fs it.middle n first (tables_agree n.document.declarations p table) it.back;
    }

-- In front of an act that is of no declaration all declarations are there, and so they are behind it, and behind the keyword
-- Ontology: a table of all declarations is one of these.
pub all_before_act : (p : List Prefix) (tokens : List Token) (es fs : Events) (a : ℕ) (m n : Maker) → DerivesOf class_of functional (Rule 0 ∷ []) tokens (es ++ Do a ∷ fs) → is_of_declaration a ≡ false → Does (Do a ∷ fs) m n → IsTableOf n.document.declarations p → IsTableOf m.document.declarations p
all_before_act p tokens es fs a m n d other does table =
    let nothing : DeclareNothing {X = Token} (Do a ∷ fs) = ((or_parts (declares a) _ other).0, declarations_come_first class_of tokens es fs a d other) in
    subst (λ ds. IsTableOf ds p) (sym (does_keeps (Do a ∷ fs) m n nothing does)) table

pub all_behind_act : (p : List Prefix) (tokens : List Token) (es fs gs : Events) (a : ℕ) (m n : Maker) → DerivesOf class_of functional (Rule 0 ∷ []) tokens (es ++ Do a ∷ (fs ++ gs)) → is_of_declaration a ≡ false → Does gs m n → IsTableOf n.document.declarations p → IsTableOf m.document.declarations p
all_behind_act p tokens es fs gs a m n d other does table =
    let nothing = nothing_behind fs gs (declarations_come_first class_of tokens es (fs ++ gs) a d other) in
    subst (λ ds. IsTableOf ds p) (sym (does_keeps gs m n nothing does)) table

pub all_behind_ontology : (p : List Prefix) (tokens : List Token) (es fs gs : Events) (x : Token) (m n : Maker) → DerivesOf class_of functional (Rule 0 ∷ []) tokens (es ++ Take x ∷ (fs ++ gs)) → is_ontology (class_of x) ≡ true → Does gs m n → IsTableOf n.document.declarations p → IsTableOf m.document.declarations p
all_behind_ontology p tokens es fs gs x m n d ontology does table =
    let nothing = nothing_behind fs gs (none_behind_ontology class_of tokens es (fs ++ gs) x d ontology) in
    subst (λ ds. IsTableOf ds p) (sym (does_keeps gs m n nothing does)) table

-- ---- what can't be done

-- events whose tokens and classes begin alike begin alike
same_front : {X : Type 0} (class_of : X → ℕ) (es all : List (Event X)) (low : List (Event ℕ)) (more : List X) → map (lower class_of) all ≡ map (lower class_of) es ++ low → tokens_of all ≡ tokens_of es ++ more → (rest : List (Event X)) × (all ≡ es ++ rest)
same_front class_of [] all low more l t = (all, refl)
same_front class_of (e ∷ es) [] low more l t = absurd (cc)
same_front {X = X} class_of (Take x ∷ es) (Take y ∷ all) low more l t =
    let same : y ≡ x = cc in
    let it = same_front class_of es all low more (cc) (cc) in
    (it.0, λ i. Take (same i) ∷ it.1 i)
same_front class_of (Take x ∷ es) (Do a ∷ all) low more l t = absurd (cc)
same_front class_of (Do a ∷ es) (Take x ∷ all) low more l t = absurd (cc)
same_front class_of (Do a ∷ es) (Do b ∷ all) low more l t =
    let same : b ≡ a = cc in
    let it = same_front class_of es all low more (cc) t in
    (it.0, λ i. Do (same i) ∷ it.1 i)

-- a parser that was fed these tokens gave these events
pub fed_leads : (tokens : List Token) (events : Events) (expected : List Symbol) → FedTokens class_of functional (Rule 0 ∷ []) tokens events expected → LeadsTo tokens events
fed_leads tokens events expected it more all d =
    let classes = subst (λ l. Derives functional (Rule 0 ∷ []) l (map (lower class_of) all)) (map-append class_of tokens more) (lowered d) in
    let goes = it.fed.leads.only (map class_of more) (map (lower class_of) all) classes in
    same_front class_of events all goes.more more goes.events_are (taken d ∙ ap (λ l. l ++ more) (sym it.taken))

-- what is done so far, where the rest of a document is done, is what is done in front of the rest
rest_is_done : (es fs : Events) (m n : Maker) → DoneSoFar es m → Does (es ++ fs) beginning n → Does fs m n
rest_is_done es fs m n it done =
    let steps = does_in_steps es fs beginning n it.end done in
    subst (λ l. Does fs l n) (does_one_way es beginning steps.middle m steps.front it.does) steps.back

in_parts : (es fs gs rest : Events) → (es ++ (fs ++ gs)) ++ rest ≡ es ++ (fs ++ (gs ++ rest))
in_parts es fs gs rest = append_assoc es (fs ++ gs) rest ∙ ap (λ (l : Events). es ++ l) (append_assoc fs gs rest)

-- What doesn't derive isn't written.
pub underived_is_unwritten : (front : List Token) → ((more : List Token) (all : Events) → DerivesOf class_of functional (Rule 0 ∷ []) (front ++ more) all → ⊥) → NoneWritten front
underived_is_unwritten front none more p ds o table written =
    let it = document_derives p (front ++ more) ds o written in
    none more it.events it.derives

-- Where the acts in front of the next token can't be done, by the declarations so far, no document is written that begins with
-- these tokens.
pub undoable_is_unwritten : (front : List Token) (x : Token) (es : Events) (acts : List ℕ) (m : Maker) → LeadsTo (front ++ x ∷ []) (es ++ (map Do acts ++ Take x ∷ [])) → DoneSoFar es m → ((n : Maker) → ActInTurn acts (Some x) m n → ⊥) → NoneWritten (front ++ x ∷ [])
undoable_is_unwritten front x es acts m leads it undoable more p ds o table written =
    let does = written_is_done p ((front ++ x ∷ []) ++ more) ds o table written in
    let n = between (record { declarations = ds; ontology = o }) in
    let rest = leads more does.events does.derives in
    let parts = rest.1 ∙ in_parts es (map Do acts) (Take x ∷ []) rest.0 in
    let later = rest_is_done es (map Do acts ++ Take x ∷ rest.0) m n it (subst (λ (l : Events). Does l beginning n) parts does.does) in
    let steps = acts_in_steps acts (Take x ∷ rest.0) m n later in
    undoable steps.middle steps.front

-- The same in front of the end.
pub undoable_at_end : (tokens : List Token) (es : Events) (acts : List ℕ) (m : Maker) → ((all : Events) → DerivesOf class_of functional (Rule 0 ∷ []) tokens all → all ≡ es ++ map Do acts) → DoneSoFar es m → ((n : Maker) → ActInTurn acts None m n → ⊥) → (p : List Prefix) (ds : List PrefixDeclaration) (o : Ontology) → IsTableOf ds p → IsWrittenDocument p tokens ds o → ⊥
undoable_at_end tokens es acts m only it undoable p ds o table written =
    let does = written_is_done p tokens ds o table written in
    let n = between (record { declarations = ds; ontology = o }) in
    let parts = only does.events does.derives ∙ ap (λ (l : Events). es ++ l) (sym (append-nil (map Do acts))) in
    let later = rest_is_done es (map Do acts ++ []) m n it (subst (λ (l : Events). Does l beginning n) parts does.does) in
    let steps = acts_in_steps acts [] m n later in
    undoable steps.middle steps.front

in_turn_one_way : (acts : List ℕ) (next : Option Token) (m n k : Maker) → ActInTurn acts next m n → ActInTurn acts next m k → n ≡ k
in_turn_one_way [] next m n k h i = sym h ∙ i
in_turn_one_way (a ∷ acts) next m n k h i =
    let same = same_middle (prefixes_behind m.document.declarations) a next m (λ l. ActInTurn acts next l n) (λ l. ActInTurn acts next l k) h i in
    in_turn_one_way acts next h.middle n k h.later (subst (λ l. ActInTurn acts next l k) (sym same) i.later)

-- where the act of a number can't be done behind those before it, they can't be done in turn
pub undoable_act : (first others : List ℕ) (a : ℕ) (next : Option Token) (m k : Maker) → ActInTurn first next m k → ((act : Act) (n : Maker) → act_number act ≡ a → Acts act next k n → ⊥) → (n : Maker) → ActInTurn (first ++ a ∷ others) next m n → ⊥
undoable_act first others a next m k h undoable n all =
    let it = acts_in_two first (a ∷ others) next m n all in
    let one = subst (λ l. ActInTurn (a ∷ others) next l n) (in_turn_one_way first next m it.middle k it.front h) it.back in
    undoable one.act one.middle one.number_is one.performs

-- what a document is spelled by is written
pub unwritten_is_unspelled : (front : List Token) → NoneWritten front → (more : List Token) (p : List Prefix) (o : Ontology) → SpellsFunctional p o (front ++ more) → ⊥
unwritten_is_unspelled front none more p o it =
    none more p it.declarations it.written it.table record { body = it.body; parts = it.parts; terms = it.terms; written = it.is_written }
