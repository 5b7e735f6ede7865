-- What is written of lines is read as them.
use Rattle.std.proofs.Common.{◌≡◌, ℕ, zero, suc, ◌+◌, ◌-◌, ◌≤◌, Bool, false, if◌then◌else◌, Option, None, Some, Ok, Err, List, [], ◌∷◌, ◌++◌, length, take, codes, refl, sym, ap, ◌∙◌, subst, Result, arith}
use Rattle.std.specs.Prelude.{flat_map, nat_le}
use Rattle.std.specs.List.{AllByRecursion}
use Rattle.std.proofs.Math.Seq.{take-append_seam}
use Rattle.std.proofs.lemmas.Bool.{false_from_ne_true, leb-true}
use Rattle.std.proofs.lemmas.List.{append_assoc, append-nil, length-append}
use Rattle.grammar.specs.declared.symbol.Symbol.{Symbol as Sign}
use Rattle.grammar.specs.declared.symbol.Symbol.TheVariants.{Act, Need, Rule}
use Rattle.owl_atom.specs.Prefixes.{IsTable}
use Rattle.owl_atom.specs.declared.prefixes.Prefix.{Prefix}
use Rattle.owl_characters.specs.Iri.{IsIri}
use Rattle.owl_reader.specs.declared.fault.TokenFault.{TokenFault}
use Rattle.owl_reader.specs.declared.fault.TokenFault.TheVariants.{TooDeep}
use Rattle.owl_writing.specs.Terms.{iri_text}
use Rattle.rdf_graph.specs.Terms.{IsSubject}
use Rattle.rdf_graph.specs.declared.term.Term.{Term}
use Rattle.rdf_graph.specs.declared.term.Term.TheVariants as term
use Rattle.ttl_grammar.specs.Acts.{act_numbered}
use Rattle.ttl_grammar.specs.Documents.{AreNamespaces}
use Rattle.ttl_grammar.specs.Runs.{done}
use Rattle.ttl_grammar.specs.States.{Facts, Namespace, State, first_iri, last_nest, most_nests, nil_iri, no_nest, node_in, rest_iri, stating}
use Rattle.ttl_grammar.specs.declared.node.Nest.{Nest}
use Rattle.ttl_grammar.specs.declared.node.Node.{Node}
use Rattle.ttl_grammar.specs.declared.node.Node.TheVariants as node
use Rattle.ttl_grammar.specs.declared.node.NodeTriple.{NodeTriple}
use Rattle.ttl_grammar.specs.declared.node.Object.{Object}
use Rattle.ttl_grammar.specs.declared.node.Object.TheVariants as object
use Rattle.ttl_tokens.specs.declared.token.Symbol.{Symbol as Word}
use Rattle.ttl_tokens.specs.declared.token.Token.TheVariants.{Symbol}
use Rattle.ttl_write.specs.Text.{term_text}
use Rattle.ttl_write.proofs.LineLaws.{starts_dot, starts_end, starts_statement}
use Rattle.ttl_write.proofs.RowLaws.{objects_end, objects_row, predicates_row, statement_triples, triples_subject, verb_iri, verbs_end}
use Rattle.ttl_write.proofs.StepLaws.{Starts, starts_act, starts_rule, starts_space, starts_token}
use Rattle.ttl_write.proofs.StopLaws.{longest_before_stop}
use Rattle.ttl_write.proofs.TermLaws.{names_at, object_of, starts_iri, starts_object, starts_subject, state_in}
use Rattle.ttl_nested.specs.Forms.{Cells, Form, Line, Pairs}
use Rattle.ttl_nested.specs.Forms.Form.{plain, round, square}
use Rattle.ttl_nested.specs.Forms.Cells.{cell, no_cells}
use Rattle.ttl_nested.specs.Forms.Pairs.{no_pairs, pair}
use Rattle.ttl_nested.specs.NestedText.{cells_text, form_text, line_text, pairs_text, separator}
use Rattle.ttl_nested.proofs.BracketRows.{IsSign, close_bracket, close_parenthesis, collection_row, items_end, items_more, next_predicates, no_predicates, object_brackets, object_collection, open_bracket, open_parenthesis, semicolon, some_predicates, verbs_more}
use Rattle.ttl_nested.proofs.ReadingLaws.{AreCellsWithin, AreFormedCells, AreFormedPairs, ArePairsWithin, IsFormedForm, IsFormedLine, IsWithin, Made, appeared, behind_cells, behind_form, behind_lines, behind_pairs, node_of, object_at, with_stated}

-- what stands around

last_is : (outer : List Nest) (nest : Nest) → last_nest (outer ++ nest ∷ []) ≡ nest
last_is [] nest = refl
last_is (n ∷ []) nest = refl
last_is (n ∷ m ∷ outer) nest = last_is (m ∷ outer) nest

others_are : (outer : List Nest) (nest : Nest) → take (length (outer ++ nest ∷ []) - 1) (outer ++ nest ∷ []) ≡ outer
others_are outer nest =
    let count : length (outer ++ nest ∷ []) - 1 ≡ length outer = omega (arith, length-append outer (nest ∷ [])) in
    ap (λ (n : ℕ). take n (outer ++ nest ∷ [])) count ∙ take-append_seam outer (nest ∷ [])

may_open : (outer : List Nest) (n : ℕ) → length outer + suc n ≤ most_nests → nat_le most_nests (length outer) ≡ false
may_open outer n h = false_from_ne_true (nat_le most_nests (length outer)) (λ t. omega (arith, leb-true most_nests (length outer) t, h))

one_deeper : (outer : List Nest) (nest : Nest) (n : ℕ) → length outer + suc n ≤ most_nests → length (outer ++ nest ∷ []) + n ≤ most_nests
one_deeper outer nest n h = omega (arith, length-append outer (nest ∷ []), h)

abbrev pub nest_at : Option Node → Node → Option (List ℕ) → Nest
nest_at whole subject predicate = record { whole = whole; subject = Some subject; predicate = predicate }

abbrev pub facts_in : Nest → List Nest → Made → Facts
facts_in nest outer made = record { term = None; nest = nest; outer = outer; unlabelled = made.next; triples = made.triples }

subject_is : (t : Term) → IsSubject t → node_in (Some (object_of t)) ≡ Some (node_of t)
subject_is (term.Iri iri) h = refl
subject_is (term.Blank label) h = refl
subject_is (term.Literal literal) h = absurd h

module _ (base : Option (List ℕ)) (written : List Prefix) (namespaces : List Namespace) (table : IsTable written) (agree : AreNamespaces written namespaces) (declaring : List ℕ) (wanted : State → Type 0) where
  abbrev pub at : List ℕ → Option Object → Nest → List Nest → Made → State
  at form term nest outer made = state_in (names_at base namespaces declaring) form term (facts_in nest outer made)

  -- a sign with a space behind it
  starts_sign : (word : Word) (cs : List ℕ) (class : ℕ) (rest : List ℕ) (ss : List Sign) (state : State) → IsSign word cs class → Starts wanted ss state rest → Starts wanted (Need class ∷ ss) state (cs ++ 32 ∷ rest)
  starts_sign word cs class rest ss state sign k =
      starts_token wanted (Symbol word) cs (32 ∷ rest) class ss state sign.spells (longest_before_stop (Symbol word) cs 32 rest sign.spells refl) sign.class_is (starts_space wanted 32 rest ss state refl k)

  -- a predicate, and what is stated with it
  starts_predicate : (p cs form : List ℕ) (nest : Nest) (outer : List Nest) (made : Made) (ss : List Sign) → IsIri p
      → Starts wanted (Rule 12 ∷ Act 5 ∷ Rule 11 ∷ Rule 7 ∷ ss) (at form None (record nest { predicate = Some p }) outer made) cs → Starts wanted (Rule 6 ∷ ss) (at form None nest outer made) (iri_text written p ++ 32 ∷ cs)
  starts_predicate p cs form nest outer made ss h k =
      let before = at form None nest outer made in
      let after = at form None (record nest { predicate = Some p }) outer made in
      let objects = starts_rule wanted 10 (Rule 12 ∷ Act 5 ∷ Rule 11 ∷ []) (Rule 7 ∷ ss) after cs objects_row k in
      let known = starts_act wanted 4 (Rule 10 ∷ Rule 7 ∷ ss) (at form (Some (object.Node (node.Iri p))) nest outer made) after cs (λ next. refl) objects in
      let named = starts_iri base written namespaces table agree wanted declaring (facts_in nest outer made) p cs form (Act 4 ∷ Rule 10 ∷ Rule 7 ∷ ss) h known in
      let verb = starts_rule wanted 9 (Rule 19 ∷ []) (Act 4 ∷ Rule 10 ∷ Rule 7 ∷ ss) before (iri_text written p ++ 32 ∷ cs) verb_iri named in
      starts_rule wanted 6 (Rule 9 ∷ Act 4 ∷ Rule 10 ∷ Rule 7 ∷ []) ss before (iri_text written p ++ 32 ∷ cs) predicates_row verb

  starts_stated : (whole : Option Node) (s : Node) (p : List ℕ) (o : Object) (cs form : List ℕ) (outer : List Nest) (made : Made) (ss : List Sign)
      → Starts wanted (Rule 7 ∷ ss) (at form None (nest_at whole s (Some p)) outer (with_stated s p o made)) cs → Starts wanted (Act 5 ∷ Rule 11 ∷ Rule 7 ∷ ss) (at form (Some o) (nest_at whole s (Some p)) outer made) cs
  starts_stated whole s p o cs form outer made ss k =
      let after = at form None (nest_at whole s (Some p)) outer (with_stated s p o made) in
      starts_act wanted 5 (Rule 11 ∷ Rule 7 ∷ ss) (at form (Some o) (nest_at whole s (Some p)) outer made) after cs (λ next. refl) (starts_rule wanted 11 [] (Rule 7 ∷ ss) after cs objects_end k)

  -- what is opened and closed

  bracket_opens : (next : Option _) (form : List ℕ) (nest : Nest) (outer : List Nest) (made : Made) → nat_le most_nests (length outer) ≡ false
      → done (act_numbered 6) next (at form None nest outer made) ≡ Ok (at form None (nest_at (Some (node.Unlabelled made.next)) (node.Unlabelled made.next) None) (outer ++ nest ∷ []) (appeared made))
  bracket_opens next form nest outer made h =
      let before = at form None nest outer made in
      let inside = at form None (nest_at (Some (node.Unlabelled made.next)) (node.Unlabelled made.next) None) (outer ++ nest ∷ []) (appeared made) in
      ap (λ (b : Bool). stating before (if b then Err TooDeep else Ok inside.facts)) h

  collection_opens : (next : Option _) (form : List ℕ) (nest : Nest) (outer : List Nest) (made : Made) → nat_le most_nests (length outer) ≡ false
      → done (act_numbered 8) next (at form None nest outer made) ≡ Ok (at form None no_nest (outer ++ nest ∷ []) made)
  collection_opens next form nest outer made h =
      ap (λ (b : Bool). stating (at form None nest outer made) (if b then Err TooDeep else Ok (facts_in no_nest (outer ++ nest ∷ []) made))) h

  abbrev closed_in : List ℕ → Node → Made → Nest → List Nest → Result State TokenFault
  closed_in form whole made nest outer = Ok (at form (Some (object.Node whole)) nest outer made)

  bracket_closes : (next : Option _) (form : List ℕ) (whole s : Node) (p : Option (List ℕ)) (nest : Nest) (outer : List Nest) (made : Made)
      → done (act_numbered 7) next (at form None (nest_at (Some whole) s p) (outer ++ nest ∷ []) made) ≡ Ok (at form (Some (object.Node whole)) nest outer made)
  bracket_closes next form whole s p nest outer made =
      ap (λ (n : Nest). closed_in form whole made n (take (length (outer ++ nest ∷ []) - 1) (outer ++ nest ∷ []))) (last_is outer nest)
      ∙ ap (λ (ns : List Nest). closed_in form whole made nest ns) (others_are outer nest)

  collection_closes : (next : Option _) (form : List ℕ) (whole last : Node) (nest : Nest) (outer : List Nest) (made : Made)
      → done (act_numbered 11) next (at form None (nest_at (Some whole) last None) (outer ++ nest ∷ []) made) ≡ Ok (at form (Some (object.Node whole)) nest outer (with_stated last rest_iri (object.Node (node.Iri nil_iri)) made))
  collection_closes next form whole last nest outer made =
      let after = with_stated last rest_iri (object.Node (node.Iri nil_iri)) made in
      ap (λ (n : Nest). closed_in form whole after n (take (length (outer ++ nest ∷ []) - 1) (outer ++ nest ∷ []))) (last_is outer nest)
      ∙ ap (λ (ns : List Nest). closed_in form whole after nest ns) (others_are outer nest)

  first_appears : (next : Option _) (form : List ℕ) (outer : List Nest) (made : Made)
      → done (act_numbered 9) next (at form None no_nest outer made) ≡ Ok (at form None (nest_at (Some (node.Unlabelled made.next)) (node.Unlabelled made.next) None) outer (appeared made))
  first_appears next form outer made =
      ap (λ (ts : List NodeTriple). Ok (at form None (nest_at (Some (node.Unlabelled made.next)) (node.Unlabelled made.next) None) outer (record { next = made.next + 1; triples = ts })))
      (append-nil made.triples)

  -- objects

  -- an element behind its cell
  starts_element : (whole s : Node) (o : Object) (cs form : List ℕ) (outer : List Nest) (made : Made) (ss : List Sign)
      → Starts wanted (Rule 14 ∷ ss) (at form None (nest_at (Some whole) s None) outer (with_stated s first_iri o made)) cs → Starts wanted (Act 10 ∷ Rule 14 ∷ ss) (at form (Some o) (nest_at (Some whole) s None) outer made) cs
  starts_element whole s o cs form outer made ss k =
      starts_act wanted 10 (Rule 14 ∷ ss) (at form (Some o) (nest_at (Some whole) s None) outer made) (at form None (nest_at (Some whole) s None) outer (with_stated s first_iri o made)) cs (λ next. refl) k

  abbrev Objects : Form → Type 0
  Objects form = (n : ℕ) (nest : Nest) (outer : List Nest) (made : Made) (old rest : List ℕ) (ss : List Sign) → IsFormedForm form → IsWithin n form → length outer + n ≤ most_nests
      → ((new : List ℕ) → Starts wanted ss (at new (Some (object_at form made.next)) nest outer (behind_form form made)) rest) → Starts wanted (Rule 12 ∷ ss) (at old None nest outer made) (form_text written form ++ 32 ∷ rest)

  pair_parts : (predicate : List ℕ) (object : Form) (more : Pairs) (rest : List ℕ)
      → pairs_text written (pair predicate object more) ++ rest ≡ iri_text written predicate ++ 32 ∷ (form_text written object ++ 32 ∷ (separator more ++ (pairs_text written more ++ rest)))
  pair_parts predicate object more rest =
      append_assoc (iri_text written predicate) (32 ∷ (form_text written object ++ 32 ∷ (separator more ++ pairs_text written more))) rest
      ∙ ap (λ (cs : List ℕ). iri_text written predicate ++ 32 ∷ cs)
      (append_assoc (form_text written object) (32 ∷ (separator more ++ pairs_text written more)) rest
      ∙ ap (λ (cs : List ℕ). form_text written object ++ 32 ∷ cs) (append_assoc (separator more) (pairs_text written more) rest))

  mutual
    pub starts_form : (form : Form) → Objects form
    starts_form (plain t) n nest outer made old rest ss h within few k = starts_object base written namespaces table agree wanted declaring (facts_in nest outer made) t rest old ss h k
    starts_form (round label element cells) zero nest outer made old rest ss h within few k = absurd within
    starts_form (round label element cells) (suc n) nest outer made old rest ss h within few k =
        let before = at old None nest outer made in
        let new = node.Unlabelled made.next in
        let inner = outer ++ nest ∷ [] in
        let opened = at old None no_nest inner made in
        let begun = at old None (nest_at (Some new) new None) inner (appeared made) in
        let tail = Act 11 ∷ Need 22 ∷ ss in
        let cells_cs = cells_text written cells ++ 41 ∷ 32 ∷ rest in
        let element_cs = form_text written element ++ 32 ∷ cells_cs in
        let deeper = one_deeper outer nest n few in
        let read = starts_form element n (nest_at (Some new) new None) inner (appeared made) old cells_cs (Act 10 ∷ Rule 14 ∷ tail) h.0 within.0 deeper
        (λ form. starts_element new new (object_at element (made.next + 1)) cells_cs form inner (behind_form element (appeared made)) tail
        (starts_cells cells n new new nest outer (with_stated new first_iri (object_at element (made.next + 1)) (behind_form element (appeared made))) form rest ss h.1 within.1 deeper k)) in
        let item = starts_act wanted 9 (Rule 12 ∷ Act 10 ∷ Rule 14 ∷ tail) opened begun element_cs (λ next. first_appears next old inner made) read in
        let items = starts_rule wanted 14 (Act 9 ∷ Rule 12 ∷ Act 10 ∷ Rule 14 ∷ []) tail opened element_cs items_more item in
        let sign = starts_sign _ (codes "(") 21 element_cs (Rule 14 ∷ tail) opened open_parenthesis items in
        let acted = starts_act wanted 8 (Need 21 ∷ Rule 14 ∷ tail) before opened (40 ∷ 32 ∷ element_cs) (λ next. collection_opens next old nest outer made (may_open outer n few)) sign in
        let collection = starts_rule wanted 13 (Act 8 ∷ Need 21 ∷ Rule 14 ∷ Act 11 ∷ Need 22 ∷ []) ss before (40 ∷ 32 ∷ element_cs) collection_row acted in
        let whole = starts_rule wanted 12 (Rule 13 ∷ []) ss before (40 ∷ 32 ∷ element_cs) object_collection collection in
        let parts : form_text written (round label element cells) ++ 32 ∷ rest ≡ 40 ∷ 32 ∷ element_cs =
        ap (λ (cs : List ℕ). 40 ∷ 32 ∷ cs)
        (append_assoc (form_text written element) (32 ∷ (cells_text written cells ++ codes ")")) (32 ∷ rest)
        ∙ ap (λ (cs : List ℕ). form_text written element ++ 32 ∷ cs) (append_assoc (cells_text written cells) (codes ")") (32 ∷ rest))) in
        subst (λ (cs : List ℕ). Starts wanted (Rule 12 ∷ ss) before cs) (sym parts) whole
    starts_form (square label pairs) zero nest outer made old rest ss h within few k = absurd within
    starts_form (square label pairs) (suc n) nest outer made old rest ss h within few k =
        let before = at old None nest outer made in
        let new = node.Unlabelled made.next in
        let inner = outer ++ nest ∷ [] in
        let opened = at old None (nest_at (Some new) new None) inner (appeared made) in
        let after = behind_pairs new pairs (appeared made) in
        let end_cs = 93 ∷ 32 ∷ rest in
        let tail = Act 7 ∷ Need 20 ∷ ss in
        let deeper = one_deeper outer nest n few in
        let closed = λ (form : List ℕ) (p : Option (List ℕ)).
        starts_act wanted 7 (Need 20 ∷ ss) (at form None (nest_at (Some new) new p) inner after) (at form (Some (object.Node new)) nest outer after) end_cs (λ next. bracket_closes next form new new p nest outer after)
        (starts_sign _ (codes "]") 20 rest ss (at form (Some (object.Node new)) nest outer after) close_bracket (k form)) in
        let read = starts_predicates pairs n new inner (appeared made) old end_cs tail h within deeper closed in
        let pairs_cs = pairs_text written pairs ++ end_cs in
        let sign = starts_sign _ (codes "[") 19 pairs_cs (Rule 4 ∷ tail) opened open_bracket read in
        let acted = starts_act wanted 6 (Need 19 ∷ Rule 4 ∷ tail) before opened (91 ∷ 32 ∷ pairs_cs) (λ next. bracket_opens next old nest outer made (may_open outer n few)) sign in
        let whole = starts_rule wanted 12 (Act 6 ∷ Need 19 ∷ Rule 4 ∷ Act 7 ∷ Need 20 ∷ []) ss before (91 ∷ 32 ∷ pairs_cs) object_brackets acted in
        let parts : form_text written (square label pairs) ++ 32 ∷ rest ≡ 91 ∷ 32 ∷ pairs_cs = ap (λ (cs : List ℕ). 91 ∷ 32 ∷ cs) (append_assoc (pairs_text written pairs) (codes "]") (32 ∷ rest)) in
        subst (λ (cs : List ℕ). Starts wanted (Rule 12 ∷ ss) before cs) (sym parts) whole

    starts_cells : (cells : Cells) (n : ℕ) (whole last : Node) (nest : Nest) (outer : List Nest) (made : Made) (old rest : List ℕ) (ss : List Sign) → AreFormedCells cells → AreCellsWithin n cells
        → length (outer ++ nest ∷ []) + n ≤ most_nests → ((new : List ℕ) → Starts wanted ss (at new (Some (object.Node whole)) nest outer (behind_cells last cells made)) rest)
        → Starts wanted (Rule 14 ∷ Act 11 ∷ Need 22 ∷ ss) (at old None (nest_at (Some whole) last None) (outer ++ nest ∷ []) made) (cells_text written cells ++ 41 ∷ 32 ∷ rest)
    starts_cells no_cells n whole last nest outer made old rest ss h within few k =
        let before = at old None (nest_at (Some whole) last None) (outer ++ nest ∷ []) made in
        let after = at old (Some (object.Node whole)) nest outer (with_stated last rest_iri (object.Node (node.Iri nil_iri)) made) in
        let sign = starts_sign _ (codes ")") 22 rest ss after close_parenthesis (k old) in
        let acted = starts_act wanted 11 (Need 22 ∷ ss) before after (41 ∷ 32 ∷ rest) (λ next. collection_closes next old whole last nest outer made) sign in
        starts_rule wanted 14 [] (Act 11 ∷ Need 22 ∷ ss) before (41 ∷ 32 ∷ rest) items_end acted
    starts_cells (cell label element cells) n whole last nest outer made old rest ss h within few k =
        let new = node.Unlabelled made.next in
        let inner = outer ++ nest ∷ [] in
        let before = at old None (nest_at (Some whole) last None) inner made in
        let named = appeared (with_stated last rest_iri (object.Node new) made) in
        let begun = at old None (nest_at (Some whole) new None) inner named in
        let tail = Act 11 ∷ Need 22 ∷ ss in
        let cells_cs = cells_text written cells ++ 41 ∷ 32 ∷ rest in
        let element_cs = form_text written element ++ 32 ∷ cells_cs in
        let read = starts_form element n (nest_at (Some whole) new None) inner named old cells_cs (Act 10 ∷ Rule 14 ∷ tail) h.0 within.0 few
        (λ form. starts_element whole new (object_at element (made.next + 1)) cells_cs form inner (behind_form element named) tail
        (starts_cells cells n whole new nest outer (with_stated new first_iri (object_at element (made.next + 1)) (behind_form element named)) form rest ss h.1 within.1 few k)) in
        let item = starts_act wanted 9 (Rule 12 ∷ Act 10 ∷ Rule 14 ∷ tail) before begun element_cs (λ next. refl) read in
        let items = starts_rule wanted 14 (Act 9 ∷ Rule 12 ∷ Act 10 ∷ Rule 14 ∷ []) tail before element_cs items_more item in
        subst (λ (cs : List ℕ). Starts wanted (Rule 14 ∷ tail) before cs) (sym (append_assoc (form_text written element) (32 ∷ cells_text written cells) (41 ∷ 32 ∷ rest))) items

    -- what stands between brackets
    starts_predicates : (pairs : Pairs) (n : ℕ) (s : Node) (outer : List Nest) (made : Made) (old rest : List ℕ) (ss : List Sign) → AreFormedPairs pairs → ArePairsWithin n pairs → length outer + n ≤ most_nests
        → ((new : List ℕ) (p : Option (List ℕ)) → Starts wanted ss (at new None (nest_at (Some s) s p) outer (behind_pairs s pairs made)) rest)
        → Starts wanted (Rule 4 ∷ ss) (at old None (nest_at (Some s) s None) outer made) (pairs_text written pairs ++ rest)
    starts_predicates no_pairs n s outer made old rest ss h within few k = starts_rule wanted 4 [] ss (at old None (nest_at (Some s) s None) outer made) rest no_predicates (k old None)
    starts_predicates (pair predicate object more) n s outer made old rest ss h within few k =
        let before = at old None (nest_at (Some s) s None) outer made in
        let more_cs = separator more ++ (pairs_text written more ++ rest) in
        let read = starts_form object n (nest_at (Some s) s (Some predicate)) outer made old more_cs (Act 5 ∷ Rule 11 ∷ Rule 7 ∷ ss) h.1 within.0 few
        (λ form. starts_stated (Some s) s predicate (object_at object made.next) more_cs form outer (behind_form object made) ss
        (starts_more more n s (Some predicate) outer (with_stated s predicate (object_at object made.next) (behind_form object made)) form rest ss h.2 within.1 few k)) in
        let object_cs = form_text written object ++ 32 ∷ more_cs in
        let first = starts_predicate predicate object_cs old (nest_at (Some s) s None) outer made ss h.0 read in
        let whole = starts_rule wanted 4 (Rule 6 ∷ []) ss before (iri_text written predicate ++ 32 ∷ object_cs) some_predicates first in
        subst (λ (cs : List ℕ). Starts wanted (Rule 4 ∷ ss) before cs) (sym (pair_parts predicate object more rest)) whole

    -- pairs behind another one
    starts_more : (pairs : Pairs) (n : ℕ) (s : Node) (was : Option (List ℕ)) (outer : List Nest) (made : Made) (old rest : List ℕ) (ss : List Sign) → AreFormedPairs pairs → ArePairsWithin n pairs
        → length outer + n ≤ most_nests → ((new : List ℕ) (p : Option (List ℕ)) → Starts wanted ss (at new None (nest_at (Some s) s p) outer (behind_pairs s pairs made)) rest)
        → Starts wanted (Rule 7 ∷ ss) (at old None (nest_at (Some s) s was) outer made) (separator pairs ++ (pairs_text written pairs ++ rest))
    starts_more no_pairs n s was outer made old rest ss h within few k = starts_rule wanted 7 [] ss (at old None (nest_at (Some s) s was) outer made) rest verbs_end (k old was)
    starts_more (pair predicate object more) n s was outer made old rest ss h within few k =
        let before = at old None (nest_at (Some s) s was) outer made in
        let more_cs = separator more ++ (pairs_text written more ++ rest) in
        let read = starts_form object n (nest_at (Some s) s (Some predicate)) outer made old more_cs (Act 5 ∷ Rule 11 ∷ Rule 7 ∷ ss) h.1 within.0 few
        (λ form. starts_stated (Some s) s predicate (object_at object made.next) more_cs form outer (behind_form object made) ss
        (starts_more more n s (Some predicate) outer (with_stated s predicate (object_at object made.next) (behind_form object made)) form rest ss h.2 within.1 few k)) in
        let object_cs = form_text written object ++ 32 ∷ more_cs in
        let pair_cs = iri_text written predicate ++ 32 ∷ object_cs in
        let first = starts_predicate predicate object_cs old (nest_at (Some s) s was) outer made ss h.0 read in
        let next = starts_rule wanted 8 (Rule 6 ∷ []) ss before pair_cs next_predicates first in
        let sign = starts_sign _ (codes ";") 17 pair_cs (Rule 8 ∷ ss) before semicolon next in
        let whole = starts_rule wanted 7 (Need 17 ∷ Rule 8 ∷ []) ss before (59 ∷ 32 ∷ pair_cs) verbs_more sign in
        subst (λ (cs : List ℕ). Starts wanted (Rule 7 ∷ ss) before (59 ∷ 32 ∷ cs)) (sym (pair_parts predicate object more rest)) whole

  -- lines

  line_parts : (line : Line) (rest : List ℕ) → line_text written line ++ rest ≡ term_text written line.subject ++ 32 ∷ (iri_text written line.predicate ++ 32 ∷ (form_text written line.object ++ 32 ∷ 46 ∷ 10 ∷ rest))
  line_parts line rest =
      append_assoc (term_text written line.subject) (32 ∷ (iri_text written line.predicate ++ 32 ∷ (form_text written line.object ++ codes " .\n"))) rest
      ∙ ap (λ (cs : List ℕ). term_text written line.subject ++ 32 ∷ cs)
      (append_assoc (iri_text written line.predicate) (32 ∷ (form_text written line.object ++ codes " .\n")) rest
      ∙ ap (λ (cs : List ℕ). iri_text written line.predicate ++ 32 ∷ cs) (append_assoc (form_text written line.object) (codes " .\n") rest))

  abbrev behind_line : Line → Made → Made
  behind_line line made = with_stated (node_of line.subject) line.predicate (object_at line.object made.next) (behind_form line.object made)

  starts_line : (line : Line) (n : ℕ) (form : List ℕ) (nest : Nest) (made : Made) (rest : List ℕ) → IsFormedLine line → IsWithin n line.object → n ≤ most_nests
      → ((form : List ℕ) (nest : Nest) → Starts wanted (Rule 0 ∷ []) (at form None nest [] (behind_line line made)) rest) → Starts wanted (Rule 0 ∷ []) (at form None nest [] made) (line_text written line ++ rest)
  starts_line line n form nest made rest h within few k =
      let s = node_of line.subject in
      let before = at form None nest [] made in
      let tail = Act 20 ∷ Need 16 ∷ Rule 0 ∷ [] in
      let end_cs = 46 ∷ 10 ∷ rest in
      let on_predicate = nest_at nest.whole s (Some line.predicate) in
      let ended = λ (new : List ℕ).
      let after = at new None on_predicate [] (behind_line line made) in
      let dot = starts_act wanted 20 (Need 16 ∷ Rule 0 ∷ []) after after end_cs (λ next. refl) (starts_dot wanted rest (Rule 0 ∷ []) after (k new on_predicate)) in
      let verbs = starts_rule wanted 7 [] tail after end_cs verbs_end dot in
      starts_stated nest.whole s line.predicate (object_at line.object made.next) end_cs new [] (behind_form line.object made) tail verbs in
      let object_cs = form_text written line.object ++ 32 ∷ end_cs in
      let read = starts_form line.object n on_predicate [] made form end_cs (Act 5 ∷ Rule 11 ∷ Rule 7 ∷ tail) h.object within (omega (arith, few)) ended in
      let predicate_cs = iri_text written line.predicate ++ 32 ∷ object_cs in
      let on_subject = record nest { subject = Some s } in
      let predicates = starts_predicate line.predicate object_cs form on_subject [] made tail h.predicate read in
      let subject_term = at form (Some (object_of line.subject)) nest [] made in
      let known = starts_act wanted 3 (Rule 6 ∷ tail) subject_term (at form None on_subject [] made) predicate_cs
      (λ next. ap (λ (o : Option Node). Ok (at form None (record nest { subject = o }) [] made)) (subject_is line.subject h.is_subject)) predicates in
      let subject_cs = term_text written line.subject ++ 32 ∷ predicate_cs in
      let subject_read = starts_subject base written namespaces table agree wanted declaring (facts_in nest [] made) line.subject predicate_cs form (Act 3 ∷ Rule 6 ∷ tail) h.is_subject h.subject known in
      let whole = starts_rule wanted 2 (Rule 5 ∷ Act 3 ∷ Rule 6 ∷ []) tail before subject_cs triples_subject subject_read in
      let statement = starts_rule wanted 1 (Rule 2 ∷ Act 20 ∷ Need 16 ∷ []) (Rule 0 ∷ []) before subject_cs statement_triples whole in
      subst (λ (cs : List ℕ). Starts wanted (Rule 0 ∷ []) before cs) (sym (line_parts line rest)) (starts_statement wanted before subject_cs statement)

  pub starts_lines : (lines : List Line) (n : ℕ) (form : List ℕ) (nest : Nest) (made : Made) → AllByRecursion IsFormedLine lines → AllByRecursion (λ line. IsWithin n line.object) lines → n ≤ most_nests
      → ((form : List ℕ) (nest : Nest) → wanted (at form None nest [] (behind_lines lines made))) → Starts wanted (Rule 0 ∷ []) (at form None nest [] made) (flat_map (line_text written) lines)
  starts_lines [] n form nest made h within few is = starts_end wanted (at form None nest [] made) (is form nest)
  starts_lines (line ∷ lines) n form nest made h within few is =
      starts_line line n form nest made (flat_map (line_text written) lines) h.0 within.0 few (λ new other. starts_lines lines n new other (behind_line line made) h.1 within.1 few is)
