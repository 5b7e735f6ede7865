-- What is read of the documents at places, one behind the other.
use Rattle.std.proofs.Common.{Result, Ok, Err, IfErr, IsErrAnd, ◌≡◌, ◌≢◌, ◌<◌, ◌≤◌, ◌+◌, ◌⊎◌, inl, inr, ℕ, zero, suc, Some, List, [], ◌∷◌, ◌++◌, Contains, drop, get_or, length, map, slice_get, refl, sym, ap, ◌∙◌, subst, arith}
use Rattle.std.proofs.lemmas.Bool.{cases_order}
use Rattle.std.proofs.lemmas.Cmp.{ranked}
use Rattle.std.proofs.lemmas.List.{append-nil, append_assoc, length-map}
use Rattle.std.proofs.lemmas.List.Elements.{Contains-append_cases, Contains-append_right}
use Rattle.std.proofs.lemmas.Option.{same_Some, slice_get_within}
use Rattle.std.proofs.lemmas.Slice.Zip.{AllZip-long, all_zipped_more}
use Rattle.std.specs.declared.cmp.Ordering.TheVariants.{Less}
use Rattle.std.specs.List.{AllByRecursion, AllZip}
use Rattle.std.specs.Ordering.{nat_cmp}
use Rattle.owl_close.proofs.ReachingLaws.{reached_within}
use Rattle.owl_close.specs.Imports.{AreReached, main}
use Rattle.owl_doc.specs.Documents as doc
use Rattle.owl_doc.specs.Documents.{ontology_of}
use Rattle.owl_documents.specs.Documents.{GraphRead, Parsed, a_graph, parsed_of, said_of, the_frames}
use Rattle.owl_documents.specs.declared.document.Document.{Document}
use Rattle.owl_kind.specs.Kinds.{Entity}
use Rattle.owl_list.specs.Ascending.{IsAscending}
use Rattle.owl_list.proofs.AscendingLaws.{all_from, all_in, all_pushed, head_below, in_cases, in_head, in_none, tail_ascends}
use Rattle.owl_tree.specs.Ontologies.{Head}
use Rattle.man_raw.specs.Documents.{DocumentTree}
use Rattle.man_resolve.specs.Resolved.{IsResolveFault}
use Rattle.man_resolve.specs.declared.fault.ResolveFault.{ResolveFault}
use Rattle.man_resolve.specs.declared.fault.ResolveFault.TheVariants as resolve
use Rattle.owl_messages.specs.Unsaid.{of_frames, of_graph}
use Rattle.rdf_reverse.specs.Guesses.{IsFaultWith}
use Rattle.rdf_reverse.specs.declared.fault.ReverseFault.{ReverseFault}
use Rattle.rdf_thin.specs.Thinned.{thinned}
use Rattle.rdf_reverse.specs.declared.fault.ReverseFault.TheVariants as reverse
use Rattle.owl_messages.specs.declared.unsaid.UnsaidFault.{UnsaidFault}
use Rattle.owl_messages.specs.declared.unsaid.UnsaidFault.TheVariants.{Memory}
use Rattle.owl_answer.specs.KindsAt.{IsClosure}
use Rattle.owl_answer.specs.Checks.{HasFormAt}
use Rattle.owl_answer.specs.Outcome.{heads_in}
use Rattle.owl_answer.specs.Reading.{AllSayAt, IsFaultAt, IsFirstFault, IsSaidAt, SaysNext, SaysSomeAt}
use Rattle.owl_answer.specs.UnderKinds.{IsUnsaidUnder, SaysUnder}
use Rattle.owl_answer.specs.declared.closure.Closure.{Closure}

pub less_is : (x y : ℕ) → nat_cmp x y ≡ Less → x < y
less_is x y h = ranked x y Less (sym h)

none_less : (n : ℕ) → n < 0 → ⊥
none_less n l = omega arith

-- the main document is the first that is reached
first_reached : (heads : List Head) (first : ℕ) (others : List ℕ) → AreReached heads (first ∷ others) → first ≡ 0
first_reached heads first others r =
    elim (in_cases first others 0 ((r.reached 0).1 main)) [
      | inl e ↦ e
      | inr m ↦ absurd (none_less first (less_is first 0 (all_in (λ y. nat_cmp first y ≡ Less) others 0 (head_below nat_cmp first others r.ascending) m)))
    ]

some_reached : (heads : List Head) (places : List ℕ) → AreReached heads places → 0 < length places
some_reached heads places r = let there = (r.reached 0).1 main in let l = there.1 in omega arith

-- a place has a name, as each document has
pub within_names : (docs : List Document) (count place : ℕ) (parsed : Parsed) → slice_get (map parsed_of docs) place ≡ Some parsed → length docs ≡ count → place < count
within_names docs count place parsed there each =
    let within = slice_get_within (map parsed_of docs) place parsed there in
    let same = length-map docs parsed_of in
    omega arith

-- a fault is the graph's or the frames', unless memory ran out
-- a fault that is given on as another
pub by_from : {T E : Type 0} (r : Result T E) (given : E) (P : E → Type 0) → IsErrAnd r (λ e. e ≡ given) → P given → IfErr r P
by_from (Ok x) given P e h = tt
by_from (Err other) given P e h = subst P (sym e) h

pub unsaid_graph : (g : GraphRead) (k : List Entity) (fault : ReverseFault) → IsFaultWith (thinned g.triples) k g.guessed fault → of_graph fault ≢ Memory → IsUnsaidUnder k (a_graph g) (of_graph fault)
unsaid_graph g k reverse.Memory h n = absurd (n refl)
unsaid_graph g k fault (inl e) n = absurd (n (ap of_graph e))
unsaid_graph g k (reverse.TwoKinds iri) (inr u) n = u
unsaid_graph g k reverse.NoHeader (inr u) n = u
unsaid_graph g k reverse.TwoHeaders (inr u) n = u
unsaid_graph g k (reverse.BadHeader node) (inr u) n = u
unsaid_graph g k (reverse.Mixed label) (inr u) n = u
unsaid_graph g k (reverse.BadList label) (inr u) n = u
unsaid_graph g k (reverse.Cycle label) (inr u) n = u
unsaid_graph g k (reverse.BadNode label) (inr u) n = u
unsaid_graph g k (reverse.MainMissing label) (inr u) n = u
unsaid_graph g k (reverse.Reserved triple) (inr u) n = u
unsaid_graph g k (reverse.Orphan label) (inr u) n = u
unsaid_graph g k (reverse.Untyped triple) (inr u) n = u
unsaid_graph g k reverse.NumberTooLarge (inr u) n = u
unsaid_graph g k reverse.TooDeep (inr u) n = u
unsaid_graph g k reverse.TooHeavy (inr u) n = u

pub unsaid_frames : (d : DocumentTree) (k : List Entity) (fault : ResolveFault) → IsResolveFault d k fault → of_frames fault ≢ Memory → IsUnsaidUnder k (the_frames d) (of_frames fault)
unsaid_frames d k resolve.Memory h n = absurd (n refl)
unsaid_frames d k fault (inl e) n = absurd (n (ap of_frames e))
unsaid_frames d k (resolve.TwoKinds iri) (inr u) n = u
unsaid_frames d k (resolve.Untyped iri at) (inr u) n = u
unsaid_frames d k (resolve.WrongKind iri at) (inr u) n = u
unsaid_frames d k (resolve.WrongForm at) (inr u) n = u
unsaid_frames d k resolve.TooDeep (inr u) n = u
unsaid_frames d k resolve.TooHeavy (inr u) n = u

-- the first of what is left, and what is left behind it
left_by : {X : Type 0} (xs : List X) (place : ℕ) (x : X) (rest : List X) → drop place xs ≡ x ∷ rest → (slice_get xs place ≡ Some x) × (drop (suc place) xs ≡ rest)
left_by [] zero x rest e = absurd (cc)
left_by [] (suc place) x rest e = absurd (cc)
left_by (y ∷ xs) zero x rest e = (cc, cc)
left_by (y ∷ xs) (suc place) x rest e = left_by xs place x rest e

pub left_at : {X : Type 0} (xs : List X) (place : ℕ) (x : X) (rest : List X) → drop place xs ≡ x ∷ rest → (slice_get xs place ≡ Some x) × (drop (place + 1) xs ≡ rest)
left_at xs place x rest e =
    let h = left_by xs place x rest e in
    let next : suc place ≡ place + 1 = omega arith in
    (h.0, subst (λ (n : ℕ). drop n xs ≡ rest) next h.1)

-- nothing is left where there are no more places
pub none_left : {X : Type 0} (xs : List X) (place : ℕ) → drop place xs ≡ [] → length xs ≤ place
none_left [] place e = omega arith
none_left (y ∷ xs) zero e = absurd (cc)
none_left (y ∷ xs) (suc place) e = let rest = none_left xs place e in omega (arith, rest)

-- what is read of documents are as many
pub some_documents : (docs : List Document) (place : ℕ) → length docs ≤ place → length (map parsed_of docs) ≤ place
some_documents docs place past = let same = length-map docs parsed_of in omega (arith, past, same)

-- in ascending order, what is behind some is ascending
behind_ascends : (before after : List ℕ) → IsAscending nat_cmp (before ++ after) → IsAscending nat_cmp after
behind_ascends [] after a = a
behind_ascends (x ∷ before) after a = behind_ascends before after (tail_ascends nat_cmp x (before ++ after) a)

not_below_itself : (n : ℕ) → n < n → ⊥
not_below_itself n l = omega (arith, l)

-- a place that comes next among ascending ones
pub record ComesNext (place : ℕ) (after : List ℕ) : Type 0 where
  pub rest : List ℕ
  pub is : after ≡ place ∷ rest
  pub ahead : AllByRecursion (λ other. place + 1 ≤ other) rest

above : (first place : ℕ) (rest : List ℕ) → IsAscending nat_cmp (first ∷ rest) → first ≡ place → AllByRecursion (λ other. place + 1 ≤ other) rest
above first place rest a same =
    all_from (λ (other : ℕ). place + 1 ≤ other) rest (λ other m.
    let less : first < other = less_is first other (all_in (λ y. nat_cmp first y ≡ Less) rest other (head_below nat_cmp first rest a) m) in
    omega (arith, less, same))

-- where it is among those that are ahead
next_ahead : (place : ℕ) (after : List ℕ) → IsAscending nat_cmp after → AllByRecursion (λ other. place ≤ other) after → Contains after place → ComesNext place after
next_ahead place [] a ahead m = absurd (in_none place m)
next_ahead place (first ∷ rest) a ahead m =
    elim (in_cases first rest place m) as (λ _. ComesNext place (first ∷ rest)) [
      | inl same ↦ record { rest = rest; is = ap (λ (n : ℕ). n ∷ rest) same; ahead = above first place rest a same }
      | inr n ↦
          let less : first < place = less_is first place (all_in (λ y. nat_cmp first y ≡ Less) rest place (head_below nat_cmp first rest a) n) in
          let here = ahead.0 in
          absurd (omega (arith, less, here))
    ]

-- and where it is not, the next one is ahead too
past_ahead : (place : ℕ) (after : List ℕ) → AllByRecursion (λ other. place ≤ other) after → (Contains after place → ⊥) → AllByRecursion (λ other. place + 1 ≤ other) after
past_ahead place after ahead never =
    all_from (λ (other : ℕ). place + 1 ≤ other) after (λ other m.
    let least : place ≤ other = all_in (λ (k : ℕ). place ≤ k) after other ahead m in
    let apart : place ≡ other → ⊥ = λ same. never (subst (λ (k : ℕ). Contains after k) (sym same) m) in
    elim (cases_order place other) as (λ _. place + 1 ≤ other) [
      | inl same ↦ absurd (apart same)
      | inr order ↦ elim order as (λ _. place + 1 ≤ other) [ inl less ↦ omega (arith, less) | inr more ↦ omega (arith, least, more) ]
    ])

-- what was read of the documents before this place: those of them whose places are among these say this, one by one
pub record IsReadBefore (documents : List Parsed) (kinds : List Entity) (places : List ℕ) (place : ℕ) (ds : List doc.Document) : Type 0 where
  pub before : List ℕ
  pub after : List ℕ
  pub split : places ≡ before ++ after
  pub passed : AllByRecursion (λ other. other < place) before
  pub ahead : AllByRecursion (λ other. place ≤ other) after
  pub say : AllSayAt documents kinds before ds

module _ (documents : List Parsed) (kinds : List Entity) where
  pub some_said : (place : ℕ) (d : doc.Document) → IsSaidAt documents kinds place d → SaysSomeAt documents kinds place
  some_said place d h p e = (said_of d, subst (λ (x : Parsed). SaysUnder kinds x (said_of d)) (same_Some h.parsed p (sym h.there ∙ e)) h.said.says)

  pub all_some : (places : List ℕ) (ds : List doc.Document) → AllSayAt documents kinds places ds → AllByRecursion (SaysSomeAt documents kinds) places
  all_some [] ds h = tt
  all_some (p ∷ ps) [] h = absurd h
  all_some (p ∷ ps) (d ∷ ds) h = (some_said p d h.0, all_some ps ds h.1)

  -- what they say stands in canonical form
  pub all_forms : (places : List ℕ) (ds : List doc.Document) → AllSayAt documents kinds places ds → AllZip (HasFormAt documents kinds) places (map ontology_of ds)
  all_forms [] [] h = tt
  all_forms [] (d ∷ ds) h = absurd h
  all_forms (p ∷ ps) [] h = absurd h
  all_forms (p ∷ ps) (d ∷ ds) h =
      (record { parsed = h.0.parsed; there = h.0.there; said = said_of d; says = h.0.said.says; form = h.0.said.canonical }, all_forms ps ds h.1)

  -- one document after the other
  module _ (places : List ℕ) (ascends : IsAscending nat_cmp places) where
    pub none_read : IsReadBefore documents kinds places 0 []
    none_read = record { before = []; after = places; split = refl; passed = tt; ahead = all_from (λ (other : ℕ). 0 ≤ other) places (λ other m. omega arith); say = tt }

    module _ (place : ℕ) (ds : List doc.Document) (h : IsReadBefore documents kinds places place ds) where
      -- a place that is wanted comes next
      comes_next : Contains places place → ComesNext place h.after
      comes_next m =
          elim (Contains-append_cases h.before h.after place (subst (λ (ps : List ℕ). Contains ps place) h.split m)) as (λ _. ComesNext place h.after) [
            | inl n ↦ absurd (not_below_itself place (all_in (λ (other : ℕ). other < place) h.before place h.passed n))
            | inr n ↦ next_ahead place h.after (behind_ascends h.before h.after (subst (IsAscending nat_cmp) h.split ascends)) h.ahead n
          ]

      passed_later : AllByRecursion (λ other. other < place + 1) h.before
      passed_later = all_from (λ (other : ℕ). other < place + 1) h.before (λ other m.
          let less : other < place = all_in (λ (k : ℕ). k < place) h.before other h.passed m in
          omega (arith, less))

      pub read_more : Contains places place → (parsed : Parsed) → slice_get documents place ≡ Some parsed → (new : List doc.Document) → SaysNext kinds parsed ds new → IsReadBefore documents kinds places (place + 1) new
      read_more m parsed there new n =
          let next = comes_next m in
          let here : IsSaidAt documents kinds place n.more = record { parsed = parsed; there = there; said = n.said } in
          record {
            before = h.before ++ place ∷ [];
            after = next.rest;
            split = h.split ∙ ap (λ (ps : List ℕ). h.before ++ ps) next.is ∙ sym (append_assoc h.before (place ∷ []) next.rest);
            passed = all_pushed (λ (other : ℕ). other < place + 1) h.before place passed_later (omega arith);
            ahead = next.ahead;
            say = subst (λ (es : List doc.Document). AllSayAt documents kinds (h.before ++ place ∷ []) es) (sym n.is) (all_zipped_more (IsSaidAt documents kinds) h.before ds place n.more h.say here);
          }

      pub read_past : (Contains places place → ⊥) → IsReadBefore documents kinds places (place + 1) ds
      read_past never = record {
        before = h.before;
        after = h.after;
        split = h.split;
        passed = passed_later;
        ahead = past_ahead place h.after h.ahead (λ m. never (subst (λ (ps : List ℕ). Contains ps place) (sym h.split) (Contains-append_right h.before h.after place m)));
        say = h.say;
      }

      pub fault_found : Contains places place → (fault : UnsaidFault) → IsFaultAt documents kinds place fault → IsFirstFault documents kinds places (record { document = place; fault = fault })
      fault_found m fault f =
          let next = comes_next m in
          record { before = h.before; after = next.rest; split = h.split ∙ ap (λ (ps : List ℕ). h.before ++ ps) next.is; say = all_some h.before ds h.say; fault = f }

      -- one document, which is read where it is wanted
      pub read_at : (parsed : Parsed) → slice_get documents place ≡ Some parsed → (new : List doc.Document) → (Contains places place × SaysNext kinds parsed ds new) ⊎ ((Contains places place → ⊥) × (new ≡ ds)) → IsReadBefore documents kinds places (place + 1) new
      read_at parsed there new (inl wanted) = read_more wanted.0 parsed there new wanted.1
      read_at parsed there new (inr other) = subst (IsReadBefore documents kinds places (place + 1)) (sym other.1) (read_past other.0)

      -- all documents are read
      pub all_read : AreReached (heads_in documents) places → 0 < length documents → length documents ≤ place → AllSayAt documents kinds places ds
      all_read reached some past = ends h.after refl
        where
          ends : (after : List ℕ) → h.after ≡ after → AllSayAt documents kinds places ds
          ends [] e = subst (λ (ps : List ℕ). AllSayAt documents kinds ps ds) (sym (h.split ∙ ap (λ (ps : List ℕ). h.before ++ ps) e ∙ append-nil h.before)) h.say
          ends (next ∷ rest) e =
              let there : Contains places next = subst (λ (ps : List ℕ). Contains ps next) (sym h.split) (Contains-append_right h.before h.after next (subst (λ (ps : List ℕ). Contains ps next) (sym e) (in_head next rest))) in
              let many : length (heads_in documents) ≡ length documents = length-map documents _ in
              let within = reached_within (heads_in documents) next (omega (arith, some, many)) ((reached.reached next).0 there) in
              let least : place ≤ next = (subst (AllByRecursion (λ other. place ≤ other)) e h.ahead).0 in
              absurd (omega (arith, past, within, least, many))

-- what the documents of a closure say
module _ (documents : List Parsed) (closure : Closure) (c : IsClosure documents closure) (ds : List doc.Document) (all : AllSayAt documents closure.kinds closure.places.items ds) where
  stands_first : (places : List ℕ) (own : List doc.Document) → AreReached (heads_in documents) places → AllSayAt documents closure.kinds places own → (d : doc.Document) → d ≡ get_or own 0 d → IsSaidAt documents closure.kinds 0 d
  stands_first [] own r h d f = let some = some_reached (heads_in documents) [] r in absurd (omega (arith, some))
  stands_first (p ∷ ps) [] r h d f = absurd h
  stands_first (p ∷ ps) (x ∷ xs) r h d f =
      subst (λ (n : ℕ). IsSaidAt documents closure.kinds n d) (first_reached (heads_in documents) p ps r)
      (subst (λ (y : doc.Document). IsSaidAt documents closure.kinds p y) (sym f) h.0)

  pub as_many : length closure.places.items ≡ length ds
  as_many = sym (AllZip-long (IsSaidAt documents closure.kinds) closure.places.items ds all)

  pub some_read : 0 < length ds
  some_read =
      let some = some_reached (heads_in documents) closure.places.items c.reached in
      let same = as_many in
      omega (arith, some, same)

  -- what the main one says stands first
  pub main_said : (d : doc.Document) → d ≡ get_or ds 0 d → IsSaidAt documents closure.kinds 0 d
  main_said d e = stands_first closure.places.items ds c.reached all d e

  pub main_there : (d : doc.Document) × IsSaidAt documents closure.kinds 0 d
  main_there = found ds all some_read
    where
      found : (own : List doc.Document) → AllSayAt documents closure.kinds closure.places.items own → 0 < length own → (d : doc.Document) × IsSaidAt documents closure.kinds 0 d
      found [] h l = absurd (omega (arith, l))
      found (x ∷ xs) h l = (x, stands_first closure.places.items (x ∷ xs) c.reached h x refl)
