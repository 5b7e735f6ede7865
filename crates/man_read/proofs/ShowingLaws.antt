-- What is shown behind an act.
use Rattle.std.proofs.Common.{◌≡◌, ◌<◌, ◌+◌, ℕ, Bool, false, List, Option, Result, Ok, Err, refl, sym, ap, ◌∙◌, subst, arith}
use Rattle.std.specs.Prelude.{if◌then◌else◌, nat_le}
use Rattle.owl_lexer.specs.declared.placed.Placed.{Placed}
use Rattle.owl_reader.specs.Computing.{Computes, TurnsTo}
use Rattle.owl_reader.specs.Steps.{token_in}
use Rattle.owl_reader.specs.declared.fault.TokenFault.{TokenFault}
use Rattle.owl_reader.specs.declared.fault.TokenFault.TheVariants.{TooDeep}
use Rattle.owl_tokens.specs.declared.token.Token.{Token}
use Rattle.owl_tree.specs.declared.atom.Atom.{Atom}
use Rattle.owl_tree.specs.declared.atom.Atom.TheVariants as atom
use Rattle.rdf_terms.specs.Literals.{of_datatype, string}
use Rattle.man_raw.specs.Documents.{HeadTree}
use Rattle.man_raw.specs.Opened.{Opening, most_nests}
use Rattle.man_raw.specs.declared.document.RawHead.{RawHead}
use Rattle.man_grammar.specs.States.{State, and_then, form_in, heading, nested, place_in, plain_read, putting}
use Rattle.man_read.specs.Showing.{Shows, head_of}
use Rattle.man_read.specs.declared.assembler.Assembler.{Assembler}

module _ (old : Assembler) (state : State) (h : Shows old state) where
  -- the head, with an IRI
  pub head_read : (r : Result (List ℕ) TokenFault) (iri : List ℕ) → r ≡ Ok iri → (with_iri : List ℕ → HeadTree) (head : RawHead) → head_of head ≡ with_iri iri → TurnsTo Shows (Ok tt) (record old { head = head }) (heading state (and_then r (λ iri. Ok (with_iri iri))))
  head_read r iri e with_iri head is = (
    record state { head = with_iri iri },
    ap (λ x. heading state (and_then x (λ iri. Ok (with_iri iri)))) e,
    record { names = h.names; form_at = h.form_at; form = h.form; opening = h.opening; head = is; notes = h.notes; listing = h.listing },
  )

  few : (n m : ℕ) → n < m → nat_le m n ≡ false
  few n m k = grind arith

  -- one nest more
  pub nest_read : (opened : Opening) → old.opened.nests < most_nests → opened ≡ record old.opened { nests = old.opened.nests + 1 } → TurnsTo Shows (Ok tt) (record old { opened = opened }) (nested state)
  nest_read opened room is =
      let now = record state { opening = record state.opening { nests = state.opening.nests + 1 } } in
      let is_few = ap (λ (o : Opening). nat_le most_nests o.nests) (sym h.opening) ∙ few old.opened.nests most_nests room in (
        now,
        ap (λ (b : Bool). if b then Err TooDeep else Ok now) is_few,
        record {
          names = h.names;
          form_at = h.form_at;
          form = h.form;
          opening = is ∙ ap (λ (o : Opening). record o { nests = o.nests + 1 }) h.opening;
          head = h.head;
          notes = h.notes;
          listing = h.listing;
        },
      )

  -- a form is kept
  pub form_read : (next : Option (Placed Token)) (at : ℕ) (form : List ℕ) → form_in (token_in next) ≡ Ok form → at ≡ place_in next → TurnsTo Shows (Ok tt) (record old { form_at = at; form = form }) (and_then (form_in (token_in next)) (λ form. Ok (record state { form_at = place_in next; form = form })))
  form_read next at form e place = (
    record state { form_at = place_in next; form = form },
    ap (λ r. and_then r (λ form. Ok (record state { form_at = place_in next; form = form }))) e,
    record { names = h.names; form_at = place; form = refl; opening = h.opening; head = h.head; notes = h.notes; listing = h.listing },
  )

  -- the literal of a form alone
  pub plain_is : (read : Result Atom TokenFault) (r : Result (Unit {0}) TokenFault) (new : Assembler) → Computes read (Ok (atom.Literal (of_datatype old.form string))) → ((state : State) (wanted : Result Atom TokenFault) → Shows old state → Computes read wanted → TurnsTo Shows r new (putting state old.form_at wanted)) → TurnsTo Shows r new (plain_read state)
  plain_is read r new computes puts =
      subst (λ (at : ℕ). TurnsTo Shows r new (putting state at (Ok (atom.Literal (of_datatype state.form string))))) h.form_at
      (puts state (Ok (atom.Literal (of_datatype state.form string))) h (subst (λ (form : List ℕ). Computes read (Ok (atom.Literal (of_datatype form string)))) h.form computes))
