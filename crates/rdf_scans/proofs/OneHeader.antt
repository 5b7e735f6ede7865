-- The search for the one header of a graph.
use Rattle.std.proofs.Common.{◌≡◌, ◌≤◌, ℕ, List, [], ◌∷◌, Option, None, Some, arith, length, sym, ap, ◌∙◌, subst}
use Rattle.std.specs.Prelude.{IfErr, IfOk, IsSome, option_map}
use Rattle.std.specs.Option.{ok_or}
use Rattle.std.specs.List.{cons_option}
use denote.Ref.{Bor}
use Rattle.rdf_graph.specs.declared.term.Term.{Term}
use Rattle.rdf_graph.specs.declared.triple.Triple.{Triple}
use Rattle.rdf_meaning.specs.declared.word.Word.TheVariants as word
use Rattle.rdf_meaning.specs.Statements.{headers}
use Rattle.rdf_scans.specs.Outlines.{IsOutlineFault}
use Rattle.rdf_scans.specs.declared.fault.OutlineFault.TheVariants.{NoHeader}
use Rattle.rdf_scans.proofs.Passed.{left}
use Rattle.rdf_scans.proofs.Subjects.{subjects}

-- the header that was found, and those that are left, are all
abbrev pub HasFound : List Triple → Option (Bor Term) → ℕ → Type 0
HasFound ts found index = headers ts ≡ cons_option (option_map (λ x. x.now) found) (subjects (left word.Ontology ts index))

module _ (ts : List Triple) (index : ℕ) where
  pub two : (found : Option (Bor Term)) (t : Triple) (more : List Triple) → IsSome found → left word.Ontology ts index ≡ t ∷ more → HasFound ts found index → 2 ≤ length (headers ts)
  two None t more some here has = cc
  two (Some x) t more some here has = subst (λ xs. 2 ≤ length xs) (sym (has ∙ ap (λ us. x.now ∷ subjects us) here)) (omega arith)

  -- all triples were passed
  module _ (last : left word.Ontology ts index ≡ []) where
    pub one : (found : Option (Bor Term)) → HasFound ts found index → IfOk (ok_or found NoHeader) (λ x. headers ts ≡ x.now ∷ [])
    one None has = tt
    one (Some x) has = has ∙ ap (λ us. x.now ∷ subjects us) last

    pub none : (found : Option (Bor Term)) → HasFound ts found index → IfErr (ok_or found NoHeader) (IsOutlineFault ts)
    none None has = has ∙ ap subjects last
    none (Some x) has = tt
