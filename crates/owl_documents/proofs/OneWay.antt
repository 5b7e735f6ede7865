-- Documents are read in one way, or refused in one way.
use Rattle.std.proofs.Common.{◌≡◌, ◌+◌, inl, inr, ℕ, List, [], ◌∷◌, length, sym, ◌∙◌, subst, arith}
use Rattle.owl_command.specs.Commands.{Source}
use Rattle.owl_documents.specs.Documents.{AreFew, AreReadFrom, Contents, FollowsRead, IsRead, IsRefused, IsRefusedAt, Parsed, Reads, defective, limit_of_all, own_limit}
use Rattle.owl_documents.specs.OneWay.{AreSame, IsSameParsed}
use Rattle.owl_documents.specs.declared.trouble.Refusal.{Refusal}
use Rattle.owl_documents.proofs.Defects.{GrammarLaws, no_defect, one_defect, same_parsed}

module _ (laws : GrammarLaws) where
  module _ (contents : Contents) where
    same_read : (before : ℕ) (source : Source) (bytes others : List ℕ) (parsed other : Parsed) → IsRead contents before source bytes parsed → IsRead contents before source others other → (others ≡ bytes) × IsSameParsed parsed other
    same_read before source bytes others parsed other r s =
        let e : others ≡ bytes = let there = r.there in let again = s.there in cc in
        (e, same_parsed laws source.base source.name bytes parsed other r.reads (subst (λ (x : List ℕ). Reads source.base source.name x other) e s.reads))

    few_refused : (before : ℕ) (source : Source) (bytes : List ℕ) (parsed : Parsed) (refusal : Refusal) → AreFew before (length bytes) → Reads source.base source.name bytes parsed → IsRefused before source bytes refusal → ⊥
    few_refused before source bytes parsed refusal few reads (own_limit l w e) = let f = few.own in absurd (omega arith)
    few_refused before source bytes parsed refusal few reads (limit_of_all l w e) = let f = few.all in absurd (omega arith)
    few_refused before source bytes parsed refusal few reads (defective w d) = no_defect laws source.base source.name bytes parsed refusal reads d

    not_refused : (before : ℕ) (source : Source) (bytes : List ℕ) (parsed : Parsed) (refusal : Refusal) → IsRead contents before source bytes parsed → IsRefusedAt contents source refusal before → ⊥
    not_refused before source bytes parsed refusal r s =
        let e : s.bytes ≡ bytes = let there = r.there in let again = s.there in cc in
        few_refused before source bytes parsed refusal r.few r.reads (subst (λ (x : List ℕ). IsRefused before source x refusal) e s.refused)

    one_refusal : (before : ℕ) (source : Source) (bytes : List ℕ) (refusal other : Refusal) → IsRefused before source bytes refusal → IsRefused before source bytes other → refusal ≡ other
    one_refusal before source bytes refusal other (own_limit l w e) (own_limit m v f) = e ∙ sym f
    one_refusal before source bytes refusal other (own_limit l w e) (limit_of_all m v f) = absurd (omega arith)
    one_refusal before source bytes refusal other (own_limit l w e) (defective few d) = let k = few.own in absurd (omega arith)
    one_refusal before source bytes refusal other (limit_of_all l w e) (own_limit m v f) = absurd (omega arith)
    one_refusal before source bytes refusal other (limit_of_all l w e) (limit_of_all m v f) = e ∙ sym f
    one_refusal before source bytes refusal other (limit_of_all l w e) (defective few d) = let k = few.all in absurd (omega arith)
    one_refusal before source bytes refusal other (defective few d) (own_limit m v f) = let k = few.own in absurd (omega arith)
    one_refusal before source bytes refusal other (defective few d) (limit_of_all m v f) = let k = few.all in absurd (omega arith)
    one_refusal before source bytes refusal other (defective few d) (defective w c) = one_defect laws source.base source.name bytes refusal other few.own d c

    same_refusal : (before : ℕ) (source : Source) (refusal other : Refusal) → IsRefusedAt contents source refusal before → IsRefusedAt contents source other before → refusal ≡ other
    same_refusal before source refusal other r s =
        let e : s.bytes ≡ r.bytes = let there = r.there in let again = s.there in cc in
        one_refusal before source r.bytes refusal other r.refused (subst (λ (x : List ℕ). IsRefused before source x other) e s.refused)

    pub read_same : (before : ℕ) (sources : List Source) (documents others : List Parsed) (after later : ℕ) → AreReadFrom contents before sources documents after → AreReadFrom contents before sources others later → AreSame documents others
    read_same before [] [] [] after later r s = tt
    read_same before [] [] (other ∷ others) after later r s = absurd s
    read_same before [] (parsed ∷ documents) others after later r s = absurd r
    read_same before (source ∷ sources) [] others after later r s = absurd r
    read_same before (source ∷ sources) (parsed ∷ documents) [] after later r s = absurd s
    read_same before (source ∷ sources) (parsed ∷ documents) (other ∷ others) after later r s =
        let one = same_read before source r.0 s.0 parsed other r.1 s.1 in
        (one.1, read_same (before + length r.0) sources documents others after later r.2 (subst (λ (x : List ℕ). AreReadFrom contents (before + length x) sources others later) one.0 s.2))

    pub refused_once : (before : ℕ) (sources : List Source) (source other : Source) (refusal another : Refusal) → FollowsRead contents (IsRefusedAt contents source refusal) before sources source → FollowsRead contents (IsRefusedAt contents other another) before sources other → (source ≡ other) × (refusal ≡ another)
    refused_once before [] source other refusal another r s = absurd r
    refused_once before (first ∷ sources) source other refusal another (inl r) (inl s) =
        let e : other ≡ source = s.0 ∙ sym r.0 in
        (sym e, same_refusal before source refusal another r.1 (subst (λ (x : Source). IsRefusedAt contents x another before) e s.1))
    refused_once before (first ∷ sources) source other refusal another (inl r) (inr s) =
        absurd (not_refused before first s.0 s.1 refusal s.2 (subst (λ (x : Source). IsRefusedAt contents x refusal before) r.0 r.1))
    refused_once before (first ∷ sources) source other refusal another (inr r) (inl s) =
        absurd (not_refused before first r.0 r.1 another r.2 (subst (λ (x : Source). IsRefusedAt contents x another before) s.0 s.1))
    refused_once before (first ∷ sources) source other refusal another (inr r) (inr s) =
        let e = (same_read before first r.0 s.0 r.1 s.1 r.2 s.2).0 in
        refused_once (before + length r.0) sources source other refusal another r.3 (subst (λ (x : List ℕ). FollowsRead contents (IsRefusedAt contents other another) (before + length x) sources other) e s.3)

    pub never_both : (before : ℕ) (sources : List Source) (documents : List Parsed) (after : ℕ) (source : Source) (refusal : Refusal) → AreReadFrom contents before sources documents after → FollowsRead contents (IsRefusedAt contents source refusal) before sources source → ⊥
    never_both before [] documents after source refusal r s = s
    never_both before (first ∷ sources) [] after source refusal r s = r
    never_both before (first ∷ sources) (parsed ∷ documents) after source refusal r (inl s) =
        not_refused before first r.0 parsed refusal r.1 (subst (λ (x : Source). IsRefusedAt contents x refusal before) s.0 s.1)
    never_both before (first ∷ sources) (parsed ∷ documents) after source refusal r (inr s) =
        let e = (same_read before first r.0 s.0 parsed s.1 r.1 s.2).0 in
        never_both (before + length r.0) sources documents after source refusal r.2 (subst (λ (x : List ℕ). FollowsRead contents (IsRefusedAt contents source refusal) (before + length x) sources source) e s.3)
