use Rattle.std.proofs.Common.{refl, subst, sym, ◌∙◌}
use Rattle.std.specs.Prelude.{codes}
use Rattle.owl_atom.specs.Prefixes.{AreAscending, IsTable}
use Rattle.owl_atom.proofs.FixedPrefixes.{fixed_table, four}
use Rattle.rdf_terms.proofs.WordLaws.{http_iri}
use Rattle.owl_atom.proofs.prefixes.Prefixes.fixed.Goals as goal

pub fixed-requires : goal.fixed-requires
fixed-requires c = http_iri (codes "//www.w3.org/2002/07/owl#") refl refl

pub fixed-requires-2 : goal.fixed-requires-2
fixed-requires-2 c = http_iri (codes "//www.w3.org/1999/02/22-rdf-syntax-ns#") refl refl

pub fixed-requires-3 : goal.fixed-requires-3
fixed-requires-3 c = http_iri (codes "//www.w3.org/2000/01/rdf-schema#") refl refl

pub fixed-requires-4 : goal.fixed-requires-4
fixed-requires-4 c = http_iri (codes "//www.w3.org/2001/XMLSchema#") refl refl

pub of-requires : goal.of-requires
of-requires c = subst AreAscending (sym (four _ _ _ _ _ _ _ _ _ c.new-held.ensures.items c.in_ok-push.ensures c.in_ok-push-2.ensures c.in_ok-push-3.ensures c.in_ok-push-4.ensures c.in_ok-fixed.ensures c.in_ok-fixed-2.ensures c.in_ok-fixed-3.ensures c.in_ok-fixed-4.ensures)) fixed_table.ascending

pub invariant_of-result : goal.invariant_of-result
invariant_of-result c = (subst IsTable (sym (c.in_ok-held.ensures ∙ four _ _ _ _ _ _ _ _ _ c.new-held.ensures.items c.in_ok-push.ensures c.in_ok-push-2.ensures c.in_ok-push-3.ensures c.in_ok-push-4.ensures c.in_ok-fixed.ensures c.in_ok-fixed-2.ensures c.in_ok-fixed-3.ensures c.in_ok-fixed-4.ensures)) fixed_table, tt)

pub returns : goal.returns
returns c = c.in_ok-held.ensures ∙ four _ _ _ _ _ _ _ _ _ c.new-held.ensures.items c.in_ok-push.ensures c.in_ok-push-2.ensures c.in_ok-push-3.ensures c.in_ok-push-4.ensures c.in_ok-fixed.ensures c.in_ok-fixed-2.ensures c.in_ok-fixed-3.ensures c.in_ok-fixed-4.ensures
