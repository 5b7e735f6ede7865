-- Kids as lists, and back.
use Rattle.std.proofs.Common.{refl, sym, ap, ◌∙◌}
use Rattle.std.specs.Prelude.{◌≡◌, List, [], ◌∷◌}
use Rattle.owl_tree.specs.Trees.{Tree, Kids, no_kids, kid, list_of, kids_of}

pub list_of_kids_of : (ts : List Tree) → list_of (kids_of ts) ≡ ts
list_of_kids_of [] = refl
list_of_kids_of (t ∷ ts) = ap (λ (us : List Tree). t ∷ us) (list_of_kids_of ts)

pub kids_of_list_of : (ks : Kids) → kids_of (list_of ks) ≡ ks
kids_of_list_of no_kids = refl
kids_of_list_of (kid t ks) = ap (λ (ls : Kids). kid t ls) (kids_of_list_of ks)

pub kids_of_only : (ts us : List Tree) → kids_of ts ≡ kids_of us → ts ≡ us
kids_of_only ts us e = sym (list_of_kids_of ts) ∙ ap list_of e ∙ list_of_kids_of us
