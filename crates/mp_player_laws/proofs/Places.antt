-- What comes next of a list, and what stands at the place that is come to.
use Rattle.std.proofs.Common.{◌≡◌, List, [], ◌∷◌, ◌++◌, length, take, Some, refl, sym, ap, ◌∙◌, subst, append_assoc}
use Rattle.std.proofs.Math.Seq.{take-append_seam}
use Rattle.std.specs.List.{slice_get}
use Rattle.mp_names.specs.declared.names.Name.{Name}
use Rattle.mp_names.specs.Names.{IsPrefix}
use Rattle.mp_player_laws.specs.Decisions.{ComesNext}
use Rattle.mp_player_laws.specs.Numbers.{StandsAt}

at_seam : (xs rest : List Name) → slice_get (xs ++ rest) (length xs) ≡ slice_get rest 0
at_seam [] rest = refl
at_seam (x ∷ xs) rest = at_seam xs rest

-- a beginning is as many from the first on
pub beginning_is : (done all : List Name) → IsPrefix done all → done ≡ take (length done) all
beginning_is done all p = sym (take-append_seam done p.0) ∙ ap (take (length done)) p.1

pub next_stands : (done all : List Name) (x : Name) → ComesNext done all x → StandsAt all (length done) x
next_stands done all x n = subst (λ (l : List Name). slice_get l (length done) ≡ Some x) (sym (append_assoc done (x ∷ []) n.0) ∙ n.1) (at_seam done (x ∷ n.0))

pub stands_next : (done all : List Name) (x : Name) → IsPrefix done all → StandsAt all (length done) x → ComesNext done all x
stands_next done all x p h = go p.0 p.1
  where
    go : (rest : List Name) → done ++ rest ≡ all → ComesNext done all x
    go rest e = first rest e (sym (at_seam done rest) ∙ subst (λ (l : List Name). slice_get l (length done) ≡ Some x) (sym e) h)
      where
        first : (rest : List Name) → done ++ rest ≡ all → slice_get rest 0 ≡ Some x → ComesNext done all x
        first [] e f = absurd (cc)
        first (r ∷ rest) e f = let same : r ≡ x = cc in (rest, append_assoc done (x ∷ []) rest ∙ ap (λ (z : Name). done ++ z ∷ rest) (sym same) ∙ e)
