-- What is known of a sink once another was in front of it.
use Rattle.std.proofs.Common.{ℕ, ◌≡◌, ◌∷◌, ◌++◌, ◌∙◌, List, [], Option, Some, None, length, take, refl, sym, ap}
use Rattle.std.specs.Option.{ForSome}
use Rattle.std.proofs.Math.Seq.{take-append_seam}
use Rattle.mp_outside.specs.Files.{Files}
use Rattle.mp_outside.specs.Sink.{Beside, grown}
use Rattle.mp_buffered.specs.Beside.{in_front}

-- the one in front still writes through the same reference
pub same_lender : (a b : ℕ) (old new : Beside) → in_front b new ≡ in_front a old → b ≡ a
same_lender a b old new same = ap (λ (beside : Beside). beside.lender) same

-- the other has beside its bytes what it had
pub same_beside : (a b : ℕ) (old new : Beside) → in_front b new ≡ in_front a old → new ≡ old
same_beside a b old new same = by_parts _ _ _ _ _ _ _ _ (ap (λ (beside : Beside). beside.name) same) (ap (λ (beside : Beside). beside.others) same) (ap (λ (beside : Beside). beside.read_faults) same)
  where
    by_parts : (l l' : ℕ) (n n' : List ℕ) (o o' : Option Files) (r r' : ℕ) → l' ∷ n' ≡ l ∷ n → o' ≡ o → r' ≡ r →
        ◌≡◌ {A = Beside} (record { lender = l'; name = n'; others = o'; read_faults = r' }) (record { lender = l; name = n; others = o; read_faults = r })
    by_parts l l' n n' o o' r r' names others faults = cc

-- Where nothing had been written, what reached the other is a beginning of what was written to the one in front.
pub begun_part : (old new : Option (List ℕ)) (waits text : List ℕ) → ForSome old (λ bytes. bytes ≡ []) → grown new waits ≡ grown old text → (k : ℕ) × (new ≡ grown old (take k text))
unfolding grown
begun_part None None waits text none is = (0, refl)
begun_part None (Some after) waits text none is = cc
begun_part (Some before) None waits text none is = cc
begun_part (Some before) (Some after) waits text none is =
    let empty : before ≡ [] = none before refl in
    let all : after ++ waits ≡ before ++ text = cc in
    let there : after ++ waits ≡ text = all ∙ ap (λ (bytes : List ℕ). bytes ++ text) empty in
    (length after, ap Some (rw empty (sym (take-append_seam after waits) ∙ ap (take (length after)) there)))
