-- What the next call, and a failure that is planned, do to a count of faults.
use Rattle.std.proofs.Common.{ℕ, zero, suc, ◌≡◌, ◌+◌, ◌<◌, Bool, true, false, nat_lt, List, [], ◌∷◌, ◌++◌, if◌then◌else◌, refl, ◌∙◌, add-one, arith}
use Rattle.std.proofs.lemmas.Bool.Decides.{nat_tests}
use borrow.Author.Tests.{ltb-true}
use Rattle.mp_outside.specs.Calls.{CallPlan, fails_at, faults_among, faults_of, with_failure}

next_faults : (failing : List ℕ) (made : ℕ) (fails : Bool) → fails ≡ fails_at failing (made + 1) → faults_among failing (made + 1) ≡ faults_among failing made + (if fails then 1 else 0)
next_faults failing made fails is = rw (is, add-one) refl

-- the next call fails, and so there is one more fault
pub faults-failed : (failing : List ℕ) (made : ℕ) (fails : Bool) → fails ≡ fails_at failing (made + 1) → fails ≡ true → faults_among failing (made + 1) ≡ faults_among failing made + 1
faults-failed failing made fails is failed = next_faults failing made fails is ∙ (rw failed refl)

-- the next call doesn't fail
pub faults-served : (failing : List ℕ) (made : ℕ) (fails : Bool) → fails ≡ fails_at failing (made + 1) → fails ≡ false → faults_among failing (made + 1) ≡ faults_among failing made
faults-served failing made fails is served = next_faults failing made fails is ∙ (rw served (omega arith))

-- a failure with a later number leaves the calls so far as they were
fails_at-other : (failing : List ℕ) (nth n : ℕ) → n < nth → fails_at (failing ++ nth ∷ []) n ≡ fails_at failing n
fails_at-other [] nth n before = grind (arith, nat_tests)
fails_at-other (f ∷ failing) nth n before = rw (fails_at-other failing nth n before) refl

pub faults_among-other : (failing : List ℕ) (nth made : ℕ) → made < nth → faults_among (failing ++ nth ∷ []) made ≡ faults_among failing made
faults_among-other failing nth zero before = refl
faults_among-other failing nth (suc made) before =
    rw (faults_among-other failing nth made (omega arith), fails_at-other failing nth (suc made) before) refl

-- no fault is counted before its call is made
pub faults-with_failure : (plan : CallPlan) (nth : ℕ) → faults_of (with_failure plan nth) ≡ faults_of plan
faults-with_failure plan nth = by_test (nat_lt plan.made nth) refl
  where
    by_test : (later : Bool) → nat_lt plan.made nth ≡ later → faults_among (if later then plan.failing ++ nth ∷ [] else plan.failing) plan.made ≡ faults_among plan.failing plan.made
    by_test true is = faults_among-other plan.failing nth plan.made (ltb-true plan.made nth is)
    by_test false is = refl
