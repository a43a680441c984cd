-- The calls of one method of a fake: how many were made, and which of them fail.
use Rattle.std.specs.Prelude.{ℕ, zero, suc, ◌+◌, ◌-◌, ◌^◌, Bool, false, nat_lt, ◌==◌, List, [], ◌∷◌, ◌++◌, if◌then◌else◌}
use Rattle.std.specs.List.{list_any}

-- how many calls were made, and the numbers, from 1 on, of those that fail
pub record CallPlan : Type 0 where
  pub made : ℕ
  pub failing : List ℕ

-- the call of this number is one of those that fail
abbrev pub fails_at : List ℕ → ℕ → Bool
fails_at failing nth = list_any (λ n. n == nth) failing

-- how many of the first calls fail
abbrev pub faults_among : List ℕ → ℕ → ℕ
faults_among failing zero = 0
faults_among failing (suc n) = faults_among failing n + (if fails_at failing (suc n) then 1 else 0)

-- how many of the calls made so far failed
abbrev pub faults_of : CallPlan → ℕ
faults_of plan = faults_among plan.failing plan.made

-- the same calls, but that the call of this number fails too, if it has yet to come
abbrev pub with_failure : CallPlan → ℕ → CallPlan
with_failure plan nth = record { made = plan.made; failing = if nat_lt plan.made nth then plan.failing ++ nth ∷ [] else plan.failing }

-- calls are counted up to number 2 ^ 64 - 1
abbrev pub has_number : CallPlan → Bool
has_number plan = nat_lt plan.made (2 ^ 64 - 1)

-- the next call fails; one without a number never does
abbrev pub next_fails : CallPlan → Bool
next_fails plan = if has_number plan then fails_at plan.failing (plan.made + 1) else false

-- the same calls, and one more
abbrev pub with_call : CallPlan → CallPlan
with_call plan = record { made = if has_number plan then plan.made + 1 else plan.made; failing = plan.failing }

-- no call was made, and none fails
abbrev pub no_calls : CallPlan
no_calls = record { made = 0; failing = [] }
