-- What a router gives up to be sent.
use Rattle.std.specs.Prelude.{◌≡◌, ℕ, ◌∷◌, List, IfNone, IfOk, IfSome, Option, Result}
use Rattle.std.specs.declared.alloc.AllocError.{AllocError}
use Rattle.mp_names.specs.declared.names.Name.{Name}
use Rattle.mp_names.specs.Logs.{Log}
use Rattle.mp_machine.specs.Messages.{bundle_of}
use Rattle.mp_model.specs.Facts.{JobFacts, QueryFacts}
use Rattle.mp_outline.specs.JobOutline.{outline_of}
use Rattle.mp_msg.specs.Bundles.{Bundled, names_in}

-- where there is a bundle this holds of it
abbrev pub IfSent : Result (Option Bundled) AllocError → (Bundled → Type 0) → Type 0
IfSent result P = IfOk result (λ o. IfSome o P)

-- where there is none, and memory was there, this holds
abbrev pub IfNoneSent : Result (Option Bundled) AllocError → Type 0 → Type 0
IfNoneSent result P = IfOk result (λ o. IfNone o P)

-- the bundle's names begin with this one, and are those that the machine sends with it
abbrev pub IsBundleOf : {Cell : Type 0} → QueryFacts Cell → JobFacts → ℕ → Log → ℕ → Name → Bundled → Type 0
IsBundleOf q job w log j x b = (names_in b ≡ bundle_of (outline_of q job) w log j x) × ((rest : List Name) × (names_in b ≡ x ∷ rest))
