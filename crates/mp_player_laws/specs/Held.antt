-- How what a worker holds to route changes with its steps.
use Rattle.std.specs.Prelude.{◌≡◌, ◌↔◌, ◌⊎◌, ℕ, suc, true, List}
use Rattle.mp_names.specs.declared.names.Name.{Name}
use Rattle.mp_names.specs.declared.names.Name.TheVariants.{Rec, Group}
use Rattle.mp_names.specs.declared.kinds.Kind.{Kind}
use Rattle.mp_names.specs.declared.kinds.Kind.TheVariants.{Ingest, Route, Apply}
use Rattle.mp_names.specs.Names.{In, is_rec}
use Rattle.mp_names.specs.Frontiers.{is_held}
use Rattle.mp_machine.specs.Steps.{CanStep, logged, names_of}
use Rattle.mp_machine.specs.Promises.{InEveryRun}

-- the step with this name gives the record: it ingests it, or it applies the group that made it
abbrev pub Gives : Kind → Name → Name → Type 0
Gives Ingest x y = x ≡ y
Gives (Apply j) x (Rec (suc i) t k g) = x ≡ Group i t g.0
Gives _ x y = ⊥

-- a step with these names routes the record
abbrev pub Routes : Kind → List Name → Name → Type 0
Routes (Route j) xs y = In y xs
Routes _ xs y = ⊥

-- a record is held after a step of a run where it was held and isn't routed by it, or is given by it
abbrev pub HeldChanges : Type 0
HeldChanges =
    InEveryRun (λ o depth world.
    (w : ℕ) (kind : Kind) (x : Name)
    → CanStep o depth world w kind x
    → let log = (world.worker w).log in
    let xs = names_of o world w kind x in
    (j : ℕ) (y : Name) → is_rec j y ≡ true → (is_held o w (logged kind log xs) y ≡ true) ↔ (((is_held o w log y ≡ true) × (Routes kind xs y → ⊥)) ⊎ Gives kind x y))
