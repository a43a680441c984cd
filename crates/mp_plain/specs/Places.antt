-- The places of a job by their numbers.
use Rattle.std.specs.Prelude.{◌<◌, ◌+◌, ◌*◌, ℕ}
use Rattle.mp_names.specs.declared.controls.Shape.{Shape}
use Rattle.mp_plain.specs.declared.places.Place.{Place}

-- how many kinds of step a worker has
abbrev pub kind_count : Shape → ℕ
kind_count shape = 4 * shape.stages + shape.workers + 5

-- A worker of a job of this shape, and one of its kinds
pub record IsPlaceIn (shape : Shape) (place : Place) : Type 0 where
  pub worker : place.worker < shape.workers
  pub kind : place.kind < kind_count shape

-- its number: by worker, and then by kind
abbrev pub place_number : Shape → Place → ℕ
place_number shape place = kind_count shape * place.worker + place.kind
