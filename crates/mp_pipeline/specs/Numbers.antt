-- A pipeline as numbers, and back.
use Rattle.std.specs.Prelude.{ℕ, zero, suc, List, [], ◌∷◌}
use Rattle.mp_pipeline.specs.declared.kinds.EventKind.{EventKind}
use Rattle.mp_pipeline.specs.declared.kinds.EventKind.TheVariants.{Person, Auction, Bid}
use Rattle.mp_pipeline.specs.declared.stage.Form.{Form}
use Rattle.mp_pipeline.specs.declared.stage.Form.TheVariants.{Pass, Count, Sum, Window}
use Rattle.mp_pipeline.specs.declared.stage.StageLine.{StageLine}
use Rattle.mp_pipeline.specs.declared.stage.Test.{Test}
use Rattle.mp_pipeline.specs.declared.stage.Test.TheVariants.{Any, Below, Equal, AtLeast}

abbrev pub number_of_kind : EventKind → ℕ
number_of_kind Person = 0
number_of_kind Auction = 1
number_of_kind Bid = 2

abbrev pub number_of_form : Form → ℕ
number_of_form Pass = 0
number_of_form Count = 1
number_of_form Sum = 2
number_of_form Window = 3

abbrev pub number_of_test : Test → ℕ
number_of_test Any = 0
number_of_test Below = 1
number_of_test Equal = 2
number_of_test AtLeast = 3

-- seven numbers for each line
abbrev pub numbers_of_lines : List StageLine → List ℕ
numbers_of_lines [] = []
numbers_of_lines (l ∷ ls) =
    number_of_form l.form ∷ l.key ∷ l.value ∷ l.field ∷ number_of_test l.test ∷ l.number ∷ l.width ∷ numbers_of_lines ls

abbrev pub kind_of : ℕ → EventKind
kind_of zero = Person
kind_of (suc zero) = Auction
kind_of _ = Bid

abbrev pub form_of : ℕ → Form
form_of zero = Pass
form_of (suc zero) = Count
form_of (suc (suc zero)) = Sum
form_of _ = Window

abbrev pub test_of : ℕ → Test
test_of zero = Any
test_of (suc zero) = Below
test_of (suc (suc zero)) = Equal
test_of _ = AtLeast

-- the lines that numbers say, as many as there are seven numbers for
abbrev pub lines_of : List ℕ → List StageLine
lines_of (f ∷ k ∷ v ∷ d ∷ t ∷ n ∷ w ∷ more) =
    record { form = form_of f; key = k; value = v; field = d; test = test_of t; number = n; width = w } ∷ lines_of more
lines_of _ = []
