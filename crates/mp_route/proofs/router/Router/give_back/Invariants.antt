-- What is put back so far is held, and the others are to come.
use Rattle.std.proofs.Common.{◌≡◌, ◌+◌, ◌≤◌, ◌++◌, ℕ, List, All, length, map}
use Rattle.mp_names.specs.declared.names.Name.{Name}
use Rattle.mp_names.specs.Logs.{Log}
use Rattle.mp_outline.specs.JobOutline.{name_of_record}
use Rattle.mp_msg.specs.Contents.{IsRecordOf}
use Rattle.mp_route.specs.Unsent.{HoldsAllBut}
use Rattle.mp_route.proofs.router.Router.give_back.Given as goal
use Rattle.mp_model.specs.Tables.{table_of}

abbrev pub invariant-loop-rec : goal.invariant-loop-rec
invariant-loop-rec g l =
    let job = g.J.Naming.job in
    let q = table_of g.Q.Query.facts job in
    let j = l.initial.self.stage in
    record {
      stage : l.self.stage ≡ j;
      content : All (IsRecordOf q job j) l.recs.items;
      room : l.initial.self.room + length l.recs.items ≤ l.self.room + length l.initial.recs.items;
      in_turn : (w : ℕ) (log : Log) (rest : List Name) → HoldsAllBut q job w log (map (name_of_record j) l.initial.recs.items ++ rest) l.initial.self → HoldsAllBut q job w log (map (name_of_record j) l.recs.items ++ rest) l.self;
    }

abbrev pub decreases-loop-rec : goal.decreases-loop-rec
decreases-loop-rec g l = length l.recs.items
