use Rattle.std.proofs.Common.{◌≡◌, ◌∙◌, ◌++◌, ◌∷◌, [], ℕ, List, All, refl, ap, append_assoc, arith, length, length-append, map, subst, sym, rules}
use Rattle.std.proofs.lemmas.List.{map-append}
use Rattle.mp_names.specs.declared.names.Name.{Name}
use Rattle.mp_model.specs.declared.record.Rec.{Rec}
use Rattle.mp_model.specs.Tables.{table_of}
use Rattle.mp_outline.specs.JobOutline.{name_of_record}
use Rattle.mp_msg.specs.Contents.{IsRecordOf}
use Rattle.mp_route.specs.Unsent.{HoldsAllBut}
use Rattle.mp_route.proofs.Parted.{all_front}
use Rattle.mp_route.proofs.Sent.{to_front}
use Rattle.mp_route.proofs.router.Router.give_back.Goals as goal

pub loop-rec-init : goal.loop-rec-init
loop-rec-init g c =
    let job = g.J.Naming.job in
    record {
      stage = refl;
      content = rw c.into_recs-recs.ensures c.requires.content;
      room = omega arith;
      in_turn = λ w log rest h. h;
    }

pub loop-rec-preserved : goal.loop-rec-preserved
loop-rec-preserved g c =
    let job = g.J.Naming.job in
    let q = table_of g.Q.Query.facts job in
    let j = c.args.self.now.stage in
    let f = name_of_record j in
    let left = c.pop.new.self.items in
    let was = c.in-Some.ensures.items in
    let stage = c.in-Ok.ensures.stage ∙ c.loop-rec.invariant.stage in
    record {
      stage = stage;
      content = all_front (IsRecordOf q job j) left (c.in-Some.rec ∷ []) (subst (All (IsRecordOf q job j)) was c.loop-rec.invariant.content);
      room = omega (arith, c.loop-rec.invariant.room, c.in-Ok.ensures.room, ap length was, length-append left (c.in-Some.rec ∷ []));
      in_turn = λ w log rest h.
          let before = c.loop-rec.invariant.in_turn w log rest h in
          let names = ap (λ (rs : List Rec). map f rs ++ rest) was ∙ ap (λ (xs : List Name). xs ++ rest) (map-append f left (c.in-Some.rec ∷ [])) ∙ append_assoc (map f left) (f c.in-Some.rec ∷ []) rest in
          let moved = to_front q job w log (f c.in-Some.rec) (map f left) rest c.loop-rec.self (subst (λ (xs : List Name). HoldsAllBut q job w log xs c.loop-rec.self) names before) in
          c.in-Ok.ensures.in_turn w log (map f left ++ rest) (subst (λ (i : ℕ). HoldsAllBut q job w log (name_of_record i c.in-Some.rec ∷ map f left ++ rest) c.loop-rec.self) (sym c.loop-rec.invariant.stage) moved);
    }

pub returns-clause-in_turn : goal.returns-clause-in_turn
returns-clause-in_turn g c =
    let job = g.J.Naming.job in
    let q = table_of g.Q.Query.facts job in
    let j = c.args.self.now.stage in
    λ w log rest h.
    let names = ap (λ (rs : List Rec). map (name_of_record j) rs ++ rest) c.into_recs-recs.ensures in
    let stage = ap (λ (i : ℕ). map (name_of_record i) c.args.bundle.recs ++ rest) c.requires.stage in
    let all = c.loop-rec.invariant.in_turn w log rest (subst (λ (xs : List Name). HoldsAllBut q job w log xs c.args.self.now) (stage ∙ sym names) h) in
    let none : c.loop-rec.recs.items ≡ [] = search rules in
    subst (λ (rs : List Rec). HoldsAllBut q job w log (map (name_of_record j) rs ++ rest) c.loop-rec.self) none all
