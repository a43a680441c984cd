use Rattle.std.proofs.Common.{◌≡◌, ◌<◌, ◌∙◌, ℕ, false, List, ap, arith, length, map, reverse, subst, sym, take}
use Rattle.std.proofs.lemmas.List.{drop_all, length-reverse, take_all}
use Rattle.mp_names.specs.Logs.{Log, LogIsLegal, with_took}
use Rattle.mp_names.specs.Names.{has}
use Rattle.mp_model.specs.declared.record.Rec.{Rec}
use Rattle.mp_model.specs.Tables.{table_of}
use Rattle.mp_outline.specs.JobOutline.{name_of_record, outline_of}
use Rattle.mp_msg.specs.Contents.{IsRecordOf}
use Rattle.mp_host_laws.specs.HostOf.{IsHostOf}
use Rattle.mp_host.specs.Receiving.{with_all_taken}
use Rattle.mp_host.proofs.Several.{last_is, one_longer, still_fresh, still_legal}
use Rattle.mp_host.proofs.host.Host.keep_all.Goals as goal

pub loop-kept-preserved : goal.loop-kept-preserved
loop-kept-preserved g c =
    let job = g.J.Naming.job in
    let q = table_of g.Q.Query.facts job in
    let o = outline_of q job in
    let w = c.args.self.now.worker in
    let j = c.args.self.now.stage in
    let rs = reverse c.args.recs.now.items in
    let i = c.loop-kept._kept in
    let r = c.in-Some.rec in
    let inside : i < length rs = omega (arith, c.loop-kept-test.true, c.requires.count, length-reverse c.args.recs.now.items) in
    let at = last_is rs i r c.pop.new.self.items inside (sym c.loop-kept.invariant.left ∙ c.in-Some.ensures.items) in
    let inv = c.loop-kept.invariant in
    let received = c.in-Ok.ensures.received in
    record {
      left = at.1;
      stage = received.stage ∙ inv.stage;
      worker = received.worker ∙ inv.worker;
      room = omega (arith, inv.room, c.in-Ok.ensures.room);
      for_bins = c.in-Ok.ensures.for_bins ∙ inv.for_bins;
      held = λ log host good come.
          let before = inv.held log host good come in
          let now : Log = with_all_taken log (map (name_of_record j) (take i rs)) in
          let longer = one_longer o w j log rs i r inside at.0 come in
          let fresh = still_fresh o w j log rs i r inside at.0 come in
          let took = c.in-Ok.ensures.held now before.0 (subst (λ (n : ℕ). LogIsLegal o n now) (sym inv.worker) before.1) (subst (λ (n : ℕ). has now.took (name_of_record n r) ≡ false) (sym inv.stage) fresh) in (
            subst (λ (l : Log). IsHostOf q job l c.keep.new.self) (ap (λ (n : ℕ). with_took now (name_of_record n r)) inv.stage ∙ longer) took,
            subst (LogIsLegal o w) longer (still_legal o w j log rs i r inside at.0 come before.1),
          );
    }

pub keep-requires-after_bounds : goal.keep-requires-after_bounds
keep-requires-after_bounds g c =
    let job = g.J.Naming.job in
    let q = table_of g.Q.Query.facts job in
    let rs = reverse c.args.recs.now.items in
    let i = c.loop-kept._kept in
    let r = c.in-Some.rec in
    let inside : i < length rs = omega (arith, c.loop-kept-test.true, c.requires.count, length-reverse c.args.recs.now.items) in
    let at = last_is rs i r c.pop.new.self.items inside (sym c.loop-kept.invariant.left ∙ c.in-Some.ensures.items) in
    λ _ _. subst (λ (n : ℕ). IsRecordOf q job n r) (sym c.loop-kept.invariant.stage) (subst (IsRecordOf q job c.args.self.now.stage) (sym at.0) (c.requires.content i r inside))

pub returns-clause-held : goal.returns-clause-held
returns-clause-held g c = λ log host good come.
    let job = g.J.Naming.job in
    let q = table_of g.Q.Query.facts job in
    let j = c.args.self.now.stage in
    let rs = reverse c.args.recs.now.items in
    let all = take_all c.loop-kept._kept rs (omega (arith, c.loop-kept-test.false, c.requires.count, length-reverse c.args.recs.now.items)) in
    subst (λ (ys : List Rec). IsHostOf q job (with_all_taken log (map (name_of_record j) ys)) c.loop-kept.self) all (c.loop-kept.invariant.held log host good come).0

pub returns-clause-emptied : goal.returns-clause-emptied
returns-clause-emptied g c =
    let rs = reverse c.args.recs.now.items in
    c.loop-kept.invariant.left ∙ ap reverse (drop_all c.loop-kept._kept rs (omega (arith, c.loop-kept-test.false, c.requires.count, length-reverse c.args.recs.now.items)))
