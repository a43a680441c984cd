use Rattle.std.proofs.Common.{◌∙◌, ◌++◌, ℕ, List, ap, append_assoc, length, refl}
use Rattle.std.proofs.lemmas.Result.{on_err_weaker, on_ok_weaker}
use Rattle.mp_names.specs.Outlines.{moves_of}
use Rattle.mp_outside.proofs.SinkLemmas.{grown-grown}
use Rattle.mp_outline.specs.JobOutline.{outline_of}
use Rattle.mp_outline.proofs.Soundness.{outline_is_sound}
use Rattle.mp_output.proofs.Writing.{on_err}
use Rattle.mp_report.specs.Report.{move_lines, worker_lines}
use Rattle.mp_report.specs.Told.{groups_told, keys_in}
use Rattle.mp_report.proofs.Prefixes.{prefix_then}
use Rattle.mp_report.proofs.Tallied.{nothing_told, told_in_part, told_report, told_text}
use Rattle.mp_report.proofs.writing.write_report.Goals as goal
use Rattle.mp_model.specs.Tables.{table_of}

pub returns-in_err-moves-clause-part : goal.returns-in_err-moves-clause-part
returns-in_err-moves-clause-part g c =
    let laws = g.met.Q.Query g.world.𝓛 g.world.𝓜 g.world.𝓡 ((λ s x. x), (λ x. x), (λ x. x), λ x. x) in
    let job = c.args.job.now in
    let q = table_of g.Q.Query.facts job in
    let sound = outline_is_sound q (laws.has_stages job.values) (laws.posts_are_later job.values) (laws.later_stages_post_nothing job.values) job c.moves_of.ensures.legal in
    let before = g.S.Sink.written c.args.sink.now in
    on_err c.from_residual.result (nothing_told q job sound c.args.tallies.now c.requires before)

pub returns-in_err-packets-clause-part : goal.returns-in_err-packets-clause-part
returns-in_err-packets-clause-part g c =
    let laws = g.met.Q.Query g.world.𝓛 g.world.𝓜 g.world.𝓡 ((λ s x. x), (λ x. x), (λ x. x), λ x. x) in
    let job = c.args.job.now in
    let q = table_of g.Q.Query.facts job in
    let sound = outline_is_sound q (laws.has_stages job.values) (laws.posts_are_later job.values) (laws.later_stages_post_nothing job.values) job c.moves_of.ensures.legal in
    let before = g.S.Sink.written c.args.sink.now in
    on_err c.from_residual-in_err-packets.result (nothing_told q job sound c.args.tallies.now c.requires before)

pub returns-in_err-write_moves-clause-part : goal.returns-in_err-write_moves-clause-part
returns-in_err-write_moves-clause-part g c =
    let laws = g.met.Q.Query g.world.𝓛 g.world.𝓜 g.world.𝓡 ((λ s x. x), (λ x. x), (λ x. x), λ x. x) in
    let job = c.args.job.now in
    let q = table_of g.Q.Query.facts job in
    let tallies = c.args.tallies.now in
    let sound = outline_is_sound q (laws.has_stages job.values) (laws.posts_are_later job.values) (laws.later_stages_post_nothing job.values) job c.moves_of.ensures.legal in
    let moves = moves_of (outline_of q job) in
    let same = c.deref.ensures.value ∙ c.in_ok-moves.ensures.moves in
    let packets = c.in_ok-packets.packets.items in
    let all = c.in_ok-packets.ensures.all in
    let part = rw (same, c.deref-2.ensures.value) at c.in_err-write_moves.ensures.part in
    let begins = prefix_then part.0 (move_lines (keys_in packets) moves) (told_text q job sound tallies c.requires packets all) part.1 (worker_lines (groups_told tallies) (length tallies), refl) in
    on_err c.from_residual-in_err-write_moves.result (told_in_part q job sound tallies c.requires packets all (g.S.Sink.written c.args.sink.now) (g.S.Sink.written c.write_moves.new.sink) part.0 begins part.2)

pub returns-clause-whole : goal.returns-clause-whole
returns-clause-whole g c =
    let laws = g.met.Q.Query g.world.𝓛 g.world.𝓜 g.world.𝓡 ((λ s x. x), (λ x. x), (λ x. x), λ x. x) in
    let job = c.args.job.now in
    let q = table_of g.Q.Query.facts job in
    let tallies = c.args.tallies.now in
    let sound = outline_is_sound q (laws.has_stages job.values) (laws.posts_are_later job.values) (laws.later_stages_post_nothing job.values) job c.moves_of.ensures.legal in
    let same = c.deref.ensures.value ∙ c.in_ok-moves.ensures.moves in
    let packets = c.in_ok-packets.packets.items in
    let all = c.in_ok-packets.ensures.all in
    let moved = rw (same, c.deref-2.ensures.value) at c.in_ok-write_moves.ensures.whole in
    on_ok_weaker c.write_workers.result
    (λ here. (told_text q job sound tallies c.requires packets all, told_report q job sound tallies c.requires packets all, here ∙ rw moved (grown-grown _ _ _)))
    c.write_workers.ensures.whole

pub returns-clause-part : goal.returns-clause-part
returns-clause-part g c =
    let laws = g.met.Q.Query g.world.𝓛 g.world.𝓜 g.world.𝓡 ((λ s x. x), (λ x. x), (λ x. x), λ x. x) in
    let job = c.args.job.now in
    let q = table_of g.Q.Query.facts job in
    let tallies = c.args.tallies.now in
    let sound = outline_is_sound q (laws.has_stages job.values) (laws.posts_are_later job.values) (laws.later_stages_post_nothing job.values) job c.moves_of.ensures.legal in
    let same = c.deref.ensures.value ∙ c.in_ok-moves.ensures.moves in
    let packets = c.in_ok-packets.packets.items in
    let all = c.in_ok-packets.ensures.all in
    let lines = move_lines (keys_in packets) (moves_of (outline_of q job)) in
    let moved = rw (same, c.deref-2.ensures.value) at c.in_ok-write_moves.ensures.whole in
    on_err_weaker c.write_workers.result
    (λ part.
    told_in_part q job sound tallies c.requires packets all (g.S.Sink.written c.args.sink.now) (g.S.Sink.written c.write_workers.new.sink) (lines ++ part.0)
    (part.1.0, append_assoc lines part.0 part.1.0 ∙ ap (λ (l : List ℕ). lines ++ l) part.1.1)
    (part.2 ∙ rw moved (grown-grown _ _ _)))
    c.write_workers.ensures.part
