use Rattle.std.proofs.Common.{◌≡◌, ◌+◌, ℕ, List, length, Some, refl, sym, ◌∙◌, subst, pos}
use Rattle.std.specs.List.{slice_get}
use Rattle.std.proofs.lemmas.Option.{slice_get_read}
use Rattle.mp_names.specs.declared.locations.Loc.{Loc}
use Rattle.mp_names.specs.Frontiers.{IsFrontierOf}
use Rattle.mp_names.specs.Locations.{IsLocation}
use Rattle.mp_stamps.specs.Seen.{seen_at}
use Rattle.mp_chart.specs.declared.work.Work.{Work}
use Rattle.mp_chart.specs.Left.{HasWork, left_in, work_at}
use Rattle.mp_player.proofs.Exchanging.{enough, shows_exchanged}
use Rattle.mp_player.proofs.posting.post.Goals as goal

pub returns : goal.returns
returns c = λ o depth world shows can gives.
    let state = c.args.state.now in
    let w = c.args.worker in
    let s = c.index_mut-standing.result.now in
    let there : slice_get state.standings.items w ≡ Some s = slice_get_read state.standings.items (length state.standings.items) w s refl c.requires c.index_mut-standing.ensures.value in
    let all : c.deref.result.now ≡ s.since.items = c.deref.ensures.value in
    let after = subst (λ (works : List Work). (a : Loc) (t : ℕ) → left_in c.do_all.new.self.counts a t + work_at a t works ≡ left_in state.left.counts a t) all (c.do_all.ensures.left (subst (HasWork state.left.counts) (sym all) (enough o depth world state shows w s there can.0))) in
    let stages = c.do_all.ensures.stages ∙ shows.stages in
    let shown = subst (λ (n : ℕ). (at : Loc) → IsLocation n at → IsFrontierOf (λ a t. pos (left_in c.do_all.new.self.counts a t)) at (seen_at c.seen-standing.result at)) stages c.seen-standing.ensures.frontiers in
    shows_exchanged o depth world state shows w s there can.0 can _ _ after c.args.version gives refl refl c.clear.ensures.items refl c.seen-standing.ensures.version (c.seen-standing.ensures.stages ∙ stages) shown refl refl c.do_all.ensures.stages refl
