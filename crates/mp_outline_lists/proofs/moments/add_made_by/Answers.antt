use Rattle.std.proofs.Common.{◌≡◌, ◌∙◌, ◌++◌, ◌∷◌, [], ℕ, List, Some, ap, append_assoc, arith, map, subst, sym}
use Rattle.std.specs.List.{slice_get}
use Rattle.mp_outline_lists.specs.declared.moments.Moment.{Moment}
use Rattle.mp_outline_lists.specs.Moments.{moment_of}
use Rattle.mp_outline_lists.proofs.Gathered.{in_at}
use Rattle.mp_outline_lists.proofs.Grouping.{posts_nothing}
use Rattle.mp_outline_lists.proofs.moments.add_made_by.Goals as goal

pub returns-then-stage-gt0 : goal.returns-then-stage-gt0
returns-then-stage-gt0 g c =
    let o = g.L.OutlineLists.outline c.args.lists.now in
    let x = c.args.maker in
    let old = c.args.moments.now.items in
    let none = posts_nothing o c.are_sound.ensures.later c.args.stage x c.if-stage-gt0.true (in_at (o.records c.args.stage) c.args.place x c.requires) in
    c.in_ok-push.ensures.items
    ∙ ap (λ (m : Moment). old ++ m ∷ []) c.moment_of-own.ensures
    ∙ ap (λ (us : List ℕ). old ++ moment_of x ∷ map (λ u. record { time = u; key = (moment_of x).key }) us) (sym none)

pub returns : goal.returns
returns g c =
    let o = g.L.OutlineLists.outline c.args.lists.now in
    let x = c.args.maker in
    let old = c.args.moments.now.items in
    let own = c.moment_of-own.result in
    let made = λ (m : Moment) (us : List ℕ). m ∷ map (λ u. record { time = u; key = m.key }) us in
    let stage : c.args.stage ≡ 0 = let h = c.if-stage-gt0.false in omega arith in
    let there = subst (λ (j : ℕ). slice_get (o.records j) c.args.place ≡ Some x) stage c.requires in
    let posted : c.add_posts.new.moments.items ≡ c.push.new.self.items ++ map (λ u. record { time = u; key = own.key }) c.posts.result.now = c.in_ok-add_posts.ensures in
    posted
    ∙ ap (λ (l : List Moment). l ++ map (λ u. record { time = u; key = own.key }) c.posts.result.now) c.in_ok-push.ensures.items
    ∙ append_assoc old (own ∷ []) (map (λ u. record { time = u; key = own.key }) c.posts.result.now)
    ∙ ap (λ (m : Moment). old ++ made m c.posts.result.now) c.moment_of-own.ensures
    ∙ ap (λ (us : List ℕ). old ++ made (moment_of x) us) (c.posts.ensures x there)
