-- All names are gathered.
use Rattle.std.proofs.Common.{◌↔◌, ◌∙◌, IfSome, List, ap, length, map, subst, sym}
use Rattle.std.specs.List.{Contains}
use Rattle.mp_names.specs.declared.names.Name.{Name}
use Rattle.mp_outline_lists.specs.Packed.{AreFit, TellsPlaces, name_at}
use Rattle.mp_outline_lists.proofs.Packing.{all_gathered, moved_fit}
use Rattle.mp_outline_lists.proofs.by_time.by_time.Goals as goal

pub gathered-requires : goal.gathered-requires
gathered-requires c =
    let size = length c.args.names.now in
    let numbers = c.in-Some.numbers.items in
    let fit = subst (λ found. IfSome found (λ v. AreFit size v.items)) c.in-Some.is c.in_ok-numbers.ensures.fit in
    subst (AreFit size) (sym c.deref.ensures.value) (moved_fit size numbers c.sort_unstable.new.self.items fit c.sort_unstable.ensures.permutation)

pub returns : goal.returns
returns c x =
    let names = c.args.names.now in
    let size = length names in
    let numbers = c.in-Some.numbers.items in
    let sorted = c.sort_unstable.new.self.items in
    let told = subst (λ found. IfSome found (λ v. TellsPlaces size size v.items)) c.in-Some.is c.in_ok-numbers.ensures.told in
    let fit = subst (λ found. IfSome found (λ v. AreFit size v.items)) c.in-Some.is c.in_ok-numbers.ensures.fit in
    let is = c.in_ok-moved.ensures ∙ ap (map (name_at names)) c.deref.ensures.value in
    subst (λ (l : List Name). Contains l x ↔ Contains names x) (sym is) (all_gathered names numbers sorted told (moved_fit size numbers sorted fit c.sort_unstable.ensures.permutation) c.sort_unstable.ensures.permutation x)
