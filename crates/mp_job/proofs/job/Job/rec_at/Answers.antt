use Rattle.std.proofs.Common.{◌≡◌, ◌∙◌, ℕ, List, Option, IsSome, ap, arith, get_or, is_some, length, option_and_then, refl, sym}
use Rattle.std.proofs.lemmas.Bool.{false≢true}
use Rattle.std.proofs.lemmas.Option.{slice_get_read}
use Rattle.mp_model.specs.declared.record.Event.{Event}
use Rattle.mp_model.specs.declared.record.Rec.{Rec}
use Rattle.mp_model.specs.Facts.{QueryFacts}
use Rattle.mp_model.specs.Stages.{record_of}
use Rattle.mp_shares.proofs.Sharing.{record_is_there}
use Rattle.mp_job.specs.Parts.{table_in}
use Rattle.mp_job.specs.Records.{record_at}
use Rattle.mp_job.proofs.job.Job.rec_at.Goals as goal

-- the event at the index is the one whose record was asked for
found : {Cell : Type 0} (q : QueryFacts Cell) (events : List Event) (i : ℕ) (e : Event) (made : Option Rec) → IsSome (record_at q events i) → e ≡ get_or events i e → made ≡ record_of q i e → record_at q events i ≡ made
found q events i e made some is of_e =
    ap (λ (o : Option Event). option_and_then (record_of q i) o) (slice_get_read events (length events) i e refl (record_is_there q events i some) is) ∙ sym of_e

pub index-requires : goal.index-requires
index-requires g c =
    let inside = c.self.inside in
    let q = table_in g.Q.Query.facts g.Q.Query.text_of (g.Q.Query.values inside.source.query) inside.source.stop inside.source.opening in
    let some = rw (← c.self.view_is) at c.requires in
    omega (arith, record_is_there q inside.events.items c.args.index some, inside.events.ok.0)

pub unreachable-requires : goal.unreachable-requires
unreachable-requires g c =
    let inside = c.self.inside in
    let q = table_in g.Q.Query.facts g.Q.Query.text_of (g.Q.Query.values inside.source.query) inside.source.stop inside.source.opening in
    let some = rw (← c.self.view_is) at c.requires in
    let none = found q inside.events.items c.args.index c.index.result.now c.in_ok-rec.field-0 some c.index.ensures c.in_ok-rec.ensures ∙ c.in-None.is in
    false≢true (sym (ap (λ (o : Option Rec). is_some o) none) ∙ some)

pub returns : goal.returns
returns g c =
    let inside = c.self.inside in
    let q = table_in g.Q.Query.facts g.Q.Query.text_of (g.Q.Query.values inside.source.query) inside.source.stop inside.source.opening in
    let some = rw (← c.self.view_is) at c.requires in
    rw (← c.self.view_is) (found q inside.events.items c.args.index c.index.result.now c.in_ok-rec.field-0 some c.index.ensures c.in_ok-rec.ensures ∙ c.in-Some.is)
