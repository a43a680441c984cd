-- A checkpoint fits where its time, its cells and its wakes do.
use Rattle.std.proofs.Common.{subst, sym, ◌∙◌}
use Rattle.std.proofs.lemmas.Bool.{false≢true}
use Rattle.mp_checkpoint_laws.specs.Files.{CheckpointFits, format_of}
use Rattle.mp_checkpoint.specs.Fitting.{CellsFit, WakesFit}
use Rattle.mp_checkpoint.proofs.fitting.fits.Goals as goal

pub returns-then-not-cells_fit : goal.returns-then-not-cells_fit
returns-then-not-cells_fit g c =
    let vs = g.Q.Query.values c.args.query.now in
    let f = format_of g.Q.Saved.NUMBER vs (g.Q.Query.facts vs) g.Q.Query.text_of in
    let inside = c.checkpoint.inside in (
      λ e. absurd (false≢true e),
      λ h.
          let fits = subst (CheckpointFits f) (sym c.checkpoint.view_is) h in
          sym c.if-not-cells_fit.true ∙ c.cells_fit.ensures.1 (subst (CellsFit f inside.time) (sym c.deref.ensures.value) (record { stand = fits.cells; ascend = fits.cells_ascend })),
    )

pub returns : goal.returns
returns g c =
    let vs = g.Q.Query.values c.args.query.now in
    let f = format_of g.Q.Saved.NUMBER vs (g.Q.Query.facts vs) g.Q.Query.text_of in
    let inside = c.checkpoint.inside in (
      λ e.
          let cells = subst (CellsFit f inside.time) c.deref.ensures.value (c.cells_fit.ensures.0 c.if-not-cells_fit.false) in
          let wakes = subst (WakesFit f inside.time) c.deref-2.ensures.value (c.wakes_fit.ensures.0 e) in
          subst (CheckpointFits f) c.checkpoint.view_is (record {
            time = c.time_fits.ensures.0 c.if-not-time_fits.false;
            cells = cells.stand;
            wakes = wakes.stand;
            cells_ascend = cells.ascend;
            wakes_ascend = wakes.ascend;
          }),
      λ h.
          let fits = subst (CheckpointFits f) (sym c.checkpoint.view_is) h in
          c.wakes_fit.ensures.1 (subst (WakesFit f inside.time) (sym c.deref-2.ensures.value) (record { stand = fits.wakes; ascend = fits.wakes_ascend })),
    )
