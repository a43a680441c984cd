-- What the crates above take of those below through this one.
pub use Rattle.mp_turns.specs.Keeping.{no_steps, steps_after}
pub use Rattle.mp_turns.specs.declared.turn.Stop.{Stop}
pub use Rattle.mp_turns.specs.declared.turn.Stop.TheVariants as stop
pub use Rattle.mp_turns.specs.declared.turn.Turn.{Turn}
pub use Rattle.mp_turns.specs.declared.turn.Turn.TheVariants as turn
