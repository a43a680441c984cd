-- The format of a query's files is plain, and its texts tell cells.
use Rattle.std.proofs.Common.{◌≡◌, ◌≢◌, ◌<◌, ◌^◌, ℕ, true, List, sym, ap, ◌∙◌, arith}
use Rattle.std.specs.Prelude.{All}
use Rattle.mp_model.specs.Facts.{QueryFacts}
use Rattle.mp_model.specs.QueryLaws.{HasStages, TextsTellCells}
use Rattle.mp_checkpoint_laws.specs.Files.{format_of}
use Rattle.mp_checkpoint_laws.specs.Laws.{FormatIsPlain, TextsTell}

module _ {Cell : Type 0} (number : ℕ) (values : List ℕ) (q : QueryFacts Cell) (text : ℕ → Cell → List ℕ) where
  pub format_is_plain : number < 2 ^ 64 → All (λ n. n < 2 ^ 64) values → HasStages q → ((j k t : ℕ) (c : Cell) → q.allows j k t c ≡ true → All (λ b. b ≢ 10) (text j c)) → FormatIsPlain (format_of number values q text)
  format_is_plain low small stages plain = record { number = low; values = small; stages = omega (arith, stages.1); text = plain }

  pub texts_tell : TextsTellCells text q → TextsTell (format_of number values q text)
  texts_tell tells j k t c d h i e = sym (tells j k t c h) ∙ ap (q.cell_of j) e ∙ tells j k t d i
