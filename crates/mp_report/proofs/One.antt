-- A job has one report.
use Rattle.std.proofs.Common.{◌≡◌, ◌∙◌, ◌++◌, ℕ, suc, List, [], ◌∷◌, All, ap, arith, length, refl, sym}
use Rattle.mp_names.specs.declared.controls.Move.{Move}
use Rattle.mp_names.specs.Outlines.{moves_of}
use Rattle.mp_model.specs.Facts.{JobFacts, QueryFacts}
use Rattle.mp_outline.specs.JobOutline.{outline_of}
use Rattle.mp_msg.specs.States.{BinContent}
use Rattle.mp_msg.proofs.States.{states_follow_names}
use Rattle.mp_handoff.specs.Keys.{HasKeys}
use Rattle.mp_report.specs.Lines.{line_of_move}
use Rattle.mp_report.specs.Report.{IsReport, MovesKeys, groups_owned, move_lines, worker_lines}

module _ {Cell : Type 0} (q : QueryFacts Cell) (job : JobFacts) where
  -- a bin has one state just before a time, and so one number of keys
  same_keys : (j b t k l : ℕ) → HasKeys q job j b t k → HasKeys q job j b t l → k ≡ l
  same_keys j b t k l h i = h.2 ∙ ap (λ (s : BinContent Cell). length s.cells) (states_follow_names q job j b t h.0 i.0 h.1 i.1) ∙ sym i.2

  same_lines : (f g : Move → ℕ) (ms : List Move) → All (MovesKeys q job f) ms → All (MovesKeys q job g) ms → move_lines f ms ≡ move_lines g ms
  same_lines f g [] h i = refl
  same_lines f g (m ∷ ms) h i =
      let one : f m ≡ g m = same_keys m.stage m.bin m.time (f m) (g m) (h 0 m (omega arith)) (i 0 m (omega arith)) in
      let rest = same_lines f g ms (λ k d l. h (suc k) d (omega arith)) (λ k d l. i (suc k) d (omega arith)) in
      ap (λ (k : ℕ). line_of_move m k ++ move_lines f ms) one ∙ ap (λ (l : List ℕ). line_of_move m (g m) ++ l) rest

  pub one_report : (a b : List ℕ) → IsReport q job a → IsReport q job b → a ≡ b
  one_report a b h i =
      let moves = moves_of (outline_of q job) in
      h.told
      ∙ ap (λ (l : List ℕ). l ++ worker_lines (groups_owned q job) job.shape.workers) (same_lines h.keys i.keys moves h.moved i.moved)
      ∙ sym i.told
