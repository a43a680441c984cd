-- Lines don't change the shape of the job.
use Rattle.std.proofs.Common.{◌≡◌, ℕ, Option, Some, None, Ok, List, refl, ◌∙◌}
use Rattle.mp_journal.specs.declared.letters.Letter.{Letter}
use Rattle.mp_journal.specs.Letters.{letter_of}
use Rattle.mp_journal.specs.Journals.{Said, journal_rules, nothing_said, with_line}
use Rattle.mp_lines.specs.Checks.{field_at}
use Rattle.mp_lines.specs.Files.{file_of}
use Rattle.mp_lines.proofs.Said.{kept_in_file}
use Rattle.mp_names.specs.declared.controls.Shape.{Shape}

after_line : (said : Said) (letter : Option Letter) (fields : List (List ℕ)) → (with_line said letter fields).shape ≡ said.shape
after_line said None fields = refl
after_line said (Some letter) fields = refl

pub same_shape : (text : List ℕ) (shape : Shape) (said : Said) → file_of journal_rules (nothing_said shape) text ≡ Ok said → said.shape ≡ shape
same_shape text shape said e =
    kept_in_file journal_rules (λ (s : Said). s.shape ≡ shape) (λ before fields same fails. after_line before (letter_of (field_at fields 2)) fields ∙ same)
    (nothing_said shape) text said refl e
