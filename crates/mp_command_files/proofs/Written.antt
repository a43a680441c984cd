-- What the files hold after a name was begun and then written to.
use Rattle.std.proofs.Common.{ℕ, ◌≡◌, ◌∙◌, ap, Option, Some, None, List, []}
use Rattle.std.specs.Option.{ForSome}
use Rattle.mp_outside.specs.Files.{Files, file_at, with_file, with_more, without}
use Rattle.mp_outside.specs.Sink.{grown}
use Rattle.mp_outside.proofs.FileLemmas.{file_at-with_file, there_begun, with_more-with_file, with_more_written}

-- a name that was begun holds just what a sink on it wrote, and nothing else has changed
pub written_from_begun : (old begun new : Option Files) (name its_name bytes : List ℕ) → begun ≡ with_file old name [] → its_name ≡ name → file_at new its_name ≡ grown (file_at begun name) bytes → without new its_name ≡ without begun name → new ≡ with_file old name bytes
written_from_begun old begun new name its_name bytes made same here rest =
    with_more_written begun new name its_name bytes (there_begun old begun name [] made) same here rest
    ∙ ap (λ (told : Option Files). with_more told name bytes) made
    ∙ with_more-with_file old name [] bytes

-- a name that was begun holds no bytes
pub none_written : (old begun : Option Files) (name : List ℕ) → begun ≡ with_file old name [] → ForSome (file_at begun name) (λ bytes. bytes ≡ [])
unfolding with_file
none_written None begun name made bytes is =
    let none : file_at begun name ≡ None = ap (λ (told : Option Files). file_at told name) made in
    cc
none_written (Some files) begun name made bytes is =
    let none : file_at begun name ≡ Some [] = ap (λ (told : Option Files). file_at told name) made ∙ file_at-with_file files name [] in
    cc
