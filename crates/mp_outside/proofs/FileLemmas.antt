-- What several changes of files amount to, and what each leaves as it was.
use Rattle.std.proofs.Common.{ℕ, ◌≡◌, ◌≢◌, ◌++◌, List, [], Bool, true, false, if◌then◌else◌, Option, Some, None, IsSome, IsSomeAnd, is_some, option_map, Result, Ok, Err, IfOk, OnErr, take, refl, sym, ap, ◌∙◌, append_assoc}
use Rattle.std.specs.Prelude.{bytes_eq}
use Rattle.std.proofs.Math.Path.{fun_ext}
use Rattle.std.proofs.lemmas.Slice.Eq.{bytes_eq-Decides}
use Rattle.std.proofs.lemmas.Bool.{false_from_ne_true}
use Rattle.std.proofs.lemmas.List.{append-nil}
use Rattle.mp_outside.specs.Files.{Files, file_at, IsThere, IsThereWith, with_file, with_more, without, SameOthers}
use Rattle.mp_outside.specs.Sink.{grown}

same_name : (name : List ℕ) → bytes_eq name name ≡ true
same_name name = (bytes_eq-Decides name name).1 refl

other_name : (other name : List ℕ) → other ≢ name → bytes_eq name other ≡ false
other_name other name ne = false_from_ne_true _ (λ e. ne (sym ((bytes_eq-Decides name other).0 e)))

-- ---- what a name holds afterwards

pub file_at-with_file : (files : Files) (name bytes : List ℕ) → file_at (with_file (Some files) name bytes) name ≡ Some bytes
unfolding with_file
file_at-with_file files name bytes = rw (same_name name) refl

pub file_at-with_file-other : (told : Option Files) (name bytes other : List ℕ) → other ≢ name → file_at (with_file told name bytes) other ≡ file_at told other
unfolding with_file
file_at-with_file-other None name bytes other ne = refl
file_at-with_file-other (Some files) name bytes other ne = rw (other_name other name ne) refl

pub file_at-with_more : (told : Option Files) (name more : List ℕ) → file_at (with_more told name more) name ≡ grown (file_at told name) more
unfolding with_more grown
file_at-with_more None name more = refl
file_at-with_more (Some files) name more = rw (same_name name) refl

pub file_at-with_more-other : (told : Option Files) (name more other : List ℕ) → other ≢ name → file_at (with_more told name more) other ≡ file_at told other
unfolding with_more
file_at-with_more-other None name more other ne = refl
file_at-with_more-other (Some files) name more other ne = rw (other_name other name ne) refl

-- ---- what is there, and what is told, afterwards

pub told-with_file : (told : Option Files) (name bytes : List ℕ) → is_some (with_file told name bytes) ≡ is_some told
unfolding with_file
told-with_file None name bytes = refl
told-with_file (Some files) name bytes = refl

pub told-with_more : (told : Option Files) (name more : List ℕ) → is_some (with_more told name more) ≡ is_some told
unfolding with_more
told-with_more None name more = refl
told-with_more (Some files) name more = refl

-- where files are told, it is as `file_at` says
at_told : (told : Option Files) (files : Files) (name : List ℕ) → told ≡ Some files → files name ≡ file_at told name
at_told told files name is = rw is refl

still_some : (found : Option (List ℕ)) (more : List ℕ) → IsSome found → IsSome (grown found more)
unfolding grown
still_some None more some = some
still_some (Some bytes) more some = refl

told_before : (told : Option Files) (name more : List ℕ) (files : Files) → with_more told name more ≡ Some files → (before : Files) × (told ≡ Some before)
unfolding with_more
told_before None name more files is = cc
told_before (Some before) name more files is = (before, refl)

pub there-with_file : (told : Option Files) (name bytes : List ℕ) → IsThere (with_file told name bytes) name
unfolding with_file
there-with_file None name bytes files is = cc
there-with_file (Some before) name bytes files is =
    let made : file_at (with_file (Some before) name bytes) name ≡ Some bytes = file_at-with_file before name bytes in
    let here : files name ≡ Some bytes = at_told _ files name is ∙ made in
    rw here refl

pub there-with_more : (told : Option Files) (name more : List ℕ) → IsThere told name → IsThere (with_more told name more) name
there-with_more told name more there files is =
    let before = told_before told name more files is in
    let had : IsSome (file_at told name) = rw before.1 (there before.0 before.1) in
    let here : files name ≡ grown (file_at told name) more = at_told _ files name is ∙ file_at-with_more told name more in
    rw here (still_some (file_at told name) more had)

-- ---- two changes of one name

pub with_more-with_file : (told : Option Files) (name bytes more : List ℕ) → with_more (with_file told name bytes) name more ≡ with_file told name (bytes ++ more)
unfolding with_more with_file
with_more-with_file None name bytes more = refl
with_more-with_file (Some files) name bytes more = ap Some (fun_ext (λ other. if_same (bytes_eq name other) bytes more (files other)))
  where
    if_same : (is : Bool) (bytes more : List ℕ) (rest : Option (List ℕ)) →
        (if is then option_map (λ b. b ++ more) (if is then Some bytes else rest) else (if is then Some bytes else rest)) ≡ (if is then Some (bytes ++ more) else rest)
    if_same true bytes more rest = refl
    if_same false bytes more rest = refl

pub with_more-with_more : (told : Option Files) (name a b : List ℕ) → with_more (with_more told name a) name b ≡ with_more told name (a ++ b)
unfolding with_more
with_more-with_more None name a b = refl
with_more-with_more (Some files) name a b = ap Some (fun_ext (λ other. if_same (bytes_eq name other) a b (files other)))
  where
    if_same : (is : Bool) (a b : List ℕ) (o : Option (List ℕ)) →
        (if is then option_map (λ x. x ++ b) (if is then option_map (λ x. x ++ a) o else o) else (if is then option_map (λ x. x ++ a) o else o))
        ≡ (if is then option_map (λ x. x ++ (a ++ b)) o else o)
    if_same true a b None = refl
    if_same true a b (Some x) = ap Some (append_assoc x a b)
    if_same false a b o = refl

pub without-with_more : (told : Option Files) (name more : List ℕ) → without (with_more told name more) name ≡ without told name
unfolding with_more without
without-with_more None name more = refl
without-with_more (Some files) name more = ap Some (fun_ext (λ other. if_same (bytes_eq name other) more (files other)))
  where
    if_same : (is : Bool) (more : List ℕ) (o : Option (List ℕ)) →
        (if is then None else (if is then option_map (λ x. x ++ more) o else o)) ≡ (if is then None else o)
    if_same true more o = refl
    if_same false more o = refl

-- what a name held has grown, and nothing else has changed
pub with_more_from : (old new : Option Files) (name more : List ℕ) → file_at new name ≡ grown (file_at old name) more → IsThere old name → without new name ≡ without old name → new ≡ with_more old name more
unfolding with_more without grown
with_more_from None None name more here there rest = refl
with_more_from None (Some files) name more here there rest = cc
with_more_from (Some files) None name more here there rest = cc
with_more_from (Some old) (Some new) name more here there rest = ap Some (fun_ext (λ other. at_other other (bytes_eq name other) refl))
  where
    at_other : (other : List ℕ) (is : Bool) → bytes_eq name other ≡ is → new other ≡ (if is then option_map (λ bytes. bytes ++ more) (old other) else old other)
    at_other other true e =
        let same : other ≡ name = sym ((bytes_eq-Decides name other).0 e) in
        rw same here
    at_other other false e =
        let both : file_at (without (Some new) name) other ≡ file_at (without (Some old) name) other = ap (λ told. file_at told other) rest in
        rw e at both

-- a name that was there is there after a call that put a part of a piece behind it, or failed
pub there_after : {E : Type 0} (result : Result ℕ E) (old new : Option Files) (name piece : List ℕ) → IsThere old name → IfOk result (λ n. new ≡ with_more old name (take n piece)) → OnErr result (new ≡ old) → IsThere new name
there_after (Ok n) old new name piece there appended kept = rw appended (there-with_more old name (take n piece) there)
there_after (Err e) old new name piece there appended kept = rw kept there

-- what a sink on a name wrote is behind the name's bytes, and nothing else has changed
pub with_more_written : (old new : Option Files) (name its_name more : List ℕ) → IsThere old name → its_name ≡ name → file_at new its_name ≡ grown (file_at old name) more → without new its_name ≡ without old name → new ≡ with_more old name more
with_more_written old new name its_name more there same here rest =
    let here' = rw same at here in
    let rest' = rw same at rest in
    with_more_from old new name more here' there rest'

pub with_file-with_file : (told : Option Files) (name a b : List ℕ) → with_file (with_file told name a) name b ≡ with_file told name b
unfolding with_file
with_file-with_file None name a b = refl
with_file-with_file (Some files) name a b = ap Some (fun_ext (λ other. if_same (bytes_eq name other) (files other)))
  where
    if_same : (is : Bool) (o : Option (List ℕ)) → (if is then Some b else (if is then Some a else o)) ≡ (if is then Some b else o)
    if_same true o = refl
    if_same false o = refl

pub with_more-nothing : (told : Option Files) (name : List ℕ) → with_more told name [] ≡ told
unfolding with_more
with_more-nothing None name = refl
with_more-nothing (Some files) name = ap Some (fun_ext (λ other. if_same (bytes_eq name other) (files other)))
  where
    if_same : (is : Bool) (o : Option (List ℕ)) → (if is then option_map (λ x. x ++ []) o else o) ≡ o
    if_same true None = refl
    if_same true (Some x) = ap Some (append-nil x)
    if_same false o = refl

-- ---- what a change leaves as it was

pub others-with_file : (told : Option Files) (name bytes : List ℕ) → SameOthers told (with_file told name bytes) name
others-with_file told name bytes other ne = file_at-with_file-other told name bytes other ne

pub others-with_more : (told : Option Files) (name more : List ℕ) → SameOthers told (with_more told name more) name
others-with_more told name more other ne = file_at-with_more-other told name more other ne

pub others-then : (a b c : Option Files) (name : List ℕ) → SameOthers a b name → SameOthers b c name → SameOthers a c name
others-then a b c name first second other ne = second other ne ∙ first other ne

-- ---- what a name holds, where that is told

pub there_begun : (old new : Option Files) (name bytes : List ℕ) → new ≡ with_file old name bytes → IsThere new name
there_begun old new name bytes made = rw made (there-with_file old name bytes)

pub there_appended : (old new : Option Files) (name more : List ℕ) → new ≡ with_more old name more → IsThere old name → IsThere new name
there_appended old new name more made there = rw made (there-with_more old name more there)

pub holds_begun : (old new : Option Files) (name bytes : List ℕ) → new ≡ with_file old name bytes → IsThereWith new name (λ held. held ≡ bytes)
unfolding with_file
holds_begun None new name bytes made files is = absurd_told new files (made) is
  where
    absurd_told : (new : Option Files) (files : Files) → new ≡ None → new ≡ Some files → IsSomeAnd (files name) (λ held. held ≡ bytes)
    absurd_told new files none some = cc
holds_begun (Some before) new name bytes made files is =
    let here : files name ≡ Some bytes = at_told new files name is ∙ (rw made (file_at-with_file before name bytes)) in
    rw here refl
