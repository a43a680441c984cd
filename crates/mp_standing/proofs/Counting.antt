-- The numbers after a step.
use Rattle.std.proofs.Common.{◌≡◌, ◌⊎◌, ℕ, ◌+◌, ◌<◌, ◌≤◌, true, refl, sym, ap, ◌∙◌, subst, inl, inr, ⊎_elim, arith}
use Rattle.std.proofs.lemmas.Bool.{false≢true, cases_eq}
use Rattle.mp_names.specs.declared.kinds.Kind.{Kind}
use Rattle.mp_names.specs.declared.kinds.Kind.TheVariants.{Ingest, SendControl, Route, Receive, Extract, Settle, Apply, SendRow, Write, Exchange}
use Rattle.mp_names.specs.Limits.{most_stages}
use Rattle.mp_names.specs.Outlines.{Outline}
use Rattle.mp_machine.specs.Steps.{KindFits}
use Rattle.mp_machine.proofs.Puts.{put_here, put_other}
use Rattle.mp_player_laws.specs.Numbers.{Numbers}
use Rattle.mp_player_laws.specs.Rising.{with_one}
use Rattle.mp_chart.specs.Lists.{goes_along, number_at}
use Rattle.mp_standing.specs.declared.done.Done.{Done}
use Rattle.mp_standing.specs.Numbers.{done_at, IsCounted, AreNumbers}

abbrev Same : Kind → Kind → Type 0
Same a b = (a ≡ b) ⊎ (a ≡ b → ⊥)

by_stage : (kind : ℕ → Kind) (i j : ℕ) → (kind i ≡ kind j → i ≡ j) → (i ≡ j) ⊎ (i ≡ j → ⊥) → Same (kind i) (kind j)
by_stage kind i j one c = ⊎_elim (λ (e : i ≡ j). inl (ap kind e)) (λ (n : i ≡ j → ⊥). inr (λ e. n (one e))) c

pub same_kind : (a b : Kind) → Same a b
same_kind Ingest Ingest = inl refl
same_kind SendControl SendControl = inl refl
same_kind (Route i) (Route j) = by_stage Route i j (λ e. cc) (cases_eq i j)
same_kind (Receive i) (Receive j) = by_stage Receive i j (λ e. cc) (cases_eq i j)
same_kind (Extract i) (Extract j) = by_stage Extract i j (λ e. cc) (cases_eq i j)
same_kind (Settle i) (Settle j) = by_stage Settle i j (λ e. cc) (cases_eq i j)
same_kind (Apply i) (Apply j) = by_stage Apply i j (λ e. cc) (cases_eq i j)
same_kind SendRow SendRow = inl refl
same_kind Write Write = inl refl
same_kind Exchange Exchange = inl refl
same_kind _ _ = inr (λ e. cc)

pub is_counted : (o : Outline) (kind : Kind) → o.stages ≤ most_stages → KindFits o kind → goes_along kind ≡ true → IsCounted kind
is_counted o Ingest few fits g = tt
is_counted o SendControl few fits g = tt
is_counted o (Extract j) few fits g = let l : j < o.stages = fits in omega arith
is_counted o (Settle j) few fits g = let l : j < o.stages = fits in omega arith
is_counted o (Apply j) few fits g = let l : j < o.stages = fits in omega arith
is_counted o SendRow few fits g = tt
is_counted o Write few fits g = tt
is_counted o (Route j) few fits g = absurd (false≢true g)
is_counted o (Receive v) few fits g = absurd (false≢true g)
is_counted o Exchange few fits g = absurd (false≢true g)

one_here : (kind : Kind) (n : Numbers) → goes_along kind ≡ true → number_at (with_one kind n) kind ≡ number_at n kind + 1
one_here Ingest n g = refl
one_here SendControl n g = refl
one_here (Extract j) n g = put_here j j (n.packets j + 1) n.packets refl
one_here (Settle j) n g = put_here j j (n.times j + 1) n.times refl
one_here (Apply j) n g = put_here j j (n.groups j + 1) n.groups refl
one_here SendRow n g = refl
one_here Write n g = refl
one_here (Route j) n g = absurd (false≢true g)
one_here (Receive v) n g = absurd (false≢true g)
one_here Exchange n g = absurd (false≢true g)

one_other : (kind k : Kind) (n : Numbers) → (k ≡ kind → ⊥) → number_at (with_one kind n) k ≡ number_at n k
one_other Ingest Ingest n d = absurd (d refl)
one_other Ingest _ n d = refl
one_other SendControl SendControl n d = absurd (d refl)
one_other SendControl _ n d = refl
one_other (Extract j) (Extract i) n d = put_other j i (n.packets j + 1) n.packets (λ e. d (ap Extract e))
one_other (Extract j) _ n d = refl
one_other (Settle j) (Settle i) n d = put_other j i (n.times j + 1) n.times (λ e. d (ap Settle e))
one_other (Settle j) _ n d = refl
one_other (Apply j) (Apply i) n d = put_other j i (n.groups j + 1) n.groups (λ e. d (ap Apply e))
one_other (Apply j) _ n d = refl
one_other SendRow SendRow n d = absurd (d refl)
one_other SendRow _ n d = refl
one_other Write Write n d = absurd (d refl)
one_other Write _ n d = refl
one_other (Route j) k n d = refl
one_other (Receive v) k n d = refl
one_other Exchange k n d = refl

-- the numbers are still those, where one has risen in both
pub numbers_more :
    (o : Outline) (old new : Done) (n : Numbers) (kind : Kind)
    → AreNumbers o old n
    → goes_along kind ≡ true
    → done_at new kind ≡ done_at old kind + 1
    → ((k : Kind) → (k ≡ kind → ⊥) → done_at new k ≡ done_at old k)
    → AreNumbers o new (with_one kind n)
numbers_more o old new n kind are g more others k fits =
    ⊎_elim
    (λ (e : k ≡ kind). subst (λ (i : Kind). KindFits o i → done_at new i ≡ number_at (with_one kind n) i) (sym e) (λ f. more ∙ ap (λ (m : ℕ). m + 1) (are kind f) ∙ sym (one_here kind n g)) fits)
    (λ (d : k ≡ kind → ⊥). others k d ∙ are k fits ∙ sym (one_other kind k n d))
    (same_kind k kind)
